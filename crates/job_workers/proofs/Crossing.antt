-- The tasks of a job may cross to another thread: what they share with others may be shared by threads.
use denote.RattleType.{RattleType}
use denote.Ref.{NamedLft}
use denote.Param.Send.{IsSend, IsSync, sendable}
use denote.Param.SendFields.{declared_send, declared_sync, variants_send}
use Rattle.std.proofs.Crossing.{crosses}
use Rattle.atomic_table.proofs.badge.Badge.TheSendSync as badge
use Rattle.crossbeam_channel.proofs.flavors.array.Key.TheSendSync as key
use Rattle.crossbeam_channel.proofs.flavors.array.Lockers.TheSendSync as lockers
use Rattle.crossbeam_channel.proofs.flavors.array.Rounds.TheSendSync as rounds
use Rattle.crossbeam_channel.proofs.flavors.array.Rows.TheSendSync as rows
use Rattle.crossbeam_channel.proofs.flavors.array.Whole.TheSendSync as whole
use Rattle.crossbeam_channel.proofs.flavors.array.ruled.Receiving.TheSendSync as receiving
use Rattle.crossbeam_channel.proofs.flavors.array.ruled.Sending.TheSendSync as sending
use Rattle.turn_cell.proofs.cell.TurnCell.TheSendSync as cell
use Rattle.turn_cell.proofs.pass.Pass.TheSendSync as pass
use Rattle.flow_defs.proofs.image.Snapshot.TheSendSync as snapshot
use Rattle.job_start.proofs.start.Start.TheSendSync as start
use Rattle.outside.proofs.last_image.LastImage.TheSendSync as last_image
use Rattle.outside.proofs.last_image.Stored.TheSendSync as stored
use Rattle.outside.proofs.stop.StopState.TheSendSync as stop
use Rattle.snapshot_channel.specs.contracts.opened.SnapshotChannel as channel
use Rattle.snapshot_channel.proofs.opened.TaskPass.TheSendSync as task_pass
use Rattle.snapshot_channel.proofs.rule.Order.TheSendSync as order
use Rattle.snapshot_channel.proofs.views.View.TheSendSync as view
use Rattle.record_writer.proofs.partition.Partition.TheSendSync as partition
use Rattle.flow_defs.proofs.list_of.ListOf.TheSendSync as list_of
use Rattle.input_channel.proofs.channel.InputChannel.TheSendSync as input
use Rattle.input_gate.proofs.lane.Lane.TheSendSync as lane
use Rattle.input_gate.proofs.lender.Lender.TheSendSync as lender
use Rattle.outside.proofs.pause.Pause.TheSendSync as pause
use Rattle.task_output.specs.contracts.acks.Acks as acks
use Rattle.task_output.specs.contracts.world.World as world
use Rattle.input_gate.specs.contracts.cell_gate.CellGate as gate
use Rattle.input_gate.specs.contracts.cell_gate.CellGate.TheInside as inside
use Rattle.job_workers.specs.contracts.task.SourceTask as source
use Rattle.job_workers.specs.contracts.task.StageTask as stage
use Rattle.job_workers.specs.contracts.task.AggregateTask as aggregate
use Rattle.job_workers.specs.contracts.task.Task as task

-- ---- the channel of snapshots

ruleset lines = (
  sendable,
  crosses,
  sending.the_field_sync,
  receiving.the_field_sync,
  rows.the_send,
  rows.the_sync,
  key.the_send,
  key.the_sync,
  lockers.the_send,
  lockers.the_sync,
  rounds.the_send,
  rounds.the_sync,
  whole.the_send,
  whole.the_sync,
  badge.the_send,
  snapshot.the_send,
  snapshot.the_sync,
  view.the_send,
  view.the_sync,
  order.the_send,
  order.the_sync,
)

channel_sync : IsSync channel.the_row
channel_sync = declared_sync channel.the_type
    (search lines depth 20, (search lines depth 20, (search (sendable, crosses) depth 20, (search (sendable, crosses) depth 20, (search (sendable, crosses) depth 20, tt)))))

-- ---- the gate, whose snapshot of a pass has no bytes

inside_send : (a p : NamedLft) → IsSend (inside.the_row a p)
inside_send a p = declared_send (inside.the_type a p) (
  search (sendable, crosses, lane.the_send) depth 20,
  (
    search (sendable, crosses, list_of.the_send, pass.the_send, input.the_send) depth 20,
    (
      search sendable depth 20,
      (
        search sendable depth 20,
        (
          search (sendable, lender.the_send) depth 20,
          (
            search (sendable, crosses) depth 20,
            (
              search (sendable, crosses, cell.the_sync, stop.the_send) depth 20,
              (
                search (sendable, crosses, pass.the_send, stop.the_send) depth 20,
                (search (sendable, crosses, pause.the_send) depth 20, tt),
              ),
            ),
          ),
        ),
      ),
    ),
  ),
)

gate_send : (a p : NamedLft) → IsSend (gate.the_row a p)
gate_send a p = search (sendable, inside_send) depth 20

-- ---- the tasks

acks_send : (a : NamedLft) → IsSend (acks.the_row a)
acks_send a = declared_send (acks.the_type a) (
  search (sendable, channel_sync) depth 20,
  (
    search (sendable, task_pass.the_send) depth 20,
    (
      search (sendable, crosses, cell.the_sync, last_image.the_send) depth 20,
      (
        search (sendable, crosses, pass.the_send, last_image.the_send) depth 20,
        (search (sendable, stored.the_send) depth 20, (search sendable depth 20, tt)),
      ),
    ),
  ),
)

world_send : (a : NamedLft) (P : RattleType) → IsSend P → IsSend (world.the_row a P)
world_send a P p = declared_send (world.the_type a P) (
  search (sendable, p) depth 20,
  (acks_send a, (search (sendable, crosses, cell.the_sync, stop.the_send) depth 20, (search (sendable, crosses, pass.the_send, stop.the_send) depth 20, tt))),
)

source_send : (a p : NamedLft) (S : RattleType) → IsSend S → IsSend (source.the_row a p S)
source_send a p S s = declared_send (source.the_type a p S) (
  search (sendable, crosses) depth 20,
  (
    search (sendable, s) depth 20,
    (
      search sendable depth 20,
      (
        search (sendable, start.the_sync) depth 20,
        (search sendable depth 20, (search (sendable, world_send, partition.the_send) depth 20, tt)),
      ),
    ),
  ),
)

stage_send : (a p : NamedLft) → IsSend (stage.the_row a p)
stage_send a p = declared_send (stage.the_type a p) (
  search (sendable, crosses) depth 20,
  (
    search (sendable, gate_send) depth 20,
    (
      search sendable depth 20,
      (
        search sendable depth 20,
        (
          search (sendable, start.the_sync) depth 20,
          (search sendable depth 20, (search (sendable, world_send, partition.the_send) depth 20, tt)),
        ),
      ),
    ),
  ),
)

aggregate_send : (a p : NamedLft) → IsSend (aggregate.the_row a p)
aggregate_send a p = declared_send (aggregate.the_type a p) (
  search (sendable, crosses) depth 20,
  (
    search (sendable, gate_send) depth 20,
    (
      search sendable depth 20,
      (
        search (sendable, start.the_sync) depth 20,
        (search sendable depth 20, (search (sendable, world_send) depth 20, tt)),
      ),
    ),
  ),
)

pub task_send : (a p : NamedLft) (S : RattleType) → IsSend S → IsSend (task.the_row a p S)
task_send a p S s = variants_send (task.enum a p S) ((source_send a p S s, tt), ((stage_send a p, tt), ((aggregate_send a p, tt), tt)))
