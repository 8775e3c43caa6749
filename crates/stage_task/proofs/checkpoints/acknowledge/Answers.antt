use Rattle.std.proofs.Common.{refl, ap, ◌∙◌}
use Rattle.flow_defs.specs.Items.{Items}
use Rattle.flow_defs.specs.declared.cause.Cause.TheVariants as causes
use Rattle.flow_defs.specs.declared.image.Snapshot.{Snapshot}
use Rattle.flow_defs.specs.declared.image.TakeRun.{TakeRun}
use Rattle.barriers.specs.Alignments.{is_open}
use Rattle.turn_cell.specs.Passes.{seen}
use Rattle.snapshot_channel.specs.Passes.{opening_of, sent_by}
use Rattle.task_output.specs.Looking.{sent_itself, sent_twice}
use Rattle.task_output.proofs.Acking.{task_twice}
use Rattle.task_output.proofs.Sending as writers
use Rattle.stage_task.specs.Applying.{start_at}
use Rattle.stage_task.specs.declared.checkpoints.StageOutput.{StageOutput}
use Rattle.stage_task.proofs.SameStage.{same_itself, same_after, same_start}
use Rattle.stage_task.proofs.Ends.{memory_not_done, stopped_not_done}
use Rattle.stage_task.proofs.Acknowledging.{number_there, may_send, own_later, resumed_at, unacknowledged, acknowledged, own_acknowledged}
use Rattle.stage_task.proofs.checkpoints.acknowledge.Goals as goal

-- ---- there is no number for it

pub returns-in_default-clause-same : goal.returns-in_default-clause-same
returns-in_default-clause-same g c = same_itself c.args.out.now

pub returns-in_default-clause-ended : goal.returns-in_default-clause-ended
returns-in_default-clause-ended g c =
    let out = c.args.out.now in
    let gate = g.G.Gate.account c.resume_all-takes.new.gate in
    let taking = c.resume_all-takes.new.self in
    let takes = c.resume_all-takes.result.items in
    let at = resumed_at (g.G.Gate.account c.args.gate.now) gate (g.G.Gate.shows c.args.gate.now) (g.G.Gate.shows c.resume_all-takes.new.gate) c.args.taking.now taking out (start_at out) out.output (sent_by out.acks.pass) takes takes c.requires.marked refl (sent_itself out.output) refl refl
    (ap is_open c.resume_all-takes.ensures.same.1 ∙ c.requires.blocked.aligned) c.resume_all-takes.ensures.taken in
    unacknowledged c.what_was_sent_was_begun.ensures.aside out.job.now out.edge out.index out.output.writer.size (start_at out) out.every gate (g.G.Gate.shows c.resume_all-takes.new.gate) taking out.output (sent_by out.acks.pass) (seen out.acks.last_pass) takes causes.Memory at
    memory_not_done (λ groups rest. tt)

-- ---- it was stopped before it knew the last one

pub returns-in-Err-clause-same : goal.returns-in-Err-clause-same
returns-in-Err-clause-same g c =
    same_after c.args.out.now c.args.out.now c.learn_last.new.stop c.learn_last.new.self c.learn_last.ensures.still.same c.learn_last.ensures.own.1 (same_itself c.args.out.now)

pub returns-in-Err-clause-own : goal.returns-in-Err-clause-own
returns-in-Err-clause-own g c =
    own_later c.what_was_seen_stays.ensures.stays c.args.out.now c.learn_last.new.stop c.learn_last.new.self c.learn_last.ensures.own.0 c.learn_last.ensures.own.1 (ap sent_by c.learn_last.ensures.own.2) c.requires.own

pub returns-in-Err-clause-ended : goal.returns-in-Err-clause-ended
returns-in-Err-clause-ended g c =
    let out = c.args.out.now in
    let o = c.learn_last.new.stop in
    let acks = c.learn_last.new.self in
    let start = (opening_of acks.snapshots.now).start in
    let gate = g.G.Gate.account c.resume_all-takes.new.gate in
    let taking = c.resume_all-takes.new.self in
    let takes = c.resume_all-takes.result.items in
    let at = resumed_at (g.G.Gate.account c.args.gate.now) gate (g.G.Gate.shows c.args.gate.now) (g.G.Gate.shows c.resume_all-takes.new.gate) c.args.taking.now taking out start o (sent_by acks.pass) takes takes c.requires.marked (same_start out.acks acks c.learn_last.ensures.own.1) c.learn_last.ensures.still (ap sent_by c.learn_last.ensures.own.2) refl
    (ap is_open c.resume_all-takes.ensures.same.1 ∙ c.requires.blocked.aligned) c.resume_all-takes.ensures.taken in
    unacknowledged c.what_was_sent_was_begun.ensures.aside out.job.now out.edge out.index o.writer.size start out.every gate (g.G.Gate.shows c.resume_all-takes.new.gate) taking o (sent_by acks.pass) (seen acks.last_pass) takes causes.Stopped at
    stopped_not_done (λ groups rest. tt)

-- ---- it sends the snapshot

pub send-requires-clause-may : goal.send-requires-clause-may
send-requires-clause-may g c =
    let out = c.args.out.now in
    let o = c.learn_last.new.stop in
    let acks = c.learn_last.new.self in
    let mid : StageOutput = record { output = o; acks = acks; job = out.job; edge = out.edge; index = out.index; every = out.every } in
    let gate = g.G.Gate.account c.resume_all-takes.new.gate in
    let taking = c.resume_all-takes.new.self in
    let takes = c.resume_all-takes.result.items in
    let at = resumed_at (g.G.Gate.account c.args.gate.now) gate (g.G.Gate.shows c.args.gate.now) (g.G.Gate.shows c.resume_all-takes.new.gate) c.args.taking.now taking out (start_at out) o (sent_by acks.pass) takes takes c.requires.marked refl c.learn_last.ensures.still (ap sent_by c.learn_last.ensures.own.2) refl
    (ap is_open c.resume_all-takes.ensures.same.1 ∙ c.requires.blocked.aligned) c.resume_all-takes.ensures.taken in
    may_send mid c.in-Some.number o.emitted c.snapshot-snapshot.result takes o.writer.size (start_at out) gate (g.G.Gate.shows c.resume_all-takes.new.gate) taking
    (own_later c.what_was_seen_stays.ensures.stays out o acks c.learn_last.ensures.own.0 c.learn_last.ensures.own.1 (ap sent_by c.learn_last.ensures.own.2) c.requires.own) c.snapshot-snapshot.ensures.of
    (ap (λ (l : Items TakeRun). l.items) c.snapshot-snapshot.ensures.takes) (number_there out.acks acks c.in-Some.number c.learn_last.ensures.own.1.base c.learn_last.ensures.own.3 c.in-Some.ensures) at

pub returns-in-Ok-send-clause-same : goal.returns-in-Ok-send-clause-same
returns-in-Ok-send-clause-same g c =
    let out = c.args.out.now in
    same_after out out c.send.new.stop c.send.new.self (writers.same_twice out.output.writer c.learn_last.new.stop.writer c.send.new.stop.writer c.learn_last.ensures.still.same c.send.ensures.still.same)
    (task_twice out.acks c.learn_last.new.self c.send.new.self c.learn_last.ensures.own.1 c.send.ensures.own.1) (same_itself out)

pub returns-in-Ok-send-clause-own : goal.returns-in-Ok-send-clause-own
returns-in-Ok-send-clause-own g c =
    let out = c.args.out.now in
    let o = c.learn_last.new.stop in
    let acks = c.learn_last.new.self in
    let mid : StageOutput = record { output = o; acks = acks; job = out.job; edge = out.edge; index = out.index; every = out.every } in
    own_acknowledged mid c.send.new.stop c.send.new.self c.snapshot-snapshot.result
    (own_later c.what_was_seen_stays.ensures.stays out o acks c.learn_last.ensures.own.0 c.learn_last.ensures.own.1 (ap sent_by c.learn_last.ensures.own.2) c.requires.own)
    c.in-Ok.ensures.waited c.send.ensures.own.0 c.send.ensures.own.1 c.send.ensures.own.2 c.in-Ok-send.ensures.sent

pub returns-in-Ok-send-clause-acknowledged : goal.returns-in-Ok-send-clause-acknowledged
returns-in-Ok-send-clause-acknowledged g c =
    let out = c.args.out.now in
    let o = c.learn_last.new.stop in
    let acks = c.learn_last.new.self in
    let gate = g.G.Gate.account c.resume_all-takes.new.gate in
    let taking = c.resume_all-takes.new.self in
    let takes = c.resume_all-takes.result.items in
    let after : StageOutput = record { output = c.send.new.stop; acks = c.send.new.self; job = out.job; edge = out.edge; index = out.index; every = out.every } in
    let at = resumed_at (g.G.Gate.account c.args.gate.now) gate (g.G.Gate.shows c.args.gate.now) (g.G.Gate.shows c.resume_all-takes.new.gate) c.args.taking.now taking out (start_at after) o (sent_by acks.pass) takes takes c.requires.marked
    (same_start out.acks after.acks (task_twice out.acks acks after.acks c.learn_last.ensures.own.1 c.send.ensures.own.1)) c.learn_last.ensures.still (ap sent_by c.learn_last.ensures.own.2) refl
    (ap is_open c.resume_all-takes.ensures.same.1 ∙ c.requires.blocked.aligned) c.resume_all-takes.ensures.taken in
    acknowledged c.emits_in_parts.ensures.count gate (g.G.Gate.shows c.resume_all-takes.new.gate) taking after o acks c.in-Some.number o.writer.size takes c.snapshot-snapshot.result c.in-Ok.last at c.learn_last.ensures.own.0 c.send.ensures.own.0 c.send.ensures.own.1 c.send.ensures.own.2
    (number_there out.acks acks c.in-Some.number c.learn_last.ensures.own.1.base c.learn_last.ensures.own.3 c.in-Some.ensures) c.send.ensures.still c.snapshot-snapshot.ensures.of
    (ap (λ (l : Items TakeRun). l.items) c.snapshot-snapshot.ensures.takes) c.in-Ok-send.ensures.sent c.in-Ok.ensures.last

-- ---- it was stopped before the snapshot was sent

pub returns-in-Err-send-clause-same : goal.returns-in-Err-send-clause-same
returns-in-Err-send-clause-same g c =
    let out = c.args.out.now in
    same_after out out c.send.new.stop c.send.new.self (writers.same_twice out.output.writer c.learn_last.new.stop.writer c.send.new.stop.writer c.learn_last.ensures.still.same c.send.ensures.still.same)
    (task_twice out.acks c.learn_last.new.self c.send.new.self c.learn_last.ensures.own.1 c.send.ensures.own.1) (same_itself out)

pub returns-in-Err-send-clause-own : goal.returns-in-Err-send-clause-own
returns-in-Err-send-clause-own g c =
    own_later c.what_was_seen_stays.ensures.stays c.args.out.now c.send.new.stop c.send.new.self c.send.ensures.own.0 (task_twice c.args.out.now.acks c.learn_last.new.self c.send.new.self c.learn_last.ensures.own.1 c.send.ensures.own.1)
    (c.in-Err-send.ensures.kept.0 ∙ ap sent_by c.learn_last.ensures.own.2) c.requires.own

pub returns-in-Err-send-clause-ended : goal.returns-in-Err-send-clause-ended
returns-in-Err-send-clause-ended g c =
    let out = c.args.out.now in
    let acks = c.learn_last.new.self in
    let o' = c.send.new.stop in
    let acks' = c.send.new.self in
    let start = (opening_of acks'.snapshots.now).start in
    let gate = g.G.Gate.account c.resume_all-takes.new.gate in
    let taking = c.resume_all-takes.new.self in
    let back = c.in-Err-send.back.takes.items in
    let at = resumed_at (g.G.Gate.account c.args.gate.now) gate (g.G.Gate.shows c.args.gate.now) (g.G.Gate.shows c.resume_all-takes.new.gate) c.args.taking.now taking out start o' (sent_by acks'.pass) c.resume_all-takes.result.items back c.requires.marked
    (same_start out.acks acks' (task_twice out.acks acks acks' c.learn_last.ensures.own.1 c.send.ensures.own.1)) (sent_twice out.output c.learn_last.new.stop o' c.learn_last.ensures.still c.send.ensures.still)
    (c.in-Err-send.ensures.kept.0 ∙ ap sent_by c.learn_last.ensures.own.2)
    (ap (λ (x : Snapshot). x.takes.items) c.in-Err-send.ensures.back ∙ ap (λ (l : Items TakeRun). l.items) c.snapshot-snapshot.ensures.takes)
    (ap is_open c.resume_all-takes.ensures.same.1 ∙ c.requires.blocked.aligned) c.resume_all-takes.ensures.taken in
    unacknowledged c.what_was_sent_was_begun.ensures.aside out.job.now out.edge out.index o'.writer.size start out.every gate (g.G.Gate.shows c.resume_all-takes.new.gate) taking o' (sent_by acks'.pass) (seen acks'.last_pass) back causes.Stopped at
    stopped_not_done (λ groups rest. tt)
