-- How a connection in memory stands for a world of lists, and what holds of its pools. Its parts are those
-- of Flink's network stack; that both ends and their links lie in one value is this project's own choice.
use Rattle.std.specs.Prelude.{◌≡◌, ℕ, ◌*◌, ◌<◌, Bool, List, length, map}
use Rattle.std.specs.List.{All}
use Rattle.flow_defs.specs.declared.parcel.Parcel.{Parcel}
use Rattle.flow_defs.specs.declared.parcel.Parcel.TheVariants as parcels
use Rattle.segment_pool.specs.declared.pool.Pool.{Pool}
use Rattle.segment_pool.specs.Pools.{IsLimited, total_of, size_of}
use Rattle.subpartition.specs.declared.item.Item.{Item}
use Rattle.subpartition.specs.declared.item.Item.TheVariants as items
use Rattle.subpartition.specs.Queues.{parcel_of, backlog_of, HasLength}
use Rattle.local_pool.specs.Locals.{IsLocalOf, lent_of, need_of, limit_of}
use Rattle.input_channel.specs.declared.arrival.ArrivalKind.{ArrivalKind}
use Rattle.input_channel.specs.declared.arrival.ArrivalKind.TheVariants as kinds
use Rattle.script_text.specs.declared.reply.Reply.{Reply}
use Rattle.exchange_world.specs.Lanes as lanes
use Rattle.exchange_world.specs.Lanes.{ITEMS_MAX}
use Rattle.exchange_world.specs.Worlds as worlds
use Rattle.exchange_world.specs.Worlds.{World, gate_lent, gate_limit, partition_limit}
use Rattle.exchange_world.specs.Steps.{bare}
use Rattle.exchange_world.specs.Sound.{IsSound}
use Rattle.exchange_core.specs.declared.connection.Connection.{Connection}
use Rattle.exchange_core.specs.declared.lane.Lane.{Lane}
use Rattle.exchange_core.specs.declared.frames.DataFrame.{DataFrame}
use Rattle.exchange_core.specs.declared.frames.DataFrame.TheVariants as data_frames
use Rattle.exchange_core.specs.declared.frames.ControlFrame.{ControlFrame}
use Rattle.exchange_core.specs.declared.frames.ControlFrame.TheVariants as control_frames
use Rattle.exchange_core.specs.declared.start_fault.StartFault.{StartFault}
use Rattle.exchange_core.specs.declared.start_fault.StartFault.TheVariants.{TooFew, Memory}

-- What contracts see of an exchange: its world, and whether a step met want of memory.
pub record Exchange : Type 0 where
  pub world : World
  pub broken : Bool

-- ---- the world that a connection stands for

-- A channel as the world has it.
abbrev pub world_lane : Lane → lanes.Lane
world_lane lane = record {
  items = map parcel_of lane.queue.items;
  barriers = lane.barriers;
  finished = lane.finished;
  inbox = lane.inbox;
  rest = lane.reader;
  saves = lane.saves.keys;
}

-- What a frame brings, and the frame as the world has it.
abbrev pub brought : ArrivalKind → List ℕ → Parcel
brought kinds.Buffer content = parcels.Data content
brought (kinds.Barrier k kind) content = parcels.Barrier k kind
brought kinds.End content = parcels.End

abbrev pub world_frame : DataFrame → worlds.DataFrame
world_frame (data_frames.Response c sequence backlog what content) = worlds.Response c sequence (brought what content.items) backlog
world_frame (data_frames.Announcement c n) = worlds.Announcement c n

abbrev pub world_control : ControlFrame → worlds.ControlFrame
world_control (control_frames.AddCredit c n) = worlds.AddCredit c n
world_control (control_frames.Resumption c) = worlds.Resumption c

abbrev pub world_of : Connection → World
world_of c = record {
  size = c.size;
  total = c.total;
  lanes = map world_lane c.lanes.items;
  sender = c.readers;
  frames = map world_frame c.frames.items;
  controls = map world_control c.controls.items;
}

-- ---- its pools

-- A channel of this pool: its partition's pool has lent the segments of the buffers that wait to be sent, and no more.
pub record IsLaneOf (pool : Pool) (limit : ℕ) (lane : Lane) : Type 0 where
  pub size : lane.queue.size ≡ size_of pool
  pub room : lane.queue.room ≡ ITEMS_MAX
  pub barriers : lane.queue.barriers ≡ lane.barriers
  pub finished : lane.queue.finished ≡ lane.finished
  pub segments : All (HasLength (size_of pool)) lane.queue.items
  pub partition : IsLocalOf pool lane.partition
  pub need : need_of lane.partition ≡ 2
  pub limit_is : limit_of lane.partition ≡ limit
  pub lent : lent_of lane.partition ≡ backlog_of lane.queue.items
  pub owed : lane.owed ≡ lane.inbox.owed

-- The connection is whole: its world is sound, its pools are of its pool and have lent what stands in its channels.
pub record IsWhole (c : Connection) : Type 0 where
  pub sound : IsSound (length c.lanes.items) (world_of c)
  pub limited : IsLimited c.pool
  pub size : size_of c.pool ≡ c.size
  pub total : total_of c.pool ≡ c.total
  pub partition : c.partition_limit ≡ partition_limit (world_of c)
  pub lanes : All (IsLaneOf c.pool c.partition_limit) c.lanes.items
  pub gate : IsLocalOf c.pool c.gate
  pub gate_need : need_of c.gate ≡ 2 * length c.lanes.items
  pub gate_limit_is : limit_of c.gate ≡ gate_limit (world_of c)
  pub gate_lent_is : lent_of c.gate ≡ gate_lent (world_of c)

-- The connection has done this to its world, and replied so.
pub record HasActed (before after : Connection) (reply : Reply) (done : World × Reply) : Type 0 where
  pub whole : IsWhole after
  pub world : world_of after ≡ done.0
  pub replied : bare reply ≡ done.1

-- Why a connection could not be opened: there are fewer segments than four for each channel; or for want of memory.
abbrev pub IsStartFault : ℕ → ℕ → StartFault → Type 0
IsStartFault channels total (TooFew need have) = (need ≡ 4 * channels) × (have ≡ total) × (total < 4 * channels)
IsStartFault channels total Memory = Unit {0}
