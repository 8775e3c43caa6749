-- Both ends of one connection, with the frames on the way between them. Credit, backlog, exclusive and
-- floating buffers are those of the credit-based flow control of Flink's network stack. One connection
-- with lists of frames for its links, and the sizes of its pools, are this project's own choice.
use Rattle.std.specs.Prelude.{ℕ, ◌+◌, ◌-◌, ◌*◌, List, [], ◌∷◌, ◌++◌, length, map, replicate, max, slice_index_or, slice_set}
use Rattle.std.specs.List.{sum_by, range_with_len}
use Rattle.flow_defs.specs.declared.parcel.Parcel.{Parcel}
use Rattle.credit_reader.specs.Readers.{Asked, Ready}
use Rattle.credit_reader.specs.Senders.{Sender, sender_of, happened}
use Rattle.local_pool.specs.declared.shares.Want.{Want}
use Rattle.local_pool.specs.Shares.{share_of}
use Rattle.exchange_world.specs.Lanes.{Lane, new_lane, channel_id, backlog_in, head_in, floating_here}

-- A frame with data: a buffer response of a channel, with its number, what it brings, and the backlog behind
-- it; or the announcement of a backlog.
pub data DataFrame : Type 0 where
  Response : ℕ → ℕ → Parcel → ℕ → DataFrame
  Announcement : ℕ → ℕ → DataFrame

-- A control frame: more credit for a channel, or that it may go on behind a barrier.
pub data ControlFrame : Type 0 where
  AddCredit : ℕ → ℕ → ControlFrame
  Resumption : ℕ → ControlFrame

-- The size of segments and how many there are, the channels in the order of their numbers, the readers of
-- the sending end, and the frames on the way, each list in order.
pub record World : Type 0 where
  pub size : ℕ
  pub total : ℕ
  pub lanes : List Lane
  pub sender : Sender
  pub frames : List DataFrame
  pub controls : List ControlFrame

-- The sender once each of these channels was requested with the credit of its two exclusive buffers.
abbrev pub requested : List ℕ → Sender → Sender
requested [] sender = sender
requested (c ∷ cs) sender = requested cs (happened (channel_id c) (Asked 2) sender)

-- The world once a connection of m channels is opened: each exclusive buffer is taken, each channel requested.
abbrev pub opened : ℕ → ℕ → ℕ → World
opened m size total = record {
  size = size;
  total = total;
  lanes = replicate m (new_lane size);
  sender = requested (range_with_len 1 m) (sender_of (map channel_id (range_with_len 1 m)));
  frames = [];
  controls = [];
}

-- The channel with this number, and the world with another one in its place.
abbrev pub lane_of : World → ℕ → Lane
lane_of w c = slice_index_or w.lanes (c - 1) (new_lane w.size)

abbrev pub with_lane : World → ℕ → Lane → World
with_lane w c lane = record w { lanes = slice_set w.lanes (c - 1) lane }

-- ---- pools

-- What the partition pool of a channel is to have, and what the pool of the gate is, behind m channels.
abbrev pub partition_want : Want
partition_want = record { need = 2; most = 10 }

abbrev pub gate_want : ℕ → Want
gate_want m = record { need = 2 * m; most = 2 * m + 8 }

-- The pools of m channels, that of the gate last.
abbrev pub pool_wants : ℕ → List Want
pool_wants m = replicate m partition_want ++ gate_want m ∷ []

-- The limits of the pools.
abbrev pub partition_limit : World → ℕ
partition_limit w = share_of (pool_wants (length w.lanes)) w.total partition_want

abbrev pub gate_limit : World → ℕ
gate_limit w = share_of (pool_wants (length w.lanes)) w.total (gate_want (length w.lanes))

-- The segments that a channel's partition pool has lent: those of its data that wait to be sent.
abbrev pub partition_lent : Lane → ℕ
partition_lent lane = backlog_in lane.items

-- The segments that the gate's pool has lent: two exclusive ones to each channel, and the floating ones.
abbrev pub gate_lent : World → ℕ
gate_lent w = 2 * length w.lanes + sum_by (λ (lane : Lane). floating_here lane.inbox) w.lanes

-- The segments that all pools have kept or lent. Each has its need at any time.
abbrev pub all_held : World → ℕ
all_held w = sum_by (λ (lane : Lane). max 2 (partition_lent lane)) w.lanes + max (2 * length w.lanes) (gate_lent w)

-- The sender is told what stands first on a channel, and its backlog.
abbrev pub tells : World → ℕ → World
tells w c = record w { sender = happened (channel_id c) (Ready (head_in (lane_of w c).items) (backlog_in (lane_of w c).items)) w.sender }
