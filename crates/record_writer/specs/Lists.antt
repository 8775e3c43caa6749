-- The channels of a writer, in their order. This is this project's own choice.
use Rattle.std.specs.Prelude.{◌≡◌, ℕ, List, [], ◌++◌, length, map, slice_get, All}
use Rattle.std.specs.Option.{option_map_or}
use Rattle.subpartition.specs.declared.entry.SendEntry.{SendEntry}
use Rattle.subpartition.specs.Sending.{put}
use Rattle.conn_parts.specs.Shares.{mine_at}
use Rattle.flow_defs.specs.declared.job.Job.{Job}
use Rattle.record_writer.specs.declared.supply.Supply.{Supply}
use Rattle.record_writer.specs.declared.channels.Channels.{Channels}
use Rattle.record_writer.specs.Writers.{AreOwnAt, HaveSizeAt, bytes_in, ways_on}
use Rattle.record_writer.specs.Channels.{IsPart, IsSupply}

-- The own entries at channel c, what is in the buffer that is being filled there, and all that was laid down for it.
abbrev pub own_of : Channels → ℕ → List SendEntry
own_of channels c = mine_at c channels.passes.items

abbrev pub held_of : Channels → ℕ → List ℕ
held_of channels c = option_map_or (λ (bytes : List ℕ). bytes) (slice_get (map bytes_in channels.parts.items) c) []

abbrev pub laid_of : Channels → ℕ → List ℕ
laid_of channels c = put (own_of channels c) ++ held_of channels c

-- So many channels, of each the task's pass and a buffer.
pub record AreChannels (size many : ℕ) (channels : Channels) : Type 0 where
  pub own : AreOwnAt channels.subpartitions.now channels.first channels.stride many channels.passes.items
  pub parts_are : length channels.parts.items ≡ many
  pub parts : All (IsPart size) channels.parts.items
  pub sizes : HaveSizeAt channels.subpartitions.now channels.first channels.stride many size

-- They are channels of the same cells.
pub record AreSame (channels channels' : Channels) : Type 0 where
  pub cells : channels'.subpartitions ≡ channels.subpartitions
  pub first : channels'.first ≡ channels.first
  pub stride : channels'.stride ≡ channels.stride

-- Nothing was put or laid down on channel c.
pub record IsSameAt (c : ℕ) (channels channels' : Channels) : Type 0 where
  pub own : own_of channels' c ≡ own_of channels c
  pub held : held_of channels' c ≡ held_of channels c

-- The parts of a writer are whole: the channels are those that a task has on this edge, and the supply lends segments for them.
pub record IsWhole (job : Job) (e : ℕ) (channels : Channels) (supply : Supply) : Type 0 where
  pub supply_is : IsSupply supply
  pub channels_are : AreChannels supply.size (ways_on job e) channels
