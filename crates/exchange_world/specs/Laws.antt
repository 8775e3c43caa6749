-- That a connection is sound after any events, and what follows. Each is proved as a clause of a function
-- of `laws`.
use Rattle.std.specs.Prelude.{◌≡◌, ℕ, ◌≤◌, List, ◌∷◌, Some, slice_get}
use Rattle.flow_defs.specs.declared.task.ChannelId.{ChannelId}
use Rattle.flow_defs.specs.declared.parcel.Parcel.{Parcel}
use Rattle.credit_reader.specs.declared.reader.Reader.{Reader}
use Rattle.credit_reader.specs.Readers.{Sent}
use Rattle.credit_reader.specs.Senders.{MayHappen}
use Rattle.credit_reader.specs.Answers.{due_first}
use Rattle.script_text.specs.declared.event.Event.{Event}
use Rattle.script_text.specs.Scripts.{IsEvent}
use Rattle.exchange_world.specs.Lanes.{channel_id, backlog_in, head_in}
use Rattle.exchange_world.specs.Worlds.{World, opened, lane_of}
use Rattle.exchange_world.specs.Steps.{step, number_of, sent_kind}
use Rattle.exchange_world.specs.Theorems.{CanOpen, FramesAreTaken, LendsWithin}
use Rattle.exchange_world.specs.Sound.{IsSound}

abbrev pub OpenedIsSound : Type 0
OpenedIsSound = (m size total : ℕ) → CanOpen m size total → IsSound m (opened m size total)

abbrev pub StepsKeepSound : Type 0
StepsKeepSound = (m : ℕ) (w : World) (e : Event) → IsSound m w → IsEvent m e → IsSound m (step w e).0

abbrev pub SoundTakesFrames : Type 0
SoundTakesFrames = (m : ℕ) (w : World) → IsSound m w → FramesAreTaken w

abbrev pub SoundLendsWithin : Type 0
SoundLendsWithin = (m : ℕ) (w : World) → IsSound m w → LendsWithin m w

-- The channel whose turn it is has an item, and the credit that it costs.
pub record HasTurn (m : ℕ) (w : World) (id : ChannelId) : Type 0 where
  pub low : 1 ≤ number_of id
  pub high : number_of id ≤ m
  pub id_is : channel_id (number_of id) ≡ id
  pub first : Parcel
  pub rest : List Parcel
  pub items : (lane_of w (number_of id)).items ≡ first ∷ rest
  pub may : MayHappen id (Sent (sent_kind first) (head_in rest) (backlog_in rest)) w.sender

abbrev pub SoundHasTurns : Type 0
SoundHasTurns = (m : ℕ) (w : World) (id : ChannelId) → IsSound m w → slice_get w.sender.queue 0 ≡ Some id → HasTurn m w id

-- A reader of which a backlog is due is that of a channel.
abbrev pub SoundNumbersReaders : Type 0
SoundNumbersReaders = (m : ℕ) (w : World) (r : Reader) → IsSound m w → due_first w.sender ≡ Some r → (1 ≤ number_of r.channel) × (number_of r.channel ≤ m)
