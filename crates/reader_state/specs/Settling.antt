-- What the calls of the readers of a connection do and answer. That a refused message changes nothing is this project's own choice.
use Rattle.std.specs.Prelude.{◌≡◌, ℕ, ◌-◌, ◌<◌, ◌≤◌, ◌⊎◌, ◌==◌, nat_lt, Bool, true, false, List, [], ◌∷◌, length, slice_index_or, slice_set, AllPairs, ◌≢◌, if◌then◌else◌, Option, Some, None, Result, Ok, Err}
use Rattle.std.specs.Option.{option_map_or}
use Rattle.flow_defs.specs.declared.task.ChannelId.{ChannelId}
use Rattle.flow_defs.specs.declared.cause.PeerFault.{PeerFault}
use Rattle.flow_defs.specs.declared.cause.PeerFault.TheVariants as peer
use Rattle.flow_defs.specs.Limits.{credit_max}
use Rattle.credit_reader.specs.Readers.{Granted}
use Rattle.credit_reader.specs.Senders.{Sender, reader_of, happened}
use Rattle.reader_state.specs.declared.state.Early.{Early}
use Rattle.reader_state.specs.declared.state.Kept.{Kept}
use Rattle.reader_state.specs.declared.entry.ReaderEntry.{ReaderEntry}
use Rattle.reader_state.specs.Ledgers.{Ledger, ledger_next, fitting, credit_given, MayEnter}
use Rattle.reader_state.specs.Turning.{IsRefused}

-- Readers, and the early part of one channel alone.
abbrev pub alone : Sender → Early → Ledger
alone s e = record { sender = s; early = e ∷ [] }

-- Whether a channel was requested, and how much more credit its reader may have.
abbrev pub asked : ChannelId → Sender → Bool
asked c s = option_map_or (λ r. r.requested) (reader_of c s.readers) false

abbrev pub room_for : ChannelId → Sender → ℕ
room_for c s = credit_max - option_map_or (λ r. r.credit) (reader_of c s.readers) credit_max

-- So much more credit for the reader of a channel.
abbrev pub with_credit : ChannelId → ℕ → Sender → Sender
with_credit c n s = if n == 0 then s else happened c (Granted n) s

-- What fits of the early credit of a channel is given.
abbrev pub fitting_given : ChannelId → Ledger → Ledger
fitting_given c l = credit_given c (fitting c l) l

-- Where there is something to give the channel was requested.
abbrev pub IsAsked : Sender → Early → Type 0
IsAsked s e = (1 ≤ e.credit) ⊎ (1 ≤ e.resumptions) → asked e.channel s ≡ true

-- Nothing changes, since the channel was not requested.
abbrev pub StaysUnasked : ChannelId → Sender → Sender → Type 0
StaysUnasked c old new = (new ≡ old) × (asked c old ≡ false)

-- The early part of a channel stands at this place, and no two are of one channel.
pub record IsEarlyKept (early : List Early) (c : ChannelId) (kept : Kept) : Type 0 where
  pub distinct : AllPairs (λ a b. a.channel ≢ b.channel) early
  pub within : kept.place < length early
  pub stands : slice_index_or early kept.place kept.early ≡ kept.early
  pub channel_is : kept.early.channel ≡ c

-- Another early part at a place.
abbrev pub put_at : ℕ → Early → Ledger → Ledger
put_at place e l = record l { early = slice_set l.early place e }

-- What a message comes to: an entry where it may come, and else a fault, and nothing changes.
abbrev pub Took : ReaderEntry → Ledger → Ledger → Result (Unit {0}) PeerFault → Type 0
Took entry old new (Ok done) = MayEnter old entry × (new ≡ ledger_next old entry)
Took entry old new (Err fault) = (fault ≡ peer.Channel) × IsRefused old entry × (new ≡ old)

-- What is overdue of one channel: credit, and else a resumption.
abbrev pub overdue_of : Early → Option PeerFault
overdue_of e = if e.ended then (if nat_lt 0 e.credit then Some peer.Credit else (if nat_lt 0 e.resumptions then Some peer.Resume else None)) else None

-- What is overdue of the first channel of which something is.
abbrev pub or_else : Option PeerFault → Option PeerFault → Option PeerFault
or_else (Some fault) other = Some fault
or_else None other = other

abbrev pub first_overdue : List Early → Option PeerFault
first_overdue [] = None
first_overdue (e ∷ es) = or_else (overdue_of e) (first_overdue es)

-- What a turn answers, by what is overdue.
abbrev pub answer_of : Option PeerFault → Result (Unit {0}) PeerFault
answer_of None = Ok tt
answer_of (Some fault) = Err fault
