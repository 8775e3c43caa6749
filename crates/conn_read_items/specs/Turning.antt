-- What a turn of the loop that reads items does at a channel. It serves the loop's own functions; no public contract cites it.
use Rattle.std.specs.Prelude.{◌≡◌, ℕ, List, [], ◌∷◌, ◌++◌, Some}
use Rattle.turn_cell.specs.declared.pass.Pass.{Pass}
use Rattle.input_channel.specs.declared.arrival.Arrival.{Arrival}
use Rattle.input_channel.specs.declared.entry.ReceiveEntry.{ReceiveEntry}
use Rattle.input_channel.specs.declared.entry.ReceiveEntry.TheVariants.{Shut}
use Rattle.input_channel.specs.declared.fault.AcceptFault.{AcceptFault}
use Rattle.input_channel.specs.declared.fault.AcceptFault.TheVariants.{WrongSequence, AfterEnd, OverCredit, OverSize, WrongBarrier, Memory}
use Rattle.input_channel.specs.States.{ChannelState, ChannelStandsFor}
use Rattle.input_channel.specs.Answers.{refused}

abbrev pub InputPass : Type 0
InputPass = Pass ChannelState ReceiveEntry ℕ

-- A channel with this history refuses an arrival with this fault.
pub record Refuses (history : List (ℕ × ReceiveEntry)) (a : Arrival) (bytes : List ℕ) (fault : AcceptFault) : Type 0 where
  pub state : ChannelState
  pub stands : ChannelStandsFor state history
  pub refused : refused state a bytes ≡ Some fault

-- It was shut in the turn in which it refused.
pub record RefusedAndShut (entered left : List ReceiveEntry) (after : List (ℕ × ReceiveEntry)) (a : Arrival) (bytes : List ℕ) (fault : AcceptFault) : Type 0 where
  pub entry : left ≡ entered ++ Shut ∷ []
  pub history : List (ℕ × ReceiveEntry)
  pub shut : after ≡ history ++ (1, Shut) ∷ []
  pub refuses : Refuses history a bytes fault

-- What became of an arrival that was refused, where the pass had made these entries, has made these now, and has seen this history. Data
-- over the credit shut the channel.
abbrev pub WasRefusedWith : List ReceiveEntry → List ReceiveEntry → List (ℕ × ReceiveEntry) → Arrival → List ℕ → AcceptFault → Type 0
WasRefusedWith entered left after a bytes (WrongSequence want got) = (left ≡ entered) × Refuses after a bytes (WrongSequence want got)
WasRefusedWith entered left after a bytes AfterEnd = (left ≡ entered) × Refuses after a bytes AfterEnd
WasRefusedWith entered left after a bytes (OverCredit received announced) = RefusedAndShut entered left after a bytes (OverCredit received announced)
WasRefusedWith entered left after a bytes (OverSize got size) = (left ≡ entered) × Refuses after a bytes (OverSize got size)
WasRefusedWith entered left after a bytes (WrongBarrier want got) = (left ≡ entered) × Refuses after a bytes (WrongBarrier want got)
WasRefusedWith entered left after a bytes Memory = left ≡ entered
