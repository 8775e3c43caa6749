-- What the turns of a writer of control frames take, and how that is told. Credit and resumptions are those of Flink's credit-based
-- flow control; that each is told in a message of its own is this project's own choice.
use Rattle.std.specs.Prelude.{◌≡◌, ℕ, zero, suc, ◌+◌, Bool, true, false, List, [], ◌∷◌, slice_get, Some, All}
use Rattle.turn_cell.specs.declared.pass.Pass.{Pass}
use Rattle.turn_cell.specs.History.{StartsWith, entries_of}
use Rattle.flow_defs.specs.declared.task.ChannelId.{ChannelId}
use Rattle.flow_defs.specs.Parcels.{has_end}
use Rattle.net_frames.specs.declared.frame.Frame.TheVariants.{AddCredit, ResumeConsumption}
use Rattle.input_channel.specs.declared.entry.ReceiveEntry.{ReceiveEntry}
use Rattle.input_channel.specs.Inboxes.{pushed}
use Rattle.input_channel.specs.Legal.{credit_told, resumes}
use Rattle.conn_parts.specs.Messages.{Message}
use Rattle.conn_parts.specs.Shares.{seen_at}

-- So much credit and so many resumptions were taken.
pub record Took (credit resumed : ℕ) (before after : List ReceiveEntry) : Type 0 where
  pub credit_is : credit_told after ≡ credit_told before + credit
  pub resumed_is : resumes after ≡ resumes before + resumed

-- 1 where a resumption was taken, and else 0.
abbrev pub one_if : Bool → ℕ
one_if true = 1
one_if false = 0

-- The message that tells credit, and none where there is none.
abbrev pub credit_message : ChannelId → ℕ → List Message
credit_message c zero = []
credit_message c (suc n) = (AddCredit c (suc n), []) ∷ []

-- The message that tells a resumption, and none where none was taken.
abbrev pub resumption_message : ChannelId → Bool → List Message
resumption_message c true = (ResumeConsumption c, []) ∷ []
resumption_message c false = []

-- The end of the channel had come when this was seen.
abbrev pub HasSeenEnd : List (ℕ × ReceiveEntry) → Type 0
HasSeenEnd history = has_end (pushed (entries_of history)) ≡ true

module _ {S F : Type 0} where
  -- Each pass has seen what it had seen, or more.
  abbrev pub HaveSeenMore : List (Pass S ReceiveEntry F) → List (Pass S ReceiveEntry F) → Type 0
  HaveSeenMore before after = (k : ℕ) → StartsWith (seen_at k after) (seen_at k before)

  -- Where it is marked so, the end of the channel had come.
  abbrev pub HaveEnded : List Bool → List (Pass S ReceiveEntry F) → Type 0
  HaveEnded ended passes = (k : ℕ) → slice_get ended k ≡ Some true → HasSeenEnd (seen_at k passes)

-- No channel is marked so.
abbrev pub NoneEnded : List Bool → Type 0
NoneEnded ended = All (λ b. b ≡ false) ended
