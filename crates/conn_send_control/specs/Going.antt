-- How far a part of the loop has come. Frames are laid down first, and go out together; this is this project's own choice.
use Rattle.std.specs.Prelude.{◌≡◌, ℕ, ◌+◌, ◌⊎◌, List, ◌++◌, false, All, slice_get, Option, Some, Result, Ok, Err}
use Rattle.turn_cell.specs.declared.pass.Pass.{Pass}
use Rattle.flow_defs.specs.declared.task.ChannelId.{ChannelId}
use Rattle.flow_defs.specs.declared.cause.Cause.{Cause}
use Rattle.flow_defs.specs.declared.cause.Cause.TheVariants as causes
use Rattle.net_frames.specs.Frames.{AreFrames, all_spelled}
use Rattle.outside.specs.Faults.{HasRisen}
use Rattle.outside.specs.Links.{Appended}
use Rattle.input_channel.specs.declared.entry.ReceiveEntry.{ReceiveEntry}
use Rattle.input_channel.specs.Legal.{credit_told, resumes}
use Rattle.conn_parts.specs.Shares.{mine_at, seen_at}
use Rattle.conn_parts.specs.Messages.{Message, AreFrom, closing, is_from_receiver, is_request, credit_on, resumptions_on}
use Rattle.conn_parts.specs.Writing.{AppendedFront}
use Rattle.conn_send_control.specs.Announcing.{BeginsWithRequests}
use Rattle.conn_send_control.specs.Taking.{HasSeenEnd}

-- A front of the bytes went out, and the others lie there still.
abbrev pub LieStill : Option (List ℕ) → Option (List ℕ) → List ℕ → List ℕ → Type 0
LieStill old new bytes left = (out : List ℕ) × Appended old new out × (bytes ≡ out ++ left)

-- A write failed, and a front of the bytes went out.
abbrev pub AreCut : Option (List ℕ) → Option (List ℕ) → ℕ → ℕ → List ℕ → Type 0
AreCut old new fell rose bytes = AppendedFront old new bytes × HasRisen fell rose

-- One of the two, as the answer says.
abbrev pub WentOut : {T E : Type 0} → Option (List ℕ) → Option (List ℕ) → ℕ → ℕ → List ℕ → List ℕ → Result T E → Type 0
WentOut old new fell rose bytes left (Ok done) = LieStill old new bytes left
WentOut old new fell rose bytes left (Err failed) = AreCut old new fell rose bytes

-- All went out where the loop is done, was stopped or had no memory; a front where a write failed.
abbrev pub GoneOut : Cause → Option (List ℕ) → Option (List ℕ) → ℕ → ℕ → List ℕ → Type 0
GoneOut causes.Done old new fell rose bytes = Appended old new bytes
GoneOut causes.Stopped old new fell rose bytes = Appended old new bytes
GoneOut causes.Memory old new fell rose bytes = Appended old new bytes
GoneOut causes.Link old new fell rose bytes = AreCut old new fell rose bytes
GoneOut other old new fell rose bytes = ⊥

-- The closing frame was written where no write had failed; where its own write fails, the cause becomes that, unless there was no
-- memory.
abbrev pub ClosedAs : Cause → Cause → Option (List ℕ) → Option (List ℕ) → ℕ → ℕ → Type 0
ClosedAs causes.Done causes.Done old new fell rose = Appended old new closing
ClosedAs causes.Done causes.Link old new fell rose = AreCut old new fell rose closing
ClosedAs causes.Stopped causes.Stopped old new fell rose = Appended old new closing
ClosedAs causes.Stopped causes.Link old new fell rose = AreCut old new fell rose closing
ClosedAs causes.Memory causes.Memory old new fell rose = Appended old new closing ⊎ AreCut old new fell rose closing
ClosedAs causes.Link causes.Link old new fell rose = new ≡ old
ClosedAs before after old new fell rose = ⊥

module _ {S F : Type 0} where
  -- These messages tell the credit and the resumptions that were taken, channel by channel.
  pub record Told (channels : List ChannelId) (before after : List (Pass S ReceiveEntry F)) (messages : List Message) : Type 0 where
    pub frames : AreFrames messages
    pub direction : AreFrom is_from_receiver messages
    pub credit : (k : ℕ) (c : ChannelId) → slice_get channels k ≡ Some c →
        credit_told (mine_at k after) ≡ credit_told (mine_at k before) + credit_on c messages
    pub resumptions : (k : ℕ) (c : ChannelId) → slice_get channels k ≡ Some c →
        resumes (mine_at k after) ≡ resumes (mine_at k before) + resumptions_on c messages

  -- Messages were laid down behind what lay there, no request among them, and what had to go out did.
  pub record Announced {T E : Type 0} (channels : List ChannelId) (before after : List (Pass S ReceiveEntry F)) (old new : Option (List ℕ)) (laid left : List ℕ) (fell rose : ℕ) (result : Result T E) : Type 0 where
    pub messages : List Message
    pub told : Told channels before after messages
    pub later : All (λ m. is_request m.0 ≡ false) messages
    pub out : WentOut old new fell rose (laid ++ all_spelled messages) left result

  -- The ends of all channels had come.
  abbrev pub AllEnded : List ChannelId → List (Pass S ReceiveEntry F) → Type 0
  AllEnded channels passes = (k : ℕ) (c : ChannelId) → slice_get channels k ≡ Some c → HasSeenEnd (seen_at k passes)

  -- The rounds ended for this cause.
  pub record EndedFor (channels : List ChannelId) (before after : List (Pass S ReceiveEntry F)) (old new : Option (List ℕ)) (fell rose : ℕ) (cause : Cause) : Type 0 where
    pub messages : List Message
    pub told : Told channels before after messages
    pub later : All (λ m. is_request m.0 ≡ false) messages
    pub out : GoneOut cause old new fell rose (all_spelled messages)
    pub ends : cause ≡ causes.Done → AllEnded channels after

  -- The same with the requests, which come first.
  pub record RanFor (channels : List ChannelId) (before after : List (Pass S ReceiveEntry F)) (old new : Option (List ℕ)) (fell rose : ℕ) (cause : Cause) : Type 0 where
    pub messages : List Message
    pub told : Told channels before after messages
    pub requests : BeginsWithRequests channels messages
    pub out : GoneOut cause old new fell rose (all_spelled messages)
    pub ends : cause ≡ causes.Done → AllEnded channels after
