-- What a reading loop read. The loops and how they end are this project's own choice.
use Rattle.std.specs.Prelude.{◌≡◌, ℕ, ◌⊎◌, List, ◌++◌, false, Bool, Option}
use Rattle.net_frames.specs.declared.frame.Frame.{Frame}
use Rattle.net_frames.specs.Frames.{AreFrames, Begins, all_spelled}
use Rattle.net_frames.specs.Faults.{CannotBegin}
use Rattle.outside.specs.Links.{Appended}
use Rattle.conn_parts.specs.Messages.{Message, AreFrom}

-- The bytes that came are messages of one direction, and then come those that are left.
pub record Read (is_from : Frame → Bool) (old new : Option (List ℕ)) (messages : List Message) (left : List ℕ) : Type 0 where
  pub frames : AreFrames messages
  pub direction : AreFrom is_from messages
  pub bytes : Appended old new (all_spelled messages ++ left)

-- The bytes begin with no frame, or with one that this end doesn't read.
abbrev pub BeginsBadly : (Frame → Bool) → List ℕ → Type 0
BeginsBadly reads bytes = CannotBegin bytes ⊎ ((frame : Frame) × (content rest : List ℕ) × Begins bytes frame content rest × (reads frame ≡ false))

-- The bytes begin with this message.
abbrev pub BeginsWith : Message → List ℕ → Type 0
BeginsWith m bytes = (rest : List ℕ) × Begins bytes m.0 m.1 rest
