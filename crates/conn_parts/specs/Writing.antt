-- What a sending loop wrote. The loops and how they end are this project's own choice.
use Rattle.std.specs.Prelude.{◌≡◌, ℕ, ◌≤◌, ◌⊎◌, List, ◌++◌, take, Bool, Option, Result, Ok, Err}
use Rattle.flow_defs.specs.declared.cause.Cause.{Cause}
use Rattle.flow_defs.specs.declared.cause.Cause.TheVariants.{Done, Stopped, Link}
use Rattle.net_frames.specs.declared.frame.Frame.{Frame}
use Rattle.net_frames.specs.Frames.{AreFrames, all_spelled}
use Rattle.outside.specs.Faults.{HasRisen}
use Rattle.outside.specs.Links.{Appended}
use Rattle.conn_parts.specs.Messages.{Message, closing, AreFrom}

-- A front of these bytes was added, where that is told.
abbrev pub AppendedFront : Option (List ℕ) → Option (List ℕ) → List ℕ → Type 0
AppendedFront old new bytes = (n : ℕ) × Appended old new (take n bytes)

-- The bytes were written whole, or a front of them and the count of faults rose.
abbrev pub WrittenWhole : {T E : Type 0} → Option (List ℕ) → Option (List ℕ) → ℕ → ℕ → List ℕ → Result T E → Type 0
WrittenWhole old new fell rose bytes (Ok done) = Appended old new bytes
WrittenWhole old new fell rose bytes (Err failed) = AppendedFront old new bytes × HasRisen fell rose

-- The messages of one direction that a loop wrote, and then the closing frame: all of it, or a front where a write failed.
pub record Wrote (is_from : Frame → Bool) (old new : Option (List ℕ)) (fell rose : ℕ) (messages : List Message) (cause : Cause) : Type 0 where
  pub frames : AreFrames messages
  pub direction : AreFrom is_from messages
  pub bytes : Appended old new (all_spelled messages ++ closing) ⊎ (AppendedFront old new (all_spelled messages ++ closing) × HasRisen fell rose)
  pub done : cause ≡ Done → Appended old new (all_spelled messages ++ closing)
  pub stopped : cause ≡ Stopped → Appended old new (all_spelled messages ++ closing)
  pub link : cause ≡ Link → HasRisen fell rose
  pub never_falls : fell ≤ rose
