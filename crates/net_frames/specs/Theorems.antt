-- The laws of spellings. Each is proved as a clause of a function of `laws`.
use Rattle.std.specs.Prelude.{◌≡◌, ℕ, List, ◌++◌}
use Rattle.net_frames.specs.declared.frame.Frame.{Frame}
use Rattle.net_frames.specs.Frames.{Begins, AreFrames, all_spelled}

-- No spelling is a beginning of another: bytes begin with one frame, with one content.
abbrev pub BytesBeginWithOne : Type 0
BytesBeginWithOne =
    (bytes : List ℕ) (f g : Frame) (c d rest more : List ℕ) → Begins bytes f c rest → Begins bytes g d more →
    (f ≡ g) × (c ≡ d) × (rest ≡ more)

-- No two lists of frames have one spelling.
abbrev pub ListsAreApart : Type 0
ListsAreApart = (frames others : List (Frame × List ℕ)) → AreFrames frames → AreFrames others → all_spelled frames ≡ all_spelled others → frames ≡ others

-- Where the spelling of frames begins with that of others, the others come first, and the rest of the
-- bytes is the spelling of the rest of the frames.
abbrev pub FrontIsFrames : Type 0
FrontIsFrames =
    (frames front : List (Frame × List ℕ)) (bytes : List ℕ) → AreFrames frames → AreFrames front → all_spelled frames ≡ all_spelled front ++ bytes →
    (rest : List (Frame × List ℕ)) × (frames ≡ front ++ rest) × (bytes ≡ all_spelled rest) × AreFrames rest
