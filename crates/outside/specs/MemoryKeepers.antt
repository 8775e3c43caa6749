-- A keeper in memory: which of its calls fail, and what the others do.
use Rattle.std.specs.Prelude.{◌≡◌, ℕ, ◌<◌, true, false, List, [], ◌∷◌, ◌++◌, Option, Result, Ok, Err}
use Rattle.outside.specs.declared.keeper.Kept.{Kept}
use Rattle.outside.specs.declared.keeper.KeepFault.{KeepFault}
use Rattle.outside.specs.declared.keeper.KeepFault.TheVariants.{Failed, Memory}
use Rattle.outside.specs.Keepers.{KeptImage, IsLastOf}
use Rattle.outside.specs.Memory.{counted, is_listed}

-- The images, which calls of each kind fail, how many there were of each kind, and how many failed.
pub record KeeperState : Type 0 where
  pub images : List KeptImage
  pub lasts : List ℕ
  pub puts : List ℕ
  pub last_calls : ℕ
  pub put_calls : ℕ
  pub faults : ℕ

-- A keeper of these images that was not called yet.
abbrev pub keeper_of : List KeptImage → List ℕ → List ℕ → KeeperState
keeper_of images lasts puts = record { images = images; lasts = lasts; puts = puts; last_calls = 0; put_calls = 0; faults = 0 }

-- The number is below that of the first of these images, if there is one.
abbrev pub IsBelowFirst : ℕ → List KeptImage → Type 0
IsBelowFirst number [] = Unit {0}
IsBelowFirst number (image ∷ images) = number < image.number

-- The number of each image is below that of the next.
abbrev pub NumbersRise : List KeptImage → Type 0
NumbersRise [] = Unit {0}
NumbersRise (image ∷ images) = IsBelowFirst image.number images × NumbersRise images

-- A look gives the last image, or none where there is none. It fails where its number is listed.
abbrev pub LastStep : KeeperState → Result (Option Kept) KeepFault → KeeperState → Type 0
LastStep old (Ok last) new =
    (is_listed old.lasts (counted old.last_calls) ≡ false)
    × IsLastOf old.images last
    × (new ≡ record old { last_calls = counted old.last_calls })
LastStep old (Err Failed) new =
    (is_listed old.lasts (counted old.last_calls) ≡ true)
    × (new ≡ record old { last_calls = counted old.last_calls; faults = counted old.faults })
LastStep old (Err Memory) new =
    (is_listed old.lasts (counted old.last_calls) ≡ false)
    × (new ≡ record old { last_calls = counted old.last_calls })

-- A put keeps the image as the last one. It fails where its number among the puts is listed.
abbrev pub PutStep : KeeperState → ℕ → List ℕ → Result (Unit {0}) KeepFault → KeeperState → Type 0
PutStep old number bytes (Ok done) new =
    (is_listed old.puts (counted old.put_calls) ≡ false)
    × (new ≡ record old { images = old.images ++ record { number = number; bytes = bytes } ∷ []; put_calls = counted old.put_calls })
PutStep old number bytes (Err Failed) new =
    (is_listed old.puts (counted old.put_calls) ≡ true)
    × (new ≡ record old { put_calls = counted old.put_calls; faults = counted old.faults })
PutStep old number bytes (Err Memory) new =
    (is_listed old.puts (counted old.put_calls) ≡ false)
    × (new ≡ record old { put_calls = counted old.put_calls })
