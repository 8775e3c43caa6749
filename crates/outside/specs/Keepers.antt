-- What a keeper of images tells. That the image of each checkpoint goes to a store which outlives the job is Flink's; that the store
-- tells its images to contracts is this project's own.
use Rattle.std.specs.Prelude.{◌≡◌, ℕ, ◌<◌, List, [], ◌∷◌, ◌++◌, Option, Some, None, IfSome}
use Rattle.std.specs.Option.{option_map}
use Rattle.std.specs.List.{last_or}
use Rattle.outside.specs.declared.keeper.Kept.{Kept}

-- An image that is kept: its number and its bytes.
pub record KeptImage : Type 0 where
  pub number : ℕ
  pub bytes : List ℕ

-- An image as a keeper gives it.
abbrev pub image_of : Kept → KeptImage
image_of kept = record { number = kept.number; bytes = kept.bytes.items }

-- The last of these images, where there is one.
abbrev pub last_image : List KeptImage → Option KeptImage
last_image images = last_or None images

-- This is the last of these images, and there is none where they are none.
abbrev pub IsLastOf : List KeptImage → Option Kept → Type 0
IsLastOf images None = images ≡ []
IsLastOf images (Some kept) = last_image images ≡ Some (image_of kept)

-- The number is above that of the last image, where that is told and there is one.
abbrev pub IsAboveLast : Option (List KeptImage) → ℕ → Type 0
IsAboveLast told number = IfSome told (λ images. IfSome (last_image images) (λ image. image.number < number))

-- The number is above that of the image that was given, if one was.
abbrev pub IsAbove : Option Kept → ℕ → Type 0
IsAbove last number = IfSome last (λ kept. kept.number < number)

-- The images with one more at their end, where they are told.
abbrev pub with_image : Option (List KeptImage) → ℕ → List ℕ → Option (List KeptImage)
with_image told number bytes = option_map (λ images. images ++ record { number = number; bytes = bytes } ∷ []) told
