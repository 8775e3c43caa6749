-- What a keeper holds of earlier jobs. That a job begins without an image, unless it is resumed from one, is Flink's; that a run is
-- refused where there is one is this project's own choice.
use Rattle.std.specs.Prelude.{◌≡◌, ⊤, List, [], Option, Some, IfSome}
use Rattle.outside.specs.Keepers.{KeptImage, last_image}
use Rattle.command_parts.specs.declared.fault.Fault.{Fault}
use Rattle.command_parts.specs.declared.fault.Fault.TheVariants.{Keeper, HoldsImage, Memory}

-- There is a last image and it has P, where the images are told.
abbrev pub HoldsLast : Option (List KeptImage) → (KeptImage → Type 0) → Type 0
HoldsLast held P = IfSome held (λ images. (kept : KeptImage) × (last_image images ≡ Some kept) × P kept)

-- There is none, where the images are told.
abbrev pub HoldsNone : Option (List KeptImage) → Type 0
HoldsNone held = IfSome held (λ images. images ≡ [])

-- The images are told, and this is the last one.
abbrev pub TellsLast : Option (List KeptImage) → KeptImage → Type 0
TellsLast held kept = (images : List KeptImage) × (held ≡ Some images) × (last_image images ≡ Some kept)

-- The keeper doesn't give its last image for this fault: it failed, or memory is lacking.
abbrev pub IsKeeperFault : Fault → Type 0
IsKeeperFault Keeper = ⊤
IsKeeperFault Memory = ⊤
IsKeeperFault fault = ⊥

-- A run that begins without an image has this fault of a keeper that holds these images.
abbrev pub IsHeldFault : Option (List KeptImage) → Fault → Type 0
IsHeldFault held (HoldsImage number) = HoldsLast held (λ kept. kept.number ≡ number)
IsHeldFault held fault = IsKeeperFault fault
