-- What is shown of a keeper's last image, and why none is. The command is this project's own.
use Rattle.std.specs.Prelude.{◌≡◌, ◌≢◌, ◌⊎◌, ⊤, ℕ, ◌<◌, ◌^◌, List, [], Option, Some, None}
use Rattle.flow_defs.specs.declared.image.Image.{Image}
use Rattle.flow_defs.specs.declared.job.Job.{Job}
use Rattle.job_text.specs.JobText.{IsJobText}
use Rattle.job_text.specs.KnownKinds.{every_kind}
use Rattle.job_text.specs.Words.{IsInspect}
use Rattle.channel_state.specs.Building.{IsSpelledBy}
use Rattle.channel_state.specs.Contents.{HasRange}
use Rattle.channel_state.specs.ImageFaults.{image_fault}
use Rattle.image_lines.specs.Shown.{shown}
use Rattle.outside.specs.Keepers.{KeptImage, last_image}
use Rattle.command_parts.specs.declared.fault.Fault.{Fault}
use Rattle.command_parts.specs.declared.fault.Fault.TheVariants.{HoldsNoImage, NotImage, Memory}
use Rattle.command_parts.specs.Held.{HoldsLast, HoldsNone, IsKeeperFault}

-- The bytes that are kept spell this image, so no field of theirs is faulty.
pub record IsImageIn (kept : KeptImage) (image : Image) : Type 0 where
  pub spelled : IsSpelledBy kept.bytes image
  pub clear : image_fault kept.bytes ≡ None
  pub number : image.number < 2 ^ 64

-- An image is kept: its spelling, under its number.
pub record IsImageKept (kept : KeptImage) (image : Image) : Type 0 where
  pub spelled : IsSpelledBy kept.bytes image
  pub range : HasRange image
  pub number : image.number ≡ kept.number

-- They spell an image with the number under which they are kept, and P holds of the lines that are shown of it as one of the job of its
-- text.
abbrev pub Shows : (List ℕ → Type 0) → KeptImage → Type 0
Shows P kept =
    (image : Image) × (job : Job) × IsImageIn kept image × (image.number ≡ kept.number) × IsJobText every_kind image.text.items job
    × P (shown job image)

-- They spell an image with another number.
abbrev pub HasOtherNumber : KeptImage → Type 0
HasOtherNumber kept = (image : Image) × IsImageIn kept image × (image.number ≢ kept.number)

-- The place of an image's number: it stands behind the mark and the version.
abbrev pub number_place : ℕ
number_place = 5

-- They are no image at this place, which is that of their first faulty field, or of their number where it is another one.
abbrev pub IsNoImageAt : ℕ → KeptImage → Type 0
IsNoImageAt place kept = (image_fault kept.bytes ≡ Some place) ⊎ ((place ≡ number_place) × HasOtherNumber kept)

-- The command is `inspect`, and P holds of what is shown of the last image.
abbrev pub Inspects : List (List ℕ) → Option (List KeptImage) → (List ℕ → Type 0) → Type 0
Inspects words held P = IsInspect words × HoldsLast held (Shows P)

-- The last of these images can't be shown: there is none, or its bytes are no image of its number.
abbrev pub HasNoneToShow : List KeptImage → Type 0
HasNoneToShow images = (images ≡ []) ⊎ ((kept : KeptImage) × (place : ℕ) × (last_image images ≡ Some kept) × IsNoImageAt place kept)

-- A kept image has this fault.
abbrev pub IsReadFault : KeptImage → Fault → Type 0
IsReadFault kept (NotImage number place) = (kept.number ≡ number) × IsNoImageAt place kept
IsReadFault kept Memory = ⊤
IsReadFault kept fault = ⊥

-- `inspect` has this fault of a keeper that holds these images.
abbrev pub IsInspectFault : Option (List KeptImage) → Fault → Type 0
IsInspectFault held HoldsNoImage = HoldsNone held
IsInspectFault held (NotImage number place) = HoldsLast held (λ kept. (kept.number ≡ number) × IsNoImageAt place kept)
IsInspectFault held fault = IsKeeperFault fault
