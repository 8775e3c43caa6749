-- What keeps an image from being stored. That the pieces are looked at once more before an image is
-- stored is this project's own choice.
use Rattle.std.specs.Prelude.{◌≡◌, ℕ, true, [], Option, Some, None}
use Rattle.flow_defs.specs.declared.job.Job.{Job}
use Rattle.flow_defs.specs.declared.image.Image.{Image}
use Rattle.flow_defs.specs.declared.cause.PeerFault.{PeerFault}
use Rattle.flow_defs.specs.declared.cause.PeerFault.TheVariants.{Left, Barrier}
use Rattle.flow_defs.specs.Jobs.{is_channel}
use Rattle.plain_machine.specs.Images.{saved, AreSpans}

-- What is saved of each channel encodes records.
abbrev pub AreAllRecords : Job → Image → Type 0
AreAllRecords job image = (e a b : ℕ) → is_channel job e a b ≡ true → AreSpans (saved job image e a b)

-- Nothing is saved of any channel.
abbrev pub IsNothingSaved : Job → Image → Type 0
IsNothingSaved job image = (e a b : ℕ) → is_channel job e a b ≡ true → saved job image e a b ≡ []

-- The fault of an image, if it has one: a record that is cut, and then anything that is saved in a last image.
abbrev pub IsFaultOf : Job → Image → Option PeerFault → Type 0
IsFaultOf job image None = AreAllRecords job image × (image.final_one ≡ true → IsNothingSaved job image)
IsFaultOf job image (Some Left) = AreAllRecords job image → ⊥
IsFaultOf job image (Some Barrier) = AreAllRecords job image × (image.final_one ≡ true) × (IsNothingSaved job image → ⊥)
IsFaultOf job image (Some fault) = ⊥
