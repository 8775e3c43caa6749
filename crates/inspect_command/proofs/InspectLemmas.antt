-- What is known of a keeper's last image.
use Rattle.std.proofs.Common.{◌≡◌, ◌↔◌, ℕ, ◌<◌, ◌^◌, List, [], Option, Some, None, Result, Ok, Err, take, drop, sym, ap, subst, ◌∙◌, inl, inr}
use Rattle.std.specs.Int.{w64, from_be_bytes}
use Rattle.std.proofs.lemmas.Nat.{from_be_bytes-to_be_bytes_8}
use Rattle.flow_defs.specs.declared.image.Image.{Image}
use Rattle.plain_machine.specs.Spelling.{spelling, CanSpell}
use Rattle.channel_state.specs.declared.fault.ImageFault.{ImageFault}
use Rattle.channel_state.specs.declared.fault.ImageFault.TheVariants.{NotImage}
use Rattle.channel_state.specs.Contents.{FitsItsText}
use Rattle.channel_state.specs.ImageFaults.{image_fault}
use Rattle.channel_state.proofs.AcceptLemmas.{no_fault}
use Rattle.outside.specs.Keepers.{KeptImage, last_image}
use Rattle.command_parts.specs.Held.{HoldsLast, HoldsNone, TellsLast}
use Rattle.inspect_command.specs.Inspects.{IsImageIn, IsImageKept, IsNoImageAt, Shows, HasNoneToShow}
use Rattle.command_parts.proofs.Options.{none_of_all}

-- no keeper holds both none and a last image
pub none_and_last : (P : KeptImage → Type 0) (held : Option (List KeptImage)) → held ≡ Some [] → HoldsLast held P → ⊥
none_and_last P held empty last = let there = subst (λ (o : Option (List KeptImage)). HoldsLast o P) empty last in let some = there.1 in cc

pub told_last : (held : Option (List KeptImage)) (kept : KeptImage) → TellsLast held kept → HoldsNone held → ⊥
told_last held kept told none =
    let empty : told.0 ≡ [] = subst HoldsNone told.1 none in
    let some : last_image [] ≡ Some kept = ap last_image (sym empty) ∙ told.2 in
    cc

-- there is one last image
pub same_last : (images : List KeptImage) (a b : KeptImage) → last_image images ≡ Some a → last_image images ≡ Some b → a ≡ b
same_last images a b first second = let same : Some a ≡ Some b = sym first ∙ second in cc

-- the number of an image stands in its bytes
number_in : (image : Image) → image.number < 2 ^ 64 → from_be_bytes w64 (take 8 (drop 5 (spelling image))) ≡ image.number
unfolding spelling
number_in image low = from_be_bytes-to_be_bytes_8 image.number low

-- bytes spell images of one number
one_number : (bytes : List ℕ) (a b : Image) → spelling a ≡ bytes → spelling b ≡ bytes → a.number < 2 ^ 64 → b.number < 2 ^ 64 → a.number ≡ b.number
one_number bytes a b first second low high =
    sym (number_in a low) ∙ ap (λ (l : List ℕ). from_be_bytes w64 (take 8 (drop 5 l))) (first ∙ sym second) ∙ number_in b high

-- an image that is read is in its bytes
pub image_read : (kept : KeptImage) (bytes : List ℕ) (r : Result Image ImageFault) (image : Image) → bytes ≡ kept.bytes → ((place : ℕ) → (r ≡ Err (NotImage place)) ↔ (image_fault bytes ≡ Some place)) → r ≡ Ok image
    → CanSpell image → FitsItsText image → spelling image ≡ bytes → image.number < 2 ^ 64 → IsImageIn kept image
image_read kept bytes r image bytes_are no_image is can fits spelled low = record {
  spelled = record { can = can; fits = fits; spelled = spelled ∙ bytes_are };
  clear = subst (λ (l : List ℕ). image_fault l ≡ None) bytes_are (none_of_all (image_fault bytes) (λ place some. let fault = (no_image place).1 some in let e : Ok image ≡ Err (NotImage place) = sym is ∙ fault in cc));
  number = low;
}

-- what can't be shown is not shown
pub none_shown : (images : List KeptImage) → HasNoneToShow images → (P : List ℕ → Type 0) (held : Option (List KeptImage)) → held ≡ Some images → HoldsLast held (Shows P) → ⊥
none_shown images (inl none) P held told last = none_and_last (Shows P) held (told ∙ ap Some none) last
none_shown images (inr other) P held told last =
    let there = subst (λ (o : Option (List KeptImage)). HoldsLast o (Shows P)) told last in
    let same : there.0 ≡ other.0 = same_last images there.0 other.0 there.1 other.2 in
    let shows = subst (Shows P) same there.2 in
    elim other.3 [
      | inl fault ↦ (let clear = shows.2.clear in cc)
      | inr number ↦ number.1.2 (one_number other.0.bytes number.1.0 shows.0 number.1.1.spelled.spelled shows.2.spelled.spelled number.1.1.number shows.2.number ∙ shows.3)
    ]

-- an image that is kept can be shown
pub is_shown : (images : List KeptImage) (kept : KeptImage) (image : Image) → last_image images ≡ Some kept → IsImageKept kept image → (number place : ℕ) (held : Option (List KeptImage)) → held ≡ Some images →
    HoldsLast held (λ k. (k.number ≡ number) × IsNoImageAt place k) → ⊥
is_shown images kept image last is number place held told fault =
    let there = subst (λ (o : Option (List KeptImage)). HoldsLast o (λ k. (k.number ≡ number) × IsNoImageAt place k)) told fault in
    let same : there.0 ≡ kept = same_last images there.0 kept there.1 last in
    let none : IsNoImageAt place kept = subst (IsNoImageAt place) same there.2.1 in
    let clear : image_fault kept.bytes ≡ None = subst (λ bytes. image_fault bytes ≡ None) is.spelled.spelled (no_fault image is.spelled.can is.range is.spelled.fits) in
    elim none [
      | inl at ↦ cc
      | inr other ↦ other.1.2 (one_number kept.bytes other.1.0 image other.1.1.spelled.spelled is.spelled.spelled other.1.1.number is.range.number ∙ is.number)
    ]
