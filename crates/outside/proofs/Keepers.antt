-- What one more image makes of those that are kept.
use Rattle.std.proofs.Common.{◌≡◌, ℕ, ◌-◌, ◌<◌, List, [], ◌∷◌, ◌++◌, Option, Some, length, map, refl, sym, ap, ◌∙◌, subst}
use Rattle.std.specs.Prelude.{slice_get, IfSome}
use Rattle.std.proofs.lemmas.List.{map-append}
use Rattle.outside.specs.declared.keeper.Kept.{Kept}
use Rattle.outside.specs.Keepers.{KeptImage, image_of, last_image}
use Rattle.outside.specs.MemoryKeepers.{NumbersRise}
use Rattle.outside.proofs.Lasts.{last_by_place, last_mapped, last_mapped_at_end}

pub last_kept : (images : List Kept) (kept : Kept) → slice_get images (length images - 1) ≡ Some kept → last_image (map image_of images) ≡ Some (image_of kept)
last_kept images kept is = last_mapped image_of kept images (sym (last_by_place images) ∙ is)

rise_more : (images : List KeptImage) (image : KeptImage) → NumbersRise images → IfSome (last_image images) (λ last. last.number < image.number) → NumbersRise (images ++ image ∷ [])
rise_more [] image rise above = (tt, tt)
rise_more (x ∷ []) image rise above = (above, (tt, tt))
rise_more (x ∷ y ∷ ys) image rise above = (rise.0, rise_more (y ∷ ys) image rise.1 above)

pub rise_put : (images : List Kept) (kept : Kept) → NumbersRise (map image_of images) → IfSome (last_image (map image_of images)) (λ last. last.number < kept.number) → NumbersRise (map image_of (images ++ kept ∷ []))
rise_put images kept rise above = subst NumbersRise (sym (map-append image_of images (kept ∷ []))) (rise_more (map image_of images) (image_of kept) rise above)

pub above_put : (images : List Kept) (kept : Kept) (more : ℕ) → kept.number < more → IfSome (last_image (map image_of (images ++ kept ∷ []))) (λ last. last.number < more)
above_put images kept more below = subst (λ o. IfSome o (λ last. last.number < more)) (sym (last_mapped_at_end image_of _ images kept)) below
