-- Searching a list of entries for one whose key passes a test.
use Rattle.std.proofs.Common.{◌≡◌, ℕ, ◌<◌, Bool, true, List, length, get_or, map, ap, ◌∙◌}
use Rattle.std.specs.List.{list_any}
use Rattle.std.proofs.lemmas.List.{get_or-map, length-map}
use Rattle.std.proofs.lemmas.List.Folds.{list_any_at}

-- an entry passes
pub found_at : {E K : Type 0} (p : K → Bool) (key : E → K) (xs : List E) (i : ℕ) (d : E)
    → i < length xs → p (key (get_or xs i d)) ≡ true → list_any p (map key xs) ≡ true
found_at p key xs i d h e =
    list_any_at p (map key xs) i (key d) (rw (length-map xs key) h) (ap p (get_or-map key xs i d (key d) h) ∙ e)
