-- Histories that begin with others.
use Rattle.std.proofs.Common.{◌≡◌, ℕ, List, [], ◌∷◌, ◌++◌, refl, sym, ap, ◌∙◌, append_assoc, append-nil}
use Rattle.std.proofs.lemmas.List.{append_cancel_left}
use Rattle.turn_cell.specs.History.{StartsWith, by}
use Rattle.turn_cell.proofs.Lists.{by-append}

none_first : {A : Type 0} (xs ys : List A) → xs ++ ys ≡ [] → xs ≡ []
none_first [] ys e = refl
none_first (x ∷ xs) ys e = absurd (cc)

-- A history between two with the same entries of a pass has them too.
pub by_between : {E : Type 0} (n : ℕ) (first mid last : List (ℕ × E)) → StartsWith mid first → StartsWith last mid → by n last ≡ by n first → by n mid ≡ by n first
by_between n first mid last s t same =
    let m : by n mid ≡ by n first ++ by n s.0 = ap (by n) s.1 ∙ by-append n first s.0 in
    let l : by n last ≡ (by n first ++ by n s.0) ++ by n t.0 = ap (by n) t.1 ∙ by-append n mid t.0 ∙ ap (λ x. x ++ by n t.0) m in
    let none : by n s.0 ++ by n t.0 ≡ [] =
    append_cancel_left (by n first) (by n s.0 ++ by n t.0) [] (sym (append_assoc (by n first) (by n s.0) (by n t.0)) ∙ sym l ∙ same ∙ sym (append-nil (by n first))) in
    m ∙ ap (λ x. by n first ++ x) (none_first (by n s.0) (by n t.0) none) ∙ append-nil (by n first)
