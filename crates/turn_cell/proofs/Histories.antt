-- Histories that grow by an entry.
use Rattle.std.proofs.Common.{◌≡◌, ℕ, List, [], ◌∷◌, ◌++◌, refl, sym, ap, subst, ◌∙◌, append_assoc, append-nil, ◌⊎◌, inl, inr}
use Rattle.std.proofs.lemmas.List.{map-append}
use Rattle.flow_defs.proofs.Lists.{head_same, tail_same, no_cons}
use Rattle.turn_cell.specs.History.{entries_of, IsHistory}

module _ {E : Type 0} where
  no_end : (before after : List E) (e : E) → [] ≡ before ++ e ∷ after → ⊥
  no_end [] after e h = no_cons e after (sym h)
  no_end (b ∷ before) after e h = no_cons b (before ++ e ∷ after) (sym h)

  -- an entry of a longer list is the last one, or stands before it
  pub record IsLast (es : List E) (x : E) (before after : List E) (e : E) : Type 0 where
    pub before_is : before ≡ es
    pub entry_is : e ≡ x
    pub after_is : after ≡ []

  pub split_last : (es : List E) (x : E) (before after : List E) (e : E) → es ++ x ∷ [] ≡ before ++ e ∷ after →
      IsLast es x before after e ⊎ ((more : List E) × (es ≡ before ++ e ∷ more))
  split_last [] x [] after e h = inl (record { before_is = refl; entry_is = sym (head_same x e [] after h); after_is = sym (tail_same x e [] after h) })
  split_last [] x (b ∷ before) after e h = absurd (no_end before after e (tail_same x b [] (before ++ e ∷ after) h))
  split_last (y ∷ es) x [] after e h = inr (es, ap (λ z. z ∷ es) (head_same y e (es ++ x ∷ []) after h))
  split_last (y ∷ es) x (b ∷ before) after e h =
      let same : y ≡ b = head_same y b (es ++ x ∷ []) (before ++ e ∷ after) h in
      elim (split_last es x before after e (tail_same y b (es ++ x ∷ []) (before ++ e ∷ after) h)) [
        | inl l ↦ inl (record { before_is = ap (λ z. b ∷ z) l.before_is ∙ ap (λ z. z ∷ es) (sym same); entry_is = l.entry_is; after_is = l.after_is })
        | inr r ↦ inr (r.0, ap (λ z. y ∷ z) r.1 ∙ ap (λ z. z ∷ (before ++ e ∷ r.0)) same)
      ]

  pub entries_of-append : (xs ys : List (ℕ × E)) → entries_of (xs ++ ys) ≡ entries_of xs ++ entries_of ys
  entries_of-append xs ys = map-append (λ e. e.1) xs ys

module _ {E : Type 0} (MayAdd : List E → E → Type 0) where
  pub history_nil : IsHistory MayAdd []
  history_nil before after e h = absurd (no_end before after e h)

  pub history_more : (es : List E) (x : E) → IsHistory MayAdd es → MayAdd es x → IsHistory MayAdd (es ++ x ∷ [])
  history_more es x history may before after e h =
      elim (split_last es x before after e h) [
        | inl l ↦ subst (λ y. MayAdd before y) (sym l.entry_is) (subst (λ bs. MayAdd bs x) (sym l.before_is) may)
        | inr r ↦ history before r.0 e r.1
      ]

  -- what holds at first and stays with each entry holds of every history
  pub history_keeps : (P : List E → Type 0) → P [] → ((es : List E) (x : E) → P es → MayAdd es x → P (es ++ x ∷ [])) → (es : List E) → IsHistory MayAdd es → P es
  history_keeps P base step es history = go [] es history base
    where
      go : (seen rest : List E) → IsHistory MayAdd (seen ++ rest) → P seen → P (seen ++ rest)
      go seen [] h p = subst P (sym (append-nil seen)) p
      go seen (x ∷ rest) h p =
          let same : (seen ++ x ∷ []) ++ rest ≡ seen ++ x ∷ rest = append_assoc seen (x ∷ []) rest in
          subst P same (go (seen ++ x ∷ []) rest (subst (IsHistory MayAdd) (sym same) h) (step seen x p (h seen rest x refl)))
