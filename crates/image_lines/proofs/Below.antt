-- Texts that are added one after another.
use Rattle.std.proofs.Common.{◌≡◌, ℕ, suc, ◌+◌, List, [], ◌++◌, refl, sym, ap, ◌∙◌, append_assoc, append-nil, arith}
use Rattle.plain_machine.specs.Worth.{concat_below}

-- One more text behind those below n.
pub one_more : {X : Type 0} (old before now : List X) (n : ℕ) (f : ℕ → List X) → before ≡ old ++ concat_below n f → now ≡ before ++ f n → now ≡ old ++ concat_below (n + 1) f
one_more old before now n f was more =
    let next : suc n ≡ n + 1 = omega arith in
    more ∙ ap (λ l. l ++ f n) was ∙ append_assoc old (concat_below n f) (f n) ∙ ap (λ m. old ++ concat_below m f) next

-- All texts are added.
pub all_below : {X : Type 0} (old now : List X) (n most : ℕ) (f : ℕ → List X) → now ≡ old ++ concat_below n f → n ≡ most → now ≡ old ++ concat_below most f
all_below old now n most f was same = was ∙ ap (λ m. old ++ concat_below m f) same
