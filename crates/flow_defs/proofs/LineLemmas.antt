-- How bytes without a newline stand to the lines of what follows them.
use Rattle.std.proofs.Common.{◌≡◌, ◌≢◌, ℕ, zero, suc, ◌<◌, true, List, [], ◌∷◌, ◌++◌, length, take, drop, refl, ap, ◌∙◌, arith}
use Rattle.std.specs.Prelude.{All, slice_index}
use Rattle.std.proofs.lemmas.List.Elements.{All-cons, All-from_get_or, All-head, All-nil, All-tail}
use Rattle.std.proofs.lemmas.Bool.Decides.{nat_tests}
use Rattle.memchr.specs.Find.{Nowhere, Passes, is_byte}
use Rattle.flow_defs.specs.Lines.{lines, onto_first_line}

-- no byte is 10
abbrev pub HasNoNewline : List ℕ → Type 0
HasNoNewline bytes = All (λ b. b ≢ 10) bytes

-- another byte goes onto the first line
onto : (b : ℕ) (bytes : List ℕ) → b ≢ 10 → lines (b ∷ bytes) ≡ onto_first_line (b ∷ []) (lines bytes)
onto b bytes differs = grind (arith, nat_tests)

-- a byte 10 ends the line before it
pub lines_cut : (line rest : List ℕ) → HasNoNewline line → lines (line ++ 10 ∷ rest) ≡ line ∷ lines rest
lines_cut [] rest none = refl
lines_cut (b ∷ line) rest none =
    onto b (line ++ 10 ∷ rest) (All-head (λ c. c ≢ 10) b line none) ∙ ap (onto_first_line (b ∷ [])) (lines_cut line rest (All-tail (λ c. c ≢ 10) b line none))

onto_twice : (b : ℕ) (line : List ℕ) (all : List (List ℕ)) → onto_first_line (b ∷ []) (onto_first_line line all) ≡ onto_first_line (b ∷ line) all
onto_twice b [] [] = refl
onto_twice b [] (first ∷ all) = refl
onto_twice b (c ∷ line) [] = refl
onto_twice b (c ∷ line) (first ∷ all) = refl

-- with no byte 10 all go onto the first line of what follows
pub lines_onto : (line more : List ℕ) → HasNoNewline line → lines (line ++ more) ≡ onto_first_line line (lines more)
lines_onto [] more none = refl
lines_onto (b ∷ line) more none =
    onto b (line ++ more) (All-head (λ c. c ≢ 10) b line none)
    ∙ ap (onto_first_line (b ∷ [])) (lines_onto line more (All-tail (λ c. c ≢ 10) b line none))
    ∙ onto_twice b line (lines more)

-- a byte that fails the test for 10 is another
differs : (b : ℕ) → ¬ (is_byte 10 b ≡ true) → b ≢ 10
differs b fails = λ same. fails (grind (arith, same, nat_tests))

-- bytes of which none passes the test for 10 have none
pub none_passes : (bytes : List ℕ) → Nowhere (Passes (is_byte 10) bytes) 0 (length bytes) → HasNoNewline bytes
none_passes bytes nowhere = All-from_get_or (λ b. b ≢ 10) bytes 0 (λ i inside. differs (slice_index bytes i) (nowhere i (omega arith) inside))

-- nor have those before the first that passes it
pub none_before : (bytes : List ℕ) (k : ℕ) → k < length bytes → Nowhere (Passes (is_byte 10) bytes) 0 k → HasNoNewline (take k bytes)
none_before [] k inside nowhere = omega (arith, inside)
none_before (b ∷ bytes) zero inside nowhere = All-nil (λ c. c ≢ 10)
none_before (b ∷ bytes) (suc k) inside nowhere =
    All-cons (λ c. c ≢ 10) b (take k bytes)
    (differs b (nowhere 0 (omega arith) (omega arith)))
    (none_before bytes k (omega (arith, inside)) (λ i low high. nowhere (suc i) (omega arith) (omega (arith, high))))

-- the place that passes it parts the bytes
pub parts_at : (bytes : List ℕ) (k : ℕ) → k < length bytes → Passes (is_byte 10) bytes k → bytes ≡ take k bytes ++ 10 ∷ drop (suc k) bytes
parts_at [] k inside passes = grind (arith, inside)
parts_at (b ∷ bytes) zero inside passes =
    let newline : b ≡ 10 = grind (arith, passes, nat_tests) in
    ap (λ c. c ∷ bytes) newline
parts_at (b ∷ bytes) (suc k) inside passes = ap (λ rest. b ∷ rest) (parts_at bytes k (omega (arith, inside)) passes)
