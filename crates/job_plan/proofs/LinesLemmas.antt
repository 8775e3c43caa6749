-- Lines that begin in one piece and end in another.
use Rattle.std.proofs.Common.{◌≡◌, ℕ, ◌<◌, ◌≤◌, List, [], ◌∷◌, ◌++◌, length, arith, refl, sym, ap, subst, ◌∙◌, inl, inr, length-append, append_assoc}
use Rattle.std.proofs.lemmas.List.{append-nil}
use Rattle.flow_defs.specs.declared.TheConstants.{RECORD_MAX}
use Rattle.flow_defs.specs.Lines.{lines, onto_first_line}
use Rattle.job_plan.specs.Limits.{HasLongLine}
use Rattle.job_plan.specs.Begun.{IsBegun}

onto_cons : (line first : List ℕ) (rest : List (List ℕ)) → onto_first_line line (first ∷ rest) ≡ (line ++ first) ∷ rest
onto_cons [] first rest = refl
onto_cons (b ∷ line) first rest = refl

onto_twice : (line bytes : List ℕ) (rest : List (List ℕ)) → onto_first_line line (onto_first_line bytes rest) ≡ onto_first_line (line ++ bytes) rest
onto_twice [] bytes rest = refl
onto_twice (b ∷ line) [] [] = ap (λ l. (b ∷ l) ∷ []) (sym (append-nil line))
onto_twice (b ∷ line) [] (first ∷ rest) = ap (λ l. (b ∷ (l ++ first)) ∷ rest) (sym (append-nil line))
onto_twice (b ∷ line) (c ∷ bytes) [] = refl
onto_twice (b ∷ line) (c ∷ bytes) (first ∷ rest) = ap (λ l. (b ∷ l) ∷ rest) (sym (append_assoc line (c ∷ bytes) first))

-- nothing has begun at the start
pub none_begun : IsBegun []
none_begun more = refl

module _ (line : List ℕ) (begun : IsBegun line) where
  -- the line ends in what follows
  pub ends : (rest first after : List ℕ) → ((more : List ℕ) → lines (rest ++ more) ≡ first ∷ lines (after ++ more)) → (more : List ℕ) → lines (line ++ (rest ++ more)) ≡ (line ++ first) ∷ lines (after ++ more)
  ends rest first after cut more = begun (rest ++ more) ∙ ap (onto_first_line line) (cut more) ∙ onto_cons line first (lines (after ++ more))

  -- the line goes on behind what follows
  pub goes_on : (rest : List ℕ) → IsBegun rest → IsBegun (line ++ rest)
  goes_on rest none more = ap lines (append_assoc line rest more) ∙ begun (rest ++ more) ∙ ap (onto_first_line line) (none more) ∙ onto_twice line rest (lines more)

-- ---- long lines

pub long_later : (before after : List (List ℕ)) → HasLongLine after → HasLongLine (before ++ after)
long_later [] after long = long
long_later (line ∷ before) after long = inr (long_later before after long)

long_onto : (bytes : List ℕ) (rest : List (List ℕ)) → RECORD_MAX < length bytes → HasLongLine (onto_first_line bytes rest)
long_onto [] rest long = absurd (omega arith)
long_onto (b ∷ bytes) [] long = inl long
long_onto (b ∷ bytes) (first ∷ rest) long = inl (omega (arith, length-append (b ∷ bytes) first))

-- a line that is too long as far as it has begun is too long
pub long_begun : (line : List ℕ) → IsBegun line → RECORD_MAX < length line → (more : List ℕ) → HasLongLine (lines (line ++ more))
long_begun line begun long more = subst HasLongLine (sym (begun more)) (long_onto line (lines more) long)

-- the last line is one where it is not empty
pub last_line : (line : List ℕ) → IsBegun line → 0 < length line → lines (line ++ []) ≡ line ∷ []
last_line [] begun some = absurd (omega arith)
last_line (b ∷ line) begun some = begun []

-- no line is too long where none of either part is
pub none_long : (before after : List (List ℕ)) → (HasLongLine before → ⊥) → (HasLongLine after → ⊥) → HasLongLine (before ++ after) → ⊥
none_long [] after short short_after long = short_after long
none_long (line ∷ before) after short short_after long = elim long [ inl here ↦ short (inl here) | inr later ↦ none_long before after (λ l. short (inr l)) short_after later ]

pub one_short : (line : List ℕ) → length line ≤ RECORD_MAX → HasLongLine (line ∷ []) → ⊥
one_short line short long = elim long [ inl here ↦ omega arith | inr none ↦ none ]

-- nor the line that has begun
pub begun_short : (line : List ℕ) → IsBegun line → length line ≤ RECORD_MAX → HasLongLine (lines (line ++ [])) → ⊥
begun_short [] begun short long = long
begun_short (b ∷ line) begun short long = one_short (b ∷ line) short (subst HasLongLine (begun []) long)
