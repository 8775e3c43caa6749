-- The definitions at small inputs, computed.
use Rattle.std.proofs.Common.{◌≡◌, ℕ, List, [], ◌∷◌, length, refl, sym, ◌∙◌, arith}
use Rattle.std.specs.Prelude.{codes}
use Rattle.std.specs.Fmt.{digits}
use Rattle.std.specs.FinMap.{entries, empty, len-entries, len-empty, entries-insert, get-insert, get-empty}
use Rattle.std.proofs.lemmas.Cmp.{nat_list_cmp_total}
use Rattle.flow_defs.specs.Lines.{lines}
use Rattle.flow_defs.specs.Records.{length_bytes, all_encoded}
use Rattle.flow_defs.specs.Aggregates.{key_of, value_of, folded}
use Rattle.flow_defs.specs.declared.job.AggKind.TheVariants.{Count, Sum, Max}
use Rattle.flow_defs.specs.Tables.{key_cmp, table_of, table_text}

lines_three : lines (codes "a\nb\na\n") ≡ codes "a" ∷ codes "b" ∷ codes "a" ∷ []
lines_three = refl

lines_with_rest : lines (codes "b\n\na") ≡ codes "b" ∷ [] ∷ codes "a" ∷ []
lines_with_rest = refl

lines_none : lines [] ≡ []
lines_none = refl

lines_empty : lines (codes "\n") ≡ [] ∷ []
lines_empty = refl

encodings : all_encoded (codes "a" ∷ [] ∷ []) ≡ 0 ∷ 0 ∷ 0 ∷ 1 ∷ 97 ∷ 0 ∷ 0 ∷ 0 ∷ 0 ∷ []
unfolding length_bytes
encodings = refl

none_of_length : {A : Type 0} (xs : List A) → length xs ≡ 0 → xs ≡ []
none_of_length [] is = refl
none_of_length (x ∷ xs) is = absurd (omega arith)

entries-empty : entries (empty {X = ℕ} {R = key_cmp}) ≡ []
entries-empty = none_of_length _ (sym (len-entries empty) ∙ len-empty key_cmp ℕ)

-- a source of three lines, two of them alike
text_of_three : table_text (table_of Count (lines (codes "a\nb\na\n"))) ≡ codes "a\t2\nb\t1\n"
unfolding digits
text_of_three = simp (entries-insert {X = ℕ} nat_list_cmp_total, get-insert {X = ℕ} nat_list_cmp_total, get-empty {X = ℕ} key_cmp, entries-empty)

-- an empty line, and a rest without a newline
text_with_rest : table_text (table_of Count (lines (codes "b\n\na"))) ≡ codes "\t1\na\t1\nb\t1\n"
unfolding digits
text_with_rest = simp (entries-insert {X = ℕ} nat_list_cmp_total, get-insert {X = ℕ} nat_list_cmp_total, get-empty {X = ℕ} key_cmp, entries-empty)

text_of_none : table_text (table_of Count (lines [])) ≡ []
text_of_none = simp entries-empty

-- the last `=` parts a record, and a number is read modulo 2^64
key_of_two : key_of Sum (codes "a=b=7") ≡ codes "a=b"
key_of_two = refl

value_of_two : value_of Sum (codes "a=b=7") ≡ 7
value_of_two = refl

value_of_none : (value_of Max (codes "m") ≡ 0) × (value_of Max (codes "k=") ≡ 0) × (value_of Max (codes "k=x") ≡ 0) × (value_of Max (codes "k=-1") ≡ 0)
value_of_none = (refl, refl, refl, refl)

value_of_large : value_of Sum (codes "k=18446744073709551617") ≡ 1
value_of_large = refl

sum_wraps : folded Sum 18446744073709551615 2 ≡ 1
sum_wraps = refl

max_stays : (folded Max 7 0 ≡ 7) × (folded Max 0 7 ≡ 7)
max_stays = (refl, refl)
