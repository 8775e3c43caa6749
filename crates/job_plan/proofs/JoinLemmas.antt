-- Rows that are lent, one after another.
use Rattle.std.proofs.Common.{◌≡◌, ℕ, ◌+◌, ◌<◌, List, [], ◌∷◌, ◌++◌, length, take, get_or, refl, sym, ap, ◌∙◌}
use Rattle.std.specs.List.Sorted.{IsPermutation}
use Rattle.std.proofs.lemmas.List.{map-append, take_more}
use Rattle.std.proofs.lemmas.List.Sorted.{IsPermutation-map}
use denote.Ref.{Bor}
use Rattle.flow_defs.specs.declared.job.AggKind.{AggKind}
use Rattle.flow_defs.specs.declared.table.Row.{Row}
use Rattle.flow_defs.specs.Rows.{row_pair, row_pairs}
use Rattle.flow_defs.specs.Tables.{Values, add_value, add_values}
use Rattle.job_plan.specs.Joins.{lent_pair, lent_pairs}

add_values-append : (agg : AggKind) (t : Values) (xs ys : List (List ℕ × ℕ)) → add_values agg t (xs ++ ys) ≡ add_values agg (add_values agg t xs) ys
add_values-append agg t [] ys = refl
add_values-append agg t (x ∷ xs) ys = add_values-append agg (add_value agg t x) xs ys

-- One more row is lent.
pub one_lent : (rows : List (Bor Row)) (row : Bor Row) → lent_pairs (rows ++ row ∷ []) ≡ lent_pairs rows ++ row_pair row.now ∷ []
one_lent rows row = map-append lent_pair rows (row ∷ [])

pub one_row : (rows : List Row) (i : ℕ) (row : Row) → i < length rows → row ≡ get_or rows i row → row_pairs (take (i + 1) rows) ≡ row_pairs (take i rows) ++ row_pair row ∷ []
one_row rows i row low is =
    ap row_pairs (take_more rows i row low)
    ∙ map-append row_pair (take i rows) (get_or rows i row ∷ [])
    ∙ ap (λ (r : Row). row_pairs (take i rows) ++ row_pair r ∷ []) (sym is)

-- One more row is folded.
pub one_folded : (agg : AggKind) (t : Values) (rows : List (Bor Row)) (i : ℕ) (row : Bor Row) → i < length rows → row ≡ get_or rows i row →
    add_values agg t (lent_pairs (take (i + 1) rows)) ≡ add_value agg (add_values agg t (lent_pairs (take i rows))) (row_pair row.now)
one_folded agg t rows i row low is =
    ap (λ (l : List (Bor Row)). add_values agg t (lent_pairs l)) (take_more rows i row low)
    ∙ ap (λ (l : List (List ℕ × ℕ)). add_values agg t l) (map-append lent_pair (take i rows) (get_or rows i row ∷ []))
    ∙ add_values-append agg t (lent_pairs (take i rows)) (lent_pair (get_or rows i row) ∷ [])
    ∙ ap (λ (r : Bor Row). add_value agg (add_values agg t (lent_pairs (take i rows))) (lent_pair r)) (sym is)

pub pairs_shuffled : (rows others : List (Bor Row)) → IsPermutation rows others → IsPermutation (lent_pairs rows) (lent_pairs others)
pairs_shuffled rows others same = IsPermutation-map lent_pair rows others same
