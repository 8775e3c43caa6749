-- Values of keys may be added to a table in any order.
use Rattle.std.proofs.Common.{◌≡◌, ℕ, zero, suc, ◌<◌, List, [], ◌∷◌, length, get_or, set, refl, sym, ap, ◌∙◌, arith}
use Rattle.std.specs.FinMap.{get}
use Rattle.std.specs.List.Sorted.{IsPermutation}
use Rattle.std.proofs.lemmas.List.Edits.{swap_is}
use Rattle.std.proofs.lemmas.List.Sorted.{IsPermutation-keeps}
use Rattle.flow_defs.specs.declared.job.AggKind.{AggKind}
use Rattle.flow_defs.specs.Tables.{Values, add_values}
use Rattle.std.specs.Prelude.{Option}
use Rattle.plain_machine.specs.Theorems.{AddedInAnyOrder}
use Rattle.plain_machine.proofs.KeySums.{plus, plus_monoid, share, total_at, get-add_values}
use Rattle.plain_machine.proofs.WorthLemmas.{same_values}

module _ (agg : AggKind) (q : List ℕ) where
  -- the first two of three change places
  turned : (a b c : Option ℕ) → plus agg a (plus agg b c) ≡ plus agg b (plus agg a c)
  turned a b c =
      sym ((plus_monoid agg).assoc a b c)
      ∙ ap (λ x. plus agg x c) ((plus_monoid agg).comm a b)
      ∙ (plus_monoid agg).assoc b a c

  -- one row in the place of another
  put_there : (rows : List (List ℕ × ℕ)) (j : ℕ) (row d : List ℕ × ℕ) → j < length rows →
      plus agg (share agg q (get_or rows j d)) (total_at agg q (set rows j row)) ≡ plus agg (share agg q row) (total_at agg q rows)
  put_there [] j row d low = absurd (omega arith)
  put_there (first ∷ rows) zero row d low = turned (share agg q first) (share agg q row) (total_at agg q rows)
  put_there (first ∷ rows) (suc j) row d low =
      turned (share agg q (get_or rows j d)) (share agg q first) (total_at agg q (set rows j row))
      ∙ ap (plus agg (share agg q first)) (put_there rows j row d (omega arith))
      ∙ turned (share agg q first) (share agg q row) (total_at agg q rows)

  -- two rows in each other's place
  exchanged : (rows : List (List ℕ × ℕ)) (i j : ℕ) (d : List ℕ × ℕ) → i < length rows → j < length rows →
      total_at agg q (set (set rows i (get_or rows j d)) j (get_or rows i d)) ≡ total_at agg q rows
  exchanged [] i j d low high = absurd (omega arith)
  exchanged (first ∷ rows) zero zero d low high = refl
  exchanged (first ∷ rows) zero (suc j) d low high = put_there rows j first d (omega arith)
  exchanged (first ∷ rows) (suc i) zero d low high = put_there rows i first d (omega arith)
  exchanged (first ∷ rows) (suc i) (suc j) d low high = ap (plus agg (share agg q first)) (exchanged rows i j d (omega arith) (omega arith))

  hd : (rows : List (List ℕ × ℕ)) → 0 < length rows → List ℕ × ℕ
  hd [] some = absurd (omega arith)
  hd (row ∷ rows) some = row

  total_kept : (rows others : List (List ℕ × ℕ)) → IsPermutation rows others → total_at agg q others ≡ total_at agg q rows
  total_kept rows others = IsPermutation-keeps rows (λ l. total_at agg q l ≡ total_at agg q rows) refl (λ l i j p r h.
      let d = hd l (omega arith) in
      ap (total_at agg q) (sym (swap_is l i j d p r)) ∙ exchanged l i j d p r ∙ h) others

pub added_in_any_order : AddedInAnyOrder
added_in_any_order agg table rows others same =
    same_values _ _ (λ q.
    get-add_values agg table others q
    ∙ ap (plus agg (get table q)) (total_kept agg q rows others same)
    ∙ sym (get-add_values agg table rows q))
