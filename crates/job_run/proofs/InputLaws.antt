-- The inputs that come back from settled places.
use Rattle.std.proofs.Common.{◌≡◌, ℕ, zero, suc, ◌∷◌, ◌<◌, List, [], length, get_or, sym, ap, subst, ◌∙◌, arith}
use Rattle.std.proofs.lemmas.Option.{slice_get_within}
use Rattle.std.specs.Prelude.{slice_get, option_and_then, Option, Some}
use Rattle.std.specs.List.{filter_map, refill}
use Rattle.std.specs.Option.{option_map_or}
use Rattle.flow_defs.specs.Items.{Items}
use Rattle.flow_defs.specs.declared.job.Job.{Job}
use Rattle.flow_defs.specs.Jobs.{tasks}
use Rattle.flow_defs.proofs.Lists.{refilled}
use Rattle.conn_parts.proofs.Lists.{get_is}
use Rattle.job_cells.specs.declared.edge.Edge.{Edge}
use Rattle.job_workers.specs.declared.place.Place.TheVariants.{Vacant}
use Rattle.job_workers.specs.declared.task.TaskLeft.{TaskLeft}
use Rattle.job_ends.specs.Ended.{TaskPlace, LoopPlace, AreEnded, AreSettled, left_at, left_in}
use Rattle.job_outcome.specs.Theorems.{AreLeftIn}
use Rattle.job_run.specs.Runs.{HaveInputs, input_in}
use Rattle.job_run.proofs.ListLaws.{get_there, given_many, given_at, GivesAll}

module _ {S : Type 0} where
  -- What was left at a place of a row stands there.
  left_here : (rows : List (Items (TaskPlace S))) (row : Items (TaskPlace S)) (a : ℕ) (place : TaskPlace S) → slice_get rows 0 ≡ Some row → slice_get row.items a ≡ Some place →
      left_at rows 0 a ≡ left_in place
  left_here rows row a place at here =
      ap (λ (m : Option (Items (TaskPlace S))). left_in (option_map_or (λ (r : Items (TaskPlace S)). option_map_or (λ (p : TaskPlace S). p) (slice_get r.items a) Vacant) m Vacant)) at
      ∙ ap (λ (m : Option (TaskPlace S)). left_in (option_map_or (λ (p : TaskPlace S). p) m Vacant)) here

  left_low : (row : List (TaskPlace S)) (a : ℕ) (end : TaskLeft S) → left_in (option_map_or (λ (p : TaskPlace S). p) (slice_get row a) Vacant) ≡ Some end → a < length row
  left_low [] a end e = absurd (cc)
  left_low (x ∷ xs) zero end e = omega arith
  left_low (x ∷ xs) (suc a) end e = let low = left_low xs a end e in omega (arith, low)

  module _ (job : Job) {old new : List (Items (TaskPlace S))} {before after : Items (TaskPlace S)}
      (settled : AreSettled old new) (was : slice_get old 0 ≡ Some before) (is : slice_get new 0 ≡ Some after)
      (many : length before.items ≡ tasks job 0) (inputs : HaveInputs job old) where
    pub after_many : length after.items ≡ tasks job 0
    after_many = settled.row_many 0 before after was is ∙ many

    -- The input of task a is where it was.
    input_there : (a : ℕ) (end : TaskLeft S) (input : S) (place : TaskPlace S) → left_at old 0 a ≡ Some end → end.input ≡ Some input → slice_get after.items a ≡ Some place →
        input_in place ≡ Some input
    input_there a end input place at has here =
        let rest = settled.each 0 a end at in
        let e : left_in place ≡ Some rest.0 = sym (left_here new after a place is here) ∙ rest.1 in
        ap (λ (m : Option (TaskLeft S)). option_and_then (λ (x : TaskLeft S). x.input) m) e ∙ rest.2.input ∙ has

    all_given : GivesAll input_in after.items
    all_given a place here =
        let low = slice_get_within after.items a place here in let same = after_many in
        let found = inputs a (omega (arith, low, same)) in
        (found.1.0, input_there a found.0 found.1.0 place found.1.1 found.1.2 here)

    pub came_many : length (filter_map input_in after.items) ≡ tasks job 0
    came_many = given_many input_in after.items all_given ∙ after_many

    pub came_left : AreLeftIn old (filter_map input_in after.items)
    came_left a end input at has =
        let low = left_low before.items a end (sym (ap (λ (m : Option (Items (TaskPlace S))). left_in (option_map_or (λ (r : Items (TaskPlace S)). option_map_or (λ (p : TaskPlace S). p) (slice_get r.items a) Vacant) m Vacant)) was) ∙ at) in
        let same = settled.row_many 0 before after was is in
        let place = get_there after.items a (omega (arith, low, same)) in
        given_at input_in after.items all_given a place.0 input place.1 (input_there a end input place.0 at has place.1)

-- The first row of a list that was lent, settled and given back.
module _ {S O I : Type 0} {belong : O → I → Type 0} {sent : O → Option (List ℕ)} {got : I → Option (List ℕ)} {job : Job} {size : ℕ} {edges : List Edge}
    {ran lent back now : List (Items (TaskPlace S))} {loops : List (Items (LoopPlace O I))} {row : Items (TaskPlace S)} {first : List (TaskPlace S)}
    (ended : AreEnded belong sent got job size edges ran loops) (inputs : HaveInputs job ran)
    (lent_is : lent ≡ ran) (settled : AreSettled lent back) (now_is : now ≡ refill (length ran) ran back)
    (row_is : row ≡ get_or now 0 row) (first_is : first ≡ (get_or now 0 row).items) where
  low : 0 < length ran
  low = let many = ended.rows_many in omega (arith, many)

  back_many : length back ≡ length ran
  back_many = settled.many ∙ ap length lent_is

  is_back : now ≡ back
  is_back = now_is ∙ refilled ran back back_many

  at_back : slice_get back 0 ≡ Some (get_or now 0 row)
  at_back =
      let some = low in
      let many = back_many in
      let same = ap length is_back in
      ap (λ (l : List (Items (TaskPlace S))). slice_get l 0) (sym is_back) ∙ get_is now 0 row (omega (arith, some, many, same)) row_is ∙ ap Some row_is

  settled_ran : AreSettled ran back
  settled_ran = subst (λ (l : List (Items (TaskPlace S))). AreSettled l back) lent_is settled

  pub first_many : length first ≡ tasks job 0
  first_many =
      let before = get_there ran 0 low in
      ap length first_is ∙ after_many job settled_ran before.1 at_back (ended.row_many 0 before.0 before.1) inputs

  pub first_came : length (filter_map input_in first) ≡ tasks job 0
  first_came =
      let before = get_there ran 0 low in
      ap (λ (l : List (TaskPlace S)). length (filter_map input_in l)) first_is
      ∙ came_many job settled_ran before.1 at_back (ended.row_many 0 before.0 before.1) inputs

  pub first_left : AreLeftIn ran (filter_map input_in first)
  first_left =
      let before = get_there ran 0 low in
      subst (λ (l : List (TaskPlace S)). AreLeftIn ran (filter_map input_in l)) (sym first_is)
      (came_left job settled_ran before.1 at_back (ended.row_many 0 before.0 before.1) inputs)
