use Rattle.std.proofs.Common.{◌≡◌, [], ◌∷◌, length, sym, ap, subst, ◌∙◌, refl, arith}
use Rattle.std.specs.Prelude.{slice_get}
use Rattle.std.proofs.lemmas.List.{length_push}
use Rattle.job_cells.proofs.Lists.{in_front, at_last}
use Rattle.job_workers.specs.declared.place.Place.TheVariants.{Todo}
use Rattle.job_workers.specs.declared.task.SourceTask.{SourceTask}
use Rattle.job_workers.specs.declared.task.Task.TheVariants.{Source}
use Rattle.job_deploy.specs.Lending.{IsSourceOver}
use Rattle.job_deploy.proofs.Orders.{in_order, length_turned, none_left, turned_none, turned_push}
use Rattle.job_deploy.proofs.Popping.{none_rest}
use Rattle.job_deploy.proofs.tasks.source_row.Goals as goal

pub sources-init : goal.sources-init
sources-init g c = record {
  lents_many = c.requires.lents;
  lents = λ a x at. at;
  inputs = λ a x at. at;
  few = c.requires.few;
  inputs_room = omega arith;
  row_many = (let none = ap length c.requires.row.0 in omega (arith, none));
  row = turned_none (IsSourceOver c.args.lents.items c.args.inputs.now.items) (length c.args.inputs.now.items) c.args.row.items c.requires.row.0;
  room = c.requires.row.1;
}

pub sources-smaller : goal.sources-smaller
sources-smaller g c = let l = ap length c.in-Some.ensures.items ∙ length_push c.pop.new.self.items c.in-Some.input in omega (arith, l)

pub sources-preserved : goal.sources-preserved
sources-preserved g c =
    let before = c.sources.invariant in
    let rest = c.pop.new.self.items in let input = c.in-Some.input in let lent = c.take_last-every.result in let left = c.take_last-every.new.self.items in
    let inputs = c.args.inputs.now.items in let lents = c.args.lents.items in
    let task : SourceTask g.row.S.Denot = record { alloc = c.args.alloc; input = input; index = length c.as_slice.result.now; start = lent.start; every = lent.every; world = lent.world } in
    let shorter = ap length c.in-Some.ensures.items ∙ length_push rest input in
    let fewer = ap length c.take_last-every.ensures.items ∙ length_push left lent in
    let many = before.lents_many in
    let pair : length left ≡ length rest = omega (arith, shorter, fewer, many) in
    record {
      lents_many = pair;
      lents = λ a x at. before.lents a x (ap (λ l. slice_get l a) c.take_last-every.ensures.items ∙ in_front left (lent ∷ []) a x at);
      inputs = λ a x at. before.inputs a x (ap (λ l. slice_get l a) c.in-Some.ensures.items ∙ in_front rest (input ∷ []) a x at);
      few = (let f = before.few in omega (arith, f, shorter));
      inputs_room = (let r = before.inputs_room in let s = c.in-Some.ensures.room in omega (arith, r, s, shorter));
      row_many = (let p = ap length c.put.ensures.items ∙ length_push c.sources.row.items (Todo (Source task)) in let r = before.row_many in omega (arith, p, r, shorter));
      row = turned_push (IsSourceOver lents inputs) (length inputs) c.sources.row.items c.put.new.list.items (Todo (Source task)) c.put.ensures.items before.row
          (λ k sum.
          let place : length rest ≡ k = (let r = before.row_many in omega (arith, r, sum, shorter)) in
          subst (λ a. IsSourceOver lents inputs a (Todo (Source task))) place (record {
            task = task;
            is = refl;
            index = ap length c.as_slice.ensures;
            input = before.inputs (length rest) input (ap (λ l. slice_get l (length rest)) c.in-Some.ensures.items ∙ at_last rest input (length rest) refl);
            lent = before.lents (length rest) lent (ap (λ l. slice_get l (length rest)) c.take_last-every.ensures.items ∙ at_last left lent (length rest) (sym pair));
          }));
      room = (let r = before.room in let s = c.put.ensures.room in omega (arith, r, s, shorter));
    }

pub returns-clause-row : goal.returns-clause-row
returns-clause-row g c =
    let i = c.sources.invariant in let inputs = c.args.inputs.now.items in let lents = c.args.lents.items in
    let none = none_left c.sources.inputs.items c.in_default.ensures.some in
    let all : length c.sources.row.items ≡ length inputs = (let m = i.row_many in omega (arith, m, none)) in
    record {
      many = length_turned c.sources.row.items c.turned.result.items c.turned.ensures ∙ all;
      each = in_order (IsSourceOver lents inputs) (length inputs) c.sources.row.items c.turned.result.items c.turned.ensures all i.row;
    }

pub returns-clause-taken : goal.returns-clause-taken
returns-clause-taken g c = none_rest c.sources.inputs.items c.pop.new.self.items c.in_default.ensures.items (none_left c.sources.inputs.items c.in_default.ensures.some)

pub returns-clause-room : goal.returns-clause-room
returns-clause-room g c =
    let none = none_left c.sources.inputs.items c.in_default.ensures.some in
    let r = c.in_default.ensures.room in let i = c.sources.invariant.inputs_room in omega (arith, none, r, i)
