use Rattle.std.proofs.Common.{◌≡◌, ℕ, ◌<◌, List, ◌∷◌, [], ◌++◌, append_assoc, slice_index_or, Some, length, sym, ap, ◌∙◌, arith}
use Rattle.std.specs.Prelude.{slice_get}
use Rattle.std.proofs.lemmas.List.{length-set}
use Rattle.flow_defs.specs.Items.{Items}
use Rattle.conn_parts.proofs.Lists.{get_set_else}
use Rattle.job_run.specs.Runs.{input_in}
use Rattle.job_run.proofs.ListLaws.{given_more, given_none, read_there}
use Rattle.job_run.proofs.inputs.take_inputs.Goals.{in-Some+in-Ok, in_default}
use Rattle.job_run.proofs.inputs.take_inputs.Goals as goal

pub loop-i-preserved : goal.loop-i-preserved
loop-i-preserved g c =
    let i : ℕ = c.loop-i.i in
    let row = c.args.row.now in
    let x = slice_index_or c.loop-i.row i c.index-row-i.result in
    let many : length c.loop-i.row ≡ length c.args.row.now = c.loop-i.invariant.many in
    let room = c.loop-i.invariant.room in
    let low : i < length c.args.row.now = omega arith in
    let there = read_there c.loop-i.row i c.index-row-i.result (omega (arith, low, many)) c.index-row-i.is in
    let at : slice_get c.args.row.now i ≡ Some x = sym (c.loop-i.invariant.rest i (omega arith)) ∙ there in
    elim c.match-take_input.branch [
      | in-Some+in-Ok w ↦ record {
        many = length-set c.loop-i.row i c.take_input.new.place ∙ many;
        room = (let now = ap (λ (l : Items g.row.S.Denot). l.room) w.inputs-is in let less = w.push.ensures.room in omega (arith, now, less, room));
        rest = λ k le. get_set_else c.loop-i.row i k c.take_input.new.place (λ e. omega (arith, e, le)) ∙ c.loop-i.invariant.rest k (omega (arith, le));
        taken =
            ap (λ (l : Items g.row.S.Denot). l.items) w.inputs-is ∙ w.in-Ok.ensures.ok
            ∙ ap (λ (given : List g.row.S.Denot). given ++ w.in-Some.input ∷ []) c.loop-i.invariant.taken
            ∙ append_assoc c.args.inputs.now.items _ (w.in-Some.input ∷ [])
            ∙ ap (λ (given : List g.row.S.Denot). c.args.inputs.now.items ++ given) (sym (given_more input_in row i x low at w.in-Some.input (sym c.take_input.ensures ∙ w.in-Some.is)));
      }
      | in_default w ↦ record {
        many = length-set c.loop-i.row i c.take_input.new.place ∙ many;
        room = (let now = ap (λ (l : Items g.row.S.Denot). l.room) w.inputs-is in omega (arith, now, room));
        rest = λ k le. get_set_else c.loop-i.row i k c.take_input.new.place (λ e. omega (arith, e, le)) ∙ c.loop-i.invariant.rest k (omega (arith, le));
        taken =
            ap (λ (l : Items g.row.S.Denot). l.items) w.inputs-is ∙ c.loop-i.invariant.taken
            ∙ ap (λ (given : List g.row.S.Denot). c.args.inputs.now.items ++ given) (sym (given_none input_in row i x low at (sym c.take_input.ensures ∙ w.in_default.is)));
      }
    ]
