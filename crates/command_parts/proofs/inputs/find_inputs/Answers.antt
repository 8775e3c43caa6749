use Rattle.std.proofs.Common.{◌≡◌, ◌+◌, ℕ, List, [], ◌∷◌, ◌++◌, length, Option, arith, ap, sym, subst, ◌∙◌, length-append}
use Rattle.command_parts.specs.Sources.{source_name, AreInputsOf}
use Rattle.command_parts.proofs.SourceLemmas.{name_at, one_input_more}
use Rattle.command_parts.proofs.inputs.find_inputs.Goals as goal

pub loop-name-preserved : goal.loop-name-preserved
loop-name-preserved g c =
    let job = c.args.job.now in
    let i = c.loop-name.name-index in
    let contents = g.F.Files.contents c.args.files.now in
    let had = c.loop-name.inputs.items in
    let inside = ap length c.as_slice-name-items.ensures in
    let name_is : source_name job i ≡ c.file_name.result.now =
    name_at job i c.name-item.result (omega (arith, inside, c.loop-name-test.true)) (rw c.as_slice-name-items.ensures at c.name-item.is) ∙ sym c.as_slice.ensures ∙ sym c.file_name.ensures in
    let contents_are : g.F.Files.contents c.loop-name.files c.file_name.result.now ≡ contents (source_name job i) =
    ap (λ (f : List ℕ → Option (List ℕ)). f c.file_name.result.now) c.loop-name.invariant.same ∙ ap contents (sym name_is) in
    let tells : g.F.Input.Source.left c.in-Ok.input ≡ contents (source_name job (length had)) =
    c.in-Ok.ensures.told ∙ contents_are ∙ ap (λ (n : ℕ). contents (source_name job n)) (sym c.loop-name.invariant.many) in
    let longer : length (had ++ c.in-Ok.input ∷ []) ≡ length had + 1 = length-append had (c.in-Ok.input ∷ []) in
    let many = ap length c.add_input.ensures.items in
    record {
      source = omega (arith, c.loop-name.invariant.source);
      many = omega (arith, c.loop-name.invariant.many, longer, many);
      room = omega (arith, c.loop-name.invariant.room, c.add_input.ensures.room);
      told = subst (AreInputsOf g.F.Input.Source.left g.F.Input.Source.faults job contents) (sym c.add_input.ensures.items)
          (one_input_more g.F.Input.Source.left g.F.Input.Source.faults job contents had c.in-Ok.input c.loop-name.invariant.told tells c.in-Ok.ensures.fresh);
      same = c.find.ensures.same ∙ c.loop-name.invariant.same;
      lent = omega (arith, c.loop-name.invariant.lent, c.in-Ok.ensures.lends, longer, many);
      faults = omega (arith, c.find.ensures.never_falls, c.loop-name.invariant.faults);
    }
