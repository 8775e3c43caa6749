use Rattle.std.proofs.Common.{◌≡◌, [], ◌∷◌, ◌++◌, length, Option, arith, ap, subst, ◌∙◌, inl, inr, length-append}
use Rattle.std.specs.Option.{option_to_list}
use Rattle.command_parts.specs.Sources.{HasFaulty}
use Rattle.command_parts.proofs.SourceLemmas.{faulty_parts, no_faulty, not_some}
use Rattle.command_parts.proofs.inputs.give_back.Goals as goal
use Rattle.outside.proofs.Faults.{risen_before, risen_after}

pub inputs-preserved : goal.inputs-preserved
inputs-preserved g c =
    let before = g.F.Files.faults c.args.files.now in
    let now = g.F.Files.faults c.inputs.files in
    let after = g.F.Files.faults c.back.new.self in
    let rest = c.pop.new.self.items in
    let had_is : c.inputs.left.items ≡ rest ++ c.in-Some.input ∷ [] = subst (λ (o : Option _). c.inputs.left.items ≡ rest ++ option_to_list o) c.in-Some.is c.pop.ensures.items in
    let longer = ap length had_is ∙ length-append rest (c.in-Some.input ∷ []) in
    record {
      few = omega (arith, c.inputs.invariant.few, longer);
      lent = omega (arith, c.inputs.invariant.lent, c.inputs.invariant.few, c.back.ensures.returns, longer);
      faults = omega (arith, c.inputs.invariant.faults, c.back.ensures.never_falls);
      rises = λ faulty. elim (c.inputs.invariant.rises faulty) [
        | inl risen ↦ inl (risen_after before now after risen c.back.ensures.never_falls)
        | inr left ↦ elim (faulty_parts g.F.Input.Source.faults rest c.in-Some.input (subst (HasFaulty g.F.Input.Source.faults) had_is left)) [
          | inl still ↦ inr still
          | inr here ↦ inl (risen_before before now after c.inputs.invariant.faults (c.back.ensures.rises here))
        ]
      ];
    }

pub returns-clause-rises : goal.returns-clause-rises
returns-clause-rises g c = λ faulty. elim (c.inputs.invariant.rises faulty) [ inl risen ↦ risen | inr left ↦ absurd (no_faulty g.F.Input.Source.faults c.inputs.left.items (λ some. not_some c.pop.result c.in_default.is (c.pop.ensures.some.1 some)) left) ]
