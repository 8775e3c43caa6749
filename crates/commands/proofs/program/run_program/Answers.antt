use Rattle.std.proofs.Common.{◌≡◌, ◌++◌, Some, IfSome, inl, inr, ap, subst, ◌∙◌}
use Rattle.outside.specs.Faults.{HasRisen}
use Rattle.command_parts.specs.FaultTexts.{fault_line}
use Rattle.command_parts.specs.Front.{GotFront}
use Rattle.command_parts.specs.declared.fault.Fault.TheVariants.{Memory}
use Rattle.commands.specs.Answers.{World}
use Rattle.commands.proofs.program.run_program.Goals as goal

pub returns-in-Ok : goal.returns-in-Ok
returns-in-Ok g c = inl c.in-Ok.ensures.answer

pub returns-in-Err : goal.returns-in-Err
returns-in-Err g c =
    let same = c.in-Err.ensures.same in
    let got = g.E.Sink.got c.tell.new.err in let faults = g.E.Sink.faults c.tell.new.err in
    let world : _ → _ → _ → World = λ files keeper out. record {
      contents = g.F.Files.contents files;
      lent = g.F.Files.lent files;
      input_faults = g.F.Files.faults files;
      images = g.K.Keeper.images keeper;
      keeper_faults = g.K.Keeper.faults keeper;
      output = g.O.Sink.got out;
      output_faults = g.O.Sink.faults out;
      errors = got;
      error_faults = faults;
    } in
    inr (record {
      status_is = c.status.ensures;
      same = ap (λ files. world files c.with_functions.new.keeper c.with_functions.new.out) same.0
          ∙ ap (λ keeper. world c.args.files.now keeper c.with_functions.new.out) same.1
          ∙ ap (λ out. world c.args.files.now c.args.keeper.now out) same.2;
      front = subst (λ err. IfSome (g.E.Sink.got err) (λ had. GotFront had (fault_line Memory) got)) same.3 c.tell.ensures.front;
      told = subst (λ err. (HasRisen (g.E.Sink.faults err) faults → ⊥) → IfSome (g.E.Sink.got err) (λ had. got ≡ Some (had ++ (fault_line Memory)))) same.3 c.tell.ensures.told;
    })
