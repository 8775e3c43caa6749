use Rattle.std.proofs.Common.{◌≡◌, ◌++◌, ℕ, List, Some, IfSome, subst, ◌∙◌}
use Rattle.std.specs.Prelude.{⊤}
use Rattle.stage_fns.specs.Kinds.{kinds}
use Rattle.command_parts.specs.Front.{GotFront}
use Rattle.commands.proofs.RunLemmas.{prints_on}
use Rattle.commands.proofs.run.run.Goals as goal

pub returns-in-Ok-clause-done : goal.returns-in-Ok-clause-done
returns-in-Ok-clause-done g c = λ _.
    prints_on c.args.words.now.items (kinds c.args.functions.now) (g.F.Files.contents c.args.files.now) (g.K.Keeper.images c.args.keeper.now) (λ text. c.in_ok-text.text.items ≡ text)
    (λ text. IfSome (g.O.Sink.got c.args.out.now) (λ had. g.O.Sink.got c.write_all.new.out ≡ Some (had ++ text)))
    (λ text is. subst (λ (t : List ℕ). IfSome (g.O.Sink.got c.args.out.now) (λ had. g.O.Sink.got c.write_all.new.out ≡ Some (had ++ t))) (c.as_slice.ensures ∙ is) c.in-Ok.ensures.told)
    c.in_ok-text.ensures.done

pub returns-clause-fault : goal.returns-clause-fault
returns-clause-fault g c =
    prints_on c.args.words.now.items (kinds c.args.functions.now) (g.F.Files.contents c.args.files.now) (g.K.Keeper.images c.args.keeper.now) (λ text. c.in_ok-text.text.items ≡ text) (λ text. ⊤) (λ text is. tt) c.in_ok-text.ensures.done

pub returns-clause-front : goal.returns-clause-front
returns-clause-front g c = λ _.
    prints_on c.args.words.now.items (kinds c.args.functions.now) (g.F.Files.contents c.args.files.now) (g.K.Keeper.images c.args.keeper.now) (λ text. c.in_ok-text.text.items ≡ text)
    (λ text. IfSome (g.O.Sink.got c.args.out.now) (λ had. GotFront had text (g.O.Sink.got c.write_all.new.out)))
    (λ text is. subst (λ (t : List ℕ). IfSome (g.O.Sink.got c.args.out.now) (λ had. GotFront had t (g.O.Sink.got c.write_all.new.out))) (c.as_slice.ensures ∙ is) c.write_all.ensures.front)
    c.in_ok-text.ensures.done

pub returns-in-Ok-clause-last : goal.returns-in-Ok-clause-last
returns-in-Ok-clause-last g c = λ done options job bytes run tells.
    let ends = c.in_ok-text.ensures.last options job bytes run tells in (
      ends.0,
      ends.1,
      subst (λ (t : List ℕ). IfSome (g.O.Sink.got c.args.out.now) (λ had. g.O.Sink.got c.write_all.new.out ≡ Some (had ++ t))) (c.as_slice.ensures ∙ ends.2) c.in-Ok.ensures.told,
    )
