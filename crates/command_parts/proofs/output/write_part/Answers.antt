use Rattle.std.proofs.Common.{◌≡◌, ◌++◌, ◌∙◌, ℕ, List, Some, IfSome, subst}
use Rattle.std.proofs.lemmas.Result.{on_ok_weaker}
use Rattle.command_parts.specs.FaultTexts.{number_text}
use Rattle.command_parts.specs.Front.{GotFront}
use Rattle.command_parts.proofs.Written.{first_front, second_front, second_told}
use Rattle.command_parts.proofs.output.write_part.Goals as goal

pub returns-in_err-write_all-clause-front : goal.returns-in_err-write_all-clause-front
returns-in_err-write_all-clause-front g c =
    let start = g.O.Sink.got c.args.out.now in
    let now = g.O.Sink.got c.write_all.new.out in
    first_front start now c.args.part.text.now (number_text c.args.part.number)
    (subst (λ (t : List ℕ). IfSome start (λ had. GotFront had t now)) c.as_bytes.ensures.value c.write_all.ensures.front)

pub returns-clause-front : goal.returns-clause-front
returns-clause-front g c =
    let start = g.O.Sink.got c.args.out.now in
    let now = g.O.Sink.got c.write_all.new.out in
    let after = g.O.Sink.got c.write_all-2.new.out in
    second_front start now after c.args.part.text.now (number_text c.args.part.number)
    (subst (λ (t : List ℕ). IfSome start (λ had. now ≡ Some (had ++ t))) c.as_bytes.ensures.value c.in_ok-write_all.ensures.told)
    (subst (λ (t : List ℕ). IfSome now (λ had. GotFront had t after)) (c.as_bytes-2.ensures.value ∙ c.digits-number.ensures) c.write_all-2.ensures.front)

pub returns-clause-told : goal.returns-clause-told
returns-clause-told g c =
    let start = g.O.Sink.got c.args.out.now in
    let now = g.O.Sink.got c.write_all.new.out in
    let after = g.O.Sink.got c.write_all-2.new.out in
    on_ok_weaker c.write_all-2.result
    (λ told. second_told start now after c.args.part.text.now (number_text c.args.part.number)
    (subst (λ (t : List ℕ). IfSome start (λ had. now ≡ Some (had ++ t))) c.as_bytes.ensures.value c.in_ok-write_all.ensures.told)
    (subst (λ (t : List ℕ). IfSome now (λ had. after ≡ Some (had ++ t))) (c.as_bytes-2.ensures.value ∙ c.digits-number.ensures) told))
    c.write_all-2.ensures.told
