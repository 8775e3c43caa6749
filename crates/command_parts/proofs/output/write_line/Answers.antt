use Rattle.std.proofs.Common.{[], ◌∷◌}
use Rattle.std.specs.Prelude.{flat_map}
use Rattle.std.proofs.lemmas.Result.{on_ok_weaker}
use Rattle.command_parts.specs.FaultTexts.{part_text}
use Rattle.command_parts.proofs.Written.{first_front, second_front, second_told}
use Rattle.command_parts.proofs.output.write_line.Goals as goal

pub returns-in_err-write_parts-clause-front : goal.returns-in_err-write_parts-clause-front
returns-in_err-write_parts-clause-front g c =
    first_front (g.O.Sink.got c.args.out.now) (g.O.Sink.got c.write_parts.new.out) (flat_map part_text c.args.parts.now) (10 ∷ []) c.write_parts.ensures.front

pub returns-clause-front : goal.returns-clause-front
returns-clause-front g c =
    second_front (g.O.Sink.got c.args.out.now) (g.O.Sink.got c.write_parts.new.out) (g.O.Sink.got c.write_all.new.out) (flat_map part_text c.args.parts.now) (10 ∷ [])
    c.in_ok-write_parts.ensures.told c.write_all.ensures.front

pub returns-clause-told : goal.returns-clause-told
returns-clause-told g c =
    on_ok_weaker c.write_all.result
    (λ told. second_told (g.O.Sink.got c.args.out.now) (g.O.Sink.got c.write_parts.new.out) (g.O.Sink.got c.write_all.new.out) (flat_map part_text c.args.parts.now) (10 ∷ [])
    c.in_ok-write_parts.ensures.told told)
    c.write_all.ensures.told
