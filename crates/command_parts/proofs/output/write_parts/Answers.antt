use Rattle.std.proofs.Common.{◌+◌, drop, arith, ap}
use Rattle.std.specs.Prelude.{flat_map}
use Rattle.std.proofs.Math.ListN.{drop_of_length-le}
use Rattle.command_parts.specs.FaultTexts.{part_text}
use Rattle.command_parts.proofs.Written.{front_of_parts, parts_on, all_parts, whole_front, texts_from}
use Rattle.command_parts.proofs.output.write_parts.Goals as goal

pub returns-in_err-write_part-clause-front : goal.returns-in_err-write_part-clause-front
returns-in_err-write_part-clause-front g c =
    front_of_parts (g.O.Sink.got c.args.out.now) (g.O.Sink.got c.loop-part.out) (g.O.Sink.got c.write_part.new.out) _ (flat_map part_text (drop (c.loop-part.part-index + 1) c.args.parts.now)) _ _
    (texts_from part_text c.args.parts.now c.loop-part.part-index _ c.loop-part-test.true)
    c.write_part.ensures.front c.loop-part.invariant.1

pub loop-part-preserved : goal.loop-part-preserved
loop-part-preserved g c = (
  omega (arith, c.loop-part.invariant.0, c.write_part.ensures.never_falls),
  parts_on (g.O.Sink.got c.args.out.now) (g.O.Sink.got c.loop-part.out) (g.O.Sink.got c.write_part.new.out) _ (flat_map part_text (drop (c.loop-part.part-index + 1) c.args.parts.now)) _ _
      (texts_from part_text c.args.parts.now c.loop-part.part-index _ c.loop-part-test.true)
      c.in_ok-write_part.ensures.told c.loop-part.invariant.1,
)

pub returns-clause-front : goal.returns-clause-front
returns-clause-front g c =
    whole_front (g.O.Sink.got c.args.out.now) (g.O.Sink.got c.loop-part.out) _ (all_parts (g.O.Sink.got c.args.out.now) (g.O.Sink.got c.loop-part.out) _ _ (ap (flat_map part_text) (drop_of_length-le c.args.parts.now c.loop-part-test.false)) c.loop-part.invariant.1)
