use Rattle.std.proofs.Common.{◌≤◌, drop}
use Rattle.std.specs.Prelude.{flat_map}
use Rattle.command_parts.specs.FaultTexts.{part_text}
use Rattle.command_parts.proofs.Written.{IsWrittenUpTo}
use Rattle.command_parts.proofs.output.write_parts.Given as goal

-- the parts before this one were written
abbrev pub invariant-loop-part : goal.invariant-loop-part
invariant-loop-part g l = (g.O.Sink.faults l.fn.out ≤ g.O.Sink.faults l.out)
    × IsWrittenUpTo (g.O.Sink.got l.fn.out) (g.O.Sink.got l.out) (flat_map part_text (drop l.part-index l.parts)) (flat_map part_text l.parts)
