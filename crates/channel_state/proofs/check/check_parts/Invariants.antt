use Rattle.std.proofs.Common.{◌≡◌, ◌-◌}
use Rattle.channel_state.specs.Reading.{parts_from, parts}
use Rattle.channel_state.specs.Outcomes.{part_of}
use Rattle.channel_state.proofs.check.check_parts.Given as goal

abbrev pub invariant-loop-i : goal.invariant-loop-i
invariant-loop-i l = parts_from l._i (l.many - l._i) (λ i. part_of l.part) l.cursor.rest.now ≡ parts l.many (λ i. part_of l.part) l.fn.cursor.rest.now
