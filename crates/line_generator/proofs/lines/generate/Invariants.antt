use Rattle.std.proofs.Common.{◌≡◌, ◌≤◌, ◌-◌}
use Rattle.line_generator.specs.Generated.{number_at, generated}
use Rattle.line_generator.proofs.lines.generate.Given as goal

-- so many lines were made, and the number is that of the last
abbrev pub invariant-lines : goal.invariant-lines
invariant-lines l =
    record {
      text : l.text.items ≡ generated l.fn.seed l.made;
      number : l.number ≡ number_at l.fn.seed l.made;
      within : l.made ≤ l.fn.lines;
    }

abbrev pub decreases-lines : goal.decreases-lines
decreases-lines l = l.fn.lines - l.made
