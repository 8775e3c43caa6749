use Rattle.std.proofs.Common.{◌≡◌, length}
use Rattle.flow_defs.specs.Lines.{lines}
use Rattle.script_text.specs.Reading.{bad_from, bad_left}
use Rattle.script_text.proofs.script.check.Given as goal

-- the first bad line is that of the lines that are left
abbrev pub invariant-lines : goal.invariant-lines
invariant-lines l = bad_from l.channels 2 (lines l.rest) ≡ bad_left l.lines

abbrev pub decreases-lines : goal.decreases-lines
decreases-lines l = length l.lines.rest.now
