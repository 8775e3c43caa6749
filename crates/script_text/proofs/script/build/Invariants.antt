use Rattle.std.proofs.Common.{length}
use Rattle.script_text.proofs.Drafts.{IsDraft}
use Rattle.script_text.proofs.script.build.Given as goal

abbrev pub invariant-lines : goal.invariant-lines
invariant-lines l = IsDraft l.channels l.rest l.events.items l.lines

abbrev pub decreases-lines : goal.decreases-lines
decreases-lines l = length l.lines.rest.now
