use Rattle.std.specs.Prelude.{codes}
use Rattle.job_text.proofs.words.read_selfrun.Goals as goal

pub returns-clause-command : goal.returns-clause-command
returns-clause-command c = c.in_ok-lines.ensures (codes "selfrun")
