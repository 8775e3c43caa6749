use Rattle.std.proofs.Common.{refl}
use Rattle.commands.specs.SelfRuns.{self_text}
use Rattle.commands.proofs.selfrun.self_text.Goals as goal

pub returns : goal.returns
unfolding self_text
returns c = refl
