use Rattle.std.proofs.Common.{◌≡◌, ◌<◌, subst, sym}
use Rattle.input_gate.specs.States.{account_in, shows_of}
use Rattle.tasks_tests.proofs.TestLaws.{stopped_still}
use Rattle.tasks_tests.proofs.input_gate_tests.next_while_stopped.Goals as goal

pub returns-clause-stopped : goal.returns-clause-stopped
returns-clause-stopped g c =
    stopped_still (account_in c.args.gate.now) _ (shows_of c.next.new.self) _ c.args.channel c.next.result c.requires.stopped c.next.ensures.gave
