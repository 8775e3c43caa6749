use Rattle.std.proofs.Common.{false}
use Rattle.input_gate.specs.States.{account_in, shows_of}
use Rattle.tasks_tests.proofs.TestLaws.{stopped_by}
use Rattle.tasks_tests.proofs.input_gate_tests.resume.Goals as goal

pub next_while_stopped-got-requires-clause-stopped : goal.next_while_stopped-got-requires-clause-stopped
next_while_stopped-got-requires-clause-stopped g c =
    let arm = c.in-Ok-Barrier-default-default-Inline in
    stopped_by (account_in c.args.gate.now) (account_in c.next.new.self) (shows_of c.next.new.self) false arm.field-0 arm.channel arm.k arm.field-0-2 arm.field-0-is arm.field-0-2-is arm.ensures.gave
