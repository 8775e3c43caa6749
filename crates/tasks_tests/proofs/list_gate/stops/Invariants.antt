use Rattle.std.proofs.Common.{◌≡◌, ◌≤◌, take}
use Rattle.gate_account.specs.Accounts.{inlines}
use Rattle.task_taking.specs.Samples.{barriers_by}
use Rattle.tasks_tests.proofs.list_gate.stops.Given as goal

-- the barriers before this item
abbrev pub invariant-loop-item : goal.invariant-loop-item
invariant-loop-item l = record { counted : l.count ≡ inlines (barriers_by (take l.item-index l.given) l.channel); few : l.count ≤ l.item-index }
