use Rattle.std.proofs.Common.{◌≡◌, ◌-◌, ◌≤◌, ◌⊎◌, length}
use Rattle.outside.specs.Faults.{HasRisen}
use Rattle.command_parts.specs.Sources.{HasFaulty}
use Rattle.command_parts.proofs.inputs.give_back.Given as goal

-- those that are no more on the list were given back, and where one of all has a fault it is on the list or the count has risen
abbrev pub invariant-inputs : goal.invariant-inputs
invariant-inputs g l = record {
  few : length l.left.items ≤ length l.fn.inputs.items;
  lent : g.F.Files.lent l.files ≡ g.F.Files.lent l.fn.files - (length l.fn.inputs.items - length l.left.items);
  faults : g.F.Files.faults l.fn.files ≤ g.F.Files.faults l.files;
  rises : HasFaulty g.F.Input.Source.faults l.fn.inputs.items → HasRisen (g.F.Files.faults l.fn.files) (g.F.Files.faults l.files) ⊎ HasFaulty g.F.Input.Source.faults l.left.items;
}

abbrev pub decreases-inputs : goal.decreases-inputs
decreases-inputs g l = length l.left.items
