use Rattle.std.proofs.Common.{◌≡◌, ◌+◌, ◌≤◌, length}
use Rattle.command_parts.specs.Sources.{AreInputsOf}
use Rattle.command_parts.proofs.inputs.find_inputs.Given as goal

-- the inputs of the sources before this one are on the list, and there is room for the others
abbrev pub invariant-loop-name : goal.invariant-loop-name
invariant-loop-name g l = record {
  source : l.source ≡ l.name-index;
  many : length l.inputs.items ≡ l.name-index;
  room : 8 ≤ l.inputs.room + l.name-index;
  told : AreInputsOf g.F.Input.Source.left g.F.Input.Source.faults l.job (g.F.Files.contents l.fn.files) l.inputs.items;
  same : g.F.Files.contents l.files ≡ g.F.Files.contents l.fn.files;
  lent : g.F.Files.lent l.files ≡ g.F.Files.lent l.fn.files + length l.inputs.items;
  faults : g.F.Files.faults l.fn.files ≤ g.F.Files.faults l.files;
}
