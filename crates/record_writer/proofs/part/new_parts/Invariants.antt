use Rattle.std.proofs.Common.{◌≡◌, ℕ, [], length}
use Rattle.std.specs.List.{All}
use Rattle.record_writer.specs.declared.part.Part.{Part}
use Rattle.record_writer.specs.Writers.{bytes_in}
use Rattle.record_writer.specs.Channels.{IsPart}
use Rattle.record_writer.specs.Segments.{all_held}
use Rattle.record_writer.proofs.part.new_parts.Given as goal

abbrev pub invariant-loop-number : goal.invariant-loop-number
invariant-loop-number l = record {
  many : length l.parts.items ≡ l._number;
  empty : All (λ (part : Part). bytes_in part ≡ []) l.parts.items;
  held : all_held l.parts.items ≡ 0;
  parts : (size : ℕ) → All (IsPart size) l.parts.items;
}
