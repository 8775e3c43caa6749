use Rattle.std.proofs.Common.{◌≡◌, drop}
use Rattle.reader_state.specs.Settling.{first_overdue}
use Rattle.reader_state.proofs.state.ReaderState.overdue.Given as goal

abbrev pub invariant-loop-early : goal.invariant-loop-early
invariant-loop-early l = first_overdue (drop l.early-index l.kept) ≡ first_overdue l.kept
