use Rattle.std.proofs.Common.{◌≡◌, drop, ◌+◌, ◌%◌, ◌^◌}
use Rattle.std.specs.Prelude.{fold}
use Rattle.flow_defs.specs.declared.image.TakeRun.{TakeRun}
use Rattle.image_lines.specs.Shown.{count_of}
use Rattle.image_lines.proofs.lines.count_of.Given as goal

-- the count so far, and then the rest, is that of all
abbrev pub invariant-loop-run : goal.invariant-loop-run
invariant-loop-run l = fold (λ sum (run : TakeRun). (sum + run.count) % 2 ^ 64) l.count (drop l.run-index l.runs) ≡ count_of l.fn.runs
