use Rattle.std.proofs.Common.{◌≡◌, ◌==◌, not, ◌++◌, length, map, filter}
use Rattle.stage_fns.specs.Meets.{records}
use Rattle.stage_fns.proofs.stages.words.Given as goal

abbrev pub invariant-loop-piece : goal.invariant-loop-piece
invariant-loop-piece l =
    records l.list ≡ records l.fn.list ++ filter (λ piece. not (length piece == 0)) (map (λ piece. piece.now) l.yielded)
