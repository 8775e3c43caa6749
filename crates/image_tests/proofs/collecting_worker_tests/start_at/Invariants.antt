use Rattle.std.proofs.Common.{◌≡◌, replicate}
use Rattle.image_tests.proofs.collecting_worker_tests.start_at.Given as goal

-- so many sources stand there
abbrev pub invariant-loop-source : goal.invariant-loop-source
invariant-loop-source l = l.ended.items ≡ replicate l._source l.fn.stood.ended
