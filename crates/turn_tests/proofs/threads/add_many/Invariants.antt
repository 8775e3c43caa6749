use Rattle.turn_tests.specs.Sums.{HasAdded}
use Rattle.turn_tests.proofs.threads.add_many.Given as goal

abbrev pub invariant-loop-round : goal.invariant-loop-round
invariant-loop-round g l = HasAdded l.cell l._round l.fn.pass l.pass
