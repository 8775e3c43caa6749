-- What was written.
use Rattle.std.specs.Prelude.{ℕ, List, map}
use Rattle.turn_tests.specs.declared.journal.Written.{Written}

abbrev pub values : List (ℕ × Written) → List ℕ
values history = map (λ e. e.1.value) history
