-- What a pass has added.
use Rattle.std.specs.Prelude.{◌≡◌, ℕ, ◌+◌}
use Rattle.std.specs.List.{sum_by}
use Rattle.turn_cell.specs.declared.cell.TurnCell.{TurnCell}
use Rattle.turn_cell.specs.declared.pass.Pass.{Pass}
use Rattle.turn_cell.specs.Passes.{IsPassOf, number, mine}
use Rattle.turn_tests.specs.declared.sum.Sum.{Sum}
use Rattle.turn_tests.specs.declared.sum.Added.{Added}

-- all amounts that this pass has added
abbrev pub added_by : Pass Sum Added (Unit {0}) → ℕ
added_by pass = sum_by (λ e. e.amount) (mine pass)

-- it is the same pass, and has added so much more
abbrev pub HasAdded : TurnCell Sum Added (Unit {0}) → ℕ → Pass Sum Added (Unit {0}) → Pass Sum Added (Unit {0}) → Type 0
HasAdded cell amount before after = IsPassOf cell after × (number after ≡ number before) × (added_by after ≡ added_by before + amount)
