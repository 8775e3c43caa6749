-- What a loop told the stop cell of its cause. That the first fault stops all workers is this project's own choice.
use Rattle.std.specs.Prelude.{◌≡◌, ◌≢◌, [], ◌++◌}
use Rattle.turn_cell.specs.declared.cell.TurnCell.{TurnCell}
use Rattle.turn_cell.specs.declared.pass.Pass.{Pass}
use Rattle.turn_cell.specs.Passes.{IsPassOf, number, seen, mine}
use Rattle.flow_defs.specs.declared.cause.Cause.{Cause}
use Rattle.flow_defs.specs.declared.cause.Cause.TheVariants.{Done, Stopped}
use Rattle.outside.specs.declared.stop.StopEntry.{StopEntry}
use Rattle.outside.specs.declared.stop.StopState.{StopState}
use Rattle.outside.specs.Stops.{told_of}

abbrev pub StopCell : Type 0
StopCell = TurnCell StopState StopEntry (Unit {0})

abbrev pub StopPass : Type 0
StopPass = Pass StopState StopEntry (Unit {0})

-- A fault was told by the loop's own pass, and nothing else. It was stopped only where its pass had seen a fault, and was done only
-- where it had seen none.
pub record ToldStop (cell : StopCell) (cause : Cause) (before after : StopPass) : Type 0 where
  pub pass : IsPassOf cell after
  pub number : number after ≡ number before
  pub told : mine after ≡ mine before ++ told_of cause
  pub stopped : cause ≡ Stopped → seen after ≢ []
  pub done : cause ≡ Done → seen after ≡ []
