-- How a task ends. As in Flink a fault of one task stops all. That a task that was done ends as stopped where another met a fault before is
-- this project's own choice.
use Rattle.std.specs.Prelude.{◌≡◌, ◌≢◌, ◌⊎◌, [], ◌++◌}
use Rattle.turn_cell.specs.History.{StartsWith}
use Rattle.turn_cell.specs.Passes.{IsPassOf, number, seen, mine}
use Rattle.flow_defs.specs.declared.cause.Cause.{Cause}
use Rattle.flow_defs.specs.declared.cause.Cause.TheVariants as causes
use Rattle.outside.specs.Stops.{told_of}
use Rattle.conn_parts.specs.Stopping.{StopCell, StopPass}
use Rattle.record_writer.specs.declared.partition.PartitionPasses.{PartitionPasses}
use Rattle.record_writer.specs.Writers.{Writer, AreOwnAt, ways_on}

-- It ends with its cause, or was stopped where it was done.
abbrev pub EndsAs : Cause → Cause → Type 0
EndsAs cause told = (told ≡ cause) ⊎ ((cause ≡ causes.Done) × (told ≡ causes.Stopped))

-- A fault was told to the stop cell, and nothing else. It was done only where its pass had seen none.
pub record ToldAtEnd (cell : StopCell) (cause told_cause : Cause) (before after : StopPass) : Type 0 where
  pub pass : IsPassOf cell after
  pub number_is : number after ≡ number before
  pub told : mine after ≡ mine before ++ told_of told_cause
  pub stopped : told_cause ≡ causes.Stopped → (cause ≡ causes.Stopped) ⊎ (seen after ≢ [])
  pub done : told_cause ≡ causes.Done → seen after ≡ []
  pub later : StartsWith (seen after) (seen before)

-- These are the passes by which this writer wrote.
pub record ArePassesBy (w : Writer) (passes : PartitionPasses) : Type 0 where
  pub own : AreOwnAt w.cells w.first w.stride (ways_on w.job w.edge) passes.subpartitions.items
  pub same : passes.subpartitions.items ≡ w.passes
  pub pool : IsPassOf w.pool passes.pool
