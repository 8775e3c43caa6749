use Rattle.std.proofs.Common.{◌≡◌, ℕ, List, ◌++◌, length}
use mathlib.Core.Option as may
use lib.ListN.{get_elem?}
use Rattle.turn_cell.specs.declared.pass.Pass.{Pass}
use Rattle.turn_cell.specs.Rule.{Has}
use Rattle.turn_cell.specs.Passes.{IsPassOf}
use Rattle.turn_cell.specs.Steps.{IsIdle, IsAsBefore, gathered, past_of}
use Rattle.turn_cell.proofs.close.gather_all.Given as goal

abbrev pub invariant-loop-other : goal.invariant-loop-other
invariant-loop-other g l = record {
  pass : IsIdle l.cell l.pass;
  same : IsAsBefore l.fn.pass l.pass;
  others : (k : ℕ) (p : Pass g.row.S.Denot g.row.S-Entry.Denot g.row.S-Fixed.Denot) → get_elem? l.others.items k ≡ may.some p → IsPassOf l.cell p;
  taken : (done : List (Pass g.row.S.Denot g.row.S-Entry.Denot g.row.S-Fixed.Denot)) × (l.fn.others.items ≡ l.others.items ++ done)
      × ((p : Pass g.row.S.Denot g.row.S-Entry.Denot g.row.S-Fixed.Denot) → Has p done → Has (past_of p) (gathered l.pass));
}

abbrev pub decreases-loop-other : goal.decreases-loop-other
decreases-loop-other g l = length l.others.items
