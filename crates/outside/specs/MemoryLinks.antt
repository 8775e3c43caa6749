-- Links in memory, and what makes them: which of their calls fail, and what the others do. That a call can be told to fail is this
-- project's own.
use Rattle.std.specs.Prelude.{◌≡◌, ℕ, ◌+◌, ◌-◌, ◌<◌, ◌==◌, Bool, true, false, List, [], ◌∷◌, ◌++◌, if◌then◌else◌, Result, Ok, Err, refl}
use Rattle.std.proofs.Common.{sym, ap, subst, ◌∙◌}
use Rattle.turn_cell.specs.declared.cell.TurnCell.{TurnCell}
use Rattle.outside.specs.declared.ring.Ring.{Ring}
use Rattle.outside.specs.declared.ring.LinkEntry.{LinkEntry}
use Rattle.outside.specs.declared.source.Failed.{Failed as FailedCall}
use Rattle.outside.specs.declared.wires.Wire.{Wire}
use Rattle.outside.specs.declared.wires.PairFault.{PairFault}
use Rattle.outside.specs.declared.wires.PairFault.TheVariants.{Failed, Memory}
use Rattle.outside.specs.Links.{faults_of}
use Rattle.outside.specs.Memory.{counted, is_listed}

-- The cell that both ends of a link share.
abbrev pub LinkCell : Type 0
LinkCell = TurnCell Ring LinkEntry (Unit {0})

-- What was sent, whether it was finished, which writes fail, how many there were, how many failed, and the cell.
pub record OutState : Type 0 where
  pub sent : List ℕ
  pub finished : Bool
  pub fails : List ℕ
  pub calls : ℕ
  pub faults : ℕ
  pub cell : LinkCell

-- What was got, whether a read has answered 0, which reads fail, how many there were, how many failed, and the cell.
pub record InState : Type 0 where
  pub got : List ℕ
  pub ended : Bool
  pub fails : List ℕ
  pub calls : ℕ
  pub faults : ℕ
  pub cell : LinkCell

-- Some call is to fail.
abbrev pub may_fail : List ℕ → Bool
may_fail [] = false
may_fail (n ∷ ns) = true

-- What names a link, at each of its ends: the cell, and whether a call of this end is to fail.
abbrev pub out_line : OutState → LinkCell × Bool
out_line s = (s.cell, may_fail s.fails)

abbrev pub in_line : InState → LinkCell × Bool
in_line s = (s.cell, may_fail s.fails)

-- How many calls have failed, which is none where none is to fail.
abbrev pub faults_with : List ℕ → ℕ → ℕ
faults_with fails faults = if may_fail fails then faults else 0

abbrev pub out_faults : OutState → ℕ
out_faults s = faults_with s.fails s.faults

abbrev pub in_faults : InState → ℕ
in_faults s = faults_with s.fails s.faults

-- An end of a line on which no call is to fail has no fault.
none_failed : (old new : List ℕ) (faults : ℕ) → old ≡ [] → may_fail new ≡ may_fail old → faults_with new faults ≡ 0
none_failed old new faults never same = subst (λ (b : Bool). (if b then faults else 0) ≡ 0) (sym (same ∙ ap may_fail never)) refl

pub out_is_faultless : (old new : OutState) → old.fails ≡ [] → out_line new ≡ out_line old → out_faults new ≡ 0
out_is_faultless old new never same = none_failed old.fails new.fails new.faults never (ap (λ line. line.1) same)

pub in_is_faultless : (old new : InState) → old.fails ≡ [] → in_line new ≡ in_line old → in_faults new ≡ 0
in_is_faultless old new never same = none_failed old.fails new.fails new.faults never (ap (λ line. line.1) same)

-- The ends of a new link.
abbrev pub new_out : LinkCell → List ℕ → OutState
new_out cell fails = record { sent = []; finished = false; fails = fails; calls = 0; faults = 0; cell = cell }

abbrev pub new_in : LinkCell → List ℕ → InState
new_in cell fails = record { got = []; ended = false; fails = fails; calls = 0; faults = 0; cell = cell }

-- A write fails where its number is listed, and else takes at least a byte.
abbrev pub OutStep : OutState → Result ℕ FailedCall → OutState → Type 0
OutStep old (Ok n) new =
    (is_listed old.fails (counted old.calls) ≡ false)
    × (0 < n)
    × (new ≡ record old { sent = new.sent; calls = counted old.calls })
OutStep old (Err e) new =
    (is_listed old.fails (counted old.calls) ≡ true)
    × (new ≡ record old { calls = counted old.calls; faults = counted old.faults })

-- A read fails where its number is listed. Another one gives none exactly at the end, and none after it.
abbrev pub InStep : InState → Result ℕ FailedCall → InState → Type 0
InStep old (Ok n) new =
    (is_listed old.fails (counted old.calls) ≡ false)
    × (old.ended ≡ true → n ≡ 0)
    × (new ≡ record old { got = new.got; ended = (n == 0); calls = counted old.calls })
InStep old (Err e) new =
    (is_listed old.fails (counted old.calls) ≡ true)
    × (new ≡ record old { calls = counted old.calls; faults = counted old.faults })

-- Which pairs fail, and which reads and writes of each end; the wires that were given back, how many pairs there were, how many
-- faults, and how many wires are out.
pub record LinksState : Type 0 where
  pub pairs : List ℕ
  pub reads : List ℕ
  pub writes : List ℕ
  pub wires : List (Wire OutState InState)
  pub calls : ℕ
  pub faults : ℕ
  pub lent : ℕ

-- No links yet.
abbrev pub no_links : List ℕ → List ℕ → List ℕ → LinksState
no_links pairs reads writes = record { pairs = pairs; reads = reads; writes = writes; wires = []; calls = 0; faults = 0; lent = 0 }

-- These are the ends of one new link.
abbrev pub IsLink : List ℕ → List ℕ → OutState → InState → Type 0
IsLink reads writes out input = (out ≡ new_out out.cell writes) × (input ≡ new_in out.cell reads)

-- None of these links' calls is to fail, nor one of an end of a wire that they give.
pub record NoneFails (links : LinksState) : Type 0 where
  pub pairs : links.pairs ≡ []
  pub reads : links.reads ≡ []
  pub writes : links.writes ≡ []

-- A pair gives two new links. It fails where its number is listed.
abbrev pub PairStep : LinksState → Result (Wire OutState InState) PairFault → LinksState → Type 0
PairStep old (Ok wire) new =
    (is_listed old.pairs (counted old.calls) ≡ false)
    × IsLink old.reads old.writes wire.data_out wire.data_in
    × IsLink old.reads old.writes wire.control_out wire.control_in
    × (new ≡ record old { calls = counted old.calls; lent = old.lent + 1 })
PairStep old (Err Failed) new =
    (is_listed old.pairs (counted old.calls) ≡ true)
    × (new ≡ record old { calls = counted old.calls; faults = counted old.faults })
PairStep old (Err Memory) new =
    (is_listed old.pairs (counted old.calls) ≡ false)
    × (new ≡ record old { calls = counted old.calls })

-- A back keeps the wire as the last one. It counts a fault where one of the ends has some.
abbrev pub TakesBack : LinksState → Wire OutState InState → LinksState → Type 0
TakesBack old wire new =
    new ≡ record old {
      wires = old.wires ++ wire ∷ [];
      faults = (if faults_of out_faults in_faults wire == 0 then old.faults else counted old.faults);
      lent = old.lent - 1;
    }
