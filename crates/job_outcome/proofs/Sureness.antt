-- Loops over wires of which no end is to fail.
use Rattle.std.proofs.Common.{◌≡◌, ℕ, List, Some, slice_get, sym, ap, subst, ◌∙◌, arith}
use Rattle.std.proofs.lemmas.Option.{slice_get_within}
use Rattle.std.specs.List.{AllByRecursion}
use Rattle.flow_defs.specs.declared.job.Job.{Job}
use Rattle.outside.specs.declared.wires.Wire.{Wire}
use Rattle.outside.specs.Links.{NeverFails}
use Rattle.job_cells.specs.declared.edge.Edge.{Edge}
use Rattle.job_ends.specs.Ended.{LoopPlace, faults_in}
use Rattle.job_outcome.specs.Theorems.{AreFaultless, SureWiresHaveNoFault}
use Rattle.job_outcome.specs.Words.{WorldWords}
use Rattle.job_outcome.proofs.Places.{at_place, all_at, each_at}
use Rattle.job_outcome.proofs.Running.{EndsAt, loops_at}

module _ {S O I L N : Type 0} (words : WorldWords S O I L N) (sure_out : O → Type 0) (sure_in : I → Type 0)
    (outs : AreFaultless words.line words.of_out sure_out) (ins : AreFaultless words.end_line words.of_in sure_in) where
  open words use {links}
  open words.links use {line, of_out, end_line, of_in}

  -- No loop of an edge has counted a fault.
  none_at : {job : Job} {e : ℕ} {edge : Edge} {wire : Wire O I} (row : List (LoopPlace O I)) (i : ℕ) (place : LoopPlace O I) →
      EndsAt links job e edge wire row → NeverFails sure_out sure_in wire → slice_get row i ≡ Some place → faults_in of_out of_in place ≡ 0
  none_at {wire = wire} row i place ends sure at =
      each_at (λ (p : LoopPlace O I). faults_in of_out of_in p ≡ 0) row i place
      (subst (λ (xs : List (LoopPlace O I)). AllByRecursion (λ (p : LoopPlace O I). faults_in of_out of_in p ≡ 0) xs) (sym ends.row_is) (
        outs wire.data_out ends.send.half sure.data_out (ends.by_send.line_is ∙ ap line ends.was.sending.0),
        (
          ins wire.control_in ends.control.half sure.control_in (ends.by_control.line_is ∙ ap end_line ends.was.sending.1),
          (
            ins wire.data_in ends.items.half sure.data_in (ends.by_items.line_is ∙ ap end_line ends.was.receiving.0),
            (outs wire.control_out ends.announce.half sure.control_out (ends.by_announce.line_is ∙ ap line ends.was.receiving.1), tt),
          ),
        ),
      ))
      at

  pub sure_wires_have_no_fault : SureWiresHaveNoFault words sure_out sure_in
  sure_wires_have_no_fault run ran sure fault =
      let e = fault.0 in
      let row = fault.2.0 in
      let place = fault.2.1.0 in
      let low = slice_get_within run.loops e row fault.2.1.1 in
      let edge = at_place run.edges e (omega (arith, low, ran.loops_many, ran.deployed.loops_many, ran.edges_are.many)) in
      let l = loops_at ran e edge.0 row edge.1 fault.2.1.1 in
      let none : faults_in of_out of_in place ≡ 0 =
      none_at row.items fault.1 place l.ends (all_at (NeverFails sure_out sure_in) run.wires e l.wire sure l.wire_is) fault.2.1.2 in
      let more = fault.2.1.3 in
      omega (arith, none, more)
