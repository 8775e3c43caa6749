use Rattle.std.proofs.Common.{◌≡◌, ℕ, ◌+◌, sym, ap, subst, ◌∙◌, arith}
use Rattle.std.specs.Prelude.{slice_get, Some}
use Rattle.std.proofs.lemmas.Option.{slice_get_within}
use Rattle.credit_reader.specs.Senders.{AreDistinct}
use Rattle.job_cells.specs.Edges.{HaveShare}
use Rattle.job_cells.specs.Grants.{gate_want, partition_want}
use Rattle.job_cells.specs.Spans.{ways_in, ways_out}
use Rattle.job_cells.proofs.Places.{ids_apart}
use Rattle.job_cells.proofs.parts.parts_of.Goals as goal

pub readers_of-requires : goal.readers_of-requires
readers_of-requires g c = subst AreDistinct (sym (c.as_slice.ensures ∙ c.in_ok-channels.ensures)) (ids_apart c.args.span c.args.span.receivers)

pub partitions_of-requires-clause-left : goal.partitions_of-requires-clause-left
partitions_of-requires-clause-left g c =
    let old = c.args.lender.now in let span = c.args.span in let some = c.requires.span.some_receive in
    let inside = slice_get_within old.wants.items (old.given + (span.senders + 0)) (gate_want (ways_in span)) (c.requires.wants 0 (omega (arith, some))) in
    omega (arith, inside)

pub gates_of-requires-clause-wants : goal.gates_of-requires-clause-wants
gates_of-requires-clause-wants g c = λ b low.
    let old = c.args.lender.now in let new = c.partitions_of.new.lender in let span = c.args.span in
    let lent = c.in_ok-partitions.ensures.lender.1 in
    let place : new.given + b ≡ old.given + (span.senders + b) = (let given = lent.given in omega (arith, given)) in
    ap (λ ws. slice_get ws (new.given + b)) lent.wants ∙ ap (slice_get old.wants.items) place ∙ c.requires.wants b low ∙ ap (λ w. Some (gate_want w)) (sym c.ways_in.ensures)

pub returns-clause-shares : goal.returns-clause-shares
returns-clause-shares g c =
    let span = c.args.span in let new = c.partitions_of.new.lender in let cells = c.in_ok-gates.gates.pools.cells.items in
    record {
      partitions = c.in_ok-partitions.ensures.shares (partition_want (ways_out span)) c.requires.partition_wants;
      gates = subst (λ ws. HaveShare ws (gate_want (ways_in span)) cells) c.in_ok-partitions.ensures.lender.1.wants
          (subst (λ (n : ℕ). HaveShare new.wants.items (gate_want n) cells) c.ways_in.ensures c.in_ok-gates.ensures.shares);
    }
