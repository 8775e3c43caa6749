use Rattle.std.proofs.Common.{◌≡◌, ◌<◌, ◌≤◌, inl, inr, slice_index_or, ℕ, suc, Some, refl, sym, ap, subst, ◌∙◌, arith}
use Rattle.std.specs.Prelude.{slice_get}
use Rattle.std.proofs.lemmas.Bool.{cases_lt}
use Rattle.std.proofs.lemmas.List.{length-set}
use Rattle.std.proofs.lemmas.Option.{slice_get_within}
use Rattle.conn_parts.proofs.Lists.{get_is, get_set_else}
use Rattle.flow_defs.specs.Jobs.{last_edge}
use Rattle.job_ends.specs.Edges.{EdgeCarries}
use Rattle.job_ends.specs.Ended.{gate_at, own_at}
use Rattle.job_ends.specs.Returning.{RowsCameBack}
use Rattle.job_ends.proofs.Returns.{none_came_back, one_more_came_back}
use Rattle.job_ends.proofs.Rows.{one_there, read_there, rows_nothing}
use Rattle.job_ends.proofs.Endings.{carried, edge_low, has_edge, loops_at, rows_settled, rows_step, snapshots_stay}
use Rattle.job_ends.proofs.edges.settle_edges.Goals as goal
use Rattle.outside.proofs.Faults.{risen_before, risen_after}

pub loop-number-init : goal.loop-number-init
loop-number-init g c = record {
  rows = rows_nothing (λ s. 0 ≤ s) (λ s. 0 < s) c.args.rows.now;
  many = refl;
  loops = λ k low. refl;
  carry = λ tell e low. absurd (omega (arith, low));
  lent = omega arith;
  never_falls = omega arith;
  wires = none_came_back g.N.In.LinkIn.got g.N.In.LinkIn.ended (g.N.Links.wires c.args.net.now) c.args.loops.now;
  fault = λ k i row place low at there fault. absurd (omega (arith, low));
}

pub settle_edge-requires-clause-has : goal.settle_edge-requires-clause-has
settle_edge-requires-clause-has g c κs within =
    let number : ℕ = c.loop-number.number in
    let edge = c.index-edges-number.result in
    let at = get_is c.args.edges.now number edge (omega arith) c.index-edges-number.is in
    has_edge c.requires.ended.1 number edge at c.loop-number.rows c.loop-number.invariant.rows c.requires.is_job

pub settle_edge-requires-clause-ended : goal.settle_edge-requires-clause-ended
settle_edge-requires-clause-ended g c κs within =
    let number : ℕ = c.loop-number.number in
    let edge = c.index-edges-number.result in
    let at = get_is c.args.edges.now number edge (omega arith) c.index-edges-number.is in
    let same = c.loop-number.invariant.many in
    let row = slice_index_or c.loop-number.loops number c.index-loops-number.result in
    let there = read_there c.loop-number.loops number c.index-loops-number.result (let low = loops_at c.requires.ended.1 number edge at in omega (arith, low, same)) c.index-loops-number.is in
    c.requires.ended.1.loops_are number edge row at (sym (c.loop-number.invariant.loops number (omega arith)) ∙ there)

pub settle_edge-requires-clause-lent : goal.settle_edge-requires-clause-lent
settle_edge-requires-clause-lent g c =
    let number : ℕ = c.loop-number.number in
    let edge = c.index-edges-number.result in
    let at = get_is c.args.edges.now number edge (omega arith) c.index-edges-number.is in
    let low = edge_low c.requires.ended.1 number edge at in
    let lent = c.loop-number.invariant.lent in
    let enough = c.requires.lent in
    omega (arith, low, lent, enough)

pub loop-number-preserved : goal.loop-number-preserved
loop-number-preserved g c =
    let number : ℕ = c.loop-number.number in
    let edge = c.index-edges-number.result in
    let at = get_is c.args.edges.now number edge (omega arith) c.index-edges-number.is in
    let before = c.loop-number.invariant in
    let same = before.many in
    let row = slice_index_or c.loop-number.loops number c.index-loops-number.result in
    let there = read_there c.loop-number.loops number c.index-loops-number.result (let low = loops_at c.requires.ended.1 number edge at in omega (arith, low, same)) c.index-loops-number.is in
    let start : slice_get c.args.loops.now number ≡ Some row = sym (before.loops number (omega arith)) ∙ there in
    record {
      rows = rows_step c.args.rows.now c.loop-number.rows number c.settle_edge.new.rows before.rows c.settle_edge.ensures.rows;
      many = length-set c.loop-number.loops number c.settle_edge.new.row ∙ same;
      loops = λ k low. get_set_else c.loop-number.loops number k c.settle_edge.new.row (λ e. omega (arith, e, low)) ∙ before.loops k (omega (arith, low));
      carry = λ tell e low. elim (cases_lt e number) [
        | inl below ↦ before.carry tell e below
        | inr above ↦
            subst (λ (k : ℕ). EdgeCarries c.args.job.now k (own_at c.args.rows.now k) (gate_at c.args.rows.now k)) (let e_is : number ≡ e = omega (arith, low, above) in e_is)
            (carried c.requires.ended.1 number edge at c.loop-number.rows before.rows (c.settle_edge.ensures.carry tell))
      ];
      lent = (let l = before.lent in let m = c.settle_edge.ensures.lent in omega (arith, l, m));
      never_falls = (let l = before.never_falls in let m = c.settle_edge.ensures.never_falls in omega (arith, l, m));
      wires = one_more_came_back g.N.In.LinkIn.got g.N.In.LinkIn.ended (g.N.Links.wires c.args.net.now) (g.N.Links.wires c.loop-number.net) (g.N.Links.wires c.settle_edge.new.net)
          c.args.loops.now number row start before.wires c.settle_edge.ensures.wires;
      fault = λ k i other place low has_row has_place fault. elim (cases_lt k number) [
        | inl below ↦
            risen_after (g.N.Links.faults c.args.net.now) (g.N.Links.faults c.loop-number.net) (g.N.Links.faults c.settle_edge.new.net) (before.fault k i other place below has_row has_place fault) c.settle_edge.ensures.never_falls
        | inr above ↦
            let k_is : number ≡ k = omega (arith, low, above) in
            let row_is : other ≡ row = one_there c.args.loops.now number other row (ap (slice_get c.args.loops.now) k_is ∙ has_row) start in
            risen_before (g.N.Links.faults c.args.net.now) (g.N.Links.faults c.loop-number.net) (g.N.Links.faults c.settle_edge.new.net) before.never_falls
            (c.settle_edge.ensures.fault i place (ap (λ r. slice_get r.items i) (sym row_is) ∙ has_place) fault)
      ];
    }

pub returns-clause-carry : goal.returns-clause-carry
returns-clause-carry g c = λ tell e low. c.loop-number.invariant.carry tell e (let many = c.requires.ended.1.edges_are.many in omega (arith, low, many))

pub returns-clause-rest : goal.returns-clause-rest
returns-clause-rest g c = rows_settled c.args.rows.now c.loop-number.rows (λ s. c.loop-number.number ≤ s) (λ s. c.loop-number.number < s) c.loop-number.invariant.rows

pub returns-clause-snapshots : goal.returns-clause-snapshots
returns-clause-snapshots g c = snapshots_stay c.args.rows.now c.loop-number.rows (λ s. c.loop-number.number ≤ s) (λ s. c.loop-number.number < s) c.loop-number.invariant.rows

pub returns-clause-lent : goal.returns-clause-lent
returns-clause-lent g c = let many = c.requires.ended.1.edges_are.many in let lent = c.loop-number.invariant.lent in omega (arith, many, lent)

pub returns-clause-wires : goal.returns-clause-wires
returns-clause-wires g c =
    let many = c.requires.ended.1.edges_are.many in
    let all : c.loop-number.number ≡ suc (last_edge c.args.job.now) = omega (arith, many) in
    subst (λ (n : ℕ). RowsCameBack g.N.In.LinkIn.got g.N.In.LinkIn.ended (g.N.Links.wires c.args.net.now) (g.N.Links.wires c.loop-number.net) c.args.loops.now n) all c.loop-number.invariant.wires

pub returns-clause-fault : goal.returns-clause-fault
returns-clause-fault g c = λ f.
    let low = slice_get_within c.args.loops.now f.0 f.2.0 f.2.1.1 in
    let loops_many = c.requires.ended.1.loops_many in
    let many = c.requires.ended.1.edges_are.many in
    c.loop-number.invariant.fault f.0 f.1 f.2.0 f.2.1.0 (omega (arith, low, loops_many, many)) f.2.1.1 f.2.1.2 f.2.1.3
