use Rattle.std.proofs.Common.{◌≡◌, ℕ, ◌+◌, ◌≤◌, [], length, sym, ap, subst, ◌∙◌, arith}
use Rattle.std.specs.Prelude.{slice_get}
use Rattle.std.proofs.lemmas.List.{length_push}
use Rattle.flow_defs.specs.Jobs.{last_edge}
use Rattle.segment_pool.specs.Pools.{size_of}
use Rattle.job_cells.specs.declared.edge.Edge.{Edge}
use Rattle.job_cells.specs.declared.edge.EdgePasses.{EdgePasses}
use Rattle.job_cells.specs.declared.span.Span.{Span}
use Rattle.job_cells.specs.Edges.{IsEdgeOf, ArePassesOf}
use Rattle.job_cells.specs.Grants.{wants_of}
use Rattle.job_cells.specs.Parts.{AreParts, HaveShares}
use Rattle.job_cells.specs.Spans.{span_on}
use Rattle.job_cells.proofs.LendLaws.{may_at_first}
use Rattle.job_cells.proofs.Lists.{each_push, pairs_push}
use Rattle.job_cells.proofs.PartLaws.{gates_wanted, partitions_wanted, at_more}
use Rattle.job_cells.proofs.open.open_edges.Goals as goal

pub loop-e-init : goal.loop-e-init
loop-e-init g c =
    let lender = c.new-lender.ensures in let grants = c.requires.grants in
    record {
      may = may_at_first c.args.job.now c.args.pool.now c.args.grants c.new-lender.result c.requires.is_job grants lender.passes lender.same.0 lender.same.1 lender.given;
      at = record { wants = lender.same.0 ∙ grants.wants; given = lender.given };
      many_edges = ap length c.new-edges.ensures;
      edge = λ k edge at. let none : slice_get c.new-edges.result.items k ≡ slice_get [] k = ap (λ l. slice_get l k) c.new-edges.ensures in absurd (cc);
      many_passes = ap length c.new-all.ensures;
      passes = λ k edge passes at at'. let none : slice_get c.new-edges.result.items k ≡ slice_get [] k = ap (λ l. slice_get l k) c.new-edges.ensures in absurd (cc);
    }

pub parts_of-requires-clause-wants : goal.parts_of-requires-clause-wants
parts_of-requires-clause-wants g c =
    let end = c.edges-e-end.ensures in let low = c.loop-e-test.true in
    gates_wanted c.args.job.now c.loop-e.e c.span_of.result c.loop-e.lender (omega (arith, end, low)) c.span_of.ensures.is c.loop-e.invariant.at

pub parts_of-requires-clause-partition_wants : goal.parts_of-requires-clause-partition_wants
parts_of-requires-clause-partition_wants g c =
    let end = c.edges-e-end.ensures in let low = c.loop-e-test.true in
    partitions_wanted c.args.job.now c.loop-e.e c.span_of.result c.loop-e.lender (omega (arith, end, low)) c.span_of.ensures.is c.loop-e.invariant.at

pub loop-e-preserved : goal.loop-e-preserved
loop-e-preserved g c =
    let before = c.loop-e.invariant in let job = c.args.job.now in let e = c.loop-e.e in let size = size_of c.args.pool.now in
    let edges = c.loop-e.edges.items in let all = c.loop-e.all.items in
    let edge = c.edge_of-edge.result.0 in let passes = c.edge_of-edge.result.1 in
    let end = c.edges-e-end.ensures in let test = c.loop-e-test.true in
    let low : e ≤ last_edge job = omega (arith, end, test) in
    let is = c.span_of.ensures.is in let lent = c.in_ok-parts.ensures.lender in
    let are : AreParts (span_on job e) size c.in_ok-parts.parts = subst (λ (s : Span). AreParts s size c.in_ok-parts.parts) is c.in_ok-parts.ensures.parts in
    let shares : HaveShares (span_on job e) (wants_of job) c.in_ok-parts.parts =
    subst (λ (s : Span). HaveShares s (wants_of job) c.in_ok-parts.parts) is (subst (λ ws. HaveShares c.span_of.result ws c.in_ok-parts.parts) before.at.wants c.in_ok-parts.ensures.shares) in
    let many = before.many_edges in let same = before.many_passes in
    let one = c.in_ok-push.ensures.ok in let two = c.in_ok-push-2.ensures.ok in
    record {
      may = lent.0;
      at = at_more job e c.span_of.result c.loop-e.lender c.parts_of.new.lender is before.at lent.1;
      many_edges = ap length one ∙ length_push edges edge ∙ ap (λ n. n + 1) many;
      edge = λ k found at.
          each_push (λ j (x : Edge). IsEdgeOf job j size x) edges edge before.edge
          (subst (λ (j : ℕ). IsEdgeOf job j size edge) (sym many) (c.edge_of-edge.ensures.edge job e size c.requires.is_job low are shares))
          k found (ap (λ l. slice_get l k) (sym one) ∙ at);
      many_passes = ap length two ∙ length_push all passes ∙ ap (λ n. n + 1) same;
      passes = λ k found own at at'.
          pairs_push (λ j (x : Edge) (y : EdgePasses). ArePassesOf job j x y) edges all edge passes (same ∙ sym many) before.passes
          (subst (λ (j : ℕ). ArePassesOf job j edge passes) (sym many) (c.edge_of-edge.ensures.passes job e size c.requires.is_job low are))
          k found own (ap (λ l. slice_get l k) (sym one) ∙ at) (ap (λ l. slice_get l k) (sym two) ∙ at');
    }
