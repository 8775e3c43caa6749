use Rattle.std.proofs.Common.{◌≡◌, ◌+◌, ◌*◌, [], ◌∷◌, ◌++◌, suc, length, Some, refl, sym, ap, ◌∙◌, arith}
use Rattle.std.specs.Prelude.{slice_get}
use Rattle.flow_defs.specs.Jobs.{last_edge, tasks}
use Rattle.job_deploy.specs.Making.{AreSharesAt}
use Rattle.job_deploy.proofs.Edges.{wired}
use Rattle.job_deploy.proofs.Orders.{turned_none}
use Rattle.job_deploy.proofs.Taking.{fewer_more, tasks_kept}
use Rattle.job_deploy.proofs.Workers.{first_row, share_more}
use Rattle.job_deploy.proofs.prepare.last_made.Goals as goal

pub item_at-edge-requires : goal.item_at-edge-requires
item_at-edge-requires g c = let s = ap length c.as_slice-last.ensures in let m = c.requires.edges.many in omega (arith, s, m)

pub aggregate_row-requires-clause-takers : goal.aggregate_row-requires-clause-takers
aggregate_row-requires-clause-takers g c =
    let job = c.args.job.now in let edge = c.item_at-edge.result.now in
    let stands : slice_get c.args.edges.now (last_edge job) ≡ Some edge = ap (slice_get c.args.edges.now) (sym (ap length c.as_slice-last.ensures)) ∙ c.item_at-edge.ensures in
    let ends = c.ends_of-ends.ensures job (last_edge job) c.args.size edge (c.requires.edges.each (last_edge job) edge stands) (c.requires.passes edge stands) in
    (record { edge = edge; stands = stands; are = ends.takers }, ends.takers_all)

pub aggregate_row-requires-clause-stops : goal.aggregate_row-requires-clause-stops
aggregate_row-requires-clause-stops g c = (c.requires.stops.0, (let s = c.requires.stops.1 in omega (arith, s)))

pub shares_of-requires-clause-edge : goal.shares_of-requires-clause-edge
shares_of-requires-clause-edge g c =
    let job = c.args.job.now in let edge = c.item_at-edge.result.now in
    let stands : slice_get c.args.edges.now (last_edge job) ≡ Some edge = ap (slice_get c.args.edges.now) (sym (ap length c.as_slice-last.ensures)) ∙ c.item_at-edge.ensures in
    wired job (last_edge job) c.args.size edge c.requires.is_job (omega arith) (c.requires.edges.each (last_edge job) edge stands)

pub shares_of-requires-clause-passes : goal.shares_of-requires-clause-passes
shares_of-requires-clause-passes g c =
    let job = c.args.job.now in let edge = c.item_at-edge.result.now in
    let stands : slice_get c.args.edges.now (last_edge job) ≡ Some edge = ap (slice_get c.args.edges.now) (sym (ap length c.as_slice-last.ensures)) ∙ c.item_at-edge.ensures in
    (c.ends_of-ends.ensures job (last_edge job) c.args.size edge (c.requires.edges.each (last_edge job) edge stands) (c.requires.passes edge stands)).loops

pub shares_of-requires-clause-stops : goal.shares_of-requires-clause-stops
shares_of-requires-clause-stops g c =
    let f = c.in_ok-row.ensures.stops in (f.are, (let l = f.fewer in let s = c.requires.stops.1 in omega (arith, l, s)))

pub returns-clause-made : goal.returns-clause-made
returns-clause-made g c =
    let job = c.args.job.now in let edges = c.args.edges.now in let edge = c.item_at-edge.result.now in let last = last_edge job in
    let stands : slice_get edges last ≡ Some edge = ap (slice_get edges) (sym (ap length c.as_slice-last.ensures)) ∙ c.item_at-edge.ensures in
    let ends = c.ends_of-ends.ensures job last c.args.size edge (c.requires.edges.each last edge stands) (c.requires.passes edge stands) in
    let row = c.in_ok-row.row in let share = c.in_ok-share.share in
    let one : c.push.new.self.items ≡ row ∷ [] = c.in_ok-push.ensures.ok ∙ ap (λ l. l ++ row ∷ []) c.new-rows.ensures in
    let two : c.push-2.new.self.items ≡ [] ++ share ∷ [] = c.in_ok-push-2.ensures.ok ∙ ap (λ l. l ++ share ∷ []) c.new-shares.ensures in
    record {
      senders = record { edge = edge; stands = stands; are = ends.senders };
      senders_all = ends.senders_all;
      rows_many = (let l = ap length one in omega (arith, l));
      rows = first_row job c.args.size c.args.shared.now.every c.args.shared.now.snapshots.now edges c.push.new.self.items row one c.in_ok-row.ensures.row;
      shares_many = (let l = ap length two in omega (arith, l));
      shares = share_more edges (suc last) last [] c.push-2.new.self.items share (omega arith) two (turned_none (AreSharesAt edges) (suc last) [] refl) (record { edge = edge; stands = stands; are = c.in_ok-share.ensures.shares });
    }

pub returns-clause-stops : goal.returns-clause-stops
returns-clause-stops g c =
    let n = 2 * tasks c.args.job.now (suc (last_edge c.args.job.now)) in
    fewer_more n 4 (n + 4) c.args.shared.now c.aggregate_row.new.shared c.shares_of.new.shared refl c.in_ok-row.ensures.stops c.in_ok-share.ensures.stops

pub returns-clause-theirs : goal.returns-clause-theirs
returns-clause-theirs g c = tasks_kept c.args.job.now _ c.aggregate_row.new.shared c.shares_of.new.shared c.in_ok-share.ensures.stops.stayed c.in_ok-share.ensures.theirs c.in_ok-row.ensures.theirs
