use Rattle.std.proofs.Common.{◌≡◌, ◌+◌, ◌*◌, suc, length, refl, sym, ap, subst, ◌∙◌, arith}
use Rattle.std.proofs.lemmas.List.{length_push}
use Rattle.flow_defs.specs.Jobs.{last_edge, tasks}
use Rattle.job_deploy.specs.declared.senders.Senders.{Senders}
use Rattle.job_deploy.specs.Lending.{AreSendersAt}
use Rattle.job_deploy.specs.Placing.{AreSenders}
use Rattle.job_deploy.proofs.Edges.{wired}
use Rattle.job_deploy.proofs.Taking.{fewer_more, tasks_kept}
use Rattle.job_deploy.proofs.Workers.{row_more, share_more}
use Rattle.job_deploy.proofs.prepare.Made.add.Goals as goal

pub stage_row-requires-clause-takers : goal.stage_row-requires-clause-takers
stage_row-requires-clause-takers g c =
    let job = c.args.job.now in let edge = c.item_at-edge.result.now in let e = c.args.e in let stands = c.item_at-edge.ensures in
    let ends = c.ends_of-ends.ensures job e c.args.size edge (c.requires.edges.each e edge stands) (c.requires.passes edge stands) in
    (record { edge = edge; stands = stands; are = ends.takers }, ends.takers_all)

pub stage_row-requires-clause-senders : goal.stage_row-requires-clause-senders
stage_row-requires-clause-senders g c =
    let job = c.args.job.now in let made = c.requires.made in
    subst (λ (s : Senders). AreSendersAt job c.args.edges.now (suc c.args.e) s × (length s.own.items ≡ tasks job (suc c.args.e))) (sym c.replace-next.ensures.value) (made.senders, made.senders_all)

pub shares_of-requires-clause-edge : goal.shares_of-requires-clause-edge
shares_of-requires-clause-edge g c =
    let edge = c.item_at-edge.result.now in let low = c.requires.is_job.1 in
    wired c.args.job.now c.args.e c.args.size edge c.requires.is_job.0 (omega (arith, low)) (c.requires.edges.each c.args.e edge c.item_at-edge.ensures)

pub shares_of-requires-clause-passes : goal.shares_of-requires-clause-passes
shares_of-requires-clause-passes g c =
    let edge = c.item_at-edge.result.now in let e = c.args.e in let stands = c.item_at-edge.ensures in
    (c.ends_of-ends.ensures c.args.job.now e c.args.size edge (c.requires.edges.each e edge stands) (c.requires.passes edge stands)).loops

pub shares_of-requires-clause-stops : goal.shares_of-requires-clause-stops
shares_of-requires-clause-stops g c =
    let f = c.in_ok-row.ensures.stops in (f.are, (let l = f.fewer in let s = c.requires.stops.1 in omega (arith, l, s)))

pub returns-clause-made : goal.returns-clause-made
returns-clause-made g c =
    let job = c.args.job.now in let edges = c.args.edges.now in let e = c.args.e in let edge = c.item_at-edge.result.now in let stands = c.item_at-edge.ensures in
    let ends = c.ends_of-ends.ensures job e c.args.size edge (c.requires.edges.each e edge stands) (c.requires.passes edge stands) in
    let before = c.requires.made in let old = c.args.self.now in
    let row = c.in_ok-row.row in let share = c.in_ok-share.share in
    record {
      senders = record { edge = edge; stands = stands; are = subst (λ (s : Senders). AreSenders job e edge s) (sym c.replace-next.ensures.after) ends.senders };
      senders_all = ap (λ (s : Senders). length s.own.items) c.replace-next.ensures.after ∙ ends.senders_all;
      rows_many = (let l = ap length c.in_ok-push.ensures.ok ∙ length_push old.rows.items row in let m = before.rows_many in omega (arith, l, m));
      rows = row_more job c.args.size c.args.shared.now.every c.args.shared.now.snapshots.now edges e old.rows.items c.push.new.self.items row c.requires.is_job.1 before.rows_many c.in_ok-push.ensures.ok before.rows c.in_ok-row.ensures.row;
      shares_many = (let l = ap length c.in_ok-push-2.ensures.ok ∙ length_push old.shares.items share in let m = before.shares_many in omega (arith, l, m));
      shares = share_more edges (suc (last_edge job)) e old.shares.items c.push-2.new.self.items share before.shares_many c.in_ok-push-2.ensures.ok before.shares (record { edge = edge; stands = stands; are = c.in_ok-share.ensures.shares });
    }

pub returns-clause-stops : goal.returns-clause-stops
returns-clause-stops g c =
    let n = 2 * tasks c.args.job.now (suc c.args.e) in
    fewer_more n 4 (n + 4) c.args.shared.now c.stage_row.new.shared c.shares_of.new.shared refl c.in_ok-row.ensures.stops c.in_ok-share.ensures.stops

pub returns-clause-theirs : goal.returns-clause-theirs
returns-clause-theirs g c = tasks_kept c.args.job.now _ c.stage_row.new.shared c.shares_of.new.shared c.in_ok-share.ensures.stops.stayed c.in_ok-share.ensures.theirs c.in_ok-row.ensures.theirs
