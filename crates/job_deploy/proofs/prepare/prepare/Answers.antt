use Rattle.std.proofs.Common.{◌≡◌, suc, List, length, sym, ap, subst, ◌∙◌, arith}
use Rattle.flow_defs.specs.Jobs.{last_edge}
use Rattle.job_deploy.specs.Making.{AreSharesAt, IsRowAt}
use Rattle.job_deploy.specs.Lending.{AreLent, AreTurned}
use Rattle.job_deploy.proofs.Orders.{in_order, length_turned}
use Rattle.job_deploy.proofs.Taking.{all_shared, as_before}
use Rattle.job_deploy.proofs.prepare.prepare.Goals as goal

pub sources_lent-requires-clause-senders : goal.sources_lent-requires-clause-senders
sources_lent-requires-clause-senders g c = (c.in_ok-made.ensures.made.senders, c.in_ok-made.ensures.made.senders_all)

pub all_made-requires-clause-stops : goal.all_made-requires-clause-stops
all_made-requires-clause-stops g c = (c.requires.shared.stops, c.requires.shared.stops_enough)

pub all_made-requires-clause-theirs : goal.all_made-requires-clause-theirs
all_made-requires-clause-theirs g c = all_shared c.args.job.now c.args.shared.now c.requires.shared

pub returns : goal.returns
returns g c =
    let job = c.args.job.now in let edges = c.args.edges.now in let made = c.in_ok-made.ensures.made in
    let last = last_edge job in let first = c.args.shared.now in
    let shares_many : length c.in_ok-made.made.shares.items ≡ suc last = (let m = made.shares_many in omega (arith, m)) in
    record {
      lents = as_before (λ every snapshots. AreLent job c.args.size every snapshots edges c.in_ok-lents.lents.items) first c.all_made.new.shared c.in_ok-made.ensures.stayed c.in_ok-lents.ensures.lent;
      sources = (c.reserve-2.ensures.items ∙ c.new-sources.ensures, (let r = c.in_ok-reserve-2.ensures.ok in let t = c.tasks.ensures.is in omega (arith, r, t)));
      rows_many = ap length c.reserve.ensures.items ∙ (let m = made.rows_many in omega (arith, m));
      rows = subst (λ (l : List _). AreTurned (IsRowAt job c.args.size first.every first.snapshots.now edges) (suc (suc last)) l) (sym c.reserve.ensures.items) made.rows;
      rows_room = c.in_ok-reserve.ensures.ok;
      shares_many = length_turned c.in_ok-made.made.shares.items c.turned.result.items c.turned.ensures ∙ shares_many;
      shares = in_order (AreSharesAt edges) (suc last) c.in_ok-made.made.shares.items c.turned.result.items c.turned.ensures shares_many made.shares;
      loops = (c.reserve-3.ensures.items ∙ c.new-loops.ensures, (let r = c.in_ok-reserve-3.ensures.ok in let t = c.edges.ensures in omega (arith, r, t)));
    }
