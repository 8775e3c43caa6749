use Rattle.std.proofs.Common.{rules, ◌∙◌, ap}
use Rattle.turn_cell.proofs.Gathering.{joins}
use Rattle.turn_cell.proofs.gather.gather.Goals as goal

pub join_seat-requires : goal.join_seat-requires
join_seat-requires g c = let o = c.requires.1 in let is = c.into_seat.ensures in (
  c.requires.0.0,
  ap (λ s. s.table_id) is ∙ o.0.0,
  ap (λ s. s.me.1) is ∙ o.0.1,
  search rules,
  joins g.S.Turned.stands g.S.Turned.fixed _ c.args.pass.now.seat.me.0 _ c.into_seat.result.me.0 (ap (λ s. s.me.0.live) is ∙ o.0.2) (ap (λ s. s.me.0.stage) is ∙ o.1) (ap (λ s. s.me.0.gathered) is ∙ o.0.3),
)
