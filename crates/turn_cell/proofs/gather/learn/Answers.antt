use Rattle.std.proofs.Common.{rules, ◌∙◌, ap, sym}
use Rattle.turn_cell.specs.History.{by}
use Rattle.turn_cell.proofs.Gathering.{learns}
use Rattle.turn_cell.proofs.gather.learn.Goals as goal

pub load-pass-requires : goal.load-pass-requires
load-pass-requires g c = let idle = c.requires in (idle.0, search rules, learns g.S.Turned.stands g.S.Turned.fixed _ _ c.args.pass.now.seat.me idle.2 idle.4)

pub returns-clause-history : goal.returns-clause-history
returns-clause-history g c = let met = c.load-pass.ensures.2 in let is = met.1 in (
  (met.3.0, ap (λ m. m.0.seen) is ∙ met.3.1),
  ap (λ m. by m.0.number m.0.seen) is ∙ (met.4 ∙ sym (ap (λ m. m.0.mine) is)),
  λ p has. let h = met.5 p has in ((h.0.0, ap (λ m. m.0.seen) is ∙ h.0.1), ap (λ m. by p.number m.0.seen) is ∙ h.1),
)
