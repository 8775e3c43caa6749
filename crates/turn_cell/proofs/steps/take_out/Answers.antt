use Rattle.std.proofs.Common.{rules, ◌∷◌, sym, ap, ◌∙◌, Some}
use Rattle.atomic_table.specs.Table.{rest}
use Rattle.turn_cell.proofs.Turning.{counts}
use Rattle.turn_cell.proofs.steps.take_out.Goals as goal

pub exchange-requires : goal.exchange-requires
exchange-requires g c = let of = c.requires.1.0 in
    (of.0, (Some c.requires.0, of.1 ∙ ap (λ l. (0, Some c.requires.0) ∷ l) (sym (ap rest of.1))))

pub load-pass-requires : goal.load-pass-requires
load-pass-requires g c = let of = c.requires.1.0 in let is = c.exchange.ensures in
    (search rules, search rules, counts g.S.Turned.stands g.S.Turned.fixed _ _ c.exchange.new.seat.me (search rules))
