use Rattle.std.proofs.Common.{rules}
use Rattle.turn_cell.proofs.Turning.{draws}
use Rattle.turn_cell.proofs.steps.draw.Goals as goal

pub fetch_add-requires : goal.fetch_add-requires
fetch_add-requires g c = let of = c.requires.0 in
    (of.0, search rules, draws g.S.Turned.stands g.S.Turned.fixed _ _ c.args.pass.now.seat.me c.requires.1 of.2)
