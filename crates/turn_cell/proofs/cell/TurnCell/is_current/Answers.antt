use Rattle.std.proofs.Common.{rules}
use Rattle.turn_cell.proofs.Turning.{glances}
use Rattle.turn_cell.proofs.cell.TurnCell.is_current.Goals as goal

pub load-found-requires : goal.load-found-requires
load-found-requires g c = let of = c.requires.0 in
    (of.0, search rules, glances g.S.Turned.stands g.S.Turned.fixed _ _ c.args.pass.now.seat.me of.2 of.3 c.requires.1)
