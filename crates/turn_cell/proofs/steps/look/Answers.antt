use Rattle.std.proofs.Common.{rules}
use Rattle.turn_cell.proofs.Turning.{looks}
use Rattle.turn_cell.proofs.steps.look.Goals as goal

pub load-requires : goal.load-requires
load-requires g c = let of = c.requires.0 in
    (of.0, search rules, looks g.S.Turned.stands g.S.Turned.fixed _ _ c.args.pass.now.seat.me c.requires.1 of.1 of.3)
