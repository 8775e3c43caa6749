use Rattle.std.proofs.Common.{rules}
use Rattle.turn_cell.proofs.Gathering.{lays_off}
use Rattle.turn_cell.proofs.gather.lay_off.Goals as goal

pub split_seat-seat-requires : goal.split_seat-seat-requires
split_seat-seat-requires g c = (c.requires.0.0, search rules, lays_off g.S.Turned.stands g.S.Turned.fixed _ c.args.pass.now.seat.me.0)
