use Rattle.std.proofs.Common.{rules}
use Rattle.turn_cell.proofs.Gathering.{releases}
use Rattle.turn_cell.proofs.gather.release.Goals as goal

pub split_seat-seat-requires : goal.split_seat-seat-requires
split_seat-seat-requires g c = let idle = c.requires.0 in let only = c.requires.1 in
    (idle.0, search rules, releases g.S.Turned.stands g.S.Turned.fixed _ c.args.pass.now.seat.me.0 only.0 idle.2 only.1 idle.4)
