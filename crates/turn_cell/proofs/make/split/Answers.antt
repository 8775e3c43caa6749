use Rattle.std.proofs.Common.{rules, arith}
use Rattle.turn_cell.proofs.Gathering.{splits}
use Rattle.turn_cell.proofs.make.split.Goals as goal

pub split_seat-seat-requires : goal.split_seat-seat-requires
split_seat-seat-requires g c = let of = c.requires.first.0.0 in let made = c.requires.first.2 in let room = c.requires.room in let more = room.0 in let less = room.1 in
    (of.0, search rules, splits g.S.Turned.stands g.S.Turned.fixed _ c.args.first.now.seat.me.0 c.args.cell.now.table.shared.key of.2 (omega arith) of.4 (omega arith))
