use Rattle.std.proofs.Common.{rules}
use Rattle.turn_cell.proofs.Turning.{stirs}
use Rattle.turn_cell.proofs.steps.wake_next.Goals as goal

pub fetch_add-requires : goal.fetch_add-requires
fetch_add-requires g c = let of = c.requires.0 in
    (of.0, search rules, stirs g.S.Turned.stands g.S.Turned.fixed _ _ _ c.args.pass.now.seat.me c.bed_of-bed.ensures.0 c.bed_of-bed.ensures.1)
