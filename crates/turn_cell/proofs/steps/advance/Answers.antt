use Rattle.std.proofs.Common.{rules}
use Rattle.turn_cell.proofs.Turning.{ends}
use Rattle.turn_cell.proofs.steps.advance.Goals as goal

pub fetch_add-requires : goal.fetch_add-requires
fetch_add-requires g c = let state = c.requires.1.0 in let h = c.requires.1.1 in let of = h.0 in
    (of.0, search rules, ends g.S.Turned.stands g.S.Turned.fixed _ _ c.args.pass.now.seat.me state c.args.cell.now.table.shared.key (search rules) of.1 h.1 of.4 c.requires.1.2)
