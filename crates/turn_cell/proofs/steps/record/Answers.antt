use Rattle.std.proofs.Common.{rules}
use Rattle.turn_cell.proofs.Turning.{records, counts_more}
use Rattle.turn_cell.proofs.steps.record.Goals as goal

pub store-requires : goal.store-requires
store-requires g c = let of = c.requires.0 in let count = counts_more c.args.pass.now.entries c.saturating_add-pass.result c.args.pass.now.seat.me.0.seen (c.args.pass.now.seat.me.0.number, g.E.Named.entry) c.requires.2 c.saturating_add-pass.ensures in
    (of.0, search rules, records g.S.Turned.stands g.S.Turned.fixed g.E.Named.entry _ _ _ c.args.pass.now.seat.me c.requires.1 of.3 count)
