use Rattle.std.proofs.Common.{replicate, [], Some, List, Option, sym, ap, subst}
use Rattle.atomic_table.specs.Table.{opening}
use Rattle.turn_cell.specs.declared.rule.Opening.{Opening}
use Rattle.turn_cell.specs.Rule.{Kept, newcomer}
use Rattle.turn_cell.proofs.Gathering.{opens}
use Rattle.turn_cell.proofs.make.first_seat.Goals as goal

pub new-requires : goal.new-requires
new-requires g c = let base : Opening g.row.S.Denot = record { state = c.of.result; passes = c.args.passes } in
    subst (λ (l : List (Option g.row.S.Denot)). Kept g.S.Turned.stands g.S.Turned.fixed (opening (replicate 19 0) l (newcomer 0 1 (Some base) []))) (sym c.in_ok-slots.ensures)
    (opens g.S.Turned.stands g.S.Turned.fixed c.args.state base c.requires.0 c.ranges.passes.fits c.requires.1 (ap g.S.Turned.fixed (sym c.of.ensures)))
