use Rattle.std.proofs.Common.{◌++◌, refl, sym, ap, ◌∙◌, subst, IsSome, Option}
use Rattle.std.proofs.lemmas.Option.{same_Some}
use Rattle.std.specs.Option.{option_to_list}
use Rattle.turn_cell.specs.Closing.{IsWhole}
use Rattle.turn_cell.proofs.Closing.{last_of, others_of, wholes, slot_is}
use Rattle.turn_cell.proofs.cell.TurnCell.close.Goals as goal

pub gather_all-requires-clause-pass : goal.gather_all-requires-clause-pass
gather_all-requires-clause-pass g c = let rest = c.pop.new.self.items in
    let e = c.pop.ensures.items ∙ ap (λ o. rest ++ option_to_list o) c.unwrap-last.ensures in
    let l = last_of c.args.self c.args.passes.items rest c.unwrap-last.result e c.requires in let of = l.0.0 in
    (of.0, of.1, of.2, of.4, l.0.1)

pub gather_all-requires-clause-others : goal.gather_all-requires-clause-others
gather_all-requires-clause-others g c = let rest = c.pop.new.self.items in
    let e = c.pop.ensures.items ∙ ap (λ o. rest ++ option_to_list o) c.unwrap-last.ensures in
    others_of c.args.self c.args.passes.items rest c.unwrap-last.result e c.requires

pub unwrap-requires : goal.unwrap-requires
unwrap-requires g c = let rest = c.pop.new.self.items in
    let e = c.pop.ensures.items ∙ ap (λ o. rest ++ option_to_list o) c.unwrap-last.ensures in
    let w = wholes g.S.Turned.stands g.S.Turned.fixed c.args.self c.args.passes.items rest c.unwrap-last.result c.gather_all.new.pass c.into_seat.result _ _ e c.requires c.gather_all.ensures.same.0 c.gather_all.ensures.same.1 c.gather_all.ensures.all c.into_seat.ensures c.close_with-closed.ensures.values.2 in
    let slot = slot_is g.S.Turned.stands g.S.Turned.fixed _ c.take-slot.result w.0 c.take-slot.ensures.value w.1 in
    subst (λ (o : Option g.row.S.Denot). IsSome o) (sym slot) refl

pub returns : goal.returns
returns g c = let rest = c.pop.new.self.items in
    let e = c.pop.ensures.items ∙ ap (λ o. rest ++ option_to_list o) c.unwrap-last.ensures in
    let w = wholes g.S.Turned.stands g.S.Turned.fixed c.args.self c.args.passes.items rest c.unwrap-last.result c.gather_all.new.pass c.into_seat.result _ _ e c.requires c.gather_all.ensures.same.0 c.gather_all.ensures.same.1 c.gather_all.ensures.all c.into_seat.ensures c.close_with-closed.ensures.values.2 in
    let slot = slot_is g.S.Turned.stands g.S.Turned.fixed _ c.take-slot.result w.0 c.take-slot.ensures.value w.1 in
    subst (IsWhole g.S.Turned.stands g.S.Turned.fixed c.args.self c.args.passes.items) (same_Some _ _ (sym slot ∙ c.unwrap.ensures)) w.2
