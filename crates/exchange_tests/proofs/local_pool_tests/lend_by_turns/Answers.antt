use Rattle.std.proofs.Common.{◌++◌, ◌∷◌, [], refl, ap, ◌∙◌}
use Rattle.fixtures.proofs.Dealt.{one_dealt, made_at, all_one}
use Rattle.exchange_tests.proofs.local_pool_tests.lend_by_turns.Goals as goal

pub lend_in_a_turn-place-requires : goal.lend_in_a_turn-place-requires
lend_in_a_turn-place-requires g c =
    let cell = c.in-Ok-new.cell in let ps = c.in-Ok-new.places.items in let made = c.in-Ok-new.ensures.made in let place = c.take_last-place.result in
    let dealt = one_dealt ps c.take_last-place.new.self.items place c.take_last-place.ensures.items made.1 in
    (made_at cell ps _ made.0 dealt.1 0 place refl).0

pub close-requires : goal.close-requires
close-requires g c =
    let cell = c.in-Ok-new.cell in let ps = c.in-Ok-new.places.items in let made = c.in-Ok-new.ensures.made in
    let dealt = one_dealt ps c.take_last-place.new.self.items c.take_last-place.result c.take_last-place.ensures.items made.1 in
    let place = c.lend_in_a_turn-place.result in let back = c.lend_in_a_turn-place.ensures in
    all_one cell c.give_back.new.passes.items place (c.give_back.ensures.items ∙ ap (λ x. x ++ place ∷ []) dealt.0) c.in-Ok-new.ensures.cell.1
    (back.0, back.1 ∙ (made_at cell ps _ made.0 dealt.1 0 c.take_last-place.result refl).1.0)
