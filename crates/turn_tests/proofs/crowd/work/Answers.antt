use Rattle.std.proofs.Common.{refl, ap, ◌∙◌, ◌++◌, ◌∷◌, []}
use Rattle.fixtures.proofs.Dealt.{one_dealt, made_at, all_one}
use Rattle.turn_tests.proofs.crowd.work.Goals as goal

pub loop-round-init : goal.loop-round-init
loop-round-init g c = let one = c.in-Ok.ensures in
    let dealt = one_dealt c.in-Ok.passes.items c.take_last-own_pass.new.self.items c.take_last-own_pass.result c.take_last-own_pass.ensures.items one.made.1 in
    record { own = (made_at c.in-Ok.own c.in-Ok.passes.items _ one.made.0 dealt.1 0 c.take_last-own_pass.result refl).0; own_number = refl; shared = c.requires; shared_number = refl }

pub close-requires : goal.close-requires
close-requires g c = let one = c.in-Ok.ensures in let pass = c.loop-round.own_pass in let back = c.loop-round.invariant in
    let dealt = one_dealt c.in-Ok.passes.items c.take_last-own_pass.new.self.items c.take_last-own_pass.result c.take_last-own_pass.ensures.items one.made.1 in
    all_one c.in-Ok.own c.give_back.new.passes.items pass (c.give_back.ensures.items ∙ ap (λ x. x ++ pass ∷ []) dealt.0) one.cell.1
    (back.own, back.own_number ∙ (made_at c.in-Ok.own c.in-Ok.passes.items _ one.made.0 dealt.1 0 c.take_last-own_pass.result refl).1.0)
