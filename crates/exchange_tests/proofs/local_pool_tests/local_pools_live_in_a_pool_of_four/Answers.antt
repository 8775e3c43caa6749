use Rattle.std.proofs.Common.{refl, sym, ◌∙◌, arith}
use Rattle.fixtures.proofs.Dealt.{two_dealt, two_back}
use Rattle.fixtures.proofs.PoolPasses.{two_made}
use Rattle.exchange_tests.proofs.PoolsClosed.{all_two, none_lent}
use Rattle.exchange_tests.proofs.local_pool_tests.local_pools_live_in_a_pool_of_four.Goals as goal

pub too_few-first-requires-clause-first : goal.too_few-first-requires-clause-first
too_few-first-requires-clause-first g c =
    let pool = c.in-Ok.pool in let ps = c.in-Ok.passes.items in let a = c.take_last-first.result in let b = c.take_last-second.result in
    let dealt = two_dealt ps c.take_last-second.new.self.items c.take_last-first.new.self.items a b c.take_last-second.ensures.items c.take_last-first.ensures.items c.in-Ok.ensures.opened.1 in
    let made = two_made pool ps a b c.in-Ok.ensures.made c.in-Ok.ensures.none_out dealt.1 in
    (made.0.0, made.0.2)

pub too_few-first-requires-clause-second : goal.too_few-first-requires-clause-second
too_few-first-requires-clause-second g c =
    let pool = c.in-Ok.pool in let ps = c.in-Ok.passes.items in let a = c.take_last-first.result in let b = c.take_last-second.result in
    let dealt = two_dealt ps c.take_last-second.new.self.items c.take_last-first.new.self.items a b c.take_last-second.ensures.items c.take_last-first.ensures.items c.in-Ok.ensures.opened.1 in
    let made = two_made pool ps a b c.in-Ok.ensures.made c.in-Ok.ensures.none_out dealt.1 in
    (made.1.0, made.1.2)

pub close-requires : goal.close-requires
close-requires g c =
    let pool = c.in-Ok.pool in let ps = c.in-Ok.passes.items in let a = c.take_last-first.result in let b = c.take_last-second.result in
    let dealt = two_dealt ps c.take_last-second.new.self.items c.take_last-first.new.self.items a b c.take_last-second.ensures.items c.take_last-first.ensures.items c.in-Ok.ensures.opened.1 in
    let made = two_made pool ps a b c.in-Ok.ensures.made c.in-Ok.ensures.none_out dealt.1 in
    let x = c.lend_and_take_back-first.result in let y = c.lend_by_turns-second.result in
    let back = two_back c.take_last-first.new.self.items c.give_back.new.passes.items c.give_back-2.new.passes.items x y dealt.0 c.give_back.ensures.items c.give_back-2.ensures.items in
    let first = c.lend_and_take_back-first.ensures in let second = c.lend_by_turns-second.ensures in let few = c.too_few-first.ensures in
    all_two pool c.give_back-2.new.passes.items x y back (sym c.in-Ok.ensures.made.0.0 ∙ c.in-Ok.ensures.opened.1)
    (first.0, first.1 ∙ (few.first.1 ∙ made.0.1), first.2) (second.0, second.1 ∙ (few.second.1 ∙ made.1.1), second.2)

pub unreachable-requires : goal.unreachable-requires
unreachable-requires g c =
    let pool = c.in-Ok.pool in let ps = c.in-Ok.passes.items in let a = c.take_last-first.result in let b = c.take_last-second.result in
    let dealt = two_dealt ps c.take_last-second.new.self.items c.take_last-first.new.self.items a b c.take_last-second.ensures.items c.take_last-first.ensures.items c.in-Ok.ensures.opened.1 in
    let made = two_made pool ps a b c.in-Ok.ensures.made c.in-Ok.ensures.none_out dealt.1 in
    let x = c.lend_and_take_back-first.result in let y = c.lend_by_turns-second.result in
    let back = two_back c.take_last-first.new.self.items c.give_back.new.passes.items c.give_back-2.new.passes.items x y dealt.0 c.give_back.ensures.items c.give_back-2.ensures.items in
    let first = c.lend_and_take_back-first.ensures in let second = c.lend_by_turns-second.ensures in let few = c.too_few-first.ensures in
    let none_lent_at_all = none_lent pool c.give_back-2.new.passes.items x y back
    (first.0, first.1 ∙ (few.first.1 ∙ made.0.1), first.2) (second.0, second.1 ∙ (few.second.1 ∙ made.1.1), second.2) in
    let some_lent = c.in-Err.ensures.exact.0 refl in
    omega arith
