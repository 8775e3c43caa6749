use Rattle.std.proofs.Common.{◌≡◌, ◌%◌, ◌^◌, ℕ, refl, ap, ◌∙◌, arith}
use Rattle.std.specs.List.{sum_by}
use Rattle.turn_tests.specs.Sums.{added_by}
use Rattle.fixtures.proofs.Dealt.{two_dealt, two_back, made_at, all_two}
use Rattle.turn_tests.proofs.threads.add_by_two.Goals as goal

pub add_in_two-a-requires-after_bounds : goal.add_in_two-a-requires-after_bounds
add_in_two-a-requires-after_bounds g c κs within =
    let cell = c.in-Ok.cell in let ps = c.in-Ok.passes.items in let a = c.take_last-a.result in let b = c.take_last-b.result in
    let dealt = two_dealt ps c.take_last-b.new.self.items c.take_last-a.new.self.items a b c.take_last-b.ensures.items c.take_last-a.ensures.items c.in-Ok.ensures.made.1 in
    ((made_at cell ps _ c.in-Ok.ensures.made.0 dealt.1 0 a refl).0, (made_at cell ps _ c.in-Ok.ensures.made.0 dealt.1 1 b refl).0)

pub end-requires : goal.end-requires
end-requires g c =
    let cell = c.in-Ok.cell in let ps = c.in-Ok.passes.items in let a = c.take_last-a.result in let b = c.take_last-b.result in
    let dealt = two_dealt ps c.take_last-b.new.self.items c.take_last-a.new.self.items a b c.take_last-b.ensures.items c.take_last-a.ensures.items c.in-Ok.ensures.made.1 in
    let back = two_back c.take_last-a.new.self.items c.give_back.new.passes.items c.give_back-2.new.passes.items c.add_in_two-a.result.0 c.add_in_two-a.result.1 dealt.0 c.give_back.ensures.items c.give_back-2.ensures.items in
    let made = made_at cell ps _ c.in-Ok.ensures.made.0 dealt.1 in let added = c.add_in_two-a.ensures in
    all_two cell c.give_back-2.new.passes.items c.add_in_two-a.result.0 c.add_in_two-a.result.1 back c.in-Ok.ensures.cell.1 (added.0.0, added.0.1 ∙ (made 0 a refl).1.0) (added.1.0, added.1.1 ∙ (made 1 b refl).1.0)

pub returns : goal.returns
returns g c =
    let cell = c.in-Ok.cell in let ps = c.in-Ok.passes.items in let a = c.take_last-a.result in let b = c.take_last-b.result in
    let dealt = two_dealt ps c.take_last-b.new.self.items c.take_last-a.new.self.items a b c.take_last-b.ensures.items c.take_last-a.ensures.items c.in-Ok.ensures.made.1 in
    let back = two_back c.take_last-a.new.self.items c.give_back.new.passes.items c.give_back-2.new.passes.items c.add_in_two-a.result.0 c.add_in_two-a.result.1 dealt.0 c.give_back.ensures.items c.give_back-2.ensures.items in
    let made = made_at cell ps _ c.in-Ok.ensures.made.0 dealt.1 in let added = c.add_in_two-a.ensures in
    let a0 : added_by a ≡ 0 = ap (sum_by (λ e. e.amount)) (made 0 a refl).1.2 in let b0 : added_by b ≡ 0 = ap (sum_by (λ e. e.amount)) (made 1 b refl).1.2 in
    let a1 = added.0.2 in let b1 = added.1.2 in
    let sum = ap (sum_by added_by) back in
    c.end.ensures ∙ ap (λ (n : ℕ). n % 2 ^ 64) (sum ∙ omega arith)
