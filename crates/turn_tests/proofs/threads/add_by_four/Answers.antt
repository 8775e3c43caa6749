use Rattle.std.proofs.Common.{rules, ◌≡◌, ◌%◌, ◌^◌, ℕ, refl, ap, ◌∙◌, arith}
use Rattle.std.specs.List.{sum_by}
use Rattle.turn_tests.specs.Sums.{added_by}
use Rattle.fixtures.proofs.Dealt.{four_dealt, four_back, made_at, all_four}
use Rattle.turn_tests.proofs.threads.add_by_four.Goals as goal

pub join-a-requires-after_bounds : goal.join-a-requires-after_bounds
join-a-requires-after_bounds g c κs within =
    let all = c.in-Ok.ensures.made in
    let dealt = four_dealt c.in-Ok.passes.items c.take_last-d.new.self.items c.take_last-c.new.self.items c.take_last-b.new.self.items c.take_last-a.new.self.items c.take_last-a.result c.take_last-b.result c.take_last-c.result c.take_last-d.result c.take_last-d.ensures.items c.take_last-c.ensures.items c.take_last-b.ensures.items c.take_last-a.ensures.items all.1 in
    let made = made_at c.in-Ok.cell c.in-Ok.passes.items _ all.0 dealt.1 in (
      (((made 0 c.take_last-a.result refl).0, (made 1 c.take_last-b.result refl).0), search rules),
      (((made 2 c.take_last-c.result refl).0, (made 3 c.take_last-d.result refl).0), search rules),
    )

pub end-requires : goal.end-requires
end-requires g c =
    let all = c.in-Ok.ensures.made in let a = c.join-a.result.0.0 in let b = c.join-a.result.0.1 in let x = c.join-a.result.1.0 in let y = c.join-a.result.1.1 in
    let dealt = four_dealt c.in-Ok.passes.items c.take_last-d.new.self.items c.take_last-c.new.self.items c.take_last-b.new.self.items c.take_last-a.new.self.items c.take_last-a.result c.take_last-b.result c.take_last-c.result c.take_last-d.result c.take_last-d.ensures.items c.take_last-c.ensures.items c.take_last-b.ensures.items c.take_last-a.ensures.items all.1 in
    let back = four_back c.take_last-a.new.self.items c.give_back.new.passes.items c.give_back-2.new.passes.items c.give_back-3.new.passes.items c.give_back-4.new.passes.items a b x y dealt.0 c.give_back.ensures.items c.give_back-2.ensures.items c.give_back-3.ensures.items c.give_back-4.ensures.items in
    let made = made_at c.in-Ok.cell c.in-Ok.passes.items _ all.0 dealt.1 in let one = c.join-a.ensures.first in let two = c.join-a.ensures.second in
    all_four c.in-Ok.cell c.give_back-4.new.passes.items a b x y back c.in-Ok.ensures.cell.1
    (one.0.0, one.0.1 ∙ (made 0 c.take_last-a.result refl).1.0) (one.1.0, one.1.1 ∙ (made 1 c.take_last-b.result refl).1.0) (two.0.0, two.0.1 ∙ (made 2 c.take_last-c.result refl).1.0) (two.1.0, two.1.1 ∙ (made 3 c.take_last-d.result refl).1.0)

pub returns : goal.returns
returns g c =
    let all = c.in-Ok.ensures.made in let a = c.join-a.result.0.0 in let b = c.join-a.result.0.1 in let x = c.join-a.result.1.0 in let y = c.join-a.result.1.1 in
    let dealt = four_dealt c.in-Ok.passes.items c.take_last-d.new.self.items c.take_last-c.new.self.items c.take_last-b.new.self.items c.take_last-a.new.self.items c.take_last-a.result c.take_last-b.result c.take_last-c.result c.take_last-d.result c.take_last-d.ensures.items c.take_last-c.ensures.items c.take_last-b.ensures.items c.take_last-a.ensures.items all.1 in
    let back = four_back c.take_last-a.new.self.items c.give_back.new.passes.items c.give_back-2.new.passes.items c.give_back-3.new.passes.items c.give_back-4.new.passes.items a b x y dealt.0 c.give_back.ensures.items c.give_back-2.ensures.items c.give_back-3.ensures.items c.give_back-4.ensures.items in
    let made = made_at c.in-Ok.cell c.in-Ok.passes.items _ all.0 dealt.1 in let one = c.join-a.ensures.first in let two = c.join-a.ensures.second in
    let a0 : added_by c.take_last-a.result ≡ 0 = ap (sum_by (λ e. e.amount)) (made 0 c.take_last-a.result refl).1.2 in let b0 : added_by c.take_last-b.result ≡ 0 = ap (sum_by (λ e. e.amount)) (made 1 c.take_last-b.result refl).1.2 in
    let x0 : added_by c.take_last-c.result ≡ 0 = ap (sum_by (λ e. e.amount)) (made 2 c.take_last-c.result refl).1.2 in let y0 : added_by c.take_last-d.result ≡ 0 = ap (sum_by (λ e. e.amount)) (made 3 c.take_last-d.result refl).1.2 in
    let a1 = one.0.2 in let b1 = one.1.2 in let x1 = two.0.2 in let y1 = two.1.2 in
    c.end.ensures ∙ ap (λ (n : ℕ). n % 2 ^ 64) (ap (sum_by added_by) back ∙ omega arith)
