use Rattle.std.proofs.Common.{◌≡◌, ◌++◌, ◌∷◌, [], ◌%◌, ◌^◌, ℕ, refl, ap, ◌∙◌, arith}
use Rattle.std.specs.List.{sum_by}
use Rattle.turn_tests.specs.Sums.{added_by}
use Rattle.fixtures.proofs.Dealt.{one_dealt, made_at, all_one}
use Rattle.turn_tests.proofs.threads.add_by_one.Goals as goal

pub add_many-pass-requires : goal.add_many-pass-requires
add_many-pass-requires g c = let one = c.in-Ok.ensures in
    let dealt = one_dealt c.in-Ok.passes.items c.take_last-pass.new.self.items c.take_last-pass.result c.take_last-pass.ensures.items one.made.1 in
    (made_at c.in-Ok.cell c.in-Ok.passes.items _ one.made.0 dealt.1 0 c.take_last-pass.result refl).0

pub end-requires : goal.end-requires
end-requires g c = let one = c.in-Ok.ensures in let pass = c.add_many-pass.result in let back = c.add_many-pass.ensures in
    let dealt = one_dealt c.in-Ok.passes.items c.take_last-pass.new.self.items c.take_last-pass.result c.take_last-pass.ensures.items one.made.1 in
    all_one c.in-Ok.cell c.give_back.new.passes.items pass (c.give_back.ensures.items ∙ ap (λ x. x ++ pass ∷ []) dealt.0) one.cell.1 (back.0, back.1 ∙ (made_at c.in-Ok.cell c.in-Ok.passes.items _ one.made.0 dealt.1 0 c.take_last-pass.result refl).1.0)

pub returns : goal.returns
returns g c = let one = c.in-Ok.ensures in let pass = c.add_many-pass.result in let added = c.add_many-pass.ensures.2 in
    let dealt = one_dealt c.in-Ok.passes.items c.take_last-pass.new.self.items c.take_last-pass.result c.take_last-pass.ensures.items one.made.1 in
    let back = c.give_back.ensures.items ∙ ap (λ x. x ++ pass ∷ []) dealt.0 in
    let none : added_by c.take_last-pass.result ≡ 0 = ap (sum_by (λ e. e.amount)) (made_at c.in-Ok.cell c.in-Ok.passes.items _ one.made.0 dealt.1 0 c.take_last-pass.result refl).1.2 in
    c.end.ensures ∙ ap (λ (n : ℕ). n % 2 ^ 64) (ap (sum_by added_by) back ∙ omega arith)
