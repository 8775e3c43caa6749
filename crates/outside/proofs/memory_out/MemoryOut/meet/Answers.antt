use Rattle.std.proofs.Common.{ap, sym, subst, ◌∙◌, Some}
use Rattle.turn_cell.specs.History.{by, StartsWith}
use Rattle.turn_cell.specs.Passes.{IsPassOf, mine, seen}
use Rattle.outside.specs.Links.{HasMet}
use Rattle.outside.specs.MemoryLinks.{OutState, InState}
use Rattle.outside.specs.Rings.{bytes_written, has_finished}
use Rattle.outside.proofs.Rings.{own_of, keeps_front, met}
use Rattle.outside.proofs.memory_out.MemoryOut.meet.Goals as goal

pub invariant_of-other : goal.invariant_of-other
invariant_of-other c =
    let cell = c.deref.result.now in let b = c.meet.new.b in let before = c.other.inside.pass in
    let same_cell = c.deref.ensures ∙ ap (λ (s : OutState). s.cell) c.self.view_is ∙ c.requires ∙ sym (ap (λ (s : InState). s.cell) c.other.view_is) in
    let number_b = c.meet.ensures.same.1.0 ∙ c.other.invariant.1 in
    let own_a = ap (by 0) c.meet.ensures.one ∙ own_of cell c.meet.new.a 0 c.meet.ensures.passes.0 (c.meet.ensures.same.0.0 ∙ c.self.invariant.1) ∙ c.meet.ensures.same.0.1 in
    let own_b = own_of cell b 1 c.meet.ensures.passes.1 number_b ∙ c.meet.ensures.same.1.1 ∙ sym (own_of c.other.inside.cell.value before 1 c.other.invariant.0 c.other.invariant.1) in
    let longer = subst (λ h. StartsWith h (seen before)) (sym c.meet.ensures.one) c.meet.ensures.begins.1 in
    let kept = keeps_front (seen before) (seen b) (mine c.self.inside.pass) c.other.inside.ended longer own_a own_b c.self.invariant.2 (c.other.invariant.2, c.other.invariant.3) in
    (subst (λ cell. IsPassOf cell b) same_cell c.meet.ensures.passes.1, number_b, kept.0, kept.1)

pub returns-clause-met : goal.returns-clause-met
returns-clause-met c =
    let cell = c.deref.result.now in let b = c.meet.new.b in let before = c.other.inside.pass in
    let own_a = ap (by 0) c.meet.ensures.one ∙ own_of cell c.meet.new.a 0 c.meet.ensures.passes.0 (c.meet.ensures.same.0.0 ∙ c.self.invariant.1) ∙ c.meet.ensures.same.0.1 in
    let now_b = own_of cell b 1 c.meet.ensures.passes.1 (c.meet.ensures.same.1.0 ∙ c.other.invariant.1) ∙ c.meet.ensures.same.1.1 in
    let own_b = now_b ∙ sym (own_of c.other.inside.cell.value before 1 c.other.invariant.0 c.other.invariant.1) in
    let longer = subst (λ h. StartsWith h (seen before)) (sym c.meet.ensures.one) c.meet.ensures.begins.1 in
    let kept = keeps_front (seen before) (seen b) (mine c.self.inside.pass) c.other.inside.ended longer own_a own_b c.self.invariant.2 (c.other.invariant.2, c.other.invariant.3) in
    let told = met (seen b) (mine c.self.inside.pass) (mine before) c.other.inside.ended own_a now_b kept in
    subst (λ (s : OutState). HasMet (Some s.sent) (Some s.finished) (Some c.args.other.now.got) (Some c.args.other.now.ended)) c.self.view_is
    (subst (λ (s : InState). HasMet (Some (bytes_written (mine c.self.inside.pass))) (Some (has_finished (mine c.self.inside.pass))) (Some s.got) (Some s.ended)) c.other.view_is told)
