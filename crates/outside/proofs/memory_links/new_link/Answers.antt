use Rattle.std.proofs.Common.{sym, subst, ◌∙◌}
use Rattle.turn_cell.specs.Passes.{IsPassOf}
use Rattle.outside.proofs.Dealt.{two_made}
use Rattle.outside.proofs.memory_links.new_link.Goals as goal

pub new-requires-6 : goal.new-requires-6
new-requires-6 c =
    let made = two_made c.in-Ok.cell c.in-Ok.passes.items c.deal-reading.new.passes.items c.deal-writing.new.passes.items c.deal-writing.result c.deal-reading.result
    c.in-Ok.ensures.made.0 c.deal-reading.ensures c.deal-writing.ensures c.in-Ok.ensures.made.1 in
    (subst (λ cell. IsPassOf cell c.deal-writing.result) (sym c.in_ok-cell.ensures.ok) made.0.0, made.0.1)

pub new-requires-7 : goal.new-requires-7
new-requires-7 c =
    let made = two_made c.in-Ok.cell c.in-Ok.passes.items c.deal-reading.new.passes.items c.deal-writing.new.passes.items c.deal-writing.result c.deal-reading.result
    c.in-Ok.ensures.made.0 c.deal-reading.ensures c.deal-writing.ensures c.in-Ok.ensures.made.1 in
    (subst (λ cell. IsPassOf cell c.deal-reading.result) (sym (c.in_ok-other.ensures ∙ c.in_ok-cell.ensures.ok)) made.1.0, made.1.1)
