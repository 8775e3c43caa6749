use Rattle.std.proofs.Common.{◌∷◌, ◌++◌, [], length, append-nil, refl, sym, ap, ◌∙◌}
use Rattle.std.proofs.lemmas.Bool.{false≢true}
use Rattle.std.proofs.lemmas.List.Elements.{All-push, All-same}
use Rattle.segment_pool.specs.Places.{IsNew}
use Rattle.segment_pool.proofs.Dealt.{all_made, all_reverse, empty}
use Rattle.segment_pool.proofs.places.passes_of.Goals as goal

pub returns-clause-inner : goal.returns-clause-inner
returns-clause-inner c =
    let rest = c.loop-lower.rest.items in let none = empty rest (λ some. false≢true (c.in_default.ensures.some.1 some)) in
    all_made c.args.all.items rest c.loop-lower.passes.items c.add-2.new.items.items c.reverse_all.new.items.items _ c.loop-lower.invariant.all none (c.add-2.ensures.items ∙ ap (λ p. c.loop-lower.passes.items ++ p ∷ []) c.new_pass-2.ensures) c.reverse_all.ensures.items

pub returns-clause-new : goal.returns-clause-new
returns-clause-new c =
    let rest = c.pop-in-loop-lower.new.self.items in let none = empty c.loop-lower.rest.items (λ some. false≢true (c.in_default.ensures.some.1 some)) in
    let no_places = ap length (sym (append-nil rest) ∙ (sym c.in_default.ensures.items ∙ none)) in
    All-same IsNew c.reverse_all.new.items.items _ c.reverse_all.ensures.items (all_reverse IsNew c.add-2.new.items.items
    (All-same IsNew c.add-2.new.items.items _ (c.add-2.ensures.items ∙ ap (λ p. c.loop-lower.passes.items ++ p ∷ []) c.new_pass-2.ensures) (All-push IsNew c.loop-lower.passes.items _ c.loop-lower.invariant.new (refl, no_places))))
