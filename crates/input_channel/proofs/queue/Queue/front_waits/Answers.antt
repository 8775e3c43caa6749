use Rattle.std.proofs.Common.{◌≡◌, ◌<◌, length, [], drop, sym, ap, ◌∙◌, rules}
use Rattle.input_channel.specs.Inboxes.{front_waits}
use Rattle.input_channel.specs.Lines.{Line, parcels}
use Rattle.input_channel.proofs.LineLemmas.{place-cons, place-nil, front_merged, is_front, is_front_first}
use Rattle.input_channel.proofs.queue.Queue.front_waits.Goals as goal

pub returns-in-Front : goal.returns-in-Front
returns-in-Front c =
    let f = c.self.inside in
    let some : f.polled < length f.barriers.items = search rules in
    let split = place-cons f.polled f.barriers.items c.in-Some.mark.now some c.in-Some.ensures.lookup in
    sym (ap (λ (l : Line). front_waits (parcels l)) (sym c.self.view_is) ∙ front_merged f.polled f.barriers.items f.buffers.items ∙ ap is_front_first split ∙ ap is_front c.in-Front.is)

pub returns-in-Inline : goal.returns-in-Inline
returns-in-Inline c =
    let f = c.self.inside in
    let some : f.polled < length f.barriers.items = search rules in
    let split = place-cons f.polled f.barriers.items c.in-Some.mark.now some c.in-Some.ensures.lookup in
    sym (ap (λ (l : Line). front_waits (parcels l)) (sym c.self.view_is) ∙ front_merged f.polled f.barriers.items f.buffers.items ∙ ap is_front_first split ∙ ap is_front c.in-Inline.is)

pub returns-in-None : goal.returns-in-None
returns-in-None c =
    let f = c.self.inside in
    let none : drop f.polled f.barriers.items ≡ [] = search (rules, place-nil) in
    sym (ap (λ (l : Line). front_waits (parcels l)) (sym c.self.view_is) ∙ front_merged f.polled f.barriers.items f.buffers.items ∙ ap is_front_first none)
