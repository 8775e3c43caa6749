use Rattle.std.proofs.Common.{◌≡◌, ◌+◌, ◌<◌, ◌≤◌, length, [], drop, sym, ap, ◌∙◌, rules, arith}
use Rattle.input_channel.specs.Inboxes.{due, is_barrier}
use Rattle.input_channel.specs.Lines.{Line, parcels, first_gap, before_last}
use Rattle.input_channel.proofs.LineLemmas.{place-cons, place-nil, due_none, due_front, due_first, due_line, front_of}
use Rattle.input_channel.proofs.queue.Queue.due_barrier.Goals as goal
use Rattle.input_channel.proofs.queue.Queue.due_barrier.Goals.{in_default-via-in-Inline+else-ahead-gt0, in_default-via-in_default}

pub returns-in-None : goal.returns-in-None
returns-in-None c =
    let f = c.self.inside in
    let none : drop f.polled f.barriers.items ≡ [] = search (rules, place-nil) in
    let low : before_last f.barriers.items ≤ length f.buffers.items = omega (arith, c.self.invariant.counted) in
    ap (λ (l : Line). is_barrier (due (parcels l))) (sym c.self.view_is) ∙ due_none f.polled f.barriers.items f.buffers.items c.self.invariant.ahead low none

pub returns-in-Inline : goal.returns-in-Inline
returns-in-Inline c =
    let f = c.self.inside in
    let m = c.in-Some.mark.now in
    let some : f.polled < length f.barriers.items = search rules in
    let split = place-cons f.polled f.barriers.items m some c.in-Some.ensures.lookup in
    let ahead : 0 < first_gap f.barriers.items = omega arith in
    let low : before_last f.barriers.items ≤ length f.buffers.items = omega (arith, c.self.invariant.counted) in
    ap (λ (l : Line). is_barrier (due (parcels l))) (sym c.self.view_is)
    ∙ due_line f.polled f.barriers.items (drop (f.polled + 1) f.barriers.items) m f.buffers.items ahead low split c.in-Inline.is

pub returns-in_default : goal.returns-in_default
returns-in_default c =
    let f = c.self.inside in
    let m = c.in-Some.mark.now in
    let some : f.polled < length f.barriers.items = search rules in
    let rest = drop (f.polled + 1) f.barriers.items in
    let split = place-cons f.polled f.barriers.items m some c.in-Some.ensures.lookup in
    ap (λ (l : Line). due (parcels l)) (sym c.self.view_is)
    ∙ elim c.in_default.branch [
      | in_default-via-in-Inline+else-ahead-gt0 w ↦ due_first f.polled f.barriers.items rest m f.buffers.items c.self.invariant.ahead (omega arith) split
      | in_default-via-in_default w ↦ due_front f.polled f.barriers.items rest m f.buffers.items split (front_of _ w.in_default.not-Inline)
    ]
