use Rattle.std.proofs.Common.{◌≡◌, ◌+◌, ◌-◌, ◌<◌, ◌≤◌, length, length-drop, drop, true, sym, ap, ◌∙◌, arith}
use Rattle.input_channel.specs.Inboxes.{poll_due, due, is_barrier}
use Rattle.input_channel.specs.States.{from_waiting}
use Rattle.input_channel.specs.Lines.{Line, parcels, merged, first_gap, before_last}
use Rattle.input_channel.proofs.LineLemmas.{barrier_jumps, barrier_goes, same_line}
use Rattle.input_channel.proofs.queue.Queue.pop_barrier.Goals as goal

pub overflow_add-self : goal.overflow_add-self
overflow_add-self c =
    let f = c.self.inside in
    let some : 0 < first_gap f.barriers.items = omega arith in
    let low : before_last f.barriers.items ≤ length f.buffers.items = omega (arith, c.self.invariant.counted) in
    let is = ap (λ (l : Line). is_barrier (due (parcels l))) c.self.view_is ∙ c.requires in
    let jumps = (barrier_jumps f.polled f.barriers.items f.buffers.items some low is).low in
    let long = f.barriers.ok.0 in
    let small = f.barriers.small in
    omega (arith, jumps, long, small)

pub invariant_of-self : goal.invariant_of-self
invariant_of-self c =
    let f = c.self.inside in
    let kept = c.self.invariant in
    let some : 0 < first_gap f.barriers.items = omega arith in
    let low : before_last f.barriers.items ≤ length f.buffers.items = omega (arith, kept.counted) in
    let is = ap (λ (l : Line). is_barrier (due (parcels l))) c.self.view_is ∙ c.requires in
    let jumps = (barrier_jumps f.polled f.barriers.items f.buffers.items some low is).low in
    record { counted = kept.counted; few_polled = omega (arith, jumps); ahead = λ any. some; within = kept.within; few = kept.few; floating = kept.floating }

pub returns-then-ahead-gt0 : goal.returns-then-ahead-gt0
returns-then-ahead-gt0 c =
    let f = c.self.inside in
    let some : 0 < first_gap f.barriers.items = omega arith in
    let low : before_last f.barriers.items ≤ length f.buffers.items = omega (arith, c.self.invariant.counted) in
    let is = ap (λ (l : Line). is_barrier (due (parcels l))) c.self.view_is ∙ c.requires in
    let jumps = barrier_jumps f.polled f.barriers.items f.buffers.items some low is in
    same_line _ _ _ _ _ _
    (ap (λ n. merged n f.barriers.items f.buffers.items) (let e : f.polled + 1 ≡ Rattle.std.proofs.Common.suc f.polled = omega arith in e) ∙ jumps.line ∙ ap (λ (l : Line). from_waiting (poll_due l.arrived)) c.self.view_is)
    (ap (λ (l : Line). l.buffers) c.self.view_is) (ap (λ (l : Line). l.room) c.self.view_is)

pub returns : goal.returns
returns c =
    let f = c.self.inside in
    let none : first_gap f.barriers.items ≡ 0 = omega arith in
    let low : before_last f.barriers.items ≤ length f.buffers.items = omega (arith, c.self.invariant.counted) in
    let is = ap (λ (l : Line). is_barrier (due (parcels l))) c.self.view_is ∙ c.requires in
    let goes = barrier_goes f.polled f.barriers.items f.buffers.items c.self.invariant.ahead none low is in
    same_line _ _ _ _ _ _
    (ap (λ ms. merged f.polled ms f.buffers.items) c.pop_front.ensures.rest ∙ goes.line ∙ ap (λ (l : Line). from_waiting (poll_due l.arrived)) c.self.view_is)
    (ap (λ (l : Line). l.buffers) c.self.view_is) (ap (λ (l : Line). l.room) c.self.view_is)
