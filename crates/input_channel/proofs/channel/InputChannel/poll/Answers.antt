use Rattle.std.proofs.Common.{◌≡◌, sym, ap, ◌∙◌, subst, arith, rules}
use Rattle.input_channel.specs.declared.entry.Gave.TheVariants.{NoBuffer}
use Rattle.input_channel.specs.declared.entry.ReceiveEntry.TheVariants.{Poll}
use Rattle.input_channel.specs.declared.polled.Polled.TheVariants as answers
use Rattle.input_channel.specs.Inboxes.{due, is_barrier}
use Rattle.input_channel.specs.States.{ChannelState, channel_next}
use Rattle.input_channel.specs.Answers.{gave_of, IsBufferOf}
use Rattle.input_channel.specs.Lines.{parcels}
use Rattle.input_channel.specs.Kept.{state_of, ArePartsKept, TakesData}
use Rattle.input_channel.proofs.PollLemmas.{queue_due, waiting_line, polled_held, undue-length, owes-low}
use Rattle.input_channel.proofs.TakingLemmas.{data_kept, data_answer, data_channel, barrier_kept, barrier_channel}
use Rattle.input_channel.proofs.channel.InputChannel.poll.Goals as goal

pub returns-then-hold-clause-answer : goal.returns-then-hold-clause-answer
returns-then-hold-clause-answer c =
    let f = c.deref_mut-parts.result.now in
    let view_is : state_of f ≡ c.args.self.now = ap state_of c.deref_mut-parts.ensures.value ∙ c.self.view_is in
    (ap (λ (s : ChannelState). is_barrier (due s.queue)) (sym view_is) ∙ ap is_barrier (queue_due f.queue f.end_waits _ c.in-Some.ensures), c.if-hold.true)

pub returns-then-hold-clause-channel : goal.returns-then-hold-clause-channel
returns-then-hold-clause-channel c =
    let f = c.deref_mut-parts.result.now in
    let view_is : state_of f ≡ c.args.self.now = ap state_of c.deref_mut-parts.ensures.value ∙ c.self.view_is in
    view_is
    ∙ sym (ap (λ (s : ChannelState). channel_next s (Poll c.args.hold NoBuffer)) (sym view_is)
    ∙ polled_held (state_of f) c.args.hold c.if-hold.true (ap is_barrier (queue_due f.queue f.end_waits _ c.in-Some.ensures)) (waiting_line f.queue f.end_waits) ∙ view_is)

pub overflow_add-parts : goal.overflow_add-parts
overflow_add-parts c =
    let f = c.deref_mut-parts.result.now in
    let is : ArePartsKept f = subst ArePartsKept (sym c.deref_mut-parts.ensures.value) c.self.invariant in
    let one = undue-length (parcels f.queue) (ap is_barrier c.in-Some.ensures) in
    let small = owes-low c.in-Some.kind in
    omega (arith, one, small, c.owes.ensures, is.resumptions, is.last)

pub invariant_of-self-in-Some : goal.invariant_of-self-in-Some
invariant_of-self-in-Some c =
    let f = c.deref_mut-parts.result.now in
    let is : ArePartsKept f = subst ArePartsKept (sym c.deref_mut-parts.ensures.value) c.self.invariant in
    let small = owes-low c.in-Some.kind in
    barrier_kept f c.pop_barrier.new.self c.in-Some.k c.in-Some.kind c.in-Some.ensures c.pop_barrier.ensures c.owes.result (omega (arith, small, c.owes.ensures)) is

pub returns-in-Some-clause-answer : goal.returns-in-Some-clause-answer
returns-in-Some-clause-answer c =
    let f = c.deref_mut-parts.result.now in
    let view_is : state_of f ≡ c.args.self.now = ap state_of c.deref_mut-parts.ensures.value ∙ c.self.view_is in
    (ap (λ (s : ChannelState). due s.queue) (sym view_is) ∙ queue_due f.queue f.end_waits _ c.in-Some.ensures, c.if-hold.false)

pub returns-in-Some-clause-channel : goal.returns-in-Some-clause-channel
returns-in-Some-clause-channel c =
    let f = c.deref_mut-parts.result.now in
    let view_is : state_of f ≡ c.args.self.now = ap state_of c.deref_mut-parts.ensures.value ∙ c.self.view_is in
    barrier_channel f c.pop_barrier.new.self c.in-Some.k c.in-Some.kind c.in-Some.ensures c.pop_barrier.ensures c.args.hold c.owes.result c.if-hold.false c.owes.ensures
    ∙ ap (λ (s : ChannelState). channel_next s (Poll c.args.hold NoBuffer)) view_is

pub invariant_of-self-in-Some-2 : goal.invariant_of-self-in-Some-2
invariant_of-self-in-Some-2 c =
    let f = c.deref_mut-parts.result.now in
    let is : ArePartsKept f = subst ArePartsKept (sym c.deref_mut-parts.ensures.value) c.self.invariant in
    let t : TakesData f c.in-Some-2.buf c.take_data.new.self = search rules in
    data_kept f c.take_data.new.self c.in-Some-2.buf t is

pub returns-in-Some-2-clause-answer : goal.returns-in-Some-2-clause-answer
returns-in-Some-2-clause-answer c =
    let f = c.deref_mut-parts.result.now in
    let is : ArePartsKept f = subst ArePartsKept (sym c.deref_mut-parts.ensures.value) c.self.invariant in
    let view_is : state_of f ≡ c.args.self.now = ap state_of c.deref_mut-parts.ensures.value ∙ c.self.view_is in
    let t : TakesData f c.in-Some-2.buf c.take_data.new.self = search rules in
    subst (λ (s : ChannelState). IsBufferOf s c.in-Some-2.buf) view_is (data_answer f c.take_data.new.self c.in-Some-2.buf t is c.in_default.ensures)

pub returns-in-Some-2-clause-channel : goal.returns-in-Some-2-clause-channel
returns-in-Some-2-clause-channel c =
    let f = c.deref_mut-parts.result.now in
    let view_is : state_of f ≡ c.args.self.now = ap state_of c.deref_mut-parts.ensures.value ∙ c.self.view_is in
    let t : TakesData f c.in-Some-2.buf c.take_data.new.self = search rules in
    data_channel f c.take_data.new.self c.in-Some-2.buf t c.args.hold c.in_default.ensures
    ∙ ap (λ (s : ChannelState). channel_next s (Poll c.args.hold (gave_of (answers.Buffer c.in-Some-2.buf)))) view_is
