use Rattle.std.proofs.Common.{◌≡◌, ℕ, suc, ◌+◌, ◌-◌, ◌<◌, ◌≤◌, length, List, [], ◌∷◌, ◌++◌, true, refl, sym, ap, ◌∙◌, subst, arith, rules, length-append}
use Rattle.flow_defs.specs.declared.parcel.Parcel.TheVariants as parcels
use Rattle.input_channel.specs.declared.held.HeldBuf.{HeldBuf}
use Rattle.input_channel.specs.Lines.{Line, kinds_of}
use Rattle.input_channel.specs.Kept.{AreOfLength, ArePartsKept, state_of}
use Rattle.input_channel.specs.Inboxes.{Waits}
use Rattle.input_channel.proofs.TakingLemmas.{barrier_more, barrier_comes}
use Rattle.input_channel.specs.States.{ChannelState}
use Rattle.input_channel.specs.Steps.{with_barrier_in}
use Rattle.input_channel.proofs.KeptLemmas.{no_end}
use Rattle.input_channel.proofs.channel.InputChannel.accept_barrier.Goals as goal

pub invariant_of-self-2 : goal.invariant_of-self-2
invariant_of-self-2 c =
    let f = c.deref_mut-parts.result.now in
    let is : ArePartsKept f = subst ArePartsKept (sym c.deref_mut-parts.ensures.value) c.self.invariant in
    let next : c.args.k ≡ suc f.last = search rules in
    let new = c.in_ok-push_barrier.ensures.ok in
    let held : c.push_barrier.new.self.buffers ≡ f.queue.buffers = ap (λ (l : Line). l.buffers) new in
    let arrived : c.push_barrier.new.self.arrived ≡ f.queue.arrived ++ Waits (parcels.Barrier c.args.k c.args.kind) ∷ [] = ap (λ (l : Line). l.arrived) new in
    let more = barrier_more c.args.k c.args.kind f.queue.arrived c.push_barrier.new.self.arrived arrived in
    let all = more.all in
    let waits = more.waits in
    record {
      exclusive_places = is.exclusive_places;
      floating_places = is.floating_places;
      queue_places = ap (λ (l : Line). l.room) new ∙ is.queue_places;
      room = is.room;
      two = subst (λ (bs : List HeldBuf). length f.exclusive.items + Rattle.std.specs.Prelude.count_by (λ x. x) (kinds_of bs) ≤ 2) (sym held) is.two;
      within = subst (λ (bs : List HeldBuf). 2 + (length f.floating.items + Rattle.std.specs.Prelude.count_by Rattle.std.proofs.Common.not (kinds_of bs)) ≤ f.room) (sym held) is.within;
      credit = is.credit;
      exclusive_sizes = is.exclusive_sizes;
      floating_sizes = is.floating_sizes;
      queue_sizes = subst (AreOfLength f.size) (sym held) is.queue_sizes;
      barriers = omega (arith, all, next, is.barriers);
      resumptions = omega (arith, waits, next, is.resumptions);
      announced = is.announced;
      received = is.received;
      last = omega arith;
      end = is.end;
    }

pub returns-clause-accepted : goal.returns-clause-accepted
returns-clause-accepted c =
    let f = c.deref_mut-parts.result.now in
    let is : ArePartsKept f = subst ArePartsKept (sym c.deref_mut-parts.ensures.value) c.self.invariant in
    let view_is : state_of f ≡ c.args.self.now = ap state_of c.deref_mut-parts.ensures.value ∙ c.self.view_is in
    let next : c.args.k ≡ suc f.last = search rules in
    let closed = ap (λ (s : ChannelState). s.ended) view_is ∙ c.requires in (
      next ∙ ap (λ (s : ChannelState). suc s.last) view_is,
      barrier_comes f c.push_barrier.new.self c.args.k c.args.kind (no_end f.end_waits f.ended is.end closed) c.in_ok-push_barrier.ensures.ok
          ∙ ap (λ (s : ChannelState). with_barrier_in s c.args.k c.args.kind) view_is,
    )
