use Rattle.std.proofs.Common.{◌≡◌, ℕ, ◌+◌, ◌<◌, length, List, [], ◌∷◌, ◌++◌, sym, ap, ◌∙◌, subst, arith, length-append}
use Rattle.circular_buffer.specs.Buffer.{Buffer}
use Rattle.input_channel.specs.Counts.{wants}
use Rattle.input_channel.specs.States.{ChannelState}
use Rattle.input_channel.specs.Kept.{HaveLength, counts_of, ArePartsKept, state_of}
use Rattle.input_channel.proofs.LineLemmas.{keep_last-fits}
use Rattle.input_channel.proofs.KeptLemmas.{lengths-more}
use Rattle.input_channel.proofs.channel.InputChannel.add_floating.Goals as goal

pub invariant_of-self : goal.invariant_of-self
invariant_of-self c =
    let f = c.deref_mut-parts.result.now in
    let is : ArePartsKept f = subst ArePartsKept (sym c.deref_mut-parts.ensures.value) c.self.invariant in
    let view_is : state_of f ≡ c.args.self.now = ap state_of c.deref_mut-parts.ensures.value ∙ c.self.view_is in
    let wanted : 0 < wants f.room (counts_of f.exclusive.items f.floating.items f.queue f.pending f.required f.is_shut) =
    subst (λ (s : ChannelState). 0 < wants s.room s.counts) (sym view_is) c.requires.wanted in
    let size : length c.args.segment ≡ f.size = c.requires.size ∙ sym (ap (λ (s : ChannelState). s.size) view_is) in
    let places : f.floating.capacity ≡ f.room = is.floating_places in
    let fits : length f.floating.items < f.floating.capacity = omega (arith, wanted, places) in
    let held : c.push_back.new.self.items ≡ f.floating.items ++ c.args.segment ∷ [] =
    ap (λ (b : Buffer (List ℕ)). b.items) c.push_back.ensures.items ∙ keep_last-fits f.floating.capacity f.floating.items c.args.segment fits in
    let more : length c.push_back.new.self.items ≡ length f.floating.items + 1 = ap length held ∙ length-append f.floating.items (c.args.segment ∷ []) in
    record {
      exclusive_places = is.exclusive_places;
      floating_places = ap (λ (b : Buffer (List ℕ)). b.capacity) c.push_back.ensures.items ∙ is.floating_places;
      queue_places = is.queue_places;
      room = is.room;
      two = is.two;
      within = omega (arith, wanted, more);
      credit = omega (arith, more, is.credit);
      exclusive_sizes = is.exclusive_sizes;
      floating_sizes = subst (HaveLength f.size) (sym held) (lengths-more f.size f.floating.items c.args.segment is.floating_sizes size);
      queue_sizes = is.queue_sizes;
      barriers = is.barriers;
      resumptions = is.resumptions;
      announced = is.announced;
      received = is.received;
      last = is.last;
      end = is.end;
    }
