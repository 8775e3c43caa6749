use Rattle.std.proofs.Common.{◌≡◌, ℕ, ◌+◌, ◌-◌, ◌<◌, length, List, [], ◌∷◌, ◌++◌, drop, true, sym, ap, ◌∙◌, subst, arith, rules, length-append, length-drop}
use Rattle.circular_buffer.specs.Buffer.{Buffer}
use Rattle.input_channel.specs.Counts.{exclusive_held}
use Rattle.input_channel.specs.States.{ChannelState, exclusive_here}
use Rattle.input_channel.specs.Kept.{HaveLength, counts_of, ArePartsKept, state_of}
use Rattle.input_channel.proofs.LineLemmas.{keep_last-fits}
use Rattle.input_channel.proofs.KeptLemmas.{lengths-more, lengths-less}
use Rattle.input_channel.proofs.channel.InputChannel.recycle.Goals as goal

pub invariant_of-self-then-floating-gt0 : goal.invariant_of-self-then-floating-gt0
invariant_of-self-then-floating-gt0 c =
    let f = c.deref_mut-parts.result.now in
    let is : ArePartsKept f = subst ArePartsKept (sym c.deref_mut-parts.ensures.value) c.self.invariant in
    let view_is : state_of f ≡ c.args.self.now = ap state_of c.deref_mut-parts.ensures.value ∙ c.self.view_is in
    let segment = c.args.buf.segment in
    let ex : c.args.buf.exclusive ≡ true = search rules in
    let given : exclusive_here c.args.self.now < 2 = c.requires.given ex in
    let here : length f.exclusive.items + exclusive_held (counts_of f.exclusive.items f.floating.items f.queue f.pending f.required f.is_shut) < 2 =
    subst (λ (s : ChannelState). exclusive_here s < 2) (sym view_is) given in
    let size : length segment ≡ f.size = c.requires.size ∙ sym (ap (λ (s : ChannelState). s.size) view_is) in
    let places : f.exclusive.capacity ≡ 2 = is.exclusive_places in
    let fits : length f.exclusive.items < f.exclusive.capacity = omega (arith, here, places) in
    let held : c.push_back.new.self.items ≡ f.exclusive.items ++ segment ∷ [] =
    ap (λ (b : Buffer (List ℕ)). b.items) c.push_back.ensures.items ∙ keep_last-fits f.exclusive.capacity f.exclusive.items segment fits in
    let more : length c.push_back.new.self.items ≡ length f.exclusive.items + 1 = ap length held ∙ length-append f.exclusive.items (segment ∷ []) in
    let left : c.pop_front.new.self.items ≡ drop 1 f.floating.items = ap (λ (b : Buffer (List ℕ)). b.items) c.pop_front.ensures.items in
    let some : 0 < length f.floating.items = omega (arith, c.if-floating-gt0.true, c.len-floating.ensures.len) in
    let less : length c.pop_front.new.self.items ≡ length f.floating.items - 1 = ap length left ∙ length-drop 1 f.floating.items in
    record {
      exclusive_places = ap (λ (b : Buffer (List ℕ)). b.capacity) c.push_back.ensures.items ∙ is.exclusive_places;
      floating_places = ap (λ (b : Buffer (List ℕ)). b.capacity) c.pop_front.ensures.items ∙ is.floating_places;
      queue_places = is.queue_places;
      room = is.room;
      two = omega (arith, here, more);
      within = omega (arith, less, is.within);
      credit = omega (arith, more, less, some, is.credit);
      exclusive_sizes = subst (HaveLength f.size) (sym held) (lengths-more f.size f.exclusive.items segment is.exclusive_sizes size);
      floating_sizes = subst (HaveLength f.size) (sym left) (lengths-less f.size f.floating.items is.floating_sizes);
      queue_sizes = is.queue_sizes;
      barriers = is.barriers;
      resumptions = is.resumptions;
      announced = is.announced;
      received = is.received;
      last = is.last;
      end = is.end;
    }

pub invariant_of-self-2 : goal.invariant_of-self-2
invariant_of-self-2 c =
    let f = c.deref_mut-parts.result.now in
    let is : ArePartsKept f = subst ArePartsKept (sym c.deref_mut-parts.ensures.value) c.self.invariant in
    let view_is : state_of f ≡ c.args.self.now = ap state_of c.deref_mut-parts.ensures.value ∙ c.self.view_is in
    let segment = c.args.buf.segment in
    let ex : c.args.buf.exclusive ≡ true = search rules in
    let given : exclusive_here c.args.self.now < 2 = c.requires.given ex in
    let here : length f.exclusive.items + exclusive_held (counts_of f.exclusive.items f.floating.items f.queue f.pending f.required f.is_shut) < 2 =
    subst (λ (s : ChannelState). exclusive_here s < 2) (sym view_is) given in
    let size : length segment ≡ f.size = c.requires.size ∙ sym (ap (λ (s : ChannelState). s.size) view_is) in
    let places : f.exclusive.capacity ≡ 2 = is.exclusive_places in
    let fits : length f.exclusive.items < f.exclusive.capacity = omega (arith, here, places) in
    let held : c.push_back.new.self.items ≡ f.exclusive.items ++ segment ∷ [] =
    ap (λ (b : Buffer (List ℕ)). b.items) c.push_back.ensures.items ∙ keep_last-fits f.exclusive.capacity f.exclusive.items segment fits in
    let more : length c.push_back.new.self.items ≡ length f.exclusive.items + 1 = ap length held ∙ length-append f.exclusive.items (segment ∷ []) in
    record {
      exclusive_places = ap (λ (b : Buffer (List ℕ)). b.capacity) c.push_back.ensures.items ∙ is.exclusive_places;
      floating_places = is.floating_places;
      queue_places = is.queue_places;
      room = is.room;
      two = omega (arith, here, more);
      within = is.within;
      credit = omega (arith, more, is.credit);
      exclusive_sizes = subst (HaveLength f.size) (sym held) (lengths-more f.size f.exclusive.items segment is.exclusive_sizes size);
      floating_sizes = is.floating_sizes;
      queue_sizes = is.queue_sizes;
      barriers = is.barriers;
      resumptions = is.resumptions;
      announced = is.announced;
      received = is.received;
      last = is.last;
      end = is.end;
    }
