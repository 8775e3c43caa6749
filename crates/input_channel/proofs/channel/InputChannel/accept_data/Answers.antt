use Rattle.std.proofs.Common.{◌≡◌, ℕ, ◌+◌, ◌-◌, ◌<◌, ◌≤◌, Bool, true, false, cond, length, List, [], ◌∷◌, ◌++◌, None, refl, sym, ap, ◌∙◌, subst, arith, rules, length-append}
use Rattle.flow_defs.specs.declared.parcel.Parcel.{Parcel}
use Rattle.flow_defs.specs.declared.parcel.Parcel.TheVariants as parcels
use Rattle.input_channel.specs.declared.arrival.ArrivalKind.TheVariants as kinds
use Rattle.input_channel.specs.Answers.{kind_refused}
use Rattle.input_channel.specs.Counts.{Counts, with_data}
use Rattle.input_channel.specs.States.{ChannelState}
use Rattle.input_channel.specs.Steps.{with_data_in}
use Rattle.input_channel.specs.Lines.{Line, kinds_of}
use Rattle.input_channel.specs.Lines.{parcels as line_parcels}
use Rattle.input_channel.specs.Kept.{AreOfLength, counts_of, queue_of, line_of, ArePartsKept, state_of}
use Rattle.input_channel.specs.Contents.{content}
use Rattle.input_channel.proofs.CountLemmas.{count-snoc}
use Rattle.input_channel.proofs.PollLemmas.{accepts_data}
use Rattle.input_channel.proofs.KeptLemmas.{free_taken, kinds-all, kinds-more, length-kinds, buffers-more, all_three, no_end, same_counts}
use Rattle.input_channel.specs.Inboxes.{Arrived, Waits, waiting}
use Rattle.input_channel.proofs.InboxLaws.{waiting-append}
use Rattle.input_channel.proofs.TakingLemmas.{data_more}
use Rattle.input_channel.proofs.channel.InputChannel.accept_data.Goals as goal

pub push_data-requires : goal.push_data-requires
push_data-requires c =
    let f = c.deref_mut-parts.result.now in
    let is : ArePartsKept f = subst ArePartsKept (sym c.deref_mut-parts.ensures.value) c.self.invariant in
    let all = kinds-all (kinds_of f.queue.buffers) in
    let long = length-kinds f.queue.buffers in
    let places : f.queue.room ≡ f.room = is.queue_places in
    omega (arith, all, long, is.two, is.within, is.credit, places, c.if-parts-eq0.false)

pub invariant_of-self-2 : goal.invariant_of-self-2
invariant_of-self-2 c =
    let f = c.deref_mut-parts.result.now in
    let is : ArePartsKept f = subst ArePartsKept (sym c.deref_mut-parts.ensures.value) c.self.invariant in
    let t = c.take_free-segment in
    let taken = free_taken f.size t.result.1 t.result.0 f.floating t.new.floating f.exclusive t.new.exclusive t.ensures.kind t.ensures.floating t.ensures.exclusive is.floating_sizes is.exclusive_sizes in
    let buf = c.filled.result in
    let held : c.push_data.new.self.buffers ≡ f.queue.buffers ++ buf ∷ [] = ap (λ (l : Line). l.buffers) c.push_data.ensures in
    let places : c.push_data.new.self.room ≡ f.queue.room = ap (λ (l : Line). l.room) c.push_data.ensures in
    let kinds : kinds_of c.push_data.new.self.buffers ≡ kinds_of f.queue.buffers ++ t.result.1 ∷ [] =
    ap kinds_of held ∙ kinds-more f.queue.buffers buf ∙ ap (λ b. kinds_of f.queue.buffers ++ b ∷ []) c.filled.ensures.kind in
    let exs = ap (λ bs. Rattle.std.specs.Prelude.count_by (λ x. x) bs) kinds ∙ count-snoc (λ x. x) (kinds_of f.queue.buffers) t.result.1 in
    let fls = ap (λ bs. Rattle.std.specs.Prelude.count_by Rattle.std.proofs.Common.not bs) kinds ∙ count-snoc Rattle.std.proofs.Common.not (kinds_of f.queue.buffers) t.result.1 in
    let arrived : c.push_data.new.self.arrived ≡ f.queue.arrived ++ Waits (parcels.Data (content buf)) ∷ [] = ap (λ (l : Line). l.arrived) c.push_data.ensures in
    let more = data_more (content buf) f.queue.arrived c.push_data.new.self.arrived arrived in
    let all = more.all in
    let waits = more.waits in
    let size : length buf.segment ≡ f.size = c.filled.ensures.size ∙ taken.segment_size in
    let one : cond t.result.1 1 0 + cond (Rattle.std.proofs.Common.not t.result.1) 1 0 ≡ 1 = elim t.result.1 as (λ b. cond b 1 0 + cond (Rattle.std.proofs.Common.not b) 1 0 ≡ 1) [ true ↦ refl | false ↦ refl ] in
    let ex_less = taken.exclusive_less in
    let fl_less = taken.floating_less in
    record {
      exclusive_places = taken.exclusive_places ∙ is.exclusive_places;
      floating_places = taken.floating_places ∙ is.floating_places;
      queue_places = places ∙ is.queue_places;
      room = is.room;
      two = omega (arith, exs, ex_less, is.two);
      within = omega (arith, fls, fl_less, is.within);
      credit = omega (arith, ex_less, fl_less, one, is.credit, c.if-parts-eq0.false);
      exclusive_sizes = taken.exclusive_sizes;
      floating_sizes = taken.floating_sizes;
      queue_sizes = subst (AreOfLength f.size) (sym held) (buffers-more f.size f.queue.buffers buf is.queue_sizes size);
      barriers = omega (arith, all, is.barriers);
      resumptions = omega (arith, waits, is.resumptions);
      announced = is.announced;
      received = omega arith;
      last = is.last;
      end = is.end;
    }

pub returns-clause-accepted : goal.returns-clause-accepted
returns-clause-accepted c =
    let f = c.deref_mut-parts.result.now in
    let is : ArePartsKept f = subst ArePartsKept (sym c.deref_mut-parts.ensures.value) c.self.invariant in
    let view_is : state_of f ≡ c.args.self.now = ap state_of c.deref_mut-parts.ensures.value ∙ c.self.view_is in
    let t = c.take_free-segment in
    let taken = free_taken f.size t.result.1 t.result.0 f.floating t.new.floating f.exclusive t.new.exclusive t.ensures.kind t.ensures.floating t.ensures.exclusive is.floating_sizes is.exclusive_sizes in
    let buf = c.filled.result in
    let bytes = c.args.bytes.now in
    let v : ChannelState = state_of f in
    let held : c.push_data.new.self.buffers ≡ f.queue.buffers ++ buf ∷ [] = ap (λ (l : Line). l.buffers) c.push_data.ensures in
    let marks_are : kinds_of c.push_data.new.self.buffers ≡ kinds_of f.queue.buffers ++ Rattle.std.proofs.Common.eqb (length f.floating.items) 0 ∷ [] =
    ap kinds_of held ∙ kinds-more f.queue.buffers buf ∙ ap (λ b. kinds_of f.queue.buffers ++ b ∷ []) (c.filled.ensures.kind ∙ t.ensures.kind) in
    let arrived : c.push_data.new.self.arrived ≡ f.queue.arrived ++ Waits (parcels.Data bytes) ∷ [] =
    ap (λ (l : Line). l.arrived) c.push_data.ensures ∙ ap (λ bs. f.queue.arrived ++ Waits (parcels.Data bs) ∷ []) c.filled.ensures.content in
    let parcels_are : line_parcels c.push_data.new.self ≡ line_parcels f.queue ++ parcels.Data bytes ∷ [] = ap waiting arrived ∙ waiting-append f.queue.arrived (Waits (parcels.Data bytes) ∷ []) in
    let closed : f.ended ≡ false = ap (λ (s : ChannelState). s.ended) view_is ∙ c.requires in
    let none : f.end_waits ≡ false = no_end f.end_waits f.ended is.end closed in
    let queue_is : queue_of c.push_data.new.self f.end_waits ≡ queue_of f.queue f.end_waits ++ parcels.Data bytes ∷ [] =
    ap (queue_of c.push_data.new.self) none ∙ parcels_are ∙ ap (λ b. queue_of f.queue b ++ parcels.Data bytes ∷ []) (sym none) in
    let line_is : line_of c.push_data.new.self f.end_waits ≡ line_of f.queue f.end_waits ++ Waits (parcels.Data bytes) ∷ [] =
    ap (line_of c.push_data.new.self) none ∙ arrived ∙ ap (λ b. line_of f.queue b ++ Waits (parcels.Data bytes) ∷ []) (sym none) in
    let counts_are : counts_of t.new.exclusive.items t.new.floating.items c.push_data.new.self f.pending f.required f.is_shut ≡ with_data v.counts =
    same_counts v.counts _ _ _ _ _ _ taken.exclusive_is taken.floating_is marks_are in
    let after : ChannelState = with_data_in v bytes in (
      subst (λ (s : ChannelState). kind_refused s kinds.Buffer bytes ≡ None) view_is (accepts_data v bytes c.if-parts-eq0.false c.if-bytes-parts.false),
      all_three (λ (q : List Parcel) (l : List Arrived) (k : Counts). record after { queue = q; line = l; counts = k }) _ _ _ _ _ _ queue_is line_is counts_are ∙ ap (λ (s : ChannelState). with_data_in s bytes) view_is,
    )
