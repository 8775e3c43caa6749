-- A sound connection stays sound when something is put on a channel.
use Rattle.std.proofs.Common.{◌≡◌, ℕ, zero, suc, ◌+◌, ◌<◌, ◌≤◌, Bool, true, false, not, cond, eqb, ltb, List, [], ◌∷◌, ◌++◌, length, drop, map, refl, sym, ap, subst, ◌∙◌, append_assoc, append-nil, length-append, arith, inr}
use Rattle.std.specs.Prelude.{◌||◌, replicate}
use Rattle.std.specs.List.{range_with_len}
use Rattle.std.proofs.lemmas.Bool.{cond_both, or_parts, not-false, eqb-true, ltb-true, ltb-false, true≢false}
use Rattle.std.proofs.lemmas.List.{length-take, map-append}
use Rattle.std.proofs.lemmas.List.Sums.{sum_by-append, sum_by-cons}
use Rattle.flow_defs.specs.Records.{length_bytes, encoded}
use Rattle.flow_defs.specs.declared.task.BarrierKind.{BarrierKind}
use Rattle.flow_defs.specs.declared.task.BarrierKind.TheVariants.{Inline, Front}
use Rattle.flow_defs.specs.declared.parcel.Parcel.{Parcel}
use Rattle.flow_defs.specs.declared.parcel.Parcel.TheVariants.{Data, Barrier, End}
use Rattle.flow_defs.specs.Parcels.{data_of, is_data, barriers_of, has_end}
use Rattle.flow_defs.specs.Items.{Items}
use Rattle.flow_defs.proofs.ParcelLemmas.{has_end-append, end_behind}
use Rattle.subpartition.specs.declared.entry.SendEntry.TheVariants.{PutFront}
use Rattle.subpartition.specs.Sending.{with_front}
use Rattle.subpartition.proofs.Travelling.{Grows, grows, grows-barriers_of}
use Rattle.credit_reader.specs.declared.reader.Reader.{Reader}
use Rattle.credit_reader.specs.Readers.{Ready, reader_next}
use Rattle.credit_reader.specs.Senders.{happened}
use Rattle.credit_reader.proofs.Channels.{channels_after}
use Rattle.script_text.specs.declared.event.Event.TheVariants as events
use Rattle.script_text.specs.declared.reply.Reply.{Reply}
use Rattle.script_text.specs.declared.reply.Reply.TheVariants as replies
use Rattle.script_text.specs.Scripts.{IsChannel, IsEvent}
use Rattle.exchange_world.specs.Lanes.{Lane, ITEMS_MAX, channel_id, backlog_in, head_in}
use Rattle.exchange_world.specs.Worlds.{World, lane_of, with_lane, partition_limit, partition_lent}
use Rattle.exchange_world.specs.Steps.{step, pieces_within, pieces, buffers_of, with_items, puts, emits, barred, bar_reply}
use Rattle.exchange_world.specs.Sound.{responses, credit_coming, resumptions_coming, AreFit, IsSound}
use Rattle.exchange_world.proofs.LaneLemmas.{other_channel, lane_put, lane_stays, lanes_stay, reader_here, reader_there, SoundOn, sound_on, is_sound_lane}
use Rattle.exchange_world.proofs.QueueLemmas.{happened_holds}
use Rattle.exchange_world.proofs.WorldLemmas.{keeps_sound, limit_stays, gate_limit_stays, gate_lent_stays}

-- ---- parcels behind others

pub fit-append : (size : ℕ) (ps qs : List Parcel) → has_end ps ≡ false → AreFit size ps → AreFit size qs → AreFit size (ps ++ qs)
fit-append size [] qs none here there = there
fit-append size (Data bytes ∷ ps) qs none here there = (here.0, here.1, fit-append size ps qs none here.2 there)
fit-append size (Barrier k kind ∷ ps) qs none here there = fit-append size ps qs none here there
fit-append size (End ∷ ps) qs none here there = absurd (true≢false none)

pub backlog_in-append : (ps qs : List Parcel) → backlog_in (ps ++ qs) ≡ backlog_in ps + backlog_in qs
backlog_in-append ps qs = sum_by-append (λ p. cond (is_data p) 1 0) ps qs

pub range-append : (a m n : ℕ) → range_with_len a (m + n) ≡ range_with_len a m ++ range_with_len (a + m) n
range-append a zero n = ap (λ k. range_with_len a k) (let e : 0 + n ≡ n = omega arith in e) ∙ ap (λ b. range_with_len b n) (let e : a ≡ a + 0 = omega arith in e)
range-append a (suc m) n =
    ap (λ k. range_with_len a k) (let e : suc m + n ≡ suc (m + n) = omega arith in e)
    ∙ ap (λ xs. a ∷ xs) (range-append (a + 1) m n ∙ ap (λ b. range_with_len (a + 1) m ++ range_with_len b n) (let e : a + 1 + m ≡ a + suc m = omega arith in e))

-- barriers have the numbers behind those of the barriers before them
numbered-append : (last : ℕ) (bs cs : List (ℕ × BarrierKind)) → map (λ (b : ℕ × BarrierKind). b.0) bs ≡ range_with_len (suc last) (length bs)
    → map (λ (b : ℕ × BarrierKind). b.0) cs ≡ range_with_len (suc (last + length bs)) (length cs)
    → map (λ (b : ℕ × BarrierKind). b.0) (bs ++ cs) ≡ range_with_len (suc last) (length (bs ++ cs))
numbered-append last bs cs here there =
    map-append (λ (b : ℕ × BarrierKind). b.0) bs cs
    ∙ ap (λ xs. xs ++ map (λ (b : ℕ × BarrierKind). b.0) cs) here
    ∙ ap (λ xs. range_with_len (suc last) (length bs) ++ xs) there
    ∙ ap (λ k. range_with_len (suc last) (length bs) ++ range_with_len k (length cs)) (let e : suc (last + length bs) ≡ suc last + length bs = omega arith in e)
    ∙ sym (range-append (suc last) (length bs) (length cs))
    ∙ ap (range_with_len (suc last)) (sym (length-append bs cs))

-- where these have no end, they are fit in two parts
fit_parts : (size : ℕ) (ps qs : List Parcel) → has_end (ps ++ qs) ≡ false → AreFit size (ps ++ qs) → (has_end ps ≡ false) × AreFit size ps × AreFit size qs
fit_parts size [] qs none fit = (refl, tt, fit)
fit_parts size (Data bytes ∷ ps) qs none fit = let parts = fit_parts size ps qs none fit.2 in (parts.0, (fit.0, fit.1, parts.1), parts.2)
fit_parts size (Barrier k kind ∷ ps) qs none fit = fit_parts size ps qs none fit
fit_parts size (End ∷ ps) qs none fit = absurd (true≢false none)

-- ---- a channel on which something is put

-- The channel with these items.
abbrev pub changed : Lane → List Parcel → ℕ → Bool → Lane
changed lane items barriers finished = record lane { items = items; barriers = barriers; finished = finished }

abbrev pub more : Lane → List Parcel → ℕ → Bool → Lane
more lane ps barriers finished = changed lane (lane.items ++ ps) barriers finished

abbrev told : Reader → List Parcel → Reader
told r items = reader_next r (Ready (head_in items) (backlog_in items))

-- what responses bring
abbrev pub brought : List (ℕ × Parcel) → List Parcel
brought way = map (λ (r : ℕ × Parcel). r.1) way

or_false : (b : Bool) → cond b true false ≡ b
or_false true = refl
or_false false = refl

-- What is put comes in at one place, behind which no barrier stands.
module _ (size limit : ℕ) (lane : Lane) (r : Reader) (way : List (ℕ × Parcel)) (credit resumptions : ℕ) (items ps : List Parcel) (barriers : ℕ) (finished : Bool)
    (g : Grows (brought way ++ lane.items) (brought way ++ items) ps) where
  -- a count of parcels grows by what is put
  grown : (count : List Parcel → ℕ) → ((xs ys : List Parcel) → count (xs ++ ys) ≡ count xs + count ys) → count items ≡ count lane.items + count ps
  grown count adds =
      let was = sym (adds (brought way) lane.items) ∙ ap count g.was ∙ adds g.front g.back in
      let is = sym (adds (brought way) items) ∙ ap count g.is ∙ adds g.front (ps ++ g.back) in
      let both = adds ps g.back in
      omega (arith, was, is, both)

  put_sound : SoundOn size limit lane r way credit resumptions → lane.finished ≡ false → AreFit size (ps ++ g.back)
      → map (λ (b : ℕ × BarrierKind). b.0) (barriers_of ps) ≡ range_with_len (suc lane.barriers) (length (barriers_of ps))
      → barriers ≡ lane.barriers + length (barriers_of ps) → finished ≡ has_end ps
      → length lane.items + length ps ≤ ITEMS_MAX → backlog_in lane.items + backlog_in ps ≤ limit
      → SoundOn size limit (changed lane items barriers finished) (told r items) way credit resumptions
  put_sound s going fit numbers barriers_is finished_is room lent =
      let before = brought way ++ lane.items in
      let no_end = s.agree.unfinished going in
      let parts = fit_parts size g.front g.back (ap has_end (sym g.was) ∙ no_end.1) (subst (AreFit size) g.was s.agree.fit) in
      let all_barriers = grows-barriers_of g in
      let none : has_end g.back ≡ false = sym (end_behind g.front g.back parts.0) ∙ ap has_end (sym g.was) ∙ no_end.1 in
      let ends : has_end (brought way ++ items) ≡ has_end ps = ap has_end g.is ∙ end_behind g.front (ps ++ g.back) parts.0 ∙ has_end-append ps g.back ∙ ap (λ b. cond (has_end ps) true b) none ∙ or_false (has_end ps) in
      let last = s.agree.last in
      record {
        sender = record { requested = s.sender.requested; head_is = refl; backlog_is = refl };
        inbox = s.inbox;
        agree = record {
          numbered = s.agree.numbered;
          next = s.agree.next;
          credit_is = s.agree.credit_is;
          fit = subst (AreFit size) (sym g.is) (fit-append size g.front (ps ++ g.back) parts.0 parts.1 fit);
          barriers =
              subst (λ bs. map (λ (b : ℕ × BarrierKind). b.0) bs ≡ range_with_len (suc lane.inbox.last) (length bs)) (sym all_barriers)
              (numbered-append lane.inbox.last (barriers_of before) (barriers_of ps) s.agree.barriers (numbers ∙ ap (λ k. range_with_len (suc k) (length (barriers_of ps))) last));
          last = let counted : length (barriers_of (brought way ++ items)) ≡ length (barriers_of before) + length (barriers_of ps) = ap length all_barriers ∙ length-append (barriers_of before) (barriers_of ps) in
              omega (arith, counted, last, barriers_is);
          ended = λ e. absurd (true≢false (sym e ∙ no_end.0));
          finished = λ e. inr (ends ∙ sym finished_is ∙ e);
          unfinished = λ e. (no_end.0, ends ∙ sym finished_is ∙ e);
          blocked = s.agree.blocked;
        };
        room = let longer = grown length length-append in omega (arith, longer, room);
        lent = let longer = grown backlog_in backlog_in-append in omega (arith, longer, lent);
      }

-- it comes behind all others, or as a front barrier does
abbrev behind_all : (before items ps : List Parcel) → Grows (before ++ items) (before ++ (items ++ ps)) ps
behind_all before items ps = record {
  front = before ++ items;
  back = [];
  was = sym (append-nil (before ++ items));
  is = sym (append_assoc before items ps) ∙ ap (λ z. (before ++ items) ++ z) (sym (append-nil ps));
  bare = refl;
  order = append-nil (data_of ps);
}

in_front : (before items : List Parcel) (k : ℕ) → Grows (before ++ items) (before ++ with_front k items) (Barrier k Front ∷ [])
in_front before items k = grows (record { taken = before; items = items }) (PutFront k)

-- ---- the world in which it is put

-- the world once a channel is in its place and the sender is told of it
abbrev put_in : World → ℕ → Lane → World
put_in w c lane = record (with_lane w c lane) { sender = happened (channel_id c) (Ready (head_in lane.items) (backlog_in lane.items)) w.sender }

puts_is : (w : World) (c : ℕ) (lane : Lane) → 1 ≤ c → c ≤ length w.lanes → puts w c lane ≡ put_in w c lane
puts_is w c lane low high = ap (λ (l : Lane). record (with_lane w c lane) { sender = happened (channel_id c) (Ready (head_in l.items) (backlog_in l.items)) w.sender }) (lane_put w c lane low high)

keeps_put_in : (m c : ℕ) (w : World) (lane : Lane) → (sound : IsSound m w) → 1 ≤ c → c ≤ m → lane.inbox ≡ (lane_of w c).inbox
    → ((r : Reader) → SoundOn w.size (partition_limit w) (lane_of w c) r (responses c w.frames) (credit_coming c w.controls) (resumptions_coming c w.controls)
    → SoundOn w.size (partition_limit w) lane (told r lane.items) (responses c w.frames) (credit_coming c w.controls) (resumptions_coming c w.controls))
    → IsSound m (put_in w c lane)
keeps_put_in m c w lane sound low high same here =
    let s = sound.each c low high in
    let lanes = lanes_stay w c lane in
    let number = sound.lanes in
    let within : c ≤ length w.lanes = omega arith in
    let h = Ready (head_in lane.items) (backlog_in lane.items) in
    keeps_sound m c w (put_in w c lane) sound (record {
      size = refl;
      total = refl;
      lanes = lanes;
      channels = channels_after (channel_id c) h w.sender.readers;
      lane = λ d d_low d_high other. lane_stays w c lane low d d_low other;
      reader = λ d d_low d_high other. reader_there (channel_id c) h w.sender.readers (channel_id d) (other_channel c d low d_low other);
      way = λ d d_low d_high other. refl;
      credit = λ d d_low d_high other. refl;
      resumptions = λ d d_low d_high other. refl;
    }) (happened_holds (channel_id c) h w.sender sound.queue) sound.frames sound.controls
    (λ c_low c_high. is_sound_lane c (put_in w c lane) w.size (partition_limit w) lane (told s.reader lane.items) (responses c w.frames) (credit_coming c w.controls) (resumptions_coming c w.controls)
    refl (limit_stays w (put_in w c lane) refl lanes) (lane_put w c lane low within) (reader_here (channel_id c) h w.sender.readers s.reader s.found) refl refl refl (here s.reader (sound_on c w s)))
    (let lent = gate_lent_stays w c lane low within same in let limit = gate_limit_stays w (put_in w c lane) refl lanes in let gate = sound.gate in omega (arith, lent, limit, gate))

-- what is put on a channel that isn't finished
keeps_put : (m c : ℕ) (w : World) (items ps : List Parcel) (barriers : ℕ) (finished : Bool)
    (g : Grows (brought (responses c w.frames) ++ (lane_of w c).items) (brought (responses c w.frames) ++ items) ps) → IsSound m w → 1 ≤ c → c ≤ m
    → (lane_of w c).finished ≡ false → AreFit w.size (ps ++ g.back)
    → map (λ (b : ℕ × BarrierKind). b.0) (barriers_of ps) ≡ range_with_len (suc (lane_of w c).barriers) (length (barriers_of ps))
    → barriers ≡ (lane_of w c).barriers + length (barriers_of ps) → finished ≡ has_end ps
    → length (lane_of w c).items + length ps ≤ ITEMS_MAX → backlog_in (lane_of w c).items + backlog_in ps ≤ partition_limit w
    → IsSound m (puts w c (changed (lane_of w c) items barriers finished))
keeps_put m c w items ps barriers finished g sound low high going fit numbers barriers_is finished_is room lent =
    let number = sound.lanes in
    subst (IsSound m) (sym (puts_is w c (changed (lane_of w c) items barriers finished) low (omega arith)))
    (keeps_put_in m c w (changed (lane_of w c) items barriers finished) sound low high refl
    (λ r s. put_sound w.size (partition_limit w) (lane_of w c) r (responses c w.frames) (credit_coming c w.controls) (resumptions_coming c w.controls) items ps barriers finished g s going fit numbers barriers_is finished_is room lent))

keeps_more : (m c : ℕ) (w : World) (ps : List Parcel) (barriers : ℕ) (finished : Bool) → IsSound m w → 1 ≤ c → c ≤ m
    → (lane_of w c).finished ≡ false → AreFit w.size ps
    → map (λ (b : ℕ × BarrierKind). b.0) (barriers_of ps) ≡ range_with_len (suc (lane_of w c).barriers) (length (barriers_of ps))
    → barriers ≡ (lane_of w c).barriers + length (barriers_of ps) → finished ≡ has_end ps
    → length (lane_of w c).items + length ps ≤ ITEMS_MAX → backlog_in (lane_of w c).items + backlog_in ps ≤ partition_limit w
    → IsSound m (puts w c (more (lane_of w c) ps barriers finished))
keeps_more m c w ps barriers finished sound low high going fit =
    keeps_put m c w ((lane_of w c).items ++ ps) ps barriers finished (behind_all (brought (responses c w.frames)) (lane_of w c).items ps) sound low high going (subst (AreFit w.size) (sym (append-nil ps)) fit)

-- ---- a record

pieces_fit : (most size : ℕ) (bytes : List ℕ) → 1 ≤ size → AreFit size (map Data (pieces_within most size bytes))
pieces_fit zero size bytes some = tt
pieces_fit (suc most) size [] some = tt
pieces_fit (suc most) size (b ∷ bytes) some =
    let long = length-take size (b ∷ bytes) in (omega (arith, long), omega (arith, long), pieces_fit most size (drop size (b ∷ bytes)) some)

-- buffers are data alone
buffers_no_barriers : (xs : List (List ℕ)) → barriers_of (map Data xs) ≡ []
buffers_no_barriers [] = refl
buffers_no_barriers (x ∷ xs) = buffers_no_barriers xs

buffers_no_end : (xs : List (List ℕ)) → has_end (map Data xs) ≡ false
buffers_no_end [] = refl
buffers_no_end (x ∷ xs) = buffers_no_end xs

buffers_backlog : (xs : List (List ℕ)) → backlog_in (map Data xs) ≡ length (map Data xs)
buffers_backlog [] = refl
buffers_backlog (x ∷ xs) = sum_by-cons (λ p. cond (is_data p) 1 0) (Data x) (map Data xs) ∙ omega (arith, buffers_backlog xs)

-- an encoding has at least the four bytes of its length
pub length_bytes-length : (n : ℕ) → length (length_bytes n) ≡ 4
unfolding length_bytes
length_bytes-length n = refl

pub encoded_long : (r : List ℕ) → 4 ≤ length (encoded r)
encoded_long r = omega (arith, length-append (length_bytes (length r)) r, length_bytes-length (length r))

-- a segment has at least a byte
some_size : (m : ℕ) (w : World) → IsSound m w → 1 ≤ w.size
some_size m w sound = let low = sound.opening.opening.low in omega (arith, low)

-- a world and a reply, of which the world is sound
abbrev WithSound : ℕ → World × Reply → Type 0
WithSound m p = IsSound m p.0

emits_sound : (m c : ℕ) (w : World) (text : List ℕ) → IsSound m w → 1 ≤ c → c ≤ m → WithSound m (emits w c text)
emits_sound m c w text sound low high =
    let lane = lane_of w c in
    let buffers = buffers_of w text in
    let xs = pieces w.size (encoded text) in
    let put : World × Reply = (puts w c (with_items lane buffers), replies.Queued c (partition_lent lane + length buffers)) in
    let full = ltb (partition_limit w) (partition_lent lane + length buffers) || ltb ITEMS_MAX (length lane.items + length buffers) in
    cond_both lane.finished (w, replies.Refused) (cond full (w, replies.Full) put) (WithSound m) (λ is. sound) (λ going.
    cond_both full (w, replies.Full) put (WithSound m) (λ is. sound) (λ fits.
    let parts = or_parts _ _ fits in
    let lent : partition_lent lane + length buffers ≤ partition_limit w = ltb-false _ _ parts.0 in
    let room : length lane.items + length buffers ≤ ITEMS_MAX = ltb-false _ _ parts.1 in
    let none : barriers_of buffers ≡ [] = buffers_no_barriers xs in
    keeps_more m c w buffers lane.barriers lane.finished sound low high going (pieces_fit (length (encoded text)) w.size (encoded text) (some_size m w sound))
    (subst (λ (bs : List (ℕ × BarrierKind)). map (λ (b : ℕ × BarrierKind). b.0) bs ≡ range_with_len (suc lane.barriers) (length bs)) (sym none) refl)
    (let no : length (barriers_of buffers) ≡ 0 = ap length none in omega (arith, no))
    (going ∙ sym (buffers_no_end xs)) room
    (let counted : backlog_in buffers ≡ length buffers = buffers_backlog xs in omega (arith, counted, lent))))

pub keeps_emit : (m c : ℕ) (w : World) (text : Items ℕ) → IsSound m w → IsEvent m (events.Emit c text) → IsSound m (step w (events.Emit c text)).0
keeps_emit m c w text sound event = emits_sound m c w text.items sound event.0.0 event.0.1

pub keeps_fill : (m c n : ℕ) (w : World) → IsSound m w → IsEvent m (events.Fill c n) → IsSound m (step w (events.Fill c n)).0
keeps_fill m c n w sound event = emits_sound m c w (replicate n 97) sound event.0.0 event.0.1

-- ---- a barrier, and the end

barred_sound : (m c k : ℕ) (kind : BarrierKind) (w : World) → IsSound m w → IsChannel m c → (lane_of w c).finished ≡ false → k ≡ suc (lane_of w c).barriers → length (lane_of w c).items < ITEMS_MAX
    → IsSound m (puts w c (barred k kind (lane_of w c)))
barred_sound m c k Inline w sound channel going next room =
    let lane = lane_of w c in
    let within = (sound.each c channel.0 channel.1).lent in
    keeps_more m c w (Barrier k Inline ∷ []) k lane.finished sound channel.0 channel.1 going tt (ap (λ n. n ∷ []) next) (omega (arith, next)) going (omega (arith, room)) (omega (arith, within))
barred_sound m c k Front w sound channel going next room =
    let lane = lane_of w c in
    let s = sound.each c channel.0 channel.1 in
    let within = s.lent in
    let g = in_front (brought (responses c w.frames)) lane.items k in
    let parts = fit_parts w.size g.front g.back (ap has_end (sym g.was) ∙ (s.agree.unfinished going).1) (subst (AreFit w.size) g.was s.agree.fit) in
    keeps_put m c w (with_front k lane.items) (Barrier k Front ∷ []) k lane.finished g sound channel.0 channel.1 going parts.2 (ap (λ n. n ∷ []) next) (omega (arith, next)) going (omega (arith, room)) (omega (arith, within))

pub keeps_barrier : (m c k : ℕ) (kind : BarrierKind) (w : World) → IsSound m w → IsEvent m (events.Barrier c k kind) → IsSound m (step w (events.Barrier c k kind)).0
keeps_barrier m c k kind w sound event =
    let lane = lane_of w c in
    let put : World × Reply = (puts w c (barred k kind lane), bar_reply c k kind lane) in
    let fits = ltb (length lane.items) ITEMS_MAX in
    cond_both (lane.finished || not (eqb k (suc lane.barriers))) (w, replies.Refused) (cond fits put (w, replies.Full)) (WithSound m) (λ is. sound) (λ may.
    cond_both fits put (w, replies.Full) (WithSound m) (λ less.
    let parts = or_parts _ _ may in
    barred_sound m c k kind w sound event.0 parts.0 (eqb-true _ _ (not-false _ parts.1)) (ltb-true _ _ less)) (λ is. sound))

pub keeps_finish : (m c : ℕ) (w : World) → IsSound m w → IsEvent m (events.Finish c) → IsSound m (step w (events.Finish c)).0
keeps_finish m c w sound event =
    let lane = lane_of w c in
    let put : World × Reply = (puts w c (record (with_items lane (End ∷ [])) { finished = true }), replies.Done) in
    let fits = ltb (length lane.items) ITEMS_MAX in
    cond_both lane.finished (w, replies.Refused) (cond fits put (w, replies.Full)) (WithSound m) (λ is. sound) (λ going.
    cond_both fits put (w, replies.Full) (WithSound m) (λ less.
    let room : length lane.items < ITEMS_MAX = ltb-true _ _ less in
    let within = (sound.each c event.0 event.1).lent in
    keeps_more m c w (End ∷ []) lane.barriers true sound event.0 event.1 going refl refl (omega arith) refl (omega (arith, room)) (omega (arith, within))) (λ is. sound))
