-- What the events of the sending task and of the sending end add to the histories of a channel's ends.
use Rattle.std.proofs.Common.{◌≡◌, ℕ, zero, suc, ◌+◌, ◌≤◌, eqb, ltb, true, false, not, cond, Bool, List, [], ◌∷◌, ◌++◌, length, map, Option, Some, None, refl, sym, ap, subst, ◌∙◌, append_assoc, append-nil, arith}
use Rattle.std.specs.Prelude.{◌||◌, ◌&&◌}
use Rattle.std.specs.List.{range_with_len}
use Rattle.std.proofs.lemmas.Bool.{cond_both, or_parts, not-false, eqb-true}
use Rattle.std.proofs.lemmas.List.{map-append}
use Rattle.flow_defs.specs.declared.task.BarrierKind.{BarrierKind}
use Rattle.flow_defs.specs.declared.task.BarrierKind.TheVariants.{Inline, Front}
use Rattle.flow_defs.specs.declared.task.ChannelId.{ChannelId}
use Rattle.flow_defs.specs.declared.parcel.Parcel.{Parcel}
use Rattle.flow_defs.specs.declared.parcel.Parcel.TheVariants.{Data, Barrier, End}
use Rattle.flow_defs.specs.Parcels.{data_of, barriers_of}
use Rattle.flow_defs.specs.Records.{encoded, all_encoded}
use Rattle.subpartition.specs.declared.entry.SendEntry.{SendEntry}
use Rattle.subpartition.specs.declared.entry.SendEntry.TheVariants as entries
use Rattle.subpartition.specs.Sending.{Outbox, sent_from, with_front, parcels_put, put, barriers_put, numbers_of}
use Rattle.input_channel.specs.declared.entry.ReceiveEntry.{ReceiveEntry}
use Rattle.credit_reader.specs.declared.reader.Reader.{Reader}
use Rattle.credit_reader.specs.Answers.{due_first}
use Rattle.script_text.specs.declared.event.Event.TheVariants as events
use Rattle.script_text.specs.declared.reply.Reply.{Reply}
use Rattle.script_text.specs.declared.reply.Reply.TheVariants as replies
use Rattle.exchange_world.specs.Lanes.{Lane, ITEMS_MAX, backlog_in}
use Rattle.exchange_world.specs.Worlds.{World, ControlFrame, AddCredit, Resumption, Announcement, lane_of, partition_limit, partition_lent}
use Rattle.exchange_world.specs.Steps.{step, pieces, buffers_of, with_items, puts, emits, barred, bar_reply, number_of, sequence_of, sends_first, sends_of, announces, obeys}
use Rattle.exchange_world.specs.Theorems.{is_queued, emitted_if, polled_in}
use Rattle.exchange_world.specs.Sound.{responses, coming}
use Rattle.exchange_world.proofs.LaneLemmas.{lane_put, lane_stays}
use Rattle.exchange_world.proofs.WorldLemmas.{responses-append}
use Rattle.exchange_world.proofs.PuttingLemmas.{changed, range-append}
use Rattle.exchange_world.proofs.SendingLemmas.{response_here, response_there}
use Rattle.exchange_world.proofs.Bytes.{pieces_whole}
use Rattle.exchange_world.proofs.OrderMoves.{by_channel}
use Rattle.exchange_world.proofs.Ends.{AreEnds, Steps, same_start, no_records, nothing, sent_ends}

-- ---- buffers

abbrev puts_of : List (List ℕ) → List SendEntry
puts_of buffers = map entries.Put buffers

parcels_of : (buffers : List (List ℕ)) → parcels_put (puts_of buffers) ≡ map Data buffers
parcels_of [] = refl
parcels_of (b ∷ buffers) = ap (λ ps. Data b ∷ ps) (parcels_of buffers)

no_barriers : (buffers : List (List ℕ)) → barriers_of (map Data buffers) ≡ []
no_barriers [] = refl
no_barriers (b ∷ buffers) = no_barriers buffers

all_put : (before items : List Parcel) (buffers : List (List ℕ)) → (let o : Outbox = record { taken = before; items = items } in sent_from o (puts_of buffers)) ≡ (let n : Outbox = record { taken = before; items = items ++ map Data buffers } in n)
all_put before items [] = ap (λ is. let n : Outbox = record { taken = before; items = is } in n) (sym (append-nil items))
all_put before items (b ∷ buffers) =
    all_put before (items ++ Data b ∷ []) buffers ∙ ap (λ is. let n : Outbox = record { taken = before; items = is } in n) (append_assoc items (Data b ∷ []) (map Data buffers))

-- no more barriers, and the next one
none_more : (barriers : ℕ) (bs : List (ℕ × BarrierKind)) → bs ≡ [] → range_with_len 1 barriers ++ numbers_of bs ≡ range_with_len 1 barriers
none_more barriers bs none = ap (λ l. range_with_len 1 barriers ++ numbers_of l) none ∙ append-nil (range_with_len 1 barriers)

pub next_more : (k barriers : ℕ) → k ≡ suc barriers → range_with_len 1 barriers ++ k ∷ [] ≡ range_with_len 1 k
next_more k barriers next =
    ap (λ n. range_with_len 1 barriers ++ n ∷ []) (let e : k ≡ 1 + barriers = omega (arith, next) in e)
    ∙ sym (range-append 1 barriers 1) ∙ ap (range_with_len 1) (let e : barriers + 1 ≡ k = omega (arith, next) in e)

-- ---- the sending task

module _ (c : ℕ) (xs : List SendEntry) (pairs : List (ℕ × ReceiveEntry)) (bytes read : List ℕ) (w : World) (low : 1 ≤ c) (high : c ≤ length w.lanes) (d : ℕ) (d_low : 1 ≤ d) where
  -- something is put on the channel
  abbrev Ends : ℕ → Type 0
  Ends x = AreEnds x w xs pairs bytes read

  puts_ends : (more : List SendEntry) (items : List Parcel) (barriers : ℕ) (finished : Bool) (added : List ℕ) → d ≡ c
      → ((before : List Parcel) → (let o : Outbox = record { taken = before; items = (lane_of w d).items } in sent_from o more) ≡ (let n : Outbox = record { taken = before ++ []; items = items } in n))
      → put more ≡ added → range_with_len 1 (lane_of w d).barriers ++ numbers_of (barriers_put more) ≡ range_with_len 1 barriers
      → Ends d → AreEnds d (puts w d (changed (lane_of w d) items barriers finished)) (xs ++ more) pairs (bytes ++ added) read
  puts_ends more items barriers finished added is goes put_is numbers ends =
      sent_ends d w xs pairs bytes read ends (puts w d (changed (lane_of w d) items barriers finished)) more items barriers finished [] added
      (lane_put w d (changed (lane_of w d) items barriers finished) d_low (omega (arith, is, high))) (sym (append-nil (coming d w))) goes put_is numbers

  puts_there : (lane : Lane) → (c ≡ d → ⊥) → Ends c → Steps c xs pairs bytes read [] [] (puts w d lane)
  puts_there lane other ends = nothing c w xs pairs bytes read (puts w d lane) (lane_stays w d lane d_low c low other) refl ends

  with_taken : (items : List Parcel) (before : List Parcel) → (let n : Outbox = record { taken = before; items = items } in n) ≡ (let n : Outbox = record { taken = before ++ []; items = items } in n)
  with_taken items before = ap (λ t. let n : Outbox = record { taken = t; items = items } in n) (sym (append-nil before))

  -- a record is put, or nothing
  pub emits_steps : (text : List ℕ) → 1 ≤ w.size → Ends c → Steps c xs pairs bytes read (emitted_if (eqb d c && is_queued (emits w d text).1) text) (polled_in c (emits w d text).1) (emits w d text).0
  emits_steps text some ends =
      let lane = lane_of w d in
      let buffers = buffers_of w text in
      let done : World × Reply = (puts w d (with_items lane buffers), replies.Queued d (partition_lent lane + length buffers)) in
      let full = ltb (partition_limit w) (partition_lent lane + length buffers) || ltb ITEMS_MAX (length lane.items + length buffers) in
      cond_both lane.finished (w, replies.Refused) (cond full (w, replies.Full) done) IsSo (λ is. none replies.Refused refl refl) (λ going.
      cond_both full (w, replies.Full) done IsSo (λ is. none replies.Full refl refl) (λ fits.
      by_channel d c (λ b x. Ends x → Steps x xs pairs bytes read (emitted_if (b && true) text) [] (puts w d (with_items lane buffers)))
      (λ is here. put_here is here)
      (λ other there. puts_there (with_items lane buffers) other there) ends))
    where
      IsSo : World × Reply → Type 0
      IsSo p = Steps c xs pairs bytes read (emitted_if (eqb d c && is_queued p.1) text) (polled_in c p.1) p.0

      none : (reply : Reply) → is_queued reply ≡ false → polled_in c reply ≡ [] → IsSo (w, reply)
      none reply not_queued not_polled =
          subst (λ rs. Steps c xs pairs bytes read (emitted_if (eqb d c && is_queued reply) text) rs w) (sym not_polled)
          (subst (λ q. Steps c xs pairs bytes read (emitted_if (eqb d c && q) text) [] w) (sym not_queued)
          (elim (eqb d c) as (λ b. Steps c xs pairs bytes read (emitted_if (b && false) text) [] w) [ true ↦ nothing c w xs pairs bytes read w refl refl ends | false ↦ nothing c w xs pairs bytes read w refl refl ends ]))

      put_here : d ≡ c → Ends d → Steps d xs pairs bytes read (text ∷ []) [] (puts w d (with_items (lane_of w d) (buffers_of w text)))
      put_here is here =
          let lane = lane_of w d in
          let bs = pieces w.size (encoded text) in
          let added : put (puts_of bs) ≡ all_encoded (text ∷ []) = ap data_of (parcels_of bs) ∙ pieces_whole w.size (encoded text) some ∙ sym (append-nil (encoded text)) in
          record {
            sends = xs ++ puts_of bs;
            starts = (puts_of bs, refl);
            receives = pairs;
            begins = same_start pairs;
            all_bytes = bytes ++ all_encoded (text ∷ []);
            bytes_are = refl;
            all_read = read;
            read_are = sym (append-nil read);
            kept = λ j is_not. refl;
            next = puts_ends (puts_of bs) (lane.items ++ map Data bs) lane.barriers lane.finished (all_encoded (text ∷ [])) is
                (λ before. all_put before lane.items bs ∙ with_taken (lane.items ++ map Data bs) before)
                added (none_more lane.barriers (barriers_put (puts_of bs)) (ap barriers_of (parcels_of bs) ∙ no_barriers bs)) here;
          }

  -- what has no data is put, or nothing
  put_steps : (more : List SendEntry) (items : List Parcel) (barriers : ℕ) (finished : Bool) (reply : Reply)
      → ((before : List Parcel) → (let o : Outbox = record { taken = before; items = (lane_of w d).items } in sent_from o more) ≡ (let n : Outbox = record { taken = before ++ []; items = items } in n))
      → put more ≡ [] → range_with_len 1 (lane_of w d).barriers ++ numbers_of (barriers_put more) ≡ range_with_len 1 barriers → polled_in c reply ≡ []
      → Ends c → Steps c xs pairs bytes read [] (polled_in c reply) (puts w d (changed (lane_of w d) items barriers finished))
  put_steps more items barriers finished reply goes none numbers not_polled ends =
      let v = puts w d (changed (lane_of w d) items barriers finished) in
      subst (λ rs. Steps c xs pairs bytes read [] rs v) (sym not_polled)
      (by_channel d c (λ b x. Ends x → Steps x xs pairs bytes read [] [] v)
      (λ is here. no_records d w xs pairs bytes read here v (xs ++ more) pairs (more, refl) (same_start pairs) (ap (λ (l : Lane). l.saves) (lane_put w d (changed (lane_of w d) items barriers finished) d_low (omega (arith, is, high))))
      (subst (λ bs. AreEnds d v (xs ++ more) pairs bs read) (append-nil bytes) (puts_ends more items barriers finished [] is goes none numbers here)))
      (λ other there. puts_there (changed (lane_of w d) items barriers finished) other there) ends)

  pub barred_steps : (k : ℕ) (kind : BarrierKind) → k ≡ suc (lane_of w d).barriers → Ends c → Steps c xs pairs bytes read [] (polled_in c (bar_reply d k kind (lane_of w d))) (puts w d (barred k kind (lane_of w d)))
  barred_steps k Inline next ends =
      let lane = lane_of w d in
      put_steps (entries.PutInline k ∷ []) (lane.items ++ Barrier k Inline ∷ []) k lane.finished replies.Done (with_taken (lane.items ++ Barrier k Inline ∷ [])) refl (next_more k lane.barriers next) refl ends
  barred_steps k Front next ends =
      let lane = lane_of w d in
      put_steps (entries.PutFront k ∷ []) (with_front k lane.items) k lane.finished (bar_reply d k Front lane) (with_taken (with_front k lane.items)) refl (next_more k lane.barriers next) refl ends

  -- the entry that a front barrier adds
  pub front_ends : (k : ℕ) → k ≡ suc (lane_of w d).barriers → d ≡ c → Ends d → AreEnds d (puts w d (barred k Front (lane_of w d))) (xs ++ entries.PutFront k ∷ []) pairs bytes read
  front_ends k next is ends =
      let lane = lane_of w d in
      subst (λ bs. AreEnds d (puts w d (barred k Front lane)) (xs ++ entries.PutFront k ∷ []) pairs bs read) (append-nil bytes)
      (puts_ends (entries.PutFront k ∷ []) (with_front k lane.items) k lane.finished [] is (with_taken (with_front k lane.items)) refl (next_more k lane.barriers next) ends)

  -- the next one was tested for
  pub next_is : (k : ℕ) → ((lane_of w d).finished || not (eqb k (suc (lane_of w d).barriers))) ≡ false → k ≡ suc (lane_of w d).barriers
  next_is k may = eqb-true k (suc (lane_of w d).barriers) (not-false (eqb k (suc (lane_of w d).barriers)) (or_parts (lane_of w d).finished (not (eqb k (suc (lane_of w d).barriers))) may).1)

  abbrev Goes : World × Reply → Type 0
  Goes p = Steps c xs pairs bytes read [] (polled_in c p.1) p.0

  stays : Ends c → Steps c xs pairs bytes read [] [] w
  stays ends = nothing c w xs pairs bytes read w refl refl ends

  pub barrier_steps : (k : ℕ) (kind : BarrierKind) → Ends c → Steps c xs pairs bytes read [] (polled_in c (step w (events.Barrier d k kind)).1) (step w (events.Barrier d k kind)).0
  barrier_steps k kind ends =
      let lane = lane_of w d in
      let done : World × Reply = (puts w d (barred k kind lane), bar_reply d k kind lane) in
      let fits = ltb (length lane.items) ITEMS_MAX in
      cond_both (lane.finished || not (eqb k (suc lane.barriers))) (w, replies.Refused) (cond fits done (w, replies.Full)) Goes (λ is. stays ends) (λ may.
      cond_both fits done (w, replies.Full) Goes (λ less. barred_steps k kind (next_is k may) ends) (λ is. stays ends))

  pub finish_steps : Ends c → Steps c xs pairs bytes read [] (polled_in c (step w (events.Finish d)).1) (step w (events.Finish d)).0
  finish_steps ends =
      let lane = lane_of w d in
      let done : World × Reply = (puts w d (record (with_items lane (End ∷ [])) { finished = true }), replies.Done) in
      let fits = ltb (length lane.items) ITEMS_MAX in
      cond_both lane.finished (w, replies.Refused) (cond fits done (w, replies.Full)) Goes (λ is. stays ends) (λ going.
      cond_both fits done (w, replies.Full) Goes (λ less.
      put_steps (entries.Finish ∷ []) (lane.items ++ End ∷ []) lane.barriers true replies.Done (with_taken (lane.items ++ End ∷ [])) refl (none_more lane.barriers [] refl) refl ends) (λ is. stays ends))

  -- ---- the first item of a channel goes on its way

  takes_here : (p : Parcel) (items : List Parcel) → (lane_of w d).items ≡ p ∷ items → d ≡ c → Ends d → Steps d xs pairs bytes read [] [] (sends_first w d (p ∷ items)).0
  takes_here p items are is ends =
      let lane = lane_of w d in
      let now : Lane = record lane { items = items } in
      let v = (sends_first w d (p ∷ items)).0 in
      let there : lane_of v d ≡ now = lane_put w d now d_low (omega (arith, is, high)) in
      let way : coming d v ≡ coming d w ++ p ∷ [] = ap (map (λ (r : ℕ × Parcel). r.1)) (response_here d (sequence_of w d) p (backlog_in items) w.frames) ∙ map-append (λ (r : ℕ × Parcel). r.1) (responses d w.frames) ((sequence_of w d, p) ∷ []) in
      no_records d w xs pairs bytes read ends v (xs ++ entries.Take ∷ []) pairs (entries.Take ∷ [], refl) (same_start pairs) (ap (λ (l : Lane). l.saves) there)
      (subst (λ bs. AreEnds d v (xs ++ entries.Take ∷ []) pairs bs read) (append-nil bytes)
      (sent_ends d w xs pairs bytes read ends v (entries.Take ∷ []) items lane.barriers lane.finished (p ∷ []) [] there way
      (λ before. ap (λ is. let o : Outbox = record { taken = before; items = is } in sent_from o (entries.Take ∷ [])) are) refl (none_more lane.barriers [] refl)))

  pub sends_steps : (items : List Parcel) → (lane_of w d).items ≡ items → Ends c → Steps c xs pairs bytes read [] (polled_in c (sends_first w d items).1) (sends_first w d items).0
  sends_steps [] are ends = stays ends
  sends_steps (p ∷ items) are ends =
      let v = (sends_first w d (p ∷ items)).0 in
      by_channel d c (λ b x. Ends x → Steps x xs pairs bytes read [] [] v) (λ is here. takes_here p items are is here) (λ other there.
      nothing c w xs pairs bytes read v (lane_stays w d (record (lane_of w d) { items = items }) d_low c low other)
      (ap (map (λ (r : ℕ × Parcel). r.1)) (response_there d c (sequence_of w d) p (backlog_in items) w.frames other)) there) ends

module _ (c : ℕ) (xs : List SendEntry) (pairs : List (ℕ × ReceiveEntry)) (bytes read : List ℕ) (w : World) (ends : AreEnds c w xs pairs bytes read) where
  sends_of_steps : 1 ≤ c → c ≤ length w.lanes → (ids : List ChannelId) → Steps c xs pairs bytes read [] (polled_in c (sends_of w ids).1) (sends_of w ids).0
  sends_of_steps low high [] = nothing c w xs pairs bytes read w refl refl ends
  sends_of_steps low high (id ∷ ids) = sends_steps c xs pairs bytes read w low high (number_of id) (omega arith) (lane_of w (number_of id)).items refl ends

  pub send_steps : 1 ≤ c → c ≤ length w.lanes → Steps c xs pairs bytes read [] (polled_in c (step w events.Send).1) (step w events.Send).0
  send_steps low high = sends_of_steps low high w.sender.queue

  -- ---- what brings nothing

  announces_steps : (o : Option Reader) → Steps c xs pairs bytes read [] (polled_in c (announces w o).1) (announces w o).0
  announces_steps None = nothing c w xs pairs bytes read w refl refl ends
  announces_steps (Some r) =
      let more = Announcement (number_of r.channel) r.backlog ∷ [] in
      nothing c w xs pairs bytes read (announces w (Some r)).0 refl (ap (map (λ (r : ℕ × Parcel). r.1)) (responses-append c w.frames more ∙ append-nil (responses c w.frames))) ends

  pub announce_steps : Steps c xs pairs bytes read [] (polled_in c (step w events.Announce).1) (step w events.Announce).0
  announce_steps = announces_steps (due_first w.sender)

  obeys_steps : (fs : List ControlFrame) → Steps c xs pairs bytes read [] (polled_in c (obeys w fs).1) (obeys w fs).0
  obeys_steps [] = nothing c w xs pairs bytes read w refl refl ends
  obeys_steps (AddCredit d n ∷ fs) = nothing c w xs pairs bytes read (obeys w (AddCredit d n ∷ fs)).0 refl refl ends
  obeys_steps (Resumption d ∷ fs) = nothing c w xs pairs bytes read (obeys w (Resumption d ∷ fs)).0 refl refl ends

  pub control_steps : Steps c xs pairs bytes read [] (polled_in c (step w events.Control).1) (step w events.Control).0
  control_steps = obeys_steps w.controls
