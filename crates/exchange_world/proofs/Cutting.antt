-- The cut of a channel by a front barrier, in scripts: of the histories that the events make.
use Rattle.std.proofs.Common.{◌≡◌, ◌⊎◌, inl, inr, ℕ, zero, suc, ◌+◌, ◌≤◌, eqb, ltb, true, false, true≢false, not, cond, Bool, List, [], ◌∷◌, ◌++◌, length, replicate, Option, Some, None, refl, sym, ap, subst, ◌∙◌, append_assoc, append-nil, arith}
use Rattle.std.specs.Prelude.{◌||◌, ◌&&◌}
use Rattle.std.specs.List.{AllByRecursion, list_any, range_with_len}
use Rattle.std.proofs.lemmas.Bool.{cond_both, cond-true, cond-false, cases_Bool, and_parts, or_parts, eqb-true, eq-eqb, ne_eqb, ltb-false, not-false, or_left, or_right}
use Rattle.std.proofs.lemmas.List.{length-replicate}
use Rattle.flow_defs.specs.declared.task.BarrierKind.{BarrierKind}
use Rattle.flow_defs.specs.declared.task.BarrierKind.TheVariants.{Inline, Front}
use Rattle.flow_defs.specs.declared.task.ChannelId.{ChannelId}
use Rattle.flow_defs.specs.declared.parcel.Parcel.{Parcel}
use Rattle.flow_defs.specs.declared.parcel.Parcel.TheVariants.{Data, Barrier, End}
use Rattle.flow_defs.specs.Items.{Items}
use Rattle.flow_defs.specs.Parcels.{data_of, barriers_of}
use Rattle.flow_defs.specs.Barriers.{data_before, has_barrier, is_barrier, behind_last}
use Rattle.flow_defs.specs.Records.{IsShort, all_encoded}
use Rattle.flow_defs.proofs.BarrierLemmas.{has_barrier-append, data_before-past, data_before-within}
use Rattle.turn_cell.specs.History.{StartsWith, entries_of}
use Rattle.turn_cell.proofs.Histories.{entries_of-append}
use Rattle.subpartition.specs.declared.entry.SendEntry.{SendEntry}
use Rattle.subpartition.specs.declared.entry.SendEntry.TheVariants.{PutFront}
use Rattle.subpartition.specs.Sending.{taken, outbox, travelled, parcels_put, put, put_before, barriers_put, numbers_of, overtaken, with_front}
use Rattle.subpartition.proofs.Travelling.{barrier_splits_data, put_stays, front_overtakes_last, parcels_put-append}
use Rattle.input_channel.specs.declared.entry.ReceiveEntry.{ReceiveEntry}
use Rattle.input_channel.specs.declared.entry.ReceiveEntry.TheVariants as entries
use Rattle.input_channel.specs.Inboxes.{inbox, pushed, polled_bytes, polled_behind, saved, has_save, IsSave}
use Rattle.input_channel.specs.Inboxes.{poll_gives}
use Rattle.input_channel.specs.Counts.{told}
use Rattle.input_channel.specs.Legal.{MaySave, MayClose}
use Rattle.input_channel.specs.States.{ChannelState, OpenSave, opening, saved_bytes, SaveIs}
use Rattle.input_channel.proofs.InboxLaws.{pushed-append}
use Rattle.input_channel.proofs.LegalLaws.{arrivals_are_numbered}
use Rattle.input_channel.proofs.SaveLaws.{saved_completes_polled, saved_stays}
use Rattle.input_channel.proofs.StateLaws.{opens_empty, calls_are_legal, entries_are_legal, saved_tells}
use Rattle.credit_reader.specs.declared.reader.Reader.{Reader}
use Rattle.credit_reader.specs.Answers.{due_first}
use Rattle.script_text.specs.declared.event.Event.{Event}
use Rattle.script_text.specs.declared.event.Event.TheVariants as events
use Rattle.script_text.specs.declared.reply.Reply.{Reply}
use Rattle.script_text.specs.declared.reply.Reply.TheVariants as replies
use Rattle.script_text.specs.Scripts.{IsEvent}
use Rattle.exchange_world.specs.Lanes.{Lane, ITEMS_MAX, BUFFERS_MAX, new_lane, has_number}
use Rattle.exchange_world.specs.Worlds.{World, DataFrame, Response, Announcement, ControlFrame, AddCredit, Resumption, opened, lane_of, with_lane, partition_limit, partition_lent}
use Rattle.exchange_world.specs.Steps.{step, after_events, replies_to, buffers_of, with_items, puts, emits, barred, bar_reply, number_of, sends_first, sends_of, announces, obeys, receives, delivers, polls_item, saving, is_no_save, tells_open}
use Rattle.exchange_world.specs.Theorems.{CanOpen, AreEvents, emitted_by, polled_in, emitted, polled, tells_overtaken, is_done, opens_save, emitted_before, polled_before, IsAmong, TellPieces, SavedPiecesMakeTheCut}
use Rattle.exchange_world.specs.Sound.{IsSound, coming}
use Rattle.exchange_world.proofs.OpenedLemmas.{opened_is_sound}
use Rattle.exchange_world.proofs.Keeping.{steps_keep_sound}
use Rattle.exchange_world.proofs.Bytes.{encoded-append, short-append, short_later}
use Rattle.exchange_world.proofs.OrderMoves.{waits, waits_of}
use Rattle.exchange_world.proofs.Order.{opened_lane, with_rest, moves_at}
use Rattle.exchange_world.proofs.Saving.{may_open}
use Rattle.exchange_world.proofs.Ends.{Tells, IsReceiving, AreEnds, StepsWith, same_start, start_twice, nothing, has_save-append}
use Rattle.exchange_world.proofs.EndsSending.{emits_steps, barrier_steps, front_ends, finish_steps, send_steps, announce_steps, control_steps}
use Rattle.exchange_world.proofs.EndsReceiving.{WaitsFor, deliver_steps, credit_steps, resume_steps, polls_steps, save_steps, save_ends, saved_steps}

-- ---- what replies tell

-- Whether a reply tells a piece of a cut.
abbrev tells_piece : Reply → Bool
tells_piece (replies.SavedOut c k bytes) = true
tells_piece (replies.SavedIn c k bytes) = true
tells_piece reply = false

abbrev piece_of : Reply → List ℕ
piece_of (replies.SavedOut c k bytes) = bytes.items
piece_of (replies.SavedIn c k bytes) = bytes.items
piece_of reply = []

abbrev channel_of : Reply → ℕ
channel_of (replies.SavedIn c k bytes) = c
channel_of reply = 0

abbrev barrier_of : Reply → ℕ
barrier_of (replies.SavedIn c k bytes) = k
barrier_of reply = 0

-- what tells what barrier k overtook is a piece
overtaken_piece : (c k : ℕ) (r : Reply) → tells_overtaken c k r ≡ true → tells_piece r ≡ true
overtaken_piece c k (replies.SavedOut d j bytes) t = refl
overtaken_piece c k r t = absurd (true≢false (sym t))

-- no event but a barrier and the asking for what was saved tells one
module _ (w : World) where
  abbrev IsPlain : World × Reply → Type 0
  IsPlain p = tells_piece p.1 ≡ false

  emits_none : (d : ℕ) (text : List ℕ) → IsPlain (emits w d text)
  emits_none d text =
      let lane = lane_of w d in
      let buffers = buffers_of w text in
      let done : World × Reply = (puts w d (with_items lane buffers), replies.Queued d (partition_lent lane + length buffers)) in
      let full = ltb (partition_limit w) (partition_lent lane + length buffers) || ltb ITEMS_MAX (length lane.items + length buffers) in
      cond_both lane.finished (w, replies.Refused) (cond full (w, replies.Full) done) IsPlain (λ is. refl) (λ going. cond_both full (w, replies.Full) done IsPlain (λ is. refl) (λ fits. refl))

  finish_none : (d : ℕ) → IsPlain (step w (events.Finish d))
  finish_none d =
      let lane = lane_of w d in
      let done : World × Reply = (puts w d (record (with_items lane (End ∷ [])) { finished = true }), replies.Done) in
      let fits = ltb (length lane.items) ITEMS_MAX in
      cond_both lane.finished (w, replies.Refused) (cond fits done (w, replies.Full)) IsPlain (λ is. refl) (λ going. cond_both fits done (w, replies.Full) IsPlain (λ less. refl) (λ is. refl))

  first_none : (d : ℕ) (items : List Parcel) → IsPlain (sends_first w d items)
  first_none d [] = refl
  first_none d (p ∷ items) = refl

  sends_none : (ids : List ChannelId) → IsPlain (sends_of w ids)
  sends_none [] = refl
  sends_none (id ∷ ids) = first_none (number_of id) (lane_of w (number_of id)).items

  announces_none : (o : Option Reader) → IsPlain (announces w o)
  announces_none None = refl
  announces_none (Some r) = refl

  delivers_none : (frames : List DataFrame) → IsPlain (delivers w frames)
  delivers_none [] = refl
  delivers_none (Response d number p backlog ∷ frames) = refl
  delivers_none (Announcement d n ∷ frames) = refl

  obeys_none : (controls : List ControlFrame) → IsPlain (obeys w controls)
  obeys_none [] = refl
  obeys_none (AddCredit d n ∷ controls) = refl
  obeys_none (Resumption d ∷ controls) = refl

  credit_none : (d : ℕ) → IsPlain (step w (events.Credit d))
  credit_none d =
      let n = told (lane_of w d).inbox.counts in
      let done : World × Reply = (record (receives w d (entries.Credit n)) { controls = w.controls ++ AddCredit d n ∷ [] }, replies.Credit d n) in
      cond_both (eqb n 0) (w, replies.Absent) done IsPlain (λ none. refl) (λ some. refl)

  resume_none : (d : ℕ) → IsPlain (step w (events.Resume d))
  resume_none d =
      let done : World × Reply = (record (receives (receives w d entries.Ask) d entries.Resume) { controls = w.controls ++ Resumption d ∷ [] }, replies.Done) in
      cond_both (eqb (lane_of w d).inbox.owed 0) (w, replies.Refused) done IsPlain (λ none. refl) (λ some. refl)

  polls_none : (d : ℕ) (hold : Bool) (given : Option Parcel) → IsPlain (polls_item w d hold given)
  polls_none d hold None = elim (eqb (length (lane_of w d).inbox.queue) 0) as (λ b. tells_piece (cond b (replies.Empty d) (replies.Held d)) ≡ false) [ true ↦ refl | false ↦ refl ]
  polls_none d hold (Some (Data bytes)) = refl
  polls_none d hold (Some (Barrier k kind)) = refl
  polls_none d hold (Some End) = refl

  saves_none : (d k : ℕ) → IsPlain (step w (events.Save d k))
  saves_none d k = cond_both (is_no_save (lane_of w d) k) (w, replies.Refused) (with_lane w d (saving k (lane_of w d)), replies.Done) IsPlain (λ is_not. refl) (λ may. refl)

-- ---- a front barrier is put

-- It is so by this event, on channel c with the number k.
record IsPutInFront (c k : ℕ) (w : World) (e : Event) : Type 0 where
  event : e ≡ events.Barrier c k Front
  next : k ≡ suc (lane_of w c).barriers
  result : step w e ≡ (puts w c (barred k Front (lane_of w c)), bar_reply c k Front (lane_of w c))

module _ (c k : ℕ) (w : World) where
  barrier_put : (d j : ℕ) (kind : BarrierKind) → tells_overtaken c k (step w (events.Barrier d j kind)).1 ≡ true → IsPutInFront c k w (events.Barrier d j kind)
  barrier_put d j kind t =
      let lane = lane_of w d in
      let done : World × Reply = (puts w d (barred j kind lane), bar_reply d j kind lane) in
      let fits = ltb (length lane.items) ITEMS_MAX in
      let stop = lane.finished || not (eqb j (suc lane.barriers)) in
      let later : World × Reply = cond fits done (w, replies.Full) in
      elim (cases_Bool stop) [
        | inl it_is ↦ absurd (true≢false (sym t ∙ ap (λ (p : World × Reply). tells_overtaken c k p.1) (cond-true stop (w, replies.Refused) later it_is)))
        | inr is_not ↦ elim (cases_Bool fits) [
          | inl room ↦
              let is : step w (events.Barrier d j kind) ≡ done = cond-false stop (w, replies.Refused) later is_not ∙ cond-true fits done (w, replies.Full) room in
              put_so d j kind (eqb-true j (suc lane.barriers) (not-false (eqb j (suc lane.barriers)) (or_parts lane.finished (not (eqb j (suc lane.barriers))) is_not).1)) is
              (sym (ap (λ (p : World × Reply). tells_overtaken c k p.1) is) ∙ t)
          | inr full ↦ absurd (true≢false (sym t ∙ ap (λ (p : World × Reply). tells_overtaken c k p.1) (cond-false stop (w, replies.Refused) later is_not ∙ cond-false fits done (w, replies.Full) full)))
        ]
      ]
    where
      put_so : (d j : ℕ) (kind : BarrierKind) → j ≡ suc (lane_of w d).barriers → step w (events.Barrier d j kind) ≡ (puts w d (barred j kind (lane_of w d)), bar_reply d j kind (lane_of w d))
          → tells_overtaken c k (bar_reply d j kind (lane_of w d)) ≡ true → IsPutInFront c k w (events.Barrier d j kind)
      put_so d j Inline next is told = absurd (true≢false (sym told))
      put_so d j Front next is told =
          let both = and_parts (eqb d c) (eqb j k) told in
          subst (λ x. IsPutInFront x k w (events.Barrier d j Front)) (eqb-true d c both.0)
          (subst (λ n. IsPutInFront d n w (events.Barrier d j Front)) (eqb-true j k both.1) (record { event = refl; next = next; result = is }))

  saved_no_out : (d j : ℕ) (save : Option OpenSave) → tells_overtaken c k (tells_open w d j save).1 ≡ false
  saved_no_out d j None = refl
  saved_no_out d j (Some save) =
      let inbox = (lane_of w d).inbox in
      let bytes : Items ℕ = record { items = saved_bytes inbox save; room = 0 } in
      let done : World × Reply = (receives w d (entries.Saved j), replies.SavedIn d j bytes) in
      let later : World × Reply = cond (ltb inbox.last j) (w, replies.NotYet d j) done in
      cond_both (not (eqb save.number j)) (w, replies.Refused) later (λ (p : World × Reply). tells_overtaken c k p.1 ≡ false) (λ other. refl) (λ this.
      cond_both (ltb inbox.last j) (w, replies.NotYet d j) done (λ (p : World × Reply). tells_overtaken c k p.1 ≡ false) (λ early. refl) (λ came. refl))

  no_piece : (r : Reply) → tells_piece r ≡ false → tells_overtaken c k r ≡ true → ⊥
  no_piece r none t = true≢false (sym (overtaken_piece c k r t) ∙ none)

  put_in_front : (e : Event) → tells_overtaken c k (step w e).1 ≡ true → IsPutInFront c k w e
  put_in_front (events.Emit d text) t = absurd (no_piece (step w (events.Emit d text)).1 (emits_none w d text.items) t)
  put_in_front (events.Fill d n) t = absurd (no_piece (step w (events.Fill d n)).1 (emits_none w d (replicate n 97)) t)
  put_in_front (events.Barrier d j kind) t = barrier_put d j kind t
  put_in_front (events.Finish d) t = absurd (no_piece (step w (events.Finish d)).1 (finish_none w d) t)
  put_in_front events.Send t = absurd (no_piece (step w events.Send).1 (sends_none w w.sender.queue) t)
  put_in_front events.Announce t = absurd (no_piece (step w events.Announce).1 (announces_none w (due_first w.sender)) t)
  put_in_front events.Deliver t = absurd (no_piece (step w events.Deliver).1 (delivers_none w w.frames) t)
  put_in_front (events.Credit d) t = absurd (no_piece (step w (events.Credit d)).1 (credit_none w d) t)
  put_in_front (events.Resume d) t = absurd (no_piece (step w (events.Resume d)).1 (resume_none w d) t)
  put_in_front events.Control t = absurd (no_piece (step w events.Control).1 (obeys_none w w.controls) t)
  put_in_front (events.Poll d) t = absurd (no_piece (step w (events.Poll d)).1 (polls_none w d false (poll_gives false (lane_of w d).inbox.queue)) t)
  put_in_front (events.Hold d) t = absurd (no_piece (step w (events.Hold d)).1 (polls_none w d true (poll_gives true (lane_of w d).inbox.queue)) t)
  put_in_front (events.Save d j) t = absurd (no_piece (step w (events.Save d j)).1 (saves_none w d j) t)
  put_in_front (events.Saved d j) t = absurd (true≢false (sym t ∙ saved_no_out d j (lane_of w d).inbox.save))
  put_in_front events.Pool t = absurd (true≢false (sym t))

-- ---- a save is opened

record IsOpened (c k : ℕ) (w : World) (e : Event) : Type 0 where
  event : e ≡ events.Save c k
  may : is_no_save (lane_of w c) k ≡ false
  result : step w e ≡ (with_lane w c (saving k (lane_of w c)), replies.Done)

module _ (c k : ℕ) (w : World) where
  save_opened : (d j : ℕ) → opens_save c k w (events.Save d j) ≡ true → IsOpened c k w (events.Save d j)
  save_opened d j t =
      let parts = and_parts (eqb d c && eqb j k) (is_done (step w (events.Save d j)).1) t in
      let both = and_parts (eqb d c) (eqb j k) parts.0 in
      let lane = lane_of w d in
      let done : World × Reply = (with_lane w d (saving j lane), replies.Done) in
      elim (cases_Bool (is_no_save lane j)) [
        | inl is_not ↦ absurd (true≢false (sym parts.1 ∙ ap (λ (p : World × Reply). is_done p.1) (cond-true (is_no_save lane j) (w, replies.Refused) done is_not)))
        | inr may ↦
            subst (λ x. IsOpened x k w (events.Save d j)) (eqb-true d c both.0)
            (subst (λ n. IsOpened d n w (events.Save d j)) (eqb-true j k both.1) (record { event = refl; may = may; result = cond-false (is_no_save lane j) (w, replies.Refused) done may }))
      ]

  is_opened : (e : Event) → opens_save c k w e ≡ true → IsOpened c k w e
  is_opened (events.Save d j) t = save_opened d j t
  is_opened e t = absurd (true≢false (sym t))

-- ---- the pieces

-- What barrier k overtook, and what was put before it.
record Overtook (k : ℕ) (xs : List SendEntry) (piece before : List ℕ) : Type 0 where
  put : has_barrier k (parcels_put xs) ≡ true
  overtaken_is : overtaken k xs ≡ piece
  before_is : put_before k xs ≡ before

overtook_stays : (k : ℕ) (xs ys : List SendEntry) (piece before : List ℕ) → StartsWith ys xs → Overtook k xs piece before → Overtook k ys piece before
overtook_stays k xs ys piece before starts o =
    let stays = put_stays xs starts.0 k o.put in
    record {
      put = ap (λ l. has_barrier k (parcels_put l)) starts.1 ∙ ap (has_barrier k) (parcels_put-append xs starts.0) ∙ has_barrier-append k (parcels_put xs) (parcels_put starts.0) ∙ or_left (has_barrier k (parcels_put xs)) (has_barrier k (parcels_put starts.0)) o.put;
      overtaken_is = ap (overtaken k) starts.1 ∙ stays.overtaken_is ∙ o.overtaken_is;
      before_is = ap (put_before k) starts.1 ∙ stays.before_is ∙ o.before_is;
    }

-- the numbers of barriers that were put are the first ones
other_number : (j n k : ℕ) → j + n ≤ k → list_any (λ m. eqb m k) (range_with_len j n) ≡ false
other_number j zero k low = refl
other_number j (suc n) k low = ap (λ b. b || list_any (λ m. eqb m k) (range_with_len (j + 1) n)) (ne_eqb j k (λ e. omega (arith, e, low))) ∙ other_number (j + 1) n k (omega (arith, low))

has_barrier-numbers : (k : ℕ) (ps : List Parcel) → has_barrier k ps ≡ list_any (λ m. eqb m k) (numbers_of (barriers_of ps))
has_barrier-numbers k [] = refl
has_barrier-numbers k (Data bytes ∷ ps) = has_barrier-numbers k ps
has_barrier-numbers k (Barrier j kind ∷ ps) = ap (λ b. eqb j k || b) (has_barrier-numbers k ps)
has_barrier-numbers k (End ∷ ps) = has_barrier-numbers k ps

overtakes_now : (c k : ℕ) (w : World) (xs : List SendEntry) (pairs : List (ℕ × ReceiveEntry)) (bytes read : List ℕ) → AreEnds c w xs pairs bytes read → k ≡ suc (lane_of w c).barriers
    → Overtook k (xs ++ PutFront k ∷ []) (data_of (behind_last is_barrier (lane_of w c).items)) bytes
overtakes_now c k w xs pairs bytes read ends next =
    let new : has_barrier k (parcels_put xs) ≡ false =
    has_barrier-numbers k (parcels_put xs) ∙ ap (list_any (λ m. eqb m k)) ends.numbers ∙ other_number 1 (lane_of w c).barriers k (omega (arith, next)) in
    let here : has_barrier k (Barrier k Front ∷ []) ≡ true = ap (λ b. b || false) (eq-eqb k k refl) in
    let none : data_before k (Barrier k Front ∷ []) ≡ [] = ap (λ b. cond b [] []) (eq-eqb k k refl) in
    record {
      put = ap (has_barrier k) (parcels_put-append xs (PutFront k ∷ [])) ∙ has_barrier-append k (parcels_put xs) (Barrier k Front ∷ []) ∙ or_right (has_barrier k (parcels_put xs)) (has_barrier k (Barrier k Front ∷ [])) here;
      overtaken_is = front_overtakes_last xs k new ∙ ap (λ is. data_of (behind_last is_barrier is)) ends.items;
      before_is = ap (data_before k) (parcels_put-append xs (PutFront k ∷ [])) ∙ data_before-past k (parcels_put xs) (Barrier k Front ∷ []) new ∙ ap (λ bs. put xs ++ bs) none ∙ append-nil (put xs) ∙ ends.put_are;
    }

-- What was saved for barrier k, once that has come.
record WasTold (k : ℕ) (es : List ReceiveEntry) (piece : List ℕ) : Type 0 where
  has : has_save k es ≡ true
  came : has_barrier k (pushed es) ≡ true
  saved_is : saved k es ≡ piece

later_entries : (pairs receives : List (ℕ × ReceiveEntry)) → StartsWith receives pairs → StartsWith (entries_of receives) (entries_of pairs)
later_entries pairs receives begins = (entries_of begins.0, ap entries_of begins.1 ∙ entries_of-append pairs begins.0)

told_stays : (k : ℕ) (es fs : List ReceiveEntry) (piece : List ℕ) → StartsWith fs es → WasTold k es piece → WasTold k fs piece
told_stays k es fs piece begins t = record {
  has = ap (has_save k) begins.1 ∙ has_save-append k es begins.0 ∙ or_left (has_save k es) (has_save k begins.0) t.has;
  came = ap (λ l. has_barrier k (pushed l)) begins.1 ∙ ap (has_barrier k) (pushed-append es begins.0) ∙ has_barrier-append k (pushed es) (pushed begins.0) ∙ or_left (has_barrier k (pushed es)) (has_barrier k (pushed begins.0)) t.came;
  saved_is = ap (saved k) begins.1 ∙ saved_stays es begins.0 k t.has t.came ∙ t.saved_is;
}

-- The save for barrier k, and what was read before it.
record WasOpened (k : ℕ) (es : List ReceiveEntry) (read : List ℕ) : Type 0 where
  before : List ReceiveEntry
  rest : List ℕ
  after : List ReceiveEntry
  is_save : IsSave es k before rest after
  polled_are : polled_bytes before ≡ read ++ rest

opened_stays : (k : ℕ) (es fs : List ReceiveEntry) (read : List ℕ) → StartsWith fs es → WasOpened k es read → WasOpened k fs read
opened_stays k es fs read begins o = record {
  before = o.before;
  rest = o.rest;
  after = o.after ++ begins.0;
  is_save = record {
    whole = begins.1 ∙ ap (λ l. l ++ begins.0) o.is_save.whole ∙ append_assoc o.before (entries.Save k o.rest ∷ o.after) begins.0;
    once = o.is_save.once;
    in_time = o.is_save.in_time;
  };
  polled_are = o.polled_are;
}

opens_now : (c k : ℕ) (w : World) (xs : List SendEntry) (pairs : List (ℕ × ReceiveEntry)) (bytes read : List ℕ) → AreEnds c w xs pairs bytes read → is_no_save (lane_of w c) k ≡ false
    → WasOpened k (entries_of (pairs ++ (0, entries.Save k (lane_of w c).rest) ∷ [])) read
opens_now c k w xs pairs bytes read ends may =
    let l = lane_of w c in
    let es = entries_of pairs in
    let tells = ends.receives.tells in
    let opens = may_open l k may in
    let once : has_save k es ≡ false = tells.opened k ∙ opens.once in
    let legal : MaySave es k l.rest = calls_are_legal l.inbox pairs (entries.Save k l.rest) ends.receives.stands (opens.allows, once, read, tells.bytes) in
    record {
      before = es;
      rest = l.rest;
      after = [];
      is_save = record { whole = entries_of-append pairs ((0, entries.Save k l.rest) ∷ []); once = once; in_time = legal.in_time };
      polled_are = tells.bytes;
    }

-- what a reply tells was saved
module _ (c k : ℕ) (w : World) (xs : List SendEntry) (pairs : List (ℕ × ReceiveEntry)) (bytes read : List ℕ) (ends : AreEnds c w xs pairs bytes read) (piece : List ℕ) where
  abbrev told_reply : Reply
  told_reply = replies.SavedIn c k (record { items = piece; room = 0 })

  told_at : (d j : ℕ) (save : Option OpenSave) → (lane_of w d).inbox.save ≡ save → (tells_open w d j save).1 ≡ told_reply → WasTold k (entries_of pairs) piece
  told_at d j None is same = absurd (true≢false (sym (ap tells_piece same)))
  told_at d j (Some save) is same =
      let inbox = (lane_of w d).inbox in
      let own : Items ℕ = record { items = saved_bytes inbox save; room = 0 } in
      let done : World × Reply = (receives w d (entries.Saved j), replies.SavedIn d j own) in
      let later : World × Reply = cond (ltb inbox.last j) (w, replies.NotYet d j) done in
      elim (cases_Bool (not (eqb save.number j))) [
        | inl other ↦ absurd (true≢false (sym (sym (ap (λ (p : World × Reply). tells_piece p.1) (cond-true (not (eqb save.number j)) (w, replies.Refused) later other)) ∙ ap tells_piece same)))
        | inr this ↦ elim (cases_Bool (ltb inbox.last j)) [
          | inl early ↦ absurd (true≢false (sym (sym (ap (λ (p : World × Reply). tells_piece p.1) (cond-false (not (eqb save.number j)) (w, replies.Refused) later this ∙ cond-true (ltb inbox.last j) (w, replies.NotYet d j) done early)) ∙ ap tells_piece same)))
          | inr came ↦
              let told : replies.SavedIn d j own ≡ told_reply = sym (ap (λ (p : World × Reply). p.1) (cond-false (not (eqb save.number j)) (w, replies.Refused) later this ∙ cond-false (ltb inbox.last j) (w, replies.NotYet d j) done came)) ∙ same in
              let here : d ≡ c = ap channel_of told in
              let number : j ≡ k = ap barrier_of told in
              let mine : (lane_of w c).inbox.save ≡ Some save = ap (λ x. (lane_of w x).inbox.save) (sym here) ∙ is in
              let is_k : save.number ≡ k = eqb-true save.number j (not-false (eqb save.number j) this) ∙ number in
              let in_last : k ≤ (lane_of w c).inbox.last = subst (λ x. k ≤ (lane_of w x).inbox.last) here (subst (λ n. n ≤ inbox.last) number (ltb-false inbox.last j came)) in
              told_so save mine is_k in_last (ap (λ x. saved_bytes (lane_of w x).inbox save) (sym here) ∙ ap piece_of told)
        ]
      ]
    where
      told_so : (save : OpenSave) → (lane_of w c).inbox.save ≡ Some save → save.number ≡ k → k ≤ (lane_of w c).inbox.last → saved_bytes (lane_of w c).inbox save ≡ piece → WasTold k (entries_of pairs) piece
      told_so save mine is_k in_last is_piece =
          let s = (lane_of w c).inbox in
          let stands = ends.receives.stands in
          let es = entries_of pairs in
          let keeps : SaveIs es (Some save) = subst (SaveIs es) mine stands.keeps.save in
          let legal : MayClose es k = calls_are_legal s pairs (entries.Saved k) stands ((save, mine, is_k), in_last) in
          record {
            has = ap (λ n. has_save n es) (sym is_k) ∙ keeps.1;
            came = legal.came;
            saved_is = ap (λ n. saved n es) (sym is_k) ∙ sym (saved_tells s pairs save stands mine) ∙ is_piece;
          }

  barrier_no_in : (d j : ℕ) (kind : BarrierKind) → (step w (events.Barrier d j kind)).1 ≡ told_reply → ⊥
  barrier_no_in d j kind same =
      let lane = lane_of w d in
      let done : World × Reply = (puts w d (barred j kind lane), bar_reply d j kind lane) in
      let fits = ltb (length lane.items) ITEMS_MAX in
      let stop = lane.finished || not (eqb j (suc lane.barriers)) in
      true≢false (sym (ap is_in same) ∙ cond_both stop (w, replies.Refused) (cond fits done (w, replies.Full)) (λ (p : World × Reply). is_in p.1 ≡ false) (λ is. refl) (λ may.
      cond_both fits done (w, replies.Full) (λ (p : World × Reply). is_in p.1 ≡ false) (λ less. by_kind kind lane) (λ is. refl)))
    where
      is_in : Reply → Bool
      is_in (replies.SavedIn x n bs) = true
      is_in r = false

      by_kind : (kind : BarrierKind) (lane : Lane) → is_in (bar_reply d j kind lane) ≡ false
      by_kind Inline lane = refl
      by_kind Front lane = refl

  no_told : (r : Reply) → tells_piece r ≡ false → r ≡ told_reply → ⊥
  no_told r none same = true≢false (sym (ap tells_piece same) ∙ none)

  told_now : (e : Event) → (step w e).1 ≡ told_reply → WasTold k (entries_of pairs) piece
  told_now (events.Emit d text) t = absurd (no_told (step w (events.Emit d text)).1 (emits_none w d text.items) t)
  told_now (events.Fill d n) t = absurd (no_told (step w (events.Fill d n)).1 (emits_none w d (replicate n 97)) t)
  told_now (events.Barrier d j kind) t = absurd (barrier_no_in d j kind t)
  told_now (events.Finish d) t = absurd (no_told (step w (events.Finish d)).1 (finish_none w d) t)
  told_now events.Send t = absurd (no_told (step w events.Send).1 (sends_none w w.sender.queue) t)
  told_now events.Announce t = absurd (no_told (step w events.Announce).1 (announces_none w (due_first w.sender)) t)
  told_now events.Deliver t = absurd (no_told (step w events.Deliver).1 (delivers_none w w.frames) t)
  told_now (events.Credit d) t = absurd (no_told (step w (events.Credit d)).1 (credit_none w d) t)
  told_now (events.Resume d) t = absurd (no_told (step w (events.Resume d)).1 (resume_none w d) t)
  told_now events.Control t = absurd (no_told (step w events.Control).1 (obeys_none w w.controls) t)
  told_now (events.Poll d) t = absurd (no_told (step w (events.Poll d)).1 (polls_none w d false (poll_gives false (lane_of w d).inbox.queue)) t)
  told_now (events.Hold d) t = absurd (no_told (step w (events.Hold d)).1 (polls_none w d true (poll_gives true (lane_of w d).inbox.queue)) t)
  told_now (events.Save d j) t = absurd (no_told (step w (events.Save d j)).1 (saves_none w d j) t)
  told_now (events.Saved d j) t = told_at d j (lane_of w d).inbox.save refl t
  told_now events.Pool t = absurd (no_told (step w events.Pool).1 refl t)

-- ---- one event

module _ (m c : ℕ) (low : 1 ≤ c) (high : c ≤ m) (w : World) (sound : IsSound m w) (xs : List SendEntry) (pairs : List (ℕ × ReceiveEntry)) (bytes read : List ℕ) (ends : AreEnds c w xs pairs bytes read) (waits_for : WaitsFor c w) where
  step_steps : (e : Event) → IsEvent m e → StepsWith (λ j. opens_save c j w e) c xs pairs bytes read (emitted_by c w e) (polled_in c (step w e).1) (step w e).0
  step_steps e is =
      let number = sound.lanes in
      let least = sound.opening.opening.low in
      at (omega (arith, number, high)) (omega (arith, least)) e is
    where
      at : c ≤ length w.lanes → 1 ≤ w.size → (e : Event) → IsEvent m e → StepsWith (λ j. opens_save c j w e) c xs pairs bytes read (emitted_by c w e) (polled_in c (step w e).1) (step w e).0
      at within some (events.Emit d text) is = emits_steps c xs pairs bytes read w low within d is.0.0 text.items some ends
      at within some (events.Fill d n) is = emits_steps c xs pairs bytes read w low within d is.0.0 (replicate n 97) some ends
      at within some (events.Barrier d j kind) is = barrier_steps c xs pairs bytes read w low within d is.0.0 j kind ends
      at within some (events.Finish d) is = finish_steps c xs pairs bytes read w low within d is.0 ends
      at within some events.Send is = send_steps c xs pairs bytes read w ends low within
      at within some events.Announce is = announce_steps c xs pairs bytes read w ends
      at within some events.Deliver is = deliver_steps c xs pairs bytes read m w sound low within ends
      at within some (events.Credit d) is = credit_steps c xs pairs bytes read m w sound low within d is.0 is.1 ends
      at within some (events.Resume d) is = resume_steps c xs pairs bytes read w low within d is.0 ends
      at within some events.Control is = control_steps c xs pairs bytes read w ends
      at within some (events.Poll d) is = polls_steps c xs pairs bytes read m w sound low within d is.0 is.1 false ends waits_for
      at within some (events.Hold d) is = polls_steps c xs pairs bytes read m w sound low within d is.0 is.1 true ends waits_for
      at within some (events.Save d j) is = save_steps c xs pairs bytes read m w sound low within d is.0.0 is.0.1 j ends
      at within some (events.Saved d j) is = saved_steps c xs pairs bytes read m w sound low within d is.0.0 is.0.1 j ends
      at within some events.Pool is = nothing c w xs pairs bytes read w refl refl ends

-- ---- all events

-- The histories at the end, and what they and the replies tell of barrier k.
record AllEnds (c k : ℕ) (w : World) (es : List Event) (xs : List SendEntry) (pairs : List (ℕ × ReceiveEntry)) (bytes read : List ℕ) : Type 0 where
  sends : List SendEntry
  starts : StartsWith sends xs
  receives : List (ℕ × ReceiveEntry)
  begins : StartsWith receives pairs
  all_bytes : List ℕ
  all_read : List ℕ
  last : AreEnds c (after_events w es) sends receives all_bytes all_read
  out : (piece : List ℕ) → IsAmong (replies.SavedOut c k (record { items = piece; room = 0 })) (replies_to w es) → Overtook k sends piece (bytes ++ all_encoded (emitted_before c k w es))
  told : (piece : List ℕ) → IsAmong (replies.SavedIn c k (record { items = piece; room = 0 })) (replies_to w es) → WasTold k (entries_of receives) piece
  opened : has_save k (entries_of pairs) ≡ false → has_save k (entries_of receives) ≡ true → WasOpened k (entries_of receives) (read ++ all_encoded (polled_before c k w es))

tells_its : (c k : ℕ) (piece : List ℕ) → tells_overtaken c k (replies.SavedOut c k (record { items = piece; room = 0 })) ≡ true
tells_its c k piece = ap (λ b. b && eqb k k) (eq-eqb c c refl) ∙ eq-eqb k k refl

-- one more in front
joined : (bytes : List ℕ) (put_now later all : List (List ℕ)) (now : List ℕ) → now ≡ bytes ++ all_encoded put_now → all ≡ put_now ++ later → now ++ all_encoded later ≡ bytes ++ all_encoded all
joined bytes put_now later all now is whole =
    ap (λ bs. bs ++ all_encoded later) is ∙ append_assoc bytes (all_encoded put_now) (all_encoded later)
    ∙ ap (λ bs. bytes ++ bs) (sym (encoded-append put_now later) ∙ ap all_encoded (sym whole))

module _ (m c k : ℕ) (low : 1 ≤ c) (high : c ≤ m) where
  waits_then : (w : World) (e : Event) → IsSound m w → IsEvent m e → WaitsFor c w → WaitsFor c (step w e).0
  waits_then w e sound is waits_for =
      let v = (step w e).0 in
      let move = moves_at m c low high w e sound is in
      let put_now = emitted_by c w e in
      let records = polled_in c (step w e).1 in
      let all_short = short-append waits_for.later put_now waits_for.short move.short in
      let read = move.reads (waits_of c v) (waits_for.later ++ put_now) all_short (with_rest (lane_of w c).rest (waits_of c w) (all_encoded put_now) _ (waits_of c v) (all_encoded waits_for.later) move.account waits_for.same ∙ sym (encoded-append waits_for.later put_now)) in
      record { later = read.later; short = short_later records read.later (subst (AllByRecursion IsShort) read.records_are all_short); same = read.behind_are }

  all_ends : (w : World) (es : List Event) (xs : List SendEntry) (pairs : List (ℕ × ReceiveEntry)) (bytes read : List ℕ) → IsSound m w → AreEvents m es → WaitsFor c w → AreEnds c w xs pairs bytes read → AllEnds c k w es xs pairs bytes read
  all_ends w [] xs pairs bytes read sound are waits_for ends = record {
    sends = xs;
    starts = same_start xs;
    receives = pairs;
    begins = same_start pairs;
    all_bytes = bytes;
    all_read = read;
    last = ends;
    out = λ piece among. absurd among;
    told = λ piece among. absurd among;
    opened = λ none it_is. absurd (true≢false (sym it_is ∙ none));
  }
  all_ends w (e ∷ es) xs pairs bytes read sound are waits_for ends =
      let v = (step w e).0 in
      let r = (step w e).1 in
      let sound_then = steps_keep_sound m w e sound are.0 in
      let waits_now = waits_then w e sound are.0 waits_for in
      elim (cases_Bool (tells_overtaken c k r)) [
        | inl out_now ↦ in_front w e es xs pairs bytes read ends out_now (all_ends v es (xs ++ PutFront k ∷ []) pairs bytes read sound_then are.1 waits_now (put_now_ends w e xs pairs bytes read (within w sound) ends (put_in_front c k w e out_now)))
        | inr no_out ↦ elim (cases_Bool (opens_save c k w e)) [
          | inl open_now ↦ with_save w e es xs pairs bytes read ends no_out open_now
              (all_ends v es xs (pairs ++ (0, entries.Save k (lane_of w c).rest) ∷ []) bytes read sound_then are.1 waits_now (save_now_ends w e xs pairs bytes read sound (within w sound) ends (is_opened c k w e open_now)))
          | inr no_save ↦
              let st = step_steps m c low high w sound xs pairs bytes read ends waits_for e are.0 in
              with_none w e es xs pairs bytes read ends no_out no_save st (all_ends v es st.sends st.receives st.all_bytes st.all_read sound_then are.1 waits_now st.next)
        ]
      ]
    where
      within : (w : World) → IsSound m w → c ≤ length w.lanes
      within w sound = let number = sound.lanes in omega (arith, number, high)

      put_now_ends : (w : World) (e : Event) (xs : List SendEntry) (pairs : List (ℕ × ReceiveEntry)) (bytes read : List ℕ) → c ≤ length w.lanes → AreEnds c w xs pairs bytes read → IsPutInFront c k w e → AreEnds c (step w e).0 (xs ++ PutFront k ∷ []) pairs bytes read
      put_now_ends w e xs pairs bytes read few ends f =
          subst (λ (u : World). AreEnds c u (xs ++ PutFront k ∷ []) pairs bytes read) (sym (ap (λ (p : World × Reply). p.0) f.result)) (front_ends c xs pairs bytes read w low few c low k f.next refl ends)

      save_now_ends : (w : World) (e : Event) (xs : List SendEntry) (pairs : List (ℕ × ReceiveEntry)) (bytes read : List ℕ) → IsSound m w → c ≤ length w.lanes → AreEnds c w xs pairs bytes read → IsOpened c k w e
          → AreEnds c (step w e).0 xs (pairs ++ (0, entries.Save k (lane_of w c).rest) ∷ []) bytes read
      save_now_ends w e xs pairs bytes read sound few ends o =
          subst (λ (u : World). AreEnds c u xs (pairs ++ (0, entries.Save k (lane_of w c).rest) ∷ []) bytes read) (sym (ap (λ (p : World × Reply). p.0) o.result)) (save_ends c xs pairs bytes read m w sound low few c low high k o.may refl ends)

      in_front : (w : World) (e : Event) (es : List Event) (xs : List SendEntry) (pairs : List (ℕ × ReceiveEntry)) (bytes read : List ℕ) → AreEnds c w xs pairs bytes read → tells_overtaken c k (step w e).1 ≡ true
          → AllEnds c k (step w e).0 es (xs ++ PutFront k ∷ []) pairs bytes read → AllEnds c k w (e ∷ es) xs pairs bytes read
      in_front w e es xs pairs bytes read ends out_now rest =
          let v = (step w e).0 in
          let r = (step w e).1 in
          let f = put_in_front c k w e out_now in
          let reply_is : r ≡ bar_reply c k Front (lane_of w c) = ap (λ (p : World × Reply). p.1) f.result in
          let own = data_of (behind_last is_barrier (lane_of w c).items) in
          let here : Overtook k rest.sends own bytes = overtook_stays k (xs ++ PutFront k ∷ []) rest.sends own bytes rest.starts (overtakes_now c k w xs pairs bytes read ends f.next) in
          let none : bytes ≡ bytes ++ all_encoded (emitted_before c k w (e ∷ es)) = sym (ap (λ rs. bytes ++ all_encoded rs) (cond-true (tells_overtaken c k r) [] (emitted_by c w e ++ emitted_before c k v es) out_now) ∙ append-nil bytes) in
          let no_save : opens_save c k w e ≡ false = ap (opens_save c k w) f.event in
          let no_poll : polled_in c r ≡ [] = ap (polled_in c) reply_is in
          let same : polled_before c k w (e ∷ es) ≡ polled_before c k v es = cond-false (opens_save c k w e) [] (polled_in c r ++ polled_before c k v es) no_save ∙ ap (λ rs. rs ++ polled_before c k v es) no_poll in
          record {
            sends = rest.sends;
            starts = start_twice xs (xs ++ PutFront k ∷ []) rest.sends (PutFront k ∷ [], refl) rest.starts;
            receives = rest.receives;
            begins = rest.begins;
            all_bytes = rest.all_bytes;
            all_read = rest.all_read;
            last = rest.last;
            out = λ piece among. elim among [
              | inl this ↦ record { put = here.put; overtaken_is = here.overtaken_is ∙ ap piece_of (sym reply_is ∙ this); before_is = here.before_is ∙ none }
              | inr later ↦ record { put = here.put; overtaken_is = (rest.out piece later).overtaken_is; before_is = here.before_is ∙ none }
            ];
            told = λ piece among. elim among [
              | inl this ↦ absurd (true≢false (sym out_now ∙ ap (tells_overtaken c k) this))
              | inr later ↦ rest.told piece later
            ];
            opened = λ before it_is. subst (λ rs. WasOpened k (entries_of rest.receives) (read ++ all_encoded rs)) (sym same) (rest.opened before it_is);
          }

      with_save : (w : World) (e : Event) (es : List Event) (xs : List SendEntry) (pairs : List (ℕ × ReceiveEntry)) (bytes read : List ℕ) → AreEnds c w xs pairs bytes read → tells_overtaken c k (step w e).1 ≡ false → opens_save c k w e ≡ true
          → AllEnds c k (step w e).0 es xs (pairs ++ (0, entries.Save k (lane_of w c).rest) ∷ []) bytes read → AllEnds c k w (e ∷ es) xs pairs bytes read
      with_save w e es xs pairs bytes read ends no_out open_now rest =
          let v = (step w e).0 in
          let r = (step w e).1 in
          let o = is_opened c k w e open_now in
          let reply_is : r ≡ replies.Done = ap (λ (p : World × Reply). p.1) o.result in
          let added : List (ℕ × ReceiveEntry) = pairs ++ (0, entries.Save k (lane_of w c).rest) ∷ [] in
          let here = opened_stays k (entries_of added) (entries_of rest.receives) read (later_entries added rest.receives rest.begins) (opens_now c k w xs pairs bytes read ends o.may) in
          let none : read ≡ read ++ all_encoded (polled_before c k w (e ∷ es)) = sym (ap (λ rs. read ++ all_encoded rs) (cond-true (opens_save c k w e) [] (polled_in c r ++ polled_before c k v es) open_now) ∙ append-nil read) in
          let no_emit : emitted_by c w e ≡ [] = ap (emitted_by c w) o.event in
          let same : emitted_before c k w (e ∷ es) ≡ emitted_before c k v es = cond-false (tells_overtaken c k r) [] (emitted_by c w e ++ emitted_before c k v es) no_out ∙ ap (λ rs. rs ++ emitted_before c k v es) no_emit in
          record {
            sends = rest.sends;
            starts = rest.starts;
            receives = rest.receives;
            begins = start_twice pairs added rest.receives ((0, entries.Save k (lane_of w c).rest) ∷ [], refl) rest.begins;
            all_bytes = rest.all_bytes;
            all_read = rest.all_read;
            last = rest.last;
            out = λ piece among. elim among [
              | inl this ↦ absurd (true≢false (sym (ap (tells_overtaken c k) this ∙ tells_its c k piece) ∙ no_out))
              | inr later ↦ subst (λ rs. Overtook k rest.sends piece (bytes ++ all_encoded rs)) (sym same) (rest.out piece later)
            ];
            told = λ piece among. elim among [
              | inl this ↦ absurd (true≢false (sym (ap tells_piece this) ∙ ap tells_piece reply_is))
              | inr later ↦ rest.told piece later
            ];
            opened = λ before it_is. subst (WasOpened k (entries_of rest.receives)) none here;
          }

      with_none : (w : World) (e : Event) (es : List Event) (xs : List SendEntry) (pairs : List (ℕ × ReceiveEntry)) (bytes read : List ℕ) → AreEnds c w xs pairs bytes read → tells_overtaken c k (step w e).1 ≡ false → opens_save c k w e ≡ false
          → (st : StepsWith (λ j. opens_save c j w e) c xs pairs bytes read (emitted_by c w e) (polled_in c (step w e).1) (step w e).0) → AllEnds c k (step w e).0 es st.sends st.receives st.all_bytes st.all_read → AllEnds c k w (e ∷ es) xs pairs bytes read
      with_none w e es xs pairs bytes read ends no_out no_save st rest =
          let v = (step w e).0 in
          let r = (step w e).1 in
          let more : emitted_before c k w (e ∷ es) ≡ emitted_by c w e ++ emitted_before c k v es = cond-false (tells_overtaken c k r) [] (emitted_by c w e ++ emitted_before c k v es) no_out in
          let read_more : polled_before c k w (e ∷ es) ≡ polled_in c r ++ polled_before c k v es = cond-false (opens_save c k w e) [] (polled_in c r ++ polled_before c k v es) no_save in
          record {
            sends = rest.sends;
            starts = start_twice xs st.sends rest.sends st.starts rest.starts;
            receives = rest.receives;
            begins = start_twice pairs st.receives rest.receives st.begins rest.begins;
            all_bytes = rest.all_bytes;
            all_read = rest.all_read;
            last = rest.last;
            out = λ piece among. elim among [
              | inl this ↦ absurd (true≢false (sym (ap (tells_overtaken c k) this ∙ tells_its c k piece) ∙ no_out))
              | inr later ↦ subst (Overtook k rest.sends piece) (joined bytes (emitted_by c w e) (emitted_before c k v es) (emitted_before c k w (e ∷ es)) st.all_bytes st.bytes_are more) (rest.out piece later)
            ];
            told = λ piece among. elim among [
              | inl this ↦ told_stays k (entries_of pairs) (entries_of rest.receives) piece (later_entries pairs rest.receives (start_twice pairs st.receives rest.receives st.begins rest.begins)) (told_now c k w xs pairs bytes read ends piece e this)
              | inr later ↦ rest.told piece later
            ];
            opened = λ before it_is.
                subst (WasOpened k (entries_of rest.receives)) (joined read (polled_in c r) (polled_before c k v es) (polled_before c k w (e ∷ es)) st.all_read st.read_are read_more)
                (rest.opened (st.kept k no_save ∙ before) it_is);
          }

-- ---- the law

-- what was taken before the barrier came
taken_before : (k : ℕ) (c : ℕ) (w : World) (xs : List SendEntry) (pairs : List (ℕ × ReceiveEntry)) (bytes read : List ℕ) → AreEnds c w xs pairs bytes read → has_barrier k (pushed (entries_of pairs)) ≡ true
    → data_before k (travelled xs) ≡ data_before k (pushed (entries_of pairs))
taken_before k c w xs pairs bytes read ends came =
    let arrived = pushed (entries_of pairs) in
    ap (λ ps. data_before k (ps ++ (outbox xs).items)) ends.taken_are ∙ ap (data_before k) (append_assoc arrived (coming c w) (outbox xs).items)
    ∙ data_before-within k arrived (coming c w ++ (outbox xs).items) came

pub saved_pieces_make_the_cut : SavedPiecesMakeTheCut
saved_pieces_make_the_cut m size total c k es overtaken_piece saved_piece can are low high told =
    let w = opened m size total in
    let fresh = opened_lane m size total c low high in
    let none : waits_of c w ≡ [] = ap (λ (l : Lane). waits l (coming c w)) fresh in
    let no_rest : (lane_of w c).rest ≡ [] = ap (λ (l : Lane). l.rest) fresh in
    let first : AreEnds c w [] [] [] [] = record {
      items = ap (λ (l : Lane). l.items) (sym fresh);
      taken_are = refl;
      put_are = refl;
      numbers = ap (λ (l : Lane). range_with_len 1 l.barriers) (sym fresh);
      receives = subst (λ (l : Lane). IsReceiving l.inbox l.saves l.rest [] []) (sym fresh) (record { stands = opens_empty size BUFFERS_MAX; tells = record { back = λ x. refl; opened = λ j. refl; bytes = refl } });
    } in
    let waits_for : WaitsFor c w = record { later = []; short = tt; same = ap (λ r. r ++ waits_of c w) no_rest ∙ none } in
    let all = all_ends m c k low high w es [] [] [] [] (opened_is_sound m size total can) are waits_for first in
    let out = all.out overtaken_piece told.out in
    let into = all.told saved_piece told.into in
    let save = all.opened refl into.has in
    let read = all_encoded (polled_before c k w es) in
    let history = entries_of all.receives in
    let received : read ++ saved k history ≡ data_before k (pushed history) = saved_completes_polled history save.before save.after k save.rest read save.is_save save.polled_are in
    sym (out.before_is) ∙ sym (barrier_splits_data all.sends k)
    ∙ ap (λ bs. bs ++ overtaken k all.sends) (taken_before k c (after_events w es) all.sends all.receives all.all_bytes all.all_read all.last into.came ∙ sym received)
    ∙ append_assoc read (saved k history) (overtaken k all.sends)
    ∙ ap (λ bs. read ++ (bs ++ overtaken k all.sends)) into.saved_is ∙ ap (λ bs. read ++ (saved_piece ++ bs)) out.overtaken_is
