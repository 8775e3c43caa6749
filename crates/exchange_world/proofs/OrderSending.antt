-- What the events of the sending task and of the sending end do to the bytes of a channel.
use Rattle.std.proofs.Common.{◌≡◌, ℕ, suc, ◌+◌, ◌≤◌, eqb, ltb, true, false, not, cond, Bool, List, [], ◌∷◌, ◌++◌, length, map, Option, Some, None, refl, sym, ap, subst, ◌∙◌, append_assoc, append-nil, arith}
use Rattle.std.specs.Prelude.{◌||◌, ◌&&◌}
use Rattle.std.specs.List.{AllByRecursion}
use Rattle.std.proofs.lemmas.Bool.{cond_both}
use Rattle.std.proofs.lemmas.List.{map-append}
use Rattle.flow_defs.proofs.ParcelLemmas.{data_of-append}
use Rattle.flow_defs.specs.declared.task.BarrierKind.{BarrierKind}
use Rattle.flow_defs.specs.declared.task.BarrierKind.TheVariants.{Inline, Front}
use Rattle.flow_defs.specs.declared.task.ChannelId.{ChannelId}
use Rattle.flow_defs.specs.declared.parcel.Parcel.{Parcel}
use Rattle.flow_defs.specs.declared.parcel.Parcel.TheVariants.{Barrier, End}
use Rattle.flow_defs.specs.Parcels.{data_of}
use Rattle.flow_defs.specs.Records.{IsShort, encoded, all_encoded}
use Rattle.subpartition.specs.Sending.{with_front}
use Rattle.subpartition.specs.declared.entry.SendEntry.TheVariants.{PutFront}
use Rattle.subpartition.proofs.Travelling.{grows, grows-data_of}
use Rattle.credit_reader.specs.declared.reader.Reader.{Reader}
use Rattle.credit_reader.specs.Answers.{due_first}
use Rattle.script_text.specs.declared.event.Event.TheVariants as events
use Rattle.script_text.specs.declared.reply.Reply.{Reply}
use Rattle.script_text.specs.declared.reply.Reply.TheVariants as replies
use Rattle.exchange_world.specs.Lanes.{Lane, ITEMS_MAX, backlog_in}
use Rattle.exchange_world.specs.Worlds.{World, ControlFrame, AddCredit, Resumption, Announcement, lane_of, partition_limit, partition_lent}
use Rattle.exchange_world.specs.Steps.{step, buffers_of, with_items, puts, emits, barred, bar_reply, number_of, sequence_of, sends_first, sends_of, announces, obeys}
use Rattle.exchange_world.specs.Theorems.{is_queued, emitted_if, polled_in}
use Rattle.exchange_world.specs.Sound.{responses, coming}
use Rattle.exchange_world.proofs.LaneLemmas.{lane_put, lane_stays}
use Rattle.exchange_world.proofs.WorldLemmas.{responses-append}
use Rattle.exchange_world.proofs.PuttingLemmas.{changed}
use Rattle.exchange_world.proofs.SendingLemmas.{response_here, response_there}
use Rattle.exchange_world.proofs.Bytes.{pieces_whole}
use Rattle.exchange_world.proofs.OrderMoves.{Reads, reads_none, waits, Moves, MovesNone, IsQuiet, quiet, quiet_there, moves_none, by_channel}

-- ---- something is put on a channel

module _ (w : World) (c : ℕ) (low : 1 ≤ c) (high : c ≤ length w.lanes) (d : ℕ) (d_low : 1 ≤ d) where
  puts_there : (lane : Lane) → (c ≡ d → ⊥) → IsQuiet c w (puts w d lane)
  puts_there lane other = quiet_there c w (puts w d lane) (lane_stays w d lane d_low c low other) refl

  puts_here : (items : List Parcel) (barriers : ℕ) (finished : Bool) (put : List (List ℕ)) → data_of items ≡ data_of (lane_of w d).items ++ all_encoded put → AllByRecursion IsShort put → d ≡ c
      → Moves d w (puts w d (changed (lane_of w d) items barriers finished)) put [] []
  puts_here items barriers finished put same short is =
      let lane = lane_of w d in
      let there = lane_put w d (changed lane items barriers finished) d_low (omega (arith, is, high)) in
      let queue = data_of lane.inbox.queue in
      let way = data_of (coming d w) in
      record {
        account = append_assoc queue (way ++ data_of lane.items) (all_encoded put)
            ∙ ap (λ xs. queue ++ xs) (append_assoc way (data_of lane.items) (all_encoded put))
            ∙ ap (λ xs. queue ++ (way ++ xs)) (sym same)
            ∙ ap (λ (l : Lane). waits l (coming d w)) (sym there);
        reads = subst (λ (l : Lane). Reads lane.rest l.rest [] []) (sym there) (reads_none lane.rest);
        short = short;
      }

  -- a record is put, or nothing
  pub emits_moves : (text : List ℕ) → 1 ≤ w.size → IsShort text → Moves c w (emits w d text).0 (emitted_if (eqb d c && is_queued (emits w d text).1) text) [] (polled_in c (emits w d text).1)
  emits_moves text some short =
      let lane = lane_of w d in
      let buffers = buffers_of w text in
      let put : World × Reply = (puts w d (with_items lane buffers), replies.Queued d (partition_lent lane + length buffers)) in
      let full = ltb (partition_limit w) (partition_lent lane + length buffers) || ltb ITEMS_MAX (length lane.items + length buffers) in
      cond_both lane.finished (w, replies.Refused) (cond full (w, replies.Full) put) IsSo (λ is. none replies.Refused refl refl) (λ going.
      cond_both full (w, replies.Full) put IsSo (λ is. none replies.Full refl refl) (λ fits.
      by_channel d c (λ b x. Moves x w (puts w d (with_items lane buffers)) (emitted_if (b && true) text) [] [])
      (λ is. puts_here (lane.items ++ buffers) lane.barriers lane.finished (text ∷ []) (data_of-append lane.items buffers ∙ ap (λ xs. data_of lane.items ++ xs) (pieces_whole w.size (encoded text) some ∙ sym (append-nil (encoded text)))) (short, tt) is)
      (λ other. moves_none c w (puts w d (with_items lane buffers)) (puts_there (with_items lane buffers) other))))
    where
      IsSo : World × Reply → Type 0
      IsSo p = Moves c w p.0 (emitted_if (eqb d c && is_queued p.1) text) [] (polled_in c p.1)

      none : (reply : Reply) → is_queued reply ≡ false → polled_in c reply ≡ [] → IsSo (w, reply)
      none reply not_queued not_polled =
          subst (λ rs. Moves c w w (emitted_if (eqb d c && is_queued reply) text) [] rs) (sym not_polled)
          (subst (λ q. Moves c w w (emitted_if (eqb d c && q) text) [] []) (sym not_queued)
          (elim (eqb d c) as (λ b. Moves c w w (emitted_if (b && false) text) [] []) [ true ↦ moves_none c w w (quiet c w) | false ↦ moves_none c w w (quiet c w) ]))

  -- what is no data is put, or nothing
  puts_none : (items : List Parcel) (barriers : ℕ) (finished : Bool) (reply : Reply) → data_of items ≡ data_of (lane_of w d).items ++ [] → polled_in c reply ≡ [] → MovesNone c w (puts w d (changed (lane_of w d) items barriers finished), reply)
  puts_none items barriers finished reply none not_polled =
      let lane = changed (lane_of w d) items barriers finished in
      subst (λ rs. Moves c w (puts w d lane) [] [] rs) (sym not_polled)
      (by_channel d c (λ b x. Moves x w (puts w d lane) [] [] []) (λ is. puts_here items barriers finished [] none tt is) (λ other. moves_none c w (puts w d lane) (puts_there lane other)))

  barred_moves : (k : ℕ) (kind : BarrierKind) → MovesNone c w (puts w d (barred k kind (lane_of w d)), bar_reply d k kind (lane_of w d))
  barred_moves k Inline = let lane = lane_of w d in puts_none (lane.items ++ Barrier k Inline ∷ []) k lane.finished replies.Done (data_of-append lane.items (Barrier k Inline ∷ [])) refl
  barred_moves k Front = let lane = lane_of w d in puts_none (with_front k lane.items) k lane.finished (bar_reply d k Front lane) (grows-data_of (grows (record { taken = []; items = lane.items }) (PutFront k))) refl

  pub barrier_moves : (k : ℕ) (kind : BarrierKind) → MovesNone c w (step w (events.Barrier d k kind))
  barrier_moves k kind =
      let lane = lane_of w d in
      let put : World × Reply = (puts w d (barred k kind lane), bar_reply d k kind lane) in
      let fits = ltb (length lane.items) ITEMS_MAX in
      cond_both (lane.finished || not (eqb k (suc lane.barriers))) (w, replies.Refused) (cond fits put (w, replies.Full)) (MovesNone c w) (λ is. moves_none c w w (quiet c w)) (λ may.
      cond_both fits put (w, replies.Full) (MovesNone c w) (λ less. barred_moves k kind) (λ is. moves_none c w w (quiet c w)))

  pub finish_moves : MovesNone c w (step w (events.Finish d))
  finish_moves =
      let lane = lane_of w d in
      let put : World × Reply = (puts w d (record (with_items lane (End ∷ [])) { finished = true }), replies.Done) in
      let fits = ltb (length lane.items) ITEMS_MAX in
      cond_both lane.finished (w, replies.Refused) (cond fits put (w, replies.Full)) (MovesNone c w) (λ is. moves_none c w w (quiet c w)) (λ going.
      cond_both fits put (w, replies.Full) (MovesNone c w) (λ less. puts_none (lane.items ++ End ∷ []) lane.barriers true replies.Done (data_of-append lane.items (End ∷ [])) refl) (λ is. moves_none c w w (quiet c w)))

  -- ---- the first item of a channel goes on its way

  sends_quiet_here : (p : Parcel) (items : List Parcel) → (lane_of w d).items ≡ p ∷ items → d ≡ c → IsQuiet d w (sends_first w d (p ∷ items)).0
  sends_quiet_here p items are is =
      let lane = lane_of w d in
      let now : Lane = record lane { items = items } in
      let v = (sends_first w d (p ∷ items)).0 in
      let there : lane_of v d ≡ now = lane_put w d now d_low (omega (arith, is, high)) in
      let way : coming d v ≡ coming d w ++ p ∷ [] = ap (map (λ (r : ℕ × Parcel). r.1)) (response_here d (sequence_of w d) p (backlog_in items) w.frames) ∙ map-append (λ (r : ℕ × Parcel). r.1) (responses d w.frames) ((sequence_of w d, p) ∷ []) in
      record {
        waits_are = ap (λ (l : Lane). waits l (coming d v)) there
            ∙ ap (λ ps. waits now ps) way
            ∙ ap (λ xs. data_of lane.inbox.queue ++ (xs ++ data_of items)) (data_of-append (coming d w) (p ∷ []))
            ∙ ap (λ xs. data_of lane.inbox.queue ++ xs) (append_assoc (data_of (coming d w)) (data_of (p ∷ [])) (data_of items))
            ∙ ap (λ xs. data_of lane.inbox.queue ++ (data_of (coming d w) ++ xs)) (sym (data_of-append (p ∷ []) items) ∙ ap data_of (sym are));
        rest_is = ap (λ (l : Lane). l.rest) there;
      }

  sends_quiet : (items : List Parcel) → (lane_of w d).items ≡ items → MovesNone c w (sends_first w d items)
  sends_quiet [] are = moves_none c w w (quiet c w)
  sends_quiet (p ∷ items) are =
      let v = (sends_first w d (p ∷ items)).0 in
      by_channel d c (λ b x. Moves x w v [] [] []) (λ is. moves_none d w v (sends_quiet_here p items are is)) (λ other.
      moves_none c w v (quiet_there c w v (lane_stays w d (record (lane_of w d) { items = items }) d_low c low other) (response_there d c (sequence_of w d) p (backlog_in items) w.frames other)))

module _ (w : World) (c : ℕ) where
  sends_moves_of : 1 ≤ c → c ≤ length w.lanes → (ids : List ChannelId) → MovesNone c w (sends_of w ids)
  sends_moves_of low high [] = moves_none c w w (quiet c w)
  sends_moves_of low high (id ∷ ids) = sends_quiet w c low high (number_of id) (omega arith) (lane_of w (number_of id)).items refl

  pub send_moves : 1 ≤ c → c ≤ length w.lanes → MovesNone c w (step w events.Send)
  send_moves low high = sends_moves_of low high w.sender.queue

  -- ---- what brings nothing

  announces_moves : (o : Option Reader) → MovesNone c w (announces w o)
  announces_moves None = moves_none c w w (quiet c w)
  announces_moves (Some r) =
      let more = Announcement (number_of r.channel) r.backlog ∷ [] in
      moves_none c w (announces w (Some r)).0 (quiet_there c w (announces w (Some r)).0 refl (responses-append c w.frames more ∙ append-nil (responses c w.frames)))

  pub announce_moves : MovesNone c w (step w events.Announce)
  announce_moves = announces_moves (due_first w.sender)

  obeys_moves : (fs : List ControlFrame) → MovesNone c w (obeys w fs)
  obeys_moves [] = moves_none c w w (quiet c w)
  obeys_moves (AddCredit d n ∷ fs) = moves_none c w (obeys w (AddCredit d n ∷ fs)).0 (quiet_there c w (obeys w (AddCredit d n ∷ fs)).0 refl refl)
  obeys_moves (Resumption d ∷ fs) = moves_none c w (obeys w (Resumption d ∷ fs)).0 (quiet_there c w (obeys w (Resumption d ∷ fs)).0 refl refl)

  pub control_moves : MovesNone c w (step w events.Control)
  control_moves = obeys_moves w.controls
