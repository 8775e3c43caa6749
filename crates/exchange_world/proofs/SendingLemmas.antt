-- A sound connection stays sound when its sender sends an item.
use Rattle.std.proofs.Common.{◌≡◌, ℕ, suc, ◌+◌, ◌%◌, ◌^◌, ◌<◌, ◌≤◌, ◌⊎◌, true, false, not, cond, eqb, List, [], ◌∷◌, ◌++◌, length, map, Some, refl, sym, ap, subst, ◌∙◌, append_assoc, append-nil, arith}
use Rattle.std.specs.Prelude.{◌&&◌}
use Rattle.std.specs.List.{range_with_len}
use Rattle.std.specs.Option.{option_map_or}
use Rattle.std.proofs.lemmas.Bool.{cond-true, cond-false, eq-eqb, ne_eqb, and_parts, not-true, ltb-true}
use Rattle.std.proofs.lemmas.List.{map-append}
use Rattle.std.proofs.lemmas.List.Sums.{sum_by-cons, count_by-le-length}
use Rattle.std.proofs.lemmas.Option.{same_Some}
use Rattle.flow_defs.specs.declared.task.BarrierKind.{BarrierKind}
use Rattle.flow_defs.specs.declared.task.BarrierKind.TheVariants.{Inline, Front}
use Rattle.flow_defs.specs.declared.task.ChannelId.{ChannelId}
use Rattle.flow_defs.specs.declared.task.Head.{Head}
use Rattle.flow_defs.specs.declared.parcel.Parcel.{Parcel}
use Rattle.flow_defs.specs.declared.parcel.Parcel.TheVariants.{Data, Barrier, End}
use Rattle.flow_defs.specs.Parcels.{is_data, barriers_of, has_end}
use Rattle.credit_reader.specs.declared.reader.Reader.{Reader}
use Rattle.credit_reader.specs.Readers.{Sent, reader_next, can_send, may_go, cost, blocks}
use Rattle.credit_reader.specs.Senders.{reader_of}
use Rattle.credit_reader.proofs.Channels.{channels_after}
use Rattle.input_channel.specs.Legal.{inline_in}
use Rattle.input_channel.proofs.InboxLaws.{inline_in-append}
use Rattle.script_text.specs.declared.event.Event.TheVariants as events
use Rattle.exchange_world.specs.Lanes.{Lane, ITEMS_MAX, channel_id, backlog_in, head_in}
use Rattle.exchange_world.specs.Worlds.{World, DataFrame, Response, lane_of, partition_limit}
use Rattle.exchange_world.specs.Steps.{step, number_of, sent_kind, sequence_of, sends_first, sends_of}
use Rattle.exchange_world.specs.Sound.{responses, credit_coming, resumptions_coming, AreFit, AreNumbered, number_behind, IsSound}
use Rattle.exchange_world.proofs.LaneLemmas.{other_channel, lane_put, lane_stays, lanes_stay, reader_here, reader_there, SoundOn, sound_on, is_sound_lane}
use Rattle.exchange_world.proofs.QueueLemmas.{has_sent_holds, first_can_send, number_found}
use Rattle.exchange_world.proofs.WorldLemmas.{keeps_sound, responses-append, of_channels-append, limit_stays, gate_limit_stays, gate_lent_stays}
use Rattle.exchange_world.proofs.PuttingLemmas.{backlog_in-append, brought}

-- ---- what is on the way, with one more behind it

numbered_more : (next : ℕ) (way : List (ℕ × Parcel)) (n : ℕ) (p : Parcel) → AreNumbered next way → n ≡ number_behind next way → AreNumbered next (way ++ (n, p) ∷ [])
numbered_more next [] n p numbered is = (is, tt)
numbered_more next (r ∷ way) n p numbered is = (numbered.0, numbered_more ((next + 1) % 2 ^ 32) way n p numbered.1 is)

behind_more : (next : ℕ) (way : List (ℕ × Parcel)) (n : ℕ) (p : Parcel) → number_behind next (way ++ (n, p) ∷ []) ≡ (number_behind next way + 1) % 2 ^ 32
behind_more next [] n p = refl
behind_more next (r ∷ way) n p = behind_more ((next + 1) % 2 ^ 32) way n p

-- ---- what an item costs, and whether it blocks its channel

-- what may go has the credit that it costs
pub costs : (p : Parcel) (rest : List Parcel) (head : Head) (credit : ℕ) → head ≡ head_in (p ∷ rest) → may_go head credit ≡ true → cost (sent_kind p) ≤ credit
costs (Data bytes) rest head credit is may = let less : 0 < credit = ltb-true 0 credit (ap (λ h. may_go h credit) (sym is) ∙ may) in omega (arith, less)
costs (Barrier k Inline) rest head credit is may = omega arith
costs (Barrier k Front) rest head credit is may = omega arith
costs End rest head credit is may = omega arith

cost_is : (p : Parcel) → cost (sent_kind p) ≡ backlog_in (p ∷ [])
cost_is (Data bytes) = refl
cost_is (Barrier k Inline) = refl
cost_is (Barrier k Front) = refl
cost_is End = refl

-- an inline barrier alone blocks
blocks_is : (p : Parcel) → inline_in (p ∷ []) ≡ cond (blocks (sent_kind p)) 1 0
blocks_is (Data bytes) = refl
blocks_is (Barrier k Inline) = refl
blocks_is (Barrier k Front) = refl
blocks_is End = refl

-- ---- a channel of which the first item is sent

abbrev without_first : Lane → List Parcel → Lane
without_first lane items = record lane { items = items }

abbrev sent_by : Reader → Parcel → List Parcel → Reader
sent_by r p items = reader_next r (Sent (sent_kind p) (head_in items) (backlog_in items))

pub record CanSend (r : Reader) : Type 0 where
  pub blocked : r.blocked ≡ false
  pub goes : may_go r.head r.credit ≡ true

pub can_send_parts : (r : Reader) → can_send r ≡ true → CanSend r
can_send_parts r can =
    let parts = and_parts (r.requested && not r.blocked) (may_go r.head r.credit) can in
    record { blocked = not-true _ (and_parts r.requested (not r.blocked) parts.0).1; goes = parts.1 }

sent_sound : (size limit : ℕ) (lane : Lane) (r : Reader) (way : List (ℕ × Parcel)) (credit resumptions : ℕ) (p : Parcel) (items : List Parcel)
    → SoundOn size limit lane r way credit resumptions → lane.items ≡ p ∷ items → CanSend r
    → SoundOn size limit (without_first lane items) (sent_by r p items) (way ++ (r.sequence, p) ∷ []) credit resumptions
sent_sound size limit lane r way credit resumptions p items s items_are can =
    let all_brought : brought (way ++ (r.sequence, p) ∷ []) ≡ brought way ++ p ∷ [] = map-append (λ (x : ℕ × Parcel). x.1) way ((r.sequence, p) ∷ []) in
    let same : brought way ++ lane.items ≡ brought (way ++ (r.sequence, p) ∷ []) ++ items =
    ap (λ is. brought way ++ is) items_are ∙ sym (append_assoc (brought way) (p ∷ []) items) ∙ ap (λ ps. ps ++ items) (sym all_brought) in
    let pays : cost (sent_kind p) ≤ r.credit = costs p items r.head r.credit (s.sender.head_is ∙ ap head_in items_are) can.goes in
    let all_backlog : backlog_in (brought (way ++ (r.sequence, p) ∷ [])) ≡ backlog_in (brought way) + backlog_in (p ∷ []) = ap backlog_in all_brought ∙ backlog_in-append (brought way) (p ∷ []) in
    let all_inline : inline_in (brought (way ++ (r.sequence, p) ∷ [])) ≡ inline_in (brought way) + inline_in (p ∷ []) = ap inline_in all_brought ∙ inline_in-append (brought way) (p ∷ []) in
    let costs_one = cost_is p in
    let blocks_one = blocks_is p in
    let credit_was = s.agree.credit_is in
    let blocked_was : inline_in (brought way) + inline_in lane.inbox.queue + lane.inbox.owed + resumptions ≡ 0 = s.agree.blocked ∙ ap (λ b. cond b 1 0) can.blocked in
    let room_was : length (p ∷ items) ≤ ITEMS_MAX = subst (λ is. length is ≤ ITEMS_MAX) items_are s.room in
    let lent_was : backlog_in (p ∷ items) ≤ limit = subst (λ is. backlog_in is ≤ limit) items_are s.lent in
    let counted : backlog_in (p ∷ items) ≡ cond (is_data p) 1 0 + backlog_in items = sum_by-cons (λ q. cond (is_data q) 1 0) p items in
    record {
      sender = record { requested = s.sender.requested; head_is = refl; backlog_is = refl };
      inbox = s.inbox;
      agree = record {
        numbered = numbered_more lane.inbox.next way r.sequence p s.agree.numbered s.agree.next;
        next = ap (λ n. (n + 1) % 2 ^ 32) s.agree.next ∙ sym (behind_more lane.inbox.next way r.sequence p);
        credit_is = omega (arith, all_backlog, costs_one, pays, credit_was);
        fit = subst (AreFit size) same s.agree.fit;
        barriers = subst (λ ps. map (λ (b : ℕ × BarrierKind). b.0) (barriers_of ps) ≡ range_with_len (suc lane.inbox.last) (length (barriers_of ps))) same s.agree.barriers;
        last = subst (λ ps. lane.barriers ≡ lane.inbox.last + length (barriers_of ps)) same s.agree.last;
        ended = λ e. sym same ∙ s.agree.ended e;
        finished = subst (λ ps. lane.finished ≡ true → (lane.inbox.ended ≡ true) ⊎ (has_end ps ≡ true)) same s.agree.finished;
        unfinished = subst (λ ps. lane.finished ≡ false → (lane.inbox.ended ≡ false) × (has_end ps ≡ false)) same s.agree.unfinished;
        blocked = omega (arith, all_inline, blocks_one, blocked_was);
      };
      room = omega (arith, room_was);
      lent = omega (arith, lent_was, counted);
    }

-- ---- the world in which it is sent

pub response_here : (c n : ℕ) (p : Parcel) (backlog : ℕ) (frames : List DataFrame) → responses c (frames ++ Response c n p backlog ∷ []) ≡ responses c frames ++ (n, p) ∷ []
response_here c n p backlog frames = responses-append c frames (Response c n p backlog ∷ []) ∙ ap (λ rs. responses c frames ++ rs) (cond-true (eqb c c) ((n, p) ∷ []) [] (eq-eqb c c refl))

pub response_there : (c d n : ℕ) (p : Parcel) (backlog : ℕ) (frames : List DataFrame) → (d ≡ c → ⊥) → responses d (frames ++ Response c n p backlog ∷ []) ≡ responses d frames
response_there c d n p backlog frames other =
    responses-append d frames (Response c n p backlog ∷ []) ∙ ap (λ rs. responses d frames ++ rs) (cond-false (eqb c d) ((n, p) ∷ []) [] (ne_eqb c d (λ e. other (sym e)))) ∙ append-nil (responses d frames)

module _ (m c : ℕ) (w : World) (sound : IsSound m w) (low : 1 ≤ c) (high : c ≤ m) (rest : List ChannelId) (first : w.sender.queue ≡ channel_id c ∷ rest) where
  sends_items : (r : Reader) → reader_of (channel_id c) w.sender.readers ≡ Some r → can_send r ≡ true → (items : List Parcel) → (lane_of w c).items ≡ items → IsSound m (sends_first w c items).0
  sends_items r found can [] are = sound
  sends_items r found can (p ∷ items) are =
      let s = sound.each c low high in
      let same_reader : r ≡ s.reader = same_Some _ _ (sym found ∙ s.found) in
      let sequence : sequence_of w c ≡ s.reader.sequence = ap (λ o. option_map_or (λ (r : Reader). r.sequence) o 0) s.found in
      let lane = without_first (lane_of w c) items in
      let what = Sent (sent_kind p) (head_in items) (backlog_in items) in
      let v = (sends_first w c (p ∷ items)).0 in
      let number = sound.lanes in
      let within : c ≤ length w.lanes = omega arith in
      let lanes = lanes_stay w c lane in
      let on = sound_on c w s in
      let after_it = sent_sound w.size (partition_limit w) (lane_of w c) s.reader (responses c w.frames) (credit_coming c w.controls) (resumptions_coming c w.controls) p items on are
      (can_send_parts s.reader (subst (λ t. can_send t ≡ true) same_reader can)) in
      let room = after_it.room in
      keeps_sound m c w v sound (record {
        size = refl;
        total = refl;
        lanes = lanes;
        channels = channels_after (channel_id c) what w.sender.readers;
        lane = λ d d_low d_high other. lane_stays w c lane low d d_low other;
        reader = λ d d_low d_high other. reader_there (channel_id c) what w.sender.readers (channel_id d) (other_channel c d low d_low other);
        way = λ d d_low d_high other. response_there c d (sequence_of w c) p (backlog_in items) w.frames other;
        credit = λ d d_low d_high other. refl;
        resumptions = λ d d_low d_high other. refl;
      }) (has_sent_holds (channel_id c) (sent_kind p) (head_in items) (backlog_in items) w.sender rest first sound.queue)
      (of_channels-append m w.frames (Response c (sequence_of w c) p (backlog_in items) ∷ []) sound.frames (low, high, omega (arith, room, count_by-le-length is_data items), tt))
      sound.controls
      (λ c_low c_high. is_sound_lane c v w.size (partition_limit w) lane (sent_by s.reader p items) (responses c w.frames ++ (s.reader.sequence, p) ∷ []) (credit_coming c w.controls) (resumptions_coming c w.controls)
      refl (limit_stays w v refl lanes) (lane_put w c lane low within) (reader_here (channel_id c) what w.sender.readers s.reader s.found)
      (response_here c (sequence_of w c) p (backlog_in items) w.frames ∙ ap (λ n. responses c w.frames ++ (n, p) ∷ []) sequence) refl refl after_it)
      (let lent = gate_lent_stays w c lane low within refl in let limit = gate_limit_stays w v refl lanes in let gate = sound.gate in omega (arith, lent, limit, gate))

-- the first of the queue sends
sends_sound : (m : ℕ) (w : World) (queue : List ChannelId) → w.sender.queue ≡ queue → IsSound m w → IsSound m (sends_of w queue).0
sends_sound m w [] is sound = sound
sends_sound m w (id ∷ rest) is sound =
    let able = first_can_send w.sender id rest is sound.queue in
    let of = number_found 1 m w.sender.readers id able.0 (omega arith) sound.channels able.1 in
    let c = of.0 in
    let number : number_of id ≡ c = ap number_of of.3 ∙ (let low : 1 ≤ c = of.1 in omega arith) in
    subst (λ n. IsSound m (sends_first w n (lane_of w n).items).0) (sym number)
    (sends_items m c w sound of.1 (omega (arith, of.2)) rest (is ∙ ap (λ i. i ∷ rest) of.3) able.0 (ap (λ i. reader_of i w.sender.readers) (sym of.3) ∙ able.1) able.2 (lane_of w c).items refl)

pub keeps_send : (m : ℕ) (w : World) → IsSound m w → IsSound m (step w events.Send).0
keeps_send m w sound = sends_sound m w w.sender.queue refl sound
