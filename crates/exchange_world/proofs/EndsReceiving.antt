-- What the events of the receiving end and of the receiving task add to the histories of a channel's ends.
use Rattle.std.proofs.Common.{◌≡◌, ℕ, zero, suc, ◌+◌, ◌-◌, ◌<◌, ◌≤◌, eqb, ltb, true, false, not, cond, Bool, List, [], ◌∷◌, ◌++◌, length, map, replicate, Option, Some, None, refl, sym, ap, subst, ◌∙◌, append_assoc, append-nil, arith}
use Rattle.std.specs.Prelude.{◌||◌, ◌&&◌, slice_index_or, option_to_list}
use Rattle.std.specs.List.{AllByRecursion}
use Rattle.std.proofs.lemmas.Bool.{cond_both, eqb-true, eqb-false, ltb-false, not-false}
use Rattle.flow_defs.proofs.ParcelLemmas.{data_of-append}
use Rattle.flow_defs.specs.Items.{Items}
use Rattle.flow_defs.specs.declared.parcel.Parcel.{Parcel}
use Rattle.flow_defs.specs.declared.parcel.Parcel.TheVariants.{Data, Barrier, End}
use Rattle.flow_defs.specs.Parcels.{data_of}
use Rattle.flow_defs.specs.Records.{IsShort, all_encoded}
use Rattle.turn_cell.specs.History.{entries_of}
use Rattle.turn_cell.proofs.Histories.{entries_of-append}
use Rattle.subpartition.specs.declared.entry.SendEntry.{SendEntry}
use Rattle.input_channel.specs.declared.entry.Gave.{Gave}
use Rattle.input_channel.specs.declared.entry.Gave.TheVariants.{NoBuffer, Exclusive, Floating}
use Rattle.input_channel.specs.declared.entry.ReceiveEntry.{ReceiveEntry}
use Rattle.input_channel.specs.declared.entry.ReceiveEntry.TheVariants as entries
use Rattle.input_channel.specs.Inboxes.{Inbox, inbox, pushed, polled_bytes, has_save, poll_gives, poll_leaves}
use Rattle.input_channel.specs.Counts.{wants, told, gave_by}
use Rattle.input_channel.specs.Legal.{is_kind, may_receive, returns_kind, gives_kind, returned, polled_with}
use Rattle.input_channel.specs.States.{ChannelState, OpenSave, channel_next, ChannelStandsFor, AllowsSave, Allows, saved_bytes}
use Rattle.input_channel.specs.Answers.{parcel_in}
use Rattle.input_channel.proofs.CountLemmas.{count-snoc}
use Rattle.input_channel.proofs.InboxLaws.{inbox-more}
use Rattle.input_channel.proofs.StateLaws.{poll_tells}
use Rattle.input_channel.proofs.AnswerLaws.{accepted_is_allowed}
use Rattle.script_text.specs.declared.event.Event.TheVariants as events
use Rattle.script_text.specs.declared.reply.Reply.{Reply}
use Rattle.script_text.specs.declared.reply.Reply.TheVariants as replies
use Rattle.exchange_world.specs.Lanes.{Lane, new_lane, records_in, behind_records, has_number, with_number}
use Rattle.exchange_world.specs.Worlds.{World, DataFrame, Response, Announcement, AddCredit, Resumption, lane_of, with_lane}
use Rattle.exchange_world.specs.Steps.{step, after_all, gets, asks, receives, delivers, listed, is_exclusive, reads, polls, polls_item, is_no_save, saving, tells_open}
use Rattle.exchange_world.specs.Theorems.{polled_in, bytes_in, is_done, kind_in, arrival_in, IsAccepted}
use Rattle.exchange_world.specs.Sound.{responses, coming, AreOfChannels, IsSound, IsSoundInbox}
use Rattle.exchange_world.proofs.LaneLemmas.{lane_put, lane_stays, lanes_stay}
use Rattle.exchange_world.proofs.ReceivingWays.{response_here, response_there}
use Rattle.exchange_world.proofs.ReceivingPolls.{Takes, takes, held_some}
use Rattle.exchange_world.proofs.Taking.{sound_takes_frames}
use Rattle.exchange_world.proofs.Saving.{may_open, has_number-with}
use Rattle.exchange_world.proofs.Bytes.{are_read}
use Rattle.exchange_world.proofs.OrderMoves.{waits_of, by_channel}
use Rattle.exchange_world.proofs.OrderReceiving.{listed_records}
use Rattle.exchange_world.proofs.Ends.{one_if, Tells, IsReceiving, AreEnds, StepsWith, Steps, same_start, no_records, nothing, steps_then, received_ends, quiet_steps, IsQuietEntry, tells_quiet, stands_more, receiving_more, has_save-append}

-- ---- quiet entries

by_kind : (P : Bool → Type 0) → P true → P false → (x : Bool) → P x
by_kind P it_is is_not true = it_is
by_kind P it_is is_not false = is_not

quiet_push : (p : Parcel) (backlog : ℕ) → IsQuietEntry (entries.Push p backlog)
quiet_push p backlog = record { returns = by_kind (λ x. returns_kind x (entries.Push p backlog) ≡ false) refl refl; gives = λ x. refl; saves = λ j. refl; given = λ i. refl }

quiet_backlog : (n : ℕ) → IsQuietEntry (entries.Backlog n)
quiet_backlog n = record { returns = by_kind (λ x. returns_kind x (entries.Backlog n) ≡ false) refl refl; gives = λ x. refl; saves = λ j. refl; given = λ i. refl }

quiet_added : IsQuietEntry entries.Added
quiet_added = record { returns = by_kind (λ x. returns_kind x entries.Added ≡ false) refl refl; gives = λ x. refl; saves = λ j. refl; given = λ i. refl }

quiet_credit : (n : ℕ) → IsQuietEntry (entries.Credit n)
quiet_credit n = record { returns = by_kind (λ x. returns_kind x (entries.Credit n) ≡ false) refl refl; gives = λ x. refl; saves = λ j. refl; given = λ i. refl }

quiet_ask : IsQuietEntry entries.Ask
quiet_ask = record { returns = by_kind (λ x. returns_kind x entries.Ask ≡ false) refl refl; gives = λ x. refl; saves = λ j. refl; given = λ i. refl }

quiet_resume : IsQuietEntry entries.Resume
quiet_resume = record { returns = by_kind (λ x. returns_kind x entries.Resume ≡ false) refl refl; gives = λ x. refl; saves = λ j. refl; given = λ i. refl }

quiet_saved : (k : ℕ) → IsQuietEntry (entries.Saved k)
quiet_saved k = record { returns = by_kind (λ x. returns_kind x (entries.Saved k) ≡ false) refl refl; gives = λ x. refl; saves = λ j. refl; given = λ i. refl }

-- ---- floating buffers

-- The receiving end once it got some.
record HasAdded (n : ℕ) (s : ChannelState) (saves rest read : List ℕ) (pairs : List (ℕ × ReceiveEntry)) : Type 0 where
  more : List (ℕ × ReceiveEntry)
  none : pushed (entries_of more) ≡ []
  receives : IsReceiving (after_all s (replicate n entries.Added)) saves rest read (pairs ++ more)

all_added : (n : ℕ) (s : ChannelState) (saves rest read : List ℕ) (pairs : List (ℕ × ReceiveEntry)) → IsReceiving s saves rest read pairs → n ≤ wants s.room s.counts → HasAdded n s saves rest read pairs
all_added zero s saves rest read pairs r few = record { more = []; none = refl; receives = subst (IsReceiving s saves rest read) (sym (append-nil pairs)) r }
all_added (suc n) s saves rest read pairs r few =
    let next = channel_next s entries.Added in
    let some : 0 < wants s.room s.counts = omega (arith, few) in
    let one = receiving_more s saves rest read pairs 0 entries.Added saves rest read r refl some (tells_quiet (entries_of pairs) entries.Added saves rest read quiet_added r.tells) in
    let less : wants next.room next.counts ≡ wants s.room s.counts - 1 = omega arith in
    let later = all_added n next saves rest read (pairs ++ (0, entries.Added) ∷ []) one (omega (arith, few, less)) in
    record {
      more = (0, entries.Added) ∷ later.more;
      none = later.none;
      receives = subst (IsReceiving (after_all next (replicate n entries.Added)) saves rest read) (append_assoc pairs ((0, entries.Added) ∷ []) later.more) later.receives;
    }

module _ (c : ℕ) (xs : List SendEntry) (pairs : List (ℕ × ReceiveEntry)) (bytes read : List ℕ) (w : World) (low : 1 ≤ c) (high : c ≤ length w.lanes) (d : ℕ) (d_low : 1 ≤ d) where
  abbrev Ends : ℕ → Type 0
  Ends x = AreEnds x w xs pairs bytes read

  asks_here : d ≡ c → Ends d → Steps d xs pairs bytes read [] [] (asks w d)
  asks_here is ends =
      let l = lane_of w d in
      let n = gets w d in
      let few : n ≤ wants l.inbox.room l.inbox.counts = omega arith in
      let a = all_added n l.inbox l.saves l.rest read pairs ends.receives few in
      let s = after_all l.inbox (replicate n entries.Added) in
      let now : Lane = record l { inbox = s } in
      no_records d w xs pairs bytes read ends (asks w d) xs (pairs ++ a.more) (same_start xs) (a.more, refl) (ap (λ (x : Lane). x.saves) (lane_put w d now d_low (omega (arith, is, high))))
      (received_ends d w xs pairs bytes read ends (asks w d) a.more s l.saves l.rest read (lane_put w d now d_low (omega (arith, is, high))) (ap (λ ps. ps ++ coming d w) (sym a.none)) a.receives)

  pub asks_steps : Ends c → Steps c xs pairs bytes read [] [] (asks w d)
  asks_steps ends =
      let now : Lane = record (lane_of w d) { inbox = after_all (lane_of w d).inbox (replicate (gets w d) entries.Added) } in
      by_channel d c (λ b x. Ends x → Steps x xs pairs bytes read [] [] (asks w d)) (λ is here. asks_here is here)
      (λ other there. nothing c w xs pairs bytes read (asks w d) (lane_stays w d now d_low c low other) refl there) ends

-- ---- a data frame arrives

brings : (p : Parcel) → parcel_in (kind_in p) (bytes_in (Some p)) ≡ p
brings (Data bytes) = refl
brings (Barrier k kind) = refl
brings End = refl

push_allowed : (m : ℕ) (w : World) → IsSound m w → (d number backlog : ℕ) (p : Parcel) (frames : List DataFrame) (es : List ReceiveEntry) → w.frames ≡ Response d number p backlog ∷ frames → Allows (lane_of w d).inbox es (entries.Push p backlog)
push_allowed m w sound d number backlog p frames es are =
    let accepted = subst (IsAccepted w) are (sound_takes_frames m w sound).accepted in
    subst (λ q. Allows (lane_of w d).inbox es (entries.Push q backlog)) (brings p) (accepted_is_allowed (lane_of w d).inbox es (arrival_in number p backlog) (bytes_in (Some p)) accepted)

module _ (c : ℕ) (xs : List SendEntry) (pairs : List (ℕ × ReceiveEntry)) (bytes read : List ℕ) (m : ℕ) (w : World) (sound : IsSound m w) (low : 1 ≤ c) (high : c ≤ length w.lanes) where
  abbrev first_of : World → ℕ → ReceiveEntry → List DataFrame → World
  first_of v d e frames = receives (record v { frames = frames }) d e

  arrives_here : (d number backlog : ℕ) (p : Parcel) (frames : List DataFrame) → w.frames ≡ Response d number p backlog ∷ frames → 1 ≤ d → d ≡ c → AreEnds d w xs pairs bytes read
      → Steps d xs pairs bytes read [] [] (first_of w d (entries.Push p backlog) frames)
  arrives_here d number backlog p frames are d_low is ends =
      let l = lane_of w d in
      let now : Lane = record l { inbox = channel_next l.inbox (entries.Push p backlog) } in
      let v = first_of w d (entries.Push p backlog) frames in
      let way : coming d w ≡ p ∷ coming d v = ap (λ fs. map (λ (r : ℕ × Parcel). r.1) (responses d fs)) are ∙ ap (map (λ (r : ℕ × Parcel). r.1)) (response_here d number backlog p frames) in
      quiet_steps d w xs pairs bytes read ends v 1 (entries.Push p backlog) (lane_put (record w { frames = frames }) d now d_low (omega (arith, is, high))) way (quiet_push p backlog) refl (push_allowed m w sound d number backlog p frames (entries_of pairs) are)

  arrives : (d number backlog : ℕ) (p : Parcel) (frames : List DataFrame) → w.frames ≡ Response d number p backlog ∷ frames → 1 ≤ d → AreEnds c w xs pairs bytes read
      → Steps c xs pairs bytes read [] [] (first_of w d (entries.Push p backlog) frames)
  arrives d number backlog p frames are d_low ends =
      let v = first_of w d (entries.Push p backlog) frames in
      let now : Lane = record (lane_of w d) { inbox = channel_next (lane_of w d).inbox (entries.Push p backlog) } in
      by_channel d c (λ b x. AreEnds x w xs pairs bytes read → Steps x xs pairs bytes read [] [] v) (λ is here. arrives_here d number backlog p frames are d_low is here)
      (λ other there. nothing c w xs pairs bytes read v (lane_stays (record w { frames = frames }) d now d_low c low other)
      (sym (ap (λ fs. map (λ (r : ℕ × Parcel). r.1) (responses c fs)) are ∙ ap (map (λ (r : ℕ × Parcel). r.1)) (response_there c d number backlog p frames other))) there) ends

  hears : (d n : ℕ) (frames : List DataFrame) → w.frames ≡ Announcement d n ∷ frames → 1 ≤ d → AreEnds c w xs pairs bytes read → Steps c xs pairs bytes read [] [] (first_of w d (entries.Backlog n) frames)
  hears d n frames are d_low ends =
      let v = first_of w d (entries.Backlog n) frames in
      let now : Lane = record (lane_of w d) { inbox = channel_next (lane_of w d).inbox (entries.Backlog n) } in
      let way : (x : ℕ) → coming x w ≡ coming x v = λ x. ap (λ fs. map (λ (r : ℕ × Parcel). r.1) (responses x fs)) are in
      by_channel d c (λ b x. AreEnds x w xs pairs bytes read → Steps x xs pairs bytes read [] [] v)
      (λ is here. quiet_steps d w xs pairs bytes read here v 1 (entries.Backlog n) (lane_put (record w { frames = frames }) d now d_low (omega (arith, is, high))) (way d) (quiet_backlog n) refl tt)
      (λ other there. nothing c w xs pairs bytes read v (lane_stays (record w { frames = frames }) d now d_low c low other) (sym (way c)) there) ends

  delivers_steps : (frames : List DataFrame) → w.frames ≡ frames → AreOfChannels m frames → AreEnds c w xs pairs bytes read → Steps c xs pairs bytes read [] (polled_in c (delivers w frames).1) (delivers w frames).0
  delivers_steps [] are of ends = nothing c w xs pairs bytes read w refl refl ends
  delivers_steps (Response d number p backlog ∷ frames) are of ends =
      let u = first_of w d (entries.Push p backlog) frames in
      let one = arrives d number backlog p frames are of.0 ends in
      let same = lanes_stay w d (record (lane_of w d) { inbox = channel_next (lane_of w d).inbox (entries.Push p backlog) }) in
      steps_then c xs pairs bytes read [] [] u (asks u d) one (asks_steps c one.sends one.receives one.all_bytes one.all_read u low (omega (arith, same, high)) d of.0 one.next)
  delivers_steps (Announcement d n ∷ frames) are of ends =
      let u = first_of w d (entries.Backlog n) frames in
      let one = hears d n frames are of.0 ends in
      let same = lanes_stay w d (record (lane_of w d) { inbox = channel_next (lane_of w d).inbox (entries.Backlog n) }) in
      steps_then c xs pairs bytes read [] [] u (asks u d) one (asks_steps c one.sends one.receives one.all_bytes one.all_read u low (omega (arith, same, high)) d of.0 one.next)

  pub deliver_steps : AreEnds c w xs pairs bytes read → Steps c xs pairs bytes read [] (polled_in c (step w events.Deliver).1) (step w events.Deliver).0
  deliver_steps ends = delivers_steps w.frames refl sound.frames ends

-- ---- what a poll tells

-- the bytes that were polled then
polled_more : (s : ChannelState) (pairs : List (ℕ × ReceiveEntry)) (hold : Bool) (gave : Gave) (p : Parcel) → ChannelStandsFor s pairs → poll_gives hold s.queue ≡ Some p
    → polled_bytes (entries_of pairs ++ entries.Poll hold gave ∷ []) ≡ polled_bytes (entries_of pairs) ++ data_of (p ∷ [])
polled_more s pairs hold gave p stands gives =
    ap data_of (poll_tells s pairs hold gave stands) ∙ data_of-append (inbox (entries_of pairs)).given (option_to_list (poll_gives hold s.queue))
    ∙ ap (λ o. polled_bytes (entries_of pairs) ++ data_of (option_to_list o)) gives

-- a barrier, or the end
event_tells : (s : ChannelState) (saves rest read : List ℕ) (pairs : List (ℕ × ReceiveEntry)) (hold : Bool) (p : Parcel) → IsReceiving s saves rest read pairs → poll_gives hold s.queue ≡ Some p → data_of (p ∷ []) ≡ []
    → Tells (entries_of pairs ++ entries.Poll hold NoBuffer ∷ []) saves rest read
event_tells s saves rest read pairs hold p r gives none =
    let es = entries_of pairs in
    let e : ReceiveEntry = entries.Poll hold NoBuffer in
    record {
      back = λ x.
          let one = count-snoc (returns_kind x) es e in
          let two = count-snoc (gives_kind x) es e in
          let is_not : one_if (returns_kind x e) ≡ 0 = ap (λ b. cond b 1 0) (by_kind (λ y. returns_kind y e ≡ false) refl refl x) in
          let before = r.tells.back x in
          omega (arith, one, two, is_not, before);
      opened = λ j. has_save-append j es (e ∷ []) ∙ or_false (has_save j es) ∙ r.tells.opened j;
      bytes = polled_more s pairs hold NoBuffer p r.stands gives ∙ ap (λ bs. polled_bytes es ++ bs) none ∙ append-nil (polled_bytes es) ∙ r.tells.bytes;
    }
  where
    or_false : (b : Bool) → (b || false) ≡ b
    or_false true = refl
    or_false false = refl

-- ---- a buffer that is read

abbrev kind_of : Bool → Gave
kind_of exclusive = cond exclusive Exclusive Floating

comes_back : (y x : Bool) → is_kind y (kind_of x) ≡ returns_kind y (entries.Returned x)
comes_back true true = refl
comes_back true false = refl
comes_back false true = refl
comes_back false false = refl

same_kind : (x : Bool) → is_kind x (kind_of x) ≡ true
same_kind true = refl
same_kind false = refl

-- The records that bytes have, and what is behind them, where more of the bytes of such records are behind them all.
record AreWhole (records : List (List ℕ)) (all : List ℕ) : Type 0 where
  records_are : records ≡ records_in all
  bytes_are : all ≡ all_encoded (records_in all) ++ behind_records all

module _ (s : ChannelState) (saves rest read : List ℕ) (pairs : List (ℕ × ReceiveEntry)) (hold : Bool) (bytes : List ℕ) (x : Bool) (r : IsReceiving s saves rest read pairs) (gives : poll_gives hold s.queue ≡ Some (Data bytes))
    (gave_is : gave_by (Some (Data bytes)) s.counts.held ≡ kind_of x) where
  abbrev polls_it : ReceiveEntry
  polls_it = entries.Poll hold (kind_of x)

  abbrev polled_pairs : List (ℕ × ReceiveEntry)
  polled_pairs = pairs ++ (0, polls_it) ∷ []

  polled_stands : ChannelStandsFor (channel_next s polls_it) polled_pairs
  polled_stands = stands_more s pairs 0 polls_it r.stands refl (sym (ap (λ o. gave_by o s.counts.held) gives ∙ gave_is))

  -- of a kind, so many came back and were polled
  counted : (y : Bool) → (returned y (entries_of pairs ++ polls_it ∷ []) ≡ returned y (entries_of pairs)) × (polled_with y (entries_of pairs ++ polls_it ∷ []) ≡ polled_with y (entries_of pairs) + cond (is_kind y (kind_of x)) 1 0)
  counted y =
      let es = entries_of pairs in
      let one = count-snoc (returns_kind y) es polls_it in
      let is_not : one_if (returns_kind y polls_it) ≡ 0 = ap (λ b. cond b 1 0) (by_kind (λ z. returns_kind z polls_it ≡ false) refl refl y) in
      (omega (arith, one, is_not), count-snoc (gives_kind y) es polls_it)

  out : returned x (entries_of pairs ++ polls_it ∷ []) < polled_with x (entries_of pairs ++ polls_it ∷ [])
  out =
      let n = counted x in
      let one : one_if (is_kind x (kind_of x)) ≡ 1 = ap (λ b. cond b 1 0) (same_kind x) in
      let back = n.0 in
      let given = n.1 in
      let before = r.tells.back x in
      omega (arith, one, back, given, before)

  abbrev back_entry : ReceiveEntry
  back_entry = entries.Returned x

  read_tells : (records : List (List ℕ)) → AreWhole records (rest ++ bytes)
      → Tells ((entries_of pairs ++ polls_it ∷ []) ++ back_entry ∷ []) saves (behind_records (rest ++ bytes)) (read ++ all_encoded records)
  read_tells records whole =
      let es = entries_of pairs in
      let polled = es ++ polls_it ∷ [] in
      record {
        back = λ y.
            let n = counted y in
            let back = n.0 in
            let given = n.1 in
            let one = count-snoc (returns_kind y) polled back_entry in
            let two : polled_with y (polled ++ back_entry ∷ []) ≡ polled_with y polled + 0 = count-snoc (gives_kind y) polled back_entry in
            let same : one_if (is_kind y (kind_of x)) ≡ one_if (returns_kind y back_entry) = ap (λ b. cond b 1 0) (comes_back y x) in
            let before = r.tells.back y in
            omega (arith, back, given, one, two, same, before);
        opened = λ j. has_save-append j polled (back_entry ∷ []) ∙ or_false (has_save j polled) ∙ has_save-append j es (polls_it ∷ []) ∙ or_false (has_save j es) ∙ r.tells.opened j;
        bytes = ap (λ (i : Inbox). data_of i.given) (inbox-more polled back_entry)
            ∙ polled_more s pairs hold (kind_of x) (Data bytes) r.stands gives
            ∙ ap (λ bs. polled_bytes es ++ bs) (append-nil bytes) ∙ ap (λ bs. bs ++ bytes) r.tells.bytes ∙ append_assoc read rest bytes
            ∙ ap (λ bs. read ++ bs) whole.bytes_are ∙ sym (append_assoc read (all_encoded (records_in (rest ++ bytes))) (behind_records (rest ++ bytes)))
            ∙ ap (λ rs. (read ++ all_encoded rs) ++ behind_records (rest ++ bytes)) (sym whole.records_are);
      }
    where
      or_false : (b : Bool) → (b || false) ≡ b
      or_false true = refl
      or_false false = refl

  read_receives : (records : List (List ℕ)) → AreWhole records (rest ++ bytes)
      → IsReceiving (channel_next (channel_next s polls_it) back_entry) saves (behind_records (rest ++ bytes)) (read ++ all_encoded records) (pairs ++ (0, polls_it) ∷ (0, back_entry) ∷ [])
  read_receives records whole =
      let es : entries_of polled_pairs ≡ entries_of pairs ++ polls_it ∷ [] = entries_of-append pairs ((0, polls_it) ∷ []) in
      let all : entries_of (polled_pairs ++ (0, back_entry) ∷ []) ≡ (entries_of pairs ++ polls_it ∷ []) ++ back_entry ∷ [] = entries_of-append polled_pairs ((0, back_entry) ∷ []) ∙ ap (λ l. l ++ back_entry ∷ []) es in
      let fits : returned x (entries_of polled_pairs) < polled_with x (entries_of polled_pairs) = subst (λ l. returned x l < polled_with x l) (sym es) out in
      subst (IsReceiving (channel_next (channel_next s polls_it) back_entry) saves (behind_records (rest ++ bytes)) (read ++ all_encoded records)) (append_assoc pairs ((0, polls_it) ∷ []) ((0, back_entry) ∷ []))
      (record {
        stands = stands_more (channel_next s polls_it) polled_pairs 0 back_entry polled_stands refl fits;
        tells = subst (λ l. Tells l saves (behind_records (rest ++ bytes)) (read ++ all_encoded records)) (sym all) (read_tells records whole);
      })

-- ---- the events

-- What waits on a channel, behind the rest, encodes records.
pub record WaitsFor (c : ℕ) (w : World) : Type 0 where
  pub later : List (List ℕ)
  pub short : AllByRecursion IsShort later
  pub same : (lane_of w c).rest ++ waits_of c w ≡ all_encoded later

module _ (c : ℕ) (xs : List SendEntry) (pairs : List (ℕ × ReceiveEntry)) (bytes read : List ℕ) (m : ℕ) (w : World) (sound : IsSound m w) (low : 1 ≤ c) (high : c ≤ length w.lanes) (d : ℕ) (d_low : 1 ≤ d) (d_high : d ≤ m) where
  abbrev Goes : World × Reply → Type 0
  Goes p = Steps c xs pairs bytes read [] (polled_in c p.1) p.0

  -- a quiet entry
  takes_quiet : (v : World) (n : ℕ) (e : ReceiveEntry) → v.lanes ≡ (receives w d e).lanes → v.size ≡ w.size → v.frames ≡ w.frames → AreEnds c w xs pairs bytes read
      → IsQuietEntry e → (pushed (e ∷ []) ≡ []) → may_receive n e ≡ true → ((es : List ReceiveEntry) → Allows (lane_of w d).inbox es e) → Steps c xs pairs bytes read [] [] v
  takes_quiet v n e lanes size frames ends quiet none pass allows =
      let now : Lane = record (lane_of w d) { inbox = channel_next (lane_of w d).inbox e } in
      let same : (x : ℕ) → lane_of v x ≡ lane_of (receives w d e) x = λ x. ap (λ ls. slice_index_or ls (x - 1) (new_lane v.size)) lanes ∙ ap (λ n. slice_index_or (receives w d e).lanes (x - 1) (new_lane n)) size in
      let way : (x : ℕ) → coming x v ≡ coming x w = λ x. ap (λ fs. map (λ (r : ℕ × Parcel). r.1) (responses x fs)) frames in
      by_channel d c (λ b x. AreEnds x w xs pairs bytes read → Steps x xs pairs bytes read [] [] v)
      (λ is here. quiet_steps d w xs pairs bytes read here v n e (same d ∙ lane_put w d now d_low (omega (arith, is, high))) (sym (way d) ∙ ap (λ ps. ps ++ coming d v) (sym none)) quiet pass (allows (entries_of pairs)))
      (λ other there. nothing c w xs pairs bytes read v (same c ∙ lane_stays w d now d_low c low other) (way c) there) ends

  pub credit_steps : AreEnds c w xs pairs bytes read → Steps c xs pairs bytes read [] (polled_in c (step w (events.Credit d)).1) (step w (events.Credit d)).0
  credit_steps ends =
      let n = told (lane_of w d).inbox.counts in
      let v : World = record (receives w d (entries.Credit n)) { controls = w.controls ++ AddCredit d n ∷ [] } in
      cond_both (eqb n 0) (w, replies.Absent) (v, replies.Credit d n) Goes (λ none. nothing c w xs pairs bytes read w refl refl ends) (λ some.
      takes_quiet v 2 (entries.Credit n) refl refl refl ends (quiet_credit n) refl refl (λ es. refl))

  -- ---- what waits is polled

  event_steps : (hold : Bool) (p : Parcel) (reply : Reply) → poll_gives hold (lane_of w d).inbox.queue ≡ Some p → data_of (p ∷ []) ≡ [] → ((held : List Bool) → gave_by (Some p) held ≡ NoBuffer) → polled_in c reply ≡ [] → AreEnds c w xs pairs bytes read
      → Steps c xs pairs bytes read [] (polled_in c reply) (receives w d (entries.Poll hold NoBuffer))
  event_steps hold p reply gives no_data no_buffer none ends =
      let e : ReceiveEntry = entries.Poll hold NoBuffer in
      let l = lane_of w d in
      let now : Lane = record l { inbox = channel_next l.inbox e } in
      let v = receives w d e in
      subst (λ rs. Steps c xs pairs bytes read [] rs v) (sym none)
      (by_channel d c (λ b x. AreEnds x w xs pairs bytes read → Steps x xs pairs bytes read [] [] v)
      (λ is here.
      let receives = receiving_more l.inbox l.saves l.rest read pairs 0 e l.saves l.rest read here.receives refl (sym (ap (λ o. gave_by o l.inbox.counts.held) gives ∙ no_buffer l.inbox.counts.held)) (event_tells l.inbox l.saves l.rest read pairs hold p here.receives gives no_data) in
      no_records d w xs pairs bytes read here v xs (pairs ++ (0, e) ∷ []) (same_start xs) ((0, e) ∷ [], refl) (ap (λ (x : Lane). x.saves) (lane_put w d now d_low (omega (arith, is, high))))
      (received_ends d w xs pairs bytes read here v ((0, e) ∷ []) (channel_next l.inbox e) l.saves l.rest read (lane_put w d now d_low (omega (arith, is, high))) refl receives))
      (λ other there. nothing c w xs pairs bytes read v (lane_stays w d now d_low c low other) refl there) ends)

  abbrev records_of : List ℕ → List (List ℕ)
  records_of given = map (λ (r : Items ℕ). r.items) (listed (records_in ((lane_of w d).rest ++ given))).items

  abbrev read_lane : Bool → List ℕ → Gave → Lane
  read_lane hold given gave =
      let l = lane_of w d in
      record l { inbox = channel_next (channel_next l.inbox (entries.Poll hold gave)) (entries.Returned (is_exclusive gave)); rest = behind_records (l.rest ++ given) }

  exclusive_kind : (x : Bool) → is_exclusive (kind_of x) ≡ x
  exclusive_kind true = refl
  exclusive_kind false = refl

  are_whole : (hold : Bool) (given : List ℕ) → poll_gives hold (lane_of w d).inbox.queue ≡ Some (Data given) → WaitsFor d w → AreWhole (records_of given) ((lane_of w d).rest ++ given)
  are_whole hold given gives waits =
      let l = lane_of w d in
      let left = data_of (poll_leaves hold l.inbox.queue) in
      let behind = data_of (coming d w) ++ data_of l.items in
      let first : data_of l.inbox.queue ≡ given ++ left = (takes hold l.inbox.queue (Data given) gives).data_are ∙ ap (λ xs. xs ++ left) (append-nil given) in
      let all : (l.rest ++ given) ++ (left ++ behind) ≡ all_encoded waits.later =
      append_assoc l.rest given (left ++ behind) ∙ ap (λ bs. l.rest ++ bs) (sym (append_assoc given left behind) ∙ ap (λ bs. bs ++ behind) (sym first)) ∙ waits.same in
      record { records_are = listed_records (records_in (l.rest ++ given)); bytes_are = (are_read (l.rest ++ given) (left ++ behind) waits.later waits.short all).bytes_are }

  reads_here : (hold : Bool) (given : List ℕ) (x : Bool) (gave : Gave) → gave ≡ gave_by (Some (Data given)) (lane_of w d).inbox.counts.held → gave ≡ kind_of x → poll_gives hold (lane_of w d).inbox.queue ≡ Some (Data given) → d ≡ c
      → AreEnds d w xs pairs bytes read → WaitsFor d w → Steps d xs pairs bytes read [] (records_of given) (with_lane w d (read_lane hold given gave))
  reads_here hold given x gave gave_is kind_is gives is ends waits =
      let l = lane_of w d in
      let u = with_lane w d (read_lane hold given gave) in
      let whole = are_whole hold given gives waits in
      let more : List (ℕ × ReceiveEntry) = (0, entries.Poll hold (kind_of x)) ∷ (0, entries.Returned x) ∷ [] in
      let received = read_receives l.inbox l.saves l.rest read pairs hold given x ends.receives gives (sym gave_is ∙ kind_is) (records_of given) whole in
      let inbox_is : channel_next (channel_next l.inbox (entries.Poll hold (kind_of x))) (entries.Returned x) ≡ (read_lane hold given gave).inbox =
      ap (λ y. channel_next (channel_next l.inbox (entries.Poll hold (kind_of x))) (entries.Returned y)) (sym (exclusive_kind x))
      ∙ ap (λ (g : Gave). channel_next (channel_next l.inbox (entries.Poll hold g)) (entries.Returned (is_exclusive g))) (sym kind_is) in
      let rest = behind_records (l.rest ++ given) in
      let read_now = read ++ all_encoded (records_of given) in
      record {
        sends = xs;
        starts = same_start xs;
        receives = pairs ++ more;
        begins = (more, refl);
        all_bytes = bytes;
        bytes_are = sym (append-nil bytes);
        all_read = read_now;
        read_are = refl;
        kept = λ j is_not. (subst (λ s. IsReceiving s l.saves rest read_now (pairs ++ more)) inbox_is received).tells.opened j ∙ sym (ends.receives.tells.opened j);
        next = received_ends d w xs pairs bytes read ends u more (read_lane hold given gave).inbox l.saves rest read_now (lane_put w d (read_lane hold given gave) d_low (omega (arith, is, high))) refl
            (subst (λ s. IsReceiving s l.saves rest read_now (pairs ++ more)) inbox_is received);
      }

  gave_first : (given : List ℕ) (x : Bool) (rest : List Bool) → gave_by (Some (Data given)) (x ∷ rest) ≡ kind_of x
  gave_first given true rest = refl
  gave_first given false rest = refl

  reads_steps : (hold : Bool) (given : List ℕ) → poll_gives hold (lane_of w d).inbox.queue ≡ Some (Data given) → AreEnds c w xs pairs bytes read → WaitsFor c w → Steps c xs pairs bytes read [] (polled_in c (reads w d hold given).1) (reads w d hold given).0
  reads_steps hold given gives ends waits =
      let l = lane_of w d in
      let held = l.inbox.counts.held in
      let gave = gave_by (Some (Data given)) held in
      let first = held_some w.size hold l.inbox given (sound.each d d_low d_high).inbox (takes hold l.inbox.queue (Data given) gives) in
      let kind_is : gave ≡ kind_of first.0 = ap (gave_by (Some (Data given))) first.2 ∙ gave_first given first.0 first.1 in
      let now = read_lane hold given gave in
      let u = with_lane w d now in
      let one : Steps c xs pairs bytes read [] (cond (eqb d c) (records_of given) []) u =
      by_channel d c (λ b x. AreEnds x w xs pairs bytes read → WaitsFor x w → Steps x xs pairs bytes read [] (cond b (records_of given) []) u)
      (λ is here waits_here. reads_here hold given first.0 gave refl kind_is gives is here waits_here)
      (λ other there waits_there. nothing c w xs pairs bytes read u (lane_stays w d now d_low c low other) refl there) ends waits in
      steps_then c xs pairs bytes read [] (cond (eqb d c) (records_of given) []) u (asks u d) one
      (asks_steps c one.sends one.receives one.all_bytes one.all_read u low (omega (arith, lanes_stay w d now, high)) d d_low one.next)

  polls_steps_item : (hold : Bool) (given : Option Parcel) → poll_gives hold (lane_of w d).inbox.queue ≡ given → AreEnds c w xs pairs bytes read → WaitsFor c w → Steps c xs pairs bytes read [] (polled_in c (polls_item w d hold given).1) (polls_item w d hold given).0
  polls_steps_item hold None gives ends waits =
      elim (eqb (length (lane_of w d).inbox.queue) 0) as (λ b. Steps c xs pairs bytes read [] (polled_in c (cond b (replies.Empty d) (replies.Held d))) w) [
        | true ↦ nothing c w xs pairs bytes read w refl refl ends
        | false ↦ nothing c w xs pairs bytes read w refl refl ends
      ]
  polls_steps_item hold (Some (Data given)) gives ends waits = reads_steps hold given gives ends waits
  polls_steps_item hold (Some (Barrier k kind)) gives ends waits = event_steps hold (Barrier k kind) (replies.Barrier d k kind) gives refl (λ held. refl) refl ends
  polls_steps_item hold (Some End) gives ends waits = event_steps hold End (replies.End d) gives refl (λ held. refl) refl ends

  pub polls_steps : (hold : Bool) → AreEnds c w xs pairs bytes read → WaitsFor c w → Steps c xs pairs bytes read [] (polled_in c (polls w d hold).1) (polls w d hold).0
  polls_steps hold ends waits = polls_steps_item hold (poll_gives hold (lane_of w d).inbox.queue) refl ends waits

  -- ---- a save is opened, and closed

  saving_tells : (k : ℕ) (es : List ReceiveEntry) → Tells es (lane_of w d).saves (lane_of w d).rest read → Tells (es ++ entries.Save k (lane_of w d).rest ∷ []) (with_number k (lane_of w d).saves) (lane_of w d).rest read
  saving_tells k es tells =
      let l = lane_of w d in
      let e : ReceiveEntry = entries.Save k l.rest in
      record {
        back = λ x.
            let one = count-snoc (returns_kind x) es e in
            let two = count-snoc (gives_kind x) es e in
            let is_not : one_if (returns_kind x e) ≡ 0 = ap (λ b. cond b 1 0) (by_kind (λ y. returns_kind y e ≡ false) refl refl x) in
            let before = tells.back x in
            omega (arith, one, two, is_not, before);
        opened = λ j. has_save-append j es (e ∷ []) ∙ ap (λ b. has_save j es || b) (or_false (eqb k j)) ∙ ap (λ b. b || eqb k j) (tells.opened j) ∙ sym (has_number-with j k l.saves);
        bytes = ap (λ (i : Inbox). data_of i.given) (inbox-more es e) ∙ tells.bytes;
      }
    where
      or_false : (b : Bool) → (b || false) ≡ b
      or_false true = refl
      or_false false = refl

  pub save_ends : (k : ℕ) → is_no_save (lane_of w d) k ≡ false → d ≡ c → AreEnds d w xs pairs bytes read → AreEnds d (with_lane w d (saving k (lane_of w d))) xs (pairs ++ (0, entries.Save k (lane_of w d).rest) ∷ []) bytes read
  save_ends k may is ends =
      let l = lane_of w d in
      let e : ReceiveEntry = entries.Save k l.rest in
      let v = with_lane w d (saving k l) in
      let opens = may_open l k may in
      let once : has_save k (entries_of pairs) ≡ false = ends.receives.tells.opened k ∙ opens.once in
      let received = receiving_more l.inbox l.saves l.rest read pairs 0 e (with_number k l.saves) l.rest read ends.receives refl (opens.allows, once, read, ends.receives.tells.bytes) (saving_tells k (entries_of pairs) ends.receives.tells) in
      received_ends d w xs pairs bytes read ends v ((0, e) ∷ []) (channel_next l.inbox e) (with_number k l.saves) l.rest read (lane_put w d (saving k l) d_low (omega (arith, is, high))) refl received

  -- more that is opened, or less that is kept
  with_test : (opens : ℕ → Bool) (x : ℕ) (v : World) → Steps x xs pairs bytes read [] [] v → StepsWith opens x xs pairs bytes read [] [] v
  with_test opens x v s = record {
    sends = s.sends;
    starts = s.starts;
    receives = s.receives;
    begins = s.begins;
    all_bytes = s.all_bytes;
    bytes_are = s.bytes_are;
    all_read = s.all_read;
    read_are = s.read_are;
    kept = λ j is_not. s.kept j refl;
    next = s.next;
  }

  saves_here : (k : ℕ) → is_no_save (lane_of w d) k ≡ false → d ≡ c → AreEnds d w xs pairs bytes read → StepsWith (λ j. (true && eqb k j) && true) d xs pairs bytes read [] [] (with_lane w d (saving k (lane_of w d)))
  saves_here k may is ends =
      let l = lane_of w d in
      let e : ReceiveEntry = entries.Save k l.rest in
      record {
        sends = xs;
        starts = same_start xs;
        receives = pairs ++ (0, e) ∷ [];
        begins = ((0, e) ∷ [], refl);
        all_bytes = bytes;
        bytes_are = sym (append-nil bytes);
        all_read = read;
        read_are = sym (append-nil read);
        kept = λ j is_not.
            let other : eqb k j ≡ false = and_true (eqb k j) is_not in
            ap (has_save j) (entries_of-append pairs ((0, e) ∷ [])) ∙ has_save-append j (entries_of pairs) (e ∷ []) ∙ ap (λ b. has_save j (entries_of pairs) || (b || false)) other ∙ or_false (has_save j (entries_of pairs));
        next = save_ends k may is ends;
      }
    where
      and_true : (b : Bool) → (b && true) ≡ false → b ≡ false
      and_true true h = h
      and_true false h = refl

      or_false : (b : Bool) → (b || false) ≡ b
      or_false true = refl
      or_false false = refl

  pub save_steps : (k : ℕ) → AreEnds c w xs pairs bytes read → StepsWith (λ j. (eqb d c && eqb k j) && is_done (step w (events.Save d k)).1) c xs pairs bytes read [] (polled_in c (step w (events.Save d k)).1) (step w (events.Save d k)).0
  save_steps k ends =
      let l = lane_of w d in
      let v = with_lane w d (saving k l) in
      cond_both (is_no_save l k) (w, replies.Refused) (v, replies.Done) (λ (p : World × Reply). StepsWith (λ j. (eqb d c && eqb k j) && is_done p.1) c xs pairs bytes read [] (polled_in c p.1) p.0)
      (λ is_not. with_test (λ j. (eqb d c && eqb k j) && false) c w (nothing c w xs pairs bytes read w refl refl ends)) (λ may.
      by_channel d c (λ b x. AreEnds x w xs pairs bytes read → StepsWith (λ j. (b && eqb k j) && true) x xs pairs bytes read [] [] v)
      (λ is here. saves_here k may is here)
      (λ other there. with_test (λ j. (false && eqb k j) && true) c v (nothing c w xs pairs bytes read v (lane_stays w d (saving k l) d_low c low other) refl there)) ends)

  tells_steps : (k : ℕ) (save : Option OpenSave) → (lane_of w d).inbox.save ≡ save → AreEnds c w xs pairs bytes read → Steps c xs pairs bytes read [] (polled_in c (tells_open w d k save).1) (tells_open w d k save).0
  tells_steps k None is ends = nothing c w xs pairs bytes read w refl refl ends
  tells_steps k (Some save) is ends =
      let inbox = (lane_of w d).inbox in
      let v = receives w d (entries.Saved k) in
      let told : Items ℕ = record { items = saved_bytes inbox save; room = 0 } in
      let done : World × Reply = (v, replies.SavedIn d k told) in
      let later : World × Reply = cond (ltb inbox.last k) (w, replies.NotYet d k) done in
      cond_both (not (eqb save.number k)) (w, replies.Refused) later Goes (λ other. nothing c w xs pairs bytes read w refl refl ends) (λ this.
      cond_both (ltb inbox.last k) (w, replies.NotYet d k) done Goes (λ early. nothing c w xs pairs bytes read w refl refl ends) (λ came.
      takes_quiet v 0 (entries.Saved k) refl refl refl ends (quiet_saved k) refl refl (λ es. ((save, is, eqb-true save.number k (not-false (eqb save.number k) this)), ltb-false inbox.last k came))))

  pub saved_steps : (k : ℕ) → AreEnds c w xs pairs bytes read → Steps c xs pairs bytes read [] (polled_in c (step w (events.Saved d k)).1) (step w (events.Saved d k)).0
  saved_steps k ends = tells_steps k (lane_of w d).inbox.save refl ends

-- a channel is resumed
module _ (c : ℕ) (xs : List SendEntry) (pairs : List (ℕ × ReceiveEntry)) (bytes read : List ℕ) (w : World) (low : 1 ≤ c) (high : c ≤ length w.lanes) (d : ℕ) (d_low : 1 ≤ d) where
  resumed_here : (v : World) → v ≡ record (receives (receives w d entries.Ask) d entries.Resume) { controls = v.controls } → 1 ≤ (lane_of w d).inbox.owed → d ≡ c → AreEnds d w xs pairs bytes read → Steps d xs pairs bytes read [] [] v
  resumed_here v v_is some is ends =
      let l = lane_of w d in
      let u = receives w d entries.Ask in
      let asked : Lane = record l { inbox = channel_next l.inbox entries.Ask } in
      let there : lane_of u d ≡ asked = lane_put w d asked d_low (omega (arith, is, high)) in
      let one = quiet_steps d w xs pairs bytes read ends u 0 entries.Ask there refl quiet_ask refl (let e : 0 < l.inbox.owed = omega (arith, some) in e) in
      let lu = lane_of u d in
      let resumed : Lane = record lu { inbox = channel_next lu.inbox entries.Resume } in
      let same = lanes_stay w d asked in
      let owes : lu.inbox.asked ≡ l.inbox.asked + 1 = ap (λ (x : Lane). x.inbox.asked) there in
      let r = receives u d entries.Resume in
      let here : lane_of r d ≡ resumed = lane_put u d resumed d_low (omega (arith, same, is, high)) in
      let two = quiet_steps d u one.sends one.receives one.all_bytes one.all_read one.next v 2 entries.Resume (ap (λ (x : World). lane_of x d) v_is ∙ here) (sym (ap (λ (x : World). coming d x) v_is)) quiet_resume refl (let e : 0 < lu.inbox.asked = omega (arith, owes) in e) in
      steps_then d xs pairs bytes read [] [] u v one two

  pub resume_steps : AreEnds c w xs pairs bytes read → Steps c xs pairs bytes read [] (polled_in c (step w (events.Resume d)).1) (step w (events.Resume d)).0
  resume_steps ends =
      let u = receives w d entries.Ask in
      let v : World = record (receives u d entries.Resume) { controls = w.controls ++ Resumption d ∷ [] } in
      let asked : Lane = record (lane_of w d) { inbox = channel_next (lane_of w d).inbox entries.Ask } in
      let resumed : Lane = record (lane_of u d) { inbox = channel_next (lane_of u d).inbox entries.Resume } in
      cond_both (eqb (lane_of w d).inbox.owed 0) (w, replies.Refused) (v, replies.Done) (λ (p : World × Reply). Steps c xs pairs bytes read [] (polled_in c p.1) p.0) (λ none. nothing c w xs pairs bytes read w refl refl ends) (λ some.
      by_channel d c (λ b x. AreEnds x w xs pairs bytes read → Steps x xs pairs bytes read [] [] v)
      (λ is here. resumed_here v refl (let apart = eqb-false (lane_of w d).inbox.owed 0 some in grind (arith, apart)) is here)
      (λ other there. nothing c w xs pairs bytes read v (lane_stays u d resumed d_low c low other ∙ lane_stays w d asked d_low c low other) refl there) ends)
