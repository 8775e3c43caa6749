-- What an event does to the credit of one channel: what the sender has is what came less the data sent, and
-- what is on the way is what was announced less what came.
use Rattle.std.proofs.Common.{◌≡◌, ℕ, suc, ◌+◌, ◌-◌, ◌≤◌, eqb, ltb, true, false, not, cond, Bool, List, [], ◌∷◌, ◌++◌, length, Option, Some, None, refl, sym, ap, subst, ◌∙◌, arith}
use Rattle.std.specs.Prelude.{◌||◌, ◌&&◌}
use Rattle.std.specs.Option.{option_map, option_map_or}
use Rattle.std.proofs.lemmas.Bool.{cond_both}
use Rattle.std.proofs.lemmas.Option.{same_Some}
use Rattle.flow_defs.specs.Items.{Items}
use Rattle.flow_defs.specs.declared.task.BarrierKind.{BarrierKind}
use Rattle.flow_defs.specs.declared.task.BarrierKind.TheVariants.{Inline, Front}
use Rattle.flow_defs.specs.declared.task.ChannelId.{ChannelId}
use Rattle.flow_defs.specs.declared.parcel.Parcel.{Parcel}
use Rattle.flow_defs.specs.declared.parcel.Parcel.TheVariants.{Data, Barrier, End}
use Rattle.credit_reader.specs.declared.reader.Reader.{Reader}
use Rattle.credit_reader.specs.Readers.{Happening, Granted, Resumed, Ready, Sent, Announced, reader_next, can_send, cost}
use Rattle.credit_reader.specs.Senders.{is_same, reader_of, after_at, happened}
use Rattle.credit_reader.specs.Answers.{due_first}
use Rattle.credit_reader.proofs.Channels.{reader_after}
use Rattle.input_channel.specs.Inboxes.{poll_gives}
use Rattle.input_channel.specs.Counts.{told}
use Rattle.input_channel.specs.States.{OpenSave, saved_bytes}
use Rattle.input_channel.specs.declared.entry.ReceiveEntry.TheVariants as entries
use Rattle.script_text.specs.declared.event.Event.TheVariants as events
use Rattle.script_text.specs.declared.reply.Reply.{Reply}
use Rattle.script_text.specs.declared.reply.Reply.TheVariants as replies
use Rattle.exchange_world.specs.Lanes.{Lane, ITEMS_MAX, channel_id, backlog_in, head_in}
use Rattle.exchange_world.specs.Worlds.{World, DataFrame, Response, Announcement, ControlFrame, AddCredit, Resumption, lane_of, with_lane, partition_limit, partition_lent}
use Rattle.exchange_world.specs.Steps.{step, buffers_of, with_items, puts, emits, barred, bar_reply, number_of, sent_kind, sends_first, sends_of, announces, obeys, receives, delivers, polls_item, polls, is_no_save, saving, tells_open}
use Rattle.exchange_world.specs.Theorems.{is_buffer, sent_in, granted_in, announced_in}
use Rattle.exchange_world.specs.Sound.{IsSound, ControlsAreOfChannels, credit_coming}
use Rattle.exchange_world.proofs.LaneLemmas.{other_channel, reader_here, reader_there}
use Rattle.exchange_world.proofs.QueueLemmas.{first_can_send, number_found}
use Rattle.exchange_world.proofs.WorldLemmas.{credit_coming-append}
use Rattle.exchange_world.proofs.SendingLemmas.{costs, can_send_parts}
use Rattle.exchange_world.proofs.OrderMoves.{by_channel}

-- ---- the credit of a reader

abbrev pub credit_in : Option Reader → ℕ
credit_in o = option_map_or (λ (r : Reader). r.credit) o 0

-- The credit that the sender has for a channel.
abbrev pub credit_of : ℕ → World → ℕ
credit_of c w = credit_in (reader_of (channel_id c) w.sender.readers)

-- what keeps a reader's credit keeps that of each
keeps_one : (h : Happening) → ((r : Reader) → (reader_next r h).credit ≡ r.credit) → (b : Bool) (o : Option Reader) → credit_in (option_map (λ r. cond b (reader_next r h) r) o) ≡ credit_in o
keeps_one h keeps b None = refl
keeps_one h keeps true (Some r) = keeps r
keeps_one h keeps false (Some r) = refl

keeps_credit : (id d : ChannelId) (h : Happening) (rs : List Reader) → ((r : Reader) → (reader_next r h).credit ≡ r.credit) → credit_in (reader_of d (after_at id h rs)) ≡ credit_in (reader_of d rs)
keeps_credit id d h rs keeps = ap credit_in (reader_after id h d rs) ∙ keeps_one h keeps (is_same d id) (reader_of d rs)

-- ---- what is paid

-- A world and a reply: the credit that the sender has and the credit on the way are as the reply says.
pub record IsPaid (c : ℕ) (w : World) (p : World × Reply) : Type 0 where
  pub sender : credit_of c w + granted_in c p.1 ≡ sent_in c p.1 + credit_of c p.0
  pub controls : credit_coming c w.controls + announced_in c p.1 ≡ granted_in c p.1 + credit_coming c p.0.controls

-- A reply says nothing of credit.
abbrev SaysNone : ℕ → Reply → Type 0
SaysNone c reply = sent_in c reply + granted_in c reply + announced_in c reply ≡ 0

nothing_paid : (c : ℕ) (w v : World) (reply : Reply) → SaysNone c reply → credit_of c v ≡ credit_of c w → credit_coming c v.controls ≡ credit_coming c w.controls → IsPaid c w (v, reply)
nothing_paid c w v reply none credit coming = record { sender = omega (arith, credit, none); controls = omega (arith, coming, none) }

module _ (w : World) (c : ℕ) where
  stays : (reply : Reply) → SaysNone c reply → IsPaid c w (w, reply)
  stays reply none = nothing_paid c w w reply none refl refl

  -- ---- the sending task

  puts_paid : (d : ℕ) (lane : Lane) (reply : Reply) → SaysNone c reply → IsPaid c w (puts w d lane, reply)
  puts_paid d lane reply none =
      let v = puts w d lane in
      nothing_paid c w v reply none (keeps_credit (channel_id d) (channel_id c) (Ready (head_in (lane_of v d).items) (backlog_in (lane_of v d).items)) w.sender.readers (λ r. refl)) refl

  pub emits_paid : (d : ℕ) (text : List ℕ) → IsPaid c w (emits w d text)
  emits_paid d text =
      let lane = lane_of w d in
      let buffers = buffers_of w text in
      let put : World × Reply = (puts w d (with_items lane buffers), replies.Queued d (partition_lent lane + length buffers)) in
      let full = ltb (partition_limit w) (partition_lent lane + length buffers) || ltb ITEMS_MAX (length lane.items + length buffers) in
      cond_both lane.finished (w, replies.Refused) (cond full (w, replies.Full) put) (IsPaid c w) (λ is. stays replies.Refused refl) (λ going.
      cond_both full (w, replies.Full) put (IsPaid c w) (λ is. stays replies.Full refl) (λ fits.
      puts_paid d (with_items lane buffers) (replies.Queued d (partition_lent lane + length buffers)) refl))

  -- what is put with no record, or nothing
  done_paid : (d : ℕ) (lane : Lane) (reply : Reply) (stop fits : Bool) → SaysNone c reply → IsPaid c w (cond {A = World × Reply} stop (w, replies.Refused) (cond fits (puts w d lane, reply) (w, replies.Full)))
  done_paid d lane reply true fits none = stays replies.Refused refl
  done_paid d lane reply false true none = puts_paid d lane reply none
  done_paid d lane reply false false none = stays replies.Full refl

  bar_says_none : (d k : ℕ) (kind : BarrierKind) (lane : Lane) → SaysNone c (bar_reply d k kind lane)
  bar_says_none d k Inline lane = refl
  bar_says_none d k Front lane = refl

  pub barrier_paid : (d k : ℕ) (kind : BarrierKind) → IsPaid c w (step w (events.Barrier d k kind))
  barrier_paid d k kind =
      let lane = lane_of w d in
      done_paid d (barred k kind lane) (bar_reply d k kind lane) (lane.finished || not (eqb k (suc lane.barriers))) (ltb (length lane.items) ITEMS_MAX) (bar_says_none d k kind lane)

  pub finish_paid : (d : ℕ) → IsPaid c w (step w (events.Finish d))
  finish_paid d =
      let lane = lane_of w d in
      done_paid d (record (with_items lane (End ∷ [])) { finished = true }) replies.Done lane.finished (ltb (length lane.items) ITEMS_MAX) refl

  -- ---- a backlog is announced

  announced_credit : (o : Option Reader) → credit_in (reader_of (channel_id c) (option_map_or (λ (r : Reader). happened r.channel Announced w.sender) o w.sender).readers) ≡ credit_of c w
  announced_credit None = refl
  announced_credit (Some r) = keeps_credit r.channel (channel_id c) Announced w.sender.readers (λ r. refl)

  announces_paid : (o : Option Reader) → IsPaid c w (announces w o)
  announces_paid None = stays replies.Nothing refl
  announces_paid (Some r) = nothing_paid c w (announces w (Some r)).0 (announces w (Some r)).1 refl (announced_credit (due_first w.sender)) refl

  pub announce_paid : IsPaid c w (step w events.Announce)
  announce_paid = announces_paid (due_first w.sender)

  -- ---- the receiving end

  delivers_paid : (frames : List DataFrame) → IsPaid c w (delivers w frames)
  delivers_paid [] = stays replies.Absent refl
  delivers_paid (Response d sequence p backlog ∷ frames) =
      nothing_paid c w (delivers w (Response d sequence p backlog ∷ frames)).0 (replies.Accepted d sequence) refl refl refl
  delivers_paid (Announcement d n ∷ frames) = nothing_paid c w (delivers w (Announcement d n ∷ frames)).0 (replies.Backlog d n) refl refl refl

  pub deliver_paid : IsPaid c w (step w events.Deliver)
  deliver_paid = delivers_paid w.frames

  told_there : (d n : ℕ) (b : Bool) → cond b (n + 0) 0 ≡ cond b n 0
  told_there d n true = omega arith
  told_there d n false = refl

  pub credit_paid : (d : ℕ) → IsPaid c w (step w (events.Credit d))
  credit_paid d =
      let n = told (lane_of w d).inbox.counts in
      let v : World = record (receives w d (entries.Credit n)) { controls = w.controls ++ AddCredit d n ∷ [] } in
      cond_both (eqb n 0) (w, replies.Absent) (v, replies.Credit d n) (IsPaid c w) (λ none. stays replies.Absent refl) (λ some.
      let more : credit_coming c v.controls ≡ credit_coming c w.controls + cond (eqb d c) n 0 = credit_coming-append c w.controls (AddCredit d n ∷ []) ∙ ap (λ k. credit_coming c w.controls + k) (told_there d n (eqb d c)) in
      record { sender = omega arith; controls = let e : credit_coming c w.controls + cond (eqb d c) n 0 ≡ 0 + credit_coming c v.controls = omega (arith, more) in e })

  pub resume_paid : (d : ℕ) → IsPaid c w (step w (events.Resume d))
  resume_paid d =
      let v : World = record (receives (receives w d entries.Ask) d entries.Resume) { controls = w.controls ++ Resumption d ∷ [] } in
      cond_both (eqb (lane_of w d).inbox.owed 0) (w, replies.Refused) (v, replies.Done) (IsPaid c w) (λ none. stays replies.Refused refl) (λ some.
      let same = credit_coming-append c w.controls (Resumption d ∷ []) in
      nothing_paid c w v replies.Done refl refl (omega (arith, same)))

  polls_paid_item : (d : ℕ) (hold : Bool) (given : Option Parcel) → IsPaid c w (polls_item w d hold given)
  polls_paid_item d hold None =
      elim (eqb (length (lane_of w d).inbox.queue) 0) as (λ b. IsPaid c w (w, cond b (replies.Empty d) (replies.Held d))) [
        | true ↦ stays (replies.Empty d) refl
        | false ↦ stays (replies.Held d) refl
      ]
  polls_paid_item d hold (Some (Data bytes)) = nothing_paid c w (polls_item w d hold (Some (Data bytes))).0 (polls_item w d hold (Some (Data bytes))).1 refl refl refl
  polls_paid_item d hold (Some (Barrier k kind)) = nothing_paid c w (polls_item w d hold (Some (Barrier k kind))).0 (replies.Barrier d k kind) refl refl refl
  polls_paid_item d hold (Some End) = nothing_paid c w (polls_item w d hold (Some End)).0 (replies.End d) refl refl refl

  pub polls_paid : (d : ℕ) (hold : Bool) → IsPaid c w (polls w d hold)
  polls_paid d hold = polls_paid_item d hold (poll_gives hold (lane_of w d).inbox.queue)

  pub save_paid : (d k : ℕ) → IsPaid c w (step w (events.Save d k))
  save_paid d k =
      let v = with_lane w d (saving k (lane_of w d)) in
      cond_both (is_no_save (lane_of w d) k) (w, replies.Refused) (v, replies.Done) (IsPaid c w) (λ none. stays replies.Refused refl) (λ may. nothing_paid c w v replies.Done refl refl refl)

  tells_paid : (d k : ℕ) (save : Option OpenSave) → IsPaid c w (tells_open w d k save)
  tells_paid d k None = stays replies.Refused refl
  tells_paid d k (Some save) =
      let inbox = (lane_of w d).inbox in
      let v = receives w d (entries.Saved k) in
      let bytes : Items ℕ = record { items = saved_bytes inbox save; room = 0 } in
      let done : World × Reply = (v, replies.SavedIn d k bytes) in
      let later : World × Reply = cond (ltb inbox.last k) (w, replies.NotYet d k) done in
      cond_both (not (eqb save.number k)) (w, replies.Refused) later (IsPaid c w) (λ other. stays replies.Refused refl) (λ this.
      cond_both (ltb inbox.last k) (w, replies.NotYet d k) done (IsPaid c w) (λ early. stays (replies.NotYet d k) refl) (λ came.
      nothing_paid c w v (replies.SavedIn d k bytes) refl refl refl))

  pub saved_paid : (d k : ℕ) → IsPaid c w (step w (events.Saved d k))
  saved_paid d k = tells_paid d k (lane_of w d).inbox.save

  pub pool_paid : IsPaid c w (step w events.Pool)
  pool_paid = nothing_paid c w w (step w events.Pool).1 refl refl refl

-- ---- credit comes

module _ (m : ℕ) (w : World) (sound : IsSound m w) (c : ℕ) (low : 1 ≤ c) (high : c ≤ m) where
  -- more credit comes to this reader, or to another
  grants_sender : (d n : ℕ) → 1 ≤ d → credit_of c w + cond (eqb d c) n 0 ≡ credit_in (reader_of (channel_id c) (after_at (channel_id d) (Granted n) w.sender.readers))
  grants_sender d n d_low =
      by_channel d c (λ b x. credit_of x w + cond b n 0 ≡ credit_in (reader_of (channel_id x) (after_at (channel_id d) (Granted n) w.sender.readers)))
      (λ is.
      let s = sound.each d d_low (omega (arith, is, high)) in
      let was : credit_of d w ≡ s.reader.credit = ap credit_in s.found in
      let now : credit_in (reader_of (channel_id d) (after_at (channel_id d) (Granted n) w.sender.readers)) ≡ s.reader.credit + n = ap credit_in (reader_here (channel_id d) (Granted n) w.sender.readers s.reader s.found) in
      omega (arith, was, now))
      (λ other.
      let same = ap credit_in (reader_there (channel_id d) (Granted n) w.sender.readers (channel_id c) (other_channel d c d_low low other)) in
      omega (arith, same))

  grants_coming : (d n k : ℕ) → cond (eqb d c) (n + k) k ≡ cond (eqb d c) n 0 + k
  grants_coming d n k = elim (eqb d c) as (λ b. cond b (n + k) k ≡ cond b n 0 + k) [ true ↦ refl | false ↦ omega arith ]

  obeys_paid : (fs : List ControlFrame) → w.controls ≡ fs → ControlsAreOfChannels m fs → IsPaid c w (obeys w fs)
  obeys_paid [] are of = stays w c replies.Absent refl
  obeys_paid (AddCredit d n ∷ fs) are of =
      let was : credit_coming c w.controls ≡ cond (eqb d c) n 0 + credit_coming c fs = ap (credit_coming c) are ∙ grants_coming d n (credit_coming c fs) in
      let v = (obeys w (AddCredit d n ∷ fs)).0 in
      let more : credit_of c w + cond (eqb d c) n 0 ≡ credit_of c v = grants_sender d n of.0 in
      record {
        sender = let e : credit_of c w + cond (eqb d c) n 0 ≡ 0 + credit_of c v = omega (arith, more) in e;
        controls = let e : credit_coming c w.controls + 0 ≡ cond (eqb d c) n 0 + credit_coming c fs = omega (arith, was) in e;
      }
  obeys_paid (Resumption d ∷ fs) are of =
      nothing_paid c w (obeys w (Resumption d ∷ fs)).0 (replies.Resumed d) refl (keeps_credit (channel_id d) (channel_id c) Resumed w.sender.readers (λ r. refl)) (sym (ap (credit_coming c) are))

  pub control_paid : IsPaid c w (step w events.Control)
  control_paid = obeys_paid w.controls refl sound.controls

  -- ---- data go

  -- what an item costs is paid from the credit that there is
  costs_one : (p : Parcel) → cost (sent_kind p) ≡ cond (is_buffer (sent_kind p)) 1 0
  costs_one (Data bytes) = refl
  costs_one (Barrier k Inline) = refl
  costs_one (Barrier k Front) = refl
  costs_one End = refl

  sends_sender : (d : ℕ) → 1 ≤ d → (r : Reader) → reader_of (channel_id d) w.sender.readers ≡ Some r → can_send r ≡ true → (p : Parcel) (items : List Parcel) → (lane_of w d).items ≡ p ∷ items
      → credit_of c w ≡ cond (eqb d c && is_buffer (sent_kind p)) 1 0 + credit_of c (sends_first w d (p ∷ items)).0
  sends_sender d d_low r found can p items are =
      let what = Sent (sent_kind p) (head_in items) (backlog_in items) in
      let v = (sends_first w d (p ∷ items)).0 in
      by_channel d c (λ b x. credit_of x w ≡ cond (b && is_buffer (sent_kind p)) 1 0 + credit_of x v)
      (λ is.
      let s = sound.each d d_low (omega (arith, is, high)) in
      let same : r ≡ s.reader = same_Some _ _ (sym found ∙ s.found) in
      let parts = can_send_parts s.reader (subst (λ t. can_send t ≡ true) same can) in
      let pays : cost (sent_kind p) ≤ s.reader.credit = costs p items s.reader.head s.reader.credit (s.sender.head_is ∙ ap head_in are) parts.goes in
      let was : credit_of d w ≡ s.reader.credit = ap credit_in s.found in
      let now : credit_of d v ≡ s.reader.credit - cost (sent_kind p) = ap credit_in (reader_here (channel_id d) what w.sender.readers s.reader s.found) in
      let one = costs_one p in
      let all : credit_of d w ≡ cond (is_buffer (sent_kind p)) 1 0 + credit_of d v = omega (arith, pays, was, now, one) in
      all)
      (λ other.
      let same : credit_of c v ≡ credit_of c w = ap credit_in (reader_there (channel_id d) what w.sender.readers (channel_id c) (other_channel d c d_low low other)) in
      let all : credit_of c w ≡ 0 + credit_of c v = omega (arith, same) in
      all)

  sends_first_paid : (d : ℕ) → 1 ≤ d → (r : Reader) → reader_of (channel_id d) w.sender.readers ≡ Some r → can_send r ≡ true → (items : List Parcel) → (lane_of w d).items ≡ items → IsPaid c w (sends_first w d items)
  sends_first_paid d d_low r found can [] are = stays w c replies.Nothing refl
  sends_first_paid d d_low r found can (p ∷ items) are =
      let v = (sends_first w d (p ∷ items)).0 in
      let paid = sends_sender d d_low r found can p items are in
      record {
        sender = let e : credit_of c w + 0 ≡ cond (eqb d c && is_buffer (sent_kind p)) 1 0 + credit_of c v = omega (arith, paid) in e;
        controls = let e : credit_coming c w.controls + 0 ≡ 0 + credit_coming c w.controls = omega arith in e;
      }

  sends_paid : (queue : List ChannelId) → w.sender.queue ≡ queue → IsPaid c w (sends_of w queue)
  sends_paid [] is = stays w c replies.Nothing refl
  sends_paid (id ∷ rest) is =
      let able = first_can_send w.sender id rest is sound.queue in
      let of = number_found 1 m w.sender.readers id able.0 (omega arith) sound.channels able.1 in
      let d = of.0 in
      let number : number_of id ≡ d = ap number_of of.3 ∙ (let low : 1 ≤ d = of.1 in omega arith) in
      subst (λ n. IsPaid c w (sends_first w n (lane_of w n).items)) (sym number)
      (sends_first_paid d of.1 able.0 (ap (λ i. reader_of i w.sender.readers) (sym of.3) ∙ able.1) able.2 (lane_of w d).items refl)

  pub send_paid : IsPaid c w (step w events.Send)
  send_paid = sends_paid w.sender.queue refl
