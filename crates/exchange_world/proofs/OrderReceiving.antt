-- What the events of the receiving end and of the receiving task do to the bytes of a channel.
use Rattle.std.proofs.Common.{◌≡◌, ℕ, ◌≤◌, eqb, ltb, true, false, not, cond, Bool, List, [], ◌∷◌, ◌++◌, length, map, Option, Some, None, refl, sym, ap, subst, ◌∙◌, append_assoc, append-nil, arith}
use Rattle.std.proofs.lemmas.Bool.{cond_both}
use Rattle.flow_defs.proofs.ParcelLemmas.{data_of-append}
use Rattle.flow_defs.specs.Items.{Items}
use Rattle.flow_defs.specs.declared.parcel.Parcel.{Parcel}
use Rattle.flow_defs.specs.declared.parcel.Parcel.TheVariants.{Data, Barrier, End}
use Rattle.flow_defs.specs.Parcels.{data_of}
use Rattle.input_channel.specs.declared.entry.Gave.{Gave}
use Rattle.input_channel.specs.declared.entry.Gave.TheVariants.{NoBuffer}
use Rattle.input_channel.specs.declared.entry.ReceiveEntry.{ReceiveEntry}
use Rattle.input_channel.specs.declared.entry.ReceiveEntry.TheVariants as entries
use Rattle.input_channel.specs.Inboxes.{poll_gives, poll_leaves}
use Rattle.input_channel.specs.Counts.{told, gave_by}
use Rattle.input_channel.specs.States.{ChannelState, OpenSave, channel_next, saved_bytes}
use Rattle.script_text.specs.declared.event.Event.TheVariants as events
use Rattle.script_text.specs.declared.reply.Reply.{Reply}
use Rattle.script_text.specs.declared.reply.Reply.TheVariants as replies
use Rattle.exchange_world.specs.Lanes.{Lane, records_in, behind_records}
use Rattle.exchange_world.specs.Worlds.{World, DataFrame, Response, Announcement, AddCredit, Resumption, lane_of, with_lane}
use Rattle.exchange_world.specs.Steps.{step, receives, delivers, listed, is_exclusive, reads, polls, polls_item, is_no_save, saving, tells_open}
use Rattle.exchange_world.specs.Theorems.{polled_in, bytes_in}
use Rattle.exchange_world.specs.Sound.{AreOfChannels, responses, coming}
use Rattle.exchange_world.proofs.LaneLemmas.{lane_put, lane_stays, lanes_stay}
use Rattle.exchange_world.proofs.ReceivingWays.{response_here, response_there}
use Rattle.exchange_world.proofs.ReceivingPolls.{takes}
use Rattle.exchange_world.proofs.OrderMoves.{Reads, reads_records, waits, waits_of, Moves, MovesNone, IsQuiet, quiet, quiet_twice, quiet_there, moves_none, moves_then, by_channel, lane_quiet, asks_quiet}

-- the records of a reply are those that it lists
pub listed_records : (rs : List (List ℕ)) → map (λ (r : Items ℕ). r.items) (listed rs).items ≡ rs
listed_records [] = refl
listed_records (r ∷ rs) = ap (λ xs. r ∷ xs) (listed_records rs)

module _ (w : World) (c : ℕ) (low : 1 ≤ c) (high : c ≤ length w.lanes) where
  -- ---- a data frame arrives

  arrived_here : (d sequence backlog : ℕ) (p : Parcel) (frames : List DataFrame) → w.frames ≡ Response d sequence p backlog ∷ frames → 1 ≤ d → d ≡ c
      → IsQuiet d w (receives (record w { frames = frames }) d (entries.Push p backlog))
  arrived_here d sequence backlog p frames are d_low is =
      let lane = lane_of w d in
      let now : Lane = record lane { inbox = channel_next lane.inbox (entries.Push p backlog) } in
      let v = receives (record w { frames = frames }) d (entries.Push p backlog) in
      let there : lane_of v d ≡ now = lane_put (record w { frames = frames }) d now d_low (omega (arith, is, high)) in
      let way : coming d w ≡ p ∷ coming d v = ap (λ fs. map (λ (r : ℕ × Parcel). r.1) (responses d fs)) are ∙ ap (map (λ (r : ℕ × Parcel). r.1)) (response_here d sequence backlog p frames) in
      record {
        waits_are = ap (λ (l : Lane). waits l (coming d v)) there
            ∙ ap (λ xs. xs ++ (data_of (coming d v) ++ data_of lane.items)) (data_of-append lane.inbox.queue (p ∷ []))
            ∙ append_assoc (data_of lane.inbox.queue) (data_of (p ∷ [])) (data_of (coming d v) ++ data_of lane.items)
            ∙ ap (λ xs. data_of lane.inbox.queue ++ xs) (sym (append_assoc (data_of (p ∷ [])) (data_of (coming d v)) (data_of lane.items)) ∙ ap (λ xs. xs ++ data_of lane.items) (sym (data_of-append (p ∷ []) (coming d v)) ∙ ap data_of (sym way)));
        rest_is = ap (λ (l : Lane). l.rest) there;
      }

  arrived : (d sequence backlog : ℕ) (p : Parcel) (frames : List DataFrame) → w.frames ≡ Response d sequence p backlog ∷ frames → 1 ≤ d
      → IsQuiet c w (receives (record w { frames = frames }) d (entries.Push p backlog))
  arrived d sequence backlog p frames are d_low =
      let v = receives (record w { frames = frames }) d (entries.Push p backlog) in
      by_channel d c (λ b x. IsQuiet x w v) (λ is. arrived_here d sequence backlog p frames are d_low is) (λ other.
      quiet_there c w v (lane_stays (record w { frames = frames }) d (record (lane_of w d) { inbox = channel_next (lane_of w d).inbox (entries.Push p backlog) }) d_low c low other)
      (sym (ap (responses c) are ∙ response_there c d sequence backlog p frames other)))

  -- an entry that keeps what waits
  receives_quiet : (d : ℕ) (e : ReceiveEntry) → 1 ≤ d → (channel_next (lane_of w d).inbox e).queue ≡ (lane_of w d).inbox.queue → IsQuiet c w (receives w d e)
  receives_quiet d e d_low queue = lane_quiet w d (record (lane_of w d) { inbox = channel_next (lane_of w d).inbox e }) c d_low low high (ap data_of queue) refl refl

module _ (m : ℕ) (w : World) (c : ℕ) (low : 1 ≤ c) (high : c ≤ length w.lanes) where
  delivers_moves : (frames : List DataFrame) → w.frames ≡ frames → AreOfChannels m frames → MovesNone c w (delivers w frames)
  delivers_moves [] are of = moves_none c w w (quiet c w)
  delivers_moves (Response d sequence p backlog ∷ frames) are of =
      let u = receives (record w { frames = frames }) d (entries.Push p backlog) in
      let v = (delivers w (Response d sequence p backlog ∷ frames)).0 in
      moves_none c w v (quiet_twice c w u v (arrived w c low high d sequence backlog p frames are of.0)
      (asks_quiet u d c of.0 low (let same = lanes_stay w d (record (lane_of w d) { inbox = channel_next (lane_of w d).inbox (entries.Push p backlog) }) in omega (arith, same, high))))
  delivers_moves (Announcement d n ∷ frames) are of =
      let w0 : World = record w { frames = frames } in
      let u = receives w0 d (entries.Backlog n) in
      let v = (delivers w (Announcement d n ∷ frames)).0 in
      moves_none c w v (quiet_twice c w w0 v (quiet_there c w w0 refl (sym (ap (responses c) are)))
      (quiet_twice c w0 u v (receives_quiet w0 c low high d (entries.Backlog n) of.0 refl)
      (asks_quiet u d c of.0 low (let same = lanes_stay w d (record (lane_of w d) { inbox = channel_next (lane_of w d).inbox (entries.Backlog n) }) in omega (arith, same, high)))))

  pub deliver_moves : AreOfChannels m w.frames → MovesNone c w (step w events.Deliver)
  deliver_moves of = delivers_moves w.frames refl of

module _ (w : World) (c : ℕ) (low : 1 ≤ c) (high : c ≤ length w.lanes) (d : ℕ) (d_low : 1 ≤ d) where
  -- ---- credit is announced, and a channel is resumed

  pub credit_moves : MovesNone c w (step w (events.Credit d))
  credit_moves =
      let n = told (lane_of w d).inbox.counts in
      let v : World = record (receives w d (entries.Credit n)) { controls = w.controls ++ AddCredit d n ∷ [] } in
      cond_both (eqb n 0) (w, replies.Absent) (v, replies.Credit d n) (MovesNone c w) (λ none. moves_none c w w (quiet c w)) (λ some.
      let q = receives_quiet w c low high d (entries.Credit n) d_low refl in
      moves_none c w v (record { waits_are = q.waits_are; rest_is = q.rest_is }))

  pub resume_moves : MovesNone c w (step w (events.Resume d))
  resume_moves =
      let u = receives w d entries.Ask in
      let v : World = record (receives u d entries.Resume) { controls = w.controls ++ Resumption d ∷ [] } in
      let asked = lanes_stay w d (record (lane_of w d) { inbox = channel_next (lane_of w d).inbox entries.Ask }) in
      cond_both (eqb (lane_of w d).inbox.owed 0) (w, replies.Refused) (v, replies.Done) (MovesNone c w) (λ none. moves_none c w w (quiet c w)) (λ some.
      let q = quiet_twice c w u (receives u d entries.Resume) (receives_quiet w c low high d entries.Ask d_low refl) (receives_quiet u c low (omega (arith, asked, high)) d entries.Resume d_low refl) in
      moves_none c w v (record { waits_are = q.waits_are; rest_is = q.rest_is }))

  -- ---- what waits is polled

  -- A world and a reply, where these bytes are polled on channel d.
  abbrev MovesPolled : List ℕ → World × Reply → Type 0
  MovesPolled out p = Moves c w p.0 [] (cond (eqb d c) out []) (polled_in c p.1)

  polled_none : (reply : Reply) (v : World) → IsQuiet c w v → polled_in c reply ≡ [] → MovesPolled [] (v, reply)
  polled_none reply v q none =
      subst (λ rs. Moves c w v [] (cond (eqb d c) [] []) rs) (sym none)
      (elim (eqb d c) as (λ b. Moves c w v [] (cond b [] []) []) [ true ↦ moves_none c w v q | false ↦ moves_none c w v q ])

  -- a channel of which a poll took what has no data
  event_moves : (hold : Bool) (p : Parcel) (reply : Reply) → poll_gives hold (lane_of w d).inbox.queue ≡ Some p → data_of (p ∷ []) ≡ [] → polled_in c reply ≡ [] → MovesPolled [] (receives w d (entries.Poll hold NoBuffer), reply)
  event_moves hold p reply gives no_data none =
      let queue = (lane_of w d).inbox.queue in
      polled_none reply (receives w d (entries.Poll hold NoBuffer))
      (lane_quiet w d (record (lane_of w d) { inbox = channel_next (lane_of w d).inbox (entries.Poll hold NoBuffer) }) c d_low low high
      (sym ((takes hold queue p gives).data_are ∙ ap (λ xs. xs ++ data_of (poll_leaves hold queue)) no_data)) refl refl) none

  -- a channel of which a buffer was read
  abbrev read_lane : Bool → List ℕ → Lane
  read_lane hold bytes =
      let lane = lane_of w d in
      let gave = gave_by (Some (Data bytes)) lane.inbox.counts.held in
      record lane { inbox = channel_next (channel_next lane.inbox (entries.Poll hold gave)) (entries.Returned (is_exclusive gave)); rest = behind_records (lane.rest ++ bytes) }

  queue_left : (inbox : ChannelState) (hold : Bool) (gave : Gave) (exclusive : Bool) → (channel_next (channel_next inbox (entries.Poll hold gave)) (entries.Returned exclusive)).queue ≡ poll_leaves hold inbox.queue
  queue_left inbox hold gave exclusive = refl

  reads_here : (hold : Bool) (bytes : List ℕ) → poll_gives hold (lane_of w d).inbox.queue ≡ Some (Data bytes) → d ≡ c
      → Moves d w (with_lane w d (read_lane hold bytes)) [] bytes (map (λ (r : Items ℕ). r.items) (listed (records_in ((lane_of w d).rest ++ bytes))).items)
  reads_here hold bytes gives is =
      let lane = lane_of w d in
      let now = read_lane hold bytes in
      let there = lane_put w d now d_low (omega (arith, is, high)) in
      let left = data_of (poll_leaves hold lane.inbox.queue) in
      let behind = data_of (coming d w) ++ data_of lane.items in
      let first : data_of lane.inbox.queue ≡ bytes ++ left = (takes hold lane.inbox.queue (Data bytes) gives).data_are ∙ ap (λ xs. xs ++ left) (append-nil bytes) in
      record {
        account = append-nil (waits_of d w) ∙ ap (λ xs. xs ++ behind) first ∙ append_assoc bytes left behind ∙ ap (λ (l : Lane). bytes ++ waits l (coming d w)) (sym there);
        reads = subst (λ (l : Lane). Reads lane.rest l.rest bytes (map (λ (r : Items ℕ). r.items) (listed (records_in (lane.rest ++ bytes))).items)) (sym there)
            (subst (λ rs. Reads lane.rest now.rest bytes rs) (sym (listed_records (records_in (lane.rest ++ bytes)))) (reads_records lane.rest bytes));
        short = tt;
      }

  reads_moves : (hold : Bool) (bytes : List ℕ) → poll_gives hold (lane_of w d).inbox.queue ≡ Some (Data bytes) → MovesPolled bytes (reads w d hold bytes)
  reads_moves hold bytes gives =
      let now = read_lane hold bytes in
      let u = with_lane w d now in
      let records = map (λ (r : Items ℕ). r.items) (listed (records_in ((lane_of w d).rest ++ bytes))).items in
      moves_then c w u (reads w d hold bytes).0 [] (cond (eqb d c) bytes []) (cond (eqb d c) records [])
      (by_channel d c (λ b x. Moves x w u [] (cond b bytes []) (cond b records [])) (λ is. reads_here hold bytes gives is) (λ other. moves_none c w u (quiet_there c w u (lane_stays w d now d_low c low other) refl)))
      (asks_quiet u d c d_low low (omega (arith, lanes_stay w d now, high)))

  polls_moves_item : (hold : Bool) (given : Option Parcel) → poll_gives hold (lane_of w d).inbox.queue ≡ given → MovesPolled (bytes_in given) (polls_item w d hold given)
  polls_moves_item hold None gives =
      elim (eqb (length (lane_of w d).inbox.queue) 0) as (λ b. MovesPolled [] (w, cond b (replies.Empty d) (replies.Held d))) [
        | true ↦ polled_none (replies.Empty d) w (quiet c w) refl
        | false ↦ polled_none (replies.Held d) w (quiet c w) refl
      ]
  polls_moves_item hold (Some (Data bytes)) gives = reads_moves hold bytes gives
  polls_moves_item hold (Some (Barrier k kind)) gives = event_moves hold (Barrier k kind) (replies.Barrier d k kind) gives refl refl
  polls_moves_item hold (Some End) gives = event_moves hold End (replies.End d) gives refl refl

  pub polls_moves : (hold : Bool) → MovesPolled (bytes_in (poll_gives hold (lane_of w d).inbox.queue)) (polls w d hold)
  polls_moves hold = polls_moves_item hold (poll_gives hold (lane_of w d).inbox.queue) refl

  -- ---- a save is opened, and closed

  pub save_moves : (k : ℕ) → MovesNone c w (step w (events.Save d k))
  save_moves k =
      let now = saving k (lane_of w d) in
      let done : World × Reply = (with_lane w d now, replies.Done) in
      cond_both (is_no_save (lane_of w d) k) (w, replies.Refused) done (MovesNone c w) (λ none. moves_none c w w (quiet c w)) (λ may.
      moves_none c w (with_lane w d now) (lane_quiet w d now c d_low low high refl refl refl))

  tells_moves : (k : ℕ) (save : Option OpenSave) → MovesNone c w (tells_open w d k save)
  tells_moves k None = moves_none c w w (quiet c w)
  tells_moves k (Some save) =
      let inbox = (lane_of w d).inbox in
      let v = receives w d (entries.Saved k) in
      let bytes : Items ℕ = record { items = saved_bytes inbox save; room = 0 } in
      let done : World × Reply = (v, replies.SavedIn d k bytes) in
      let later : World × Reply = cond (ltb inbox.last k) (w, replies.NotYet d k) done in
      cond_both (not (eqb save.number k)) (w, replies.Refused) later (MovesNone c w) (λ other. moves_none c w w (quiet c w)) (λ this.
      cond_both (ltb inbox.last k) (w, replies.NotYet d k) done (MovesNone c w) (λ early. moves_none c w w (quiet c w)) (λ came.
      moves_none c w v (receives_quiet w c low high d (entries.Saved k) d_low refl)))

  pub saved_moves : (k : ℕ) → MovesNone c w (step w (events.Saved d k))
  saved_moves k = tells_moves k (lane_of w d).inbox.save
