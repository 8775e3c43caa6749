-- What each event does to a world, and its reply. Which events there are and what they reply is this
-- project's own choice.
use Rattle.std.specs.Prelude.{ℕ, zero, suc, ◌+◌, ◌-◌, ◌==◌, ◌||◌, Bool, true, false, not, nat_lt, nat_le, is_some, min, List, [], ◌∷◌, ◌++◌, length, map, take, drop, replicate, if◌then◌else◌, Option, Some, None}
use Rattle.std.specs.Option.{option_map_or}
use Rattle.flow_defs.specs.Items.{Items}
use Rattle.flow_defs.specs.Records.{encoded}
use Rattle.flow_defs.specs.declared.task.ChannelId.{ChannelId}
use Rattle.flow_defs.specs.Parcels.{data_of}
use Rattle.flow_defs.specs.declared.task.BarrierKind.{BarrierKind}
use Rattle.flow_defs.specs.declared.task.BarrierKind.TheVariants.{Inline, Front}
use Rattle.flow_defs.specs.declared.parcel.Parcel.{Parcel}
use Rattle.flow_defs.specs.declared.parcel.Parcel.TheVariants as parcels
use Rattle.flow_defs.specs.Barriers.{is_barrier, behind_last}
use Rattle.subpartition.specs.Sending.{with_front}
use Rattle.credit_reader.specs.declared.reader.Reader.{Reader}
use Rattle.credit_reader.specs.declared.reader.SentKind.{SentKind}
use Rattle.credit_reader.specs.declared.reader.SentKind.TheVariants as sent
use Rattle.credit_reader.specs.Readers as readers
use Rattle.credit_reader.specs.Senders.{reader_of, happened, has_sent}
use Rattle.credit_reader.specs.Answers.{due_first, announced}
use Rattle.input_channel.specs.declared.entry.ReceiveEntry.{ReceiveEntry}
use Rattle.input_channel.specs.declared.entry.ReceiveEntry.TheVariants as entries
use Rattle.input_channel.specs.declared.entry.Gave.{Gave}
use Rattle.input_channel.specs.declared.entry.Gave.TheVariants as gaves
use Rattle.input_channel.specs.Inboxes.{poll_gives}
use Rattle.input_channel.specs.Counts.{wants, told, gave_by}
use Rattle.input_channel.specs.States.{ChannelState, OpenSave, channel_next, polled_barriers, saved_bytes}
use Rattle.script_text.specs.declared.event.Event.{Event}
use Rattle.script_text.specs.declared.event.Event.TheVariants as events
use Rattle.script_text.specs.declared.reply.Reply.{Reply}
use Rattle.script_text.specs.declared.reply.Reply.TheVariants as replies
use Rattle.exchange_world.specs.Lanes.{Lane, ITEMS_MAX, channel_id, backlog_in, head_in, content_len, records_in, behind_records, has_number, with_number}
use Rattle.exchange_world.specs.Worlds.{World, DataFrame, Response, Announcement, ControlFrame, AddCredit, Resumption, lane_of, with_lane, partition_limit, partition_lent, gate_limit, gate_lent, all_held, tells}

-- ---- the sending task

-- Bytes in pieces of this size, the last one as long as what is left, and no more than so many of them.
abbrev pub pieces_within : ℕ → ℕ → List ℕ → List (List ℕ)
pieces_within zero size bytes = []
pieces_within (suc most) size [] = []
pieces_within (suc most) size (b ∷ bytes) = take size (b ∷ bytes) ∷ pieces_within most size (drop size (b ∷ bytes))

-- All the pieces.
abbrev pub pieces : ℕ → List ℕ → List (List ℕ)
pieces size bytes = pieces_within (length bytes) size bytes

-- The buffers of a record.
abbrev pub buffers_of : World → List ℕ → List Parcel
buffers_of w text = map parcels.Data (pieces w.size (encoded text))

-- The channel with these items behind the others; and the world where one has got them and the sender is told.
abbrev pub with_items : Lane → List Parcel → Lane
with_items lane items = record lane { items = lane.items ++ items }

abbrev pub puts : World → ℕ → Lane → World
puts w c lane = tells (with_lane w c lane) c

-- A record is put whole, where the channel isn't finished, its pool has a segment for each of the record's
-- buffers, and its subpartition room for them.
abbrev pub emits : World → ℕ → List ℕ → World × Reply
emits w c text =
    let lane = lane_of w c in
    let buffers = buffers_of w text in
    if lane.finished then (w, replies.Refused)
    else if nat_lt (partition_limit w) (partition_lent lane + length buffers) || nat_lt ITEMS_MAX (length lane.items + length buffers) then (w, replies.Full)
    else (puts w c (with_items lane buffers), replies.Queued c (partition_lent lane + length buffers))

-- The channel with a barrier: an inline one comes behind all others, a front one before the data behind the last barrier.
abbrev pub barred : ℕ → BarrierKind → Lane → Lane
barred k Inline lane = record (with_items lane (parcels.Barrier k Inline ∷ [])) { barriers = k }
barred k Front lane = record lane { items = with_front k lane.items; barriers = k }

-- What is replied to it: a front barrier tells the data that it overtakes.
abbrev pub bar_reply : ℕ → ℕ → BarrierKind → Lane → Reply
bar_reply c k Inline lane = replies.Done
bar_reply c k Front lane = replies.SavedOut c k (record { items = data_of (behind_last is_barrier lane.items); room = 0 })

-- A barrier is put, where it has the next number and there is room for it.
abbrev pub bars : World → ℕ → ℕ → BarrierKind → World × Reply
bars w c k kind =
    let lane = lane_of w c in
    if lane.finished || not (k == suc lane.barriers) then (w, replies.Refused)
    else if nat_lt (length lane.items) ITEMS_MAX then (puts w c (barred k kind lane), bar_reply c k kind lane)
    else (w, replies.Full)

-- The end is put, where there is room for it.
abbrev pub finishes : World → ℕ → World × Reply
finishes w c =
    let lane = lane_of w c in
    if lane.finished then (w, replies.Refused)
    else if nat_lt (length lane.items) ITEMS_MAX then (puts w c (record (with_items lane (parcels.End ∷ [])) { finished = true }), replies.Done)
    else (w, replies.Full)

-- ---- the sending end

-- The number of a channel, from 1 on.
abbrev pub number_of : ChannelId → ℕ
number_of id = suc id.from

-- What is sent where this item is.
abbrev pub sent_kind : Parcel → SentKind
sent_kind (parcels.Data bytes) = sent.Buffer
sent_kind (parcels.Barrier k Inline) = sent.Inline
sent_kind (parcels.Barrier k Front) = sent.Front
sent_kind parcels.End = sent.End

-- The number of the next item of a channel.
abbrev pub sequence_of : World → ℕ → ℕ
sequence_of w c = option_map_or (λ (r : Reader). r.sequence) (reader_of (channel_id c) w.sender.readers) 0

-- The first of these items of a channel is sent.
abbrev pub sends_first : World → ℕ → List Parcel → World × Reply
sends_first w c [] = (w, replies.Nothing)
sends_first w c (p ∷ items) = (
  record (with_lane w c (record (lane_of w c) { items = items })) {
    sender = has_sent (channel_id c) (sent_kind p) (head_in items) (backlog_in items) w.sender;
    frames = w.frames ++ Response c (sequence_of w c) p (backlog_in items) ∷ [];
  },
  replies.Frame c (sequence_of w c) (sent_kind p) (content_len p) (backlog_in items),
)

-- The first channel of the queue sends one item.
abbrev pub sends_of : World → List ChannelId → World × Reply
sends_of w [] = (w, replies.Nothing)
sends_of w (id ∷ ids) = sends_first w (number_of id) (lane_of w (number_of id)).items

-- The backlog of a reader is announced, where there is one for which that is due.
abbrev pub announces : World → Option Reader → World × Reply
announces w None = (w, replies.Nothing)
announces w (Some r) =
    (record w { sender = announced w.sender; frames = w.frames ++ Announcement (number_of r.channel) r.backlog ∷ [] }, replies.Announced (number_of r.channel) r.backlog)

-- The first of these control frames is obeyed.
abbrev pub obeys : World → List ControlFrame → World × Reply
obeys w [] = (w, replies.Absent)
obeys w (AddCredit c n ∷ controls) = (record w { sender = happened (channel_id c) (readers.Granted n) w.sender; controls = controls }, replies.Granted c n)
obeys w (Resumption c ∷ controls) = (record w { sender = happened (channel_id c) readers.Resumed w.sender; controls = controls }, replies.Resumed c)

-- ---- the receiving end

-- A channel's receiving end takes an entry, or several.
abbrev pub receives : World → ℕ → ReceiveEntry → World
receives w c e = with_lane w c (record (lane_of w c) { inbox = channel_next (lane_of w c).inbox e })

abbrev pub after_all : ChannelState → List ReceiveEntry → ChannelState
after_all inbox [] = inbox
after_all inbox (e ∷ es) = after_all (channel_next inbox e) es

-- How many floating buffers a channel gets: as many as it wants, as far as the gate's pool lends them.
abbrev pub gets : World → ℕ → ℕ
gets w c = min (wants (lane_of w c).inbox.room (lane_of w c).inbox.counts) (gate_limit w - gate_lent w)

-- A channel asks for floating buffers.
abbrev pub asks : World → ℕ → World
asks w c = with_lane w c (record (lane_of w c) { inbox = after_all (lane_of w c).inbox (replicate (gets w c) entries.Added) })

-- The first of these data frames is given to its channel, which then asks for floating buffers.
abbrev pub delivers : World → List DataFrame → World × Reply
delivers w [] = (w, replies.Absent)
delivers w (Response c sequence p backlog ∷ frames) = (asks (receives (record w { frames = frames }) c (entries.Push p backlog)) c, replies.Accepted c sequence)
delivers w (Announcement c n ∷ frames) = (asks (receives (record w { frames = frames }) c (entries.Backlog n)) c, replies.Backlog c n)

-- A channel's pending credit is announced.
abbrev pub credits : World → ℕ → World × Reply
credits w c =
    let n = told (lane_of w c).inbox.counts in
    if n == 0 then (w, replies.Absent)
    else (record (receives w c (entries.Credit n)) { controls = w.controls ++ AddCredit c n ∷ [] }, replies.Credit c n)

-- A channel of which an inline barrier was polled is resumed.
abbrev pub resumes : World → ℕ → World × Reply
resumes w c =
    if (lane_of w c).inbox.owed == 0 then (w, replies.Refused)
    else (record (receives (receives w c entries.Ask) c entries.Resume) { controls = w.controls ++ Resumption c ∷ [] }, replies.Done)

-- ---- the receiving task

-- Records as a reply has them.
abbrev pub listed : List (List ℕ) → Items (Items ℕ)
listed records = record { items = map (λ r. let bytes : Items ℕ = record { items = r; room = 0 } in bytes) records; room = 0 }

abbrev pub is_exclusive : Gave → Bool
is_exclusive gaves.NoBuffer = false
is_exclusive gaves.Exclusive = true
is_exclusive gaves.Floating = false

-- A buffer is read and comes back, and the channel asks for floating buffers.
abbrev pub reads : World → ℕ → Bool → List ℕ → World × Reply
reads w c hold bytes =
    let lane = lane_of w c in
    let gave = gave_by (Some (parcels.Data bytes)) lane.inbox.counts.held in
    let inbox = channel_next (channel_next lane.inbox (entries.Poll hold gave)) (entries.Returned (is_exclusive gave)) in
    (asks (with_lane w c (record lane { inbox = inbox; rest = behind_records (lane.rest ++ bytes) })) c, replies.Data c (length bytes) (listed (records_in (lane.rest ++ bytes))))

-- What a poll gives is told.
abbrev pub polls_item : World → ℕ → Bool → Option Parcel → World × Reply
polls_item w c hold None = (w, if length (lane_of w c).inbox.queue == 0 then replies.Empty c else replies.Held c)
polls_item w c hold (Some (parcels.Data bytes)) = reads w c hold bytes
polls_item w c hold (Some (parcels.Barrier k kind)) = (receives w c (entries.Poll hold gaves.NoBuffer), replies.Barrier c k kind)
polls_item w c hold (Some parcels.End) = (receives w c (entries.Poll hold gaves.NoBuffer), replies.End c)

abbrev pub polls : World → ℕ → Bool → World × Reply
polls w c hold = polls_item w c hold (poll_gives hold (lane_of w c).inbox.queue)

-- ---- saves

-- A save may not be opened for barrier k while one is open, or once one was opened for it; nor before the barrier
-- before it was polled, or once data behind it were.
abbrev pub is_no_save : Lane → ℕ → Bool
is_no_save lane k = is_some lane.inbox.save || has_number k lane.saves || nat_lt (suc (polled_barriers lane.inbox)) k || nat_le k lane.inbox.reached

-- The channel with a save that was opened for barrier k, with the bytes of the record that isn't whole.
abbrev pub saving : ℕ → Lane → Lane
saving k lane = record lane { inbox = channel_next lane.inbox (entries.Save k lane.rest); saves = with_number k lane.saves }

abbrev pub saves : World → ℕ → ℕ → World × Reply
saves w c k = if is_no_save (lane_of w c) k then (w, replies.Refused) else (with_lane w c (saving k (lane_of w c)), replies.Done)

-- What was saved for barrier k is told once that has arrived, where this is the open save.
abbrev pub tells_open : World → ℕ → ℕ → Option OpenSave → World × Reply
tells_open w c k None = (w, replies.Refused)
tells_open w c k (Some save) =
    let inbox = (lane_of w c).inbox in
    if not (save.number == k) then (w, replies.Refused)
    else if nat_lt inbox.last k then (w, replies.NotYet c k)
    else (receives w c (entries.Saved k), replies.SavedIn c k (record { items = saved_bytes inbox save; room = 0 }))

abbrev pub tells_saved : World → ℕ → ℕ → World × Reply
tells_saved w c k = tells_open w c k (lane_of w c).inbox.save

-- ---- all

-- What an event does, and what it replies.
abbrev pub step : World → Event → World × Reply
step w (events.Emit c text) = emits w c text.items
step w (events.Fill c n) = emits w c (replicate n 97)
step w (events.Barrier c k kind) = bars w c k kind
step w (events.Finish c) = finishes w c
step w events.Send = sends_of w w.sender.queue
step w events.Announce = announces w (due_first w.sender)
step w events.Deliver = delivers w w.frames
step w (events.Credit c) = credits w c
step w (events.Resume c) = resumes w c
step w events.Control = obeys w w.controls
step w (events.Poll c) = polls w c false
step w (events.Hold c) = polls w c true
step w (events.Save c k) = saves w c k
step w (events.Saved c k) = tells_saved w c k
step w events.Pool = (w, replies.Pool (w.total - all_held w) (all_held w))

-- The world after a list of events, and their replies.
abbrev pub after_events : World → List Event → World
after_events w [] = w
after_events w (e ∷ es) = after_events (step w e).0 es

abbrev pub replies_to : World → List Event → List Reply
replies_to w [] = []
replies_to w (e ∷ es) = (step w e).1 ∷ replies_to (step w e).0 es

-- A reply, whatever the room is that its records or its bytes have for more.
abbrev pub bare : Reply → Reply
bare (replies.Data c len records) = replies.Data c len (listed (map (λ (r : Items ℕ). r.items) records.items))
bare (replies.SavedOut c k bytes) = replies.SavedOut c k (record { items = bytes.items; room = 0 })
bare (replies.SavedIn c k bytes) = replies.SavedIn c k (record { items = bytes.items; room = 0 })
bare reply = reply
