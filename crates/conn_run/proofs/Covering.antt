-- From the credit that was announced to the data that arrive, one step after another.
use Rattle.std.proofs.Common.{◌≡◌, ◌≢◌, ℕ, suc, ◌+◌, ◌<◌, ◌≤◌, ◌⊎◌, inl, inr, Bool, true, false, cond, List, [], ◌∷◌, ◌++◌, length, map, flat_map, refl, sym, ap, subst, ◌∙◌, arith}
use Rattle.std.specs.Prelude.{count_by, sum_by, slice_get, slice_index_or, All}
use Rattle.std.proofs.lemmas.List.Elements.{All-head, All-tail}
use Rattle.std.proofs.lemmas.List.Sums.{sum_by-append, sum_by-cons}
use Rattle.std.proofs.lemmas.Option.{same_Some}
use Rattle.turn_cell.specs.History.{StartsWith, entries_of}
use Rattle.flow_defs.specs.declared.task.ChannelId.{ChannelId}
use Rattle.flow_defs.specs.declared.task.BarrierKind.TheVariants as barrier
use Rattle.flow_defs.specs.declared.parcel.Parcel.{Parcel}
use Rattle.flow_defs.specs.declared.parcel.Parcel.TheVariants.{Data, Barrier, End}
use Rattle.flow_defs.specs.Parcels.{is_data}
use Rattle.credit_reader.specs.declared.reader.SentKind.{SentKind}
use Rattle.credit_reader.specs.Senders.{AreDistinct, is_same}
use Rattle.credit_reader.proofs.Channels.{same_channel, is_other}
use Rattle.net_frames.specs.declared.frame.Frame.TheVariants.{BufferResponse, ErrorResponse, PartitionRequest, Close, AddCredit, ResumeConsumption, BacklogAnnouncement, NewBufferSize}
use Rattle.reader_state.specs.declared.entry.ReaderEntry.{ReaderEntry}
use Rattle.reader_state.specs.Standing as readers
use Rattle.reader_state.specs.Theorems as laws
use Rattle.input_channel.specs.Inboxes.{pushed}
use Rattle.conn_parts.specs.Shares.{mine_at}
use Rattle.conn_parts.specs.Messages.{Message, is_from_sender, is_from_receiver, items_on, credit_in, credit_on, is_request, requests_of}
use Rattle.conn_parts.specs.Theorems.{ReadIsWritten, FrontsCarryFronts}
use Rattle.conn_send_items.specs.Sending.{sent_kind}
use Rattle.conn_read_control.specs.Controlling.{entries_in}
use Rattle.conn_send_control.specs.Announcing.{BeginsWithRequests}
use Rattle.conn_run.specs.Theorems.{CreditCoversData}
use Rattle.conn_run.proofs.Arriving.{front_sent}

-- ---- data

kinds_of_data : (p : Parcel) → laws.is_data (sent_kind p) ≡ is_data p
kinds_of_data (Data bytes) = refl
kinds_of_data (Barrier k barrier.Inline) = refl
kinds_of_data (Barrier k barrier.Front) = refl
kinds_of_data End = refl

data_told : (ps : List Parcel) → count_by laws.is_data (map sent_kind ps) ≡ count_by is_data ps
data_told [] = refl
data_told (p ∷ ps) =
    sum_by-cons (λ (k : SentKind). cond (laws.is_data k) 1 0) (sent_kind p) (map sent_kind ps)
    ∙ ap (λ b. cond b 1 0 + count_by laws.is_data (map sent_kind ps)) (kinds_of_data p)
    ∙ ap (λ n. cond (is_data p) 1 0 + n) (data_told ps)
    ∙ sym (sum_by-cons (λ (q : Parcel). cond (is_data q) 1 0) p ps)

count_front : (xs ys : List Parcel) → StartsWith xs ys → count_by is_data ys ≤ count_by is_data xs
count_front xs ys s =
    let whole : count_by is_data xs ≡ count_by is_data ys + count_by is_data s.0 = ap (count_by is_data) s.1 ∙ sum_by-append (λ (p : Parcel). cond (is_data p) 1 0) ys s.0 in
    omega arith

-- ---- credit, with that of requests

abbrev request_in : ChannelId → Message → ℕ
request_in c (BufferResponse channel sequence backlog what, content) = 0
request_in c (ErrorResponse channel code, content) = 0
request_in c (PartitionRequest channel credit, content) = cond (is_same channel c) credit 0
request_in c (Close, content) = 0
request_in c (AddCredit channel credit, content) = 0
request_in c (ResumeConsumption channel, content) = 0
request_in c (BacklogAnnouncement channel backlog, content) = 0
request_in c (NewBufferSize channel size, content) = 0

abbrev requested : ChannelId → List Message → ℕ
requested c ms = sum_by (request_in c) ms

credit_more : (c : ChannelId) (es : List ReaderEntry) (m : Message) → readers.credit_on c (entries_in m ++ es) ≡ request_in c m + credit_in c m + readers.credit_on c es
credit_more c es (BufferResponse channel sequence backlog what, content) = omega arith
credit_more c es (ErrorResponse channel code, content) = omega arith
credit_more c es (PartitionRequest channel credit, content) = elim (is_same channel c) as (λ b. cond b (credit + readers.credit_on c es) (readers.credit_on c es) ≡ cond b credit 0 + 0 + readers.credit_on c es) [
  | true ↦ omega arith
  | false ↦ omega arith
]
credit_more c es (Close, content) = omega arith
credit_more c es (AddCredit channel credit, content) = elim (is_same channel c) as (λ b. cond b (credit + readers.credit_on c es) (readers.credit_on c es) ≡ 0 + cond b credit 0 + readers.credit_on c es) [
  | true ↦ omega arith
  | false ↦ omega arith
]
credit_more c es (ResumeConsumption channel, content) = omega arith
credit_more c es (BacklogAnnouncement channel backlog, content) = omega arith
credit_more c es (NewBufferSize channel size, content) = omega arith

not_asked : (c : ChannelId) (m : Message) → is_request m.0 ≡ false → request_in c m ≡ 0
not_asked c (BufferResponse channel sequence backlog what, content) none = refl
not_asked c (ErrorResponse channel code, content) none = refl
not_asked c (PartitionRequest channel credit, content) none = absurd (cc)
not_asked c (Close, content) none = refl
not_asked c (AddCredit channel credit, content) none = refl
not_asked c (ResumeConsumption channel, content) none = refl
not_asked c (BacklogAnnouncement channel backlog, content) none = refl
not_asked c (NewBufferSize channel size, content) none = refl

-- What the readers were told is what the messages carry.
credit_heard : (c : ChannelId) (ms : List Message) → readers.credit_on c (flat_map entries_in ms) ≡ requested c ms + credit_on c ms
credit_heard c [] = omega arith
credit_heard c (m ∷ ms) =
    let more = credit_more c (flat_map entries_in ms) m in let rest = credit_heard c ms in
    let asked = sum_by-cons (request_in c) m ms in let added = sum_by-cons (credit_in c) m ms in
    more ∙ omega (arith, rest, asked, added)

requested_front : (c : ChannelId) (xs ys : List Message) → StartsWith xs ys → requested c ys ≤ requested c xs
requested_front c xs ys s = let whole : requested c xs ≡ requested c ys + requested c s.0 = ap (requested c) s.1 ∙ sum_by-append (request_in c) ys s.0 in omega arith

none_requested : (c : ChannelId) (ms : List Message) → All (λ m. is_request m.0 ≡ false) ms → requested c ms ≡ 0
none_requested c [] none = refl
none_requested c (m ∷ ms) none =
    let here = not_asked c m (All-head (λ (x : Message). is_request x.0 ≡ false) m ms none) in
    let rest = none_requested c ms (All-tail (λ (x : Message). is_request x.0 ≡ false) m ms none) in sum_by-cons (request_in c) m ms ∙ omega (arith, here, rest)

-- ---- a channel is requested once

cases_bool : (b : Bool) → (b ≡ true) ⊎ (b ≡ false)
cases_bool true = inl refl
cases_bool false = inr refl

absent : (c : ChannelId) (ds : List ChannelId) → ((j : ℕ) → j < length ds → slice_index_or ds j c ≢ c) → requested c (requests_of ds) ≡ 0
absent c [] other = refl
absent c (d ∷ ds) other =
    let rest = absent c ds (λ j lt. other (suc j) (omega arith)) in
    let here : is_same d c ≡ false = is_other d c (other 0 (omega arith)) in
    sum_by-cons (request_in c) (PartitionRequest d 2, []) (requests_of ds) ∙ ap (λ b. cond b 2 0 + requested c (requests_of ds)) here ∙ omega (arith, rest)

asked_once : (c : ChannelId) (ds : List ChannelId) → AreDistinct ds → requested c (requests_of ds) ≤ 2
asked_once c [] distinct = omega arith
asked_once c (d ∷ ds) distinct = subst (λ n. n ≤ 2) (sym (sum_by-cons (request_in c) (PartitionRequest d 2, []) (requests_of ds))) (elim (cases_bool (is_same d c)) [
  | inl same ↦
      let is : d ≡ c = same_channel d c same in
      let none = absent c ds (λ j lt e. distinct 0 (suc j) c (omega arith) (omega arith) (is ∙ sym e)) in
      subst (λ b. cond b 2 0 + requested c (requests_of ds) ≤ 2) (sym same) (omega (arith, none))
  | inr other ↦
      subst (λ b. cond b 2 0 + requested c (requests_of ds) ≤ 2) (sym other)
      (let rest = asked_once c ds (λ i j e lt le. distinct (suc i) (suc j) e (omega arith) (omega arith)) in omega (arith, rest))
])

asked_at_most : (c : ChannelId) (ds : List ChannelId) (ms : List Message) → AreDistinct ds → BeginsWithRequests ds ms → requested c ms ≤ 2
asked_at_most c ds ms distinct (inl none) = subst (λ l. requested c l ≤ 2) (sym none) (omega arith)
asked_at_most c ds ms distinct (inr (rest, is, others)) =
    let whole : requested c ms ≡ requested c (requests_of ds) + requested c rest = ap (requested c) is ∙ sum_by-append (request_in c) (requests_of ds) rest in
    let once = asked_once c ds distinct in let none = none_requested c rest others in omega (arith, once, none)

-- ---- the chain

pub credit_covers_data : ReadIsWritten → FrontsCarryFronts → laws.ChannelsHaveParts → laws.AfterEachHistory laws.CoversData → laws.AllPassesTell → CreditCoversData
credit_covers_data law fronts parts covers tells items control asking reading items_by control_by asked_by read_by data_sent data_got control_sent control_got
    data_was data_ended control_was control_ended a b c d e f g i send_cause control_cause ask_cause read_cause history s h t r same_control same_reading distinct
    data_begins control_begins legal own_items own_control k channel at none_pushed none_told =
    let data_front = front_sent is_from_sender data_sent a b s.messages send_cause s.wrote in
    let data_link = law is_from_sender s.messages r.messages data_sent data_got r.left data_front.0 refl s.wrote.frames s.wrote.direction r.read.frames r.read.direction data_front.1 data_begins (same_Some _ _ r.read.bytes) in
    let control_front = front_sent is_from_receiver control_sent e f t.messages ask_cause t.wrote in
    let control_link = law is_from_receiver t.messages h.messages control_sent control_got h.left control_front.0 refl t.wrote.frames t.wrote.direction h.read.frames h.read.direction control_front.1 control_begins (same_Some _ _ h.read.bytes) in
    let gave = r.pushed.pushes k channel (ap (λ l. slice_get l k) same_reading ∙ at) ∙ ap (λ l. l ++ items_on channel r.messages) none_pushed in
    let read_most = count_front (items_on channel s.messages) (items_on channel r.messages) (fronts channel s.messages r.messages data_link.0).items in
    let told = tells items.channels.now history channel legal in
    let sent : count_by laws.is_data (readers.sent_on channel (entries_of history)) ≡ count_by is_data (items_on channel s.messages) =
    ap (count_by laws.is_data) (told.sent ∙ ap (readers.sent_on channel) own_items ∙ s.sent.told channel) ∙ data_told (items_on channel s.messages) in
    let part = parts items.channels.now history channel legal (k, at) in
    let covered = (covers items.channels.now history channel part.0 part.1 legal part.2).covered in
    let came : readers.credit_on channel (entries_of history) ≡ requested channel h.messages + credit_on channel h.messages =
    told.credit ∙ ap (readers.credit_on channel) (own_control ∙ h.heard.told) ∙ credit_heard channel h.messages in
    let written = requested_front channel t.messages h.messages control_link.0 in
    let granted = (fronts channel t.messages h.messages control_link.0).credit in
    let once = asked_at_most channel items.channels.now t.messages distinct t.told.requests in
    let announced = t.told.credit k channel at in
    let here : count_by is_data (pushed (mine_at k read_by.inputs.items)) ≡ count_by is_data (items_on channel r.messages) = ap (count_by is_data) gave in
    omega (arith, read_most, sent, covered, came, written, granted, once, announced, none_told, here)
