-- A channel of a world and its reader, once another channel was put in its place or something has happened
-- to a reader; and what is known of one channel, apart from the world.
use Rattle.std.proofs.Common.{◌≡◌, ℕ, suc, ◌+◌, ◌-◌, ◌≤◌, ◌⊎◌, true, false, cond, List, [], ◌∷◌, ◌++◌, length, map, Option, Some, None, refl, sym, ap, subst, ◌∙◌, arith}
use Rattle.std.specs.List.{range_with_len}
use Rattle.std.specs.Option.{option_map}
use Rattle.std.proofs.lemmas.Bool.{cond-true}
use Rattle.std.proofs.lemmas.List.{get_or-set_same, get_or-set_other, length-set}
use Rattle.std.proofs.lemmas.Option.{none-some, same_Some}
use Rattle.flow_defs.specs.declared.task.ChannelId.{ChannelId}
use Rattle.flow_defs.specs.declared.parcel.Parcel.{Parcel}
use Rattle.flow_defs.specs.Parcels.{barriers_of, has_end}
use Rattle.credit_reader.specs.declared.reader.Reader.{Reader}
use Rattle.credit_reader.specs.Readers.{Happening, reader_next}
use Rattle.credit_reader.specs.Senders.{is_same, reader_of, after_at}
use Rattle.credit_reader.proofs.Channels.{is_same_self, same_channel, is_other, reader_after}
use Rattle.input_channel.specs.Legal.{inline_in}
use Rattle.exchange_world.specs.Lanes.{Lane, ITEMS_MAX, new_lane, channel_id, backlog_in}
use Rattle.exchange_world.specs.Worlds.{World, lane_of, with_lane, partition_limit, partition_lent}
use Rattle.exchange_world.specs.Sound.{responses, credit_coming, resumptions_coming, AreFit, AreNumbered, number_behind, IsSoundInbox, IsSoundReader, IsSoundLane}

-- ---- ids of channels

-- two numbers of channels with one id are one
pub same_number : (c d : ℕ) → 1 ≤ c → 1 ≤ d → channel_id c ≡ channel_id d → c ≡ d
same_number c d c_low d_low same = let from : c - 1 ≡ d - 1 = ap (λ (i : ChannelId). i.from) same in omega arith

pub other_channel : (c d : ℕ) → 1 ≤ c → 1 ≤ d → (d ≡ c → ⊥) → is_same (channel_id d) (channel_id c) ≡ false
other_channel c d c_low d_low other = is_other _ _ (λ same. other (same_number d c d_low c_low same))

-- ---- the channels of a world

module _ (w : World) (c : ℕ) (lane : Lane) (low : 1 ≤ c) where
  pub lane_put : c ≤ length w.lanes → lane_of (with_lane w c lane) c ≡ lane
  lane_put high = get_or-set_same w.lanes (c - 1) lane (new_lane w.size) (omega arith)

  pub lane_stays : (d : ℕ) → 1 ≤ d → (d ≡ c → ⊥) → lane_of (with_lane w c lane) d ≡ lane_of w d
  lane_stays d d_low other = get_or-set_other w.lanes (c - 1) (d - 1) lane (new_lane w.size) (λ (same : d - 1 ≡ c - 1). other (omega arith))

pub lanes_stay : (w : World) (c : ℕ) (lane : Lane) → length (with_lane w c lane).lanes ≡ length w.lanes
lanes_stay w c lane = length-set w.lanes (c - 1) lane

-- ---- what happens to one reader

-- the reader of a channel has its id
pub channel_found : (c : ChannelId) (r : Reader) (rs : List Reader) → reader_of c rs ≡ Some r → r.channel ≡ c
channel_found c r [] found = absurd (none-some _ found)
channel_found c r (s ∷ rs) found =
    elim (is_same s.channel c) as (λ b. is_same s.channel c ≡ b → cond b (Some s) (reader_of c rs) ≡ Some r → r.channel ≡ c) [
      | true ↦ λ is first. ap (λ (t : Reader). t.channel) (sym (same_Some _ _ first)) ∙ same_channel _ _ is
      | false ↦ λ is later. channel_found c r rs later
    ] refl found

map_same : (o : Option Reader) → option_map (λ r. r) o ≡ o
map_same None = refl
map_same (Some r) = refl

module _ (c : ChannelId) (h : Happening) (rs : List Reader) where
  pub reader_here : (r : Reader) → reader_of c rs ≡ Some r → reader_of c (after_at c h rs) ≡ Some (reader_next r h)
  reader_here r found =
      reader_after c h c rs ∙ ap (option_map (λ r. cond (is_same c c) (reader_next r h) r)) found ∙ ap Some (cond-true _ _ _ (is_same_self c))

  pub reader_there : (d : ChannelId) → is_same d c ≡ false → reader_of d (after_at c h rs) ≡ reader_of d rs
  reader_there d other =
      reader_after c h d rs ∙ ap (λ b. option_map (λ r. cond b (reader_next r h) r) (reader_of d rs)) other ∙ map_same (reader_of d rs)

-- ---- one channel, apart from the world

-- Both ends of a channel agree, where these responses, this credit and these resumptions are on the way.
pub record AgreesOn (size : ℕ) (lane : Lane) (r : Reader) (way : List (ℕ × Parcel)) (credit resumptions : ℕ) : Type 0 where
  pub numbered : AreNumbered lane.inbox.next way
  pub next : r.sequence ≡ number_behind lane.inbox.next way
  pub credit_is : r.credit + backlog_in (map (λ (r : ℕ × Parcel). r.1) way) + credit ≡ lane.inbox.credit
  pub fit : AreFit size (map (λ (r : ℕ × Parcel). r.1) way ++ lane.items)
  pub barriers : map (λ b. b.0) (barriers_of (map (λ (r : ℕ × Parcel). r.1) way ++ lane.items)) ≡ range_with_len (suc lane.inbox.last) (length (barriers_of (map (λ (r : ℕ × Parcel). r.1) way ++ lane.items)))
  pub last : lane.barriers ≡ lane.inbox.last + length (barriers_of (map (λ (r : ℕ × Parcel). r.1) way ++ lane.items))
  pub ended : lane.inbox.ended ≡ true → map (λ (r : ℕ × Parcel). r.1) way ++ lane.items ≡ []
  pub finished : lane.finished ≡ true → (lane.inbox.ended ≡ true) ⊎ (has_end (map (λ (r : ℕ × Parcel). r.1) way ++ lane.items) ≡ true)
  pub unfinished : lane.finished ≡ false → (lane.inbox.ended ≡ false) × (has_end (map (λ (r : ℕ × Parcel). r.1) way ++ lane.items) ≡ false)
  pub blocked : inline_in (map (λ (r : ℕ × Parcel). r.1) way) + inline_in lane.inbox.queue + lane.inbox.owed + resumptions ≡ cond r.blocked 1 0

-- A channel is sound, with this reader and these on the way, where its pool has this limit.
pub record SoundOn (size limit : ℕ) (lane : Lane) (r : Reader) (way : List (ℕ × Parcel)) (credit resumptions : ℕ) : Type 0 where
  pub sender : IsSoundReader r lane.items
  pub inbox : IsSoundInbox size lane.inbox
  pub agree : AgreesOn size lane r way credit resumptions
  pub room : length lane.items ≤ ITEMS_MAX
  pub lent : partition_lent lane ≤ limit

-- so is each channel of a sound world
pub sound_on : (c : ℕ) (w : World) (s : IsSoundLane c w) → SoundOn w.size (partition_limit w) (lane_of w c) s.reader (responses c w.frames) (credit_coming c w.controls) (resumptions_coming c w.controls)
sound_on c w s = record {
  sender = s.sender;
  inbox = s.inbox;
  agree = record {
    numbered = s.agree.numbered;
    next = s.agree.next;
    credit_is = s.agree.credit;
    fit = s.agree.fit;
    barriers = s.agree.barriers;
    last = s.agree.last;
    ended = s.agree.ended;
    finished = s.agree.finished;
    unfinished = s.agree.unfinished;
    blocked = s.agree.blocked;
  };
  room = s.room;
  lent = s.lent;
}

lane_here : (c : ℕ) (w : World) (r : Reader) → reader_of (channel_id c) w.sender.readers ≡ Some r
    → SoundOn w.size (partition_limit w) (lane_of w c) r (responses c w.frames) (credit_coming c w.controls) (resumptions_coming c w.controls) → IsSoundLane c w
lane_here c w r found s = record {
  reader = r;
  found = found;
  sender = s.sender;
  inbox = s.inbox;
  agree = record {
    numbered = s.agree.numbered;
    next = s.agree.next;
    credit = s.agree.credit_is;
    fit = s.agree.fit;
    barriers = s.agree.barriers;
    last = s.agree.last;
    ended = s.agree.ended;
    finished = s.agree.finished;
    unfinished = s.agree.unfinished;
    blocked = s.agree.blocked;
  };
  room = s.room;
  lent = s.lent;
}

-- and a channel is sound in a world that has it, its reader and these on the way
pub is_sound_lane : (c : ℕ) (w : World) (size limit : ℕ) (lane : Lane) (r : Reader) (way : List (ℕ × Parcel)) (credit resumptions : ℕ)
    → w.size ≡ size → partition_limit w ≡ limit → lane_of w c ≡ lane → reader_of (channel_id c) w.sender.readers ≡ Some r
    → responses c w.frames ≡ way → credit_coming c w.controls ≡ credit → resumptions_coming c w.controls ≡ resumptions
    → SoundOn size limit lane r way credit resumptions → IsSoundLane c w
is_sound_lane c w size limit lane r way credit resumptions size_is limit_is lane_is found way_is credit_is resumptions_is s =
    lane_here c w r found (
    subst (λ x. SoundOn x (partition_limit w) (lane_of w c) r (responses c w.frames) (credit_coming c w.controls) (resumptions_coming c w.controls)) (sym size_is) (
    subst (λ x. SoundOn size x (lane_of w c) r (responses c w.frames) (credit_coming c w.controls) (resumptions_coming c w.controls)) (sym limit_is) (
    subst (λ x. SoundOn size limit x r (responses c w.frames) (credit_coming c w.controls) (resumptions_coming c w.controls)) (sym lane_is) (
    subst (λ x. SoundOn size limit lane r x (credit_coming c w.controls) (resumptions_coming c w.controls)) (sym way_is) (
    subst (λ x. SoundOn size limit lane r way x (resumptions_coming c w.controls)) (sym credit_is) (
    subst (λ x. SoundOn size limit lane r way credit x) (sym resumptions_is) s))))))

-- a channel stays sound in a world that has the same of it
pub stays_sound : (c : ℕ) (w v : World) → IsSoundLane c w
    → v.size ≡ w.size → partition_limit v ≡ partition_limit w → lane_of v c ≡ lane_of w c → reader_of (channel_id c) v.sender.readers ≡ reader_of (channel_id c) w.sender.readers
    → responses c v.frames ≡ responses c w.frames → credit_coming c v.controls ≡ credit_coming c w.controls → resumptions_coming c v.controls ≡ resumptions_coming c w.controls
    → IsSoundLane c v
stays_sound c w v s size limit lane reader way credit resumptions =
    is_sound_lane c v _ _ _ s.reader _ _ _ size limit lane (reader ∙ s.found) way credit resumptions (sound_on c w s)
