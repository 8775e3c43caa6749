-- The first data frame of a connection, and what its channel makes of it.
use Rattle.std.proofs.Common.{◌≡◌, ℕ, zero, suc, ◌+◌, ◌-◌, ◌≤◌, Bool, true, false, not, cond, eqb, List, [], ◌∷◌, ◌++◌, Some, None, length, map, get_or, refl, sym, ap, subst, ◌∙◌, arith}
use Rattle.std.specs.Prelude.{count_by}
use Rattle.std.proofs.Math.Dec.{eqb-suc-zero}
use Rattle.std.proofs.lemmas.List.Sums.{sum_by-cons, sum_by-append}
use Rattle.flow_defs.specs.declared.parcel.Parcel.{Parcel}
use Rattle.flow_defs.specs.declared.parcel.Parcel.TheVariants as parcels
use Rattle.flow_defs.specs.declared.bytes.Bytes.{Bytes}
use Rattle.input_channel.specs.declared.arrival.Arrival.{Arrival}
use Rattle.input_channel.specs.declared.arrival.ArrivalKind.{ArrivalKind}
use Rattle.input_channel.specs.declared.arrival.ArrivalKind.TheVariants as kinds
use Rattle.input_channel.specs.declared.entry.ReceiveEntry.TheVariants as entries
use Rattle.input_channel.specs.Answers.{parcel_in, refused}
use Rattle.input_channel.specs.States.{ChannelState, channel_next}
use Rattle.exchange_world.specs.Lanes as lanes
use Rattle.exchange_world.specs.Lanes.{ITEMS_MAX, floating_here}
use Rattle.exchange_world.specs.Worlds as worlds
use Rattle.exchange_world.specs.Worlds.{World, lane_of}
use Rattle.exchange_world.specs.Theorems.{bytes_in, arrival_in, IsAccepted}
use Rattle.exchange_world.specs.Sound.{AreOfChannels}
use Rattle.exchange_world.specs.Laws.{SoundTakesFrames}
use Rattle.exchange_core.specs.declared.connection.Connection.{Connection}
use Rattle.exchange_core.specs.declared.lane.Lane.{Lane}
use Rattle.exchange_core.specs.declared.frames.DataFrame.{DataFrame}
use Rattle.exchange_core.specs.declared.frames.DataFrame.TheVariants as data_frames
use Rattle.exchange_core.specs.Exchanges.{brought, world_frame, world_of, IsWhole}
use Rattle.exchange_core.proofs.Inlets.{lane_now}

-- ---- an arrival

abbrev arrival : ℕ → ℕ → ArrivalKind → Arrival
arrival sequence backlog what = record { sequence = sequence; backlog = backlog; what = what }

pub parcel_same : (what : ArrivalKind) (bytes : List ℕ) → parcel_in what bytes ≡ brought what bytes
parcel_same kinds.Buffer bytes = refl
parcel_same (kinds.Barrier k kind) bytes = refl
parcel_same kinds.End bytes = refl

refused_same : (inbox : ChannelState) (sequence backlog : ℕ) (what : ArrivalKind) (bytes : List ℕ)
    → refused inbox (arrival sequence backlog what) bytes ≡ refused inbox (arrival_in sequence (brought what bytes) backlog) (bytes_in (Some (brought what bytes)))
refused_same inbox sequence backlog kinds.Buffer bytes = refl
refused_same inbox sequence backlog (kinds.Barrier k kind) bytes = refl
refused_same inbox sequence backlog kinds.End bytes = refl

count_behind : (xs : List Bool) (x : Bool) → count_by not (xs ++ x ∷ []) ≡ count_by not xs + cond (not x) 1 0
count_behind xs x = sum_by-append (λ y. cond (not y) 1 0) xs (x ∷ []) ∙ ap (λ n. count_by not xs + n) (sum_by-cons (λ y. cond (not y) 1 0) x [] ∙ (let e : cond (not x) 1 0 + 0 ≡ cond (not x) 1 0 = omega arith in e))

floating_taken : (f : ℕ) (held : List Bool) → (f - 1) + count_by not (held ++ eqb f 0 ∷ []) ≡ f + count_by not held
floating_taken zero held = let more = count_behind held true in omega (arith, more)
floating_taken (suc f) held =
    let more = count_behind held false in
    let same : count_by not (held ++ eqb (suc f) 0 ∷ []) ≡ count_by not (held ++ false ∷ []) = ap (λ b. count_by not (held ++ b ∷ [])) (eqb-suc-zero f) in
    omega (arith, more, same)

-- an arrival takes no floating buffer from the gate, nor gives one
pub floating_pushed : (inbox : ChannelState) (p : Parcel) (backlog : ℕ) → floating_here (channel_next inbox (entries.Push p backlog)) ≡ floating_here inbox
floating_pushed inbox (parcels.Data bytes) backlog = floating_taken inbox.counts.floating inbox.counts.held
floating_pushed inbox (parcels.Barrier k kind) backlog = refl
floating_pushed inbox parcels.End backlog = refl

-- ---- the first frame

module _ (b : Connection) (whole : IsWhole b) (rest : List DataFrame) where
  pub response_first : (c sequence backlog : ℕ) (what : ArrivalKind) (content : Bytes) → b.frames.items ≡ data_frames.Response c sequence backlog what content ∷ rest
      → (world_of b).frames ≡ worlds.Response c sequence (brought what content.items) backlog ∷ map world_frame rest
  response_first c sequence backlog what content first = ap (map world_frame) first

  pub announcement_first : (c n : ℕ) → b.frames.items ≡ data_frames.Announcement c n ∷ rest → (world_of b).frames ≡ worlds.Announcement c n ∷ map world_frame rest
  announcement_first c n first = ap (map world_frame) first

  pub response_channel : (c sequence backlog : ℕ) (what : ArrivalKind) (content : Bytes) → b.frames.items ≡ data_frames.Response c sequence backlog what content ∷ rest → (1 ≤ c) × (c ≤ length b.lanes.items)
  response_channel c sequence backlog what content first =
      let of = subst (AreOfChannels (length b.lanes.items)) (response_first c sequence backlog what content first) whole.sound.frames in
      (of.0, of.1)

  pub announcement_channel : (c n : ℕ) → b.frames.items ≡ data_frames.Announcement c n ∷ rest → (1 ≤ c) × (c ≤ length b.lanes.items)
  announcement_channel c n first =
      let of = subst (AreOfChannels (length b.lanes.items)) (announcement_first c n first) whole.sound.frames in
      (of.0, of.1)

  pub response_accepted : (takes : SoundTakesFrames) (c sequence backlog : ℕ) (what : ArrivalKind) (content : Bytes) (old : Lane) → b.frames.items ≡ data_frames.Response c sequence backlog what content ∷ rest
      → 1 ≤ c → c ≤ length b.lanes.items → get_or b.lanes.items (c - 1) old ≡ old → refused old.inbox (arrival sequence backlog what) content.items ≡ None
  response_accepted takes c sequence backlog what content old first low high is =
      let accepted = subst (IsAccepted (world_of b)) (response_first c sequence backlog what content first) (takes (length b.lanes.items) (world_of b) whole.sound).accepted in
      refused_same old.inbox sequence backlog what content.items
      ∙ ap (λ (l : lanes.Lane). refused l.inbox (arrival_in sequence (brought what content.items) backlog) (bytes_in (Some (brought what content.items)))) (sym (lane_now b c old low high is))
      ∙ accepted
