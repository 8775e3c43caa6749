-- A connection that was opened is sound.
use Rattle.std.proofs.Common.{◌≡◌, ℕ, zero, suc, ◌+◌, ◌-◌, ◌<◌, ◌≤◌, List, [], ◌∷◌, map, replicate, Some, refl, sym, ap, ◌∙◌, arith, inl, inr}
use Rattle.std.specs.List.{range_with_len, sum_by}
use Rattle.std.proofs.lemmas.Bool.{cases_eq, cond-true, cond-false, false≢true}
use Rattle.std.proofs.lemmas.List.{length-replicate, get_or-replicate}
use Rattle.std.proofs.lemmas.List.Sums.{sum_by-cons}
use Rattle.flow_defs.specs.declared.task.ChannelId.{ChannelId}
use Rattle.credit_reader.specs.declared.reader.Reader.{Reader}
use Rattle.credit_reader.specs.Readers.{fresh, Asked, reader_next}
use Rattle.credit_reader.specs.Senders.{Sender, sender_of, is_same, reader_of, happened}
use Rattle.credit_reader.proofs.Channels.{is_same_self, channels_after}
use Rattle.input_channel.specs.States.{opening}
use Rattle.exchange_world.specs.Lanes.{Lane, BUFFERS_MAX, new_lane, channel_id, floating_here}
use Rattle.exchange_world.specs.Worlds.{requested, opened, partition_limit}
use Rattle.exchange_world.specs.Sound.{IsSoundInbox}
use Rattle.exchange_world.specs.Laws.{OpenedIsSound}
use Rattle.exchange_world.proofs.LaneLemmas.{other_channel, reader_here, reader_there, SoundOn, is_sound_lane}
use Rattle.exchange_world.proofs.QueueLemmas.{opened_holds}

-- ---- the readers

channels_requested : (cs : List ℕ) (s : Sender) → map (λ (r : Reader). r.channel) (requested cs s).readers ≡ map (λ (r : Reader). r.channel) s.readers
channels_requested [] s = refl
channels_requested (c ∷ cs) s = channels_requested cs (happened (channel_id c) (Asked 2) s) ∙ channels_after (channel_id c) (Asked 2) s.readers

channels_fresh : (ids : List ChannelId) → map (λ (r : Reader). r.channel) (map fresh ids) ≡ ids
channels_fresh [] = refl
channels_fresh (id ∷ ids) = ap (λ cs. id ∷ cs) (channels_fresh ids)

fresh_found : (a n c : ℕ) → 1 ≤ a → a ≤ c → c < a + n → reader_of (channel_id c) (map fresh (map channel_id (range_with_len a n))) ≡ Some (fresh (channel_id c))
fresh_found a zero c low from to = absurd (omega arith)
fresh_found a (suc n) c low from to = elim (cases_eq a c) [
  | inl is ↦ cond-true (is_same (channel_id a) (channel_id c)) (Some (fresh (channel_id a))) _ (ap (λ d. is_same (channel_id a) (channel_id d)) (sym is) ∙ is_same_self (channel_id a)) ∙ ap (λ d. Some (fresh (channel_id d))) is
  | inr other ↦ cond-false (is_same (channel_id a) (channel_id c)) (Some (fresh (channel_id a))) _ (other_channel c a (omega arith) low other) ∙ fresh_found (a + 1) n c (omega arith) (omega arith) (omega arith)
]

requested_there : (a n c : ℕ) (s : Sender) → 1 ≤ c → c < a → reader_of (channel_id c) (requested (range_with_len a n) s).readers ≡ reader_of (channel_id c) s.readers
requested_there a zero c s low before = refl
requested_there a (suc n) c s low before =
    requested_there (a + 1) n c (happened (channel_id a) (Asked 2) s) low (omega arith)
    ∙ reader_there (channel_id a) (Asked 2) s.readers (channel_id c) (other_channel a c (omega arith) low (λ (e : c ≡ a). absurd (omega arith)))

requested_here : (a n c : ℕ) (s : Sender) (r : Reader) → 1 ≤ a → a ≤ c → c < a + n → reader_of (channel_id c) s.readers ≡ Some r → reader_of (channel_id c) (requested (range_with_len a n) s).readers ≡ Some (reader_next r (Asked 2))
requested_here a zero c s r low from to found = absurd (omega arith)
requested_here a (suc n) c s r low from to found = elim (cases_eq c a) [
  | inl is ↦ requested_there (a + 1) n c (happened (channel_id a) (Asked 2) s) (omega arith) (omega arith)
      ∙ ap (λ d. reader_of (channel_id c) (happened (channel_id d) (Asked 2) s).readers) (sym is)
      ∙ reader_here (channel_id c) (Asked 2) s.readers r found
  | inr other ↦ requested_here (a + 1) n c (happened (channel_id a) (Asked 2) s) r (omega arith) (omega arith) (omega arith)
      (reader_there (channel_id a) (Asked 2) s.readers (channel_id c) (other_channel a c low (omega arith) other) ∙ found)
]

-- ---- one channel

inbox_opened : (size : ℕ) → IsSoundInbox size (opening size BUFFERS_MAX)
inbox_opened size = record {
  size_is = refl;
  room_is = refl;
  announces = refl;
  exclusive = refl;
  floating = omega arith;
  free_is = refl;
  line = refl;
  first = refl;
  held = refl;
  fit = tt;
  end = λ e. absurd (false≢true e);
  resumed = refl;
}

lane_opened : (size limit c : ℕ) → SoundOn size limit (new_lane size) (reader_next (fresh (channel_id c)) (Asked 2)) [] 0 0
lane_opened size limit c = record {
  sender = record { requested = refl; head_is = refl; backlog_is = refl };
  inbox = inbox_opened size;
  agree = record {
    numbered = tt;
    next = refl;
    credit_is = refl;
    fit = tt;
    barriers = refl;
    last = refl;
    ended = λ e. absurd (false≢true e);
    finished = λ e. absurd (false≢true e);
    unfinished = λ e. (refl, refl);
    blocked = refl;
  };
  room = omega arith;
  lent = omega arith;
}

-- ---- the world

none_floating : (m size : ℕ) → sum_by (λ (lane : Lane). floating_here lane.inbox) (replicate m (new_lane size)) ≡ 0
none_floating zero size = refl
none_floating (suc m) size = sum_by-cons (λ (lane : Lane). floating_here lane.inbox) (new_lane size) (replicate m (new_lane size)) ∙ omega (arith, none_floating m size)

pub opened_is_sound : OpenedIsSound
opened_is_sound m size total can = record {
  opening = can;
  lanes = length-replicate m (new_lane size);
  channels = channels_requested (range_with_len 1 m) (sender_of (map channel_id (range_with_len 1 m))) ∙ channels_fresh (map channel_id (range_with_len 1 m));
  queue = opened_holds (range_with_len 1 m) (map channel_id (range_with_len 1 m));
  frames = tt;
  controls = tt;
  each = λ c low high.
      is_sound_lane c (opened m size total) size (partition_limit (opened m size total)) (new_lane size) (reader_next (fresh (channel_id c)) (Asked 2)) [] 0 0 refl refl
      (get_or-replicate m (c - 1) (new_lane size) (new_lane size) (omega arith))
      (requested_here 1 m c (sender_of (map channel_id (range_with_len 1 m))) (fresh (channel_id c)) (omega arith) low (omega arith) (fresh_found 1 m c (omega arith) low (omega arith)))
      refl refl refl (lane_opened size (partition_limit (opened m size total)) c);
  gate = let none = none_floating m size in omega (arith, none);
}
