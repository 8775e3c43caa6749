-- The readers of a connection, while one channel after another is requested.
use Rattle.std.proofs.Common.{◌≡◌, ℕ, zero, suc, ◌+◌, ◌<◌, ◌≤◌, map, Some, Ok, refl, sym, ap, ◌∙◌, arith, inl, inr}
use Rattle.std.specs.List.{range_with_len}
use Rattle.std.proofs.lemmas.Bool.{cases_eq, cond-true, cond-false}
use Rattle.std.proofs.lemmas.List.FromFn.{get_or-map-range_with_len, length-map-range_with_len}
use Rattle.credit_reader.specs.Readers.{fresh, Asked}
use Rattle.credit_reader.specs.Senders.{Sender, AreDistinct, sender_of, is_same, reader_of, happened}
use Rattle.credit_reader.specs.Answers.{request_answer}
use Rattle.credit_reader.proofs.Channels.{is_same_self}
use Rattle.exchange_world.specs.Lanes.{channel_id}
use Rattle.exchange_world.specs.Worlds.{requested}
use Rattle.exchange_world.proofs.LaneLemmas.{same_number, other_channel, reader_there}

pub ids_distinct : (n : ℕ) → AreDistinct (map channel_id (range_with_len 1 n))
ids_distinct n i j d less within same =
    let count = length-map-range_with_len channel_id 1 n in
    let high : j < n = omega arith in
    let one = get_or-map-range_with_len channel_id 1 n i (i + 1) d (omega arith) (omega arith) in
    let other = get_or-map-range_with_len channel_id 1 n j (j + 1) d high (omega arith) in
    let same_place : i + 1 ≡ j + 1 = same_number (i + 1) (j + 1) (omega arith) (omega arith) (sym one ∙ same ∙ other) in
    absurd (omega arith)

-- one more is requested
pub requested_more : (a n c : ℕ) (s : Sender) → a + n ≡ c → requested (range_with_len a (suc n)) s ≡ happened (channel_id c) (Asked 2) (requested (range_with_len a n) s)
requested_more a zero c s at = ap (λ k. happened (channel_id k) (Asked 2) s) (let same : a ≡ c = omega arith in same)
requested_more a (suc n) c s at = requested_more (a + 1) n c (happened (channel_id a) (Asked 2) s) (omega arith)

-- the next one is as it was made
found_fresh : (a n c : ℕ) → 1 ≤ a → a ≤ c → c < a + n → reader_of (channel_id c) (map fresh (map channel_id (range_with_len a n))) ≡ Some (fresh (channel_id c))
found_fresh a zero c low from to = absurd (omega arith)
found_fresh a (suc n) c low from to = elim (cases_eq a c) [
  | inl is ↦ cond-true (is_same (channel_id a) (channel_id c)) (Some (fresh (channel_id a))) _ (ap (λ d. is_same (channel_id a) (channel_id d)) (sym is) ∙ is_same_self (channel_id a)) ∙ ap (λ d. Some (fresh (channel_id d))) is
  | inr other ↦ cond-false (is_same (channel_id a) (channel_id c)) (Some (fresh (channel_id a))) _ (other_channel c a (omega arith) low other) ∙ found_fresh (a + 1) n c (omega arith) (omega arith) (omega arith)
]

stays_fresh : (a n c : ℕ) (s : Sender) → 1 ≤ a → a + n ≤ c → reader_of (channel_id c) (requested (range_with_len a n) s).readers ≡ reader_of (channel_id c) s.readers
stays_fresh a zero c s low before = refl
stays_fresh a (suc n) c s low before =
    stays_fresh (a + 1) n c (happened (channel_id a) (Asked 2) s) (omega arith) (omega arith)
    ∙ reader_there (channel_id a) (Asked 2) s.readers (channel_id c) (other_channel a c low (omega arith) (λ (e : c ≡ a). absurd (omega arith)))

-- a channel that comes next may be requested
pub may_request : (m n c : ℕ) (s : Sender) → c ≡ n + 1 → c ≤ m → s ≡ requested (range_with_len 1 n) (sender_of (map channel_id (range_with_len 1 m))) → request_answer (reader_of (channel_id c) s.readers) ≡ Ok tt
may_request m n c s next high is =
    ap (λ (t : Sender). request_answer (reader_of (channel_id c) t.readers)) is
    ∙ ap request_answer (stays_fresh 1 n c (sender_of (map channel_id (range_with_len 1 m))) (omega arith) (omega arith) ∙ found_fresh 1 m c (omega arith) (omega arith) (omega arith))
