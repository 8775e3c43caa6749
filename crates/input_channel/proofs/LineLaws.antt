-- The line of a channel: arrivals behind some that were all polled, from one on that waits.
use Rattle.std.proofs.Common.{◌≡◌, ℕ, zero, suc, ◌+◌, ◌-◌, ◌<◌, ◌≤◌, Bool, true, false, cond, eqb, leb, ◌||◌, length, length-append, List, [], ◌∷◌, ◌++◌, map, Option, Some, None, refl, sym, ap, ◌∙◌, true≢false, arith, leb-true, leb-false}
use Rattle.std.specs.Prelude.{◌&&◌, nat_le}
use Rattle.std.specs.List.{range_with_len}
use Rattle.std.proofs.lemmas.List.{map-append}
use Rattle.std.proofs.lemmas.Bool.{eqb-false, ne_eqb}
use Rattle.flow_defs.specs.declared.task.BarrierKind.{BarrierKind}
use Rattle.flow_defs.specs.declared.parcel.Parcel.{Parcel}
use Rattle.flow_defs.specs.declared.parcel.Parcel.TheVariants.{Data, Barrier, End}
use Rattle.flow_defs.specs.Parcels.{barriers_of}
use Rattle.flow_defs.specs.Barriers.{has_barrier}
use Rattle.flow_defs.proofs.Lists.{head_same, tail_same, no_cons}
use Rattle.flow_defs.proofs.ParcelLemmas.{barriers_of-append}
use Rattle.input_channel.specs.declared.entry.ReceiveEntry.{ReceiveEntry}
use Rattle.input_channel.specs.Inboxes.{Arrived, WasPolled, Waits, front_waits, first_parcel, first_barrier, poll_first, poll_barrier, due, poll_due, is_barrier, poll_leaves, inbox, pushed, waiting, parcel_of, waiting_before}
use Rattle.input_channel.specs.States.{ChannelState, from_waiting, line_leaves, passed, gain, all_polled, starts_waiting, IsLine}
use Rattle.input_channel.proofs.InboxLaws.{arrivals_are_pushed, waiting-poll_due}
use Rattle.input_channel.proofs.BarrierLaws.{has_number, has_barrier-number}

-- ---- behind arrivals that were all polled

pub past-waiting : (gone xs : List Arrived) → all_polled gone ≡ true → waiting (gone ++ xs) ≡ waiting xs
past-waiting [] xs h = refl
past-waiting (WasPolled p ∷ gone) xs h = past-waiting gone xs h
past-waiting (Waits p ∷ gone) xs h = absurd (true≢false (sym h))

past-poll_first : (gone xs : List Arrived) → all_polled gone ≡ true → poll_first (gone ++ xs) ≡ gone ++ poll_first xs
past-poll_first [] xs h = refl
past-poll_first (WasPolled p ∷ gone) xs h = ap (λ z. WasPolled p ∷ z) (past-poll_first gone xs h)
past-poll_first (Waits p ∷ gone) xs h = absurd (true≢false (sym h))

past-poll_barrier : (gone xs : List Arrived) → all_polled gone ≡ true → poll_barrier (gone ++ xs) ≡ gone ++ poll_barrier xs
past-poll_barrier [] xs h = refl
past-poll_barrier (WasPolled p ∷ gone) xs h = ap (λ z. WasPolled p ∷ z) (past-poll_barrier gone xs h)
past-poll_barrier (Waits p ∷ gone) xs h = absurd (true≢false (sym h))

pub past-poll_due : (gone xs : List Arrived) → all_polled gone ≡ true → poll_due (gone ++ xs) ≡ gone ++ poll_due xs
past-poll_due gone xs h =
    ap (λ ps. cond (front_waits ps) (poll_barrier (gone ++ xs)) (poll_first (gone ++ xs))) (past-waiting gone xs h)
    ∙ ap (λ z. cond (front_waits (waiting xs)) z (poll_first (gone ++ xs))) (past-poll_barrier gone xs h)
    ∙ ap (λ z. cond (front_waits (waiting xs)) (gone ++ poll_barrier xs) z) (past-poll_first gone xs h)
    ∙ elim (front_waits (waiting xs)) as (λ b. cond b (gone ++ poll_barrier xs) (gone ++ poll_first xs) ≡ gone ++ cond b (poll_barrier xs) (poll_first xs)) [ true ↦ refl | false ↦ refl ]

-- the polled arrivals before the first one that waits
leading : List Arrived → List Arrived
leading [] = []
leading (WasPolled p ∷ xs) = WasPolled p ∷ leading xs
leading (Waits p ∷ xs) = []

leading-from_waiting : (xs : List Arrived) → xs ≡ leading xs ++ from_waiting xs
unfolding leading
leading-from_waiting [] = refl
leading-from_waiting (WasPolled p ∷ xs) = ap (λ z. WasPolled p ∷ z) (leading-from_waiting xs)
leading-from_waiting (Waits p ∷ xs) = refl

leading-polled : (xs : List Arrived) → all_polled (leading xs) ≡ true
unfolding leading
leading-polled [] = refl
leading-polled (WasPolled p ∷ xs) = leading-polled xs
leading-polled (Waits p ∷ xs) = refl

from_waiting-starts : (xs : List Arrived) → starts_waiting (from_waiting xs) ≡ true
from_waiting-starts [] = refl
from_waiting-starts (WasPolled p ∷ xs) = from_waiting-starts xs
from_waiting-starts (Waits p ∷ xs) = refl

all_polled-append : (xs ys : List Arrived) → all_polled xs ≡ true → all_polled ys ≡ true → all_polled (xs ++ ys) ≡ true
all_polled-append [] ys h g = g
all_polled-append (WasPolled p ∷ xs) ys h g = all_polled-append xs ys h g
all_polled-append (Waits p ∷ xs) ys h g = absurd (true≢false (sym h))

starts-more : (xs : List Arrived) (p : Parcel) → starts_waiting xs ≡ true → starts_waiting (xs ++ Waits p ∷ []) ≡ true
starts-more [] p h = refl
starts-more (WasPolled q ∷ xs) p h = absurd (true≢false (sym h))
starts-more (Waits q ∷ xs) p h = refl

-- ---- a line goes on

pub line_more : (line arrivals : List Arrived) (p : Parcel) → IsLine line arrivals → IsLine (line ++ Waits p ∷ []) (arrivals ++ Waits p ∷ [])
line_more line arrivals p is = record {
  gone = is.gone;
  polled = is.polled;
  whole = ap (λ xs. xs ++ Waits p ∷ []) is.whole ∙ Rattle.std.proofs.Common.append_assoc is.gone line (Waits p ∷ []);
  first = starts-more line p is.first;
}

pub line_polled : (line arrivals : List Arrived) → IsLine line arrivals → IsLine (from_waiting (poll_due line)) (poll_due arrivals)
line_polled line arrivals is =
    let next = poll_due line in
    record {
      gone = is.gone ++ leading next;
      polled = all_polled-append is.gone (leading next) is.polled (leading-polled next);
      whole =
          ap poll_due is.whole ∙ past-poll_due is.gone line is.polled ∙ ap (λ xs. is.gone ++ xs) (leading-from_waiting next)
          ∙ sym (Rattle.std.proofs.Common.append_assoc is.gone (leading next) (from_waiting next));
      first = from_waiting-starts next;
    }

pub waiting-from_waiting : (xs : List Arrived) → waiting (from_waiting xs) ≡ waiting xs
waiting-from_waiting [] = refl
waiting-from_waiting (WasPolled p ∷ xs) = waiting-from_waiting xs
waiting-from_waiting (Waits p ∷ xs) = refl

-- what waits in a line is left as poll_leaves says
pub waiting-line_leaves : (hold : Bool) (xs : List Arrived) → waiting (line_leaves hold xs) ≡ poll_leaves hold (waiting xs)
waiting-line_leaves hold xs =
    elim (hold && is_barrier (due (waiting xs))) as (λ b. waiting (cond b xs (from_waiting (poll_due xs))) ≡ cond b (waiting xs) (Rattle.input_channel.specs.Inboxes.undue (waiting xs))) [
      | true ↦ refl
      | false ↦ waiting-from_waiting (poll_due xs) ∙ waiting-poll_due xs
    ]

-- ---- numbers of barriers

abbrev pub AreNumbered : List (ℕ × BarrierKind) → Type 0
AreNumbered bs = map (λ (b : ℕ × BarrierKind). b.0) bs ≡ range_with_len 1 (length bs)

abbrev numbers : List (ℕ × BarrierKind) → List ℕ
numbers bs = map (λ (b : ℕ × BarrierKind). b.0) bs

within : (a n k : ℕ) (bs : List (ℕ × BarrierKind)) → numbers bs ≡ range_with_len a n → a ≤ k → k < a + n → has_number k bs ≡ true
within a zero k bs e low high = absurd (omega (arith, low, high))
within a (suc n) k [] e low high = absurd (no_cons a (range_with_len (a + 1) n) (sym e))
within a (suc n) k (b ∷ bs) e low high =
    let here = head_same b.0 a (numbers bs) (range_with_len (a + 1) n) e in
    let later = tail_same b.0 a (numbers bs) (range_with_len (a + 1) n) e in
    elim (eqb b.0 k) as (λ t. eqb b.0 k ≡ t → (t || has_number k bs) ≡ true) [
      | true ↦ λ h. refl
      | false ↦ λ h. within (a + 1) n k bs later (let other = eqb-false b.0 k h in let apart : a ≡ k → ⊥ = λ same. other (here ∙ same) in above a k low apart) (omega (arith, high))
    ] refl
  where
    above : (a k : ℕ) → a ≤ k → (a ≡ k → ⊥) → a + 1 ≤ k
    above a k low apart =
        elim (leb (a + 1) k) as (λ b. leb (a + 1) k ≡ b → a + 1 ≤ k) [
          | true ↦ λ h. leb-true (a + 1) k h
          | false ↦ λ h. absurd (apart (let out = leb-false (a + 1) k h in omega (arith, low, out)))
        ] refl

beyond : (a n k : ℕ) (bs : List (ℕ × BarrierKind)) → numbers bs ≡ range_with_len a n → a + n ≤ k → has_number k bs ≡ false
beyond a n k [] e high = refl
beyond a zero k (b ∷ bs) e high = absurd (no_cons b.0 (numbers bs) e)
beyond a (suc n) k (b ∷ bs) e high =
    let here = head_same b.0 a (numbers bs) (range_with_len (a + 1) n) e in
    let later = tail_same b.0 a (numbers bs) (range_with_len (a + 1) n) e in
    ap (λ t. t || has_number k bs) (ne_eqb b.0 k (λ same. omega (arith, here, same, high))) ∙ beyond (a + 1) n k bs later (omega (arith, high))

pub by_number : (k : ℕ) (bs : List (ℕ × BarrierKind)) → AreNumbered bs → 1 ≤ k → has_number k bs ≡ nat_le k (length bs)
by_number k bs numbered one =
    elim (nat_le k (length bs)) as (λ t. nat_le k (length bs) ≡ t → has_number k bs ≡ t) [
      | true ↦ λ h. within 1 (length bs) k bs numbered one (let low = leb-true k (length bs) h in omega (arith, low))
      | false ↦ λ h. beyond 1 (length bs) k bs numbered (let out = leb-false k (length bs) h in omega (arith, out))
    ] refl

range-front : (a n : ℕ) (xs ys : List ℕ) → xs ++ ys ≡ range_with_len a n → xs ≡ range_with_len a (length xs)
range-front a n [] ys e = refl
range-front a zero (x ∷ xs) ys e = absurd (no_cons x (xs ++ ys) e)
range-front a (suc n) (x ∷ xs) ys e =
    ap (λ z. x ∷ z) (range-front (a + 1) n xs ys (tail_same x a (xs ++ ys) (range_with_len (a + 1) n) e))
    ∙ ap (λ k. k ∷ range_with_len (a + 1) (length xs)) (head_same x a (xs ++ ys) (range_with_len (a + 1) n) e)

length-numbers : (bs : List (ℕ × BarrierKind)) → length (numbers bs) ≡ length bs
length-numbers [] = refl
length-numbers (b ∷ bs) = ap suc (length-numbers bs)

-- the first ones of numbered barriers are numbered
pub first_numbered : (front back all : List (ℕ × BarrierKind)) → all ≡ front ++ back → AreNumbered all → AreNumbered front
first_numbered front back all is numbered =
    range-front 1 (length all) (numbers front) (numbers back) (sym (map-append (λ (b : ℕ × BarrierKind). b.0) front back) ∙ ap numbers (sym is) ∙ numbered)
    ∙ ap (range_with_len 1) (length-numbers front)

-- ---- the barriers that are gone from a line

record Parts (es : List ReceiveEntry) (gone line : List Arrived) : Type 0 where
  barriers : barriers_of (pushed es) ≡ barriers_of (map parcel_of gone) ++ barriers_of (map parcel_of line)

parts_of : (es : List ReceiveEntry) (gone line : List Arrived) → (inbox es).arrivals ≡ gone ++ line → Parts es gone line
parts_of es gone line whole = record {
  barriers = ap barriers_of (sym (arrivals_are_pushed es) ∙ ap (map parcel_of) whole ∙ map-append parcel_of gone line) ∙ barriers_of-append (map parcel_of gone) (map parcel_of line);
}

pub passed_are : (c : ChannelState) (es : List ReceiveEntry) (is : IsLine c.line (inbox es).arrivals) → c.last ≡ length (barriers_of (pushed es)) → passed c ≡ length (barriers_of (map parcel_of is.gone))
passed_are c es is last =
    let front = barriers_of (map parcel_of is.gone) in
    let back = barriers_of (map parcel_of c.line) in
    let all : length (barriers_of (pushed es)) ≡ length front + length back = ap length (parts_of es is.gone c.line is.whole).barriers ∙ length-append front back in
    omega (arith, all, last)

pub is_passed : (c : ChannelState) (es : List ReceiveEntry) (is : IsLine c.line (inbox es).arrivals) → c.last ≡ length (barriers_of (pushed es)) → AreNumbered (barriers_of (pushed es)) →
    (k : ℕ) → 1 ≤ k → has_barrier k (map parcel_of is.gone) ≡ nat_le k (passed c)
is_passed c es is last numbered k one =
    let front = barriers_of (map parcel_of is.gone) in
    has_barrier-number k (map parcel_of is.gone)
    ∙ by_number k front (first_numbered front (barriers_of (map parcel_of c.line)) (barriers_of (pushed es)) (parts_of es is.gone c.line is.whole).barriers numbered) one
    ∙ ap (nat_le k) (sym (passed_are c es is last))

-- ---- what waits before a barrier

-- it is all in the line, where the barrier is not gone
pub waiting_before-gone : (k : ℕ) (gone xs : List Arrived) → all_polled gone ≡ true → waiting_before k (gone ++ xs) ≡ cond (has_barrier k (map parcel_of gone)) [] (waiting_before k xs)
waiting_before-gone k [] xs h = refl
waiting_before-gone k (WasPolled (Data bytes) ∷ gone) xs h = waiting_before-gone k gone xs h
waiting_before-gone k (WasPolled (Barrier j kind) ∷ gone) xs h =
    elim (eqb j k) as (λ b. cond b [] (waiting_before k (gone ++ xs)) ≡ cond (b || has_barrier k (map parcel_of gone)) [] (waiting_before k xs)) [ true ↦ refl | false ↦ waiting_before-gone k gone xs h ]
waiting_before-gone k (WasPolled End ∷ gone) xs h = waiting_before-gone k gone xs h
waiting_before-gone k (Waits p ∷ gone) xs h = absurd (true≢false (sym h))

-- polling leaves it, less what it gives
barrier-waits : (k : ℕ) (xs : List Arrived) → waiting_before k (poll_barrier xs) ≡ waiting_before k xs
barrier-waits k [] = refl
barrier-waits k (WasPolled (Data bytes) ∷ xs) = barrier-waits k xs
barrier-waits k (WasPolled (Barrier j kind) ∷ xs) = ap (λ z. cond (eqb j k) [] z) (barrier-waits k xs)
barrier-waits k (WasPolled End ∷ xs) = barrier-waits k xs
barrier-waits k (Waits (Data bytes) ∷ xs) = ap (λ z. bytes ++ z) (barrier-waits k xs)
barrier-waits k (Waits (Barrier j kind) ∷ xs) = refl
barrier-waits k (Waits End ∷ xs) = barrier-waits k xs

-- the data of a parcel
abbrev data_at : Option Parcel → List ℕ
data_at None = []
data_at (Some (Data bytes)) = bytes
data_at (Some (Barrier j kind)) = []
data_at (Some End) = []

no_data-first_barrier : (ps : List Parcel) → data_at (first_barrier ps) ≡ []
no_data-first_barrier [] = refl
no_data-first_barrier (Data bytes ∷ ps) = no_data-first_barrier ps
no_data-first_barrier (Barrier j kind ∷ ps) = refl
no_data-first_barrier (End ∷ ps) = no_data-first_barrier ps

first-gains : (k : ℕ) (xs : List Arrived) → starts_waiting xs ≡ true → waiting_before k xs ≡ data_at (first_parcel (waiting xs)) ++ waiting_before k (poll_first xs)
first-gains k [] h = refl
first-gains k (WasPolled p ∷ xs) h = absurd (true≢false (sym h))
first-gains k (Waits (Data bytes) ∷ xs) h = refl
first-gains k (Waits (Barrier j kind) ∷ xs) h = refl
first-gains k (Waits End ∷ xs) h = refl

due-gains : (k : ℕ) (xs : List Arrived) → starts_waiting xs ≡ true → waiting_before k xs ≡ data_at (due (waiting xs)) ++ waiting_before k (poll_due xs)
due-gains k xs h =
    elim (front_waits (waiting xs)) as (λ b. waiting_before k xs ≡ data_at (cond b (first_barrier (waiting xs)) (first_parcel (waiting xs))) ++ waiting_before k (cond b (poll_barrier xs) (poll_first xs))) [
      | true ↦ sym (ap (λ z. z ++ waiting_before k (poll_barrier xs)) (no_data-first_barrier (waiting xs)) ∙ barrier-waits k xs)
      | false ↦ first-gains k xs h
    ]

gain_gone : (c : ChannelState) (k : ℕ) (p : Option Parcel) → nat_le k (passed c) ≡ true → gain c k p ≡ []
gain_gone c k None h = refl
gain_gone c k (Some (Data bytes)) h = ap (λ b. cond b [] bytes) h
gain_gone c k (Some (Barrier j kind)) h = refl
gain_gone c k (Some End) h = refl

gain_here : (c : ChannelState) (k : ℕ) (p : Option Parcel) → nat_le k (passed c) ≡ false → gain c k p ≡ data_at p
gain_here c k None h = refl
gain_here c k (Some (Data bytes)) h = ap (λ b. cond b [] bytes) h
gain_here c k (Some (Barrier j kind)) h = refl
gain_here c k (Some End) h = refl

pub gains : (c : ChannelState) (k : ℕ) (gone xs : List Arrived) → all_polled gone ≡ true → has_barrier k (map parcel_of gone) ≡ nat_le k (passed c) → starts_waiting xs ≡ true →
    waiting_before k (gone ++ xs) ≡ gain c k (due (waiting xs)) ++ waiting_before k (gone ++ poll_due xs)
gains c k gone xs polled is starts =
    elim (nat_le k (passed c)) as (λ b. nat_le k (passed c) ≡ b → waiting_before k (gone ++ xs) ≡ gain c k (due (waiting xs)) ++ waiting_before k (gone ++ poll_due xs)) [
      | true ↦ λ h.
          waiting_before-gone k gone xs polled ∙ ap (λ b. cond b [] (waiting_before k xs)) (is ∙ h)
          ∙ sym (ap (λ z. z ++ waiting_before k (gone ++ poll_due xs)) (gain_gone c k (due (waiting xs)) h) ∙ waiting_before-gone k gone (poll_due xs) polled ∙ ap (λ b. cond b [] (waiting_before k (poll_due xs))) (is ∙ h))
      | false ↦ λ h.
          waiting_before-gone k gone xs polled ∙ ap (λ b. cond b [] (waiting_before k xs)) (is ∙ h) ∙ due-gains k xs starts
          ∙ sym (ap (λ z. z ++ waiting_before k (gone ++ poll_due xs)) (gain_here c k (due (waiting xs)) h)
          ∙ ap (λ z. data_at (due (waiting xs)) ++ z) (waiting_before-gone k gone (poll_due xs) polled ∙ ap (λ b. cond b [] (waiting_before k (poll_due xs))) (is ∙ h)))
    ] refl
