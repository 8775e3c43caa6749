-- How many barriers came before the data that were polled last.
use Rattle.std.proofs.Common.{◌≡◌, ℕ, ◌+◌, ◌<◌, Bool, true, false, cond, eqb, length, List, [], ◌∷◌, ◌++◌, map, Option, Some, None, refl, sym, ap, ◌∙◌, true≢false, arith, zero-add}
use Rattle.std.specs.List.{range_with_len}
use Rattle.std.proofs.lemmas.Bool.{ne_eqb}
use Rattle.flow_defs.specs.declared.task.BarrierKind.{BarrierKind}
use Rattle.flow_defs.specs.declared.parcel.Parcel.{Parcel}
use Rattle.flow_defs.specs.declared.parcel.Parcel.TheVariants.{Data, Barrier, End}
use Rattle.flow_defs.specs.Parcels.{barriers_of}
use Rattle.flow_defs.proofs.Lists.{head_same, tail_same}
use Rattle.input_channel.specs.Inboxes.{Arrived, WasPolled, Waits, front_waits, first_parcel, first_barrier, poll_first, poll_barrier, due, poll_due, waiting, parcel_of, polled_of, polled_behind}
use Rattle.input_channel.specs.States.{ChannelState, passed, reached_by, all_polled, starts_waiting, has_polled_data, barriers_reached}
use Rattle.input_channel.proofs.DataLaws.{IsInOrder, none-polled_of, barrier-has_polled, later-has_polled}
use Rattle.input_channel.proofs.LineLaws.{past-waiting, past-poll_due}

-- ---- what leaves it

pub later-reached : (xs : List Arrived) (p : Parcel) → barriers_reached (xs ++ Waits p ∷ []) ≡ barriers_reached xs
later-reached [] p = refl
later-reached (x ∷ xs) p =
    ap (λ b. cond b (length (barriers_of (parcel_of x ∷ [])) + barriers_reached (xs ++ Waits p ∷ [])) 0) (later-has_polled xs (p ∷ []))
    ∙ ap (λ n. cond (has_polled_data xs) (length (barriers_of (parcel_of x ∷ [])) + n) 0) (later-reached xs p)

-- arrivals that differ only in what was polled of barriers and the end
stays : (p : Parcel) (xs ys : List Arrived) → has_polled_data xs ≡ has_polled_data ys → barriers_reached xs ≡ barriers_reached ys →
    cond (has_polled_data xs) (length (barriers_of (p ∷ [])) + barriers_reached xs) 0 ≡ cond (has_polled_data ys) (length (barriers_of (p ∷ [])) + barriers_reached ys) 0
stays p xs ys has reached =
    ap (λ b. cond b (length (barriers_of (p ∷ [])) + barriers_reached xs) 0) has ∙ ap (λ n. cond (has_polled_data ys) (length (barriers_of (p ∷ [])) + n) 0) reached

barrier-reached : (xs : List Arrived) → barriers_reached (poll_barrier xs) ≡ barriers_reached xs
barrier-reached [] = refl
barrier-reached (WasPolled p ∷ xs) = stays p (poll_barrier xs) xs (barrier-has_polled xs) (barrier-reached xs)
barrier-reached (Waits (Data bytes) ∷ xs) = stays (Data bytes) (poll_barrier xs) xs (barrier-has_polled xs) (barrier-reached xs)
barrier-reached (Waits (Barrier k kind) ∷ xs) = refl
barrier-reached (Waits End ∷ xs) = stays End (poll_barrier xs) xs (barrier-has_polled xs) (barrier-reached xs)

-- whether this is data
abbrev are_data : Option Parcel → Bool
are_data None = false
are_data (Some (Data bytes)) = true
are_data (Some (Barrier k kind)) = false
are_data (Some End) = false

first-has_polled : (xs : List Arrived) → are_data (first_parcel (waiting xs)) ≡ false → has_polled_data (poll_first xs) ≡ has_polled_data xs
first-has_polled [] none = refl
first-has_polled (WasPolled (Data bytes) ∷ xs) none = refl
first-has_polled (WasPolled (Barrier k kind) ∷ xs) none = first-has_polled xs none
first-has_polled (WasPolled End ∷ xs) none = first-has_polled xs none
first-has_polled (Waits (Data bytes) ∷ xs) none = absurd (true≢false none)
first-has_polled (Waits (Barrier k kind) ∷ xs) none = refl
first-has_polled (Waits End ∷ xs) none = refl

first-reached : (xs : List Arrived) → are_data (first_parcel (waiting xs)) ≡ false → barriers_reached (poll_first xs) ≡ barriers_reached xs
first-reached [] none = refl
first-reached (WasPolled p ∷ xs) none = stays p (poll_first xs) xs (first-has_polled xs none) (first-reached xs none)
first-reached (Waits p ∷ xs) none = refl

due-reached : (xs : List Arrived) → are_data (due (waiting xs)) ≡ false → barriers_reached (poll_due xs) ≡ barriers_reached xs
due-reached xs =
    elim (front_waits (waiting xs)) as (λ b. are_data (cond b (first_barrier (waiting xs)) (first_parcel (waiting xs))) ≡ false → barriers_reached (cond b (poll_barrier xs) (poll_first xs)) ≡ barriers_reached xs) [
      | true ↦ λ none. barrier-reached xs
      | false ↦ λ none. first-reached xs none
    ]

-- ---- data that are polled

barriers-cons : (p : Parcel) (ps : List Parcel) → length (barriers_of (p ∷ [])) + length (barriers_of ps) ≡ length (barriers_of (p ∷ ps))
barriers-cons (Data bytes) ps = zero-add (length (barriers_of ps))
barriers-cons (Barrier k kind) ps = omega arith
barriers-cons End ps = zero-add (length (barriers_of ps))

polled_there : (gone : List Arrived) (bytes : List ℕ) (rest : List Arrived) → has_polled_data (gone ++ WasPolled (Data bytes) ∷ rest) ≡ true
polled_there [] bytes rest = refl
polled_there (WasPolled (Data other) ∷ gone) bytes rest = refl
polled_there (WasPolled (Barrier k kind) ∷ gone) bytes rest = polled_there gone bytes rest
polled_there (WasPolled End ∷ gone) bytes rest = polled_there gone bytes rest
polled_there (Waits p ∷ gone) bytes rest = polled_there gone bytes rest

-- all before the last data that were polled are reached
at_data : (gone : List Arrived) (bytes : List ℕ) (rest : List Arrived) → has_polled_data rest ≡ false → barriers_reached (gone ++ WasPolled (Data bytes) ∷ rest) ≡ length (barriers_of (map parcel_of gone))
at_data [] bytes rest none = ap (λ b. cond b (0 + barriers_reached rest) 0) none
at_data (x ∷ gone) bytes rest none =
    let one = length (barriers_of (parcel_of x ∷ [])) in
    ap (λ b. cond b (one + barriers_reached (gone ++ WasPolled (Data bytes) ∷ rest)) 0) (polled_there gone bytes rest)
    ∙ ap (λ n. one + n) (at_data gone bytes rest none) ∙ barriers-cons (parcel_of x) (map parcel_of gone)

-- nothing behind an arrival that waits was polled
none_later : (gone : List Arrived) (p : Parcel) (rest : List Arrived) → all_polled gone ≡ true → IsInOrder (gone ++ Waits p ∷ rest) → has_polled_data rest ≡ false
none_later [] p rest polled order = order
none_later (WasPolled q ∷ gone) p rest polled order = none_later gone p rest polled order
none_later (Waits q ∷ gone) p rest polled order = absurd (true≢false (sym polled))

no_data : (p : Option Parcel) (bytes : List ℕ) → p ≡ Some (Data bytes) → are_data p ≡ true
no_data p bytes is = ap are_data is

first_data : (gone line : List Arrived) (bytes : List ℕ) → all_polled gone ≡ true → starts_waiting line ≡ true → IsInOrder (gone ++ line) → first_parcel (waiting line) ≡ Some (Data bytes) →
    barriers_reached (gone ++ poll_first line) ≡ length (barriers_of (map parcel_of gone))
first_data gone [] bytes polled starts order is = absurd (true≢false (sym (no_data None bytes is)))
first_data gone (WasPolled p ∷ line) bytes polled starts order is = absurd (true≢false (sym starts))
first_data gone (Waits (Data other) ∷ line) bytes polled starts order is = at_data gone other line (none_later gone (Data other) line polled order)
first_data gone (Waits (Barrier k kind) ∷ line) bytes polled starts order is = absurd (true≢false (sym (no_data (Some (Barrier k kind)) bytes is)))
first_data gone (Waits End ∷ line) bytes polled starts order is = absurd (true≢false (sym (no_data (Some End) bytes is)))

barrier_no_data : (ps : List Parcel) → are_data (first_barrier ps) ≡ false
barrier_no_data [] = refl
barrier_no_data (Data bytes ∷ ps) = barrier_no_data ps
barrier_no_data (Barrier k kind ∷ ps) = refl
barrier_no_data (End ∷ ps) = barrier_no_data ps

due_data : (gone line : List Arrived) (bytes : List ℕ) → all_polled gone ≡ true → starts_waiting line ≡ true → IsInOrder (gone ++ line) → due (waiting line) ≡ Some (Data bytes) →
    barriers_reached (gone ++ poll_due line) ≡ length (barriers_of (map parcel_of gone))
due_data gone line bytes polled starts order =
    elim (front_waits (waiting line)) as (λ b. cond b (first_barrier (waiting line)) (first_parcel (waiting line)) ≡ Some (Data bytes) → barriers_reached (gone ++ cond b (poll_barrier line) (poll_first line)) ≡ length (barriers_of (map parcel_of gone))) [
      | true ↦ λ is. absurd (true≢false (sym (ap are_data is) ∙ barrier_no_data (waiting line)))
      | false ↦ λ is. first_data gone line bytes polled starts order is
    ]

-- what a poll reaches
pub poll_reaches : (c : ChannelState) (gone line : List Arrived) (p : Option Parcel) → all_polled gone ≡ true → starts_waiting line ≡ true → IsInOrder (gone ++ line) →
    passed c ≡ length (barriers_of (map parcel_of gone)) → c.reached ≡ barriers_reached (gone ++ line) → due (waiting line) ≡ p → reached_by c p ≡ barriers_reached (poll_due (gone ++ line))
poll_reaches c gone line (Some (Data bytes)) polled starts order are before is =
    are ∙ sym (due_data gone line bytes polled starts order is) ∙ ap barriers_reached (sym (past-poll_due gone line polled))
poll_reaches c gone line None polled starts order are before is = before ∙ sym (due-reached (gone ++ line) (ap (λ ps. are_data (due ps)) (past-waiting gone line polled) ∙ ap are_data is))
poll_reaches c gone line (Some (Barrier k kind)) polled starts order are before is = before ∙ sym (due-reached (gone ++ line) (ap (λ ps. are_data (due ps)) (past-waiting gone line polled) ∙ ap are_data is))
poll_reaches c gone line (Some End) polled starts order are before is = before ∙ sym (due-reached (gone ++ line) (ap (λ ps. are_data (due ps)) (past-waiting gone line polled) ∙ ap are_data is))

-- ---- what it tells

none_behind : (k : ℕ) (xs : List Arrived) → has_polled_data xs ≡ false → polled_behind k xs ≡ []
none_behind k [] none = refl
none_behind k (WasPolled (Data bytes) ∷ xs) none = absurd (true≢false none)
none_behind k (WasPolled (Barrier j kind) ∷ xs) none = elim (eqb j k) as (λ b. cond b (polled_of xs) (polled_behind k xs) ≡ []) [ true ↦ none-polled_of xs none | false ↦ none_behind k xs none ]
none_behind k (WasPolled End ∷ xs) none = none_behind k xs none
none_behind k (Waits (Data bytes) ∷ xs) none = none_behind k xs none
none_behind k (Waits (Barrier j kind) ∷ xs) none = elim (eqb j k) as (λ b. cond b (polled_of xs) (polled_behind k xs) ≡ []) [ true ↦ none-polled_of xs none | false ↦ none_behind k xs none ]
none_behind k (Waits End ∷ xs) none = none_behind k xs none

-- barriers with the numbers from a + 1 on
abbrev NumberFrom : ℕ → List Arrived → Type 0
NumberFrom a xs = map (λ (b : ℕ × BarrierKind). b.0) (barriers_of (map parcel_of xs)) ≡ range_with_len (a + 1) (length (barriers_of (map parcel_of xs)))

-- either no data behind an arrival were polled, or it is reached
reached_cases : (a k n : ℕ) (xs : List Arrived) (P : Type 0) → a + cond (has_polled_data xs) (n + barriers_reached xs) 0 < k → (has_polled_data xs ≡ false → P) → (a + (n + barriers_reached xs) < k → P) → P
reached_cases a k n xs P low none some = elim (has_polled_data xs) as (λ b. has_polled_data xs ≡ b → a + cond b (n + barriers_reached xs) 0 < k → P) [ true ↦ λ has l. some l | false ↦ λ has l. none has ] refl low

barrier_in_time : (a k j : ℕ) (xs : List Arrived) → j ≡ a + 1 → a + cond (has_polled_data xs) (1 + barriers_reached xs) 0 < k → ((a + 1) + barriers_reached xs < k → polled_behind k xs ≡ []) →
    cond (eqb j k) (polled_of xs) (polled_behind k xs) ≡ []
barrier_in_time a k j xs first low later =
    reached_cases a k 1 xs (cond (eqb j k) (polled_of xs) (polled_behind k xs) ≡ []) low
    (λ none. elim (eqb j k) as (λ b. cond b (polled_of xs) (polled_behind k xs) ≡ []) [ true ↦ none-polled_of xs none | false ↦ none_behind k xs none ])
    (λ l. ap (λ b. cond b (polled_of xs) (polled_behind k xs)) (ne_eqb j k (λ same. omega (arith, l, same, first))) ∙ later (omega (arith, l)))

-- of barriers that are numbered, those above the ones that are reached have no polled data behind them
pub in_time : (a k : ℕ) (xs : List Arrived) → NumberFrom a xs → a + barriers_reached xs < k → polled_behind k xs ≡ []
in_time a k [] numbered low = refl
in_time a k (WasPolled (Data bytes) ∷ xs) numbered low = reached_cases a k 0 xs (polled_behind k xs ≡ []) low (none_behind k xs) (λ l. in_time a k xs numbered (omega (arith, l)))
in_time a k (WasPolled (Barrier j kind) ∷ xs) numbered low =
    let ns = map (λ (b : ℕ × BarrierKind). b.0) (barriers_of (map parcel_of xs)) in
    let rest = range_with_len (a + 1 + 1) (length (barriers_of (map parcel_of xs))) in
    barrier_in_time a k j xs (head_same j (a + 1) ns rest numbered) low (λ l. in_time (a + 1) k xs (tail_same j (a + 1) ns rest numbered) l)
in_time a k (WasPolled End ∷ xs) numbered low = reached_cases a k 0 xs (polled_behind k xs ≡ []) low (none_behind k xs) (λ l. in_time a k xs numbered (omega (arith, l)))
in_time a k (Waits (Data bytes) ∷ xs) numbered low = reached_cases a k 0 xs (polled_behind k xs ≡ []) low (none_behind k xs) (λ l. in_time a k xs numbered (omega (arith, l)))
in_time a k (Waits (Barrier j kind) ∷ xs) numbered low =
    let ns = map (λ (b : ℕ × BarrierKind). b.0) (barriers_of (map parcel_of xs)) in
    let rest = range_with_len (a + 1 + 1) (length (barriers_of (map parcel_of xs))) in
    barrier_in_time a k j xs (head_same j (a + 1) ns rest numbered) low (λ l. in_time (a + 1) k xs (tail_same j (a + 1) ns rest numbered) l)
in_time a k (Waits End ∷ xs) numbered low = reached_cases a k 0 xs (polled_behind k xs ≡ []) low (none_behind k xs) (λ l. in_time a k xs numbered (omega (arith, l)))
