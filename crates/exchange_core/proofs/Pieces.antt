-- A record's buffers, taken one after another.
use Rattle.std.proofs.Common.{◌≡◌, ℕ, zero, suc, ◌+◌, ◌-◌, ◌*◌, ◌<◌, ◌≤◌, ltb, min, inl, inr, List, [], ◌∷◌, length, map, take, drop, refl, sym, ap, subst, ◌∙◌, arith, length-append, append_assoc, append-nil}
use Rattle.std.proofs.lemmas.List.{length-drop, drop-drop, drop_all, take_min, drop_min}
use Rattle.std.proofs.lemmas.Nat.{mul-le}
use Rattle.std.proofs.lemmas.Bool.{cases_eq, cases_Bool, ltb-true, ltb-false}
use Rattle.std.proofs.lemmas.Grind.{div_ceil_times}
use Rattle.std.specs.Int.{div_ceil}
use Rattle.flow_defs.specs.declared.parcel.Parcel.TheVariants as parcels
use Rattle.flow_defs.specs.Records.{length_bytes, encoded}
use Rattle.exchange_world.specs.Lanes.{Lane}
use Rattle.exchange_world.specs.Steps.{pieces_within, pieces, with_items}

-- a higher bound on their number is of no weight
pub pieces_same : (n m size : ℕ) (bytes : List ℕ) → 1 ≤ size → length bytes ≤ n → length bytes ≤ m → pieces_within n size bytes ≡ pieces_within m size bytes
pieces_same zero zero size bytes some in_n in_m = refl
pieces_same zero (suc m) size [] some in_n in_m = refl
pieces_same zero (suc m) size (b ∷ bytes) some in_n in_m = absurd (omega arith)
pieces_same (suc n) zero size [] some in_n in_m = refl
pieces_same (suc n) zero size (b ∷ bytes) some in_n in_m = absurd (omega arith)
pieces_same (suc n) (suc m) size [] some in_n in_m = refl
pieces_same (suc n) (suc m) size (b ∷ bytes) some in_n in_m =
    let shorter = length-drop size (b ∷ bytes) in
    ap (λ ps. take size (b ∷ bytes) ∷ ps) (pieces_same n m size (drop size (b ∷ bytes)) some (omega (arith, shorter)) (omega (arith, shorter)))

-- the first piece, and those behind it
pub pieces_step : (size : ℕ) (bytes : List ℕ) → 1 ≤ size → 1 ≤ length bytes → pieces size bytes ≡ take size bytes ∷ pieces size (drop size bytes)
pieces_step size [] some long = absurd (omega arith)
pieces_step size (b ∷ bytes) some long =
    let shorter = length-drop size (b ∷ bytes) in
    ap (λ ps. take size (b ∷ bytes) ∷ ps) (pieces_same (length bytes) (length (drop size (b ∷ bytes))) size (drop size (b ∷ bytes)) some (omega (arith, shorter)) (omega (arith, shorter)))

pub pieces_some : (size : ℕ) (bytes : List ℕ) → 1 ≤ length bytes → 1 ≤ length (pieces size bytes)
pieces_some size [] long = absurd (omega arith)
pieces_some size (b ∷ bytes) long = omega arith

-- ---- a record's encoding

pub length_bytes-length : (n : ℕ) → length (length_bytes n) ≡ 4
unfolding length_bytes
length_bytes-length n = refl

pub encoded_long : (text : List ℕ) → length (encoded text) ≡ length text + 4
encoded_long text = omega (arith, length-append (length_bytes (length text)) text, length_bytes-length (length text))

-- what is left of it
pub left_long : (done : ℕ) (text : List ℕ) → length (drop done (encoded text)) ≡ length text + 4 - done
left_long done text = length-drop done (encoded text) ∙ ap (λ n. n - done) (encoded_long text)

-- ---- a channel that gets the rest of a record's buffers

-- its buffers from the byte `done` on
abbrev pub rest_of : ℕ → ℕ → List ℕ → List (List ℕ)
rest_of size done text = pieces size (drop done (encoded text))

pub rest_none : (size done : ℕ) (text : List ℕ) → length text + 4 ≤ done → rest_of size done text ≡ []
rest_none size done text past = ap (pieces size) (drop_all done (encoded text) (omega (arith, encoded_long text)))

pub rest_step : (size done n : ℕ) (text : List ℕ) → 1 ≤ size → done < length text + 4 → n ≡ min size (length text + 4 - done)
    → rest_of size done text ≡ take n (drop done (encoded text)) ∷ rest_of size (done + n) text
rest_step size done n text some within is =
    let left = left_long done text in
    let bytes = drop done (encoded text) in
    let front : take size bytes ≡ take n bytes = sym (ap (λ k. take k bytes) (is ∙ ap (λ k. min size k) (sym left)) ∙ take_min size bytes) in
    let behind : drop size bytes ≡ drop (done + n) (encoded text) = sym (drop_min size bytes) ∙ ap (λ k. drop k bytes) (ap (λ k. min size k) left ∙ sym is) ∙ drop-drop n done (encoded text) in
    pieces_step size bytes some (omega (arith, left)) ∙ ap (λ b. b ∷ pieces size (drop size bytes)) front ∙ ap (λ b. take n bytes ∷ pieces size b) behind

-- one buffer more was put, and the rest follows
pub put_more : (before after final : Lane) (bytes : List ℕ) (rest all : List (List ℕ)) → after ≡ with_items before (parcels.Data bytes ∷ []) → all ≡ bytes ∷ rest
    → with_items before (map parcels.Data all) ≡ final → with_items after (map parcels.Data rest) ≡ final
put_more before after final bytes rest all is all_are whole =
    ap (λ lane. with_items lane (map parcels.Data rest)) is
    ∙ ap (λ ps. record before { items = ps }) (append_assoc before.items (parcels.Data bytes ∷ []) (map parcels.Data rest))
    ∙ ap (λ bs. with_items before (map parcels.Data bs)) (sym all_are) ∙ whole

pub put_all : (before final : Lane) (all : List (List ℕ)) → all ≡ [] → with_items before (map parcels.Data all) ≡ final → before ≡ final
put_all before final all none whole =
    sym (ap (λ ps. record before { items = ps }) (append-nil before.items)) ∙ ap (λ bs. with_items before (map parcels.Data bs)) (sym none) ∙ whole

pub rest_some : (size done : ℕ) (text : List ℕ) → done < length text + 4 → 1 ≤ length (rest_of size done text)
rest_some size done text within = pieces_some size (drop done (encoded text)) (omega (arith, left_long done text))

-- ---- how many there are

-- times a size they reach over so many bytes, and not by a whole size
pub record Reach (a size k : ℕ) : Type 0 where
  pub low : a ≤ k * size
  pub high : k * size < a + size

reach_more : (a b size k : ℕ) → 1 ≤ size → 1 ≤ a → b ≡ a - size → Reach b size k → (b ≡ 0 → k ≡ 0) → Reach a size (suc k)
reach_more a b size k some long is reach none =
    let next : suc k * size ≡ size + k * size = omega arith in
    elim (cases_eq b 0) [
      | inl z ↦ let no : k * size ≡ 0 = ap (λ j. j * size) (none z) ∙ omega arith in record { low = omega (arith, next, no, is, z); high = omega (arith, next, no, is, z) }
      | inr more ↦ record { low = omega (arith, next, is, reach.low); high = omega (arith, next, is, reach.high, more) }
    ]

none_within : (most size : ℕ) (bytes : List ℕ) → length bytes ≡ 0 → length (pieces_within most size bytes) ≡ 0
none_within zero size bytes none = refl
none_within (suc most) size [] none = refl
none_within (suc most) size (b ∷ bytes) none = absurd (omega arith)

pieces_reach : (most size : ℕ) (bytes : List ℕ) → 1 ≤ size → length bytes ≤ most → Reach (length bytes) size (length (pieces_within most size bytes))
pieces_reach zero size [] some few = record { low = omega arith; high = omega arith }
pieces_reach zero size (b ∷ bytes) some few = absurd (omega arith)
pieces_reach (suc most) size [] some few = record { low = omega arith; high = omega arith }
pieces_reach (suc most) size (b ∷ bytes) some few =
    let shorter = length-drop size (b ∷ bytes) in
    let behind = drop size (b ∷ bytes) in
    reach_more (length (b ∷ bytes)) (length behind) size (length (pieces_within most size behind)) some (omega arith) shorter
    (pieces_reach most size behind some (omega (arith, shorter))) (none_within most size behind)

reach_below : (a size j k : ℕ) → Reach a size j → Reach a size k → j < k → ⊥
reach_below a size j k one two less = let more = mul-le (suc j) size k size less (omega arith) in omega (arith, more, one.low, two.high)

pub reach_one : (a size j k : ℕ) → Reach a size j → Reach a size k → j ≡ k
reach_one a size j k one two = elim (cases_eq j k) [
  | inl is ↦ is
  | inr other ↦ elim (cases_Bool (ltb j k)) [
    | inl less ↦ absurd (reach_below a size j k one two (ltb-true _ _ less))
    | inr not_less ↦ absurd (let least : k ≤ j = ltb-false _ _ not_less in reach_below a size k j two one (omega arith))
  ]
]

pub pieces_count : (size n : ℕ) (text : List ℕ) → 1 ≤ size → n ≡ div_ceil (length text + 4) size → n ≡ length (pieces size (encoded text))
pieces_count size n text some is =
    let bounds = div_ceil_times (length text + 4) size (omega arith) in
    let reach : Reach (length text + 4) size n = subst (λ k. Reach (length text + 4) size k) (sym is) (record { low = bounds.0; high = bounds.1 }) in
    reach_one (length text + 4) size n (length (pieces size (encoded text))) reach
    (subst (λ k. Reach k size (length (pieces size (encoded text)))) (encoded_long text) (pieces_reach (length (encoded text)) size (encoded text) some (omega arith)))
