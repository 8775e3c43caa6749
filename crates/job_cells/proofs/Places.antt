-- The places of an edge's channels.
use Rattle.std.proofs.Common.{◌≡◌, ℕ, zero, suc, ◌+◌, ◌*◌, ◌/◌, ◌%◌, ◌<◌, true, List, [], ◌∷◌, ◌++◌, length, get_or, Some, refl, sym, ap, subst, ◌∙◌, arith, inl, inr}
use Rattle.std.specs.Prelude.{slice_get}
use Rattle.std.proofs.lemmas.Bool.{cases_lt, eqb-true, eq-eqb, and_from, le-leb, lt-ltb}
use Rattle.std.proofs.lemmas.Nat.{div-add-mod', div_below, mod_below}
use Rattle.std.proofs.lemmas.List.FromFn.{length-map-range_with_len, get_or-map-range_with_len, map-range_with_len_more}
use Rattle.std.proofs.lemmas.Option.{slice_get-get_or, get_or_from_slice_get}
use Rattle.flow_defs.specs.declared.job.Exchange.{Exchange}
use Rattle.flow_defs.specs.declared.job.Exchange.TheVariants.{Hash, Rebalance, Forward}
use Rattle.flow_defs.specs.declared.task.ChannelId.{ChannelId}
use Rattle.flow_defs.specs.Jobs.{tasks, exchange, joins, is_channel, sum_below}
use Rattle.plain_machine.specs.Worth.{concat_below}
use Rattle.plain_machine.proofs.Channels.{ends_of}
use Rattle.plain_machine.proofs.PlaceLemmas.{length-concat_below, sum_below-within, sum_same}
use Rattle.record_writer.specs.Writers.{ways, receiver_at, sender_at}
use Rattle.job_cells.specs.declared.span.Span.{Span}
use Rattle.job_cells.specs.Spans.{span_on, id_at, ids_into, ids_below, ways_in}
use Rattle.job_cells.specs.Places.{ChannelsHavePlaces, GatesHaveChannels}
use Rattle.job_cells.proofs.Lists.{get_front, get_behind}

-- ---- lists end to end

-- The j-th of the i-th list.
pub get_below : {X : Type 0} (n : ℕ) (f : ℕ → List X) (g : ℕ → ℕ) (i j : ℕ) → ((i : ℕ) → i < n → length (f i) ≡ g i) → i < n → j < g i → slice_get (concat_below n f) (sum_below i g + j) ≡ slice_get (f i) j
get_below zero f g i j many low inside = absurd (omega arith)
get_below (suc n) f g i j many low inside =
    let all : length (concat_below n f) ≡ sum_below n g = length-concat_below n f g (λ k l. many k (omega arith)) in
    elim (cases_lt i n) [
      | inl below ↦
          let deep = sum_below-within n g i below in
          get_front (concat_below n f) (f n) (sum_below i g + j) (omega (arith, all, deep, inside)) ∙ get_below n f g i j (λ k l. many k (omega arith)) below inside
      | inr above ↦
          let same : i ≡ n = omega arith in
          subst (λ k. slice_get (concat_below n f ++ f n) (sum_below k g + j) ≡ slice_get (f k) j) (sym same)
          (ap (λ k. slice_get (concat_below n f ++ f n) (k + j)) (sym all) ∙ get_behind (concat_below n f) (f n) j)
    ]

-- ---- the ids of an edge

id_into : (span : Span) (b n i : ℕ) → i < n → slice_get (ids_into span b n) i ≡ Some (id_at span b i)
id_into span b n i low =
    let d = id_at span b 0 in let f = λ (k : ℕ). id_at span b k in
    slice_get-get_or (ids_into span b n) i d (let l = length-map-range_with_len f 0 n in omega (arith, l, low))
    ∙ ap Some (get_or-map-range_with_len f 0 n i i d low (omega arith))

pub length_ids : (span : Span) (m : ℕ) → length (ids_below span m) ≡ m * ways_in span
length_ids span m =
    length-concat_below m (λ b. ids_into span b (ways_in span)) (λ b. ways_in span) (λ b low. length-map-range_with_len (λ (k : ℕ). id_at span b k) 0 (ways_in span)) ∙ sum_same m (ways_in span)

pub id_stands : (span : Span) (m b i : ℕ) → b < m → i < ways_in span → slice_get (ids_below span m) (b * ways_in span + i) ≡ Some (id_at span b i)
id_stands span m b i low inside =
    ap (λ k. slice_get (ids_below span m) (k + i)) (sym (sum_same b (ways_in span)))
    ∙ get_below m (λ b. ids_into span b (ways_in span)) (λ b. ways_in span) b i (λ b low. length-map-range_with_len (λ (k : ℕ). id_at span b k) 0 (ways_in span)) low inside
    ∙ id_into span b (ways_in span) i inside

-- Two channels of one gate have senders of their own.
same_way : (x : Exchange) (n b b' i i' : ℕ) → i < ways x n → i' < ways x n → sender_at x b i ≡ sender_at x b' i' → i ≡ i'
same_way Hash n b b' i i' low low' same = same
same_way Rebalance n b b' i i' low low' same = same
same_way Forward n b b' i i' low low' same = omega arith

id_here : (span : Span) (m k : ℕ) (d : ChannelId) → 0 < ways_in span → k < m * ways_in span → get_or (ids_below span m) k d ≡ id_at span (k / ways_in span) (k % ways_in span)
id_here span m k d some low =
    let w = ways_in span in
    get_or_from_slice_get (ids_below span m) k (id_at span (k / w) (k % w)) d
    (ap (slice_get (ids_below span m)) (sym (div-add-mod' k w)) ∙ id_stands span m (k / w) (k % w) (div_below k w m some low) (mod_below k w some))

pub ids_apart : (span : Span) (m : ℕ) (i j : ℕ) (d : ChannelId) → i < j → j < length (ids_below span m) → get_or (ids_below span m) i d ≡ get_or (ids_below span m) j d → ⊥
ids_apart span m i j d less within same =
    let w = ways_in span in
    let inside : j < m * w = let l = length_ids span m in omega (arith, l, within) in
    elim (cases_lt 0 w) [
      | inl some ↦
          let one : id_at span (i / w) (i % w) ≡ id_at span (j / w) (j % w) = sym (id_here span m i d some (omega (arith, inside, less))) ∙ same ∙ id_here span m j d some inside in
          let row : i / w ≡ j / w = ap (λ (c : ChannelId). c.to) one in
          let way : i % w ≡ j % w = same_way span.exchange span.senders (i / w) (j / w) (i % w) (j % w) (mod_below i w some) (mod_below j w some) (ap (λ (c : ChannelId). c.from) one) in
          let all : i ≡ j = sym (div-add-mod' i w) ∙ ap (λ (q : ℕ). q * w + i % w) row ∙ ap (λ (r : ℕ). j / w * w + r) way ∙ div-add-mod' j w in
          absurd (omega (arith, all, less))
      | inr none ↦
          let z : w ≡ 0 = omega arith in
          let nought : m * w ≡ 0 = ap (λ (k : ℕ). m * k) z ∙ omega arith in absurd (omega (arith, nought, inside))
    ]

-- ---- both ends count to one place

-- Channel c of the one task is channel i of the other, by this exchange.
record Meets (x : Exchange) (n m a b : ℕ) : Type 0 where
  c : ℕ
  i : ℕ
  way_out : c < ways x m
  way_in : i < ways x n
  receiver : receiver_at x a c ≡ b
  sender : sender_at x b i ≡ a
  one : a + c * n ≡ b * ways x n + i

meets : (x : Exchange) (n m a b : ℕ) → a < n → b < m → joins x a b ≡ true → Meets x n m a b
meets Hash n m a b low low' joined = record { c = b; i = a; way_out = low'; way_in = low; receiver = refl; sender = refl; one = omega arith }
meets Rebalance n m a b low low' joined = record { c = b; i = a; way_out = low'; way_in = low; receiver = refl; sender = refl; one = omega arith }
meets Forward n m a b low low' joined =
    let same = eqb-true a b joined in
    record { c = 0; i = 0; way_out = omega arith; way_in = omega arith; receiver = same; sender = sym same; one = omega arith }

place_of_channel : ChannelsHavePlaces
place_of_channel job e a b is on =
    let ends = ends_of job e a b on in
    let at = meets (exchange job e) (tasks job e) (tasks job (suc e)) a b ends.sender ends.receiver ends.joined in
    record {
      c = at.c;
      i = at.i;
      way_out = at.way_out;
      way_in = at.way_in;
      receiver = at.receiver;
      sender = at.sender;
      one = at.one;
      stands = id_stands (span_on job e) (tasks job (suc e)) b at.i ends.receiver at.way_in ∙ ap (λ (k : ℕ). Some (the_id e k b)) at.sender;
    }
  where
    the_id : ℕ → ℕ → ℕ → ChannelId
    the_id e k b = record { edge = e; «from» = k; to = b }

joins_gate : (x : Exchange) (b i : ℕ) → joins x (sender_at x b i) b ≡ true
joins_gate Hash b i = refl
joins_gate Rebalance b i = refl
joins_gate Forward b i = eq-eqb b b refl

pub sender_within : (x : Exchange) (n m b i : ℕ) → (x ≡ Forward → n ≡ m) → b < m → i < ways x n → sender_at x b i < n
sender_within Hash n m b i wide low inside = inside
sender_within Rebalance n m b i wide low inside = inside
sender_within Forward n m b i wide low inside = let same = wide refl in omega (arith, same, low)

pub channels_have_places : ChannelsHavePlaces
channels_have_places = place_of_channel

pub gates_have_channels : GatesHaveChannels
gates_have_channels job e b i is low here inside =
    let x = exchange job e in let a = sender_at x b i in
    let on : is_channel job e a b ≡ true =
    and_from _ _ (and_from _ _ (and_from _ _ (le-leb _ _ low) (lt-ltb _ _ (sender_within x (tasks job e) (tasks job (suc e)) b i (is.widths e low) here inside))) (lt-ltb _ _ here)) (joins_gate x b i) in
    let place = place_of_channel job e a b is on in
    (on, (place, same_way x (tasks job e) b b place.i i place.way_in inside place.sender))

-- ---- the ids as they are listed

pub ids_more : (span : Span) (b i : ℕ) → ids_into span b (i + 1) ≡ ids_into span b i ++ id_at span b i ∷ []
ids_more span b i = map-range_with_len_more (λ (k : ℕ). id_at span b k) 0 i i (omega arith)
