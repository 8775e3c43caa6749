-- In a step the load of an edge falls by what is taken from that edge.
use Rattle.std.proofs.Common.{◌≡◌, ℕ, zero, suc, ◌+◌, ◌<◌, ◌≤◌, true, List, [], ◌∷◌, length, drop, refl, ap, ◌∙◌, arith, inl, inr}
use Rattle.std.specs.Prelude.{flat_map, sum_by, slice_range}
use Rattle.std.proofs.lemmas.List.Concat.{flat_map-append}
use Rattle.std.proofs.lemmas.List.Sums.{sum_by-append, sum_by-cons}
use Rattle.std.proofs.lemmas.Bool.{cases_lt, cond-true}
use Rattle.flow_defs.specs.declared.job.Job.{Job}
use Rattle.flow_defs.specs.declared.image.TakeRun.{TakeRun}
use Rattle.flow_defs.specs.Records.{length_bytes, encoded}
use Rattle.flow_defs.specs.Jobs.{last_edge, tasks, is_channel, IsJob}
use Rattle.plain_machine.specs.Cuts.{Cut}
use Rattle.plain_machine.specs.Steps.{Rises, on_channel, sent, taken, next}
use Rattle.plain_machine.specs.Worth.{reach, concat_below, in_flight, unread, load}
use Rattle.plain_machine.proofs.Sums.{IsMonoid, IsWeight, total, total-op, total-ext, weigh-concat_below, along}
use Rattle.plain_machine.proofs.Channels.{ends_of}
use Rattle.plain_machine.proofs.Reach.{reach-all, reach-same}
use Rattle.plain_machine.proofs.Edges.{over_edge}
use Rattle.plain_machine.proofs.WorthLemmas.{drop-drop}

abbrev add_numbers : ℕ → ℕ → ℕ
add_numbers a b = a + b

numbers : IsMonoid add_numbers 0
numbers = record { unit = λ a. omega arith; assoc = λ a b c. omega arith; comm = λ a b. omega arith }

abbrev pub sum_of : ℕ → (ℕ → ℕ) → ℕ
sum_of n f = total add_numbers 0 n f

pub one_of_sum : (n : ℕ) (f : ℕ → ℕ) (i : ℕ) → i < n → f i ≤ sum_of n f
one_of_sum zero f i low = absurd (omega arith)
one_of_sum (suc n) f i low = elim (cases_lt i n) [
  | inl below ↦ let deep = one_of_sum n f i below in omega (arith, deep)
  | inr above ↦ let same : f i ≡ f n = ap f (let z : i ≡ n = omega arith in z) in omega (arith, same)
]

-- ---- encoded bytes

abbrev pub bytes_of : List (List ℕ) → ℕ
bytes_of records = sum_by (λ r. length (encoded r)) records

pub some_bytes : (r : List ℕ) → 1 ≤ length (encoded r)
unfolding length_bytes
some_bytes r = omega arith

pub fewer_records : (records : List (List ℕ)) → length records ≤ bytes_of records
fewer_records [] = omega arith
fewer_records (r ∷ records) =
    let one = some_bytes r in
    let deep = fewer_records records in
    let split = sum_by-cons (λ r. length (encoded r)) r records in
    omega (arith, one, deep, split)

bytes_add : IsWeight add_numbers 0 bytes_of
bytes_add = record { nil = refl; append = sum_by-append (λ r. length (encoded r)) }

module _ (job : Job) (lines : ℕ → List (List ℕ)) (n : ℕ) where
  -- what records on edge e will be on edge n
  abbrev weight_on : ℕ → List (List ℕ) → ℕ
  weight_on e records = bytes_of (flat_map (reach job e n) records)

  weight_adds : (e : ℕ) → IsWeight add_numbers 0 (weight_on e)
  weight_adds e = record { nil = refl; append = λ xs ys. ap bytes_of (flat_map-append (reach job e n) xs ys) ∙ sum_by-append (λ r. length (encoded r)) (flat_map (reach job e n) xs) (flat_map (reach job e n) ys) }

  abbrev on_edges : Cut → ℕ
  on_edges cut = sum_of (suc n) (λ e. weight_on e (in_flight job cut e))

  abbrev in_lines : (ℕ → ℕ) → ℕ
  in_lines offsets = sum_of (tasks job 0) (λ a. weight_on 0 (drop (offsets a) (lines a)))

  load_is : (cut : Cut) → load job lines cut n ≡ on_edges cut + in_lines cut.offsets
  load_is cut =
      sum_by-append (λ r. length (encoded r)) (concat_below (suc n) (λ i. flat_map (reach job i n) (in_flight job cut i))) (flat_map (reach job 0 n) (unread job lines cut))
      ∙ ap (λ x. x + weight_on 0 (unread job lines cut)) (weigh-concat_below bytes_add (suc n) (λ i. flat_map (reach job i n) (in_flight job cut i)))
      ∙ ap (λ x. on_edges cut + x) (weigh-concat_below (weight_adds 0) (tasks job 0) (λ a. drop (cut.offsets a) (lines a)))

  module _ (cut : Cut) (takes : ℕ → ℕ → List TakeRun) (offsets : ℕ → ℕ) where
    emits : ℕ → ℕ
    emits e = sum_of (tasks job e) (λ a. weight_on e (sent job lines cut takes offsets e a))

    arrives : ℕ → ℕ
    arrives e = sum_of (tasks job (suc e)) (λ b. weight_on e (taken job lines cut takes offsets e b))

    over_edges : IsJob job → n ≤ last_edge job → on_edges cut + emits 0 ≡ on_edges (next job lines cut takes offsets) + arrives n
    unfolding emits arrives
    over_edges is low = along add_numbers 0 numbers n
        (λ e. weight_on e (in_flight job cut e)) (λ e. weight_on e (in_flight job (next job lines cut takes offsets) e)) emits arrives
        (λ e here. over_edge job lines cut takes offsets is add_numbers 0 numbers e (omega arith) (weight_on e) (weight_adds e))
        (λ e here. total-ext add_numbers 0 numbers (tasks job (suc e)) _ _ (λ b _. ap bytes_of (reach-all job e n here low (taken job lines cut takes offsets e b))))
        n (omega arith)

    lines_before : Rises job cut.offsets offsets → in_lines cut.offsets ≡ emits 0 + in_lines offsets
    unfolding emits
    lines_before rise =
        total-ext add_numbers 0 numbers (tasks job 0) _ _ (λ a here.
        ap (weight_on 0) (drop-drop (lines a) (cut.offsets a) (offsets a) (rise a here))
        ∙ (weight_adds 0).append (slice_range (lines a) (cut.offsets a) (offsets a)) (drop (offsets a) (lines a)))
        ∙ total-op add_numbers 0 numbers (tasks job 0) _ _

    arrived : arrives n ≡ sum_of (tasks job (suc n)) (λ b. bytes_of (taken job lines cut takes offsets n b))
    unfolding arrives
    arrived = total-ext add_numbers 0 numbers (tasks job (suc n)) _ _ (λ b _. ap bytes_of (reach-same job n (taken job lines cut takes offsets n b)))

    pub load_falls : IsJob job → n ≤ last_edge job → Rises job cut.offsets offsets →
        load job lines cut n ≡ load job lines (next job lines cut takes offsets) n + sum_of (tasks job (suc n)) (λ b. bytes_of (taken job lines cut takes offsets n b))
    load_falls is low rise =
        let before = load_is cut in
        let later = load_is (next job lines cut takes offsets) in
        let edges = over_edges is low in
        let read = lines_before rise in
        omega (arith, before, later, edges, read, arrived)

  -- what is in flight on a channel is a part of the load
  pub flight_in_load : (cut : Cut) (a b : ℕ) → is_channel job n a b ≡ true → bytes_of (cut.flight n a b) ≤ load job lines cut n
  flight_in_load cut a b on =
      let ends = ends_of job n a b on in
      let all = load_is cut in
      let edge = one_of_sum (suc n) (λ e. weight_on e (in_flight job cut e)) n (omega arith) in
      let here = ap bytes_of (reach-same job n (in_flight job cut n)) in
      let senders = weigh-concat_below bytes_add (tasks job n) (λ a. concat_below (tasks job (suc n)) (λ b. on_channel job n a b (cut.flight n a b))) in
      let sender = one_of_sum (tasks job n) (λ a. bytes_of (concat_below (tasks job (suc n)) (λ b. on_channel job n a b (cut.flight n a b)))) a ends.sender in
      let receivers = weigh-concat_below bytes_add (tasks job (suc n)) (λ b. on_channel job n a b (cut.flight n a b)) in
      let receiver = one_of_sum (tasks job (suc n)) (λ b. bytes_of (on_channel job n a b (cut.flight n a b))) b ends.receiver in
      let it = ap bytes_of (cond-true (is_channel job n a b) (cut.flight n a b) [] on) in
      omega (arith, all, edge, here, senders, sender, receivers, receiver, it)
