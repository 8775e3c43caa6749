-- An image that can't be spelled comes only where there was so much to come.
use Rattle.std.proofs.Common.{◌≡◌, ℕ, zero, suc, ◌+◌, ◌-◌, ◌<◌, ◌≤◌, ◌⊎◌, true, false, cond, List, [], ◌∷◌, ◌++◌, length, get_or, take, Option, refl, sym, ap, ◌∙◌, arith, inl, inr, length-append}
use Rattle.std.specs.Prelude.{slice_index, is_some, unwrap_or, ◌^◌}
use Rattle.std.specs.List.{AllByRecursion}
use Rattle.std.specs.Option.{option_map_or}
use Rattle.std.specs.FinMap.{entries, empty, entries-insert, entries_sorted, get}
use Rattle.std.specs.FinMap.Entries.{length-put, find}
use Rattle.std.proofs.lemmas.Cmp.{nat_list_cmp_total}
use Rattle.std.proofs.lemmas.Bool.{cases_lt, eq-eqb}
use Rattle.std.proofs.lemmas.Option.{slice_get-get_or}
use Rattle.std.proofs.lemmas.List.Concat.{length-flat_map}
use Rattle.std.proofs.lemmas.List.{length-take-le}
use Rattle.flow_defs.specs.declared.job.Job.{Job}
use Rattle.flow_defs.specs.declared.job.AggKind.{AggKind}
use Rattle.flow_defs.specs.declared.job.Exchange.{Exchange}
use Rattle.flow_defs.specs.declared.job.Exchange.TheVariants.{Hash, Rebalance, Forward}
use Rattle.flow_defs.specs.declared.image.TakeRun.{TakeRun}
use Rattle.flow_defs.specs.declared.image.Image.{Image}
use Rattle.flow_defs.specs.Items.{Items}
use Rattle.flow_defs.specs.Records.{encoded, spans}
use Rattle.flow_defs.specs.Jobs.{last_edge, tasks, exchange, joins, is_channel, width, edge_width, sum_below, IsJob}
use Rattle.flow_defs.specs.Tables.{Values, key_cmp, add, row_of, add_all}
use Rattle.plain_machine.specs.Cuts.{Cut, SameCut, start}
use Rattle.plain_machine.specs.Weaving.{behind, woven, CanWeave}
use Rattle.plain_machine.specs.Steps.{sent, taken, avail}
use Rattle.plain_machine.specs.Worth.{concat_below, load}
use Rattle.plain_machine.specs.Places.{receiving_tasks, channels, receiver_place, channel_place, place_on_edge}
use Rattle.plain_machine.specs.Images.{items_at, saved, cut_of, takes_of, AreRuns, AreSpans}
use Rattle.plain_machine.specs.Chains.{cut_after, Follows, Chain}
use Rattle.plain_machine.specs.Spelling.{CanSpell}
use Rattle.plain_machine.specs.SizeTheorems.{LargeImageIsOfLoad, LargeImageIsOfHeavyEdge}
use Rattle.plain_machine.proofs.KeySums.{entries-empty}
use Rattle.plain_machine.proofs.PlaceLemmas.{length-concat_below, length-each, sum_same, channels_fill}
use Rattle.plain_machine.proofs.Channels.{channel_of}
use Rattle.plain_machine.proofs.SpanLemmas.{spans_of}
use Rattle.plain_machine.proofs.ChainLemmas.{to_come-same}
use Rattle.plain_machine.proofs.StartLemmas.{start_is_start}
use Rattle.plain_machine.proofs.LoadLemmas.{bytes_of, fewer_records, sum_of, one_of_sum, load_falls, flight_in_load}

-- ---- keys

abbrev keys_of : Values → ℕ
keys_of table = length (entries table)

-- a record makes at most one key more
one_key : (agg : AggKind) (table : Values) (r : List ℕ) → keys_of (add agg table r) ≤ keys_of table + 1
one_key agg table r =
    let row = row_of agg r in
    let put_in = ap length (entries-insert {X = ℕ} nat_list_cmp_total table row.0 (Rattle.flow_defs.specs.Aggregates.folded agg (unwrap_or (get table row.0) 0) row.1)) in
    let many = length-put key_cmp nat_list_cmp_total row.0 (Rattle.flow_defs.specs.Aggregates.folded agg (unwrap_or (get table row.0) 0) row.1) (entries table) (entries_sorted table) in
    let most : (b : _) → cond b (keys_of table) (keys_of table + 1) ≤ keys_of table + 1 = λ b. elim b as (λ b. cond b (keys_of table) (keys_of table + 1) ≤ keys_of table + 1) [ true ↦ omega arith | false ↦ omega arith ] in
    let this = most (is_some (find key_cmp row.0 (entries table))) in
    omega (arith, put_in, many, this)

more_keys : (agg : AggKind) (table : Values) (records : List (List ℕ)) → keys_of (add_all agg table records) ≤ keys_of table + length records
more_keys agg table [] = omega arith
more_keys agg table (r ∷ records) =
    let one = one_key agg table r in
    let deep = more_keys agg (add agg table r) records in
    omega (arith, one, deep)

-- ---- runs

-- each run takes a record at least
all_some : (job : Job) (e b : ℕ) (runs : List TakeRun) → AreRuns job e b runs → AllByRecursion (λ (run : TakeRun). 1 ≤ run.count) runs
all_some job e b [] are = tt
all_some job e b (run ∷ []) are = (are.1, tt)
all_some job e b (run ∷ other ∷ runs) are = (are.1, all_some job e b (other ∷ runs) are.3)

fewer_runs : (runs : List TakeRun) (avail : ℕ → List (List ℕ)) → AllByRecursion (λ (run : TakeRun). 1 ≤ run.count) runs → CanWeave runs avail → length runs ≤ length (woven runs avail)
fewer_runs [] avail some can = omega arith
fewer_runs (run ∷ runs) avail some can =
    let one = some.0 in
    let first = length-take-le run.count (avail run.from) can.0 in
    let deep = fewer_runs runs (behind run avail) some.1 can.1 in
    let both = length-append (take run.count (avail run.from)) (woven runs (behind run avail)) in
    omega (arith, one, first, deep, both)

-- ---- saved bytes

saved_bytes : (bytes : List ℕ) → AreSpans bytes → length bytes ≡ bytes_of (spans bytes)
saved_bytes bytes are =
    let records = are.0 in
    ap length (sym are.1.whole) ∙ length-flat_map encoded records ∙ ap bytes_of (sym (spans_of bytes records are.1))

-- ---- the load of a cut, its tables' keys with it

record Falls (job : Job) (lines : ℕ → List (List ℕ)) (old new : Cut) : Type 0 where
  loads : (e : ℕ) → e ≤ last_edge job → load job lines new e ≤ load job lines old e
  keys : (b : ℕ) → b < tasks job (suc (last_edge job)) → keys_of (new.tables b) + load job lines new (last_edge job) ≤ keys_of (old.tables b) + load job lines old (last_edge job)

load_same : (job : Job) (lines : ℕ → List (List ℕ)) (c d : Cut) → SameCut job c d → (e : ℕ) → load job lines c e ≡ load job lines d e
load_same job lines c d same e = ap bytes_of (to_come-same job lines c d same e)

module _ (job : Job) (lines : ℕ → List (List ℕ)) (every : Option ℕ) (is : IsJob job) (old new : Image) (follows : Follows job lines every old new) where
  load_behind : (e : ℕ) → e ≤ last_edge job →
      load job lines (cut_of job old) e ≡ load job lines (cut_of job new) e + sum_of (tasks job (suc e)) (λ b. bytes_of (taken job lines (cut_of job old) (takes_of job new) (slice_index new.offsets.items) e b))
  load_behind e low =
      load_falls job lines e (cut_of job old) (takes_of job new) (slice_index new.offsets.items) is low follows.defined.rise
      ∙ ap (λ k. k + sum_of (tasks job (suc e)) (λ b. bytes_of (taken job lines (cut_of job old) (takes_of job new) (slice_index new.offsets.items) e b)))
      (sym (load_same job lines (cut_of job new) (cut_after job lines old new) follows.same e))

  -- a task takes no more records than the load of its edge has bytes
  taken_in_load : (e b : ℕ) → e ≤ last_edge job → b < tasks job (suc e) →
      length (taken job lines (cut_of job old) (takes_of job new) (slice_index new.offsets.items) e b) + load job lines (cut_of job new) e ≤ load job lines (cut_of job old) e
  taken_in_load e b low here =
      let all = load_behind e low in
      let took = taken job lines (cut_of job old) (takes_of job new) (slice_index new.offsets.items) e in
      let one = one_of_sum (tasks job (suc e)) (λ b. bytes_of (took b)) b here in
      let few = fewer_records (took b) in
      omega (arith, all, one, few)

  step_falls : Falls job lines (cut_of job old) (cut_of job new)
  step_falls = record {
    loads = λ e low. let all = load_behind e low in omega (arith, all);
    keys = λ b here.
        let took = taken job lines (cut_of job old) (takes_of job new) (slice_index new.offsets.items) (last_edge job) b in
        let same = ap keys_of (follows.same.tables b here) in
        let more = more_keys job.agg ((cut_of job old).tables b) took in
        let most = taken_in_load (last_edge job) b (omega arith) here in
        omega (arith, same, more, most);
  }

  runs_in_load : (e b : ℕ) → e ≤ last_edge job → b < tasks job (suc e) → length (takes_of job new (suc e) b) ≤ load job lines (cut_of job old) e
  runs_in_load e b low here =
      let most = taken_in_load e b low here in
      let runs = takes_of job new (suc e) b in
      let few = fewer_runs runs (avail job lines (cut_of job old) (takes_of job new) (slice_index new.offsets.items) e b (sent job lines (cut_of job old) (takes_of job new) (slice_index new.offsets.items) e)) (all_some job e b runs (follows.fits.runs e b low here)) (follows.defined.enough e b low here) in
      omega (arith, most, few)

  saved_in_load : (e a b : ℕ) → e ≤ last_edge job → is_channel job e a b ≡ true → length (saved job new e a b) ≤ load job lines (cut_of job old) e
  saved_in_load e a b low on =
      let bytes = saved_bytes (saved job new e a b) (follows.fits.spans e a b on) in
      let flight = flight_in_load job lines e (cut_of job new) a b on in
      let falls = step_falls.loads e low in
      omega (arith, bytes, flight, falls)

-- the last image of a chain follows one at which no more is to come than at the base
record IsLast (job : Job) (lines : ℕ → List (List ℕ)) (every : Option ℕ) (base image : Image) : Type 0 where
  old : Image
  falls : Falls job lines (cut_of job base) (cut_of job old)
  follows : Follows job lines every old image

last_follows : (job : Job) (lines : ℕ → List (List ℕ)) (every : Option ℕ) (base : Image) (images : List Image) (image : Image) → IsJob job → Chain job lines every base (images ++ image ∷ []) → IsLast job lines every base image
last_follows job lines every base [] image is chain = record {
  old = base;
  falls = record { loads = λ e low. omega arith; keys = λ b here. omega arith };
  follows = chain.0;
}
last_follows job lines every base (next ∷ images) image is chain =
    let deep = last_follows job lines every next images image is chain.1 in
    let first = step_falls job lines every is base next chain.0 in
    record {
      old = deep.old;
      falls = record {
        loads = λ e low. let a = first.loads e low in let b = deep.falls.loads e low in omega (arith, a, b);
        keys = λ b here. let x = first.keys b here in let y = deep.falls.keys b here in omega (arith, x, y);
      };
      follows = deep.follows;
    }

-- ---- each place of a list is that of a task or a channel

record Part (n : ℕ) (f : ℕ → ℕ) (k : ℕ) : Type 0 where
  i : ℕ
  low : i < n
  j : ℕ
  inside : j < f i
  place : sum_below i f + j ≡ k

part_of : (n : ℕ) (f : ℕ → ℕ) (k : ℕ) → k < sum_below n f → Part n f k
part_of zero f k low = absurd (omega arith)
part_of (suc n) f k low = elim (cases_lt k (sum_below n f)) [
  | inl below ↦ let deep = part_of n f k below in record { i = deep.i; low = (let l = deep.low in omega (arith, l)); j = deep.j; inside = deep.inside; place = deep.place }
  | inr above ↦ record { i = n; low = omega arith; j = k - sum_below n f; inside = omega (arith, low, above); place = omega (arith, above) }
]

-- the tasks that a place on an edge is that of
record Joined (x : Exchange) (m n k : ℕ) : Type 0 where
  a : ℕ
  b : ℕ
  sender : a < m
  receiver : b < n
  joined : joins x a b ≡ true
  place : place_on_edge x n a b ≡ k

joined_at : (x : Exchange) (m n k : ℕ) → (x ≡ Forward → m ≡ n) → k < width x m n → Joined x m n k
joined_at Hash m n k wide low =
    let all = sum_same m n in
    let part = part_of m (λ _. n) k (omega (arith, low, all)) in
    let rows = sum_same part.i n in
    record { a = part.i; b = part.j; sender = part.low; receiver = part.inside; joined = refl; place = (let is = part.place in omega (arith, is, rows)) }
joined_at Rebalance m n k wide low =
    let all = sum_same m n in
    let part = part_of m (λ _. n) k (omega (arith, low, all)) in
    let rows = sum_same part.i n in
    record { a = part.i; b = part.j; sender = part.low; receiver = part.inside; joined = refl; place = (let is = part.place in omega (arith, is, rows)) }
joined_at Forward m n k wide low = record { a = k; b = k; sender = low; receiver = (let same = wide refl in omega (arith, same, low)); joined = eq-eqb k k refl; place = refl }

record IsChannelAt (job : Job) (k : ℕ) : Type 0 where
  e : ℕ
  a : ℕ
  b : ℕ
  edge : e ≤ last_edge job
  on : is_channel job e a b ≡ true
  place : channel_place job e a b ≡ k

channel_at : (job : Job) (k : ℕ) → IsJob job → k < length (channels job) → IsChannelAt job k
channel_at job k is low =
    let all = channels_fill job is in
    let part = part_of (suc (last_edge job)) (edge_width job) k (omega (arith, low, all)) in
    let edge : part.i ≤ last_edge job = (let l = part.low in omega (arith, l)) in
    let ends = joined_at (exchange job part.i) (tasks job part.i) (tasks job (suc part.i)) part.j (is.widths part.i edge) part.inside in
    record {
      e = part.i;
      a = ends.a;
      b = ends.b;
      edge = edge;
      on = channel_of job part.i ends.a ends.b (record { edge = edge; sender = ends.sender; receiver = ends.receiver; joined = ends.joined });
      place = ap (λ j. sum_below part.i (edge_width job) + j) ends.place ∙ part.place;
    }

record IsReceiverAt (job : Job) (k : ℕ) : Type 0 where
  e : ℕ
  b : ℕ
  edge : e ≤ last_edge job
  task : b < tasks job (suc e)
  place : receiver_place job e b ≡ k

receiver_at : (job : Job) (k : ℕ) → k < length (receiving_tasks job) → IsReceiverAt job k
receiver_at job k low =
    let all = length-concat_below {X = ℕ × ℕ} (suc (last_edge job)) (λ e. concat_below (tasks job (suc e)) (λ b. (suc e, b) ∷ [])) (λ e. tasks job (suc e)) (λ i _. length-each (tasks job (suc i)) (λ b. (suc i, b))) in
    let part = part_of (suc (last_edge job)) (λ e. tasks job (suc e)) k (omega (arith, low, all)) in
    record { e = part.i; b = part.j; edge = (let l = part.low in omega (arith, l)); task = part.inside; place = part.place }

-- ---- where no more is to come, an image can be spelled

abbrev Small : Job → (ℕ → List (List ℕ)) → Cut → Type 0
Small job lines cut = (b e : ℕ) → b < tasks job (suc (last_edge job)) → e < suc (last_edge job) → keys_of (cut.tables b) + load job lines cut e ≤ 4294967295

items_are : {X : Type 0} (lists : List (Items X)) (k : ℕ) (d : Items X) → k < length lists → items_at lists k ≡ (get_or lists k d).items
items_are {X = X} lists k d low = ap (λ (o : Option (Items X)). option_map_or (λ (l : Items X). l.items) o []) (slice_get-get_or lists k d low)

module _ (job : Job) (lines : ℕ → List (List ℕ)) (every : Option ℕ) (base image : Image) (is : IsJob job) (last : IsLast job lines every base image) (small : Small job lines (cut_of job base)) where
  edge_small : (e : ℕ) → e ≤ last_edge job → load job lines (cut_of job last.old) e ≤ 4294967295
  edge_small e low =
      let task = (is.counts (suc (last_edge job)) (omega arith)).0 in
      let most = small 0 e (omega (arith, task)) (omega (arith, low)) in
      let falls = last.falls.loads e low in
      omega (arith, most, falls)

  keys_small : (b : ℕ) (d : Values) → b < length image.tables.items → keys_of (get_or image.tables.items b d) < 2 ^ 32
  keys_small b d low =
      let here : b < tasks job (suc (last_edge job)) = (let many = last.follows.fits.tables in omega (arith, low, many)) in
      let it = ap (λ (o : Option Values). keys_of (unwrap_or o empty)) (slice_get-get_or image.tables.items b d low) in
      let most = small b (last_edge job) here (omega arith) in
      let old = last.falls.keys b here in
      let new = (step_falls job lines every is last.old image last.follows).keys b here in
      omega (arith, it, most, old, new)

  runs_small : (k : ℕ) (d : Items TakeRun) → k < length image.takes.items → length (get_or image.takes.items k d).items < 2 ^ 32
  runs_small k d low =
      let at = receiver_at job k (let many = last.follows.fits.takes in omega (arith, low, many)) in
      let it = ap length (ap (items_at image.takes.items) at.place ∙ items_are image.takes.items k d low) in
      let most = runs_in_load job lines every is last.old image last.follows at.e at.b at.edge at.task in
      let load_most = edge_small at.e at.edge in
      omega (arith, it, most, load_most)

  saved_small : (k : ℕ) → k < length (channels job) → length (items_at image.saved_in.items k ++ items_at image.saved_out.items k) ≤ 4294967295
  saved_small k low =
      let at = channel_at job k is low in
      let it = ap (λ j. length (items_at image.saved_in.items j ++ items_at image.saved_out.items j)) at.place in
      let most = saved_in_load job lines every is last.old image last.follows at.e at.a at.b at.edge at.on in
      let load_most = edge_small at.e at.edge in
      omega (arith, it, most, load_most)

  in_small : (k : ℕ) (d : Items ℕ) → k < length image.saved_in.items → length (get_or image.saved_in.items k d).items < 2 ^ 32
  in_small k d low =
      let both = saved_small k (let many = last.follows.fits.saved_in in omega (arith, low, many)) in
      let it = ap length (items_are image.saved_in.items k d low) in
      let sum = length-append (items_at image.saved_in.items k) (items_at image.saved_out.items k) in
      omega (arith, both, it, sum)

  out_small : (k : ℕ) (d : Items ℕ) → k < length image.saved_out.items → length (get_or image.saved_out.items k d).items < 2 ^ 32
  out_small k d low =
      let both = saved_small k (let many = last.follows.fits.saved_out in omega (arith, low, many)) in
      let it = ap length (items_are image.saved_out.items k d low) in
      let sum = length-append (items_at image.saved_in.items k) (items_at image.saved_out.items k) in
      omega (arith, both, it, sum)

  can_spell : CanSpell image
  can_spell = record {
    number = let next = last.follows.number in omega (arith, next);
    keys = keys_small;
    runs = runs_small;
    pieces_in = in_small;
    pieces_out = out_small;
  }

-- ---- either some number is above the bound, or none is

first_over : (most n : ℕ) (f : ℕ → ℕ) → ((i : ℕ) × (i < n) × (most < f i)) ⊎ ((i : ℕ) → i < n → f i ≤ most)
first_over most zero f = inr (λ i low. absurd (omega arith))
first_over most (suc n) f = elim (cases_lt most (f n)) [
  | inl over ↦ inl (n, omega arith, over)
  | inr within ↦ elim (first_over most n f) [
    | inl found ↦ inl (found.0, (let low = found.1 in omega (arith, low)), found.2)
    | inr none ↦ inr (λ i low. elim (cases_lt i n) [
      | inl below ↦ none i below
      | inr above ↦ let same : f i ≡ f n = ap f (let z : i ≡ n = omega arith in z) in omega (arith, same, within)
    ])
  ]
]

abbrev OneOver : ℕ → ℕ → ℕ → (ℕ → ℕ → ℕ) → Type 0
OneOver most n m f = (b : ℕ) × (e : ℕ) × (b < n) × (e < m) × (most < f b e)

one_over : (most n m : ℕ) (f : ℕ → ℕ → ℕ) → OneOver most n m f ⊎ ((b e : ℕ) → b < n → e < m → f b e ≤ most)
one_over most zero m f = inr (λ b e low. absurd (omega arith))
one_over most (suc n) m f = elim (first_over most m (f n)) [
  | inl found ↦ inl (n, found.0, omega arith, found.1, found.2)
  | inr none ↦ elim (one_over most n m f) [
    | inl found ↦ inl (found.0, found.1, (let low = found.2 in omega (arith, low)), found.3, found.4)
    | inr others ↦ inr (λ b e low here. elim (cases_lt b n) [
      | inl below ↦ others b e below here
      | inr above ↦ let same : f b e ≡ f n e = ap (λ k. f k e) (let z : b ≡ n = omega arith in z) in let last = none e here in omega (arith, same, last)
    ])
  ]
]

pub large_image_is_of_load : LargeImageIsOfLoad
large_image_is_of_load job lines every base images image is chain large =
    let cut = cut_of job base in
    elim (one_over 4294967295 (tasks job (suc (last_edge job))) (suc (last_edge job)) (λ b e. keys_of (cut.tables b) + load job lines cut e)) [
      | inl found ↦ record { table = found.0; is_table = found.2; edge = found.1; is_edge = (let low = found.3 in omega (arith, low)); over = found.4 }
      | inr small ↦ absurd (large (can_spell job lines every base image is (last_follows job lines every base images image is chain) small))
    ]

pub large_image_is_of_heavy_edge : LargeImageIsOfHeavyEdge
large_image_is_of_heavy_edge job lines every base images image is begins chain large =
    let over = large_image_is_of_load job lines every base images image is chain large in
    let same = start_is_start job base begins in
    let none = ap keys_of (same.tables over.table over.is_table) ∙ ap length entries-empty in
    let loads = load_same job lines (cut_of job base) start same over.edge in
    record { edge = over.edge; is_edge = over.is_edge; over = (let sum = over.over in omega (arith, sum, none, loads)) }
