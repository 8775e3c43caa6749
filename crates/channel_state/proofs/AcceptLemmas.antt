-- No image is refused: what it spells has no fault.
use Rattle.std.proofs.Common.{◌≡◌, ◌≢◌, ℕ, zero, suc, ◌+◌, ◌^◌, ◌<◌, ◌≤◌, Bool, true, false, T, not, ◌&&◌, ◌||◌, eqb, cond, List, [], ◌∷◌, ◌++◌, length, drop, get_or, Option, Some, None, is_none, Result, Ok, Err, refl, sym, ap, subst, ◌∙◌, append_assoc, append-nil, arith, inl, inr}
use Rattle.std.specs.Prelude.{flat_map, zip, All, nat_le, slice_get, slice_index, codes, IsTrue}
use Rattle.std.specs.List.{AllByRecursion}
use Rattle.std.specs.Option.{option_map_or}
use Rattle.std.specs.Ordering.{is_lt}
use Rattle.std.specs.Int.{w32, w64, to_be_bytes, from_be_bytes}
use Rattle.std.specs.FinMap.{entries, entries_sorted}
use Rattle.std.specs.FinMap.Entries.{is_sorted, below_all}
use Rattle.std.proofs.lemmas.Bool.{and_parts, and_from, le-leb, ltb-true, eq-eqb, ne_eqb, not_from_false}
use Rattle.std.proofs.lemmas.List.{nil_from_length}
use Rattle.std.proofs.lemmas.List.Elements.{recursion_from_All}
use Rattle.std.proofs.lemmas.List.Concat.{flat_map-cons}
use Rattle.flow_defs.specs.declared.TheConstants.{RECORD_MAX}
use Rattle.flow_defs.specs.declared.job.Job.{Job}
use Rattle.flow_defs.specs.declared.image.TakeRun.{TakeRun}
use Rattle.flow_defs.specs.declared.image.Image.{Image}
use Rattle.flow_defs.specs.Items.{Items}
use Rattle.flow_defs.specs.Jobs.{last_edge, tasks, is_channel, sum_below, IsJob}
use Rattle.flow_defs.specs.Records.{IsShort}
use Rattle.flow_defs.specs.Tables.{Values, key_cmp}
use Rattle.plain_machine.specs.Places.{sending_tasks, channels, receiver_place, channel_place}
use Rattle.plain_machine.specs.Images.{items_at, saved, takes_of, AreRuns, AreSpans, HasShortKeys, Fits}
use Rattle.plain_machine.specs.Spelling.{flag_part, sized, counted, source_part, row_part, run_part, channel_part, spelling, CanSpell}
use Rattle.plain_machine.proofs.Channels.{ends_of}
use Rattle.plain_machine.proofs.PlaceLemmas.{sum_below-within}
use Rattle.job_text.specs.KnownKinds.{every_kind}
use Rattle.job_text.specs.Shapes.{shape_of, said, job_of}
use Rattle.job_text.proofs.Law.{accepted}
use Rattle.job_text.proofs.ShapeLemmas.{says_shape, same_shape, shaped_job}
use Rattle.channel_state.specs.Contents.{FitsItsText, HasRange, TEXT_MOST}
use Rattle.channel_state.specs.Reading.{Reading, Passing, ◌>>=◌, byte, flag, number, piece, mark, tested, parts_from, parts, nothing}
use Rattle.channel_state.specs.ImageFaults.{is_text, source, emitted, is_key, rows, table, is_sender, runs, takes, may_save, are_records, channel, body, image, place_in, image_fault}
use Rattle.channel_state.specs.Building.{ArePieces, table_part, takes_part}
use Rattle.channel_state.proofs.FieldLemmas.{tested_again, number_again, number_passed, wide32, wide64, piece_again, flag_again, mark_again}
use Rattle.channel_state.proofs.RecordLemmas.{records_spelled}
use Rattle.channel_state.proofs.FitsLemmas.{many_receive, same_fits, OfChannel, of_channel}

-- ---- parts

module _ {X : Type 0} (spell : X → List ℕ) where
  one_first : (x : X) (xs : List X) (rest : List ℕ) → flat_map spell (x ∷ xs) ++ rest ≡ spell x ++ (flat_map spell xs ++ rest)
  one_first x xs rest = ap (λ l. l ++ rest) (flat_map-cons spell x xs) ∙ append_assoc (spell x) (flat_map spell xs) rest

  parts_again : (part : List ℕ → Passing) (xs : List X) (i : ℕ) (rest : List ℕ) → AllByRecursion (λ x. (rest : List ℕ) → part (spell x ++ rest) ≡ Ok rest) xs → parts_from i (length xs) (λ k. part) (flat_map spell xs ++ rest) ≡ Ok rest
  unfolding parts_from
  parts_again part [] i rest all = refl
  parts_again part (x ∷ xs) i rest all =
      ap (parts_from i (suc (length xs)) (λ k. part)) (one_first x xs rest) ∙ ap (λ (r : Passing). r >>= λ after. parts_from (suc i) (length xs) (λ k. part) after) (all.0 (flat_map spell xs ++ rest)) ∙ parts_again part xs (suc i) rest all.1

-- parts along the bytes at each of them
parts_along : (at : ℕ → List ℕ) (part : ℕ → List ℕ → Passing) (n i : ℕ) → ((k : ℕ) → i ≤ k → k < i + n → part k (at k) ≡ Ok (at (suc k))) → parts_from i n part (at i) ≡ Ok (at (i + n))
unfolding parts_from
parts_along at part zero i each = ap (λ k. let r : Passing = Ok (at k) in r) (let z : i ≡ i + 0 = omega arith in z)
parts_along at part (suc n) i each =
    ap (λ (r : Passing). r >>= λ after. parts_from (suc i) n part after) (each i (omega arith) (omega arith)) ∙ parts_along at part n (suc i) (λ k low high. each k (omega (arith, low)) (omega (arith, high)))
    ∙ ap (λ k. let r : Passing = Ok (at k) in r) (let z : suc i + n ≡ i + suc n = omega arith in z)

map_all : {X : Type 0} (P Q : X → Type 0) (xs : List X) → ((x : X) → P x → Q x) → AllByRecursion P xs → AllByRecursion Q xs
map_all P Q [] f all = tt
map_all P Q (x ∷ xs) f all = (f x all.0, map_all P Q xs f all.1)

both_all : {X : Type 0} (P Q : X → Type 0) (xs : List X) → AllByRecursion P xs → AllByRecursion Q xs → AllByRecursion (λ x. P x × Q x) xs
both_all P Q [] p q = tt
both_all P Q (x ∷ xs) p q = ((p.0, q.0), both_all P Q xs p.1 q.1)

any_all : {X : Type 0} (P : X → Type 0) (xs : List X) → ((x : X) → P x) → AllByRecursion P xs
any_all P [] f = tt
any_all P (x ∷ xs) f = (f x, any_all P xs f)

length-zip : {X Y : Type 0} (xs : List X) (ys : List Y) → length xs ≡ length ys → length (zip xs ys) ≡ length xs
length-zip [] [] same = refl
length-zip [] (y ∷ ys) same = refl
length-zip (x ∷ xs) [] same = absurd (omega (arith, same))
length-zip (x ∷ xs) (y ∷ ys) same = ap suc (length-zip xs ys (omega (arith, same)))

-- ---- sources and counts

ended_test : (last e : Bool) → (last ≡ true → e ≡ true) → (not last || e) ≡ true
ended_test true e is = is refl
ended_test false e is = refl

source_again : (last : Bool) (s : ℕ × Bool) → (last ≡ true → s.1 ≡ true) → (rest : List ℕ) → source last (source_part s ++ rest) ≡ Ok rest
unfolding source
source_again last s is rest =
    let test = λ (ended : Bool). not last || ended in
    ap (λ (r : Reading ℕ). r >>= λ offset. tested test flag offset.1 >>= λ ended. Ok ended.1) (ap (number w64) (append_assoc (to_be_bytes w64 s.0) (flag_part s.1) rest) ∙ number_passed w64 (2 ^ 64) wide64 s.0 (flag_part s.1 ++ rest))
    ∙ ap (λ (r : Reading Bool). r >>= λ ended. let p : Passing = Ok ended.1 in p) (tested_again test flag (flag_part s.1 ++ rest) (s.1, rest) (flag_again s.1 rest) (ended_test last s.1 is))

sources_end : (last : Bool) (offsets : List ℕ) (ended : List Bool) → (last ≡ true → AllByRecursion (λ e. e ≡ true) ended) → AllByRecursion (λ (s : ℕ × Bool). last ≡ true → s.1 ≡ true) (zip offsets ended)
sources_end last [] ended all = tt
sources_end last (o ∷ offsets) [] all = tt
sources_end last (o ∷ offsets) (e ∷ ended) all = ((λ is. (all is).0), sources_end last offsets ended (λ is. (all is).1))

count_again : (n : ℕ) (rest : List ℕ) → emitted (to_be_bytes w64 n ++ rest) ≡ Ok rest
unfolding emitted
count_again n rest = ap (λ (r : Reading ℕ). r >>= λ count. let p : Passing = Ok count.1 in p) (number_passed w64 (2 ^ 64) wide64 n rest)

-- ---- tables

holds : (b : Bool) → T b → b ≡ true
holds true t = refl
holds false t = absurd t

left_of : (a b : Bool) → T (a && b) → T a
left_of true b t = tt
left_of false b t = absurd t

right_of : (a b : Bool) → T (a && b) → T b
right_of true b t = t
right_of false b t = absurd t

-- each key may follow the one before it
abbrev Rise : Option (List ℕ) → List (List ℕ × ℕ) → Type 0
Rise before [] = Unit {0}
Rise before (row ∷ rows) = (is_key before row.0 ≡ true) × Rise (Some row.0) rows

rise_behind : (before : Option (List ℕ)) (row : List ℕ × ℕ) (rows : List (List ℕ × ℕ)) → T (is_sorted key_cmp (row ∷ rows)) → AllByRecursion (λ (row : List ℕ × ℕ). IsShort row.0) (row ∷ rows)
    → option_map_or (λ other. is_lt (key_cmp other row.0)) before true ≡ true → Rise before (row ∷ rows)
rise_behind before row [] sorted short first = (and_from _ _ (le-leb _ _ short.0) first, tt)
rise_behind before row (next ∷ rows) sorted short first =
    let below = left_of (below_all key_cmp row.0 (next ∷ rows)) (is_sorted key_cmp (next ∷ rows)) sorted in
    let less = left_of (is_lt (key_cmp row.0 next.0)) (below_all key_cmp row.0 rows) below in (
      and_from _ _ (le-leb _ _ short.0) first,
      rise_behind (Some row.0) next rows (right_of (below_all key_cmp row.0 (next ∷ rows)) (is_sorted key_cmp (next ∷ rows)) sorted) short.1 (holds (is_lt (key_cmp row.0 next.0)) less),
    )

rise : (rows : List (List ℕ × ℕ)) → T (is_sorted key_cmp rows) → AllByRecursion (λ (row : List ℕ × ℕ). IsShort row.0) rows → Rise None rows
rise [] sorted short = tt
rise (row ∷ rows) sorted short = rise_behind None row rows sorted short refl

rows_again : (list : List (List ℕ × ℕ)) (before : Option (List ℕ)) (rest : List ℕ) → Rise before list → AllByRecursion (λ (row : List ℕ × ℕ). IsShort row.0) list → rows (length list) before (flat_map row_part list ++ rest) ≡ Ok rest
unfolding rows
rows_again [] before rest up short = refl
rows_again (row ∷ list) before rest up short =
    let key = row.0 in
    let value = row.1 in
    let more = flat_map row_part list ++ rest in
    let n = length list in
    let k : length key < 2 ^ 32 = (let s = short.0 in omega (arith, s)) in
    let then_value = λ (key : List ℕ × List ℕ). number w64 key.1 >>= λ value. rows n (Some key.0) value.1 in
    ap (rows (suc n) before) (one_first row_part row list rest ∙ append_assoc (sized key) (to_be_bytes w64 value) more)
    ∙ ap (λ (r : Reading (List ℕ)). r >>= then_value) (tested_again (is_key before) piece (sized key ++ (to_be_bytes w64 value ++ more)) (key, to_be_bytes w64 value ++ more) (piece_again key (to_be_bytes w64 value ++ more) k) up.0)
    ∙ ap (λ (r : Reading ℕ). r >>= λ value. rows n (Some key) value.1) (number_passed w64 (2 ^ 64) wide64 value more)
    ∙ rows_again list (Some key) rest up.1 short.1

table_again : (t : Values) → length (entries t) < 2 ^ 32 → HasShortKeys t → (rest : List ℕ) → table (table_part t ++ rest) ≡ Ok rest
unfolding table
table_again t few keys rest =
    let list = entries t in
    let short = recursion_from_All (λ (row : List ℕ × ℕ). IsShort row.0) list keys in
    ap (λ (r : Reading ℕ). r >>= λ count. rows count.0 None count.1)
    (ap (number w32) (append_assoc (to_be_bytes w32 (length list)) (flat_map row_part list) rest) ∙ number_again w32 (2 ^ 32) wide32 (length list) (flat_map row_part list ++ rest) few)
    ∙ rows_again list None rest (rise list (entries_sorted t) short) short

-- ---- runs

module _ (job : Job) (e b : ℕ) where
  abbrev Follow : Option ℕ → List TakeRun → Type 0
  Follow before [] = Unit {0}
  Follow before (run ∷ list) = (is_sender job e b before run.from ≡ true) × (1 ≤ run.count) × Follow (Some run.from) list

  follow : (before : Option ℕ) (run : TakeRun) (list : List TakeRun) → AreRuns job e b (run ∷ list) → option_map_or (λ other. not (eqb other run.from)) before true ≡ true → Follow before (run ∷ list)
  follow before run [] are first = (and_from _ _ are.0 first, are.1, tt)
  follow before run (next ∷ list) are first =
      (and_from _ _ are.0 first, are.1, follow (Some run.from) next list are.3 (not_from_false _ (ne_eqb run.from next.from are.2)))

  follow_all : (list : List TakeRun) → AreRuns job e b list → Follow None list
  follow_all [] are = tt
  follow_all (run ∷ list) are = follow None run list are refl

  small_sender : IsJob job → (before : Option ℕ) (a : ℕ) → is_sender job e b before a ≡ true → a < 2 ^ 32
  small_sender is before a may =
      let ends = ends_of job e a b (and_parts _ _ may).0 in
      let low = ends.edge in
      let here = ends.sender in
      let most = (is.counts e (omega (arith, low))).1 in
      omega (arith, here, most)

  runs_again : (list : List TakeRun) (before : Option ℕ) (rest : List ℕ) → IsJob job → Follow before list → AllByRecursion (λ (run : TakeRun). run.count < 2 ^ 64) list → runs job e b (length list) before (flat_map run_part list ++ rest) ≡ Ok rest
  unfolding runs
  runs_again [] before rest is up small = refl
  runs_again (run ∷ list) before rest is up small =
      let more = flat_map run_part list ++ rest in
      let n = length list in
      let mid = to_be_bytes w64 run.count ++ more in
      let then_count = λ (sender : ℕ × List ℕ). tested (nat_le 1) (number w64) sender.1 >>= λ count. runs job e b n (Some sender.0) count.1 in
      ap (runs job e b (suc n) before) (one_first run_part run list rest ∙ append_assoc (to_be_bytes w32 run.from) (to_be_bytes w64 run.count) more)
      ∙ ap (λ (r : Reading ℕ). r >>= then_count)
      (tested_again (is_sender job e b before) (number w32) (to_be_bytes w32 run.from ++ mid) (run.from, mid) (number_again w32 (2 ^ 32) wide32 run.from mid (small_sender is before run.from up.0)) up.0)
      ∙ ap (λ (r : Reading ℕ). r >>= λ count. runs job e b n (Some run.from) count.1)
      (tested_again (nat_le 1) (number w64) mid (run.count, more) (number_again w64 (2 ^ 64) wide64 run.count more small.0) (le-leb _ _ up.1))
      ∙ runs_again list (Some run.from) rest is up.2 small.1

  takes_again : (list : List TakeRun) → IsJob job → length list < 2 ^ 32 → AreRuns job e b list → AllByRecursion (λ (run : TakeRun). run.count < 2 ^ 64) list → (rest : List ℕ) → takes job e b (counted run_part list ++ rest) ≡ Ok rest
  unfolding takes
  takes_again list is few are small rest =
      ap (λ (r : Reading ℕ). r >>= λ count. runs job e b count.0 None count.1)
      (ap (number w32) (append_assoc (to_be_bytes w32 (length list)) (flat_map run_part list) rest) ∙ number_again w32 (2 ^ 32) wide32 (length list) (flat_map run_part list ++ rest) few)
      ∙ runs_again list None rest is (follow_all list are) small

-- the takes at a place, and those behind it
one_at : (all : List (Items TakeRun)) (p : ℕ) (tail : List ℕ) → p < length all → flat_map takes_part (drop p all) ++ tail ≡ counted run_part (items_at all p) ++ (flat_map takes_part (drop (suc p) all) ++ tail)
one_at [] p tail low = absurd (omega (arith, low))
one_at (x ∷ all) zero tail low = one_first takes_part x all tail
one_at (x ∷ all) (suc p) tail low = one_at all p tail (omega (arith, low))

all_at : (P : List TakeRun → Type 0) (all : List (Items TakeRun)) (p : ℕ) → p < length all → AllByRecursion (λ (x : Items TakeRun). P x.items) all → P (items_at all p)
all_at P [] p low each = absurd (omega (arith, low))
all_at P (x ∷ all) zero low each = each.0
all_at P (x ∷ all) (suc p) low each = all_at P all p (omega (arith, low)) each.1

nothing_left : {X : Type 0} (xs : List X) (n : ℕ) → length xs ≤ n → drop n xs ≡ []
nothing_left [] zero low = refl
nothing_left [] (suc n) low = refl
nothing_left (x ∷ xs) zero low = absurd (omega (arith, low))
nothing_left (x ∷ xs) (suc n) low = nothing_left xs n (omega (arith, low))

abbrev passed : List ℕ → Passing
passed bytes = Ok bytes

module _ (job : Job) (all : List (Items TakeRun)) (tail : List ℕ) (is : IsJob job) (many : length all ≡ sum_below (suc (last_edge job)) (λ e. tasks job (suc e)))
    (runs_are : (e b : ℕ) → e ≤ last_edge job → b < tasks job (suc e) → AreRuns job e b (items_at all (receiver_place job e b)))
    (few : AllByRecursion (λ (x : Items TakeRun). length x.items < 2 ^ 32) all) (small : AllByRecursion (λ (x : Items TakeRun). AllByRecursion (λ (run : TakeRun). run.count < 2 ^ 64) x.items) all) where
  abbrev at : ℕ → List ℕ
  at p = flat_map takes_part (drop p all) ++ tail

  inner : (e b : ℕ) → e ≤ last_edge job → b < tasks job (suc e) → takes job e b (at (receiver_place job e b)) ≡ Ok (at (receiver_place job e (suc b)))
  inner e b low here =
      let within = sum_below-within (suc (last_edge job)) (λ e. tasks job (suc e)) e (omega (arith, low)) in
      let p = receiver_place job e b in
      let inside : p < length all = omega (arith, within, here, many) in
      ap (takes job e b) (one_at all p tail inside)
      ∙ takes_again job e b (items_at all p) is (all_at (λ (l : List TakeRun). length l < 2 ^ 32) all p inside few) (runs_are e b low here)
      (all_at (AllByRecursion (λ (run : TakeRun). run.count < 2 ^ 64)) all p inside small) (at (suc p))
      ∙ ap (λ p. passed (at p)) (let n : suc (receiver_place job e b) ≡ receiver_place job e (suc b) = omega arith in n)

  outer : (e : ℕ) → 0 ≤ e → e < 0 + suc (last_edge job) → parts (tasks job (suc e)) (takes job e) (at (receiver_place job e 0)) ≡ Ok (at (receiver_place job (suc e) 0))
  outer e z low =
      parts_along (λ b. at (receiver_place job e b)) (takes job e) (tasks job (suc e)) 0 (λ b z' here. inner e b (omega (arith, low)) (omega (arith, here)))
      ∙ ap (λ p. passed (at p)) (let n : receiver_place job e (0 + tasks job (suc e)) ≡ receiver_place job (suc e) 0 = omega arith in n)

  all_takes_again : parts (suc (last_edge job)) (λ e. parts (tasks job (suc e)) (takes job e)) (flat_map takes_part all ++ tail) ≡ Ok tail
  all_takes_again =
      parts_along (λ e. at (receiver_place job e 0)) (λ e. parts (tasks job (suc e)) (takes job e)) (suc (last_edge job)) 0 outer
      ∙ ap (λ n. passed (at (receiver_place job n 0))) (let z : 0 + suc (last_edge job) ≡ suc (last_edge job) = omega arith in z)
      ∙ ap (λ (l : List (Items TakeRun)). passed (flat_map takes_part l ++ tail)) (nothing_left all (receiver_place job (suc (last_edge job)) 0) (omega (arith, many)))

-- ---- saved pieces

saves_nothing : (last : Bool) (bytes : List ℕ) → (last ≡ true → bytes ≡ []) → may_save last bytes ≡ true
saves_nothing true bytes none = eq-eqb _ _ (ap length (none refl))
saves_nothing false bytes none = refl

left_empty : (a b : List ℕ) → a ++ b ≡ [] → a ≡ []
left_empty [] b none = refl
left_empty (x ∷ a) b none = absurd cc

right_empty : (a b : List ℕ) → a ++ b ≡ [] → b ≡ []
right_empty [] b none = none
right_empty (x ∷ a) b none = absurd cc

channel_again : (last : Bool) (pieces : Items ℕ × Items ℕ) → ArePieces last pieces → (rest : List ℕ) → channel last (channel_part pieces ++ rest) ≡ Ok rest
unfolding channel
channel_again last pieces are rest =
    let p = pieces.0.items in
    let q = pieces.1.items in
    let test = λ (first saved : List ℕ). may_save last saved && are_records (first ++ saved) in
    let end = λ (second : List ℕ × List ℕ). passed second.1 in
    let then_second = λ (first : List ℕ × List ℕ). tested (test first.0) piece first.1 >>= end in
    ap (λ (r : Reading (List ℕ)). r >>= then_second)
    (ap (tested (may_save last) piece) (append_assoc (sized p) (sized q) rest)
    ∙ tested_again (may_save last) piece (sized p ++ (sized q ++ rest)) (p, sized q ++ rest) (piece_again p (sized q ++ rest) are.first) (saves_nothing last p (λ is. left_empty p q (are.empty is))))
    ∙ ap (λ (r : Reading (List ℕ)). r >>= end)
    (tested_again (test p) piece (sized q ++ rest) (q, rest) (piece_again q rest are.second) (and_from _ _ (saves_nothing last q (λ is. right_empty p q (are.empty is))) (records_spelled (p ++ q) are.spans)))

pairs_are : (last : Bool) (ins outs : List (Items ℕ)) → length ins ≡ length outs → AllByRecursion (λ (x : Items ℕ). length x.items < 2 ^ 32) ins → AllByRecursion (λ (x : Items ℕ). length x.items < 2 ^ 32) outs
    → ((p : ℕ) → p < length ins → AreSpans (items_at ins p ++ items_at outs p) × (last ≡ true → items_at ins p ++ items_at outs p ≡ [])) → AllByRecursion (ArePieces last) (zip ins outs)
pairs_are last [] outs same few few' each = tt
pairs_are last (p ∷ ins) [] same few few' each = tt
pairs_are last (p ∷ ins) (q ∷ outs) same few few' each =
    let here = each 0 (omega arith) in (
      record { first = few.0; second = few'.0; spans = here.0; empty = here.1 },
      pairs_are last ins outs (omega (arith, same)) few.1 few'.1 (λ i low. each (suc i) (omega (arith, low))),
    )

-- ---- the whole image

module _ (job : Job) (img : Image) (is : IsJob job) (fits : Fits job img) (can : CanSpell img) (range : HasRange img) where
  sources_again : (rest : List ℕ) → parts (tasks job 0) (λ i. source img.final_one) (flat_map source_part (zip img.offsets.items img.ended.items) ++ rest) ≡ Ok rest
  sources_again rest =
      let last = img.final_one in
      let all = zip img.offsets.items img.ended.items in
      let many : length all ≡ tasks job 0 = length-zip img.offsets.items img.ended.items (fits.offsets ∙ sym fits.ended) ∙ fits.offsets in
      let ends = sources_end last img.offsets.items img.ended.items (λ yes. recursion_from_All (λ (e : Bool). e ≡ true) img.ended.items (fits.last_is_ended yes)) in
      let each = map_all (λ (s : ℕ × Bool). last ≡ true → s.1 ≡ true) (λ (s : ℕ × Bool). (rest : List ℕ) → source last (source_part s ++ rest) ≡ Ok rest) all (source_again last) ends in
      ap (λ n. parts n (λ i. source last) (flat_map source_part all ++ rest)) (sym many) ∙ parts_again source_part (source last) all 0 rest each

  counts_again : (rest : List ℕ) → parts (length (sending_tasks job)) (λ i. emitted) (flat_map (to_be_bytes w64) img.emitted.items ++ rest) ≡ Ok rest
  counts_again rest =
      let each = any_all (λ (n : ℕ). (rest : List ℕ) → emitted (to_be_bytes w64 n ++ rest) ≡ Ok rest) img.emitted.items count_again in
      ap (λ n. parts n (λ i. emitted) (flat_map (to_be_bytes w64) img.emitted.items ++ rest)) (sym fits.emitted) ∙ parts_again (to_be_bytes w64) emitted img.emitted.items 0 rest each

  tables_again : (rest : List ℕ) → parts (tasks job (suc (last_edge job))) (λ i. table) (flat_map table_part img.tables.items ++ rest) ≡ Ok rest
  tables_again rest =
      let few = recursion_from_All (λ (t : Values). length (entries t) < 2 ^ 32) img.tables.items can.keys in
      let keys = recursion_from_All HasShortKeys img.tables.items fits.keys in
      let each = map_all (λ (t : Values). (length (entries t) < 2 ^ 32) × HasShortKeys t) (λ (t : Values). (rest : List ℕ) → table (table_part t ++ rest) ≡ Ok rest) img.tables.items (λ t known. table_again t known.0 known.1)
      (both_all (λ (t : Values). length (entries t) < 2 ^ 32) HasShortKeys img.tables.items few keys) in
      ap (λ n. parts n (λ i. table) (flat_map table_part img.tables.items ++ rest)) (sym fits.tables) ∙ parts_again table_part table img.tables.items 0 rest each

  takes_all_again : (rest : List ℕ) → parts (suc (last_edge job)) (λ e. parts (tasks job (suc e)) (takes job e)) (flat_map takes_part img.takes.items ++ rest) ≡ Ok rest
  takes_all_again rest =
      all_takes_again job img.takes.items rest is (fits.takes ∙ many_receive job) fits.runs (recursion_from_All (λ (x : Items TakeRun). length x.items < 2 ^ 32) img.takes.items can.runs)
      (map_all (λ (x : Items TakeRun). All (λ (run : TakeRun). run.count < 2 ^ 64) x.items) (λ (x : Items TakeRun). AllByRecursion (λ (run : TakeRun). run.count < 2 ^ 64) x.items) img.takes.items
      (λ x small. recursion_from_All (λ (run : TakeRun). run.count < 2 ^ 64) x.items small) (recursion_from_All (λ (x : Items TakeRun). All (λ (run : TakeRun). run.count < 2 ^ 64) x.items) img.takes.items range.counts))

  saved_again : (rest : List ℕ) → parts (length (channels job)) (λ i. channel img.final_one) (flat_map channel_part (zip img.saved_in.items img.saved_out.items) ++ rest) ≡ Ok rest
  saved_again rest =
      let last = img.final_one in
      let ins = img.saved_in.items in
      let outs = img.saved_out.items in
      let same = fits.saved_in ∙ sym fits.saved_out in
      let many : length (zip ins outs) ≡ length (channels job) = length-zip ins outs same ∙ fits.saved_in in
      let count = fits.saved_in in
      let pairs = pairs_are last ins outs same (recursion_from_All (λ (x : Items ℕ). length x.items < 2 ^ 32) ins can.pieces_in) (recursion_from_All (λ (x : Items ℕ). length x.items < 2 ^ 32) outs can.pieces_out) each_pair in
      ap (λ n. parts n (λ i. channel last) (flat_map channel_part (zip ins outs) ++ rest)) (sym many)
      ∙ parts_again channel_part (channel last) (zip ins outs) 0 rest (map_all (ArePieces last) (λ (pieces : Items ℕ × Items ℕ). (rest : List ℕ) → channel last (channel_part pieces ++ rest) ≡ Ok rest) (zip ins outs) (channel_again last) pairs)
    where
      each_pair : (p : ℕ) → p < length img.saved_in.items → AreSpans (items_at img.saved_in.items p ++ items_at img.saved_out.items p) × (img.final_one ≡ true → items_at img.saved_in.items p ++ items_at img.saved_out.items p ≡ [])
      each_pair p low =
          let ins = img.saved_in.items in
          let outs = img.saved_out.items in
          let count = fits.saved_in in
          let of = of_channel job p is (omega (arith, low, count)) in
          (subst (λ k. AreSpans (items_at ins k ++ items_at outs k)) of.is (fits.spans of.e of.a of.b of.on), λ yes. subst (λ k. items_at ins k ++ items_at outs k ≡ []) of.is (fits.last_is_empty yes of.e of.a of.b of.on))

  body_again : body job img.final_one (flat_map source_part (zip img.offsets.items img.ended.items) ++ (flat_map (to_be_bytes w64) img.emitted.items ++ (flat_map table_part img.tables.items
      ++ (flat_map takes_part img.takes.items ++ (flat_map channel_part (zip img.saved_in.items img.saved_out.items) ++ codes "IWLF"))))) ≡ Ok []
  unfolding body
  body_again =
      let saved = flat_map channel_part (zip img.saved_in.items img.saved_out.items) ++ codes "IWLF" in
      let taken = flat_map takes_part img.takes.items ++ saved in
      let tables = flat_map table_part img.tables.items ++ taken in
      let counts = flat_map (to_be_bytes w64) img.emitted.items ++ tables in
      let end = λ (bytes : List ℕ). mark (codes "IWLF") bytes >>= nothing in
      let then_saved = λ (bytes : List ℕ). parts (length (channels job)) (λ i. channel img.final_one) bytes >>= end in
      let then_taken = λ (bytes : List ℕ). parts (suc (last_edge job)) (λ e. parts (tasks job (suc e)) (takes job e)) bytes >>= then_saved in
      let then_tables = λ (bytes : List ℕ). parts (tasks job (suc (last_edge job))) (λ i. table) bytes >>= then_taken in
      let then_counts = λ (bytes : List ℕ). parts (length (sending_tasks job)) (λ i. emitted) bytes >>= then_tables in
      ap (λ (r : Passing). r >>= then_counts) (sources_again counts)
      ∙ ap (λ (r : Passing). r >>= then_tables) (counts_again tables)
      ∙ ap (λ (r : Passing). r >>= then_taken) (tables_again taken)
      ∙ ap (λ (r : Passing). r >>= then_saved) (takes_all_again saved)
      ∙ ap (λ (r : Passing). r >>= end) (saved_again (codes "IWLF"))
      ∙ ap (λ (r : Passing). r >>= nothing) (mark_again (codes "IWLF") [])

nine : (a b c d e f g h i j : List ℕ) → a ++ b ++ c ++ d ++ e ++ f ++ g ++ h ++ i ++ j ≡ a ++ (b ++ (c ++ (d ++ (e ++ (f ++ (g ++ (h ++ (i ++ j))))))))
nine a b c d e f g h i j = simp append_assoc

-- the spelling from the left
spelled_from_left : (img : Image) → spelling img ≡ codes "FLWI" ++ (1 ∷ (to_be_bytes w64 img.number ++ (flag_part img.final_one ++ (sized img.text.items ++ (flat_map source_part (zip img.offsets.items img.ended.items)
    ++ (flat_map (to_be_bytes w64) img.emitted.items ++ (flat_map table_part img.tables.items ++ (flat_map takes_part img.takes.items ++ (flat_map channel_part (zip img.saved_in.items img.saved_out.items) ++ codes "IWLF")))))))))
unfolding spelling
spelled_from_left img =
    nine (codes "FLWI") (1 ∷ to_be_bytes w64 img.number) (flag_part img.final_one) (sized img.text.items) (flat_map source_part (zip img.offsets.items img.ended.items)) (flat_map (to_be_bytes w64) img.emitted.items)
    (flat_map table_part img.tables.items) (flat_map takes_part img.takes.items) (flat_map channel_part (zip img.saved_in.items img.saved_out.items)) (codes "IWLF")

image_again : (img : Image) → CanSpell img → HasRange img → FitsItsText img → image (spelling img) ≡ Ok []
unfolding image
image_again img can range its =
    let text = img.text.items in
    let plain = job_of (shape_of its.job) in
    let is = shaped_job its.job its.job_text.is_job in
    let fits = same_fits its.job plain (same_shape its.job) img its.job_text.is_job is its.fits in
    let rest = flat_map source_part (zip img.offsets.items img.ended.items) ++ (flat_map (to_be_bytes w64) img.emitted.items ++ (flat_map table_part img.tables.items
    ++ (flat_map takes_part img.takes.items ++ (flat_map channel_part (zip img.saved_in.items img.saved_out.items) ++ codes "IWLF")))) in
    let from_text = sized text ++ rest in
    let from_flag = flag_part img.final_one ++ from_text in
    let from_number = to_be_bytes w64 img.number ++ from_flag in
    let then_text = λ (last : Bool × List ℕ). tested is_text piece last.1 >>= λ text. body (job_of (said text.0)) last.0 text.1 in
    let then_flag = λ (number : ℕ × List ℕ). flag number.1 >>= then_text in
    let then_number = λ (version : ℕ × List ℕ). tested (nat_le 1) (number w64) version.1 >>= then_flag in
    let then_version = λ (bytes : List ℕ). tested (λ version. eqb version 1) byte bytes >>= then_number in
    let few : length text < 2 ^ 32 = (let short = its.short in omega (arith, short)) in
    let may : is_text text ≡ true = and_from _ _ (le-leb _ _ its.short) (ap is_none (accepted every_kind text its.job its.job_text)) in
    ap (λ l. mark (codes "FLWI") l >>= then_version) (spelled_from_left img)
    ∙ ap (λ (r : Passing). r >>= then_version) (mark_again (codes "FLWI") (1 ∷ from_number))
    ∙ ap (λ (r : Reading ℕ). r >>= then_number) (tested_again (λ version. eqb version 1) byte (1 ∷ from_number) (1, from_number) refl refl)
    ∙ ap (λ (r : Reading ℕ). r >>= then_flag) (tested_again (nat_le 1) (number w64) from_number (img.number, from_flag) (number_again w64 (2 ^ 64) wide64 img.number from_flag range.number) (le-leb _ _ can.number))
    ∙ ap (λ (r : Reading Bool). r >>= then_text) (flag_again img.final_one from_text)
    ∙ ap (λ (r : Reading (List ℕ)). r >>= λ text. body (job_of (said text.0)) img.final_one text.1) (tested_again is_text piece from_text (text, rest) (piece_again text rest few) may)
    ∙ ap (λ s. body (job_of s) img.final_one rest) (says_shape every_kind text its.job its.job_text)
    ∙ body_again plain img is fits can range

pub no_fault : (img : Image) → CanSpell img → HasRange img → FitsItsText img → image_fault (spelling img) ≡ None
no_fault img can range its = ap (place_in (spelling img)) (image_again img can range its)
