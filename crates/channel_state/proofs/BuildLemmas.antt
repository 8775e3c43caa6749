-- What is read of an image is what its bytes spell.
use Rattle.std.proofs.Common.{◌≡◌, ◌≢◌, ℕ, zero, suc, ◌+◌, ◌^◌, ◌<◌, ◌≤◌, Bool, true, false, not, ◌&&◌, ◌||◌, eqb, ◌==◌, List, [], ◌∷◌, ◌++◌, length, take, drop, Option, Some, None, Result, Ok, Err, Ordering, Less, Equal, Greater, refl, sym, ap, subst, ◌∙◌, append_assoc, append-nil, arith, inl, inr, length-append}
use Rattle.std.specs.Prelude.{flat_map, zip, All, nat_le, slice_get, slice_index, IsTrue}
use Rattle.std.specs.List.{AllByRecursion}
use Rattle.std.specs.Option.{option_map_or}
use Rattle.std.specs.Ordering.{is_lt, ordering_reverse}
use Rattle.std.specs.Int.{w32, w64, to_be_bytes}
use Rattle.std.specs.FinMap.{entries, empty, insert, entries-insert, len-entries, len-empty}
use Rattle.std.specs.FinMap.Entries.{put, by_order}
use Rattle.std.proofs.lemmas.Bool.{and_parts, leb-true, cases_lt, eqb-true, eq-eqb}
use Rattle.std.proofs.lemmas.Cmp.{nat_list_cmp_total}
use Rattle.std.proofs.lemmas.List.{length_push, nil_from_length}
use Rattle.std.proofs.lemmas.List.Elements.{All-nil, All-push}
use Rattle.std.proofs.lemmas.List.Concat.{flat_map-cons, flat_map-append}
use Rattle.flow_defs.specs.declared.TheConstants.{RECORD_MAX}
use Rattle.flow_defs.specs.declared.job.Job.{Job}
use Rattle.flow_defs.specs.declared.image.TakeRun.{TakeRun}
use Rattle.flow_defs.specs.Items.{Items}
use Rattle.flow_defs.specs.Jobs.{tasks, is_channel, sum_below}
use Rattle.flow_defs.specs.Records.{IsShort}
use Rattle.flow_defs.specs.Tables.{Values, key_cmp}
use Rattle.plain_machine.specs.Places.{receiver_place}
use Rattle.plain_machine.specs.Images.{items_at, AreRuns, AreSpans, HasShortKeys}
use Rattle.plain_machine.specs.Spelling.{flag_part, sized, counted, source_part, row_part, run_part, channel_part}
use Rattle.channel_state.specs.Reading.{flag, number, piece, tested}
use Rattle.channel_state.specs.ImageFaults.{is_key, is_sender, may_save, are_records}
use Rattle.channel_state.specs.Building.{IsBytes, TakesText, IsRead, IsSource, IsTable, IsCount, ArePieces, table_part, takes_part, AreSources, AreSaved, AreTakes, AreRunsSoFar, AreRunsRead, AreRows, IsTableRead}
use Rattle.channel_state.proofs.FieldLemmas.{tested_ok, number_takes, wide32, wide64, piece_takes, flag_takes}
use Rattle.channel_state.proofs.RecordLemmas.{records_known}

-- ---- parts one after another

pub taken_then : (a x b y c : List ℕ) → TakesText a x b → TakesText b y c → TakesText a (x ++ y) c
taken_then a x b y c p q = record { parts = p.parts ∙ ap (λ (t : List ℕ). x ++ t) q.parts ∙ sym (append_assoc x y c); rest_fits = q.rest_fits }

flat_push : {X : Type 0} (part : X → List ℕ) (items : List X) (x : X) → flat_map part items ++ part x ≡ flat_map part (items ++ x ∷ [])
flat_push part items x = sym (flat_map-append part items (x ∷ []) ∙ ap (λ t. flat_map part items ++ t) (flat_map-cons part x [] ∙ append-nil (part x)))

pub push_taken : {X : Type 0} (part : X → List ℕ) (start rest after : List ℕ) (items : List X) (x : X) → TakesText start (flat_map part items) rest → TakesText rest (part x) after → TakesText start (flat_map part (items ++ x ∷ [])) after
push_taken part start rest after items x p q = subst (λ l. TakesText start l after) (flat_push part items x) (taken_then start (flat_map part items) rest (part x) after p q)

pub push_read : {X : Type 0} (part : X → List ℕ) (P : X → Type 0) (start rest after : List ℕ) (items : List X) (x : X) → IsRead part P start rest items → TakesText rest (part x) after → P x → IsRead part P start after (items ++ x ∷ [])
push_read part P start rest after items x read taken here = record { spelled = push_taken part start rest after items x read.spelled taken; each = All-push P items x read.each here }

pub none_taken : {X : Type 0} (part : X → List ℕ) (start : List ℕ) (items : List X) → items ≡ [] → IsBytes start → TakesText start (flat_map part items) start
none_taken part start items none fits = subst (λ l. TakesText start (flat_map part l) start) (sym none) (record { parts = refl; rest_fits = fits })

pub none_read : {X : Type 0} (part : X → List ℕ) (P : X → Type 0) (start : List ℕ) (items : List X) → items ≡ [] → IsBytes start → IsRead part P start start items
none_read part P start items none fits = record { spelled = none_taken part start items none fits; each = subst (All P) (sym none) (All-nil P) }

zip_push : {X Y : Type 0} (xs : List X) (ys : List Y) (x : X) (y : Y) → length xs ≡ length ys → zip (xs ++ x ∷ []) (ys ++ y ∷ []) ≡ zip xs ys ++ (x, y) ∷ []
zip_push [] [] x y same = refl
zip_push [] (b ∷ ys) x y same = absurd (omega (arith, same))
zip_push (a ∷ xs) [] x y same = absurd (omega (arith, same))
zip_push (a ∷ xs) (b ∷ ys) x y same = ap (λ l. (a, b) ∷ l) (zip_push xs ys x y (omega (arith, same)))

pub count_push : {X : Type 0} (xs ys : List X) (x : X) (i : ℕ) → ys ≡ xs ++ x ∷ [] → length xs ≡ i → length ys ≡ i + 1
count_push xs ys x i is many = ap length is ∙ length_push xs x ∙ ap (λ k. k + 1) many

-- ---- sources

pub first_sources : (last : Bool) (start offsets : List ℕ) (ended : List Bool) → offsets ≡ [] → ended ≡ [] → IsBytes start → AreSources 0 last start start offsets ended
first_sources last start offsets ended no_offset no_ended fits = record {
  read = none_read source_part (IsSource last) start (zip offsets ended) (ap (λ l. zip l ended) no_offset) fits;
  offset_count = ap length no_offset;
  ended_count = ap length no_ended;
}

pub next_source : (i : ℕ) (last : Bool) (start rest mid after offsets offsets' : List ℕ) (ended ended' : List Bool) (o : ℕ) (e : Bool) → AreSources i last start rest offsets ended
    → number w64 rest ≡ Ok (o, mid) → tested (λ ended. not last || ended) flag mid ≡ Ok (e, after) → offsets' ≡ offsets ++ o ∷ [] → ended' ≡ ended ++ e ∷ [] → AreSources (i + 1) last start after offsets' ended'
next_source i last start rest mid after offsets offsets' ended ended' o e read offset flag_is pushed pushed' =
    let n = number_takes w64 (2 ^ 64) wide64 rest o mid read.read.spelled.rest_fits offset in
    let t = tested_ok (λ (ended : Bool). not last || ended) flag mid (e, after) flag_is in
    let f = flag_takes mid e after n.0.rest_fits t.0 in
    let both : TakesText rest (source_part (o, e)) after = taken_then rest (to_be_bytes w64 o) mid (flag_part e) after n.0 f in
    let is_ended : IsSource last (o, e) = (λ is. sym (ap (λ (l : Bool). not l || e) is) ∙ t.1) in
    let same : zip offsets' ended' ≡ zip offsets ended ++ (o, e) ∷ [] =
    ap (λ l. zip l ended') pushed ∙ ap (zip (offsets ++ o ∷ [])) pushed' ∙ zip_push offsets ended o e (read.offset_count ∙ sym read.ended_count) in
    record {
      read = subst (IsRead source_part (IsSource last) start after) (sym same) (push_read source_part (IsSource last) start rest after (zip offsets ended) (o, e) read.read both is_ended);
      offset_count = count_push offsets offsets' o i pushed read.offset_count;
      ended_count = count_push ended ended' e i pushed' read.ended_count;
    }

-- ---- counts

pub next_count : (start rest after counts counts' : List ℕ) (n : ℕ) → TakesText start (flat_map (to_be_bytes w64) counts) rest → number w64 rest ≡ Ok (n, after) → counts' ≡ counts ++ n ∷ [] → TakesText start (flat_map (to_be_bytes w64) counts') after
next_count start rest after counts counts' n read is pushed =
    let taken = number_takes w64 (2 ^ 64) wide64 rest n after read.rest_fits is in
    subst (λ l. TakesText start (flat_map (to_be_bytes w64) l) after) (sym pushed) (push_taken (to_be_bytes w64) start rest after counts n read taken.0)

-- ---- tables

lower : (o : Ordering) → is_lt o ≡ true → o ≡ Less
lower Less is = refl
lower Equal is = absurd cc
lower Greater is = absurd cc

turned : (x y : List ℕ) → key_cmp x y ≡ Less → key_cmp y x ≡ Greater
turned x y is = nat_list_cmp_total.antisymm y x ∙ ap ordering_reverse is

put_last : (key : List ℕ) (value : ℕ) (rows : List (List ℕ × ℕ)) → AllByRecursion (λ (row : List ℕ × ℕ). key_cmp row.0 key ≡ Less) rows → put key_cmp key value rows ≡ rows ++ (key, value) ∷ []
put_last key value [] below = refl
put_last key value (row ∷ rows) below =
    ap (λ o. by_order o ((key, value) ∷ row ∷ rows) ((row.0, value) ∷ rows) (row ∷ put key_cmp key value rows)) (turned row.0 key below.0) ∙ ap (λ l. row ∷ l) (put_last key value rows below.1)

all_push : {X : Type 0} (P : X → Type 0) (xs : List X) (x : X) → AllByRecursion P xs → P x → AllByRecursion P (xs ++ x ∷ [])
all_push P [] x all here = (here, tt)
all_push P (y ∷ xs) x all here = (all.0, all_push P xs x all.1 here)

all_below : (key other : List ℕ) (rows : List (List ℕ × ℕ)) → key_cmp key other ≡ Less → AllByRecursion (λ (row : List ℕ × ℕ). key_cmp row.0 key ≡ Less) rows → AllByRecursion (λ (row : List ℕ × ℕ). key_cmp row.0 other ≡ Less) rows
all_below key other [] less below = tt
all_below key other (row ∷ rows) less below = (nat_list_cmp_total.trans row.0 key other below.0 less, all_below key other rows less below.1)

no_entries : entries (empty {X = ℕ} {R = key_cmp}) ≡ []
no_entries = nil_from_length (entries (empty {X = ℕ} {R = key_cmp})) (sym (len-entries empty) ∙ len-empty key_cmp ℕ)

pub first_rows : (start : List ℕ) (table : Values) → table ≡ empty → IsBytes start → AreRows 0 start start table
first_rows start table is fits =
    let none : entries table ≡ [] = ap entries is ∙ no_entries in
    record {
      spelled = none_taken row_part start (entries table) none fits;
      count = ap length none;
      keys = subst (All (λ (row : List ℕ × ℕ). IsShort row.0)) (sym none) (All-nil (λ (row : List ℕ × ℕ). IsShort row.0));
    }

pub first_above : (table : Values) (key : List ℕ) → table ≡ empty → AllByRecursion (λ (row : List ℕ × ℕ). key_cmp row.0 key ≡ Less) (entries table)
first_above table key is = subst (AllByRecursion (λ (row : List ℕ × ℕ). key_cmp row.0 key ≡ Less)) (sym (ap entries is ∙ no_entries)) tt

module _ (table table' : Values) (before : Option (List ℕ)) (key : List ℕ) (value : ℕ) (is : table' ≡ insert table key value)
    (above : (k : List ℕ) → is_key before k ≡ true → AllByRecursion (λ (row : List ℕ × ℕ). key_cmp row.0 k ≡ Less) (entries table)) where
  pushed_row : is_key before key ≡ true → entries table' ≡ entries table ++ (key, value) ∷ []
  pushed_row may = ap entries is ∙ entries-insert nat_list_cmp_total table key value ∙ put_last key value (entries table) (above key may)

  pub next_row : (i : ℕ) (start rest mid after : List ℕ) → AreRows i start rest table → tested (is_key before) piece rest ≡ Ok (key, mid) → number w64 mid ≡ Ok (value, after) → AreRows (i + 1) start after table'
  next_row i start rest mid after read key_is value_is =
      let t = tested_ok (is_key before) piece rest (key, mid) key_is in
      let p = piece_takes rest key mid read.spelled.rest_fits t.0 in
      let n = number_takes w64 (2 ^ 64) wide64 mid value after p.0.rest_fits value_is in
      let both : TakesText rest (row_part (key, value)) after = taken_then rest (sized key) mid (to_be_bytes w64 value) after p.0 n.0 in
      let same = pushed_row t.1 in
      let parts = and_parts _ _ t.1 in
      record {
        spelled = subst (λ l. TakesText start (flat_map row_part l) after) (sym same) (push_taken row_part start rest after (entries table) (key, value) read.spelled both);
        count = count_push (entries table) (entries table') (key, value) i same read.count;
        keys = subst (All (λ (row : List ℕ × ℕ). IsShort row.0)) (sym same) (All-push (λ (row : List ℕ × ℕ). IsShort row.0) (entries table) (key, value) read.keys (leb-true _ _ parts.0));
      }

  pub next_above : is_key before key ≡ true → (other : List ℕ) → is_key (Some key) other ≡ true → AllByRecursion (λ (row : List ℕ × ℕ). key_cmp row.0 other ≡ Less) (entries table')
  next_above may other may_too =
      let less = lower (key_cmp key other) (and_parts _ _ may_too).1 in
      subst (AllByRecursion (λ (row : List ℕ × ℕ). key_cmp row.0 other ≡ Less)) (sym (pushed_row may))
      (all_push (λ (row : List ℕ × ℕ). key_cmp row.0 other ≡ Less) (entries table) (key, value) (all_below key other (entries table) less (above key may)) less)

pub table_read : (many : ℕ) (before mid behind : List ℕ) (table : Values) → number w32 before ≡ Ok (many, mid) → (IsBytes mid → AreRows many mid behind table) → IsBytes before → IsTableRead before behind table
table_read many before mid behind table is read fits =
    let n = number_takes w32 (2 ^ 32) wide32 before many mid fits is in
    let r = read n.0.rest_fits in
    let count = r.count in
    record {
      spelled = subst (λ k. TakesText before (to_be_bytes w32 k ++ flat_map row_part (entries table)) behind) (sym count) (taken_then before (to_be_bytes w32 many) mid (flat_map row_part (entries table)) behind n.0 r.spelled);
      is_table = record { count = (let below = n.1 in omega (arith, below, count)); keys = r.keys };
    }

-- ---- runs

pub first_runs : (job : Job) (e b : ℕ) (start : List ℕ) (runs : List TakeRun) → runs ≡ [] → IsBytes start → AreRunsSoFar job e b 0 start start runs
first_runs job e b start runs none fits = record { spelled = none_taken run_part start runs none fits; count = ap length none; runs_are = subst (AreRuns job e b) (sym none) tt }

pub first_next : (job : Job) (e b : ℕ) (runs : List TakeRun) (run : TakeRun) → runs ≡ [] → is_sender job e b None run.from ≡ true → 1 ≤ run.count → AreRuns job e b (runs ++ run ∷ [])
first_next job e b runs run none may some = subst (λ l. AreRuns job e b (l ++ run ∷ [])) (sym none) ((and_parts _ _ may).0, some)

run_push : (job : Job) (e b : ℕ) (runs : List TakeRun) (r s : TakeRun) → AreRuns job e b (runs ++ r ∷ []) → IsTrue (is_channel job e s.from b) → 1 ≤ s.count → (r.from ≢ s.from) → AreRuns job e b ((runs ++ r ∷ []) ++ s ∷ [])
run_push job e b [] r s are on some other = (are.0, are.1, other, (on, some))
run_push job e b (x ∷ []) r s are on some other = (are.0, are.1, are.2, run_push job e b [] r s are.3 on some other)
run_push job e b (x ∷ y ∷ runs) r s are on some other = (are.0, are.1, are.2, run_push job e b (y ∷ runs) r s are.3 on some other)

differs : (a b : ℕ) → not (eqb a b) ≡ true → a ≢ b
differs a b is same = let yes = eq-eqb a b same in let no : not (eqb a b) ≡ false = ap not yes in let never : true ≡ false = sym is ∙ no in cc

module _ (job : Job) (e b : ℕ) (runs runs' : List TakeRun) (before : Option ℕ) (run : TakeRun) (pushed : runs' ≡ runs ++ run ∷ [])
    (next : (other : TakeRun) → is_sender job e b before other.from ≡ true → 1 ≤ other.count → AreRuns job e b (runs ++ other ∷ [])) where
  pub next_run : (i : ℕ) (start rest mid after : List ℕ) → AreRunsSoFar job e b i start rest runs → tested (is_sender job e b before) (number w32) rest ≡ Ok (run.from, mid) → tested (nat_le 1) (number w64) mid ≡ Ok (run.count, after)
      → AreRunsSoFar job e b (i + 1) start after runs'
  next_run i start rest mid after read from_is count_is =
      let t = tested_ok (is_sender job e b before) (number w32) rest (run.from, mid) from_is in
      let f = number_takes w32 (2 ^ 32) wide32 rest run.from mid read.spelled.rest_fits t.0 in
      let u = tested_ok (nat_le 1) (number w64) mid (run.count, after) count_is in
      let n = number_takes w64 (2 ^ 64) wide64 mid run.count after f.0.rest_fits u.0 in
      let both : TakesText rest (run_part run) after = taken_then rest (to_be_bytes w32 run.from) mid (to_be_bytes w64 run.count) after f.0 n.0 in
      record {
        spelled = subst (λ l. TakesText start (flat_map run_part l) after) (sym pushed) (push_taken run_part start rest after runs run read.spelled both);
        count = count_push runs runs' run i pushed read.count;
        runs_are = subst (AreRuns job e b) (sym pushed) (next run t.1 (leb-true _ _ u.1));
      }

  pub next_next : is_sender job e b before run.from ≡ true → 1 ≤ run.count → (other : TakeRun) → is_sender job e b (Some run.from) other.from ≡ true → 1 ≤ other.count → AreRuns job e b (runs' ++ other ∷ [])
  next_next may some other may_too some_too =
      let parts = and_parts _ _ may_too in
      subst (λ l. AreRuns job e b (l ++ other ∷ [])) (sym pushed) (run_push job e b runs run other (next run may some) parts.0 some_too (differs run.from other.from parts.1))

pub runs_read : (job : Job) (e b many : ℕ) (before mid behind : List ℕ) (runs : List TakeRun) → number w32 before ≡ Ok (many, mid) → (IsBytes mid → AreRunsSoFar job e b many mid behind runs) → IsBytes before → AreRunsRead job e b before behind runs
runs_read job e b many before mid behind runs is read fits =
    let n = number_takes w32 (2 ^ 32) wide32 before many mid fits is in
    let r = read n.0.rest_fits in
    let count = r.count in
    record {
      spelled = subst (λ k. TakesText before (to_be_bytes w32 k ++ flat_map run_part runs) behind) (sym count) (taken_then before (to_be_bytes w32 many) mid (flat_map run_part runs) behind n.0 r.spelled);
      count = (let below = n.1 in omega (arith, below, count));
      runs_are = r.runs_are;
    }

-- ---- the takes of all tasks

at_front : (xs ys : List (Items TakeRun)) (i : ℕ) → i < length xs → items_at (xs ++ ys) i ≡ items_at xs i
at_front [] ys i low = absurd (omega (arith, low))
at_front (x ∷ xs) ys zero low = refl
at_front (x ∷ xs) ys (suc i) low = at_front xs ys i (omega (arith, low))

at_end : (xs : List (Items TakeRun)) (x : Items TakeRun) → items_at (xs ++ x ∷ []) (length xs) ≡ x.items
at_end [] x = refl
at_end (y ∷ xs) x = at_end xs x

place_within : (n : ℕ) (g : ℕ → ℕ) (i a : ℕ) → i < n → a < g i → sum_below i g + a < sum_below n g
place_within zero g i a low here = absurd (omega (arith, low))
place_within (suc n) g i a low here = elim (cases_lt i n) [
  | inl below ↦ let deep = place_within n g i a below here in omega (arith, deep)
  | inr above ↦ let same : i ≡ n = omega (arith, low, above) in subst (λ k. sum_below k g + a < sum_below n g + g n) (sym same) (let here' : a < g n = subst (λ k. a < g k) same here in omega (arith, here'))
]

same_place : (g : ℕ → ℕ) (i a j b : ℕ) → a < g i → b < g j → sum_below i g + a ≡ sum_below j g + b → (i ≡ j) × (a ≡ b)
same_place g i a j b here there e = elim (cases_lt i j) [
  | inl below ↦ let w = place_within j g i a below here in absurd (omega (arith, w, e))
  | inr high ↦ elim (cases_lt j i) [
    | inl above ↦ let w = place_within i g j b above there in absurd (omega (arith, w, e))
    | inr low ↦
        let same : i ≡ j = omega (arith, high, low) in
        let e' : sum_below j g + a ≡ sum_below j g + b = ap (λ k. sum_below k g + a) (sym same) ∙ e in
        (same, omega (arith, e'))
  ]
]

pub first_takes : (job : Job) (start : List ℕ) (takes : List (Items TakeRun)) → takes ≡ [] → IsBytes start → AreTakes job 0 0 start start takes
first_takes job start takes none fits = let many = ap length none in record { read = none_read takes_part IsCount start takes none fits; count = many; runs = λ edge to here low. absurd (omega (arith, low, many)) }

pub next_takes : (job : Job) (e b : ℕ) (start rest after : List ℕ) (takes takes' : List (Items TakeRun)) (runs : Items TakeRun) → b < tasks job (suc e) → AreTakes job e b start rest takes → AreRunsRead job e b rest after runs.items → takes' ≡ takes ++ runs ∷ [] → AreTakes job e (b + 1) start after takes'
next_takes job e b start rest after takes takes' runs here read more pushed =
    let many = count_push takes takes' runs (receiver_place job e b) pushed read.count in
    record {
      read = subst (IsRead takes_part IsCount start after) (sym pushed) (push_read takes_part IsCount start rest after takes runs read.read more.spelled more.count);
      count = omega (arith, many);
      runs = λ edge to there low. elim (cases_lt (receiver_place job edge to) (length takes)) [
        | inl below ↦ subst (AreRuns job edge to) (sym (ap (λ l. items_at l (receiver_place job edge to)) pushed ∙ at_front takes (runs ∷ []) (receiver_place job edge to) below)) (read.runs edge to there below)
        | inr above ↦
            let count = read.count in
            let last : receiver_place job edge to ≡ length takes = omega (arith, above, low, many, count) in
            let same = same_place (λ i. tasks job (suc i)) edge to e b there here (last ∙ count) in
            let its : items_at takes' (receiver_place job edge to) ≡ runs.items = ap (items_at takes') last ∙ ap (λ l. items_at l (length takes)) pushed ∙ at_end takes runs in
            subst (AreRuns job edge to) (sym its) (subst (λ k. AreRuns job k to runs.items) (sym same.0) (subst (λ k. AreRuns job e k runs.items) (sym same.1) more.runs_are))
      ];
    }

pub edge_done : (job : Job) (e b : ℕ) (start rest : List ℕ) (takes : List (Items TakeRun)) → b ≡ tasks job (suc e) → AreTakes job e b start rest takes → AreTakes job (suc e) 0 start rest takes
edge_done job e b start rest takes all read = let count = read.count in record { read = read.read; count = omega (arith, count, all); runs = read.runs }

-- ---- saved pieces

pub first_saved : (last : Bool) (start : List ℕ) (ins outs : List (Items ℕ)) → ins ≡ [] → outs ≡ [] → IsBytes start → AreSaved 0 last start start ins outs
first_saved last start ins outs no_in no_out fits = record {
  read = none_read channel_part (ArePieces last) start (zip ins outs) (ap (λ l. zip l outs) no_in) fits;
  first_count = ap length no_in;
  second_count = ap length no_out;
}

empty_piece : (last : Bool) (saved : List ℕ) → may_save last saved ≡ true → last ≡ true → saved ≡ []
empty_piece last saved may is = let none : (length saved == 0) ≡ true = sym (ap (λ (l : Bool). not l || eqb (length saved) 0) is) ∙ may in nil_from_length saved (eqb-true _ _ none)

pub next_saved : (i : ℕ) (last : Bool) (start rest mid after first second : List ℕ) (ins ins' outs outs' : List (Items ℕ)) (p q : Items ℕ) → AreSaved i last start rest ins outs
    → tested (may_save last) piece rest ≡ Ok (first, mid) → tested (λ saved. may_save last saved && are_records (first ++ saved)) piece mid ≡ Ok (second, after)
    → p.items ≡ first → q.items ≡ second → ins' ≡ ins ++ p ∷ [] → outs' ≡ outs ++ q ∷ [] → AreSaved (i + 1) last start after ins' outs'
next_saved i last start rest mid after first second ins ins' outs outs' p q read in_is out_is p_is q_is pushed pushed' =
    let t = tested_ok (may_save last) piece rest (first, mid) in_is in
    let a = piece_takes rest first mid read.read.spelled.rest_fits t.0 in
    let u = tested_ok (λ (saved : List ℕ). may_save last saved && are_records (first ++ saved)) piece mid (second, after) out_is in
    let b = piece_takes mid second after a.0.rest_fits u.0 in
    let parts = and_parts _ _ u.1 in
    let both : TakesText rest (sized first ++ sized second) after = taken_then rest (sized first) mid (sized second) after a.0 b.0 in
    let pieces : TakesText rest (channel_part (p, q)) after = subst (λ l. TakesText rest (sized l ++ sized q.items) after) (sym p_is) (subst (λ l. TakesText rest (sized first ++ sized l) after) (sym q_is) both) in
    let joined : p.items ++ q.items ≡ first ++ second = ap (λ l. l ++ q.items) p_is ∙ ap (λ l. first ++ l) q_is in
    let same : zip ins' outs' ≡ zip ins outs ++ (p, q) ∷ [] = ap (λ l. zip l outs') pushed ∙ ap (zip (ins ++ p ∷ [])) pushed' ∙ zip_push ins outs p q (read.first_count ∙ sym read.second_count) in
    let here : ArePieces last (p, q) = record {
      first = subst (λ l. length l < 2 ^ 32) (sym p_is) a.1;
      second = subst (λ l. length l < 2 ^ 32) (sym q_is) b.1;
      spans = subst AreSpans (sym joined) (records_known (first ++ second) parts.1);
      empty = λ is. joined ∙ ap (λ l. l ++ second) (empty_piece last first t.1 is) ∙ empty_piece last second parts.0 is;
    } in
    record {
      read = subst (IsRead channel_part (ArePieces last) start after) (sym same) (push_read channel_part (ArePieces last) start rest after (zip ins outs) (p, q) read.read pieces here);
      first_count = count_push ins ins' p i pushed read.first_count;
      second_count = count_push outs outs' q i pushed' read.second_count;
    }
