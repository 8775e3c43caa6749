-- A run of one source with the lines a and b and one task that counts them, with a checkpoint every three
-- lines. The first one is aligned, behind both lines, and the second one is the last. It is told as each
-- run is, so the premises of the laws can be met.
use Rattle.std.proofs.Common.{length, ◌≡◌, ℕ, zero, suc, ◌<◌, ◌≤◌, Bool, true, false, true≢false, List, [], ◌∷◌, ◌++◌, Some, refl, sym, ap, subst, ◌∙◌, arith}
use Rattle.std.specs.Prelude.{All, Contains, codes}
use Rattle.std.specs.FinMap.{empty, entries, len-entries, len-empty}
use Rattle.std.proofs.lemmas.List.Elements.{All-from_recursion, recursion_from_All}
use Rattle.std.proofs.lemmas.List.{nil_from_length}
use Rattle.std.proofs.lemmas.Option.{same_Some}
use Rattle.flow_defs.specs.Items.{Items}
use Rattle.flow_defs.specs.declared.parcel.Parcel.{Parcel}
use Rattle.flow_defs.specs.declared.parcel.Parcel.TheVariants.{Data, Barrier, End}
use Rattle.flow_defs.specs.declared.task.BarrierKind.TheVariants.{Inline, Front}
use Rattle.flow_defs.specs.declared.job.Job.{Job}
use Rattle.flow_defs.specs.declared.job.AggKind.TheVariants.{Count}
use Rattle.flow_defs.specs.declared.image.TakeRun.{TakeRun}
use Rattle.flow_defs.specs.declared.image.Snapshot.{Snapshot}
use Rattle.flow_defs.specs.declared.image.Image.{Image}
use Rattle.flow_defs.specs.Records.{IsShort, length_bytes, all_encoded, IsSpans}
use Rattle.flow_defs.specs.Routes.{fnv}
use Rattle.flow_defs.specs.declared.job.TheConstants.{TASKS_MAX}
use Rattle.flow_defs.specs.Jobs.{last_edge, tasks, is_channel, IsJob}
use Rattle.flow_defs.specs.Tables.{Values, key_cmp, add_all, join}
use Rattle.plain_machine.specs.Worth.{tally}
use Rattle.plain_machine.specs.Emitting.{receiver_on, emit}
use Rattle.plain_machine.specs.Images.{HasShortKeys, AllEnded, saved, IsStart, Fits}
use Rattle.plain_machine.specs.Histories.{of_sender}
use Rattle.plain_machine.specs.Chains.{Chain}
use Rattle.checkpoint_laws.specs.Puts.{stretches, put_before}
use Rattle.checkpoint_laws.specs.Chapters.{Emits, RunsTake, Chapter, SourceStep, Account}
use Rattle.checkpoint_laws.specs.Collecting.{piece, IsMadeOf, Collected}
use Rattle.checkpoint_laws.specs.Runs.{IsInterval, image_at, took_before, IsToldRun}
use Rattle.checkpoint_laws.proofs.Told.{Laws, ends, told_is_chain, told_ends_in_tally, unchanged_at_start}

abbrev full : {X : Type 0} → List X → Items X
full list = record { items = list; room = 0 }

abbrev its_job : Job
its_job = record { sources = full (full (codes "in") ∷ []); stages = full []; agg = Count; agg_tasks = 1; text = full (codes "source in\naggregate count 1\n") }

abbrev its_lines : ℕ → List (List ℕ)
its_lines a = codes "a" ∷ codes "b" ∷ []

-- ---- stretches

its_stretches : stretches (Data (codes "a") ∷ Data (codes "b") ∷ Barrier 1 Inline ∷ Data (codes "c") ∷ Barrier 2 Inline ∷ End ∷ []) ≡ codes "ab" ∷ codes "c" ∷ [] ∷ []
its_stretches = refl

before_the_second : put_before 2 (Data (codes "a") ∷ Data (codes "b") ∷ Barrier 1 Inline ∷ Data (codes "c") ∷ Barrier 2 Inline ∷ End ∷ []) ≡ codes "abc"
before_the_second = refl

-- barriers of either kind part the data
its_front_stretches : stretches (Data (codes "a") ∷ Barrier 1 Front ∷ Data (codes "b") ∷ Barrier 2 Inline ∷ Data (codes "c") ∷ []) ≡ codes "a" ∷ codes "b" ∷ codes "c" ∷ []
its_front_stretches = refl

-- ---- what the workers say

abbrev its_bytes : List ℕ
its_bytes = 0 ∷ 0 ∷ 0 ∷ 1 ∷ 97 ∷ 0 ∷ 0 ∷ 0 ∷ 1 ∷ 98 ∷ []

abbrev its_table : Values
its_table = add_all Count empty (codes "a" ∷ codes "b" ∷ [])

abbrev its_runs : List TakeRun
its_runs = record { «from» = 0; count = 2 } ∷ []

abbrev image_of : ℕ → Bool → ℕ → Bool → Values → List TakeRun → Image
image_of number last lines ended table runs = record {
  number = number;
  final_one = last;
  text = its_job.text;
  offsets = full (lines ∷ []);
  ended = full (ended ∷ []);
  emitted = full (lines ∷ []);
  tables = full (table ∷ []);
  takes = full (full runs ∷ []);
  saved_in = full (full [] ∷ []);
  saved_out = full (full [] ∷ []);
}

abbrev base : Image
base = image_of 0 false 0 false empty []

abbrev first : Image
first = image_of 1 false 2 true its_table its_runs

abbrev second : Image
second = image_of 2 true 2 true its_table []

abbrev of_source : ℕ → Snapshot
of_source number = record {
  task = record { stage = 0; index = 0 };
  number = number;
  offset = 2;
  ended = true;
  emitted = 2;
  table = empty;
  takes = full [];
  saved_in = full [];
  saved_out = full [];
}

abbrev of_counter : ℕ → List TakeRun → Snapshot
of_counter number runs = record {
  task = record { stage = 1; index = 0 };
  number = number;
  offset = 0;
  ended = false;
  emitted = 0;
  table = its_table;
  takes = full runs;
  saved_in = full [];
  saved_out = full [];
}

abbrev snapshot : ℕ → ℕ → ℕ → Snapshot
snapshot zero zero a = of_source 1
snapshot zero (suc i) a = of_counter 1 its_runs
snapshot (suc k) zero a = of_source 2
snapshot (suc k) (suc i) a = of_counter 2 []

abbrev chapters : ℕ → ℕ → List Chapter
chapters zero a = record { took = []; put = λ b. its_bytes; snapshot = snapshot 0 0 0 } ∷ record { took = []; put = λ b. []; snapshot = snapshot 1 0 0 } ∷ []
chapters (suc i) a = record { took = (0, codes "a") ∷ (0, codes "b") ∷ []; put = λ b. []; snapshot = snapshot 0 1 0 } ∷ record { took = []; put = λ b. []; snapshot = snapshot 1 1 0 } ∷ []

abbrev sent : ℕ → ℕ → List Snapshot
sent i a = snapshot 0 i a ∷ snapshot 1 i a ∷ []

-- the lines in two buffers, which a record crosses
abbrev parcels : ℕ → ℕ → ℕ → List Parcel
parcels e a b = Data (0 ∷ 0 ∷ 0 ∷ 1 ∷ 97 ∷ 0 ∷ 0 ∷ []) ∷ Data (0 ∷ 1 ∷ 98 ∷ []) ∷ Barrier 1 Inline ∷ Barrier 2 Inline ∷ End ∷ []

abbrev more : ℕ → ℕ → ℕ → List (List ℕ)
more e a b = [] ∷ []

-- ---- its only tasks and its only channel

at_zero : (P : ℕ → Type 0) → P 0 → (a : ℕ) → a < 1 → P a
at_zero P p zero h = p
at_zero P p (suc a) h = absurd (omega arith)

at_sender : (P : ℕ → ℕ → Type 0) → P 0 0 → (i a : ℕ) → i ≤ 0 → a < tasks its_job i → P i a
at_sender P p zero zero h there = p
at_sender P p zero (suc a) h there = absurd (omega arith)
at_sender P p (suc i) a h there = absurd (omega arith)

at_taker : (P : ℕ → ℕ → Type 0) → P 0 0 → (e b : ℕ) → e ≤ 0 → b < tasks its_job (suc e) → P e b
at_taker P p zero zero h there = p
at_taker P p zero (suc b) h there = absurd (omega arith)
at_taker P p (suc e) b h there = absurd (omega arith)

at_channel : (P : ℕ → ℕ → ℕ → Type 0) → P 0 0 0 → (e a b : ℕ) → is_channel its_job e a b ≡ true → P e a b
at_channel P p e a b on = let at_ends = ends its_job e a b on in go e a b at_ends.edge at_ends.sender at_ends.receiver
  where
    go : (e a b : ℕ) → e ≤ 0 → a < tasks its_job e → b < tasks its_job (suc e) → P e a b
    go zero zero zero h there opposite = p
    go zero zero (suc b) h there opposite = absurd (omega arith)
    go zero (suc a) b h there opposite = absurd (omega arith)
    go (suc e) a b h there opposite = absurd (omega arith)

-- ---- the accounts

puts_both : (b : ℕ) → is_channel its_job 0 0 b ≡ true → IsSpans its_bytes (emit (receiver_on its_job 0 0) 0 (codes "a" ∷ codes "b" ∷ []) b)
unfolding fnv length_bytes
puts_both zero on = record { whole = refl; short = (omega arith, (omega arith, tt)) }
puts_both (suc b) on = let at_ends = ends its_job 0 0 (suc b) on in absurd (omega (arith, at_ends.receiver))

accounts : (i a : ℕ) → i ≤ 1 → a < tasks its_job i → Account its_job its_lines (Some 3) base i a (chapters i a) (sent i a) (parcels i a) (more i a)
accounts zero zero h there = record {
  steps = (
    record { task = refl; number = refl; goes = (refl, refl); emits = record { count = refl; puts = puts_both } },
    (record { task = refl; number = refl; goes = (refl, refl); emits = record { count = refl; puts = λ b on. record { whole = refl; short = tt } } }, tt),
  );
  snapshots = refl;
  puts = λ b on. refl;
}
accounts zero (suc a) h there = absurd (omega arith)
accounts (suc zero) zero h there = record {
  steps = (
    record {
      task = refl;
      number = refl;
      takes = record { senders_are = refl; are_runs = (refl, omega arith); short = (omega arith, (omega arith, tt)) };
      emits = λ low. absurd (omega arith);
      counts = λ e. refl;
    },
    (
      record {
        task = refl;
        number = refl;
        takes = record { senders_are = refl; are_runs = tt; short = tt };
        emits = λ low. absurd (omega arith);
        counts = λ e. refl;
      },
      tt,
    ),
  );
  snapshots = refl;
  puts = λ b on. let at_ends = ends its_job 1 0 b on in absurd (omega (arith, at_ends.edge));
}
accounts (suc zero) (suc a) h there = absurd (omega arith)
accounts (suc (suc i)) a h there = absurd (omega arith)

-- ---- the collecting worker

acknowledged : (k i a : ℕ) → k < 2 → i ≤ 1 → a < tasks its_job i → Contains (sent i a) (snapshot k i a) × ((snapshot k i a).number ≡ (image_at base (first ∷ second ∷ []) (suc k)).number)
acknowledged zero zero a low h there = ((0, omega arith, refl), refl)
acknowledged zero (suc i) a low h there = ((0, omega arith, refl), refl)
acknowledged (suc zero) zero a low h there = ((1, omega arith, refl), refl)
acknowledged (suc zero) (suc i) a low h there = ((1, omega arith, refl), refl)
acknowledged (suc (suc k)) i a low h there = absurd (omega arith)

made : (k : ℕ) → k < 2 → IsMadeOf its_job (image_at base (first ∷ second ∷ []) (suc k)) (snapshot k)
made zero low = record {
  offsets = at_zero _ refl;
  ended = at_zero _ refl;
  emitted = at_sender _ refl;
  tables = at_zero _ refl;
  takes = at_taker _ refl;
  saved_in = at_channel _ refl;
  saved_out = at_channel _ refl;
}
made (suc zero) low = record {
  offsets = at_zero _ refl;
  ended = at_zero _ refl;
  emitted = at_sender _ refl;
  tables = at_zero _ refl;
  takes = at_taker _ refl;
  saved_in = at_channel _ refl;
  saved_out = at_channel _ refl;
}
made (suc (suc k)) low = absurd (omega arith)

ended_all : (flag : Bool) → flag ≡ true → All (λ (t : Bool). t ≡ true) (flag ∷ [])
ended_all flag is = All-from_recursion (λ (t : Bool). t ≡ true) (flag ∷ []) (is, tt)

none_ended : AllEnded base → ⊥
none_ended all = true≢false (sym (recursion_from_All (λ (t : Bool). t ≡ true) (false ∷ []) all).0)

collected : (k : ℕ) → k < 2 → Collected its_job (Some 3) (image_at base (first ∷ second ∷ []) k) (image_at base (first ∷ second ∷ []) (suc k))
collected zero low = record {
  number = refl;
  text = refl;
  not_last = refl;
  last = ((λ h. absurd (true≢false (sym h))), (λ all. absurd (none_ended all)));
  offsets = refl;
  ended = refl;
  emitted = refl;
  tables = refl;
  takes = refl;
  saved_in = refl;
  saved_out = refl;
  last_is_empty = λ h. absurd (true≢false (sym h));
}
collected (suc zero) low = record {
  number = refl;
  text = refl;
  not_last = refl;
  last = ((λ h. ended_all true refl), (λ all. refl));
  offsets = refl;
  ended = refl;
  emitted = refl;
  tables = refl;
  takes = refl;
  saved_in = refl;
  saved_out = refl;
  last_is_empty = λ h. at_channel _ refl;
}
collected (suc (suc k)) low = absurd (omega arith)

-- ---- the run

cuts : (e a b k : ℕ) → is_channel its_job e a b ≡ true → k < 2 →
    saved its_job base e a b ++ put_before (suc k) (parcels e a b)
    ≡ all_encoded (of_sender a (took_before (suc k) (chapters (suc e) b))) ++ (piece e a b (snapshot k (suc e) b).saved_in.items ++ piece e a b (snapshot k e a).saved_out.items)
unfolding length_bytes
cuts e a b zero on low =
    at_channel (λ e a b. saved its_job base e a b ++ put_before 1 (parcels e a b) ≡ all_encoded (of_sender a (took_before 1 (chapters (suc e) b))) ++ (piece e a b (snapshot 0 (suc e) b).saved_in.items ++ piece e a b (snapshot 0 e a).saved_out.items)) refl e a b on
cuts e a b (suc zero) on low =
    at_channel (λ e a b. saved its_job base e a b ++ put_before 2 (parcels e a b) ≡ all_encoded (of_sender a (took_before 2 (chapters (suc e) b))) ++ (piece e a b (snapshot 1 (suc e) b).saved_in.items ++ piece e a b (snapshot 1 e a).saved_out.items)) refl e a b on
cuts e a b (suc (suc k)) on low = absurd (omega arith)

pub told : IsToldRun its_job its_lines (Some 3) base (first ∷ second ∷ []) chapters sent parcels more snapshot
told = record { workers = record { accounts = accounts; acknowledged = acknowledged; made = made; collected = collected }; cuts = cuts }

-- ---- its base is the start

no_keys : HasShortKeys empty
no_keys =
    subst (All (λ (row : List ℕ × ℕ). IsShort row.0)) (sym (nil_from_length (entries (empty {X = ℕ} {R = key_cmp})) (sym (len-entries empty) ∙ len-empty key_cmp ℕ)))
    (All-from_recursion (λ (row : List ℕ × ℕ). IsShort row.0) [] tt)

one : {X : Type 0} (P : X → Type 0) (x : X) → P x → All P (x ∷ [])
one P x p = All-from_recursion P (x ∷ []) (p, tt)

fits : Fits its_job base
fits = record {
  offsets = refl;
  ended = refl;
  emitted = refl;
  tables = refl;
  takes = refl;
  saved_in = refl;
  saved_out = refl;
  keys = one HasShortKeys empty no_keys;
  runs = at_taker _ tt;
  spans = at_channel _ ([], record { whole = refl; short = tt });
  last_is_ended = λ h. absurd (true≢false (sym h));
  last_is_empty = λ h. absurd (true≢false (sym h));
}

pub begins : IsStart its_job base
begins = record {
  fits = fits;
  number = refl;
  text = refl;
  not_last = refl;
  offsets = one (λ (x : ℕ). x ≡ 0) 0 refl;
  ended = one (λ (t : Bool). t ≡ false) false refl;
  emitted = one (λ (x : ℕ). x ≡ 0) 0 refl;
  tables = one (λ (t : Values). t ≡ empty) empty refl;
  takes = one (λ (runs : Items TakeRun). runs.items ≡ []) (full []) refl;
  saved_in = one (λ (bytes : Items ℕ). bytes.items ≡ []) (full []) refl;
  saved_out = one (λ (bytes : Items ℕ). bytes.items ≡ []) (full []) refl;
}

-- ---- so its images are a chain

positive : IsInterval (Some 3)
positive n e = let same : 3 ≡ n = same_Some 3 n e in omega (arith, same)

pub its_chain : Laws → Chain its_job its_lines (Some 3) base (first ∷ second ∷ [])
its_chain laws =
    told_is_chain laws its_job its_lines (Some 3) base (first ∷ second ∷ []) chapters sent parcels more snapshot positive fits (unchanged_at_start laws its_job its_lines base begins) told

is_job : IsJob its_job
is_job = record { stages = omega arith; counts = counts; arguments = tt; widths = λ e low by. cc }
  where
    counts : (i : ℕ) → i ≤ suc (last_edge its_job) → (1 ≤ tasks its_job i) × (tasks its_job i ≤ TASKS_MAX)
    counts zero low = (omega arith, omega arith)
    counts (suc zero) low = (omega arith, omega arith)
    counts (suc (suc i)) low = absurd (omega arith)

pub its_tally : Laws → join Count (its_table ∷ []) ≡ tally its_job its_lines
its_tally laws = told_ends_in_tally laws its_job its_lines (Some 3) base (first ∷ second ∷ []) chapters sent parcels more snapshot is_job positive begins told refl

-- ---- what no worker can say

-- a task that put one of two records
none_lost : Emits its_job 0 0 0 2 (codes "a" ∷ codes "b" ∷ []) (λ b. 0 ∷ 0 ∷ 0 ∷ 1 ∷ 97 ∷ []) → ⊥
unfolding fnv length_bytes
none_lost emits = let all = (emits.puts 0 refl).whole in omega (arith, ap length all)

-- a barrier that was put before the last bytes of a record
none_cut : (later : List (List ℕ)) → stretches (Data (0 ∷ 0 ∷ 0 ∷ 1 ∷ []) ∷ Barrier 1 Inline ∷ Data (97 ∷ []) ∷ []) ≡ (0 ∷ 0 ∷ 0 ∷ 1 ∷ 97 ∷ []) ∷ later → ⊥
none_cut later e = cc

-- a record that was taken and not noted
none_hidden : RunsTake its_job 0 0 (record { «from» = 0; count = 1 } ∷ []) ((0, codes "a") ∷ (0, codes "b") ∷ []) → ⊥
none_hidden takes = let both = takes.senders_are in omega (arith, ap length both)

-- a snapshot that was left out
none_skipped : SourceStep its_job (its_lines 0) (Some 3) 0 (record { took = []; put = λ b. its_bytes; snapshot = of_source 1 }) (record { took = []; put = λ b. []; snapshot = of_source 3 }) → ⊥
none_skipped step = let next = step.number in omega (arith, next)

-- a last image before all sources were ended
not_last_yet : Collected its_job (Some 3) base (image_of 1 true 2 true its_table its_runs) → ⊥
not_last_yet collected = none_ended (collected.last.0 refl)
