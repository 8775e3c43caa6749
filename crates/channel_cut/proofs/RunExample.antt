-- A run that goes on from an image with a record in flight: the source emits its other line, and the task that counts takes the record that was
-- in flight and then that one, before the barrier of the last checkpoint. It is told as each run is, so the premises of the laws can be met.
use Rattle.std.proofs.Common.{length, ◌≡◌, ℕ, zero, suc, ◌<◌, ◌≤◌, Bool, true, false, true≢false, List, [], ◌∷◌, ◌++◌, Option, None, Some, refl, sym, subst, ◌∙◌, arith}
use Rattle.std.specs.Prelude.{All, Contains, codes, slice_index}
use Rattle.std.specs.FinMap.{empty, entries, len-entries, len-empty}
use Rattle.std.proofs.lemmas.List.Elements.{All-from_recursion}
use Rattle.turn_cell.specs.History.{by, IsHistory, entries_of}
use Rattle.turn_cell.proofs.Histories.{history_nil, history_more}
use Rattle.flow_defs.specs.Items.{Items}
use Rattle.flow_defs.specs.declared.parcel.Parcel.TheVariants.{Data, Barrier, End}
use Rattle.flow_defs.specs.declared.task.BarrierKind.TheVariants.{Inline}
use Rattle.flow_defs.specs.declared.job.Job.{Job}
use Rattle.flow_defs.specs.declared.job.AggKind.TheVariants.{Count}
use Rattle.flow_defs.specs.declared.job.TheConstants.{TASKS_MAX}
use Rattle.flow_defs.specs.declared.image.TakeRun.{TakeRun}
use Rattle.flow_defs.specs.declared.image.Snapshot.{Snapshot}
use Rattle.flow_defs.specs.declared.image.Image.{Image}
use Rattle.flow_defs.specs.Records.{IsShort, length_bytes, IsSpans}
use Rattle.flow_defs.specs.Routes.{fnv}
use Rattle.flow_defs.specs.Jobs.{last_edge, tasks, is_channel, IsJob}
use Rattle.flow_defs.specs.Tables.{Values, key_cmp, add_all, join}
use Rattle.plain_machine.specs.Emitting.{receiver_on, emit}
use Rattle.plain_machine.specs.Images.{HasShortKeys, saved, cut_of, Fits}
use Rattle.plain_machine.specs.Histories.{of_sender}
use Rattle.plain_machine.specs.Chains.{Chain, IsUnchanged}
use Rattle.plain_machine.specs.Worth.{worth}
use Rattle.checkpoint_laws.specs.Puts.{stretches}
use Rattle.checkpoint_laws.specs.Chapters.{Chapter}
use Rattle.checkpoint_laws.specs.Collecting.{IsMadeOf, Collected}
use Rattle.checkpoint_laws.specs.Runs.{IsInterval, image_at, took_before}
use Rattle.checkpoint_laws.proofs.Told.{ends}
use Rattle.subpartition.specs.declared.entry.SendEntry.{SendEntry}
use Rattle.subpartition.specs.declared.entry.SendEntry.TheVariants.{Put, PutInline, Finish, Take}
use Rattle.subpartition.specs.Sending.{MaySendAs, parcels_put}
use Rattle.input_channel.specs.declared.entry.Gave.TheVariants.{Exclusive, NoBuffer}
use Rattle.input_channel.specs.declared.entry.ReceiveEntry.{ReceiveEntry}
use Rattle.input_channel.specs.declared.entry.ReceiveEntry.TheVariants.{Push, Poll}
use Rattle.channel_cut.specs.Cuts.{CameInLine, InLine, Shows}
use Rattle.channel_cut.specs.Ends.{AreEnds}
use Rattle.channel_cut.specs.Takings.{taken_to, TakenOn}
use Rattle.channel_cut.specs.Runs.{TaskDid, IsFrom, JobRan}
use Rattle.channel_cut.specs.Works.{HasWorked, brought}
use Rattle.channel_cut.proofs.Taking.{taken_begins, line_is_taken, barrier_is_given, snapshot_is_taken}
use Rattle.channel_cut.proofs.Running.{Laws, ran_is_chain, ran_ends_in_worth}

abbrev full : {X : Type 0} → List X → Items X
full list = record { items = list; room = 0 }

abbrev its_job : Job
its_job = record { sources = full (full (codes "in") ∷ []); stages = full []; agg = Count; agg_tasks = 1; text = full (codes "source in\naggregate count 1\n") }

abbrev its_lines : ℕ → List (List ℕ)
its_lines a = codes "a" ∷ codes "b" ∷ []

-- the encodings of the records a and b
abbrev bytes_a : List ℕ
bytes_a = 0 ∷ 0 ∷ 0 ∷ 1 ∷ 97 ∷ []

abbrev bytes_b : List ℕ
bytes_b = 0 ∷ 0 ∷ 0 ∷ 1 ∷ 98 ∷ []

abbrev its_table : Values
its_table = add_all Count empty (codes "a" ∷ codes "b" ∷ [])

abbrev its_runs : List TakeRun
its_runs = record { «from» = 0; count = 2 } ∷ []

abbrev image_of : ℕ → Bool → ℕ → Values → List TakeRun → List ℕ → Image
image_of number last lines table runs came = record {
  number = number;
  final_one = last;
  text = its_job.text;
  offsets = full (lines ∷ []);
  ended = full (last ∷ []);
  emitted = full (lines ∷ []);
  tables = full (table ∷ []);
  takes = full (full runs ∷ []);
  saved_in = full (full came ∷ []);
  saved_out = full (full [] ∷ []);
}

abbrev base : Image
base = image_of 5 false 1 empty [] bytes_a

abbrev stored : Image
stored = image_of 6 true 2 its_table its_runs []

abbrev of_source : ℕ → ℕ → Bool → Snapshot
of_source number lines ended = record {
  task = record { stage = 0; index = 0 };
  number = number;
  offset = lines;
  ended = ended;
  emitted = lines;
  table = empty;
  takes = full [];
  saved_in = full [];
  saved_out = full [];
}

abbrev of_counter : ℕ → Values → List TakeRun → Snapshot
of_counter number table runs = record {
  task = record { stage = 1; index = 0 };
  number = number;
  offset = 0;
  ended = false;
  emitted = 0;
  table = table;
  takes = full runs;
  saved_in = full [];
  saved_out = full [];
}

abbrev start : ℕ → ℕ → Snapshot
start zero a = of_source 5 1 false
start (suc i) a = of_counter 5 empty []

abbrev snapshot : ℕ → ℕ → ℕ → Snapshot
snapshot k zero a = of_source 6 2 true
snapshot k (suc i) a = of_counter 6 its_table its_runs

abbrev took : List (ℕ × List ℕ)
took = (0, codes "a") ∷ (0, codes "b") ∷ []

abbrev chapters : ℕ → ℕ → List Chapter
chapters zero a = record { took = []; put = λ b. bytes_b; snapshot = snapshot 0 0 0 } ∷ []
chapters (suc i) a = record { took = took; put = λ b. []; snapshot = snapshot 0 1 0 } ∷ []

abbrev acks : ℕ → ℕ → List Snapshot
acks i a = snapshot 0 i a ∷ []

-- ---- the cells of its one channel

abbrev sends : ℕ → ℕ → ℕ → List (ℕ × SendEntry)
sends e a b = (0, Put bytes_b) ∷ (1, Take) ∷ (0, PutInline 1) ∷ (0, Finish) ∷ []

abbrev sent : ℕ → ℕ → ℕ → List (ℕ × SendEntry)
sent e a b = (0, Put bytes_b) ∷ (1, Take) ∷ (0, PutInline 1) ∷ (0, Finish) ∷ (1, Take) ∷ (1, Take) ∷ []

abbrev takes : ℕ → ℕ → ℕ → List (ℕ × ReceiveEntry)
takes e a b = (1, Push (Data bytes_b) 2) ∷ (0, Poll true Exclusive) ∷ (1, Push (Barrier 1 Inline) 1) ∷ (0, Poll false NoBuffer) ∷ []

abbrev received : ℕ → ℕ → ℕ → List (ℕ × ReceiveEntry)
received e a b = (1, Push (Data bytes_b) 2) ∷ (0, Poll true Exclusive) ∷ (1, Push (Barrier 1 Inline) 1) ∷ (0, Poll false NoBuffer) ∷ (1, Push End 0) ∷ []

legal : IsHistory (MaySendAs 64) ((0, Put bytes_b) ∷ (1, Take) ∷ (0, PutInline 1) ∷ (0, Finish) ∷ (1, Take) ∷ (1, Take) ∷ [])
legal =
    history_more (MaySendAs 64) ((0, Put bytes_b) ∷ (1, Take) ∷ (0, PutInline 1) ∷ (0, Finish) ∷ (1, Take) ∷ []) (1, Take)
    (history_more (MaySendAs 64) ((0, Put bytes_b) ∷ (1, Take) ∷ (0, PutInline 1) ∷ (0, Finish) ∷ []) (1, Take)
    (history_more (MaySendAs 64) ((0, Put bytes_b) ∷ (1, Take) ∷ (0, PutInline 1) ∷ []) (0, Finish)
    (history_more (MaySendAs 64) ((0, Put bytes_b) ∷ (1, Take) ∷ []) (0, PutInline 1)
    (history_more (MaySendAs 64) ((0, Put bytes_b) ∷ []) (1, Take)
    (history_more (MaySendAs 64) [] (0, Put bytes_b) (history_nil (MaySendAs 64)) (refl, refl)) (refl, tt)) (refl, record { unfinished = refl; next = refl })) (refl, refl)) (refl, tt)) (refl, tt)

-- ---- its only tasks and its only channel

at_zero : (P : ℕ → Type 0) → P 0 → (a : ℕ) → a < 1 → P a
at_zero P p zero h = p
at_zero P p (suc a) h = absurd (omega arith)

at_sender : (P : ℕ → ℕ → Type 0) → P 0 0 → (i a : ℕ) → i ≤ 0 → a < tasks its_job i → P i a
at_sender P p zero zero h there = p
at_sender P p zero (suc a) h there = absurd (omega arith)
at_sender P p (suc i) a h there = absurd (omega arith)

at_taker : (P : ℕ → ℕ → Type 0) → P 0 0 → (e b : ℕ) → e ≤ 0 → b < tasks its_job (suc e) → P e b
at_taker P p zero zero h there = p
at_taker P p zero (suc b) h there = absurd (omega arith)
at_taker P p (suc e) b h there = absurd (omega arith)

at_channel : (P : ℕ → ℕ → ℕ → Type 0) → P 0 0 0 → (e a b : ℕ) → is_channel its_job e a b ≡ true → P e a b
at_channel P p e a b on = let at_ends = ends its_job e a b on in go e a b at_ends.edge at_ends.sender at_ends.receiver
  where
    go : (e a b : ℕ) → e ≤ 0 → a < tasks its_job e → b < tasks its_job (suc e) → P e a b
    go zero zero zero h there opposite = p
    go zero zero (suc b) h there opposite = absurd (omega arith)
    go zero (suc a) b h there opposite = absurd (omega arith)
    go (suc e) a b h there opposite = absurd (omega arith)

-- ---- what its tasks did

puts_b : (b : ℕ) → is_channel its_job 0 0 b ≡ true → IsSpans bytes_b (emit (receiver_on its_job 0 0) 1 (codes "b" ∷ []) b)
unfolding fnv length_bytes
puts_b zero on = record { whole = refl; short = (omega arith, tt) }
puts_b (suc b) on = let at_ends = ends its_job 0 0 (suc b) on in absurd (omega (arith, at_ends.receiver))

came : CameInLine bytes_a (entries_of (takes 0 0 0)) 1 (codes "a" ∷ codes "b" ∷ [])
unfolding length_bytes
came = record {
  before = Push (Data bytes_b) 2 ∷ Poll true Exclusive ∷ Push (Barrier 1 Inline) 1 ∷ [];
  hold = false;
  gave = NoBuffer;
  after = [];
  whole = refl;
  in_line = record { gives = refl; once = refl };
  left = [];
  read = record { is = refl; short = (omega arith, (omega arith, tt)) };
  none_whole = refl;
}

-- line by line up to the barrier, and then the snapshot
taken : TakenOn (Shows bytes_a (entries_of (takes 0 0 0))) (codes "a" ∷ codes "b" ∷ []) 0 (took ∷ []) [] false
taken =
    let shows = Shows bytes_a (entries_of (takes 0 0 0)) in
    let first = line_is_taken shows 0 [] (codes "a") [] [] (taken_begins shows 0) in
    let both = line_is_taken shows 0 (codes "a" ∷ []) (codes "b") [] ((0, codes "a") ∷ []) first in
    snapshot_is_taken shows 0 (codes "a" ∷ codes "b" ∷ []) [] took (barrier_is_given shows 0 (codes "a" ∷ codes "b" ∷ []) [] took false came both)

cut_there : (up_to : ℕ → List (ℕ × List ℕ)) → up_to 1 ≡ took → (e s k : ℕ) → is_channel its_job e s 0 ≡ true → k < 1 → Shows (saved its_job base e s 0) (entries_of (takes e s 0)) (InLine (suc k) (of_sender s (up_to (suc k))))
cut_there up_to is e s zero on low =
    subst (λ t. Shows (saved its_job base e s 0) (entries_of (takes e s 0)) (InLine 1 (of_sender s t))) (sym is)
    (at_channel (λ e s b. Shows (saved its_job base e s 0) (entries_of (takes e s 0)) (InLine 1 (of_sender s took))) (taken.cuts 0 (omega arith)) e s 0 on)
cut_there up_to is e s (suc k) on low = absurd (omega arith)

did : (i a : ℕ) → i ≤ 1 → a < tasks its_job i →
    TaskDid its_job its_lines None (start i a) (λ e s. saved its_job base e s a) i a (chapters i a) (acks i a) (sends i a) (λ e s. takes e s a) (λ b. [] ∷ [])
did zero zero h there = record {
  steps = (record { task = refl; number = refl; goes = (refl, refl); emits = record { count = refl; puts = puts_b } }, tt);
  snapshots = refl;
  no_flight = ((refl, refl), tt);
  puts = λ b on. refl;
  cuts = λ e s k is on low. absurd (omega (arith, is));
}
did zero (suc a) h there = absurd (omega arith)
did (suc zero) zero h there = record {
  steps = (
    record {
      task = refl;
      number = refl;
      takes = record { senders_are = refl; are_runs = (refl, omega arith); short = (omega arith, (omega arith, tt)) };
      emits = λ low. absurd (omega arith);
      counts = λ e. refl;
    },
    tt,
  );
  snapshots = refl;
  no_flight = ((refl, refl), tt);
  puts = λ b on. let at_ends = ends its_job 1 0 b on in absurd (omega (arith, at_ends.edge));
  cuts = λ e s k is on low. cut_there (λ n. took_before n (chapters 1 0)) refl e s k on low;
}
did (suc zero) (suc a) h there = absurd (omega arith)
did (suc (suc i)) a h there = absurd (omega arith)

-- ---- as their loops keep it

put_there : (b : ℕ) → is_channel its_job 0 0 b ≡ true → stretches (parcels_put (by 0 (sends 0 0 b))) ≡ brought (receiver_on its_job 0 0) 1 ((codes "b" ∷ []) ∷ []) b ++ [] ∷ []
unfolding fnv length_bytes
put_there zero on = refl
put_there (suc b) on = let at_ends = ends its_job 0 0 (suc b) on in absurd (omega (arith, at_ends.receiver))

pub source_worked : HasWorked its_job its_lines None (start 0 0) (λ e s. saved its_job base e s 0) 0 0 (record { took = []; emitted = codes "b" ∷ [] } ∷ []) (acks 0 0) (sends 0 0) (λ e s. takes e s 0) (λ b. [] ∷ [])
source_worked = record {
  are_works = (record { task = refl; number = refl; goes = (refl, refl); emits = refl; count = refl; short = (omega arith, tt) }, tt);
  no_flight = ((refl, refl), tt);
  puts = put_there;
  cuts = λ e s k is on low. absurd (omega (arith, is));
}

pub counter_worked : HasWorked its_job its_lines None (start 1 0) (λ e s. saved its_job base e s 0) 1 0 (record { took = took; emitted = [] } ∷ []) (acks 1 0) (sends 1 0) (λ e s. takes e s 0) (λ b. [] ∷ [])
counter_worked = record {
  are_works = (
    record {
      task = refl;
      number = refl;
      takes = record { senders_are = refl; are_runs = (refl, omega arith); short = (omega arith, (omega arith, tt)) };
      emits = λ low. absurd (omega arith);
      count = λ low. absurd (omega arith);
      short = tt;
      counts = λ e. refl;
    },
    tt,
  );
  no_flight = ((refl, refl), tt);
  puts = λ b on. let at_ends = ends its_job 1 0 b on in absurd (omega (arith, at_ends.edge));
  cuts = λ e s k is on low. cut_there (λ n. taken_to n (took ∷ [])) refl e s k on low;
}

-- ---- from where they went on

starts : (i a : ℕ) → i ≤ 1 → a < tasks its_job i → IsFrom its_job base i a (start i a)
starts zero zero h there = record { number = refl; offset = λ e. refl; emitted = λ e. refl; table = λ e. absurd (omega (arith, e)) }
starts zero (suc a) h there = absurd (omega arith)
starts (suc zero) zero h there = record { number = refl; offset = λ e. absurd (omega (arith, e)); emitted = λ e. absurd (omega (arith, e)); table = λ e. refl }
starts (suc zero) (suc a) h there = absurd (omega arith)
starts (suc (suc i)) a h there = absurd (omega arith)

-- ---- its collecting worker

acknowledged : (k i a : ℕ) → k < 1 → i ≤ 1 → a < tasks its_job i → Contains (acks i a) (snapshot k i a) × ((snapshot k i a).number ≡ (image_at base (stored ∷ []) (suc k)).number)
acknowledged zero zero a low h there = ((0, omega arith, refl), refl)
acknowledged zero (suc i) a low h there = ((0, omega arith, refl), refl)
acknowledged (suc k) i a low h there = absurd (omega arith)

made : (k : ℕ) → k < 1 → IsMadeOf its_job (image_at base (stored ∷ []) (suc k)) (snapshot k)
made zero low = record {
  offsets = at_zero _ refl;
  ended = at_zero _ refl;
  emitted = at_sender _ refl;
  tables = at_zero _ refl;
  takes = at_taker _ refl;
  saved_in = at_channel _ refl;
  saved_out = at_channel _ refl;
}
made (suc k) low = absurd (omega arith)

collected : (k : ℕ) → k < 1 → Collected its_job None (image_at base (stored ∷ []) k) (image_at base (stored ∷ []) (suc k))
collected zero low = record {
  number = refl;
  text = refl;
  not_last = refl;
  last = refl;
  offsets = refl;
  ended = refl;
  emitted = refl;
  tables = refl;
  takes = refl;
  saved_in = refl;
  saved_out = refl;
  last_is_empty = λ h. at_channel _ refl;
}
collected (suc k) low = absurd (omega arith)

-- ---- the run

ends_there : (e a b : ℕ) → is_channel its_job e a b ≡ true → AreEnds (sends e a b) (takes e a b) (sent e a b) (received e a b)
ends_there e a b on = record {
  size = 64;
  legal = legal;
  sender = ((1, Take) ∷ (1, Take) ∷ [], refl);
  all_put = refl;
  receiver = ((1, Push End 0) ∷ [], refl);
  begins = ([], refl);
}

pub ran : JobRan its_job its_lines None base (stored ∷ []) acks sends takes
ran = record {
  chapters = chapters;
  more = λ i a b. [] ∷ [];
  start = start;
  starts = starts;
  did = did;
  sent = sent;
  received = received;
  channels = ends_there;
  snapshot = snapshot;
  acknowledged = acknowledged;
  made = made;
  collected = collected;
}

-- ---- its base fits

nothing_of_length : {X : Type 0} (xs : List X) → length xs ≡ 0 → xs ≡ []
nothing_of_length [] is = refl
nothing_of_length (x ∷ xs) is = absurd (omega arith)

no_keys : HasShortKeys empty
no_keys =
    subst (All (λ (row : List ℕ × ℕ). IsShort row.0)) (sym (nothing_of_length (entries (empty {X = ℕ} {R = key_cmp})) (sym (len-entries empty) ∙ len-empty key_cmp ℕ)))
    (All-from_recursion (λ (row : List ℕ × ℕ). IsShort row.0) [] tt)

spanned : IsSpans bytes_a (codes "a" ∷ [])
unfolding length_bytes
spanned = record { whole = refl; short = (omega arith, tt) }

fits : Fits its_job base
fits = record {
  offsets = refl;
  ended = refl;
  emitted = refl;
  tables = refl;
  takes = refl;
  saved_in = refl;
  saved_out = refl;
  keys = All-from_recursion HasShortKeys (empty ∷ []) (no_keys, tt);
  runs = at_taker _ tt;
  spans = at_channel _ (codes "a" ∷ [], spanned);
  last_is_ended = λ h. absurd (true≢false (sym h));
  last_is_empty = λ h. absurd (true≢false (sym h));
}

unchanged : IsUnchanged its_job its_lines base
unchanged = record { read = at_zero (λ a. slice_index base.offsets.items a ≤ 2) (omega arith); ended = at_zero _ (λ is. absurd (some_ended is)) }
  where
    some_ended : Some false ≡ Some true → ⊥
    some_ended is = cc

positive : IsInterval None
positive n e = absurd (none_some e)
  where
    none_some : ◌≡◌ {A = Option ℕ} None (Some n) → ⊥
    none_some e = cc

is_job : IsJob its_job
is_job = record { stages = omega arith; counts = counts; arguments = tt; widths = λ e low by. cc }
  where
    counts : (i : ℕ) → i ≤ suc (last_edge its_job) → (1 ≤ tasks its_job i) × (tasks its_job i ≤ TASKS_MAX)
    counts zero low = (omega arith, omega arith)
    counts (suc zero) low = (omega arith, omega arith)
    counts (suc (suc i)) low = absurd (omega arith)

-- ---- so its image is the machine's next one, and its table is what the base is worth

pub its_chain : Laws → Chain its_job its_lines None base (stored ∷ [])
its_chain laws = ran_is_chain laws its_job its_lines None base (stored ∷ []) acks sends takes positive fits unchanged ran

pub its_worth : Laws → join Count (its_table ∷ []) ≡ worth its_job its_lines (cut_of its_job base)
its_worth laws = ran_ends_in_worth laws its_job its_lines None base (stored ∷ []) acks sends takes is_job positive fits unchanged ran refl
