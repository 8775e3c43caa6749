-- What the workers of a job did is a run told by its tasks and the cells of its channels.
use Rattle.std.proofs.Common.{◌≡◌, ℕ, zero, suc, ◌+◌, ◌<◌, ◌≤◌, Bool, true, false, leb, ltb, true≢false, List, [], ◌∷◌, length, Option, refl, sym, ap, subst, ◌∙◌, append-nil, arith}
use Rattle.std.specs.Prelude.{map, ◌&&◌, slice_range}
use Rattle.std.specs.List.{AllByRecursion}
use Rattle.std.proofs.lemmas.Bool.{and_parts, and_from, leb-true, ltb-true, ltb-false, le-leb, lt-ltb}
use Rattle.std.proofs.lemmas.List.{length-map}
use Rattle.turn_cell.specs.History.{by, entries_of}
use Rattle.flow_defs.specs.declared.image.Image.{Image}
use Rattle.flow_defs.specs.declared.image.Snapshot.{Snapshot}
use Rattle.flow_defs.specs.declared.job.Job.{Job}
use Rattle.flow_defs.specs.declared.parcel.Parcel.{Parcel}
use Rattle.flow_defs.specs.Jobs.{last_edge, tasks, exchange, is_channel}
use Rattle.flow_defs.specs.Tables.{add_all}
use Rattle.plain_machine.specs.Histories.{of_sender, records}
use Rattle.plain_machine.specs.Images.{saved}
use Rattle.plain_machine.proofs.StartLemmas.{saved_at_start}
use Rattle.job_start.specs.Starts.{from_of}
use Rattle.checkpoint_laws.specs.Chapters as told
use Rattle.checkpoint_laws.specs.Chapters.{Chapter, Linked, OffsetGoesOn, Emits, Step, applied, opening, shown}
use Rattle.checkpoint_laws.specs.Puts.{stretches}
use Rattle.checkpoint_laws.specs.Runs.{took_before}
use Rattle.checkpoint_laws.proofs.Told as chains
use Rattle.conn_parts.specs.Shares.{mine_at, seen_at}
use Rattle.subpartition.specs.declared.entry.SendEntry.{SendEntry}
use Rattle.subpartition.specs.Sending.{parcels_put}
use Rattle.input_channel.specs.declared.entry.ReceiveEntry.{ReceiveEntry}
use Rattle.channel_cut.specs.Cuts.{InLine, Shows}
use Rattle.channel_cut.specs.Ends.{AreEnds}
use Rattle.channel_cut.specs.Runs as cuts
use Rattle.channel_cut.specs.Runs.{HasNoFlight, TaskDid, IsFrom, StartIsFrom, opened}
use Rattle.channel_cut.specs.Takings.{taken_to}
use Rattle.channel_cut.proofs.Taking.{taken_in_chapters}
use Rattle.gate_account.specs.Accounts.{Account}
use Rattle.input_gate.specs.States.{shows_at}
use Rattle.task_output.specs.Outputs.{parcels_to, place_to}
use Rattle.task_taking.specs.Takings.{Gave}
use Rattle.source_task.specs.Accounts.{SourceHasAccount}
use Rattle.stage_task.specs.Accounts.{StageHasAccount}
use Rattle.aggregate_task.specs.Accounts.{AggregateHasAccount}
use Rattle.job_chain.specs.Ran.{TasksRan, JobRan, IsRunBase, StartIsRunBase, RanIsChain, RanEndsInWorth, lines_of}
use Rattle.job_chain.proofs.Tasks.{source_none, stage_none, aggregate_none, way_is, lane_is}

-- ---- where a task goes on from

step_on : (job : Job) (lines : ℕ → List (List ℕ)) (every : Option ℕ) (base : Image) (i a : ℕ) (first : Snapshot) (next : Chapter) →
    IsFrom job base i a first → Step job lines every i a (opening job base i a) next → Step job lines every i a (opened first) next
step_on job lines every base zero a first next is step = record {
  task = step.task;
  number = step.number ∙ ap (λ n. n + 1) (sym is.number);
  goes = subst (λ o. OffsetGoesOn every (length (lines a)) o next.snapshot.offset next.snapshot.ended) (sym (is.offset refl)) step.goes;
  emits =
      subst (λ o. Emits job 0 a first.emitted next.snapshot.emitted (slice_range (lines a) o next.snapshot.offset) next.put) (sym (is.offset refl))
      (subst (λ n. Emits job 0 a n next.snapshot.emitted (slice_range (lines a) (shown job base 0 a).offset next.snapshot.offset) next.put) (sym (is.emitted (omega arith))) step.emits);
}
step_on job lines every base (suc e) b first next is step = record {
  task = step.task;
  number = step.number ∙ ap (λ n. n + 1) (sym is.number);
  takes = step.takes;
  emits = λ low. subst (λ n. Emits job (suc e) b n next.snapshot.emitted (applied job e next.took) next.put) (sym (is.emitted low)) (step.emits low);
  counts = λ last. step.counts last ∙ ap (λ t. add_all job.agg t (records next.took)) (sym (is.table (ap suc last)));
}

linked_on : (job : Job) (lines : ℕ → List (List ℕ)) (every : Option ℕ) (base : Image) (i a : ℕ) (first : Snapshot) (chapters : List Chapter) →
    IsFrom job base i a first → Linked (Step job lines every i a) (opening job base i a) chapters → Linked (Step job lines every i a) (opened first) chapters
linked_on job lines every base i a first [] is linked = tt
linked_on job lines every base i a first (c ∷ chapters) is linked = (step_on job lines every base i a first c is linked.0, linked.1)

-- ---- what each did

-- The laws that are used.
pub record Laws : Type 0 where
  pub source : SourceHasAccount
  pub stage : StageHasAccount
  pub aggregate : AggregateHasAccount
  pub begins : StartIsFrom

module _ (laws : Laws) (all : TasksRan) (base : Image) (images : List Image) (may : IsRunBase all.job all.start (lines_of all.bytes) base) (ran : JobRan all base images) where
  open all use {job, size, start, every, bytes, own, gate, sent}
  open may use {is_base, still, unchanged}

  abbrev parcels : ℕ → ℕ → ℕ → List Parcel
  parcels i a b = parcels_to job i (own i a) b

  -- What the passes of the tasks had seen of the channel from task a to task b before edge e.
  abbrev sends : ℕ → ℕ → ℕ → List (ℕ × SendEntry)
  sends e a b = seen_at (place_to (exchange job e) b) (own e a)

  abbrev takes : ℕ → ℕ → ℕ → List (ℕ × ReceiveEntry)
  takes e a b = seen_at (place_to (exchange job e) a) (gate e b)

  -- the gate of task b behind edge e gave these groups
  record GaveGroups (e b : ℕ) (groups : List (List (ℕ × List ℕ))) : Type 0 where
    account : Account
    rest : List (ℕ × List ℕ)
    given : Gave job e b account (shows_at (gate e b)) groups rest

  -- what is told of task a of stage i
  record IsTold (i a : ℕ) (chapters : List Chapter) (more : ℕ → List (List ℕ)) : Type 0 where
    account : told.Account job (lines_of bytes) every base i a chapters (sent i a) (parcels i a) more
    gave : (e : ℕ) → i ≡ suc e → GaveGroups e a (map (λ (c : Chapter). c.took) chapters)
    no_flight : AllByRecursion HasNoFlight (sent i a)

  abbrev TellsOf : ℕ → ℕ → Type 0
  TellsOf i a = (chapters : List Chapter) × (more : ℕ → List (List ℕ)) × IsTold i a chapters more

  of_source : (a : ℕ) → a < tasks job 0 → TellsOf 0 a
  of_source a inside =
      let did = ran.sources a inside in
      let has = laws.source job (lines_of bytes) start base a size every (own 0 a) (sent 0 a) did.history (bytes a) did.fell did.rose did.cause is_base unchanged inside refl did.account in
      (has.0, has.1, record { account = has.2; gave = λ e is. absurd (omega (arith, is)); no_flight = source_none a every _ _ _ did.account.groups (sent 0 a) did.account.snapshots })

  behind : {e f : ℕ} → suc e ≡ suc f → e ≡ f
  behind is = omega (arith, is)

  of_stage : (e b : ℕ) → e < last_edge job → b < tasks job (suc e) → TellsOf (suc e) b
  of_stage e b low inside =
      let did = ran.stages e b low inside in
      let has = laws.stage job (lines_of bytes) base e b size start every did.gate_account (gate e b) (own (suc e) b) (sent (suc e) b) did.history did.takes did.cause is_base low inside did.account in (
        has.0,
        has.1,
        record {
          account = has.3;
          gave = λ f is. subst (λ (x : ℕ). GaveGroups x b (map (λ (c : Chapter). c.took) has.0)) (behind is) (record {
            account = did.gate_account;
            rest = did.account.rest;
            given = subst (λ (groups : List (List (ℕ × List ℕ))). Gave job e b did.gate_account (shows_at (gate e b)) groups did.account.rest) (sym has.2) did.account.given;
          });
          no_flight = stage_none job e b _ _ did.account.groups (sent (suc e) b) did.account.snapshots;
        },
      )

  of_aggregate : (b : ℕ) → b < tasks job (suc (last_edge job)) → TellsOf (suc (last_edge job)) b
  of_aggregate b inside =
      let e = last_edge job in
      let did = ran.aggregates b inside in
      let more : ℕ → List (List ℕ) = λ c. [] in
      let has = laws.aggregate job (lines_of bytes) base b start every did.gate_account (gate e b) (sent (suc e) b) did.history did.takes did.cause (parcels (suc e) b) more is_base inside did.account in (
        has.0,
        more,
        record {
          account = has.1;
          gave = λ f is. subst (λ (x : ℕ). GaveGroups x b (map (λ (c : Chapter). c.took) has.0)) (behind is) (record {
            account = did.gate_account;
            rest = did.account.rest;
            given = subst (λ (groups : List (List (ℕ × List ℕ))). Gave job e b did.gate_account (shows_at (gate e b)) groups did.account.rest) (sym has.2) did.account.given;
          });
          no_flight = aggregate_none job b _ _ did.account.groups (sent (suc e) b) did.account.snapshots;
        },
      )

  of_taker : (e b : ℕ) → suc e ≤ suc (last_edge job) → b < tasks job (suc e) → (before : Bool) → ltb e (last_edge job) ≡ before → TellsOf (suc e) b
  of_taker e b low inside true is = of_stage e b (ltb-true e (last_edge job) is) inside
  of_taker e b low inside false is =
      let same : last_edge job ≡ e = omega (arith, low, ltb-false e (last_edge job) is) in
      subst (λ (x : ℕ). TellsOf (suc x) b) same (of_aggregate b (subst (λ (x : ℕ). b < tasks job (suc x)) (sym same) inside))

  of_task : (i a : ℕ) → i ≤ suc (last_edge job) → a < tasks job i → TellsOf i a
  of_task zero a low inside = of_source a inside
  of_task (suc e) b low inside = of_taker e b low inside (ltb e (last_edge job)) refl

  -- for all numbers: where the job has no such task nothing is told
  record Tells (i a : ℕ) : Type 0 where
    chapters : List Chapter
    more : ℕ → List (List ℕ)
    told_them : i ≤ suc (last_edge job) → a < tasks job i → IsTold i a chapters more

  tells_by : (i a : ℕ) (there : Bool) → (leb i (suc (last_edge job)) && ltb a (tasks job i)) ≡ there → Tells i a
  tells_by i a true is =
      let parts = and_parts (leb i (suc (last_edge job))) (ltb a (tasks job i)) is in
      let has = of_task i a (leb-true i (suc (last_edge job)) parts.0) (ltb-true a (tasks job i) parts.1) in
      record { chapters = has.0; more = has.1; told_them = λ low inside. has.2 }
  tells_by i a false is = record {
    chapters = [];
    more = λ b. [];
    told_them = λ low inside. absurd (let yes : (leb i (suc (last_edge job)) && ltb a (tasks job i)) ≡ true = and_from _ _ (le-leb i (suc (last_edge job)) low) (lt-ltb a (tasks job i) inside) in cc);
  }

  tells : (i a : ℕ) → Tells i a
  tells i a = tells_by i a (leb i (suc (last_edge job)) && ltb a (tasks job i)) refl

  -- ---- the channels

  -- The passes of its two tasks are at their places.
  record OnChannel (e a b : ℕ) : Type 0 where
    own_is : by 0 (sends e a b) ≡ mine_at (place_to (exchange job e) b) (own e a)
    sent_there : List (ℕ × SendEntry)
    received_there : List (ℕ × ReceiveEntry)
    ends : AreEnds (sends e a b) (takes e a b) sent_there received_there

  on_channel : (e a b : ℕ) → is_channel job e a b ≡ true → OnChannel e a b
  on_channel e a b channel =
      let on = ran.channels e a b channel in
      let way = way_is (exchange job e) a (tasks job (suc e)) b on.way on.way_below on.leads in
      let lane = lane_is (exchange job e) b (tasks job e) a on.lane on.lane_below on.comes in
      record {
        own_is = subst (λ (w : ℕ). by 0 (seen_at w (own e a)) ≡ mine_at w (own e a)) way on.own_is;
        sent_there = on.sent;
        received_there = on.received;
        ends = subst (λ (l : ℕ). AreEnds (sends e a b) (seen_at l (gate e b)) on.sent on.received) lane
            (subst (λ (w : ℕ). AreEnds (seen_at w (own e a)) (seen_at on.lane (gate e b)) on.sent on.received) way on.ends);
      }

  -- for all numbers: where the job has no such channel nothing is told
  record Cells (e a b : ℕ) : Type 0 where
    sent_in : List (ℕ × SendEntry)
    received_in : List (ℕ × ReceiveEntry)
    closed : is_channel job e a b ≡ true → AreEnds (sends e a b) (takes e a b) sent_in received_in

  cells_by : (e a b : ℕ) (there : Bool) → is_channel job e a b ≡ there → Cells e a b
  cells_by e a b true is = let on = on_channel e a b is in record { sent_in = on.sent_there; received_in = on.received_there; closed = λ yes. on.ends }
  cells_by e a b false is = record { sent_in = []; received_in = []; closed = λ yes. absurd (true≢false (sym yes ∙ is)) }

  cells : (e a b : ℕ) → Cells e a b
  cells e a b = cells_by e a b (is_channel job e a b) refl

  -- ---- the run

  did : (i a : ℕ) → i ≤ suc (last_edge job) → a < tasks job i →
      TaskDid job (lines_of bytes) every (from_of job start i a) (λ e s. saved job base e s a) i a (tells i a).chapters (sent i a) (sends i a) (λ e s. takes e s a) (tells i a).more
  did i a low inside =
      let is = (tells i a).told_them low inside in
      let chapters = (tells i a).chapters in
      record {
        steps = linked_on job (lines_of bytes) every base i a (from_of job start i a) chapters (laws.begins job base start i a is_base.at) is.account.steps;
        snapshots = is.account.snapshots;
        no_flight = is.no_flight;
        puts = λ b channel. ap (λ es. stretches (parcels_put es)) (on_channel i a b channel).own_is ∙ is.account.puts b channel;
        cuts = λ e s k behind_edge channel below.
            let gave = is.gave e behind_edge in
            let groups = map (λ (c : Chapter). c.took) chapters in
            let on = ran.channels e s a channel in
            let lane = lane_is (exchange job e) a (tasks job e) s on.lane on.lane_below on.comes in
            let many = length-map chapters (λ (c : Chapter). c.took) in
            let shown_cut = (gave.given on.lane on.lane_below).1.cuts k (omega (arith, many, below)) in
            subst (λ (flight : List ℕ). Shows flight (entries_of (takes e s a)) (InLine (suc k) (of_sender s (took_before (suc k) chapters)))) (sym (still e s a channel))
            (subst (λ (g : List (ℕ × List ℕ)). Shows [] (entries_of (takes e s a)) (InLine (suc k) (of_sender s g))) (taken_in_chapters (suc k) groups [] chapters (sym (append-nil groups)) (omega (arith, below)))
            (subst (λ (l : ℕ). Shows [] (entries_of (seen_at l (gate e a))) (InLine (suc k) (of_sender s (taken_to (suc k) groups)))) lane
            (subst (λ (x : ℕ). Shows [] (entries_of (seen_at on.lane (gate e a))) (InLine (suc k) (of_sender x (taken_to (suc k) groups)))) on.comes shown_cut)));
      }

  told_run : cuts.JobRan job (lines_of bytes) every base images sent sends takes
  told_run = record {
    chapters = λ i a. (tells i a).chapters;
    more = λ i a. (tells i a).more;
    start = from_of job start;
    starts = λ i a low inside. laws.begins job base start i a is_base.at;
    did = did;
    sent = λ e a b. (cells e a b).sent_in;
    received = λ e a b. (cells e a b).received_in;
    channels = λ e a b. (cells e a b).closed;
    snapshot = ran.snapshot;
    acknowledged = ran.collected.acknowledged;
    made = ran.collected.made;
    collected = ran.collected.collected;
  }

-- ---- what comes of it

pub start_is_run_base : chains.Laws → StartIsRunBase
start_is_run_base laws job start lines base begins is = record {
  is_base = is;
  still = λ e a b channel. saved_at_start job base begins e a b;
  unchanged = chains.unchanged_at_start laws job lines base begins;
}

pub ran_is_chain : Laws → cuts.RanIsChain → RanIsChain
ran_is_chain laws chain all base images positive may ran =
    chain all.job (lines_of all.bytes) all.every base images all.sent _ _ positive may.is_base.fits may.unchanged (told_run laws all base images may ran)

pub ran_ends_in_worth : Laws → cuts.RanEndsInWorth → RanEndsInWorth
ran_ends_in_worth laws ends all base images is positive may ran last =
    ends all.job (lines_of all.bytes) all.every base images all.sent _ _ is positive may.is_base.fits may.unchanged (told_run laws all base images may ran) last
