-- What stands at each place once the workers of a job have run.
use Rattle.std.proofs.Common.{◌≡◌, ℕ, zero, suc, ◌<◌, List, [], ◌∷◌, length, Option, Some, slice_get, refl, sym, ap, subst, ◌∙◌, arith, inl, inr}
use Rattle.std.specs.Option.{option_map_or}
use Rattle.std.proofs.lemmas.Bool.{cases_lt}
use Rattle.std.proofs.lemmas.Option.{slice_get_within}
use Rattle.flow_defs.specs.Items.{Items}
use Rattle.flow_defs.specs.declared.job.Job.{Job}
use Rattle.flow_defs.specs.Jobs.{last_edge, tasks}
use Rattle.outside.specs.declared.wires.Wire.{Wire}
use Rattle.conn_parts.specs.declared.share.LoopEnd.{LoopEnd}
use Rattle.job_cells.specs.declared.edge.Edge.{Edge}
use Rattle.job_workers.specs.declared.connection.ConnLoop.{ConnLoop}
use Rattle.job_workers.specs.declared.connection.ConnLoop.TheVariants as todo
use Rattle.job_workers.specs.declared.connection.LoopLeft.{LoopLeft}
use Rattle.job_workers.specs.declared.connection.LoopLeft.TheVariants as did
use Rattle.job_workers.specs.declared.connection.LoopWork.{LoopWork}
use Rattle.job_workers.specs.declared.place.Place.TheVariants.{Todo, Ended, Vacant}
use Rattle.job_workers.specs.declared.task.SourceTask.{SourceTask}
use Rattle.job_workers.specs.declared.task.StageTask.{StageTask}
use Rattle.job_workers.specs.declared.task.AggregateTask.{AggregateTask}
use Rattle.job_workers.specs.declared.task.Task.TheVariants.{Source, Stage, Aggregate}
use Rattle.job_workers.specs.declared.task.TaskLeft.{TaskLeft}
use Rattle.job_workers.specs.Loops.{LeftByLoop, SentItems, SentControl, ReadControl, ReadItems}
use Rattle.job_workers.specs.Places.{RowLeaves}
use Rattle.job_workers.specs.Tasks.{LeftByTask, LeftBySource, LeftByStage, LeftByAggregate, gate_in, passes_in, snapshots_in}
use Rattle.job_deploy.specs.Deployed.{AreLoopsAt, IsSourceAt, IsStageAt, IsAggregateAt}
use Rattle.job_ends.specs.Ended.{TaskPlace, LoopPlace, left_in, left_at, own_at, gate_at, snapshots_at}
use Rattle.job_outcome.specs.Theorems.{HaveRun, Run}
use Rattle.job_outcome.specs.Words.{LinkWords, WorldWords}
use Rattle.job_outcome.proofs.Places.{same_some, placed, at_place, four, end_at}

-- Something was left at place i of row s.
pub record EndAt {S : Type 0} (rows : List (Items (TaskPlace S))) (s i : ℕ) : Type 0 where
  pub row : Items (TaskPlace S)
  pub row_is : slice_get rows s ≡ Some row
  pub left : TaskLeft S
  pub left_is : slice_get row.items i ≡ Some (Ended left)

module _ {S : Type 0} (rows : List (Items (TaskPlace S))) (s i : ℕ) (end : EndAt rows s i) where
  -- It is what is told of that place.
  pub is_left : left_at rows s i ≡ Some end.left
  is_left =
      ap (λ (o : Option (Items (TaskPlace S))). left_in (option_map_or (λ (row : Items (TaskPlace S)). option_map_or (λ (place : TaskPlace S). place) (slice_get row.items i) Vacant) o Vacant)) end.row_is
      ∙ ap (λ (o : Option (TaskPlace S)). left_in (option_map_or (λ (place : TaskPlace S). place) o Vacant)) end.left_is

  pub is_own : own_at rows s i ≡ passes_in end.left.partition
  is_own = ap (λ (o : Option (TaskLeft S)). option_map_or (λ (left : TaskLeft S). passes_in left.partition) o []) is_left

  pub is_sent : snapshots_at rows s i ≡ snapshots_in end.left.snapshots
  is_sent = ap (λ (o : Option (TaskLeft S)). option_map_or (λ (left : TaskLeft S). snapshots_in left.snapshots) o []) is_left

pub is_gate : {S : Type 0} (rows : List (Items (TaskPlace S))) (e b : ℕ) (end : EndAt rows (suc e) b) → gate_at rows e b ≡ gate_in end.left.gate
is_gate {S} rows e b end = ap (λ (o : Option (TaskLeft S)). option_map_or (λ (left : TaskLeft S). gate_in left.gate) o []) (is_left rows (suc e) b end)

module _ {O I L N : Type 0} (links : LinkWords O I L N) where
  open links use {line, sent, of_out, end_line, got, ended, of_in}

  abbrev Leaving : ConnLoop O I → LoopLeft O I → Type 0
  Leaving = LeftByLoop line sent of_out end_line got ended of_in

  sent_items : (work : LoopWork O) (left : LoopLeft O I) → Leaving (todo.SendItems work) left → (end : LoopEnd O) × (left ≡ did.SentItems end) × SentItems line sent of_out work.share work.half end
  sent_items work (did.SentItems end) h = (end, refl, h)
  sent_items work (did.ReadControl end) h = absurd h
  sent_items work (did.ReadItems end) h = absurd h
  sent_items work (did.SentControl end) h = absurd h

  read_control : (work : LoopWork I) (left : LoopLeft O I) → Leaving (todo.ReadControl work) left → (end : LoopEnd I) × (left ≡ did.ReadControl end) × ReadControl end_line got ended of_in work.share work.half end
  read_control work (did.ReadControl end) h = (end, refl, h)
  read_control work (did.SentItems end) h = absurd h
  read_control work (did.ReadItems end) h = absurd h
  read_control work (did.SentControl end) h = absurd h

  read_items : (work : LoopWork I) (left : LoopLeft O I) → Leaving (todo.ReadItems work) left → (end : LoopEnd I) × (left ≡ did.ReadItems end) × ReadItems end_line got ended of_in work.share work.half end
  read_items work (did.ReadItems end) h = (end, refl, h)
  read_items work (did.SentItems end) h = absurd h
  read_items work (did.ReadControl end) h = absurd h
  read_items work (did.SentControl end) h = absurd h

  sent_control : (work : LoopWork O) (left : LoopLeft O I) → Leaving (todo.SendControl work) left → (end : LoopEnd O) × (left ≡ did.SentControl end) × SentControl line sent of_out work.share work.half end
  sent_control work (did.SentControl end) h = (end, refl, h)
  sent_control work (did.SentItems end) h = absurd h
  sent_control work (did.ReadControl end) h = absurd h
  sent_control work (did.ReadItems end) h = absurd h

  -- The four loops of an edge, and what they left.
  pub record EndsAt (job : Job) (e : ℕ) (edge : Edge) (wire : Wire O I) (row : List (LoopPlace O I)) : Type 0 where
    pub before : List (LoopPlace O I)
    pub was : AreLoopsAt job e edge wire before
    pub send : LoopEnd O
    pub control : LoopEnd I
    pub items : LoopEnd I
    pub announce : LoopEnd O
    pub row_is : row ≡ Ended (did.SentItems send) ∷ Ended (did.ReadControl control) ∷ Ended (did.ReadItems items) ∷ Ended (did.SentControl announce) ∷ []
    pub by_send : SentItems line sent of_out was.send.share was.send.half send
    pub by_control : ReadControl end_line got ended of_in was.control.share was.control.half control
    pub by_items : ReadItems end_line got ended of_in was.items.share was.items.half items
    pub by_announce : SentControl line sent of_out was.announce.share was.announce.half announce

  pub ends_at : {job : Job} {e : ℕ} {edge : Edge} {wire : Wire O I} {before row : List (LoopPlace O I)} → AreLoopsAt job e edge wire before →
      RowLeaves Leaving before row → EndsAt job e edge wire row
  ends_at {before = before} {row = row} was leaves =
      let at = λ (k : ℕ). ap (λ (xs : List (LoopPlace O I)). slice_get xs k) was.row_is in
      let a = end_at Leaving before row 0 (todo.SendItems was.send) leaves (at 0) in
      let b = end_at Leaving before row 1 (todo.ReadControl was.control) leaves (at 1) in
      let c = end_at Leaving before row 2 (todo.ReadItems was.items) leaves (at 2) in
      let d = end_at Leaving before row 3 (todo.SendControl was.announce) leaves (at 3) in
      let s = sent_items was.send a.0 a.2 in
      let r = read_control was.control b.0 b.2 in
      let i = read_items was.items c.0 c.2 in
      let n = sent_control was.announce d.0 d.2 in
      let stands = λ (x y : LoopLeft O I) (k : ℕ) (e : slice_get row k ≡ Some (Ended x)) (same : x ≡ y).
      subst (λ (z : LoopLeft O I). slice_get row k ≡ Some (Ended z)) same e in
      record {
        before = before;
        was = was;
        send = s.0;
        control = r.0;
        items = i.0;
        announce = n.0;
        row_is = four (leaves.many ∙ ap (λ (xs : List (LoopPlace O I)). length xs) was.row_is)
            (stands a.0 (did.SentItems s.0) 0 a.1 s.1)
            (stands b.0 (did.ReadControl r.0) 1 b.1 r.1)
            (stands c.0 (did.ReadItems i.0) 2 c.1 i.1)
            (stands d.0 (did.SentControl n.0) 3 d.1 n.1);
        by_send = s.2;
        by_control = r.2;
        by_items = i.2;
        by_announce = n.2;
      }

-- What ran, of which all else follows.
module _ {S O I L N : Type 0} {words : WorldWords S O I L N} {run : Run S O I} (ran : HaveRun words run) where
  open run use {job, size, every, snapshots, edges, inputs, wires, rows, loops}
  open words use {left, faults, links}

  abbrev last : ℕ
  last = last_edge job

  -- ---- the tasks

  -- A row before and after.
  record Rows (s : ℕ) : Type 0 where
    before : Items (TaskPlace S)
    before_is : slice_get ran.rows_before s ≡ Some before
    after : Items (TaskPlace S)
    after_is : slice_get rows s ≡ Some after
    leaves : RowLeaves (LeftByTask left faults job) before.items after.items

  rows_at : (s : ℕ) → s < suc (suc last) → Rows s
  rows_at s low =
      let before = at_place ran.rows_before s (omega (arith, low, ran.deployed.rows_many)) in
      let after = at_place rows s (omega (arith, low, ran.rows_many, ran.deployed.rows_many)) in
      record {
        before = before.0;
        before_is = before.1;
        after = after.0;
        after_is = after.1;
        leaves = ran.rows_left s before.0 after.0 before.1 after.1;
      }

  before_many : (s : ℕ) (row : Items (TaskPlace S)) → slice_get ran.rows_before s ≡ Some row → length row.items ≡ tasks job s
  before_many zero row at = (ran.deployed.sources row at).many
  before_many (suc e) row at = elim (cases_lt e last) [
    | inl low ↦ (ran.deployed.stages e row low at).many
    | inr high ↦
        let low = slice_get_within ran.rows_before (suc e) row at in
        let is : e ≡ last = omega (arith, low, high, ran.deployed.rows_many) in
        (ran.deployed.aggregates row (subst (λ (k : ℕ). slice_get ran.rows_before (suc k) ≡ Some row) is at)).many ∙ ap (λ (k : ℕ). tasks job (suc k)) (sym is)
  ]

  pub row_many : (s : ℕ) (row : Items (TaskPlace S)) → slice_get rows s ≡ Some row → length row.items ≡ tasks job s
  row_many s row at =
      let low = slice_get_within rows s row at in
      let r = rows_at s (omega (arith, low, ran.rows_many, ran.deployed.rows_many)) in
      ap (λ (x : Items (TaskPlace S)). length x.items) (same_some (slice_get rows s) row r.after at r.after_is) ∙ r.leaves.many ∙ before_many s r.before r.before_is

  -- What a task left at its place.
  pub record BySource (a : ℕ) : Type 0 where
    pub end : EndAt rows 0 a
    pub task : SourceTask S
    pub was : IsSourceAt job size every snapshots edges inputs a task
    pub by : LeftBySource left faults job task end.left

  pub record ByStage (e b : ℕ) : Type 0 where
    pub end : EndAt rows (suc e) b
    pub task : StageTask
    pub was : IsStageAt job size every snapshots edges e b task
    pub by : LeftByStage job task end.left

  pub record ByAggregate (b : ℕ) : Type 0 where
    pub end : EndAt rows (suc last) b
    pub task : AggregateTask
    pub was : IsAggregateAt job size every snapshots edges b task
    pub by : LeftByAggregate job task end.left

  pub source_at : (a : ℕ) → a < tasks job 0 → BySource a
  source_at a low =
      let r = rows_at 0 (omega arith) in
      let are = ran.deployed.sources r.before r.before_is in
      let place = at_place r.before.items a (omega (arith, low, are.many)) in
      let task = are.each a place.0 place.1 in
      let e = end_at (LeftByTask left faults job) r.before.items r.after.items a (Source task.0) r.leaves (placed (slice_get r.before.items a) place.0 (Todo (Source task.0)) place.1 task.1) in
      record {
        end = record { row = r.after; row_is = r.after_is; left = e.0; left_is = e.1 };
        task = task.0;
        was = task.2;
        by = e.2;
      }

  pub stage_at : (e b : ℕ) → e < last → b < tasks job (suc e) → ByStage e b
  stage_at e b before low =
      let r = rows_at (suc e) (omega (arith, before)) in
      let are = ran.deployed.stages e r.before before r.before_is in
      let place = at_place r.before.items b (omega (arith, low, are.many)) in
      let task = are.each b place.0 place.1 in
      let end = end_at (LeftByTask left faults job) r.before.items r.after.items b (Stage task.0) r.leaves (placed (slice_get r.before.items b) place.0 (Todo (Stage task.0)) place.1 task.1) in
      record {
        end = record { row = r.after; row_is = r.after_is; left = end.0; left_is = end.1 };
        task = task.0;
        was = task.2;
        by = end.2;
      }

  pub aggregate_at : (b : ℕ) → b < tasks job (suc last) → ByAggregate b
  aggregate_at b low =
      let r = rows_at (suc last) (omega arith) in
      let are = ran.deployed.aggregates r.before r.before_is in
      let place = at_place r.before.items b (omega (arith, low, are.many)) in
      let task = are.each b place.0 place.1 in
      let end = end_at (LeftByTask left faults job) r.before.items r.after.items b (Aggregate task.0) r.leaves (placed (slice_get r.before.items b) place.0 (Todo (Aggregate task.0)) place.1 task.1) in
      record {
        end = record { row = r.after; row_is = r.after_is; left = end.0; left_is = end.1 };
        task = task.0;
        was = task.2;
        by = end.2;
      }

  -- ---- the loops

  -- The row of an edge's loops.
  pub record LoopsEnd (e : ℕ) (edge : Edge) (row : Items (LoopPlace O I)) : Type 0 where
    pub wire : Wire O I
    pub wire_is : slice_get wires e ≡ Some wire
    pub ends : EndsAt links job e edge wire row.items

  pub loops_at : (e : ℕ) (edge : Edge) (row : Items (LoopPlace O I)) → slice_get edges e ≡ Some edge → slice_get loops e ≡ Some row → LoopsEnd e edge row
  loops_at e edge row at_edge at_row =
      let low = slice_get_within edges e edge at_edge in
      let before = at_place ran.loops_before e (omega (arith, low, ran.edges_are.many, ran.deployed.loops_many)) in
      let wire = at_place wires e (omega (arith, low, ran.edges_are.many, ran.wires_many)) in
      record {
        wire = wire.0;
        wire_is = wire.1;
        ends = ends_at links (ran.deployed.loops e edge wire.0 before.0 at_edge wire.1 before.1)
            (ran.loops_left e before.0 row before.1 at_row);
      }
