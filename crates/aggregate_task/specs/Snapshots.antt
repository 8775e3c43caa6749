-- The snapshots of an aggregate task. As in FLIP-76 a task snapshots its state behind the barriers of a checkpoint; that of an aggregate
-- task is its table. That a snapshot also tells what the task took since the one before is this project's own choice.
use Rattle.std.specs.Prelude.{◌≡◌, ℕ, suc, ⊤, false, List, [], ◌∷◌, ◌++◌, flat_map}
use Rattle.flow_defs.specs.declared.job.Job.{Job}
use Rattle.flow_defs.specs.declared.image.Snapshot.{Snapshot}
use Rattle.flow_defs.specs.declared.image.TakeRun.{TakeRun}
use Rattle.flow_defs.specs.Jobs.{last_edge}
use Rattle.flow_defs.specs.Tables.{Values, add_all}
use Rattle.plain_machine.specs.Histories.{records}
use Rattle.checkpoint_laws.specs.Chapters.{RunsTake, task_at}

-- The snapshot of task b of the aggregate for checkpoint k, with this table and these runs.
pub record IsSnapshotWith (job : Job) (b k : ℕ) (table : Values) (runs : List TakeRun) (x : Snapshot) : Type 0 where
  pub task : x.task ≡ task_at (suc (last_edge job)) b
  pub number : x.number ≡ k
  pub table_is : x.table ≡ table
  pub takes_are : x.takes.items ≡ runs
  pub no_offset : x.offset ≡ 0
  pub not_ended : x.ended ≡ false
  pub none_emitted : x.emitted ≡ 0
  pub none_in : x.saved_in.items ≡ []
  pub none_out : x.saved_out.items ≡ []

-- Behind those sent before, such a snapshot was sent.
pub record SentSnapshot (job : Job) (b k : ℕ) (table : Values) (runs : List TakeRun) (before after : List Snapshot) : Type 0 where
  pub snapshot : Snapshot
  pub sent : after ≡ before ++ snapshot ∷ []
  pub is_with : IsSnapshotWith job b k table runs snapshot

-- Its runs are those of a group of records, which the task took since the snapshot before.
pub record IsSnapshotAt (job : Job) (b k : ℕ) (table : Values) (group : List (ℕ × List ℕ)) (x : Snapshot) : Type 0 where
  pub is_with : IsSnapshotWith job b k table x.takes.items x
  pub takes : RunsTake job (last_edge job) b x.takes.items group

-- The table with the records of a group added.
abbrev pub table_with : Job → Values → List (ℕ × List ℕ) → Values
table_with job table group = add_all job.agg table (records group)

-- These are the snapshots of task b of the aggregate that belong to these groups of records, where k checkpoints came before and it had
-- this table.
abbrev pub AreSnapshots : Job → ℕ → ℕ → Values → List (List (ℕ × List ℕ)) → List Snapshot → Type 0
AreSnapshots job b k table [] [] = ⊤
AreSnapshots job b k table [] (x ∷ xs) = ⊥
AreSnapshots job b k table (group ∷ groups) [] = ⊥
AreSnapshots job b k table (group ∷ groups) (x ∷ xs) =
    IsSnapshotAt job b (suc k) (table_with job table group) group x × AreSnapshots job b (suc k) (table_with job table group) groups xs

-- All records of the groups.
abbrev pub all_taken : List (List (ℕ × List ℕ)) → List (ℕ × List ℕ)
all_taken groups = flat_map (λ (group : List (ℕ × List ℕ)). group) groups
