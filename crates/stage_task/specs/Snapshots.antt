-- The snapshots of a stateless stage. As in FLIP-76 a task acknowledges each checkpoint by its snapshot. That one of a stateless task tells
-- how many records it emitted, and of which senders it took them, is this project's own choice.
use Rattle.std.specs.Prelude.{◌≡◌, ℕ, suc, ⊤, false, List, [], ◌∷◌, map}
use Rattle.std.specs.FinMap.{empty}
use Rattle.flow_defs.specs.declared.image.Snapshot.{Snapshot}
use Rattle.flow_defs.specs.declared.job.Job.{Job}
use Rattle.plain_machine.specs.Emitting.{count_after}
use Rattle.checkpoint_laws.specs.Chapters.{RunsTake, applied, task_at}

-- A snapshot of task b behind edge e for checkpoint k, where it has emitted so many records modulo 2^64. It has no table, offset or saved
-- piece.
pub record IsSnapshotOf (e b k emitted : ℕ) (x : Snapshot) : Type 0 where
  pub task : x.task ≡ task_at (suc e) b
  pub number : x.number ≡ k
  pub emitted_is : x.emitted ≡ emitted
  pub no_table : x.table ≡ empty
  pub no_offset : x.offset ≡ 0
  pub not_ended : x.ended ≡ false
  pub none_in : x.saved_in.items ≡ []
  pub none_out : x.saved_out.items ≡ []

-- And it tells that the task took these records since the one before.
pub record IsSnapshotAt (job : Job) (e b k emitted : ℕ) (group : List (ℕ × List ℕ)) (x : Snapshot) : Type 0 where
  pub is : IsSnapshotOf e b k emitted x
  pub takes : RunsTake job e b x.takes.items group

-- These are the snapshots of task b behind edge e of the job that belong to the groups of records before its barriers, where so many
-- checkpoints and records came before.
abbrev pub AreSnapshots : Job → ℕ → ℕ → ℕ → ℕ → List (List (ℕ × List ℕ)) → List Snapshot → Type 0
AreSnapshots job e b k emitted [] [] = ⊤
AreSnapshots job e b k emitted [] (x ∷ xs) = ⊥
AreSnapshots job e b k emitted (group ∷ groups) [] = ⊥
AreSnapshots job e b k emitted (group ∷ groups) (x ∷ xs) =
    IsSnapshotAt job e b (suc k) (count_after emitted (applied job e group)) group x
    × AreSnapshots job e b (suc k) (count_after emitted (applied job e group)) groups xs

-- What a stateless task behind edge e emits for each of these groups.
abbrev pub all_applied : Job → ℕ → List (List (ℕ × List ℕ)) → List (List (List ℕ))
all_applied job e groups = map (applied job e) groups
