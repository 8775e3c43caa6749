-- The snapshots of an aggregate task, one after another.
use Rattle.std.proofs.Common.{◌≡◌, ℕ, suc, ◌+◌, List, [], ◌∷◌, ◌++◌, length, refl, sym, ap, ◌∙◌, append_assoc, append-nil, arith}
use Rattle.std.proofs.lemmas.List.{map-append}
use Rattle.flow_defs.specs.declared.image.Snapshot.{Snapshot}
use Rattle.flow_defs.specs.declared.image.TakeRun.{TakeRun}
use Rattle.flow_defs.specs.declared.job.AggKind.{AggKind}
use Rattle.flow_defs.specs.declared.job.Job.{Job}
use Rattle.flow_defs.specs.Jobs.{last_edge}
use Rattle.flow_defs.specs.Tables.{Values, add, add_all}
use Rattle.plain_machine.specs.Histories.{records}
use Rattle.checkpoint_laws.specs.Chapters.{RunsTake}
use Rattle.aggregate_task.specs.Snapshots.{IsSnapshotWith, IsSnapshotAt, AreSnapshots, table_with, all_taken}

-- ---- tables and groups

added_more : (agg : AggKind) (table : Values) (xs ys : List (List ℕ)) → add_all agg table (xs ++ ys) ≡ add_all agg (add_all agg table xs) ys
added_more agg table [] ys = refl
added_more agg table (x ∷ xs) ys = added_more agg (add agg table x) xs ys

pub with_more : (job : Job) (table : Values) (xs ys : List (ℕ × List ℕ)) → table_with job table (xs ++ ys) ≡ table_with job (table_with job table xs) ys
with_more job table xs ys = ap (add_all job.agg table) (map-append (λ (t : ℕ × List ℕ). t.1) xs ys) ∙ added_more job.agg table (records xs) (records ys)

pub all_more : (groups : List (List (ℕ × List ℕ))) (group : List (ℕ × List ℕ)) → all_taken (groups ++ group ∷ []) ≡ all_taken groups ++ group
all_more [] group = append-nil group
all_more (g ∷ groups) group = ap (λ l. g ++ l) (all_more groups group) ∙ sym (append_assoc g (all_taken groups) group)

-- ---- one more snapshot

pub as_many : (job : Job) (b k : ℕ) (table : Values) (groups : List (List (ℕ × List ℕ))) (xs : List Snapshot) → AreSnapshots job b k table groups xs → length xs ≡ length groups
as_many job b k table [] [] are = refl
as_many job b k table [] (x ∷ xs) are = absurd are
as_many job b k table (g ∷ groups) [] are = absurd are
as_many job b k table (g ∷ groups) (x ∷ xs) are = ap suc (as_many job b (suc k) (table_with job table g) groups xs are.1)

-- the snapshot with the runs of a group is that of the group
pub with_group : (job : Job) (b k n : ℕ) (table counts : Values) (runs : List TakeRun) (group : List (ℕ × List ℕ)) (x : Snapshot) → IsSnapshotWith job b k counts runs x → k ≡ n → counts ≡ table → RunsTake job (last_edge job) b runs group → IsSnapshotAt job b n table group x
with_group job b k n table counts runs group x is number counted takes = record {
  is_with = record {
    task = is.task;
    number = is.number ∙ number;
    table_is = is.table_is ∙ counted;
    takes_are = refl;
    no_offset = is.no_offset;
    not_ended = is.not_ended;
    none_emitted = is.none_emitted;
    none_in = is.none_in;
    none_out = is.none_out;
  };
  takes = record {
    senders_are = rw is.takes_are takes.senders_are;
    are_runs = rw is.takes_are takes.are_runs;
    short = takes.short;
  };
}

again : (job : Job) (b k n : ℕ) (table table' : Values) (group : List (ℕ × List ℕ)) (x : Snapshot) → IsSnapshotAt job b k table group x → k ≡ n → table ≡ table' → IsSnapshotAt job b n table' group x
again job b k n table table' group x is number same = with_group job b k n table' table x.takes.items group x is.is_with number same is.takes

pub snapshots_more : (job : Job) (b k : ℕ) (table : Values) (groups : List (List (ℕ × List ℕ))) (xs : List Snapshot) (group : List (ℕ × List ℕ)) (x : Snapshot) → AreSnapshots job b k table groups xs
    → IsSnapshotAt job b (suc (k + length groups)) (table_with job table (all_taken groups ++ group)) group x → AreSnapshots job b k table (groups ++ group ∷ []) (xs ++ x ∷ [])
snapshots_more job b k table [] [] group x are is = (again job b (suc (k + 0)) (suc k) (table_with job table group) (table_with job table group) group x is (omega arith) refl, tt)
snapshots_more job b k table [] (y ∷ ys) group x are is = absurd are
snapshots_more job b k table (g ∷ groups) [] group x are is = absurd are
snapshots_more job b k table (g ∷ groups) (y ∷ ys) group x are is = (
  are.0,
  snapshots_more job b (suc k) (table_with job table g) groups ys group x are.1
      (again job b (suc (k + suc (length groups))) (suc (suc k + length groups)) (table_with job table ((g ++ all_taken groups) ++ group)) (table_with job (table_with job table g) (all_taken groups ++ group)) group x is (omega arith)
      (ap (table_with job table) (append_assoc g (all_taken groups) group) ∙ with_more job table g (all_taken groups ++ group))),
)
