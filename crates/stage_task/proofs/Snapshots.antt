-- How the snapshots of a stage grow by one.
use Rattle.std.proofs.Common.{◌≡◌, ℕ, suc, ◌+◌, List, [], ◌∷◌, ◌++◌, length, refl, ap, ◌∙◌, append-nil, arith}
use Rattle.std.proofs.lemmas.List.{map-append}
use Rattle.flow_defs.specs.declared.image.Snapshot.{Snapshot}
use Rattle.flow_defs.specs.declared.job.Job.{Job}
use Rattle.plain_machine.specs.Emitting.{count_after}
use Rattle.plain_machine.specs.Theorems.{CountedInParts}
use Rattle.checkpoint_laws.specs.Chapters.{applied}
use Rattle.task_output.specs.Outputs.{all_of}
use Rattle.stage_task.specs.Snapshots.{IsSnapshotAt, AreSnapshots, all_applied}

-- as many snapshots as groups
pub as_many : (job : Job) (e b k emitted : ℕ) (groups : List (List (ℕ × List ℕ))) (xs : List Snapshot) → AreSnapshots job e b k emitted groups xs → length xs ≡ length groups
as_many job e b k emitted [] [] are = refl
as_many job e b k emitted [] (x ∷ xs) are = absurd are
as_many job e b k emitted (g ∷ groups) [] are = absurd are
as_many job e b k emitted (g ∷ groups) (x ∷ xs) are = ap suc (as_many job e b (suc k) (count_after emitted (applied job e g)) groups xs are.1)

pub applied_more : (job : Job) (e : ℕ) (groups : List (List (ℕ × List ℕ))) (group : List (ℕ × List ℕ)) → all_applied job e (groups ++ group ∷ []) ≡ all_applied job e groups ++ applied job e group ∷ []
applied_more job e groups group = map-append (applied job e) groups (group ∷ [])

at_same : (job : Job) (e b k k' emitted emitted' : ℕ) (group : List (ℕ × List ℕ)) (x : Snapshot) → k ≡ k' → emitted ≡ emitted' → IsSnapshotAt job e b k emitted group x → IsSnapshotAt job e b k' emitted' group x
at_same job e b k k' emitted emitted' group x first second at = record {
  is = record {
    task = at.is.task;
    number = at.is.number ∙ first;
    emitted_is = at.is.emitted_is ∙ second;
    no_table = at.is.no_table;
    no_offset = at.is.no_offset;
    not_ended = at.is.not_ended;
    none_in = at.is.none_in;
    none_out = at.is.none_out;
  };
  takes = at.takes;
}

module _ (count : CountedInParts) (job : Job) (e b : ℕ) (group : List (ℕ × List ℕ)) (x : Snapshot) where
  pub snapshots_more : (k emitted : ℕ) (groups : List (List (ℕ × List ℕ))) (xs : List Snapshot) → AreSnapshots job e b k emitted groups xs
      → IsSnapshotAt job e b (suc (k + length groups)) (count_after emitted (all_of (all_applied job e groups ++ applied job e group ∷ []))) group x
      → AreSnapshots job e b k emitted (groups ++ group ∷ []) (xs ++ x ∷ [])
  snapshots_more k emitted [] [] are at =
      (at_same job e b (suc (k + 0)) (suc k) (count_after emitted (applied job e group ++ [])) (count_after emitted (applied job e group)) group x (omega arith) (ap (count_after emitted) (append-nil (applied job e group))) at, tt)
  snapshots_more k emitted [] (y ∷ ys) are at = absurd are
  snapshots_more k emitted (g ∷ groups) [] are at = absurd are
  snapshots_more k emitted (g ∷ groups) (y ∷ ys) are at =
      let here = applied job e g in
      let behind = all_of (all_applied job e groups ++ applied job e group ∷ []) in (
        are.0,
        snapshots_more (suc k) (count_after emitted here) groups ys are.1
            (at_same job e b (suc (k + suc (length groups))) (suc (suc k + length groups)) (count_after emitted (here ++ behind)) (count_after (count_after emitted here) behind) group x (omega arith) (count emitted here behind) at),
      )
