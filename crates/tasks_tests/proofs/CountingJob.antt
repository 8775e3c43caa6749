-- The passes of a channel for the job of the tests, with two sources and one task that counts.
use Rattle.std.proofs.Common.{◌≡◌, Some, List, [], ◌∷◌, ◌++◌, map, refl, sym, ap, ◌∙◌}
use Rattle.std.specs.Prelude.{All}
use Rattle.std.proofs.lemmas.List.Elements.{All-pop}
use Rattle.flow_defs.specs.declared.job.Job.{Job}
use Rattle.flow_defs.specs.Jobs.{last_edge, tasks}
use Rattle.snapshot_channel.specs.declared.opened.SnapshotChannel.{SnapshotChannel}
use Rattle.snapshot_channel.specs.declared.opened.TaskPass.{TaskPass}
use Rattle.snapshot_channel.specs.Snapshots.{task, all_tasks}
use Rattle.snapshot_channel.specs.Passes.{IsFresh, task_of}

its_tasks : (job : Job) → last_edge job ≡ 0 → tasks job 0 ≡ 2 → tasks job 1 ≡ 1 → all_tasks job ≡ task 0 0 ∷ task 0 1 ∷ task 1 0 ∷ []
its_tasks job edges sources counts = rw (edges, sources, counts) refl

second_of_three : (rest : List TaskPass) (p q : TaskPass) → map task_of ((rest ++ q ∷ []) ++ p ∷ []) ≡ task 0 0 ∷ task 0 1 ∷ task 1 0 ∷ [] → task_of q ≡ task 0 1
second_of_three [] p q e = absurd (cc)
second_of_three (a ∷ []) p q e = cc
second_of_three (a ∷ b ∷ []) p q e = absurd (cc)
second_of_three (a ∷ b ∷ d ∷ []) p q e = absurd (cc)
second_of_three (a ∷ b ∷ d ∷ f ∷ rest) p q e = absurd (cc)

-- they were taken from the end, that of the second source second
pub source_is : (channel : SnapshotChannel) (job : Job) (passes mid rest : List TaskPass) (p q : TaskPass) → last_edge job ≡ 0 → tasks job 0 ≡ 2 → tasks job 1 ≡ 1
    → All (IsFresh channel) passes → map task_of passes ≡ all_tasks job → passes ≡ mid ++ p ∷ [] → mid ≡ rest ++ q ∷ []
    → IsFresh channel q × (task_of q ≡ task 0 1)
source_is channel job passes mid rest p q edges sources counts fresh tasks_are first second =
    let last = All-pop (IsFresh channel) passes mid (Some p) first fresh in
    let before = All-pop (IsFresh channel) mid rest (Some q) second last.0 in
    let whole : map task_of ((rest ++ q ∷ []) ++ p ∷ []) ≡ task 0 0 ∷ task 0 1 ∷ task 1 0 ∷ [] = ap (λ l. map task_of (l ++ p ∷ [])) (sym second) ∙ ap (map task_of) (sym first) ∙ tasks_are ∙ its_tasks job edges sources counts in
    (before.1, second_of_three rest p q whole)
