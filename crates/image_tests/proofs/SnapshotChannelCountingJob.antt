-- The passes of a channel of the job of the tests, with one source and one task that counts.
use Rattle.std.proofs.Common.{◌≡◌, Some, List, [], ◌∷◌, ◌++◌, map, length, refl, sym, ap, ◌∙◌}
use Rattle.std.specs.Prelude.{All}
use Rattle.std.proofs.lemmas.List.Elements.{All-pop}
use Rattle.flow_defs.specs.declared.job.Job.{Job}
use Rattle.snapshot_channel.specs.declared.opened.SnapshotChannel.{SnapshotChannel}
use Rattle.snapshot_channel.specs.declared.opened.TaskPass.{TaskPass}
use Rattle.snapshot_channel.specs.Snapshots.{task, all_tasks}
use Rattle.snapshot_channel.specs.Passes.{IsFresh, task_of}

its_tasks : (job : Job) → job.stages.items ≡ [] → length job.sources.items ≡ 1 → job.agg_tasks ≡ 1 → all_tasks job ≡ task 0 0 ∷ task 1 0 ∷ []
its_tasks job none sources counts = rw (none, sources, counts) refl

last_two : (rest : List TaskPass) (p q : TaskPass) → map task_of ((rest ++ q ∷ []) ++ p ∷ []) ≡ task 0 0 ∷ task 1 0 ∷ [] → (task_of q ≡ task 0 0) × (task_of p ≡ task 1 0)
last_two [] p q e = (cc, cc)
last_two (a ∷ []) p q e = absurd (cc)
last_two (a ∷ b ∷ []) p q e = absurd (cc)
last_two (a ∷ b ∷ d ∷ rest) p q e = absurd (cc)

pub ends_are : (channel : SnapshotChannel) (job : Job) (passes mid rest : List TaskPass) (p q : TaskPass) → job.stages.items ≡ [] → length job.sources.items ≡ 1 → job.agg_tasks ≡ 1
    → All (IsFresh channel) passes → map task_of passes ≡ all_tasks job → passes ≡ mid ++ p ∷ [] → mid ≡ rest ++ q ∷ []
    → (IsFresh channel q × (task_of q ≡ task 0 0)) × (IsFresh channel p × (task_of p ≡ task 1 0))
ends_are channel job passes mid rest p q stages sources counts fresh tasks first second =
    let last = All-pop (IsFresh channel) passes mid (Some p) first fresh in
    let before = All-pop (IsFresh channel) mid rest (Some q) second last.0 in
    let whole : map task_of ((rest ++ q ∷ []) ++ p ∷ []) ≡ task 0 0 ∷ task 1 0 ∷ [] = ap (λ l. map task_of (l ++ p ∷ [])) (sym second) ∙ ap (map task_of) (sym first) ∙ tasks ∙ its_tasks job stages sources counts in
    let two = last_two rest p q whole in
    ((before.1, two.0), (last.1, two.1))
