-- The job of the tests: one source, and one task that counts.
use Rattle.std.proofs.Common.{Option, ◌≡◌, ℕ, true, List, [], ◌∷◌, refl, sym, subst, arith}
use Rattle.std.specs.List.{AllByRecursion}
use Rattle.flow_defs.specs.declared.job.Job.{Job}
use Rattle.flow_defs.specs.declared.image.TakeRun.{TakeRun}
use Rattle.flow_defs.specs.Jobs.{tasks, is_channel}
use Rattle.flow_defs.specs.declared.image.Snapshot.{Snapshot}
use Rattle.collector.specs.Collecting.{and_one}
use Rattle.plain_machine.specs.Images.{AreRuns}

pub none : {X : Type 0} (P : X → Type 0) (xs : List X) → xs ≡ [] → AllByRecursion P xs
none P xs is = subst (AllByRecursion P) (sym is) tt

pub one_channel : (job : Job) → job.stages.items ≡ [] → tasks job 0 ≡ 1 → tasks job 1 ≡ 1 → is_channel job 0 0 0 ≡ true
one_channel job none sources counts = rw (sources, counts, none) refl

pub one_run : (job : Job) (runs : List TakeRun) → is_channel job 0 0 0 ≡ true → runs ≡ record { from = 0; count = 2 } ∷ [] → AreRuns job 0 0 runs
one_run job runs on is = subst (AreRuns job 0 0) (sym is) (on, omega arith)

-- what the source acknowledged leaves the other tasks as they were
pub others : (acks : ℕ → ℕ → Option Snapshot) (snapshot : Snapshot) (i a : ℕ) → snapshot.task.stage ≡ 0 → i ≡ 1 → and_one acks snapshot i a ≡ acks i a
others acks snapshot i a source count = rw (source, count) refl
