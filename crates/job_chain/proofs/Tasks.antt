-- What is known of the snapshots and the channels of tasks.
use Rattle.std.proofs.Common.{◌≡◌, ℕ, zero, suc, ◌+◌, ◌<◌, List, [], ◌∷◌, length, get_or, Option, subst, arith}
use Rattle.std.specs.Prelude.{Contains}
use Rattle.std.specs.List.{AllByRecursion}
use Rattle.flow_defs.specs.declared.image.Snapshot.{Snapshot}
use Rattle.flow_defs.specs.declared.job.Exchange.{Exchange}
use Rattle.flow_defs.specs.declared.job.Exchange.TheVariants.{Hash, Rebalance, Forward}
use Rattle.flow_defs.specs.declared.job.Job.{Job}
use Rattle.flow_defs.specs.Tables.{Values}
use Rattle.plain_machine.specs.Emitting.{count_after}
use Rattle.checkpoint_laws.specs.Chapters.{applied}
use Rattle.record_writer.specs.Writers.{ways, receiver_at, sender_at}
use Rattle.task_output.specs.Outputs.{place_to}
use Rattle.channel_cut.specs.Runs.{HasNoFlight}
use Rattle.source_task.specs.Emitting as source
use Rattle.stage_task.specs.Snapshots as stage
use Rattle.aggregate_task.specs.Snapshots as aggregate

-- ---- lists

all_at : {X : Type 0} (P : X → Type 0) (xs : List X) (k : ℕ) (d : X) → AllByRecursion P xs → k < length xs → P (get_or xs k d)
all_at P [] k d all low = absurd (omega (arith, low))
all_at P (x ∷ xs) zero d all low = all.0
all_at P (x ∷ xs) (suc k) d all low = all_at P xs k d all.1 (omega (arith, low))

pub contained : {X : Type 0} (P : X → Type 0) (xs : List X) (x : X) → AllByRecursion P xs → Contains xs x → P x
contained P xs x all has = subst P has.2 (all_at P xs has.0 x all has.1)

-- ---- nothing is in flight in their snapshots

pub source_none : (a : ℕ) (every : Option ℕ) (k offset n : ℕ) (groups : List (List (List ℕ))) (xs : List Snapshot) → source.AreSnapshots a every k offset n groups xs → AllByRecursion HasNoFlight xs
source_none a every k offset n [] [] are = tt
source_none a every k offset n [] (x ∷ xs) are = absurd are
source_none a every k offset n (g ∷ groups) [] are = absurd are
source_none a every k offset n (g ∷ groups) (x ∷ xs) are = ((are.0.none_in, are.0.none_out), source_none a every (suc k) (offset + length g) (count_after n g) groups xs are.3)

pub stage_none : (job : Job) (e b k n : ℕ) (groups : List (List (ℕ × List ℕ))) (xs : List Snapshot) → stage.AreSnapshots job e b k n groups xs → AllByRecursion HasNoFlight xs
stage_none job e b k n [] [] are = tt
stage_none job e b k n [] (x ∷ xs) are = absurd are
stage_none job e b k n (g ∷ groups) [] are = absurd are
stage_none job e b k n (g ∷ groups) (x ∷ xs) are = ((are.0.is.none_in, are.0.is.none_out), stage_none job e b (suc k) (count_after n (applied job e g)) groups xs are.1)

pub aggregate_none : (job : Job) (b k : ℕ) (table : Values) (groups : List (List (ℕ × List ℕ))) (xs : List Snapshot) → aggregate.AreSnapshots job b k table groups xs → AllByRecursion HasNoFlight xs
aggregate_none job b k table [] [] are = tt
aggregate_none job b k table [] (x ∷ xs) are = absurd are
aggregate_none job b k table (g ∷ groups) [] are = absurd are
aggregate_none job b k table (g ∷ groups) (x ∷ xs) are = ((are.0.is_with.none_in, are.0.is_with.none_out), aggregate_none job b (suc k) (aggregate.table_with job table g) groups xs are.1)

-- ---- the channel to a task is at its place, and that from a task

pub way_is : (x : Exchange) (a n b way : ℕ) → way < ways x n → receiver_at x a way ≡ b → way ≡ place_to x b
way_is Hash a n b way below leads = leads
way_is Rebalance a n b way below leads = leads
way_is Forward a n b way below leads = omega (arith, below)

pub lane_is : (x : Exchange) (b m a lane : ℕ) → lane < ways x m → sender_at x b lane ≡ a → lane ≡ place_to x a
lane_is Hash b m a lane below comes = comes
lane_is Rebalance b m a lane below comes = comes
lane_is Forward b m a lane below comes = omega (arith, below)
