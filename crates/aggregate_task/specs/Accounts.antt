-- What an aggregate task did, told by chapters, as the laws of checkpoints want it.
use Rattle.std.specs.Prelude.{◌≡◌, ℕ, suc, ◌<◌, List, map, Option}
use Rattle.flow_defs.specs.declared.cause.Cause.{Cause}
use Rattle.flow_defs.specs.declared.image.Image.{Image}
use Rattle.flow_defs.specs.declared.image.Snapshot.{Snapshot}
use Rattle.flow_defs.specs.declared.image.TakeRun.{TakeRun}
use Rattle.flow_defs.specs.declared.job.Job.{Job}
use Rattle.flow_defs.specs.declared.parcel.Parcel.{Parcel}
use Rattle.flow_defs.specs.Jobs.{last_edge, tasks}
use Rattle.checkpoint_laws.specs.Chapters as chapters
use Rattle.checkpoint_laws.specs.Chapters.{Chapter}
use Rattle.job_start.specs.declared.start.Start.{Start}
use Rattle.job_start.specs.Starts.{IsBase}
use Rattle.outside.specs.declared.last_image.Stored.{Stored}
use Rattle.gate_account.specs.Accounts.{Account}
use Rattle.input_gate.specs.States.{shows_at}
use Rattle.input_gate.specs.Turning.{InputPass}
use Rattle.aggregate_task.specs.Aggregates.{AggregateAccount}

-- Its account is one of chapters from the image on from which the run goes on, whatever its cause, and in each of these it took the group of
-- records before the barrier. No channel leads on from it, so whatever is said of parcels holds.
abbrev pub AggregateHasAccount : Type 0
AggregateHasAccount =
    (job : Job) (all : ℕ → List (List ℕ)) (base : Image) (b : ℕ) (start : Start) (every : Option ℕ) (gate : Account) (takers : List InputPass) (sent : List Snapshot) (history : List (ℕ × Stored)) (takes : List TakeRun) (cause : Cause) (parcels : ℕ → List Parcel) (more : ℕ → List (List ℕ)) →
    IsBase job start base → b < tasks job (suc (last_edge job)) →
    (was : AggregateAccount job b start every gate (shows_at takers) sent history takes cause) →
    (told : List Chapter) × chapters.Account job all every base (suc (last_edge job)) b told sent parcels more × (map (λ (c : Chapter). c.took) told ≡ was.groups)
