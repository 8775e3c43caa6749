-- What the task of a stateless stage did, told by chapters, as the laws of checkpoints want it.
use Rattle.std.specs.Prelude.{◌≡◌, ℕ, suc, ◌<◌, List, Option, map}
use Rattle.flow_defs.specs.declared.cause.Cause.{Cause}
use Rattle.flow_defs.specs.declared.image.Image.{Image}
use Rattle.flow_defs.specs.declared.image.Snapshot.{Snapshot}
use Rattle.flow_defs.specs.declared.image.TakeRun.{TakeRun}
use Rattle.flow_defs.specs.declared.job.Job.{Job}
use Rattle.flow_defs.specs.Jobs.{last_edge, tasks}
use Rattle.job_start.specs.declared.start.Start.{Start}
use Rattle.job_start.specs.Starts.{IsBase}
use Rattle.checkpoint_laws.specs.Chapters.{Chapter}
use Rattle.checkpoint_laws.specs.Chapters as chapters
use Rattle.outside.specs.declared.last_image.Stored.{Stored}
use Rattle.record_writer.specs.Writers.{SendPass}
use Rattle.gate_account.specs.Accounts.{Account}
use Rattle.input_gate.specs.States.{shows_at}
use Rattle.input_gate.specs.Turning.{InputPass}
use Rattle.task_output.specs.Outputs.{parcels_to}
use Rattle.stage_task.specs.Stages.{StageAccount}

-- The account of a stateless task is one of chapters from the image on from which the run goes on, whatever its cause. In them it took the
-- groups of its account, of which the gate told, one behind another.
abbrev pub StageHasAccount : Type 0
StageHasAccount =
    (job : Job) (all : ℕ → List (List ℕ)) (base : Image) (e b size : ℕ) (start : Start) (every : Option ℕ) (gate : Account) (takers : List InputPass) (passes : List SendPass) (sent : List Snapshot) (history : List (ℕ × Stored)) (takes : List TakeRun) (cause : Cause) →
    IsBase job start base → e < last_edge job → b < tasks job (suc e) →
    (was : StageAccount job e b size start every gate (shows_at takers) passes sent history takes cause) →
    (told : List Chapter) × (more : ℕ → List (List ℕ))
    × (map (λ (c : Chapter). c.took) told ≡ was.groups)
    × chapters.Account job all every base (suc e) b told sent (parcels_to job (suc e) passes) more
