-- What a source did, told by chapters, as the laws of checkpoints want it.
use Rattle.std.specs.Prelude.{◌≡◌, ℕ, ◌<◌, List, Option, Some}
use Rattle.flow_defs.specs.declared.cause.Cause.{Cause}
use Rattle.flow_defs.specs.declared.image.Image.{Image}
use Rattle.flow_defs.specs.declared.image.Snapshot.{Snapshot}
use Rattle.flow_defs.specs.declared.job.Job.{Job}
use Rattle.flow_defs.specs.Jobs.{tasks}
use Rattle.flow_defs.specs.Lines.{lines}
use Rattle.plain_machine.specs.Chains.{IsUnchanged}
use Rattle.checkpoint_laws.specs.Chapters.{Chapter, Account}
use Rattle.job_start.specs.declared.start.Start.{Start}
use Rattle.job_start.specs.Starts.{IsBase}
use Rattle.outside.specs.declared.last_image.Stored.{Stored}
use Rattle.record_writer.specs.Writers.{SendPass}
use Rattle.task_output.specs.Outputs.{parcels_to}
use Rattle.source_task.specs.Sources.{SourceAccount}

-- Where the input of a source is told, and has not changed since the image from which the run goes on, its account is one of chapters from
-- that image on, whatever its cause.
abbrev pub SourceHasAccount : Type 0
SourceHasAccount =
    (job : Job) (all : ℕ → List (List ℕ)) (start : Start) (base : Image) (a size : ℕ) (every : Option ℕ) (passes : List SendPass) (sent : List Snapshot) (history : List (ℕ × Stored)) (bytes : List ℕ) (fell rose : ℕ) (cause : Cause) →
    IsBase job start base → IsUnchanged job all base → a < tasks job 0 → all a ≡ lines bytes →
    SourceAccount job a size start every passes sent history (Some bytes) fell rose cause →
    (chapters : List Chapter) × (more : ℕ → List (List ℕ)) × Account job all every base 0 a chapters sent (parcels_to job 0 passes) more
