-- Which of its channels a task selects for a record. As in Flink's channel selectors it is by the hash of the key, in turn, or the only one.
use Rattle.std.specs.Prelude.{◌≡◌, ℕ, ◌<◌, ◌≤◌, List}
use Rattle.flow_defs.specs.declared.job.Job.{Job}
use Rattle.flow_defs.specs.Jobs.{IsJob, last_edge, tasks, exchange}
use Rattle.plain_machine.specs.Emitting.{receiver_on}
use Rattle.record_writer.specs.Writers.{ways_on, receiver_at}

-- The job has this edge, and before it a task of this index.
pub record IsSender (job : Job) (e a : ℕ) : Type 0 where
  pub is_job : IsJob job
  pub edge : e ≤ last_edge job
  pub index : a < tasks job e

-- Channel c leads to the task to which the record goes, where n were emitted before.
pub record IsSelected (job : Job) (e a n : ℕ) (r : List ℕ) (c : ℕ) : Type 0 where
  pub within : c < ways_on job e
  pub leads : receiver_at (exchange job e) a c ≡ receiver_on job e a n r
