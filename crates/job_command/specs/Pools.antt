-- Whether the pool of a run is large enough.
use Rattle.std.specs.Prelude.{◌≡◌, ◌<◌, ◌≤◌, ℕ}
use Rattle.flow_defs.specs.declared.job.Job.{Job}
use Rattle.flow_defs.specs.Jobs.{segments_needed}
use Rattle.job_text.specs.declared.words.RunOptions.{RunOptions}

-- The pool that the options give has the segments that the job needs.
abbrev pub HasPool : RunOptions → Job → Type 0
HasPool options job = segments_needed job ≤ options.pool

-- It has fewer: so many, where so many are needed.
pub record HasSmallPool (options : RunOptions) (job : Job) (have need : ℕ) : Type 0 where
  pub have_is : have ≡ options.pool
  pub need_is : need ≡ segments_needed job
  pub few : have < need
