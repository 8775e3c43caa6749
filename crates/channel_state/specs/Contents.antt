-- What bytes have to be to spell an image. The format of images is this project's own.
use Rattle.std.specs.Prelude.{ℕ, ◌<◌, ◌≤◌, ◌^◌, nat_lt, ◌&&◌, Bool, List, length, All}
use Rattle.std.specs.List.{list_all}
use Rattle.std.specs.FinMap.{entries}
use Rattle.flow_defs.specs.Limits.{job_text_max}
use Rattle.flow_defs.specs.declared.job.Job.{Job}
use Rattle.flow_defs.specs.declared.image.TakeRun.{TakeRun}
use Rattle.flow_defs.specs.declared.image.Image.{Image}
use Rattle.flow_defs.specs.Items.{Items}
use Rattle.flow_defs.specs.Tables.{Values}
use Rattle.job_text.specs.JobText.{IsJobText}
use Rattle.job_text.specs.KnownKinds.{every_kind}
use Rattle.plain_machine.specs.Images.{Fits}

-- Whether a number goes into four bytes.
abbrev pub is_count : ℕ → Bool
is_count n = nat_lt n (2 ^ 32)

-- Whether all numbers of keys and runs and all lengths of saved pieces do.
abbrev pub has_counts : Image → Bool
has_counts image =
    list_all (λ (table : Values). is_count (length (entries table))) image.tables.items && list_all (λ (runs : Items TakeRun). is_count (length runs.items)) image.takes.items
    && list_all (λ (piece : Items ℕ). is_count (length piece.items)) image.saved_in.items && list_all (λ (piece : Items ℕ). is_count (length piece.items)) image.saved_out.items

-- The most bytes of a job's text in an image: as many as the text of any job may have.
abbrev pub TEXT_MOST : ℕ
TEXT_MOST = job_text_max

-- The image fits the job of its text, whose kinds need no functions.
pub record FitsItsText (image : Image) : Type 0 where
  pub job : Job
  pub job_text : IsJobText every_kind image.text.items job
  pub fits : Fits job image
  pub short : length image.text.items ≤ TEXT_MOST

-- The counts of these runs go into eight bytes.
abbrev pub HaveCounts : List TakeRun → Type 0
HaveCounts runs = All (λ (run : TakeRun). run.count < 2 ^ 64) runs

-- The numbers of an image that may not be 0 go into their eight bytes, as those in memory do.
pub record HasRange (image : Image) : Type 0 where
  pub number : image.number < 2 ^ 64
  pub counts : All (λ (runs : Items TakeRun). HaveCounts runs.items) image.takes.items
