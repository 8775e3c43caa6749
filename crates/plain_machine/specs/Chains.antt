-- Chains of checkpoints: each image is the successor of the one before it, by the takes recorded in
-- it. How far the sources go between two checkpoints, in lines, is this project's own choice.
use Rattle.std.specs.Prelude.{◌≡◌, ℕ, ◌+◌, ◌<◌, ◌≤◌, ◌↔◌, min, ⊤, true, false, nat_lt, List, [], ◌∷◌, length, slice_index, slice_get, Option, Some, None}
use Rattle.flow_defs.specs.declared.job.Job.{Job}
use Rattle.flow_defs.specs.declared.image.Image.{Image}
use Rattle.flow_defs.specs.Jobs.{tasks}
use Rattle.plain_machine.specs.Cuts.{Cut, SameCut}
use Rattle.plain_machine.specs.Steps.{IsStep, next}
use Rattle.plain_machine.specs.Images.{cut_of, takes_of, AllEnded, Fits}

-- With an interval each source goes on by so many lines or to its end. It is ended where it could not
-- go the whole interval, and the image is the last where all were ended in the one before.
pub record GoesBy (job : Job) (lines : ℕ → List (List ℕ)) (interval : ℕ) (old new : Image) : Type 0 where
  pub offsets : (a : ℕ) → a < tasks job 0 → slice_index new.offsets.items a ≡ min (slice_index old.offsets.items a + interval) (length (lines a))
  pub ended : (a : ℕ) → a < tasks job 0 → slice_get new.ended.items a ≡ Some (nat_lt (length (lines a)) (slice_index old.offsets.items a + interval))
  pub last : (new.final_one ≡ true) ↔ AllEnded old

-- Without one each source goes to its end, and the image is the last.
pub record GoesToEnd (job : Job) (lines : ℕ → List (List ℕ)) (new : Image) : Type 0 where
  pub offsets : (a : ℕ) → a < tasks job 0 → slice_index new.offsets.items a ≡ length (lines a)
  pub ended : AllEnded new
  pub last : new.final_one ≡ true

-- How far the sources go, with an interval or without.
abbrev pub Goes : Job → (ℕ → List (List ℕ)) → Option ℕ → Image → Image → Type 0
Goes job lines None old new = GoesToEnd job lines new
Goes job lines (Some interval) old new = GoesBy job lines interval old new

-- The step from one image to the next: by the takes and the offsets that the next one records.
abbrev pub IsStepTo : Job → (ℕ → List (List ℕ)) → Image → Image → Type 0
IsStepTo job lines old new = IsStep job lines (cut_of job old) (takes_of job new) (slice_index new.offsets.items)

-- And the cut that it leads to.
abbrev pub cut_after : Job → (ℕ → List (List ℕ)) → Image → Image → Cut
cut_after job lines old new = next job lines (cut_of job old) (takes_of job new) (slice_index new.offsets.items)

-- An image follows another: it is the next one of this job, and stands where the step leads.
pub record Follows (job : Job) (lines : ℕ → List (List ℕ)) (every : Option ℕ) (old new : Image) : Type 0 where
  pub number : new.number ≡ old.number + 1
  pub text : new.text.items ≡ job.text.items
  pub not_last : old.final_one ≡ false
  pub fits : Fits job new
  pub defined : IsStepTo job lines old new
  pub same : SameCut job (cut_of job new) (cut_after job lines old new)
  pub goes : Goes job lines every old new

-- Each image follows the one before it, and the first one the base.
abbrev pub Chain : Job → (ℕ → List (List ℕ)) → Option ℕ → Image → List Image → Type 0
Chain job lines every base [] = ⊤
Chain job lines every base (image ∷ images) = Follows job lines every base image × Chain job lines every image images

-- The last image of a chain, or the base where it has none.
abbrev pub last_of : Image → List Image → Image
last_of base [] = base
last_of base (image ∷ images) = last_of image images

-- No source has changed since the image: none has fewer lines than its offset, or more where it was ended.
pub record IsUnchanged (job : Job) (lines : ℕ → List (List ℕ)) (image : Image) : Type 0 where
  pub read : (a : ℕ) → a < tasks job 0 → slice_index image.offsets.items a ≤ length (lines a)
  pub ended : (a : ℕ) → a < tasks job 0 → slice_get image.ended.items a ≡ Some true → slice_index image.offsets.items a ≡ length (lines a)
