-- The laws of how much there is: images of a chain, what an image has to hold, and records of a tally. Each is proved as a clause of a
-- function of `sizes`.
use Rattle.std.specs.Prelude.{◌≡◌, ℕ, ◌%◌, ◌^◌, true, List, [], ◌∷◌, ◌++◌, length, flat_map, sum_by, Option}
use Rattle.std.specs.FinMap.{entries}
use Rattle.flow_defs.specs.declared.job.Job.{Job}
use Rattle.flow_defs.specs.declared.job.AggKind.TheVariants.{Count}
use Rattle.flow_defs.specs.declared.image.Image.{Image}
use Rattle.flow_defs.specs.Jobs.{last_edge, tasks, IsJob}
use Rattle.plain_machine.specs.Worth.{reach, concat_below, tally}
use Rattle.plain_machine.specs.Images.{cut_of, IsStart}
use Rattle.plain_machine.specs.Chains.{Chain, last_of}
use Rattle.plain_machine.specs.Spelling.{CanSpell}
use Rattle.plain_machine.specs.Loads.{IsOverloaded, HasHeavyEdge}
use Rattle.plain_machine.specs.Counts.{images_to_end}

-- A chain from the start that ends in a last image has as many images as its interval and the longest source say.
abbrev pub FinishedChainIsCounted : Type 0
FinishedChainIsCounted =
    (job : Job) (lines : ℕ → List (List ℕ)) (every : Option ℕ) (base : Image) (images : List Image) →
    IsJob job → IsStart job base → Chain job lines every base images →
    (last_of base images).final_one ≡ true → length images ≡ images_to_end job lines every

-- An image of a chain that can't be spelled comes only where the keys of a table of the base and the load of some edge are together above
-- 4,294,967,295.
abbrev pub LargeImageIsOfLoad : Type 0
LargeImageIsOfLoad =
    (job : Job) (lines : ℕ → List (List ℕ)) (every : Option ℕ) (base : Image) (images : List Image) (image : Image) →
    IsJob job → Chain job lines every base (images ++ image ∷ []) → (CanSpell image → ⊥) → IsOverloaded job lines (cut_of job base)

-- From the start on it comes only where the load of some edge is above that.
abbrev pub LargeImageIsOfHeavyEdge : Type 0
LargeImageIsOfHeavyEdge =
    (job : Job) (lines : ℕ → List (List ℕ)) (every : Option ℕ) (base : Image) (images : List Image) (image : Image) →
    IsJob job → IsStart job base → Chain job lines every base (images ++ image ∷ []) → (CanSpell image → ⊥) → HasHeavyEdge job lines

-- The values of a tally by count are together as many as the records that come to the aggregate, modulo 2^64.
abbrev pub TallyCountsRecords : Type 0
TallyCountsRecords =
    (job : Job) (lines : ℕ → List (List ℕ)) → job.agg ≡ Count →
    sum_by (λ (row : List ℕ × ℕ). row.1) (entries (tally job lines)) % 2 ^ 64
    ≡ length (flat_map (reach job 0 (last_edge job)) (concat_below (tasks job 0) lines)) % 2 ^ 64
