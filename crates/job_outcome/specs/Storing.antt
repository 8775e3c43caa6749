-- What the images of a run come to. As in Flink each checkpoint of a run goes on from the one before it, and with aligned barriers nothing is in
-- flight at one.
use Rattle.std.specs.Prelude.{◌≡◌, ℕ, true, List, [], ◌∷◌, ◌++◌, Option}
use Rattle.std.specs.List.{AllByRecursion}
use Rattle.flow_defs.specs.declared.image.Image.{Image}
use Rattle.flow_defs.specs.declared.job.Job.{Job}
use Rattle.flow_defs.specs.Tables.{Values, join}
use Rattle.plain_machine.specs.Images.{IsStart}
use Rattle.plain_machine.specs.Chains.{Chain, last_of}
use Rattle.plain_machine.specs.Spelling.{CanSpell}
use Rattle.channel_state.specs.ImageFaults.{IsReadable}
use Rattle.outside.specs.Keepers.{KeptImage}
use Rattle.job_chain.specs.Ran.{HasNoneInFlight}
use Rattle.collecting_worker.specs.Images.{with_images}

-- The images that a keeper told before stay, and these come behind them. Where it doesn't tell its images this holds of every list.
abbrev pub HasKept : Option (List KeptImage) → Option (List KeptImage) → List Image → Type 0
HasKept before after images = after ≡ with_images before images

module _ (bases : Image → Type 0) (job : Job) (lines : ℕ → List (List ℕ)) (every : Option ℕ) (before after : Option (List KeptImage)) where
  -- The images that the keeper got are a chain from each of these bases on, each the successor of the one before it by the takes recorded in it.
  -- Nothing is in flight at any of them, and each has a spelling, which reads as an image again. Where the keeper doesn't tell its images nothing
  -- is said: HasKept holds of no images then, and those are a chain.
  pub record StoredFrom : Type 0 where
    pub images : List Image
    pub kept : HasKept before after images
    pub chain : (base : Image) → bases base → Chain job lines every base images
    pub still : AllByRecursion (HasNoneInFlight job) images
    pub spelled : AllByRecursion CanSpell images
    pub readable : AllByRecursion IsReadable images

  -- The last of them is marked so, and this is the table of all its tasks' tables.
  pub record EndsFrom (table : Values) : Type 0 where
    pub stored : StoredFrom
    pub last : Image
    pub last_is : (base : Image) → bases base → last_of base stored.images ≡ last
    pub final : last.final_one ≡ true
    pub table_is : table ≡ join job.agg last.tables.items

  -- Behind the images that the keeper got the chain goes on with one that is too large to be spelled: a number of keys or runs in it, or the
  -- length of a saved piece, is above 4,294,967,295. Where the keeper doesn't tell its images, such an image stands behind some. That an image
  -- is so large follows from settled edges, so it is said where links and inputs tell their bytes.
  pub record TooLargeFrom : Type 0 where
    pub images : List Image
    pub kept : HasKept before after images
    pub image : Image
    pub chain : (base : Image) → bases base → Chain job lines every base (images ++ image ∷ [])
    pub large : CanSpell image → ⊥

-- All this from the start of the job on.
abbrev pub HasStored : Job → (ℕ → List (List ℕ)) → Option ℕ → Option (List KeptImage) → Option (List KeptImage) → Type 0
HasStored job = StoredFrom (IsStart job) job

abbrev pub EndsIn : Job → (ℕ → List (List ℕ)) → Option ℕ → Option (List KeptImage) → Option (List KeptImage) → Values → Type 0
EndsIn job = EndsFrom (IsStart job) job

abbrev pub IsTooLarge : Job → (ℕ → List (List ℕ)) → Option ℕ → Option (List KeptImage) → Option (List KeptImage) → Type 0
IsTooLarge job = TooLargeFrom (IsStart job) job
