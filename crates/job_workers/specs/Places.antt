-- Workers that run at once, each in a place of its own. This is this project's own choice.
use Rattle.std.specs.Prelude.{◌≡◌, ℕ, List, Some, length, slice_get}
use Rattle.job_workers.specs.declared.place.Place.{Place}
use Rattle.job_workers.specs.declared.place.Place.TheVariants.{Todo, Ended, Vacant}

-- What stands in a place may run, or has nothing to do.
abbrev pub MayRun : {W E : Type 0} → (W → Type 0) → Place W E → Type 0
MayRun may_run (Todo worker) = may_run worker
MayRun may_run (Ended end) = Unit {0}
MayRun may_run Vacant = Unit {0}

-- Where a worker stood, what it leaves stands afterwards, and all else stays.
abbrev pub Leaves : {W E : Type 0} → (W → E → Type 0) → Place W E → Place W E → Type 0
Leaves leaves (Todo worker) (Ended end) = leaves worker end
Leaves leaves (Todo worker) (Todo other) = ⊥
Leaves leaves (Todo worker) Vacant = ⊥
Leaves leaves (Ended end) place = place ≡ Ended end
Leaves leaves Vacant place = place ≡ Vacant

-- It holds of each of a list, and place by place of two.
abbrev pub Each : {A : Type 0} → (A → Type 0) → List A → Type 0
Each P xs = (i : ℕ) (x : _) → slice_get xs i ≡ Some x → P x

abbrev pub Pairs : {A B : Type 0} → (A → B → Type 0) → List A → List B → Type 0
Pairs R xs ys = (i : ℕ) (x y : _) → slice_get xs i ≡ Some x → slice_get ys i ≡ Some y → R x y

-- A row has as many places as it had, and what each worker leaves stands in its place.
pub record RowLeaves {W E : Type 0} (leaves : W → E → Type 0) (before after : List (Place W E)) : Type 0 where
  pub many : length after ≡ length before
  pub each : Pairs (Leaves leaves) before after
