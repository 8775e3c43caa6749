-- Rows of places, each with the cause for which its worker ended, if it has. This is this project's own choice.
use Rattle.std.specs.Prelude.{◌≡◌, ℕ, List, Option, Some, slice_get}
use Rattle.flow_defs.specs.Items.{Items}
use Rattle.flow_defs.specs.declared.cause.Cause.{Cause}
use Rattle.flow_defs.specs.declared.cause.Cause.TheVariants.{Done}
use Rattle.job_outcome.specs.Outcomes.{StandsAt}

module _ {P : Type 0} (cause_in : P → Option Cause) where
  -- All workers of a row are done, and one ended with this cause.
  abbrev pub RowIsDone : List P → Type 0
  RowIsDone row = (i : ℕ) (place : P) → slice_get row i ≡ Some place → cause_in place ≡ Some Done

  pub record HasOneIn (row : List P) (cause : Cause) : Type 0 where
    pub at : ℕ
    pub place : P
    pub stands : slice_get row at ≡ Some place
    pub cause_is : cause_in place ≡ Some cause

  -- The same of all rows.
  abbrev pub AreDone : List (Items P) → Type 0
  AreDone rows = (s i : ℕ) (place : P) → StandsAt rows s i place → cause_in place ≡ Some Done

  pub record HasOne (rows : List (Items P)) (cause : Cause) : Type 0 where
    pub row : ℕ
    pub at : ℕ
    pub place : P
    pub stands : StandsAt rows row at place
    pub cause_is : cause_in place ≡ Some cause
