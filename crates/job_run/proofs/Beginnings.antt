-- A run that begins with its job is worth the tally of all lines.
use Rattle.std.proofs.Common.{◌≡◌, ℕ, zero, suc, Bool, false, List, [], ◌∷◌, refl, sym, subst, ◌∙◌, inl, inr, arith}
use Rattle.std.specs.Prelude.{drop, slice_get, unwrap_or, Result, Ok, Err, IfOk, IfErr}
use Rattle.std.specs.List.{AllByRecursion}
use Rattle.std.proofs.lemmas.List.Elements.{recursion_from_All}
use Rattle.flow_defs.specs.declared.cause.Cause.{Cause}
use Rattle.flow_defs.specs.declared.cause.PeerFault.{PeerFault}
use Rattle.flow_defs.specs.declared.image.Image.{Image}
use Rattle.flow_defs.specs.Jobs.{IsJob}
use Rattle.flow_defs.specs.Lines.{lines}
use Rattle.flow_defs.specs.Tables.{Values}
use Rattle.plain_machine.specs.Images.{IsStart}
use Rattle.plain_machine.specs.Theorems.{ChainIsWorthTally, StartExists, StartIsStart}
use Rattle.plain_machine.specs.Worth.{tally}
use Rattle.job_start.specs.Starts.{IsBase}
use Rattle.outside.specs.Faults.{HasRisen}
use Rattle.job_plan.specs.Limits.{HasLongLine}
use Rattle.job_chain.specs.Ran.{StartIsRunBase}
use Rattle.job_outcome.specs.Outcomes.{AreWithin, AreWithinFrom, IsRunCause}
use Rattle.job_outcome.specs.Storing.{EndsIn, HasStored, IsTooLarge, StoredFrom, TooLargeFrom}
use Rattle.job_outcome.specs.Words.{WorldWords}
use Rattle.job_run.specs.Runs.{Course, bases_over, IsRun, WhereTold}
use Rattle.job_run.proofs.RunLaws.{cause_with}

-- No source was at its end before the first line.
none_ended : (xs : List Bool) (a : ℕ) → AllByRecursion (λ (t : Bool). t ≡ false) xs → unwrap_or (slice_get xs a) false ≡ false
none_ended [] a all = refl
none_ended (x ∷ xs) zero all = all.0
none_ended (x ∷ xs) (suc a) all = none_ended xs a all.1

-- What the start of a job is and is worth, and that a run may go on from there.
pub record Laws : Type 0 where
  pub exists : StartExists
  pub cut : StartIsStart
  pub worth_tally : ChainIsWorthTally
  pub run_base : StartIsRunBase

module _ {S : Type 0} (laws : Laws) (course : Course S) (begins : (base : Image) → IsStart course.job base → IsBase course.job course.start base) where
  open course use {job, every, kept, keeps}

  -- From the start of the job it may go on.
  start_base : (bytes : ℕ → List ℕ) (base : Image) → IsStart job base → bases_over course bytes base
  start_base bytes base is = laws.run_base job course.start (λ a. lines (bytes a)) base is (begins base is)

  -- What is within the limits from there on is within them.
  all_within : (bytes : ℕ → List ℕ) (base : Image) → IsStart job base → AreWithinFrom job base bytes → AreWithin job bytes
  all_within bytes base is within a low (inl big) =
      let few = (within a low (none_ended base.ended.items a (recursion_from_All (λ (t : Bool). t ≡ false) base.ended.items is.ended))).0 in
      omega (arith, few, big)
  all_within bytes base is within a low (inr long) =
      let none = (within a low (none_ended base.ended.items a (recursion_from_All (λ (t : Bool). t ≡ false) base.ended.items is.ended))).1 in
      none (subst (λ (n : ℕ). HasLongLine (drop n (lines (bytes a)))) (sym ((laws.cut job base is).offsets a low)) long)

  -- The images are a chain from the start on.
  from_start : (bytes : ℕ → List ℕ) → StoredFrom (bases_over course bytes) job (λ a. lines (bytes a)) every kept keeps → HasStored job (λ a. lines (bytes a)) every kept keeps
  from_start bytes stored = record {
    images = stored.images;
    kept = stored.kept;
    chain = λ base is. stored.chain base (start_base bytes base is);
    still = stored.still;
    spelled = stored.spelled;
    readable = stored.readable;
  }

  large_of : (bytes : ℕ → List ℕ) → TooLargeFrom (bases_over course bytes) job (λ a. lines (bytes a)) every kept keeps → IsTooLarge job (λ a. lines (bytes a)) every kept keeps
  large_of bytes large = record {
    images = large.images;
    kept = large.kept;
    image = large.image;
    chain = λ base is. large.chain base (start_base bytes base is);
    large = large.large;
  }

module _ {S O I L N : Type 0} {words : WorldWords S O I L N} {link : Type 0} {peer : PeerFault → Type 0} (laws : Laws) (course : Course S)
    (begins : (base : Image) → IsStart course.job base → IsBase course.job course.start base) where
  open course use {job, every, before, kept, keeps}

  pub tally_of : IsJob job → (result : Result Values Cause) → IsRun words course link peer result →
      IfOk result (λ table. WhereTold words before (λ bytes. AreWithin job bytes × (table ≡ tally job (λ a. lines (bytes a)))))
  tally_of is_job (Err cause) run = tt
  tally_of is_job (Ok table) run = λ tell bytes told.
      let first = laws.exists job in
      let both = run.worth_is tell bytes told first.0 (start_base laws course begins bytes first.0 first.1) in
      (all_within laws course begins bytes first.0 first.1 both.0, both.1 ∙ laws.worth_tally job (λ a. lines (bytes a)) every first.0 [] is_job first.1 tt)

  pub stored_of : (result : Result Values Cause) → IsRun words course link peer result → WhereTold words before (λ bytes. HasStored job (λ a. lines (bytes a)) every kept keeps)
  stored_of result run = λ tell bytes told.
      let first = laws.exists job in
      from_start laws course begins bytes (run.chain tell bytes told first.0 (start_base laws course begins bytes first.0 first.1))

  pub ends_of : (result : Result Values Cause) → IsRun words course link peer result →
      IfOk result (λ table. WhereTold words before (λ bytes. EndsIn job (λ a. lines (bytes a)) every kept keeps table))
  unfolding from_start
  ends_of (Err cause) run = tt
  ends_of (Ok table) run = λ tell bytes told.
      let first = laws.exists job in
      let ends = run.last tell bytes told first.0 (start_base laws course begins bytes first.0 first.1) in
      record {
        stored = from_start laws course begins bytes ends.stored;
        last = ends.last;
        last_is = λ base is. ends.last_is base (start_base laws course begins bytes base is);
        final = ends.final;
        table_is = ends.table_is;
      }

  pub cause_of : (result : Result Values Cause) → IsRun words course link peer result →
      IfErr result (IsRunCause words.left words.faults before course.after link peer (HasRisen course.fell course.rose)
      (WhereTold words before (λ bytes. IsTooLarge job (λ a. lines (bytes a)) every kept keeps)))
  cause_of (Ok table) run = tt
  cause_of (Err cause) run =
      cause_with words course (λ x. x) (λ fault x. x) (λ large tell bytes told. large_of laws course begins bytes (large tell bytes told)) cause run.cause
