-- Images of the job that counts the lines a, b and a by one task: it has one source and one channel.
use Rattle.std.proofs.Common.{◌≡◌, ℕ, zero, suc, ◌+◌, ◌<◌, ◌≤◌, Bool, true, false, List, [], ◌∷◌, length, Option, refl, sym, ap, subst, ◌∙◌, arith, append-nil}
use Rattle.std.specs.Prelude.{codes, slice_index}
use Rattle.std.proofs.lemmas.List.Elements.{All-from_recursion}
use Rattle.std.specs.FinMap.{empty}
use Rattle.flow_defs.specs.declared.job.Job.{Job}
use Rattle.flow_defs.specs.declared.job.TheConstants.{TASKS_MAX}
use Rattle.flow_defs.specs.declared.job.AggKind.TheVariants.{Count}
use Rattle.flow_defs.specs.declared.image.Image.{Image}
use Rattle.flow_defs.specs.declared.image.TakeRun.{TakeRun}
use Rattle.flow_defs.specs.Records.{spans}
use Rattle.flow_defs.specs.Lines.{lines}
use Rattle.flow_defs.specs.Jobs.{tasks, last_edge, is_channel, IsJob}
use Rattle.flow_defs.specs.Tables.{Values, add_all}
use Rattle.plain_machine.specs.Cuts.{SameCut}
use Rattle.plain_machine.specs.Emitting.{count_after}
use Rattle.plain_machine.specs.Weaving.{CanWeave}
use Rattle.plain_machine.specs.Steps.{avail, taken, left, sent}
use Rattle.plain_machine.specs.Images.{AllEnded, AreRuns, AreSpans, HasShortKeys, cut_of, takes_of, Fits, saved}
use Rattle.plain_machine.specs.Chains.{IsStepTo, cut_after, Goes, Follows}
use Rattle.plain_machine.proofs.Samples.{full}
use Rattle.plain_machine.proofs.Channels.{ends_of}

abbrev pub its_text : List ℕ
its_text = codes "source in\naggregate count 1\n"

abbrev pub its_job : Job
its_job = record { sources = full (full (codes "in") ∷ []); stages = full []; agg = Count; agg_tasks = 1; text = full its_text }

abbrev pub its_lines : ℕ → List (List ℕ)
its_lines a = lines (codes "a\nb\na\n")

pub is_job : IsJob its_job
is_job = record { stages = omega arith; counts = counts; arguments = tt; widths = λ e low by. cc }
  where
    counts : (i : ℕ) → i ≤ suc (last_edge its_job) → (1 ≤ tasks its_job i) × (tasks its_job i ≤ TASKS_MAX)
    counts zero low = (omega arith, omega arith)
    counts (suc zero) low = (omega arith, omega arith)
    counts (suc (suc i)) low = absurd (omega arith)

-- what is in an image of it
pub record At : Type 0 where
  pub number : ℕ
  pub last : Bool
  pub offset : ℕ
  pub ended : Bool
  pub emitted : ℕ
  pub table : Values
  pub runs : List TakeRun
  pub bytes : List ℕ

abbrev pub image_at : At → Image
image_at p = record {
  number = p.number;
  final_one = p.last;
  text = full its_text;
  offsets = full (p.offset ∷ []);
  ended = full (p.ended ∷ []);
  emitted = full (p.emitted ∷ []);
  tables = full (p.table ∷ []);
  takes = full (full p.runs ∷ []);
  saved_in = full (full p.bytes ∷ []);
  saved_out = full (full [] ∷ []);
}

-- nothing was done
abbrev pub before : At
before = record { number = 0; last = false; offset = 0; ended = false; emitted = 0; table = empty; runs = []; bytes = [] }

-- what is left to show that it fits
pub record FitsAt (p : At) : Type 0 where
  pub keys : HasShortKeys p.table
  pub runs : AreRuns its_job 0 0 p.runs
  pub spans : AreSpans p.bytes
  pub last_is_ended : p.last ≡ true → p.ended ≡ true
  pub last_is_empty : p.last ≡ true → p.bytes ≡ []

-- the only channel
pub only : (P : ℕ → ℕ → ℕ → Type 0) → P 0 0 0 → (e a b : ℕ) → is_channel its_job e a b ≡ true → P e a b
only P p zero zero zero on = p
only P p zero zero (suc b) on = let ends = ends_of its_job 0 0 (suc b) on in absurd (omega (arith, ends.receiver))
only P p zero (suc a) b on = let ends = ends_of its_job 0 (suc a) b on in absurd (omega (arith, ends.sender))
only P p (suc e) a b on = let ends = ends_of its_job (suc e) a b on in absurd (omega (arith, ends.edge))

saved_at : (p : At) → saved its_job (image_at p) 0 0 0 ≡ p.bytes
saved_at p = append-nil p.bytes

all_ended : (p : At) → p.ended ≡ true → AllEnded (image_at p)
all_ended p is = All-from_recursion (λ e. e ≡ true) (p.ended ∷ []) (is, tt)

pub fits_at : (p : At) → FitsAt p → Fits its_job (image_at p)
fits_at p fit = record {
  offsets = refl;
  ended = refl;
  emitted = refl;
  tables = refl;
  takes = refl;
  saved_in = refl;
  saved_out = refl;
  keys = All-from_recursion HasShortKeys (p.table ∷ []) (fit.keys, tt);
  runs = runs;
  spans = only (λ e a b. AreSpans (saved its_job (image_at p) e a b)) (subst AreSpans (sym (saved_at p)) fit.spans);
  last_is_ended = λ is. all_ended p (fit.last_is_ended is);
  last_is_empty = λ is. only (λ e a b. saved its_job (image_at p) e a b ≡ []) (saved_at p ∙ fit.last_is_empty is);
}
  where
    runs : (e b : ℕ) → e ≤ last_edge its_job → b < tasks its_job (suc e) → AreRuns its_job e b (takes_of its_job (image_at p) (suc e) b)
    runs zero zero low here = fit.runs
    runs zero (suc b) low here = absurd (omega arith)
    runs (suc e) b low here = absurd (omega arith)

module _ (p q : At) where
  -- the source's lines, and what the task finds, takes and leaves
  abbrev pub read : ℕ → List (List ℕ)
  read = sent its_job its_lines (cut_of its_job (image_at p)) (takes_of its_job (image_at q)) (slice_index (image_at q).offsets.items) 0

  abbrev pub found : ℕ → List (List ℕ)
  found = avail its_job its_lines (cut_of its_job (image_at p)) (takes_of its_job (image_at q)) (slice_index (image_at q).offsets.items) 0 0 read

  abbrev pub took : List (List ℕ)
  took = taken its_job its_lines (cut_of its_job (image_at p)) (takes_of its_job (image_at q)) (slice_index (image_at q).offsets.items) 0 0

  abbrev pub leaves : List (List ℕ)
  leaves = left its_job its_lines (cut_of its_job (image_at p)) (takes_of its_job (image_at q)) (slice_index (image_at q).offsets.items) 0 0 0

  -- what is left to show that the second follows the first
  pub record FollowsAt (every : Option ℕ) : Type 0 where
    pub number : q.number ≡ p.number + 1
    pub not_last : p.last ≡ false
    pub fits : FitsAt q
    pub rise : p.offset ≤ q.offset
    pub within : q.offset ≤ 3
    pub enough : CanWeave q.runs found
    pub emitted : q.emitted ≡ count_after p.emitted (read 0)
    pub table : q.table ≡ add_all Count p.table took
    pub flight : spans q.bytes ≡ leaves
    pub goes : Goes its_job its_lines every (image_at p) (image_at q)

  step_at : {every : Option ℕ} → FollowsAt every → IsStepTo its_job its_lines (image_at p) (image_at q)
  step_at f = record { rise = rise; within = within; enough = enough }
    where
      rise : (a : ℕ) → a < tasks its_job 0 → slice_index (image_at p).offsets.items a ≤ slice_index (image_at q).offsets.items a
      rise zero here = f.rise
      rise (suc a) here = absurd (omega arith)

      within : (a : ℕ) → a < tasks its_job 0 → slice_index (image_at q).offsets.items a ≤ length (its_lines a)
      within zero here = f.within
      within (suc a) here = absurd (omega arith)

      enough : (e b : ℕ) → e ≤ last_edge its_job → b < tasks its_job (suc e) → CanWeave (takes_of its_job (image_at q) (suc e) b) (avail its_job its_lines (cut_of its_job (image_at p)) (takes_of its_job (image_at q)) (slice_index (image_at q).offsets.items) e b (sent its_job its_lines (cut_of its_job (image_at p)) (takes_of its_job (image_at q)) (slice_index (image_at q).offsets.items) e))
      enough zero zero low here = f.enough
      enough zero (suc b) low here = absurd (omega arith)
      enough (suc e) b low here = absurd (omega arith)

  same_at : {every : Option ℕ} → FollowsAt every → SameCut its_job (cut_of its_job (image_at q)) (cut_after its_job its_lines (image_at p) (image_at q))
  same_at f = record {
    offsets = λ a _. refl;
    emitted = counts;
    tables = tables;
    flight = only (λ e a b. (cut_of its_job (image_at q)).flight e a b ≡ (cut_after its_job its_lines (image_at p) (image_at q)).flight e a b) (ap spans (saved_at q) ∙ f.flight);
  }
    where
      counts : (i a : ℕ) → i ≤ last_edge its_job → a < tasks its_job i → (cut_of its_job (image_at q)).emitted i a ≡ (cut_after its_job its_lines (image_at p) (image_at q)).emitted i a
      counts zero zero low here = f.emitted
      counts zero (suc a) low here = absurd (omega arith)
      counts (suc i) a low here = absurd (omega arith)

      tables : (b : ℕ) → b < tasks its_job (suc (last_edge its_job)) → (cut_of its_job (image_at q)).tables b ≡ (cut_after its_job its_lines (image_at p) (image_at q)).tables b
      tables zero here = f.table
      tables (suc b) here = absurd (omega arith)

  pub follows_at : (every : Option ℕ) → FollowsAt every → Follows its_job its_lines every (image_at p) (image_at q)
  follows_at every f = record {
    number = f.number;
    text = refl;
    not_last = f.not_last;
    fits = fits_at q f.fits;
    defined = step_at f;
    same = same_at f;
    goes = f.goes;
  }
