-- The start of a job: there is one, and nothing is done at it.
use Rattle.std.proofs.Common.{◌≡◌, ℕ, zero, suc, false, List, [], ◌∷◌, ◌++◌, length, get_or, refl, sym, ap, subst, ◌∙◌}
use Rattle.std.specs.Prelude.{All, replicate, slice_get, unwrap_or}
use Rattle.std.specs.List.{AllByRecursion}
use Rattle.std.specs.FinMap.{empty}
use Rattle.std.proofs.lemmas.List.{length-replicate}
use Rattle.std.proofs.lemmas.List.Elements.{All-from_recursion, recursion_from_All}
use Rattle.flow_defs.specs.declared.job.Job.{Job}
use Rattle.flow_defs.specs.declared.image.TakeRun.{TakeRun}
use Rattle.flow_defs.specs.declared.image.Image.{Image}
use Rattle.flow_defs.specs.Items.{Items}
use Rattle.flow_defs.specs.Records.{spans, IsShort}
use Rattle.flow_defs.specs.Jobs.{last_edge, tasks}
use Rattle.flow_defs.specs.Tables.{Values}
use Rattle.plain_machine.specs.Places.{sending_tasks, receiving_tasks, channels, sender_place, receiver_place, channel_place}
use Rattle.plain_machine.specs.Images.{items_at, saved, AreRuns, HasShortKeys, Fits, IsStart}
use Rattle.plain_machine.specs.Theorems.{StartExists, StartIsStart}
use Rattle.plain_machine.proofs.KeySums.{entries-empty}
use Rattle.plain_machine.proofs.Samples.{full}

-- ---- lists of which all items are one

pub all_same : {X : Type 0} (n : ℕ) (x : X) (P : X → Type 0) → P x → All P (replicate n x)
all_same n x P holds = All-from_recursion P (replicate n x) (each n)
  where
    each : (n : ℕ) → AllByRecursion P (replicate n x)
    each zero = tt
    each (suc n) = (holds, each n)

number_at : (xs : List ℕ) (i : ℕ) → AllByRecursion (λ x. x ≡ 0) xs → get_or xs i 0 ≡ 0
number_at [] i all = refl
number_at (x ∷ xs) zero all = all.0
number_at (x ∷ xs) (suc i) all = number_at xs i all.1

table_at : (xs : List Values) (i : ℕ) → AllByRecursion (λ (t : Values). t ≡ empty) xs → unwrap_or (slice_get xs i) empty ≡ empty
table_at [] i all = refl
table_at (x ∷ xs) zero all = all.0
table_at (x ∷ xs) (suc i) all = table_at xs i all.1

nothing_at : {X : Type 0} (xs : List (Items X)) (i : ℕ) → AllByRecursion (λ (l : Items X). l.items ≡ []) xs → items_at xs i ≡ []
nothing_at [] i all = refl
nothing_at (x ∷ xs) zero all = all.0
nothing_at (x ∷ xs) (suc i) all = nothing_at xs i all.1

pub no_spans : spans [] ≡ []
unfolding spans
no_spans = refl

-- ---- the start

pub saved_at_start : (job : Job) (image : Image) → IsStart job image → (e a b : ℕ) → saved job image e a b ≡ []
saved_at_start job image is e a b =
    ap (λ bytes. bytes ++ items_at image.saved_out.items (channel_place job e a b)) (nothing_at image.saved_in.items (channel_place job e a b) (recursion_from_All (λ (l : Items ℕ). l.items ≡ []) image.saved_in.items is.saved_in))
    ∙ nothing_at image.saved_out.items (channel_place job e a b) (recursion_from_All (λ (l : Items ℕ). l.items ≡ []) image.saved_out.items is.saved_out)

pub start_is_start : StartIsStart
start_is_start job image is = record {
  offsets = λ a _. number_at image.offsets.items a (recursion_from_All (λ x. x ≡ 0) image.offsets.items is.offsets);
  emitted = λ i a _ _. number_at image.emitted.items (sender_place job i a) (recursion_from_All (λ x. x ≡ 0) image.emitted.items is.emitted);
  tables = λ b _. table_at image.tables.items b (recursion_from_All (λ (t : Values). t ≡ empty) image.tables.items is.tables);
  flight = λ e a b _. ap spans (saved_at_start job image is e a b) ∙ no_spans;
}

-- ---- there is one

-- the start of a job whose lists have no room to spare
abbrev pub start_image : Job → Image
start_image job = record {
  number = 0;
  final_one = false;
  text = full job.text.items;
  offsets = full (replicate (tasks job 0) 0);
  ended = full (replicate (tasks job 0) false);
  emitted = full (replicate (length (sending_tasks job)) 0);
  tables = full (replicate (tasks job (suc (last_edge job))) empty);
  takes = full (replicate (length (receiving_tasks job)) (full []));
  saved_in = full (replicate (length (channels job)) (full []));
  saved_out = full (replicate (length (channels job)) (full []));
}

pub start_image_is_start : (job : Job) → IsStart job (start_image job)
start_image_is_start job = start_made
  where
    no_keys : HasShortKeys empty
    no_keys = subst (All (λ (row : List ℕ × ℕ). IsShort row.0)) (sym entries-empty) (All-from_recursion (λ (row : List ℕ × ℕ). IsShort row.0) [] tt)

    none : (n place : ℕ) → items_at (replicate n (full {X = ℕ} [])) place ≡ []
    none n place = nothing_at _ place (recursion_from_All _ _ (all_same n (full []) (λ (l : Items ℕ). l.items ≡ []) refl))

    no_runs : (e b : ℕ) → items_at (start_image job).takes.items (receiver_place job e b) ≡ []
    no_runs e b = nothing_at _ (receiver_place job e b) (recursion_from_All _ _ (all_same (length (receiving_tasks job)) (full []) (λ (l : Items TakeRun). l.items ≡ []) refl))

    no_bytes : (e a b : ℕ) → saved job (start_image job) e a b ≡ []
    no_bytes e a b = ap (λ bytes. bytes ++ items_at (start_image job).saved_out.items (channel_place job e a b)) (none _ (channel_place job e a b)) ∙ none _ (channel_place job e a b)

    fits : Fits job (start_image job)
    fits = record {
      offsets = length-replicate (tasks job 0) 0;
      ended = length-replicate (tasks job 0) false;
      emitted = length-replicate (length (sending_tasks job)) 0;
      tables = length-replicate (tasks job (suc (last_edge job))) empty;
      takes = length-replicate (length (receiving_tasks job)) (full []);
      saved_in = length-replicate (length (channels job)) (full []);
      saved_out = length-replicate (length (channels job)) (full []);
      keys = all_same (tasks job (suc (last_edge job))) empty HasShortKeys no_keys;
      runs = λ e b _ _. subst (AreRuns job e b) (sym (no_runs e b)) tt;
      spans = λ e a b _. ([], record { whole = sym (no_bytes e a b); short = tt });
      last_is_ended = λ h. cc;
      last_is_empty = λ h. cc;
    }

    start_made : IsStart job (start_image job)
    start_made = record {
      fits = fits;
      number = refl;
      text = refl;
      not_last = refl;
      offsets = all_same (tasks job 0) 0 (λ x. x ≡ 0) refl;
      ended = all_same (tasks job 0) false (λ x. x ≡ false) refl;
      emitted = all_same (length (sending_tasks job)) 0 (λ x. x ≡ 0) refl;
      tables = all_same (tasks job (suc (last_edge job))) empty (λ (t : Values). t ≡ empty) refl;
      takes = all_same (length (receiving_tasks job)) (full []) (λ (l : Items TakeRun). l.items ≡ []) refl;
      saved_in = all_same (length (channels job)) (full []) (λ (l : Items ℕ). l.items ≡ []) refl;
      saved_out = all_same (length (channels job)) (full []) (λ (l : Items ℕ). l.items ≡ []) refl;
    }

pub start_exists : StartExists
start_exists job = (start_image job, start_image_is_start job)
