-- Jobs of one text differ in the room of their lists alone, and what holds of one of them holds of the other.
use Rattle.std.proofs.Common.{◌≡◌, ℕ, zero, suc, ◌+◌, ◌<◌, ◌≤◌, true, List, [], ◌∷◌, ◌++◌, length, map, Option, Some, None, refl, ap, subst, ◌∙◌}
use Rattle.std.specs.Prelude.{⊤, Bool, IsTrue, ◌≢◌, ◌&&◌, ◌==◌, min, nat_le, nat_lt, slice_get, slice_index, slice_range, flat_map, unwrap_or, if◌then◌else◌}
use Rattle.std.specs.Option.{option_map_or}
use Rattle.std.specs.List.{AllByRecursion}
use Rattle.std.specs.FinMap.{empty}
use Rattle.std.proofs.Math.Path.{fun_ext}
use Rattle.flow_defs.specs.declared.job.Job.{Job}
use Rattle.flow_defs.specs.declared.job.Stage.{Stage}
use Rattle.flow_defs.specs.declared.job.StageKind.{StageKind}
use Rattle.flow_defs.specs.declared.job.AggKind.{AggKind}
use Rattle.flow_defs.specs.declared.job.Exchange.{Exchange}
use Rattle.flow_defs.specs.declared.image.Image.{Image}
use Rattle.flow_defs.specs.declared.image.TakeRun.{TakeRun}
use Rattle.flow_defs.specs.Aggregates.{key_of}
use Rattle.flow_defs.specs.Records.{spans}
use Rattle.flow_defs.specs.Routes.{receiver}
use Rattle.flow_defs.specs.Stages.{apply}
use Rattle.flow_defs.specs.Tables.{add_all}
use Rattle.flow_defs.specs.Jobs.{last_edge, tasks, exchange, is_channel, joins, width, sum_below}
use Rattle.flow_defs.proofs.Lists.{head_same, tail_same}
use Rattle.plain_machine.specs.Cuts.{Cut, SameCut}
use Rattle.plain_machine.specs.Emitting.{apply_behind, emit, count_after}
use Rattle.plain_machine.specs.Images.{items_at, saved, cut_of, AreSpans, Fits, IsStart}
use Rattle.plain_machine.specs.Places.{place_on_edge}
use Rattle.plain_machine.specs.Weaving.{woven, rests, CanWeave}
use Rattle.plain_machine.specs.Worth.{concat_below}
use Rattle.plain_machine.specs.Chains.{Goes, IsStepTo, cut_after, Chain}

-- what a job does, without its lists
pub record Work : Type 0 where
  pub many : ℕ → ℕ
  pub ways : ℕ → Exchange
  pub last : ℕ
  pub works : ℕ → List ℕ → List (List ℕ)
  pub agg : AggKind
  pub text : List ℕ

abbrev pub work_of : Job → Work
work_of job = record { many = tasks job; ways = exchange job; last = last_edge job; works = apply_behind job; agg = job.agg; text = job.text.items }

-- ---- the definitions of the plain machine, of what a job does alone

abbrev pub HasChannel : Work → ℕ → ℕ → ℕ → Bool
HasChannel w e a b = nat_le e w.last && nat_lt a (w.many e) && nat_lt b (w.many (suc e)) && joins (w.ways e) a b

abbrev senders : Work → List (ℕ × ℕ)
senders w = concat_below (suc w.last) (λ i. concat_below (w.many i) (λ a. (i, a) ∷ []))

abbrev receivers : Work → List (ℕ × ℕ)
receivers w = concat_below (suc w.last) (λ e. concat_below (w.many (suc e)) (λ b. (suc e, b) ∷ []))

abbrev channels_of : Work → List (ℕ × ℕ × ℕ)
channels_of w = concat_below (suc w.last) (λ e. concat_below (w.many e) (λ a. concat_below (w.many (suc e)) (λ b. if HasChannel w e a b then (e, a, b) ∷ [] else [])))

abbrev sends_at : Work → ℕ → ℕ → ℕ
sends_at w i a = sum_below i w.many + a

abbrev receives_at : Work → ℕ → ℕ → ℕ
receives_at w e b = sum_below e (λ i. w.many (suc i)) + b

abbrev stands_at : Work → ℕ → ℕ → ℕ → ℕ
stands_at w e a b = sum_below e (λ d. width (w.ways d) (w.many d) (w.many (suc d))) + place_on_edge (w.ways e) (w.many (suc e)) a b

abbrev saves : Work → Image → ℕ → ℕ → ℕ → List ℕ
saves w image e a b = items_at image.saved_in.items (stands_at w e a b) ++ items_at image.saved_out.items (stands_at w e a b)

abbrev pub cut_at : Work → Image → Cut
cut_at w image = record {
  offsets = slice_index image.offsets.items;
  emitted = λ i a. slice_index image.emitted.items (sends_at w i a);
  tables = λ b. unwrap_or (slice_get image.tables.items b) empty;
  flight = λ e a b. spans (saves w image e a b);
}

abbrev takes_at : Work → Image → ℕ → ℕ → List TakeRun
takes_at w image zero b = []
takes_at w image (suc e) b = items_at image.takes.items (receives_at w e b)

abbrev goes_to : Work → ℕ → ℕ → ℕ → List ℕ → ℕ
goes_to w e a n r = receiver (w.ways e) (if e == w.last then key_of w.agg r else r) n a (w.many (suc e))

module _ (w : Work) (lines : ℕ → List (List ℕ)) (cut : Cut) (takes : ℕ → ℕ → List TakeRun) (offsets : ℕ → ℕ) where
  abbrev there : ℕ → ℕ → (ℕ → List (List ℕ)) → ℕ → List (List ℕ)
  there e b emits a = if HasChannel w e a b then cut.flight e a b ++ emit (goes_to w e a) (cut.emitted e a) (emits a) b else []

  abbrev goes_out : ℕ → ℕ → List (List ℕ)
  goes_out zero a = slice_range (lines a) (cut.offsets a) (offsets a)
  goes_out (suc e) b = flat_map (w.works e) (woven (takes (suc e) b) (there e b (goes_out e)))

  abbrev cut_then : Cut
  cut_then = record {
    offsets = offsets;
    emitted = λ i a. count_after (cut.emitted i a) (goes_out i a);
    tables = λ b. add_all w.agg (cut.tables b) (woven (takes (suc w.last) b) (there w.last b (goes_out w.last)));
    flight = λ e a b. rests (takes (suc e) b) (there e b (goes_out e)) a;
  }

abbrev after : Work → (ℕ → List (List ℕ)) → Image → Image → Cut
after w lines old new = cut_then w lines (cut_at w old) (takes_at w new) (slice_index new.offsets.items)

-- ---- jobs that do the same

-- what a stage does depends on its kind and its argument
does : (s t : Stage) → s.kind ≡ t.kind → s.arg.items ≡ t.arg.items → (r : List ℕ) → apply s r ≡ apply t r
unfolding apply
does s t kind arg r = cc

abbrev kinds_of : List Stage → List StageKind
kinds_of stages = map (λ (s : Stage). s.kind) stages

abbrev arguments_of : List Stage → List (List ℕ)
arguments_of stages = map (λ (s : Stage). s.arg.items) stages

same_stages : (xs ys : List Stage) → kinds_of xs ≡ kinds_of ys → arguments_of xs ≡ arguments_of ys → (e : ℕ) (r : List ℕ) →
    option_map_or (λ (s : Stage). apply s r) (slice_get xs e) [] ≡ option_map_or (λ (s : Stage). apply s r) (slice_get ys e) []
same_stages [] [] kinds arguments e r = refl
same_stages [] (y ∷ ys) kinds arguments e r = cc
same_stages (x ∷ xs) [] kinds arguments e r = cc
same_stages (x ∷ xs) (y ∷ ys) kinds arguments zero r = does x y (head_same x.kind y.kind (kinds_of xs) (kinds_of ys) kinds) (head_same x.arg.items y.arg.items (arguments_of xs) (arguments_of ys) arguments) r
same_stages (x ∷ xs) (y ∷ ys) kinds arguments (suc e) r = same_stages xs ys (tail_same x.kind y.kind (kinds_of xs) (kinds_of ys) kinds) (tail_same x.arg.items y.arg.items (arguments_of xs) (arguments_of ys) arguments) e r

-- the same tasks, exchanges, stages, aggregate and text make the same work
pub same_work : (job other : Job) → last_edge job ≡ last_edge other → ((i : ℕ) → tasks job i ≡ tasks other i) → ((e : ℕ) → exchange job e ≡ exchange other e) →
    kinds_of job.stages.items ≡ kinds_of other.stages.items → arguments_of job.stages.items ≡ arguments_of other.stages.items → job.agg ≡ other.agg → job.text.items ≡ other.text.items →
    work_of job ≡ work_of other
same_work job other edges widths exchanges kinds arguments agg text =
    let many : tasks job ≡ tasks other = fun_ext widths in
    let ways : exchange job ≡ exchange other = fun_ext exchanges in
    let works : apply_behind job ≡ apply_behind other = fun_ext (λ e. fun_ext (same_stages job.stages.items other.stages.items kinds arguments e)) in
    ap (λ (m : ℕ → ℕ). let w : Work = record { many = m; ways = exchange job; last = last_edge job; works = apply_behind job; agg = job.agg; text = job.text.items } in w) many
    ∙ ap (λ (x : ℕ → Exchange). let w : Work = record { many = tasks other; ways = x; last = last_edge job; works = apply_behind job; agg = job.agg; text = job.text.items } in w) ways
    ∙ ap (λ (l : ℕ). let w : Work = record { many = tasks other; ways = exchange other; last = l; works = apply_behind job; agg = job.agg; text = job.text.items } in w) edges
    ∙ ap (λ (f : ℕ → List ℕ → List (List ℕ)). let w : Work = record { many = tasks other; ways = exchange other; last = last_edge other; works = f; agg = job.agg; text = job.text.items } in w) works
    ∙ ap (λ (k : AggKind). let w : Work = record { many = tasks other; ways = exchange other; last = last_edge other; works = apply_behind other; agg = k; text = job.text.items } in w) agg
    ∙ ap (λ (t : List ℕ). let w : Work = record { many = tasks other; ways = exchange other; last = last_edge other; works = apply_behind other; agg = other.agg; text = t } in w) text

-- runs of a task, of what a job does alone
abbrev RunsOf : Work → ℕ → ℕ → List TakeRun → Type 0
RunsOf w e b [] = ⊤
RunsOf w e b (run ∷ []) = IsTrue (HasChannel w e run.from b) × (1 ≤ run.count)
RunsOf w e b (run ∷ other ∷ runs) = IsTrue (HasChannel w e run.from b) × (1 ≤ run.count) × (run.from ≢ other.from) × RunsOf w e b (other ∷ runs)

module _ (job other : Job) (same : work_of job ≡ work_of other) where
  pub fits_too : (image : Image) → Fits job image → Fits other image
  fits_too image f = record {
    offsets = subst (λ (w : Work). length image.offsets.items ≡ w.many 0) same f.offsets;
    ended = subst (λ (w : Work). length image.ended.items ≡ w.many 0) same f.ended;
    emitted = subst (λ (w : Work). length image.emitted.items ≡ length (senders w)) same f.emitted;
    tables = subst (λ (w : Work). length image.tables.items ≡ w.many (suc w.last)) same f.tables;
    takes = subst (λ (w : Work). length image.takes.items ≡ length (receivers w)) same f.takes;
    saved_in = subst (λ (w : Work). length image.saved_in.items ≡ length (channels_of w)) same f.saved_in;
    saved_out = subst (λ (w : Work). length image.saved_out.items ≡ length (channels_of w)) same f.saved_out;
    keys = f.keys;
    runs = subst (λ (w : Work). (e b : ℕ) → e ≤ w.last → b < w.many (suc e) → RunsOf w e b (takes_at w image (suc e) b)) same f.runs;
    spans = subst (λ (w : Work). (e a b : ℕ) → HasChannel w e a b ≡ true → AreSpans (saves w image e a b)) same f.spans;
    last_is_ended = f.last_is_ended;
    last_is_empty = subst (λ (w : Work). image.final_one ≡ true → (e a b : ℕ) → HasChannel w e a b ≡ true → saves w image e a b ≡ []) same f.last_is_empty;
  }

  pub start_too : (image : Image) → IsStart job image → IsStart other image
  start_too image s = record {
    fits = fits_too image s.fits;
    number = s.number;
    text = subst (λ (w : Work). image.text.items ≡ w.text) same s.text;
    not_last = s.not_last;
    offsets = s.offsets;
    ended = s.ended;
    emitted = s.emitted;
    tables = s.tables;
    takes = s.takes;
    saved_in = s.saved_in;
    saved_out = s.saved_out;
  }

  step_too : (lines : ℕ → List (List ℕ)) (old new : Image) → IsStepTo job lines old new → IsStepTo other lines old new
  step_too lines old new s = record {
    rise = subst (λ (w : Work). (a : ℕ) → a < w.many 0 → slice_index old.offsets.items a ≤ slice_index new.offsets.items a) same s.rise;
    within = subst (λ (w : Work). (a : ℕ) → a < w.many 0 → slice_index new.offsets.items a ≤ length (lines a)) same s.within;
    enough = subst (λ (w : Work). (e b : ℕ) → e ≤ w.last → b < w.many (suc e) →
        CanWeave (takes_at w new (suc e) b) (there w lines (cut_at w old) (takes_at w new) (slice_index new.offsets.items) e b (goes_out w lines (cut_at w old) (takes_at w new) (slice_index new.offsets.items) e))) same s.enough;
  }

  cut_too : (lines : ℕ → List (List ℕ)) (old new : Image) → SameCut job (cut_of job new) (cut_after job lines old new) → SameCut other (cut_of other new) (cut_after other lines old new)
  cut_too lines old new s = record {
    offsets = subst (λ (w : Work). (a : ℕ) → a < w.many 0 → (cut_at w new).offsets a ≡ (after w lines old new).offsets a) same s.offsets;
    emitted = subst (λ (w : Work). (i a : ℕ) → i ≤ w.last → a < w.many i → (cut_at w new).emitted i a ≡ (after w lines old new).emitted i a) same s.emitted;
    tables = subst (λ (w : Work). (b : ℕ) → b < w.many (suc w.last) → (cut_at w new).tables b ≡ (after w lines old new).tables b) same s.tables;
    flight = subst (λ (w : Work). (e a b : ℕ) → HasChannel w e a b ≡ true → (cut_at w new).flight e a b ≡ (after w lines old new).flight e a b) same s.flight;
  }

  goes_too : (lines : ℕ → List (List ℕ)) (every : Option ℕ) (old new : Image) → Goes job lines every old new → Goes other lines every old new
  goes_too lines None old new g = record {
    offsets = subst (λ (w : Work). (a : ℕ) → a < w.many 0 → slice_index new.offsets.items a ≡ length (lines a)) same g.offsets;
    ended = g.ended;
    last = g.last;
  }
  goes_too lines (Some interval) old new g = record {
    offsets = subst (λ (w : Work). (a : ℕ) → a < w.many 0 → slice_index new.offsets.items a ≡ min (slice_index old.offsets.items a + interval) (length (lines a))) same g.offsets;
    ended = subst (λ (w : Work). (a : ℕ) → a < w.many 0 → slice_get new.ended.items a ≡ Some (nat_lt (length (lines a)) (slice_index old.offsets.items a + interval))) same g.ended;
    last = g.last;
  }

  pub chain_too : (lines : ℕ → List (List ℕ)) (every : Option ℕ) (base : Image) (images : List Image) → Chain job lines every base images → Chain other lines every base images
  chain_too lines every base [] chain = tt
  chain_too lines every base (image ∷ images) (follows, chain) = (
    record {
      number = follows.number;
      text = subst (λ (w : Work). image.text.items ≡ w.text) same follows.text;
      not_last = follows.not_last;
      fits = fits_too image follows.fits;
      defined = step_too lines base image follows.defined;
      same = cut_too lines base image follows.same;
      goes = goes_too lines every base image follows.goes;
    },
    chain_too lines every image images chain,
  )

  pub still_too : (images : List Image) → AllByRecursion (λ (image : Image). (e a b : ℕ) → is_channel job e a b ≡ true → saved job image e a b ≡ []) images →
      AllByRecursion (λ (image : Image). (e a b : ℕ) → is_channel other e a b ≡ true → saved other image e a b ≡ []) images
  still_too images still = subst (λ (w : Work). AllByRecursion (λ (image : Image). (e a b : ℕ) → HasChannel w e a b ≡ true → saves w image e a b ≡ []) images) same still
