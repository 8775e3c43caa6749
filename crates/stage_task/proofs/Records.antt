-- A stage emits what it gives for a record.
use Rattle.std.proofs.Common.{◌≡◌, Bor, ◌≤◌, ℕ, zero, suc, ◌<◌, List, [], ◌∷◌, ◌++◌, length, get_or, Option, Some, refl, sym, ap, subst, ◌∙◌, inl, inr, append-nil, arith}
use Rattle.std.specs.Prelude.{flat_map, slice_get}
use Rattle.std.specs.Option.{option_map_or}
use Rattle.std.specs.List.{AllByRecursion}
use Rattle.std.proofs.lemmas.Grind.{flat_map-append}
use Rattle.std.proofs.lemmas.List.{map-append}
use Rattle.flow_defs.specs.declared.cause.Cause.TheVariants as causes
use Rattle.flow_defs.specs.declared.job.Job.{Job}
use Rattle.flow_defs.specs.declared.job.Stage.{Stage}
use Rattle.flow_defs.specs.Records.{IsShort}
use Rattle.flow_defs.specs.Stages.{apply}
use Rattle.plain_machine.specs.Emitting.{apply_behind}
use Rattle.plain_machine.specs.Histories.{records}
use Rattle.checkpoint_laws.specs.Chapters.{applied}
use Rattle.task_output.specs.Outputs.{Output, HasSent, HasBegun, StoppedAmong}
use Rattle.task_output.specs.Laws.{SentIsBegun}
use Rattle.stage_task.specs.Applying.{EndedAmong}

-- records no longer than a short one are short
pub all_short : (r : List ℕ) (made : List (List ℕ)) → IsShort r → AllByRecursion (λ m. length m ≤ length r) made → AllByRecursion IsShort made
all_short r [] short shorter = tt
all_short r (m ∷ made) short shorter = (omega (arith, short, shorter.0), all_short r made short shorter.1)

module _ (from : ℕ) (job : Job) (e a size : ℕ) (out : Output) (groups : List (List (List ℕ))) (records given : List (List ℕ)) where
  pub emitted_among : (given' : List (List ℕ)) → given' ≡ given → StoppedAmong from job e a size out groups records given' → EndedAmong from job e a size out groups records given causes.Stopped
  emitted_among given' same was = record {
    done = was.done;
    begun = was.begun;
    rest = was.rest;
    parts = sym same ∙ was.parts;
    begun_them = was.stopped.begun_them;
    cause_is = inr (refl, was.stopped.fault);
  }

pub emitted_none : SentIsBegun → (from : ℕ) (job : Job) (e a size : ℕ) (out : Output) (groups : List (List (List ℕ))) (records given : List (List ℕ)) → HasSent from job e a size out groups records → EndedAmong from job e a size out groups records given causes.Memory
emitted_none law from job e a size out groups records given was = record {
  done = [];
  begun = [];
  rest = given;
  parts = refl;
  begun_them = subst (λ (l : List (List ℕ)). HasBegun from job e a size out groups l [] ⊥ ⊥) (sym (append-nil records)) (law from job e a size out groups records was);
  cause_is = inl refl;
}

-- ---- the stage behind an edge

found : {A : Type 0} (xs : List A) (i : ℕ) (x : A) → i < length xs → x ≡ get_or xs i x → slice_get xs i ≡ Some x
found [] i x within is = absurd (omega (arith, within))
found (y ∷ xs) zero x within is = ap Some (sym is)
found (y ∷ xs) (suc i) x within is = found xs i x (omega (arith, within)) is

-- the stage that stands at a place is applied behind the edge of that place
pub applied_behind : (job : Job) (e : ℕ) (stages : List Stage) (stage : Stage) (r line : List ℕ) → stages ≡ job.stages.items → e < length stages → stage ≡ get_or stages e stage → r ≡ line → apply stage r ≡ apply_behind job e line
applied_behind job e stages stage r line stages_are within is same =
    ap (apply stage) same ∙ ap (λ (o : Option Stage). option_map_or (λ (s : Stage). apply s line) o []) (sym (found stages e stage within is) ∙ ap (λ (l : List Stage). slice_get l e) stages_are)

-- one record more was taken
pub applied_line : (job : Job) (e : ℕ) (took : List (ℕ × List ℕ)) (sender : ℕ) (line : List ℕ) → applied job e (took ++ (sender, line) ∷ []) ≡ applied job e took ++ apply_behind job e line
applied_line job e took sender line =
    ap (flat_map (apply_behind job e)) (map-append (λ (t : ℕ × List ℕ). t.1) took ((sender, line) ∷ []))
    ∙ flat_map-append (apply_behind job e) (records took) (line ∷ [])
    ∙ ap (λ l. applied job e took ++ l) (append-nil (apply_behind job e line))

-- by other names of its job and its edge
pub gives_there : (job job' : Bor Job) (e e' : ℕ) (made : List (List ℕ)) (line : List ℕ) → job' ≡ job → e' ≡ e → made ≡ apply_behind job.now e line → made ≡ apply_behind job'.now e' line
gives_there job job' e e' made line one two gives = gives ∙ ap (λ (j : Bor Job). apply_behind j.now e line) (sym one) ∙ ap (λ n. apply_behind job'.now n line) (sym two)
