-- Lines that are cut out of pieces and emitted.
use Rattle.std.proofs.Common.{◌≡◌, ℕ, ◌<◌, false, List, [], ◌∷◌, ◌++◌, length, Ok, Err, Result, refl, sym, ap, subst, ◌∙◌, inl, append_assoc, append-nil, arith}
use Rattle.std.specs.Prelude.{MatchResult, OnOk, IfErr}
use Rattle.std.specs.List.{AllByRecursion}
use Rattle.flow_defs.specs.declared.TheConstants.{RECORD_MAX}
use Rattle.flow_defs.specs.declared.job.Job.{Job}
use Rattle.flow_defs.specs.Lines.{lines}
use Rattle.flow_defs.specs.Records.{IsShort}
use Rattle.job_plan.specs.Begun.{IsBegun}
use Rattle.job_plan.specs.Limits.{HasLongLine}
use Rattle.job_plan.proofs.LinesLemmas.{goes_on, long_later, long_begun, last_line}
use Rattle.record_writer.specs.Writers.{HasSeenFault}
use Rattle.task_output.specs.Laws.{SentIsBegun}
use Rattle.source_task.specs.declared.output.LineFault.{LineFault}
use Rattle.source_task.specs.declared.output.LineFault.TheVariants as faults
use Rattle.source_task.specs.declared.output.SourceOutput.{SourceOutput}
use Rattle.source_task.specs.Emitting.{HasEmitted, HasBroken, BrokeAmong, LineEmitted, BreaksFor, is_at_end}
use Rattle.source_task.specs.Cutting.{IsSourceUnderWay, OutputGoesOn, BrokeOff, HasEndedLines, IsLineFault}
use Rattle.source_task.proofs.Taking.{broken_still}

pub none_is : (line : List ℕ) → length line ≡ 0 → line ≡ []
none_is [] is = refl
none_is (b ∷ line) is = absurd (omega (arith, is))

pub all-append : {A : Type 0} (P : A → Type 0) (xs ys : List A) → AllByRecursion P xs → AllByRecursion P ys → AllByRecursion P (xs ++ ys)
all-append P [] ys first second = second
all-append P (x ∷ xs) ys first second = (first.0, all-append P xs ys first.1 second)

module _ (job : Job) (size : ℕ) (out : SourceOutput) (ended : List (List ℕ)) (text : List ℕ) where
  -- it broke off behind lines that had ended
  broke_behind : (more_ended tail : List (List ℕ)) (fault : LineFault) → HasBroken job size out (ended ++ more_ended) [] → AllByRecursion IsShort (ended ++ more_ended) → lines text ≡ more_ended ++ tail → is_at_end out ≡ false → IsLineFault out text fault → BrokeOff job size out ended text fault
  broke_behind more_ended tail fault broken short text_is not_ended fault_is = record {
    done = more_ended;
    begun = [];
    broken = broken;
    short = subst (AllByRecursion IsShort) (sym (append-nil (ended ++ more_ended))) short;
    front = (tail, text_is ∙ ap (λ l. l ++ tail) (sym (append-nil more_ended)));
    not_ended = not_ended;
    fault_is = fault_is;
  }

  -- it broke off at a line
  pub broke_at : (more_ended tail : List (List ℕ)) (line : List ℕ) (fault : LineFault) → AllByRecursion IsShort (ended ++ more_ended) → lines text ≡ more_ended ++ line ∷ tail
      → BrokeAmong job size out (ended ++ more_ended) (line ∷ []) → IsLineFault out text fault → BrokeOff job size out ended text fault
  broke_at more_ended tail line fault short text_is among fault_is = record {
    done = more_ended ++ among.done;
    begun = among.begun;
    broken = subst (λ l. HasBroken job size out l among.begun) (append_assoc ended more_ended among.done) among.broken;
    short = subst (AllByRecursion IsShort) (sym (ap (λ l. l ++ among.begun) (sym (append_assoc ended more_ended among.done)) ∙ append_assoc (ended ++ more_ended) among.done among.begun))
        (all-append IsShort (ended ++ more_ended) (among.done ++ among.begun) short among.short);
    front = (
      among.rest ++ tail,
      text_is ∙ ap (λ l. more_ended ++ (l ++ tail)) among.parts ∙ ap (λ l. more_ended ++ l) (append_assoc among.done (among.begun ++ among.rest) tail ∙ ap (λ l. among.done ++ l) (append_assoc among.begun among.rest tail))
          ∙ sym (append_assoc more_ended among.done (among.begun ++ (among.rest ++ tail))) ∙ sym (append_assoc (more_ended ++ among.done) among.begun (among.rest ++ tail)),
    );
    not_ended = among.not_ended;
    fault_is = fault_is;
  }

  -- why it did
  pub line_fault : (more_ended tail : List (List ℕ)) (line : List ℕ) (fault : LineFault) → lines text ≡ more_ended ++ line ∷ tail → (fault ≡ faults.TooLong → RECORD_MAX < length line) → (fault ≡ faults.Stopped → HasSeenFault out.output.writer) → IsLineFault out text fault
  line_fault more_ended tail line faults.TooLong text_is long stopped = subst HasLongLine (sym text_is) (long_later more_ended (line ∷ tail) (inl (long refl)))
  line_fault more_ended tail line faults.Memory text_is long stopped = tt
  line_fault more_ended tail line faults.Stopped text_is long stopped = stopped refl

-- what is left begins the next line
pub fed_rest : SentIsBegun → (job : Job) (size : ℕ) (out : SourceOutput) → is_at_end out ≡ false → (ended more_ended : List (List ℕ)) (first bytes line rest new : List ℕ) (result : Result Unit LineFault) → IsSourceUnderWay job size out line (ended ++ more_ended)
    → ((more : List ℕ) → lines (first ++ (bytes ++ more)) ≡ more_ended ++ lines (line ++ (rest ++ more))) → IsBegun rest → OnOk result (new ≡ line ++ rest)
    → (result ≡ Err faults.TooLong → RECORD_MAX < length (line ++ rest)) → (result ≡ Err faults.Stopped → ⊥)
    → MatchResult result (λ _. OutputGoesOn job size ended first bytes out new) (λ fault. (more : List ℕ) → BrokeOff job size out ended (first ++ (bytes ++ more)) fault)
fed_rest law job size out not_ended ended more_ended first bytes line rest new (Ok done) way cut begun line_is long never = (
  more_ended,
  record {
    begun = subst IsBegun (sym line_is) (goes_on line way.begun rest begun);
    short = way.short;
    emitted = way.emitted;
  },
  λ more. cut more ∙ ap (λ l. more_ended ++ lines l) (sym (append_assoc line rest more) ∙ ap (λ l. l ++ more) (sym line_is)),
)
fed_rest law job size out not_ended ended more_ended first bytes line rest new (Err faults.TooLong) way cut begun line_is long never = λ more.
    let text_is = cut more ∙ ap (λ l. more_ended ++ lines l) (sym (append_assoc line rest more)) in
    broke_behind job size out ended (first ++ (bytes ++ more)) more_ended (lines ((line ++ rest) ++ more)) faults.TooLong (broken_still law job size out (ended ++ more_ended) way.emitted) way.short text_is not_ended
    (subst HasLongLine (sym text_is) (long_later more_ended (lines ((line ++ rest) ++ more)) (long_begun (line ++ rest) (goes_on line way.begun rest begun) (long refl) more)))
fed_rest law job size out not_ended ended more_ended first bytes line rest new (Err faults.Memory) way cut begun line_is long never = λ more.
    broke_behind job size out ended (first ++ (bytes ++ more)) more_ended (lines (line ++ (rest ++ more))) faults.Memory (broken_still law job size out (ended ++ more_ended) way.emitted) way.short (cut more) not_ended tt
fed_rest law job size out not_ended ended more_ended first bytes line rest new (Err faults.Stopped) way cut begun line_is long never = absurd (never refl)

-- the last line
pub ended_lines : (job : Job) (size : ℕ) (old out : SourceOutput) (ended : List (List ℕ)) (line : List ℕ) (result : Result Unit LineFault) → IsSourceUnderWay job size old line ended → 0 < length line → IsShort line → IfErr result (λ fault. BreaksFor fault out)
    → LineEmitted job size out ended line result → MatchResult result (λ _. HasEndedLines job size out ended line) (λ fault. BrokeOff job size out ended (line ++ []) fault)
ended_lines job size old out ended line (Ok done) way some short breaks emitted =
    let last = last_line line way.begun some in
    record {
      emitted = subst (λ l. HasEmitted job size out (ended ++ l)) (sym last) emitted;
      short = subst (λ l. AllByRecursion IsShort (ended ++ l)) (sym last) (all-append IsShort ended (line ∷ []) way.short (short, tt));
    }
ended_lines job size old out ended line (Err faults.TooLong) way some short breaks emitted = absurd breaks
ended_lines job size old out ended line (Err faults.Memory) way some short breaks emitted =
    broke_at job size out ended (line ++ []) [] [] line faults.Memory (subst (AllByRecursion IsShort) (sym (append-nil ended)) way.short) (last_line line way.begun some)
    (subst (λ l. BrokeAmong job size out l (line ∷ [])) (sym (append-nil ended)) emitted) tt
ended_lines job size old out ended line (Err faults.Stopped) way some short breaks emitted =
    broke_at job size out ended (line ++ []) [] [] line faults.Stopped (subst (AllByRecursion IsShort) (sym (append-nil ended)) way.short) (last_line line way.begun some)
    (subst (λ l. BrokeAmong job size out l (line ∷ [])) (sym (append-nil ended)) emitted) breaks
