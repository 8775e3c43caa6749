-- The account of a source.
use Rattle.std.proofs.Common.{◌≡◌, ◌≢◌, ℕ, suc, ◌+◌, ◌<◌, ◌≤◌, true, false, true≢false, List, [], ◌++◌, length, take, drop, Option, Some, None, IfSome, refl, sym, ap, subst, ◌∙◌, inl, inr, append_assoc, append-nil, arith}
use Rattle.std.specs.Prelude.{⊤}
use Rattle.std.specs.List.{AllByRecursion}
use Rattle.std.proofs.lemmas.List.{take-append-drop, length-drop}
use Rattle.turn_cell.specs.History.{StartsWith}
use Rattle.turn_cell.specs.Passes.{seen}
use Rattle.flow_defs.specs.declared.cause.Cause.{Cause}
use Rattle.flow_defs.specs.declared.cause.Cause.TheVariants as causes
use Rattle.flow_defs.specs.declared.job.Job.{Job}
use Rattle.flow_defs.specs.Lines.{lines}
use Rattle.flow_defs.specs.Records.{IsShort}
use Rattle.job_start.specs.Starts.{was_ended}
use Rattle.outside.specs.Faults.{HasRisen}
use Rattle.outside.specs.Told.{Reads}
use Rattle.job_plan.specs.Limits.{HasLongLine}
use Rattle.job_plan.specs.declared.limits.TheConstants.{SOURCE_MAX}
use Rattle.job_plan.proofs.LinesLemmas.{long_later, none_begun}
use Rattle.record_writer.specs.Writers.{HasSeenFault}
use Rattle.snapshot_channel.specs.Passes.{sent_by}
use Rattle.snapshot_channel.specs.Snapshots.{has_ended}
use Rattle.task_output.specs.Acking.{base_of}
use Rattle.task_output.specs.Outputs.{all_of}
use Rattle.task_output.specs.Laws.{SentIsBegun, FinishedIsBegun}
use Rattle.task_output.specs.Waiting.{HasWaited, MayEnd}
use Rattle.task_output.proofs.Begun.{begun_where}
use Rattle.source_task.specs.declared.output.LineFault.{LineFault}
use Rattle.source_task.specs.declared.output.LineFault.TheVariants as faults
use Rattle.source_task.specs.declared.output.SourceOutput.{SourceOutput}
use Rattle.source_task.specs.Emitting.{HasEmitted, HasBroken, HasEnded, start_of, from_in, is_at_end}
use Rattle.source_task.specs.Cutting.{IsSourceUnderWay, OutputGoesOn, BrokeOff, IsLineFault, cause_of_line}
use Rattle.source_task.specs.Sources.{SourceAccount, SourceEnd, IsSourceCause, EndedAs, EndedBehind}
use Rattle.source_task.proofs.Behind.{drop_none, starts_behind, all_behind, none_first}
use Rattle.source_task.proofs.Emitting.{was_not}
use Rattle.source_task.proofs.Snapshots.{or_second}
use Rattle.source_task.proofs.Taking.{broken_still}

-- no line follows
abbrev no_lines : List (List ℕ)
no_lines = []

-- some lines have ended in what was read, so many bytes, and the lines of what is left of all follow them
abbrev pub IsOnWay : Job → ℕ → Option (List ℕ) → Option (List ℕ) → ℕ → SourceOutput → List ℕ → Type 0
IsOnWay job size start left taken out line = (ended : List (List ℕ)) × IsSourceUnderWay job size out line ended
    × IfSome start (λ all. (rest : List ℕ) × (left ≡ Some rest) × (taken + length rest ≡ length all) × (lines all ≡ ended ++ lines (line ++ rest)))

-- at the beginning nothing was read
pub at_start : (job : Job) (size : ℕ) (start : Option (List ℕ)) (out : SourceOutput) (line : List ℕ) → HasEmitted job size out [] → line ≡ [] → IsOnWay job size start start 0 out line
at_start job size start out line emitted none = ([], record { begun = rw none none_begun; short = tt; emitted = emitted }, told start)
  where
    told : (s : Option (List ℕ)) → IfSome s (λ all. (rest : List ℕ) × (s ≡ Some rest) × (0 + length rest ≡ length all) × (lines all ≡ [] ++ lines (line ++ rest)))
    told None = tt
    told (Some all) = (all, refl, omega arith, ap (λ (k : List ℕ). lines (k ++ all)) (sym none))

-- what a read gave, and what is left then, are what was left before
joined : (rest room : List ℕ) (count : ℕ) (after : Option (List ℕ)) → Reads rest count room after → take count room ++ drop count rest ≡ rest
joined rest room count after reads = ap (λ (l : List ℕ). l ++ drop count rest) reads.front ∙ take-append-drop count rest

pub risen_most : (first before after : ℕ) → first ≤ before → before ≤ after → first ≤ after
risen_most first before after one two = omega (arith, one, two)

module _ (law : SentIsBegun) (over : FinishedIsBegun) (job : Job) (size : ℕ) (fell rose : ℕ) (never_falls : fell ≤ rose) where
  stopped_other : (a : ℕ) (fault : LineFault) (out : SourceOutput) (text : List ℕ) → IsLineFault out text fault → cause_of_line a fault ≡ causes.Stopped → HasSeenFault out.output.writer
  stopped_other a faults.TooLong out text fault_is is = absurd (cc)
  stopped_other a faults.Memory out text fault_is is = absurd (cc)
  stopped_other a faults.Stopped out text fault_is is = fault_is

  not_done : (a : ℕ) (fault : LineFault) → cause_of_line a fault ≢ causes.Done
  not_done a faults.TooLong = λ is. cc
  not_done a faults.Memory = λ is. cc
  not_done a faults.Stopped = λ is. cc

  line_cause : (a : ℕ) (fault : LineFault) (out : SourceOutput) (start : Option (List ℕ)) (ended : List (List ℕ)) (text : List ℕ) → IsLineFault out text fault → IfSome start (λ all. lines all ≡ ended ++ lines text) → IsSourceCause a start fell rose (cause_of_line a fault)
  line_cause a faults.TooLong out None ended text fault_is told = (refl, tt)
  line_cause a faults.TooLong out (Some all) ended text fault_is told = (refl, subst HasLongLine (sym told) (long_later ended (lines text) fault_is))
  line_cause a faults.Memory out start ended text fault_is told = tt
  line_cause a faults.Stopped out start ended text fault_is told = tt

  -- what is told of the input, where these lines were read, those behind the start are the emitted ones, and there are no more of them
  module _ (out : SourceOutput) (read emitted : List (List ℕ)) (same : emitted ≡ drop (from_in job out).offset read) where
    front_of : (s : Option (List ℕ)) → IfSome s (λ all. StartsWith (lines all) read) → IfSome s (λ all. StartsWith (drop (from_in job out).offset (lines all)) emitted)
    front_of None on = tt
    front_of (Some all) on = subst (λ l. StartsWith (drop (from_in job out).offset (lines all)) l) (sym same) (starts_behind (from_in job out).offset (lines all) read on)

    whole_of : {xs : List (List ℕ)} (s : Option (List ℕ)) → IfSome s (λ all. lines all ≡ read) → xs ≡ emitted → IfSome s (λ all. drop (from_in job out).offset (lines all) ≡ xs)
    whole_of None on is = tt
    whole_of (Some all) on is = ap (λ l. drop (from_in job out).offset l) on ∙ sym same ∙ sym is

    short_of : AllByRecursion IsShort read → AllByRecursion IsShort emitted
    short_of short = subst (AllByRecursion IsShort) (sym same) (all_behind IsShort (from_in job out).offset read short)

    none_of : read ≡ [] → emitted ≡ []
    none_of none = same ∙ ap (λ l. drop (from_in job out).offset l) none ∙ drop_none (from_in job out).offset

  -- it broke off behind these lines, with those begun
  broke : (out : SourceOutput) (left : Option (List ℕ)) (read begun : List (List ℕ)) (cause : Cause) → HasBroken job size out read begun → AllByRecursion IsShort (read ++ begun) → IfSome left (λ all. StartsWith (lines all) (read ++ begun))
      → (is_at_end out ≡ true → was_ended (start_of out) out.index ≡ false → IfSome left (λ all. lines all ≡ read ++ begun)) → (was_ended (start_of out) out.index ≡ true → read ++ begun ≡ []) → cause ≢ causes.Done → IsSourceCause out.index left fell rose cause
      → SourceAccount job out.index size (start_of out) out.every out.output.writer.passes (sent_by out.acks.pass) (seen out.acks.last_pass) left fell rose cause
  broke out left read begun cause broken short front whole still other cause_is =
      let was = was_ended (start_of out) out.index in
      let emitted = all_of broken.groups ++ (broken.rest ++ begun) in
      record {
        groups = broken.groups;
        rest = broken.rest;
        begun = begun;
        snapshots = broken.snapshots;
        put = broken.begun_them.each;
        short = short_of out (read ++ begun) emitted broken.all_are short;
        front = front_of out (read ++ begun) emitted broken.all_are left front;
        at_end = broken.at_end;
        whole = λ is not.
            let ended = or_second was (has_ended false (sent_by out.acks.pass)) is in
            whole_of out (read ++ begun) emitted broken.all_are left (whole ended not) (sym (append-nil (all_of broken.groups)) ∙ ap (λ l. all_of broken.groups ++ l) (sym (broken.at_end ended)));
        still = λ is. none_first (all_of broken.groups) (broken.rest ++ begun) (none_of out (read ++ begun) emitted broken.all_are (still is));
        done = λ is. absurd (other is);
        within = λ is. absurd (other is);
        never_falls = never_falls;
        cause_is = cause_is;
      }

  -- it ended its channels behind these lines
  finished : (out : SourceOutput) (left : Option (List ℕ)) (read : List (List ℕ)) → HasEnded job size out read → AllByRecursion IsShort read → IfSome left (λ all. StartsWith (lines all) read)
      → (was_ended (start_of out) out.index ≡ false → IfSome left (λ all. lines all ≡ read)) → (was_ended (start_of out) out.index ≡ true → read ≡ []) → (was_ended (start_of out) out.index ≡ false → IfSome left (λ all. length all ≤ SOURCE_MAX))
      → SourceAccount job out.index size (start_of out) out.every out.output.writer.passes (sent_by out.acks.pass) (seen out.acks.last_pass) left fell rose causes.Done
  finished out left read ended short front whole still within =
      let base = base_of (start_of out) in
      let from = (from_in job out).emitted in
      let emitted = all_of ended.groups ++ no_lines in
      let same : emitted ≡ drop (from_in job out).offset read = append-nil (all_of ended.groups) ∙ ended.all_are in
      record {
        groups = ended.groups;
        rest = [];
        begun = [];
        snapshots = ended.snapshots;
        put = (begun_where ⊥ (HasWaited base (suc (length ended.groups)) (seen out.acks.last_pass)) ⊤ (MayEnd base out.every (seen out.acks.last_pass) ended.groups no_lines) (λ no. absurd no) (λ _. (ended.last, refl))
            from job 0 out.index size out.output ended.groups [] [] (over from job 0 out.index size out.output ended.groups [] ended.finished)).each;
        short = short_of out read emitted same short;
        front = front_of out read emitted same left front;
        at_end = λ is. refl;
        whole = λ is not. whole_of out read emitted same left (whole not) (sym (append-nil (all_of ended.groups)));
        still = λ is. none_first (all_of ended.groups) no_lines (none_of out read emitted same (still is));
        done = λ is. (ended.ended, ended.last, ended.finished.each);
        within = λ is. within;
        never_falls = never_falls;
        cause_is = tt;
      }

  -- it was to read no more
  ended_behind : (out : SourceOutput) (left : Option (List ℕ)) (read : List (List ℕ)) (cause : Cause) → EndedBehind job size out read cause → AllByRecursion IsShort read → IfSome left (λ all. StartsWith (lines all) read)
      → (was_ended (start_of out) out.index ≡ false → IfSome left (λ all. lines all ≡ read)) → (was_ended (start_of out) out.index ≡ true → read ≡ []) → (was_ended (start_of out) out.index ≡ false → IfSome left (λ all. length all ≤ SOURCE_MAX))
      → SourceEnd job size out left fell rose cause
  ended_behind out left read cause behind short front whole still within = elim behind [
    | inl done ↦ subst (SourceEnd job size out left fell rose) (sym done.0) (record { account = finished out left read done.1 short front whole still within; stopped = λ is. absurd (done_not_stopped is) })
    | inr broken ↦ record {
      account = broke out left read [] cause broken.3 (subst (AllByRecursion IsShort) none short) (subst (λ l. IfSome left (λ all. StartsWith (lines all) l)) none front)
          (λ ended not. subst (λ l. IfSome left (λ all. lines all ≡ l)) none (whole not)) (λ is. sym none ∙ still is) broken.0
          (elim broken.2 [ inl memory ↦ subst (IsSourceCause out.index left fell rose) (sym memory) tt | inr stopped ↦ subst (IsSourceCause out.index left fell rose) (sym stopped) tt ]);
      stopped = broken.1;
    }
  ]
    where
      done_not_stopped : causes.Done ≢ causes.Stopped
      done_not_stopped = λ is. cc

      none : read ≡ read ++ []
      none = sym (append-nil read)

  -- it was at its end at the start, and read nothing
  pub ended_before : (out : SourceOutput) (left : Option (List ℕ)) (cause : Cause) → was_ended (start_of out) out.index ≡ true → EndedBehind job size out [] cause → SourceEnd job size out left fell rose cause
  ended_before out left cause was behind = ended_behind out left [] cause behind tt (any left) (λ not. absurd (true≢false (sym was ∙ not))) (λ is. refl) (λ not. absurd (true≢false (sym was ∙ not)))
    where
      any : (s : Option (List ℕ)) → IfSome s (λ all. StartsWith (lines all) [])
      any None = tt
      any (Some all) = (lines all, refl)

  -- it broke off among the lines of this text
  broke_text : (out : SourceOutput) (a : ℕ) (start : Option (List ℕ)) (ended : List (List ℕ)) (text : List ℕ) (fault : LineFault) → out.index ≡ a → IfSome start (λ all. lines all ≡ ended ++ lines text) → BrokeOff job size out ended text fault → SourceEnd job size out start fell rose (cause_of_line a fault)
  broke_text out a start ended text fault index told off = record {
    account = broke out start (ended ++ off.done) off.begun (cause_of_line a fault) off.broken off.short (begins start told) (λ is. absurd (true≢false (sym is ∙ off.not_ended))) (λ is. absurd (not_before is)) (not_done a fault)
        (subst (λ n. IsSourceCause n start fell rose (cause_of_line a fault)) (sym index) (line_cause a fault out start ended text off.fault_is told));
    stopped = stopped_other a fault out text off.fault_is;
  }
    where
      not_before : was_ended (start_of out) out.index ≡ true → ⊥
      not_before is = true≢false (sym is ∙ was_not (was_ended (start_of out) out.index) (sent_by out.acks.pass) off.not_ended)

      begins : (s : Option (List ℕ)) → IfSome s (λ all. lines all ≡ ended ++ lines text) → IfSome s (λ all. StartsWith (lines all) ((ended ++ off.done) ++ off.begun))
      begins None on = tt
      begins (Some all) on = (
        off.front.0,
        on ∙ ap (λ l. ended ++ l) (off.front.1 ∙ append_assoc off.done off.begun off.front.0) ∙ sym (append_assoc ended off.done (off.begun ++ off.front.0)) ∙ sym (append_assoc (ended ++ off.done) off.begun off.front.0),
      )

  module _ (start before after : Option (List ℕ)) (taken count : ℕ) (room : List ℕ) (told : IfSome before (λ bytes. Reads bytes count room after)) (old : SourceOutput) (line : List ℕ) (way : IsOnWay job size start before taken old line) where
    abbrev On : Option (List ℕ) → Type 0
    On s = IfSome s (λ all. (rest : List ℕ) × (before ≡ Some rest) × (taken + length rest ≡ length all) × (lines all ≡ way.0 ++ lines (line ++ rest)))

    -- a read's lines were taken
    pub read_on : (new : SourceOutput) (line' : List ℕ) → OutputGoesOn job size way.0 line (take count room) new line' → IsOnWay job size start after (taken + count) new line'
    read_on new line' more = (way.0 ++ more.0, more.1, told_on start way.2)
      where
        told_on : (s : Option (List ℕ)) → On s → IfSome s (λ all. (rest : List ℕ) × (after ≡ Some rest) × (taken + count + length rest ≡ length all) × (lines all ≡ (way.0 ++ more.0) ++ lines (line' ++ rest)))
        told_on None on = tt
        told_on (Some all) on =
            let rest = on.0 in
            let reads = rw on.1 at told in (
              drop count rest,
              reads.rest,
              omega (arith, on.2, reads.within, length-drop count rest),
              on.3 ∙ ap (λ (l : List ℕ). way.0 ++ lines (line ++ l)) (sym (joined rest room count after reads))
                  ∙ ap (λ (l : List (List ℕ)). way.0 ++ l) (more.2 (drop count rest))
                  ∙ sym (append_assoc way.0 more.0 (lines (line' ++ drop count rest))),
            )

    -- it broke off among them
    pub read_broke : (out : SourceOutput) (a : ℕ) (fault : LineFault) → out.index ≡ a → ((more : List ℕ) → BrokeOff job size out way.0 (line ++ (take count room ++ more)) fault) → SourceEnd job size out start fell rose (cause_of_line a fault)
    read_broke out a fault index off = told_broke start way.2
      where
        told_broke : (s : Option (List ℕ)) → On s → SourceEnd job size out s fell rose (cause_of_line a fault)
        told_broke None on = broke_text out a None way.0 (line ++ (take count room ++ [])) fault index tt (off [])
        told_broke (Some all) on =
            let rest = on.0 in
            let reads = rw on.1 at told in
            broke_text out a (Some all) way.0 (line ++ (take count room ++ drop count rest)) fault index
            (on.3 ∙ ap (λ (l : List ℕ). way.0 ++ lines (line ++ l)) (sym (joined rest room count after reads)))
            (off (drop count rest))

  -- nothing was left
  pub read_ended : (start before after : Option (List ℕ)) (taken : ℕ) (room : List ℕ) (old out : SourceOutput) (a : ℕ) (line : List ℕ) (cause : Cause) → out.index ≡ a → was_ended (start_of out) out.index ≡ false → IfSome before (λ bytes. Reads bytes 0 room after) → taken ≤ SOURCE_MAX
      → (way : IsOnWay job size start before taken old line) → EndedAs job size out way.0 line a cause → SourceEnd job size out start fell rose cause
  read_ended start before after taken room old out a line cause index not told few way ended = elim ended [
    | inl behind ↦ ended_behind out start (way.0 ++ lines (line ++ [])) cause behind.1 behind.0 (begins start (all_of_it start way.2)) (λ _. all_of_it start way.2) (λ is. absurd (not_before is)) (λ _. within_of start way.2)
    | inr off ↦ subst (SourceEnd job size out start fell rose) (sym off.1) (broke_text out a start way.0 (line ++ []) off.0 index (all_of_it start way.2) off.2)
  ]
    where
      not_before : was_ended (start_of out) out.index ≡ true → ⊥
      not_before is = true≢false (sym is ∙ not)

      nothing : (rest : List ℕ) → before ≡ Some rest → rest ≡ []
      nothing rest is = let reads = rw is at told in reads.ended refl

      all_of_it : (s : Option (List ℕ)) → IfSome s (λ all. (rest : List ℕ) × (before ≡ Some rest) × (taken + length rest ≡ length all) × (lines all ≡ way.0 ++ lines (line ++ rest))) → IfSome s (λ all. lines all ≡ way.0 ++ lines (line ++ []))
      all_of_it None on = tt
      all_of_it (Some all) on = on.3 ∙ ap (λ (l : List ℕ). way.0 ++ lines (line ++ l)) (nothing on.0 on.1)

      begins : (s : Option (List ℕ)) → IfSome s (λ all. lines all ≡ way.0 ++ lines (line ++ [])) → IfSome s (λ all. StartsWith (lines all) (way.0 ++ lines (line ++ [])))
      begins None on = tt
      begins (Some all) on = ([], on ∙ sym (append-nil (way.0 ++ lines (line ++ []))))

      within_of : (s : Option (List ℕ)) → IfSome s (λ all. (rest : List ℕ) × (before ≡ Some rest) × (taken + length rest ≡ length all) × (lines all ≡ way.0 ++ lines (line ++ rest))) → IfSome s (λ all. length all ≤ SOURCE_MAX)
      within_of None on = tt
      within_of (Some all) on = let len : length on.0 ≡ 0 = ap length (nothing on.0 on.1) in omega (arith, on.2, len, few)

  -- it goes no further, with a cause that is its own
  goes_no_further : (start left : Option (List ℕ)) (taken : ℕ) (out : SourceOutput) (line : List ℕ) (cause : Cause) → is_at_end out ≡ false → IsOnWay job size start left taken out line → cause ≢ causes.Done → cause ≢ causes.Stopped → IsSourceCause out.index start fell rose cause → SourceEnd job size out start fell rose cause
  goes_no_further start left taken out line cause not_ended way other calm cause_is = record {
    account = broke out start way.0 [] cause (broken_still law job size out way.0 way.1.emitted) (subst (AllByRecursion IsShort) (sym (append-nil way.0)) way.1.short) (begins start way.2) (λ is. absurd (true≢false (sym is ∙ not_ended))) (λ is. absurd (not_before is)) other cause_is;
    stopped = λ is. absurd (calm is);
  }
    where
      not_before : was_ended (start_of out) out.index ≡ true → ⊥
      not_before is = true≢false (sym is ∙ was_not (was_ended (start_of out) out.index) (sent_by out.acks.pass) not_ended)

      begins : (s : Option (List ℕ)) → IfSome s (λ all. (rest : List ℕ) × (left ≡ Some rest) × (taken + length rest ≡ length all) × (lines all ≡ way.0 ++ lines (line ++ rest))) → IfSome s (λ all. StartsWith (lines all) (way.0 ++ []))
      begins None on = tt
      begins (Some all) on = (lines (line ++ on.0), on.3 ∙ ap (λ l. l ++ lines (line ++ on.0)) (sym (append-nil way.0)))

  pub read_failed : (start left : Option (List ℕ)) (taken : ℕ) (out : SourceOutput) (a : ℕ) (line : List ℕ) → out.index ≡ a → is_at_end out ≡ false → IsOnWay job size start left taken out line → HasRisen fell rose → SourceEnd job size out start fell rose (causes.Input a)
  read_failed start left taken out a line index not_ended way risen = goes_no_further start left taken out line (causes.Input a) not_ended way (λ is. cc) (λ is. cc) (sym index, risen)

  pub read_much : (start left : Option (List ℕ)) (taken : ℕ) (out : SourceOutput) (a : ℕ) (line : List ℕ) → out.index ≡ a → is_at_end out ≡ false → IsOnWay job size start left taken out line → SOURCE_MAX < taken → SourceEnd job size out start fell rose (causes.BigSource a)
  read_much start left taken out a line index not_ended way much = goes_no_further start left taken out line (causes.BigSource a) not_ended way (λ is. cc) (λ is. cc) (sym index, big start way.2)
    where
      big : (s : Option (List ℕ)) → IfSome s (λ all. (rest : List ℕ) × (left ≡ Some rest) × (taken + length rest ≡ length all) × (lines all ≡ way.0 ++ lines (line ++ rest))) → IfSome s (λ all. SOURCE_MAX < length all)
      big None on = tt
      big (Some all) on = omega (arith, on.2, much)
