-- What was recorded of a checkpoint makes its image the successor of the one before.
use Rattle.std.proofs.Common.{◌≡◌, ℕ, suc, ◌<◌, ◌≤◌, true, cond, List, [], ◌∷◌, ◌++◌, refl, sym, ap, subst, ◌∙◌, arith, inl, inr}
use Rattle.std.specs.Prelude.{slice_index}
use Rattle.std.specs.List.{AllByRecursion}
use Rattle.std.proofs.lemmas.Bool.{cond-true, cond-false, cases_Bool}
use Rattle.flow_defs.specs.declared.job.Job.{Job}
use Rattle.flow_defs.specs.declared.image.Image.{Image}
use Rattle.flow_defs.specs.Records.{IsShort, all_encoded, spans}
use Rattle.flow_defs.specs.Jobs.{last_edge, tasks, is_channel}
use Rattle.flow_defs.specs.Tables.{add_all}
use Rattle.plain_machine.specs.Emitting.{count_after}
use Rattle.plain_machine.specs.Steps.{avail}
use Rattle.plain_machine.specs.Images.{Fits, cut_of, takes_of, saved}
use Rattle.plain_machine.specs.Histories.{of_sender, Ran}
use Rattle.plain_machine.specs.Recorded.{put_on, Recorded, IsSuccessor}
use Rattle.plain_machine.specs.Theorems.{RecordedIsSuccessor}
use Rattle.plain_machine.proofs.Channels.{ends_of}
use Rattle.plain_machine.proofs.SpanLemmas.{spans_of, spans-encoded, Rest, rest_of, encoded-append}
use Rattle.plain_machine.proofs.HistoryLemmas.{is_step_of}

short_both : (xs ys : List (List ℕ)) → AllByRecursion IsShort xs → AllByRecursion IsShort ys → AllByRecursion IsShort (xs ++ ys)
short_both [] ys short more = more
short_both (x ∷ xs) ys short more = (short.0, short_both xs ys short.1 more)

module _ (job : Job) (lines : ℕ → List (List ℕ)) (old new : Image) (took : ℕ → ℕ → List (ℕ × List ℕ)) (put : ℕ → ℕ → List (List ℕ)) (fit : Fits job old) (known : Recorded job lines old new took put) where
  -- what is left of a channel
  pub one_channel : (e a b : ℕ) → is_channel job e a b ≡ true →
      Rest ((cut_of job old).flight e a b ++ put_on job old e a b (put e a)) (of_sender a (took e b)) (saved job new e a b)
  one_channel e a b is =
      let before = fit.spans e a b is in
      let short = known.short e a b is in
      let flight : (cut_of job old).flight e a b ≡ before.0 = spans_of (saved job old e a b) before.0 before.1 in
      let come : all_encoded (before.0 ++ put_on job old e a b (put e a)) ≡ all_encoded (of_sender a (took e b)) ++ saved job new e a b =
      encoded-append before.0 (put_on job old e a b (put e a)) ∙ ap (λ bytes. bytes ++ all_encoded (put_on job old e a b (put e a))) before.1.whole ∙ known.cut e a b is in
      subst (λ rs. Rest (rs ++ put_on job old e a b (put e a)) (of_sender a (took e b)) (saved job new e a b)) (sym flight)
      (rest_of (before.0 ++ put_on job old e a b (put e a)) (of_sender a (took e b)) (saved job new e a b)
      (short_both before.0 (put_on job old e a b (put e a)) before.1.short short.0) short.1 come)

  rest : ℕ → ℕ → ℕ → List (List ℕ)
  rest e a b = cond (is_channel job e a b) (spans (saved job new e a b)) []

  on_each : (e b : ℕ) → e ≤ last_edge job → b < tasks job (suc e) → (a : ℕ) → avail job lines (cut_of job old) (takes_of job new) (slice_index new.offsets.items) e b (put e) a ≡ of_sender a (took e b) ++ rest e a b
  unfolding rest
  on_each e b low h a = elim (cases_Bool (is_channel job e a b)) [
    | inl is ↦ let found = one_channel e a b is in
        cond-true (is_channel job e a b) _ _ is ∙ found.records_are
        ∙ ap (λ xs. of_sender a (took e b) ++ xs) (
        sym (spans-encoded found.rest found.short) ∙ ap spans (sym found.bytes_are)
        ∙ sym (cond-true (is_channel job e a b) (spans (saved job new e a b)) [] is))
    | inr isnt ↦ cond-false (is_channel job e a b) _ _ isnt
        ∙ sym (ap (λ xs. xs ++ rest e a b) (known.apart e a b low h isnt) ∙ cond-false (is_channel job e a b) (spans (saved job new e a b)) [] isnt)
  ]

  ran : Ran job lines (cut_of job old) (takes_of job new) (slice_index new.offsets.items) took put rest
  unfolding rest
  ran = record {
    rise = known.rise;
    within = known.within;
    sources = known.sources;
    stages = known.stages;
    runs = known.runs;
    channels = λ e b low h a. on_each e b low h a;
  }

  pub is_successor : IsSuccessor job lines old new
  unfolding rest
  is_successor =
      let step = is_step_of job lines (cut_of job old) (takes_of job new) (slice_index new.offsets.items) took put rest ran in
      record {
        defined = step.defined;
        same = record {
          offsets = λ a _. refl;
          emitted = λ i a low h. known.counts i a low h ∙ ap (count_after ((cut_of job old).emitted i a)) (sym (step.sent_is i a low h));
          tables = λ b h. known.tables b h ∙ ap (add_all job.agg ((cut_of job old).tables b)) (sym (step.taken_is (last_edge job) b (omega arith) h));
          flight = λ e a b is. let ends = ends_of job e a b is in sym (step.left_is e a b ends.edge ends.receiver ∙ cond-true (is_channel job e a b) (spans (saved job new e a b)) [] is);
        };
        spans = λ e a b is.
            let found = one_channel e a b is in
            (found.rest, record { whole = sym found.bytes_are; short = found.short });
      }

pub recorded_is_successor : RecordedIsSuccessor
recorded_is_successor = is_successor
