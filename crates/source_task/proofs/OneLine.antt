-- A source reads a line.
use Rattle.std.proofs.Common.{◌≡◌, ℕ, suc, ◌+◌, true, false, List, [], ◌∷◌, ◌++◌, length, drop, refl, sym, ap, subst, ◌∙◌, append_assoc, append-nil, arith}
use Rattle.std.proofs.lemmas.List.{length-append, drop-append-le, drop_all}
use Rattle.turn_cell.specs.Passes.{seen}
use Rattle.flow_defs.specs.declared.job.Job.{Job}
use Rattle.flow_defs.specs.Records.{IsShort}
use Rattle.task_output.specs.Acking.{base_of}
use Rattle.task_output.specs.Outputs.{Output, HasSent, HasStopped, all_of}
use Rattle.task_output.specs.Laws.{SentIsBegun}
use Rattle.task_output.specs.Waiting.{HasWaited, MayEnd}
use Rattle.task_output.proofs.Begun.{begun_where}
use Rattle.source_task.specs.declared.output.SourceOutput.{SourceOutput}
use Rattle.source_task.specs.Emitting.{HasEmitted, HasBroken, BrokeAmong, IsSource, start_of, from_in, is_at_end}
use Rattle.source_task.proofs.Taking.{broken_still}

-- ---- it was read before the start

module _ (out : SourceOutput) (line : List ℕ) (less : ℕ) (one : out.skip ≡ less + 1) where
  abbrev left_out : SourceOutput
  left_out = record out { skip = less }

  pub line_left_out : (job : Job) (size : ℕ) (lines : List (List ℕ)) → HasEmitted job size out lines → HasEmitted job size left_out (lines ++ line ∷ [])
  line_left_out job size lines was =
      let from = from_in job out in
      let many = length-append lines (line ∷ []) in
      record {
        groups = was.groups;
        rest = was.rest;
        all_are = was.all_are ∙ drop_all from.offset lines (omega (arith, one, was.skip_is)) ∙ sym (drop_all from.offset (lines ++ line ∷ []) (omega (arith, one, was.skip_is, many)));
        sent = was.sent;
        snapshots = was.snapshots;
        offset_is = was.offset_is;
        skip_is = omega (arith, one, was.skip_is, many);
        since_is = was.since_is;
        at_end = was.at_end;
      }

  pub source_left_out : IsSource out → IsSource left_out
  source_left_out source = record {
    job = source.job;
    size = source.size;
    lines = source.lines ++ line ∷ [];
    emitted = line_left_out source.job source.size source.lines source.emitted;
    own = record { passes = source.own.passes; task = source.own.task; waited = source.own.waited };
    every_is = source.every_is;
  }

-- ---- it comes behind those

module _ (out : SourceOutput) (line : List ℕ) (short : IsShort line) (not_ended : is_at_end out ≡ false) (none : out.skip ≡ 0) where
  never : {A : Type 0} → is_at_end out ≡ true → A
  never is = absurd (cc)

  -- so it is one more of the lines behind the start
  one_more : (job : Job) (size : ℕ) (lines : List (List ℕ)) (was : HasEmitted job size out lines) → all_of was.groups ++ (was.rest ++ line ∷ []) ≡ drop (from_in job out).offset (lines ++ line ∷ [])
  one_more job size lines was =
      sym (append_assoc (all_of was.groups) was.rest (line ∷ [])) ∙ ap (λ l. l ++ line ∷ []) was.all_are ∙ sym (drop-append-le (from_in job out).offset lines (line ∷ []) (omega (arith, none, was.skip_is)))

  -- it was emitted
  module _ (o : Output) (offset since : ℕ) (one : offset ≡ out.offset + 1) (one_since : since ≡ out.since + 1) where
    abbrev after : SourceOutput
    after = record out { output = o; offset = offset; since = since }

    pub line_emitted : (job : Job) (size : ℕ) (lines : List (List ℕ)) (was : HasEmitted job size out lines) → HasSent (from_in job out).emitted job 0 out.index size o was.groups (was.rest ++ line ∷ []) → HasEmitted job size after (lines ++ line ∷ [])
    line_emitted job size lines was sent =
        let behind : length (all_of was.groups ++ (was.rest ++ line ∷ [])) ≡ length (all_of was.groups ++ was.rest) + 1
        = ap length (sym (append_assoc (all_of was.groups) was.rest (line ∷ []))) ∙ length-append (all_of was.groups ++ was.rest) (line ∷ []) in
        record {
          groups = was.groups;
          rest = was.rest ++ line ∷ [];
          all_are = one_more job size lines was;
          sent = sent;
          snapshots = was.snapshots;
          offset_is = one ∙ omega (arith, was.offset_is, behind);
          skip_is = omega (arith, none, was.skip_is, length-append lines (line ∷ []));
          since_is = one_since ∙ omega (arith, was.since_is, length-append was.rest (line ∷ []));
          at_end = never;
        }

    pub line_source : (source : IsSource out) → HasSent (from_in source.job out).emitted source.job 0 out.index source.size o source.emitted.groups (source.emitted.rest ++ line ∷ []) → IsSource after
    line_source source sent = record {
      job = source.job;
      size = source.size;
      lines = source.lines ++ line ∷ [];
      emitted = line_emitted source.job source.size source.lines source.emitted sent;
      own = record { passes = source.own.passes; task = source.own.task; waited = source.own.waited };
      every_is = source.every_is;
    }

  -- it was stopped on it
  pub line_stopped : (o : Output) (job : Job) (size : ℕ) (lines : List (List ℕ)) (was : HasEmitted job size out lines) → HasStopped (from_in job out).emitted job 0 out.index size o was.groups was.rest (line ∷ []) ⊥ ⊥ → BrokeAmong job size (record out { output = o }) lines (line ∷ [])
  line_stopped o job size lines was stopped =
      let base = base_of (start_of out) in
      record {
        done = [];
        begun = line ∷ [];
        rest = [];
        parts = refl;
        short = (short, tt);
        not_ended = not_ended;
        broken = record {
          groups = was.groups;
          rest = was.rest;
          all_are = one_more job size lines was ∙ ap (λ l. drop (from_in job out).offset (l ++ line ∷ [])) (sym (append-nil lines));
          begun_them = begun_where ⊥ (HasWaited base (suc (length was.groups)) (seen out.acks.last_pass)) ⊥ (MayEnd base out.every (seen out.acks.last_pass) was.groups (was.rest ++ line ∷ [])) (λ no. absurd no) (λ no. absurd no)
              (from_in job out).emitted job 0 out.index size o was.groups was.rest (line ∷ []) stopped.begun_them;
          snapshots = was.snapshots;
          at_end = never;
        };
      }

-- it broke off before it
pub before_line : SentIsBegun → (job : Job) (size : ℕ) (out : SourceOutput) (lines : List (List ℕ)) (line : List ℕ) → is_at_end out ≡ false → HasEmitted job size out lines → BrokeAmong job size out lines (line ∷ [])
before_line law job size out lines line not_ended was = record {
  done = [];
  begun = [];
  rest = line ∷ [];
  parts = refl;
  short = tt;
  not_ended = not_ended;
  broken = subst (λ l. HasBroken job size out l []) (sym (append-nil lines)) (broken_still law job size out lines was);
}

-- it broke off behind it
pub behind_line : (job : Job) (size : ℕ) (out : SourceOutput) (lines : List (List ℕ)) (line : List ℕ) → IsShort line → is_at_end out ≡ false → HasBroken job size out (lines ++ line ∷ []) [] → BrokeAmong job size out lines (line ∷ [])
behind_line job size out lines line short not_ended broken = record { done = line ∷ []; begun = []; rest = []; parts = refl; short = (short, tt); not_ended = not_ended; broken = broken }
