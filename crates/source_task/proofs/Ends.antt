-- How a source begins and ends.
use Rattle.std.proofs.Common.{◌≡◌, ◌≢◌, ℕ, zero, suc, ◌+◌, ◌-◌, ◌≤◌, true, false, List, [], ◌∷◌, ◌++◌, length, drop, Option, Some, None, IfSome, refl, sym, ap, subst, ◌∙◌, inl, inr, arith}
use Rattle.turn_cell.specs.History.{StartsWith}
use Rattle.turn_cell.specs.Passes.{IsSamePass, seen}
use Rattle.flow_defs.specs.declared.cause.Cause.{Cause}
use Rattle.flow_defs.specs.declared.cause.Cause.TheVariants as causes
use Rattle.flow_defs.specs.declared.image.Snapshot.{Snapshot}
use Rattle.flow_defs.specs.declared.job.Job.{Job}
use Rattle.flow_defs.specs.Lines.{lines}
use Rattle.plain_machine.specs.Emitting.{receiver_on}
use Rattle.job_start.specs.declared.start.Start.{Start}
use Rattle.job_start.specs.Starts.{from_of}
use Rattle.outside.specs.Stops.{told_of}
use Rattle.outside.specs.declared.last_image.Stored.{Stored}
use Rattle.conn_parts.specs.Shares.{mine_at, AreNew}
use Rattle.conn_parts.specs.Stopping.{StopCell, StopPass, ToldStop}
use Rattle.record_writer.specs.Partitions.{IsWriterOf}
use Rattle.record_writer.specs.Writers.{SendPass, Writer, IsNew, IsOpen}
use Rattle.record_writer.specs.declared.partition.Partition.{Partition}
use Rattle.snapshot_channel.specs.declared.views.Opening.{Opening}
use Rattle.snapshot_channel.specs.Passes.{opening_of}
use Rattle.snapshot_channel.specs.Snapshots.{has_ended}
use Rattle.task_output.specs.declared.world.World.{World}
use Rattle.task_output.specs.Acking.{IsLent, base_of}
use Rattle.task_output.specs.Outputs.{Output, WritesFor, HasSent, BegunOn, end_of}
use Rattle.source_task.specs.declared.output.SourceOutput.{SourceOutput}
use Rattle.source_task.specs.Emitting.{IsInterval, AreSnapshots, HasEmitted, IsSource, start_of, from_in}
use Rattle.source_task.specs.Sources.{SourceAccount, IsSourceCause}
use Rattle.task_output.specs.Ending.{EndsAs, ToldAtEnd}
use Rattle.task_output.specs.Waiting.{HasWaited, MayEnd}
use Rattle.source_task.proofs.Behind.{drop_none}

-- ---- where it begins

-- an interval of one line at least is not over at once
pub interval_begins : (every : Option ℕ) → IfSome every (λ n. 1 ≤ n) → IsInterval every 0 true
interval_begins None interval = refl
interval_begins (Some n) interval = interval

module _ (job : Job) (a : ℕ) (start : Start) (every : Option ℕ) (world : World Partition) (lent : IsLent job 0 a start every world) where
  pub start_is : (opening_of world.acks.snapshots.now).start ≡ start
  start_is = ap (λ (o : Opening). o.start) lent.opening

  module _ (o : Output) (offset : ℕ) where
    abbrev pub begun : SourceOutput
    begun = record { output = o; acks = world.acks; index = a; every = every; skip = offset; offset = offset; since = 0 }

    pub emitted_none : (w : Writer) → IsWriterOf job 0 a world.partition w → IsNew w × IsOpen w × (w.emitted ≡ (from_of job start 0 a).emitted)
        → ((job : Job) (e a size : ℕ) → WritesFor job e a size w → IsNew w → IsOpen w → HasSent w.emitted job e a size o [] []) → offset ≡ (from_of job start 0 a).offset → HasEmitted job world.partition.size begun []
    emitted_none w writes new none offset_is =
        let from = from_in job begun in
        let emitted_is : w.emitted ≡ from.emitted = new.2 ∙ ap (λ (s : Start). (from_of job s 0 a).emitted) (sym start_is) in
        let begins_at : offset ≡ from.offset = offset_is ∙ ap (λ (s : Start). (from_of job s 0 a).offset) (sym start_is) in
        record {
          groups = [];
          rest = [];
          all_are = sym (drop_none from.offset);
          sent = subst (λ n. HasSent n job 0 a world.partition.size o [] []) emitted_is (none job 0 a world.partition.size (record { job_is = writes.job_is; edge = writes.edge; index = writes.index; size_is = writes.size }) new.0 new.1);
          snapshots = subst (AreSnapshots a every from.number from.offset from.emitted []) (sym lent.fresh) tt;
          offset_is = begins_at ∙ (let none_more : from.offset ≡ from.offset + 0 = omega arith in none_more);
          skip_is = begins_at ∙ (let none_less : from.offset ≡ from.offset - 0 = omega arith in none_less);
          since_is = refl;
          at_end = λ is. refl;
        }

    pub source_begins : HasEmitted job world.partition.size begun [] → IsSource begun
    source_begins emitted = record {
      job = job;
      size = world.partition.size;
      lines = [];
      emitted = emitted;
      own = record {
        passes = lent.passes;
        task = lent.task;
        waited = subst (λ (xs : List Snapshot). HasWaited (base_of (start_of begun)) (length xs) (seen world.acks.last_pass)) (sym lent.fresh) tt;
      };
      every_is = ap (λ (o : Opening). o.every) lent.opening;
    }

-- ---- where it ends

-- what it has seen of the images goes by what is the same
pub waited_of_same : (start start' : Start) (sent sent' : List Snapshot) (history history' : List (ℕ × Stored)) → start ≡ start' → sent ≡ sent' → history ≡ history' → HasWaited (base_of start) (length sent) history → HasWaited (base_of start') (length sent') history'
waited_of_same start start' sent sent' history history' one two three was =
    subst (λ l. HasWaited (base_of start') (length sent') l) three
    (subst (λ (l : List Snapshot). HasWaited (base_of start') (length l) history) two
    (subst (λ (s : Start). HasWaited (base_of s) (length sent) history) one was))

-- an account of what is the same is the same
pub account_of_same : (job : Job) (a a' size : ℕ) (start start' : Start) (every every' : Option ℕ) (passes passes' : List SendPass) (sent sent' : List Snapshot) (history history' : List (ℕ × Stored)) (left : Option (List ℕ)) (fell rose : ℕ) (cause : Cause)
    → a ≡ a' → start ≡ start' → every ≡ every' → passes ≡ passes' → sent ≡ sent' → history ≡ history'
    → SourceAccount job a size start every passes sent history left fell rose cause → SourceAccount job a' size start' every' passes' sent' history' left fell rose cause
account_of_same job a a' size start start' every every' passes passes' sent sent' history history' left fell rose cause one two three four five six was =
    subst (λ l. SourceAccount job a' size start' every' passes' sent' l left fell rose cause) six
    (subst (λ l. SourceAccount job a' size start' every' passes' l history left fell rose cause) five
    (subst (λ l. SourceAccount job a' size start' every' l sent history left fell rose cause) four
    (subst (λ (e : Option ℕ). SourceAccount job a' size start' e passes sent history left fell rose cause) three
    (subst (λ (s : Start). SourceAccount job a' size s every passes sent history left fell rose cause) two
    (subst (λ n. SourceAccount job n size start every passes sent history left fell rose cause) one was)))))

stopped_not_done : causes.Stopped ≢ causes.Done
stopped_not_done = λ is. cc

-- it was stopped where it was done
pub account_ended : (job : Job) (a size : ℕ) (start : Start) (every : Option ℕ) (passes : List SendPass) (sent : List Snapshot) (history : List (ℕ × Stored)) (left : Option (List ℕ)) (fell rose : ℕ) (cause cause' : Cause) → EndsAs cause cause'
    → SourceAccount job a size start every passes sent history left fell rose cause → SourceAccount job a size start every passes sent history left fell rose cause'
account_ended job a size start every passes sent history left fell rose cause cause' ends was = record {
  groups = was.groups;
  rest = was.rest;
  begun = was.begun;
  snapshots = was.snapshots;
  put = was.put;
  short = was.short;
  front = was.front;
  at_end = was.at_end;
  whole = was.whole;
  still = was.still;
  done = λ is. elim ends [ inl same ↦ was.done (sym same ∙ is) | inr stopped ↦ absurd (stopped_not_done (sym stopped.1 ∙ is)) ];
  within = λ is. elim ends [ inl same ↦ was.within (sym same ∙ is) | inr stopped ↦ absurd (stopped_not_done (sym stopped.1 ∙ is)) ];
  never_falls = was.never_falls;
  cause_is = elim ends [ inl same ↦ subst (IsSourceCause a left fell rose) (sym same) was.cause_is | inr stopped ↦ subst (IsSourceCause a left fell rose) (sym stopped.1) tt ];
}

none_at : (passes : List SendPass) (c : ℕ) → AreNew passes → mine_at c passes ≡ []
none_at [] c new = refl
none_at (p ∷ passes) zero new = new 0 p (omega arith)
none_at (p ∷ passes) (suc c) new = none_at passes c (λ k d within. new (suc k) d (omega (arith, within)))

abbrev no_groups : List (List (List ℕ))
no_groups = []

abbrev no_lines : List (List ℕ)
no_lines = []

-- it found no memory for its writer
pub account_unsent : (job : Job) (a size : ℕ) (start : Start) (every : Option ℕ) (passes : List SendPass) (sent : List Snapshot) (history : List (ℕ × Stored)) (left : Option (List ℕ)) (fell rose : ℕ) → AreNew passes → sent ≡ [] → fell ≤ rose → SourceAccount job a size start every passes sent history left fell rose causes.Memory
account_unsent job a size start every passes sent history left fell rose new none_sent never_falls =
    let from = from_of job start 0 a in
    record {
      groups = [];
      rest = [];
      begun = [];
      snapshots = subst (AreSnapshots a every from.number from.offset from.emitted []) (sym none_sent) tt;
      put = λ c inside. subst (BegunOn (receiver_on job 0 a) from.emitted [] (end_of job 0 a c) size [] (HasWaited (base_of start) 1 history) (MayEnd (base_of start) every history no_groups no_lines)) (sym (none_at passes c new)) (record {
        more = [] ∷ [];
        cut = refl;
        few = inl (omega arith);
        ended = λ over. absurd (cc);
        some = record { owed = []; begins = refl; buffers = tt };
      });
      short = tt;
      front = front_of left;
      at_end = λ is. refl;
      whole = λ is not. absurd (ended is);
      still = λ is. refl;
      done = λ is. absurd (memory_not_done is);
      within = λ is. absurd (memory_not_done is);
      never_falls = never_falls;
      cause_is = tt;
    }
  where
    memory_not_done : causes.Memory ≢ causes.Done
    memory_not_done = λ is. cc

    ended : has_ended false sent ≢ true
    ended = λ is. (let no : has_ended false sent ≡ false = ap (has_ended false) none_sent in cc)

    front_of : (s : Option (List ℕ)) → IfSome s (λ bytes. StartsWith (drop (from_of job start 0 a).offset (lines bytes)) [])
    front_of None = tt
    front_of (Some bytes) = (drop (from_of job start 0 a).offset (lines bytes), refl)

-- a list that goes on from one with an entry has one
goes_on : {A : Type 0} (xs ys : List A) → StartsWith xs ys → ys ≢ [] → xs ≢ []
goes_on xs [] starts some = λ is. some refl
goes_on xs (y ∷ ys) starts some = λ is. (let there = starts.1 in cc)

-- what it told of its cause
pub told_by_source : (cell : StopCell) (cause cause' : Cause) (before mid after : StopPass) → IsSamePass before mid → (cause ≡ causes.Stopped → seen mid ≢ []) → ToldAtEnd cell cause cause' mid after → ToldStop cell cause' before after
told_by_source cell cause cause' before mid after same says told = record {
  pass = told.pass;
  number = told.number_is ∙ same.0;
  told = told.told ∙ ap (λ l. l ++ told_of cause') same.1;
  stopped = λ is. elim (told.stopped is) [ inl was ↦ goes_on (seen after) (seen mid) told.later (says was) | inr some ↦ some ];
  done = told.done;
}
