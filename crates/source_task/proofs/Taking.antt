-- A source takes a checkpoint.
use Rattle.std.proofs.Common.{◌≡◌, Bor, ℕ, zero, suc, ◌+◌, Bool, true, false, List, [], ◌∷◌, ◌++◌, length, drop, Option, Some, None, refl, sym, ap, subst, ◌∙◌, append-nil, arith}
use Rattle.std.specs.Prelude.{⊤, All}
use Rattle.std.specs.FinMap.{empty}
use Rattle.std.proofs.lemmas.List.{length-append}
use Rattle.std.proofs.lemmas.List.Elements.{All-nil}
use Rattle.flow_defs.specs.declared.job.Job.{Job}
use Rattle.flow_defs.specs.declared.image.Saved.{Saved}
use Rattle.flow_defs.specs.declared.image.Snapshot.{Snapshot}
use Rattle.flow_defs.specs.declared.image.TakeRun.{TakeRun}
use Rattle.flow_defs.specs.declared.task.TaskId.{TaskId}
use Rattle.flow_defs.specs.Records.{IsShort}
use Rattle.flow_defs.specs.Tables.{Values}
use Rattle.plain_machine.specs.Images.{HasShortKeys}
use Rattle.plain_machine.proofs.KeySums.{entries-empty}
use Rattle.plain_machine.specs.Emitting.{count_after}
use Rattle.plain_machine.specs.Theorems.{CountedInParts}
use Rattle.job_start.specs.Starts.{was_ended}
use Rattle.outside.specs.declared.last_image.Stored.{Stored}
use Rattle.snapshot_channel.specs.declared.opened.SnapshotChannel.{SnapshotChannel}
use Rattle.snapshot_channel.specs.Snapshots.{AreTakesAt, FitsTask, LeadsTo, ComesFrom, HaveOwnChannels, IsAtEnd, MaySend, has_ended}
use Rattle.snapshot_channel.specs.Passes.{opening_of, sent_by, task_of}
use Rattle.task_output.specs.declared.acks.Acks.{Acks}
use Rattle.task_output.specs.Acking.{HasPasses, IsSameTask, base_of}
use Rattle.task_output.specs.Outputs.{Output, HasSent, HasStopped, HasFinished, all_of, count_behind}
use Rattle.task_output.specs.Laws.{SentIsBegun, BarrierIsLeftAside}
use Rattle.task_output.specs.Waiting.{HasWaited, KnowsLast, LastIs, MayEnd}
use Rattle.task_output.proofs.Begun.{begun_where}
use Rattle.turn_cell.specs.Passes.{seen}
use Rattle.source_task.specs.declared.output.SourceOutput.{SourceOutput}
use Rattle.source_task.specs.Emitting.{IsSnapshotAt, IsInterval, AreSnapshots, HasEmitted, HasBroken, HasEnded, IsSource, start_of, from_in, is_at_end}
use Rattle.source_task.proofs.Emitting.{was_same}
use Rattle.source_task.proofs.Snapshots.{all_more, as_many, snapshots_more, ended_more, ended_same, or_second}

-- ---- its numbers

-- it has as many groups as it has sent snapshots
pub many_groups : (job : Job) (size : ℕ) (out : SourceOutput) (lines : List (List ℕ)) → IsSource out → (was : HasEmitted job size out lines) → out.acks.sent ≡ length was.groups
many_groups job size out lines source was =
    let from = from_in job out in
    source.own.passes.sent_is ∙ as_many out.index out.every from.number from.offset from.emitted was.groups (sent_by out.acks.pass) was.snapshots

-- the barrier behind them has the next number
pub next_barrier : (job : Job) (size : ℕ) (out : SourceOutput) (lines : List (List ℕ)) → IsSource out → (was : HasEmitted job size out lines) → suc (length was.groups) ≡ out.acks.sent + 1
next_barrier job size out lines source was = omega (arith, many_groups job size out lines source was)

-- the next snapshot has the same number, where nothing was sent
pub next_same : (k : ℕ) (one two : Acks) → two.base ≡ one.base → two.sent ≡ one.sent → k ≡ one.base.number + suc one.sent → k ≡ two.base.number + suc two.sent
next_same k one two base same next =
    let number : two.base.number ≡ one.base.number = ap (λ (b : Stored). b.number) base in
    omega (arith, number, same, next)

-- its start has the number of the image from which the run goes on
start_number : (out : SourceOutput) → IsSource out → out.acks.base.number ≡ (start_of out).number
start_number out source = ap (λ (b : Stored). b.number) source.own.passes.base_is

-- ---- what it has seen

pub waited_same : (base : Stored) (n : ℕ) (one two : Acks) → two.last_pass ≡ one.last_pass → HasWaited base n (seen one.last_pass) → HasWaited base n (seen two.last_pass)
waited_same base n one two same waited = subst (HasWaited base n) (sym (ap seen same)) waited

pub waited_kept : (one two : Acks) → two.snapshots ≡ one.snapshots → two.last_pass ≡ one.last_pass → sent_by two.pass ≡ sent_by one.pass
    → HasWaited (base_of (opening_of one.snapshots.now).start) (length (sent_by one.pass)) (seen one.last_pass) → HasWaited (base_of (opening_of two.snapshots.now).start) (length (sent_by two.pass)) (seen two.last_pass)
waited_kept one two snapshots same kept waited =
    subst (λ (s : Bor SnapshotChannel). HasWaited (base_of (opening_of s.now).start) (length (sent_by two.pass)) (seen two.last_pass)) (sym snapshots)
    (waited_same (base_of (opening_of one.snapshots.now).start) (length (sent_by two.pass)) one two same
    (subst (λ (xs : List Snapshot). HasWaited (base_of (opening_of one.snapshots.now).start) (length xs) (seen one.last_pass)) (sym kept) waited))

-- it has waited for the image before its next barrier
pub waited_next : (job : Job) (size : ℕ) (out : SourceOutput) (lines : List (List ℕ)) → IsSource out → (was : HasEmitted job size out lines) → HasWaited out.acks.base (suc out.acks.sent) (seen out.acks.last_pass) → HasWaited (base_of (start_of out)) (suc (length was.groups)) (seen out.acks.last_pass)
waited_next job size out lines source was waited =
    subst (λ n. HasWaited (base_of (start_of out)) n (seen out.acks.last_pass)) (ap suc (many_groups job size out lines source was))
    (subst (λ (b : Stored). HasWaited b (suc out.acks.sent) (seen out.acks.last_pass)) source.own.passes.base_is waited)

-- the last that it acknowledged is that of its last group
last_group : (job : Job) (size : ℕ) (out : SourceOutput) (lines : List (List ℕ)) → IsSource out → (was : HasEmitted job size out lines) → LastIs (base_of (start_of out)) out.every (seen out.acks.last_pass) out.acks.sent true → LastIs (base_of (start_of out)) out.every (seen out.acks.last_pass) (length was.groups) true
last_group job size out lines source was last = subst (λ n. LastIs (base_of (start_of out)) out.every (seen out.acks.last_pass) n true) (many_groups job size out lines source was) last

-- ---- where it breaks off

-- the lines behind its start are those that it emitted
still_are : (job : Job) (size : ℕ) (out : SourceOutput) (lines : List (List ℕ)) (was : HasEmitted job size out lines) → all_of was.groups ++ (was.rest ++ []) ≡ drop (from_in job out).offset (lines ++ [])
still_are job size out lines was = ap (λ l. all_of was.groups ++ l) (append-nil was.rest) ∙ was.all_are ∙ ap (λ l. drop (from_in job out).offset l) (sym (append-nil lines))

pub broken_still : SentIsBegun → (job : Job) (size : ℕ) (out : SourceOutput) (lines : List (List ℕ)) → HasEmitted job size out lines → HasBroken job size out lines []
broken_still law job size out lines was =
    let from = from_in job out in
    let base = base_of (start_of out) in
    record {
      groups = was.groups;
      rest = was.rest;
      all_are = still_are job size out lines was;
      begun_them = begun_where ⊥ (HasWaited base (suc (length was.groups)) (seen out.acks.last_pass)) ⊥ (MayEnd base out.every (seen out.acks.last_pass) was.groups (was.rest ++ [])) (λ no. absurd no) (λ no. absurd no)
          from.emitted job 0 out.index size out.output was.groups was.rest [] (law from.emitted job 0 out.index size out.output was.groups was.rest was.sent);
      snapshots = was.snapshots;
      at_end = λ is. append-nil was.rest ∙ was.at_end is;
    }

-- it had waited, and was stopped at the barrier
pub broken_at_barrier : (job : Job) (size : ℕ) (out : SourceOutput) (o : Output) (lines : List (List ℕ)) (was : HasEmitted job size out lines) → HasWaited (base_of (start_of out)) (suc (length was.groups)) (seen out.acks.last_pass)
    → HasStopped (from_in job out).emitted job 0 out.index size o was.groups was.rest [] ⊤ ⊥ → HasBroken job size (record out { output = o }) lines []
broken_at_barrier job size out o lines was waited stopped =
    let from = from_in job out in
    let base = base_of (start_of out) in
    record {
      groups = was.groups;
      rest = was.rest;
      all_are = still_are job size out lines was;
      begun_them = begun_where ⊤ (HasWaited base (suc (length was.groups)) (seen out.acks.last_pass)) ⊥ (MayEnd base out.every (seen out.acks.last_pass) was.groups (was.rest ++ [])) (λ _. waited) (λ no. absurd no)
          from.emitted job 0 out.index size o was.groups was.rest [] stopped.begun_them;
      snapshots = was.snapshots;
      at_end = λ is. append-nil was.rest ∙ was.at_end is;
    }

-- the snapshot behind its barrier was not sent
pub broken_behind_barrier : BarrierIsLeftAside → (job : Job) (size : ℕ) (out : SourceOutput) (o : Output) (acks : Acks) → acks.snapshots ≡ out.acks.snapshots → (lines : List (List ℕ)) (was : HasEmitted job size out lines) → HasWaited (base_of (start_of out)) (suc (length was.groups)) (seen acks.last_pass)
    → HasSent (from_in job out).emitted job 0 out.index size o (was.groups ++ was.rest ∷ []) [] → sent_by acks.pass ≡ sent_by out.acks.pass → HasBroken job size (record out { output = o; acks = acks }) lines []
broken_behind_barrier aside job size out o acks channel lines was waited sent same =
    let from = from_in job out in
    let base = base_of (start_of out) in
    subst (λ (s : Bor SnapshotChannel). HasBroken job size (record out { output = o; acks = record acks { snapshots = s } }) lines []) (sym channel) (record {
      groups = was.groups;
      rest = was.rest;
      all_are = still_are job size out lines was;
      begun_them = begun_where ⊤ (HasWaited base (suc (length was.groups)) (seen acks.last_pass)) ⊥ (MayEnd base out.every (seen acks.last_pass) was.groups (was.rest ++ [])) (λ _. waited) (λ no. absurd no)
          from.emitted job 0 out.index size o was.groups was.rest [] (aside from.emitted job 0 out.index size o was.groups was.rest sent);
      snapshots = subst (AreSnapshots out.index out.every from.number from.offset from.emitted was.groups) (sym same) was.snapshots;
      at_end = λ is. append-nil was.rest ∙ was.at_end (ap (λ (xs : List Snapshot). has_ended (was_ended (start_of out) out.index) xs) (sym same) ∙ is);
    })

-- it was ending its channels
pub broken_at_end : (job : Job) (size : ℕ) (out : SourceOutput) (o : Output) (lines : List (List ℕ)) → IsSource out → (was : HasEmitted job size out lines) → LastIs (base_of (start_of out)) out.every (seen out.acks.last_pass) out.acks.sent true → is_at_end out ≡ true
    → HasStopped (from_in job out).emitted job 0 out.index size o was.groups was.rest [] ⊥ ⊤ → HasBroken job size (record out { output = o }) lines []
broken_at_end job size out o lines source was last ended stopped =
    let from = from_in job out in
    let base = base_of (start_of out) in
    record {
      groups = was.groups;
      rest = was.rest;
      all_are = still_are job size out lines was;
      begun_them = begun_where ⊥ (HasWaited base (suc (length was.groups)) (seen out.acks.last_pass)) ⊤ (MayEnd base out.every (seen out.acks.last_pass) was.groups (was.rest ++ [])) (λ no. absurd no)
          (λ _. (last_group job size out lines source was last, append-nil was.rest ∙ was.at_end ended)) from.emitted job 0 out.index size o was.groups was.rest [] stopped.begun_them;
      snapshots = was.snapshots;
      at_end = λ is. append-nil was.rest ∙ was.at_end is;
    }

-- ---- where it ends

pub ended_there : (job : Job) (size : ℕ) (out : SourceOutput) (o : Output) (lines : List (List ℕ)) → IsSource out → (was : HasEmitted job size out lines) → LastIs (base_of (start_of out)) out.every (seen out.acks.last_pass) out.acks.sent true → is_at_end out ≡ true
    → HasFinished (from_in job out).emitted job 0 out.index size o was.groups was.rest → HasEnded job size (record out { output = o }) lines
ended_there job size out o lines source was last ended finished = record {
  groups = was.groups;
  all_are = sym (append-nil (all_of was.groups)) ∙ ap (λ l. all_of was.groups ++ l) (sym (was.at_end ended)) ∙ was.all_are;
  finished = subst (HasFinished (from_in job out).emitted job 0 out.index size o was.groups) (was.at_end ended) finished;
  snapshots = was.snapshots;
  ended = ended;
  last = last_group job size out lines source was last;
}

-- ---- where it goes on

module _ (count : CountedInParts) (out : SourceOutput) (o : Output) (acks : Acks) (channel : acks.snapshots ≡ out.acks.snapshots) (k : ℕ) (x : Snapshot) (counted : ℕ) (source : IsSource out)
    (at : IsSnapshotAt out.index k out.offset counted x) (next : k ≡ out.acks.base.number + suc out.acks.sent) (interval : IsInterval out.every out.since x.ended) (sent_is : sent_by acks.pass ≡ sent_by out.acks.pass ++ x ∷ []) where
  abbrev after : SourceOutput
  after = record out { output = o; acks = acks; since = 0 }

  pub taken : (job : Job) (size : ℕ) (lines : List (List ℕ)) (was : HasEmitted job size out lines) → HasSent (from_in job out).emitted job 0 out.index size o (was.groups ++ was.rest ∷ []) [] → counted ≡ count_behind (from_in job out).emitted (was.groups ++ was.rest ∷ []) → HasEmitted job size after lines
  taken job size lines was sent counted_is =
      let from = from_in job out in
      let all : all_of (was.groups ++ was.rest ∷ []) ++ [] ≡ all_of was.groups ++ was.rest = append-nil (all_of (was.groups ++ was.rest ∷ [])) ∙ all_more was.groups was.rest in
      subst (λ (s : Bor SnapshotChannel). HasEmitted job size (record out { output = o; acks = record acks { snapshots = s }; since = 0 }) lines) (sym channel) (record {
        groups = was.groups ++ was.rest ∷ [];
        rest = [];
        all_are = all ∙ was.all_are;
        sent = sent;
        snapshots = subst (AreSnapshots out.index out.every from.number from.offset from.emitted (was.groups ++ was.rest ∷ [])) (sym sent_is)
            (snapshots_more count out.index out.every was.rest x (subst (λ n. IsInterval out.every n x.ended) was.since_is interval) from.number from.offset from.emitted was.groups (sent_by out.acks.pass) was.snapshots
            (record {
              task = at.task;
              number = at.number ∙ number_is job size lines was;
              offset_is = at.offset_is ∙ was.offset_is;
              emitted_is = at.emitted_is ∙ counted_is ∙ ap (count_after from.emitted) (all_more was.groups was.rest);
              no_table = at.no_table;
              no_takes = at.no_takes;
              none_in = at.none_in;
              none_out = at.none_out;
            })
            (λ is. was.at_end (or_second (was_ended (start_of out) out.index) (has_ended false (sent_by out.acks.pass)) is)));
        offset_is = was.offset_is ∙ ap (λ l. from.offset + length l) (sym all);
        skip_is = was.skip_is;
        since_is = refl;
        at_end = λ is. refl;
      })
    where
      number_is : (job : Job) (size : ℕ) (lines : List (List ℕ)) (was : HasEmitted job size out lines) → k ≡ suc ((start_of out).number + length was.groups)
      number_is job size lines was =
          let start = start_number out source in
          let many = many_groups job size out lines source was in
          omega (arith, next, start, many)

-- ---- the snapshot may be sent

no_keys : (table : Values) → table ≡ empty → HasShortKeys table
no_keys table is = subst HasShortKeys (sym is) (subst (All (λ (row : List ℕ × ℕ). IsShort row.0)) (sym entries-empty) (All-nil (λ (row : List ℕ × ℕ). IsShort row.0)))

none : {X : Type 0} (P : X → Type 0) (xs : List X) → xs ≡ [] → All P xs
none P xs is = subst (All P) (sym is) (All-nil P)

none_twice : (pieces : List Saved) → pieces ≡ [] → HaveOwnChannels pieces
none_twice pieces is = subst HaveOwnChannels (sym is) (λ i j d low high same. absurd (omega (arith, high)))

no_takes : (job : Job) (stage index : ℕ) (runs : List TakeRun) → stage ≡ 0 → runs ≡ [] → AreTakesAt job stage index runs
no_takes job zero index runs first is = is
no_takes job (suc e) index runs first is = absurd (omega (arith, first))

fits : (job : Job) (a k offset counted : ℕ) (x : Snapshot) → IsSnapshotAt a k offset counted x → FitsTask job x
fits job a k offset counted x at = record {
  keys = no_keys x.table at.no_table;
  runs = no_takes job x.task.stage x.task.index x.takes.items (ap (λ (t : TaskId). t.stage) at.task) at.no_takes;
  came_in = none (λ (p : Saved). LeadsTo job x.task p.channel) x.saved_in.items at.none_in;
  came_in_once = none_twice x.saved_in.items at.none_in;
  goes_out = none (λ (p : Saved). ComesFrom job x.task p.channel) x.saved_out.items at.none_out;
  goes_out_once = none_twice x.saved_out.items at.none_out;
}

stays_ended : (every opened : Option ℕ) (lines : ℕ) (was : Bool) (before : List Snapshot) (ended : Bool) → opened ≡ every → IsInterval every lines ended → (has_ended was before ≡ true → ended ≡ true) → IsAtEnd opened was before → ended ≡ true
stays_ended None None lines was before ended same interval at_end first = interval
stays_ended None (Some n) lines was before ended same interval at_end first = absurd (cc)
stays_ended (Some n) None lines was before ended same interval at_end first = absurd (cc)
stays_ended (Some n) (Some m) lines was before ended same interval at_end first = at_end first

pub may_send : (out : SourceOutput) (k counted : ℕ) (x : Snapshot) → IsSource out → IsSnapshotAt out.index k out.offset counted x → k ≡ out.acks.base.number + suc out.acks.sent → IsInterval out.every out.since x.ended → (is_at_end out ≡ true → x.ended ≡ true)
    → MaySend (opening_of out.acks.snapshots.now) (task_of out.acks.pass) (sent_by out.acks.pass) x
may_send out k counted x source at next interval at_end = record {
  task_is = at.task ∙ sym source.own.task;
  number_is = let start = start_number out source in let sent = source.own.passes.sent_is in at.number ∙ omega (arith, next, start, sent);
  fits = fits (opening_of out.acks.snapshots.now).job out.index k out.offset counted x at;
  at_end = λ first ended. stays_ended out.every (opening_of out.acks.snapshots.now).every out.since (was_ended (start_of out) (task_of out.acks.pass).index) (sent_by out.acks.pass) x.ended source.every_is interval
      (λ is. at_end (ap (λ (t : TaskId). has_ended (was_ended (start_of out) t.index) (sent_by out.acks.pass)) (sym source.own.task) ∙ is)) ended;
}

-- ---- the snapshot was sent

module _ (out : SourceOutput) (acks : Acks) (x : Snapshot) (source : IsSource out) (passes : HasPasses acks) (same : IsSameTask out.acks acks) (seen_is : acks.last_pass ≡ out.acks.last_pass) (sent_is : sent_by acks.pass ≡ sent_by out.acks.pass ++ x ∷ []) where
  -- the channel is opened as it was
  pub every_more : (opening_of acks.snapshots.now).every ≡ out.every
  every_more = ap (λ (s : Bor SnapshotChannel). (opening_of s.now).every) same.snapshots ∙ source.every_is

  base_more : out.acks.base ≡ base_of (opening_of acks.snapshots.now).start
  base_more = sym same.base ∙ passes.base_is

  one_more : suc out.acks.sent ≡ length (sent_by acks.pass)
  one_more =
      let many : length (sent_by acks.pass) ≡ length (sent_by out.acks.pass) + 1 = ap length sent_is ∙ omega (arith, length-append (sent_by out.acks.pass) (x ∷ [])) in
      omega (arith, many, source.own.passes.sent_is)

  -- what it had waited for
  pub waited_more : HasWaited out.acks.base (suc out.acks.sent) (seen out.acks.last_pass) → HasWaited (base_of (opening_of acks.snapshots.now).start) (length (sent_by acks.pass)) (seen acks.last_pass)
  waited_more waited =
      subst (λ (b : Stored). HasWaited b (length (sent_by acks.pass)) (seen acks.last_pass)) base_more
      (waited_same out.acks.base (length (sent_by acks.pass)) out.acks acks seen_is (subst (λ n. HasWaited out.acks.base n (seen out.acks.last_pass)) one_more waited))

  -- whether this checkpoint is the last
  pub last_more : (last : Bool) → KnowsLast out.acks.base out.every (seen out.acks.last_pass) out.acks.sent last → LastIs (base_of (opening_of acks.snapshots.now).start) out.every (seen acks.last_pass) acks.sent last
  last_more last knows =
      subst (λ (b : Stored). LastIs b out.every (seen acks.last_pass) acks.sent last) base_more
      (subst (λ (h : List (ℕ × Stored)). LastIs out.acks.base out.every h acks.sent last) (sym (ap seen seen_is))
      (subst (λ n. LastIs out.acks.base out.every (seen out.acks.last_pass) n last) (one_more ∙ sym passes.sent_is) knows))

-- whether it is at its end then
pub ended_then : (out out' : SourceOutput) (x : Snapshot) (ended : Bool) → out'.acks.snapshots ≡ out.acks.snapshots → out'.index ≡ out.index → sent_by out'.acks.pass ≡ sent_by out.acks.pass ++ x ∷ [] → x.ended ≡ ended
    → (ended ≡ true → is_at_end out' ≡ true) × (ended ≡ false → is_at_end out' ≡ is_at_end out)
ended_then out out' x ended channel index sent is =
    let was = was_ended (start_of out) out.index in
    let now : is_at_end out' ≡ has_ended was (sent_by out.acks.pass ++ x ∷ []) = ap (λ (b : Bool). has_ended b (sent_by out'.acks.pass)) (was_same out out' channel index) ∙ ap (λ (xs : List Snapshot). has_ended was xs) sent in
    (λ yes. now ∙ ended_more was (sent_by out.acks.pass) x (is ∙ yes), λ no. now ∙ ended_same was (sent_by out.acks.pass) x (is ∙ no))
