-- How what the workers of a job left makes a run.
use Rattle.std.proofs.Common.{◌≡◌, ◌≢◌, ◌⊎◌, ℕ, ◌≤◌, Bool, true, List, [], ◌∷◌, length, inl, inr, refl, sym, ap, subst, ◌∙◌, append-nil, arith}
use Rattle.std.specs.Prelude.{slice_get, Option, Some, None, Result, Ok, Err, IfOk, IfErr, IsSome, IsSomeAnd, OnOk}
use Rattle.std.specs.List.{last_or}
use Rattle.flow_defs.specs.Items.{Items}
use Rattle.flow_defs.specs.declared.cause.Cause.{Cause}
use Rattle.flow_defs.specs.declared.cause.Cause.TheVariants as causes
use Rattle.flow_defs.specs.declared.cause.PeerFault.{PeerFault}
use Rattle.flow_defs.specs.declared.image.Image.{Image}
use Rattle.flow_defs.specs.declared.job.Job.{Job}
use Rattle.flow_defs.specs.Jobs.{tasks}
use Rattle.flow_defs.specs.Lines.{lines}
use Rattle.flow_defs.specs.Tables.{Values}
use Rattle.plain_machine.specs.Chains.{last_of}
use Rattle.job_start.specs.declared.start.Start.{Start}
use Rattle.outside.specs.Faults.{HasRisen}
use Rattle.outside.specs.Keepers.{KeptImage}
use Rattle.outside.specs.Stops.{first_met}
use Rattle.outside.specs.declared.stop.StopEntry.{StopEntry}
use Rattle.outside.specs.declared.wires.Wire.{Wire}
use Rattle.snapshot_channel.specs.declared.opened.SnapshotChannel.{SnapshotChannel}
use Rattle.snapshot_channel.specs.Passes.{IsCollecting}
use Rattle.collecting_worker.specs.declared.world.CollectEnd.{CollectEnd}
use Rattle.job_cells.specs.declared.edge.Edge.{Edge}
use Rattle.job_workers.specs.declared.collecting.CollectTask.{CollectTask}
use Rattle.job_workers.specs.declared.place.Place.{Place}
use Rattle.job_workers.specs.declared.place.Place.TheVariants.{Ended}
use Rattle.job_ends.specs.Ended.{TaskPlace, LoopPlace, LinksTell, HasLinkFault, AreEnded}
use Rattle.job_outcome.specs.Grounds.{HasPeerFault}
use Rattle.job_outcome.specs.Outcomes.{AllDone, AreTold, ComeBack, HasEnded, IsRunCause, cause_of_collector}
use Rattle.job_outcome.specs.Storing.{EndsFrom, HasKept, StoredFrom}
use Rattle.job_outcome.specs.Theorems.{HaveRun, Run, start_of, bases_of, AreLeftIn, AreSettledWith, CausesHaveGrounds, DoneCollectorHasLast, DoneWorkersHaveWorth, HasLargeImage, InputsComeBack, KeeperGotImages, StoredImagesAreChain}
use Rattle.job_outcome.specs.Words.{WorldWords}
use Rattle.job_run.specs.Runs.{Course, bases_over, HasCollected, HasItsGrounds, HaveInputs, IsAnswer, IsFaultOf, IsJoined, IsRun, IsTableOf, TellsLargeImage}
use Rattle.job_run.specs.Wires.{IsLinkGround, IsPeerGround, IsWireCause}
use Rattle.job_run.proofs.WireLaws.{risen_over}
use Rattle.job_run.proofs.ListLaws.{some_is, get_there}

-- Inputs that stayed come back.
pub stay_back : {S : Type 0} (faults : S → ℕ) (before after : List S) → after ≡ before → ComeBack faults before after
stay_back {S} faults before after same = record {
  many = ap length same;
  each = λ a old new was is.
      let e : old ≡ new = some_is old new (slice_get before a) was (ap (λ (l : List S). slice_get l a) (sym same) ∙ is) in
      let f : faults old ≡ faults new = ap faults e in
      omega (arith, f);
}

-- A cause has its grounds whatever else follows from a fault of a link, of the other end of a connection or of an image.
module _ {S O I L N : Type 0} (words : WorldWords S O I L N) (course : Course S) where
  abbrev Grounds : Type 0 → (PeerFault → Type 0) → Type 0 → Cause → Type 0
  Grounds link peer big = IsRunCause words.left words.faults course.before course.after link peer (HasRisen course.fell course.rose) big

  pub cause_with : {A B big large : Type 0} {P Q : PeerFault → Type 0} → (A → B) → ((fault : PeerFault) → P fault → Q fault) → (big → large) → (cause : Cause) →
      Grounds A P big cause → Grounds B Q large cause
  cause_with f h g causes.Link x = f x
  cause_with f h g causes.BigImage x = g x
  cause_with f h g (causes.Peer fault) x = h fault x
  cause_with f h g other x = x

-- ---- the images that a keeper got

-- It got none.
pub none_kept : (told : Option (List KeptImage)) → HasKept told told []
none_kept None = refl
none_kept (Some images) = ap Some (sym (append-nil images))

pub none_stored : (bases : Image → Type 0) (job : Job) (lines : ℕ → List (List ℕ)) (every : Option ℕ) (told : Option (List KeptImage)) → StoredFrom bases job lines every told told
none_stored bases job lines every told = record { images = []; kept = none_kept told; chain = λ base may. tt; still = tt; spelled = tt; readable = tt }

-- The last of some images is the last one behind any.
last_behind : (images : List Image) (first last : Image) → last_or (Some first) images ≡ Some last → last_of first images ≡ last
last_behind [] first last is = cc
last_behind (image ∷ images) first last is = last_behind images image last is

last_of_some : (images : List Image) (last base : Image) → last_or None images ≡ Some last → last_of base images ≡ last
last_of_some [] last base is = absurd (cc)
last_of_some (image ∷ images) last base is = last_behind images image last is

is_final : (last : Option Image) (image : Image) → last ≡ Some image → IsSomeAnd last (λ (x : Image). x.final_one ≡ true) → image.final_one ≡ true
is_final last image is final = subst (λ (m : Option Image). IsSomeAnd m (λ (x : Image). x.final_one ≡ true)) is final

module _ {S O I L N : Type 0} {words : WorldWords S O I L N} {course : Course S} where
  -- A run that ended with a cause before its workers were at work.
  pub not_run : {link : Type 0} {peer : PeerFault → Type 0} (cause : Cause) → course.after ≡ course.before → course.keeps ≡ course.kept → course.rose ≡ course.fell →
      HasItsGrounds words course link peer cause → IsRun words course link peer (Err cause)
  not_run cause same still calm grounds = record {
    worth_is = tt;
    cause = grounds;
    inputs = stay_back words.faults course.before course.after same;
    chain = λ tell bytes told base may.
        subst (λ (m : Option (List KeptImage)). StoredFrom (bases_over course bytes) course.job (λ a. lines (bytes a)) course.every course.kept m) (sym still)
        (none_stored (bases_over course bytes) course.job (λ a. lines (bytes a)) course.every course.kept);
    kept_some = ([], subst (λ (m : Option (List KeptImage)). HasKept course.kept m []) (sym still) (none_kept course.kept));
    last = tt;
    never_falls = omega (arith, calm);
  }

  -- There was no wire.
  pub no_wire : {link : Type 0} {peer : PeerFault → Type 0} (cause : Cause) → course.after ≡ course.before → course.keeps ≡ course.kept → course.rose ≡ course.fell →
      IsWireCause link cause → IsRun words course link peer (Err cause)
  no_wire {link = link} {peer = peer} cause same still calm (inl memory) =
      not_run cause same still calm (subst (HasItsGrounds words course link peer) (sym memory) tt)
  no_wire {link = link} {peer = peer} cause same still calm (inr fault) =
      not_run cause same still calm (subst (HasItsGrounds words course link peer) (sym fault.0) fault.1)

  -- A run over a longer time.
  pub run_with : {A B : Type 0} {P Q : PeerFault → Type 0} → (A → B) → ((fault : PeerFault) → P fault → Q fault) → (result : Result Values Cause) →
      IsRun words course A P result → IsRun words course B Q result
  run_with f h (Ok table) run = record {
    worth_is = run.worth_is;
    cause = tt;
    inputs = run.inputs;
    chain = run.chain;
    kept_some = run.kept_some;
    last = run.last;
    never_falls = run.never_falls;
  }
  run_with f h (Err cause) run = record {
    worth_is = tt;
    cause = cause_with words course f h (λ x. x) cause run.cause;
    inputs = run.inputs;
    chain = run.chain;
    kept_some = run.kept_some;
    last = tt;
    never_falls = run.never_falls;
  }

-- And one from the same start.
pub same_start : {S O I L N : Type 0} {words : WorldWords S O I L N} {link : Type 0} {peer : PeerFault → Type 0} {result : Result Values Cause} {course : Course S} {start : Start} → course.start ≡ start →
    IsRun words course link peer result → IsRun words (record course { start = start }) link peer result
same_start {words = words} {link = link} {peer = peer} {result = result} {course = course} same run = subst (λ (s : Start). IsRun words (record course { start = s }) link peer result) same run

-- What stands behind a fault stands behind it over a longer time.
pub link_before : (sure never_fails : Type 0) (a b c : ℕ) → (never_fails → sure) → a ≤ b → IsLinkGround sure b c → IsLinkGround never_fails a c
link_before sure never_fails a b c is low link = record {
  risen = risen_over a b c c low link.risen (omega arith);
  may_fail = λ never. link.may_fail (is never);
}

pub peer_before : {O I : Type 0} (sent : O → Option (List ℕ)) (got : I → Option (List ℕ)) (ended : I → Option Bool) (job : Job) {old mid : Option (List (Wire O I))}
    (new : Option (List (Wire O I))) → mid ≡ old → (fault : PeerFault) → IsPeerGround sent got ended job mid new fault → IsPeerGround sent got ended job old new fault
peer_before {O} {I} sent got ended job new same fault ground =
    subst (λ (o : Option (List (Wire O I))). IsPeerGround sent got ended job o new fault) same ground

-- ---- what the worker that collects left

module _ {collected : Place CollectTask CollectEnd} where
  pub same_end : (one other : CollectEnd) → collected ≡ Ended one → collected ≡ Ended other → one ≡ other
  same_end one other is too = cc

  pub done_cause : (end : CollectEnd) → collected ≡ Ended end → cause_of_collector collected ≡ Some causes.Done → end.cause ≡ causes.Done
  done_cause end is done = some_is end.cause causes.Done (Some end.cause) refl (sym (ap cause_of_collector is) ∙ done)

-- What the laws of workers that ran say.
pub record Laws {S O I L N : Type 0} (words : WorldWords S O I L N) : Type 0 where
  pub come_back : InputsComeBack words
  pub grounds : CausesHaveGrounds words
  pub done_worth : DoneWorkersHaveWorth words
  pub are_chain : StoredImagesAreChain words
  pub got_images : KeeperGotImages words

-- A run was wound up: its inputs came back, its edges and snapshots are settled, and its links and wires tell what its loops met.
pub record IsWoundUp {S O I L N : Type 0} (words : WorldWords S O I L N) (run : Run S O I) (after : List S) (link : Type 0) (peer : PeerFault → Type 0) : Type 0 where
  pub are_left : AreLeftIn run.rows after
  pub many : length after ≡ tasks run.job 0
  pub settled : LinksTell words.sent words.got → (end : CollectEnd) → run.collected ≡ Ended end → AreSettledWith run.job run.rows end
  pub risen : HasLinkFault words.of_out words.of_in run.loops → link
  pub met : (fault : PeerFault) → HasPeerFault words.sent words.got words.ended run.job run.loops fault → peer fault

module _ {S O I L N : Type 0} {words : WorldWords S O I L N} {run : Run S O I} (ran : HaveRun words run) where
  open run use {job, every, inputs, rows, loops, collected}

  -- The worker that collects has ended.
  pub has_collected : DoneCollectorHasLast words → HasCollected run.snapshots collected
  has_collected has_last = record {
    end = ran.end;
    end_is = ran.end_is;
    collecting = subst (λ (channel : SnapshotChannel). IsCollecting channel ran.end.collecting) ran.task_is.2 ran.collector.collecting;
    last = has_last run ran.end ran ran.end_is;
  }

  -- Each source's task left an input.
  pub have_inputs : InputsComeBack words → HaveInputs job rows
  have_inputs come_back a low =
      let many = ran.inputs_many in
      let input = get_there inputs a (omega (arith, many, low)) in
      let back = come_back run ran a input.0 input.1 in
      (back.0, (back.1.0, back.1.1, back.1.2))

  -- Its course, with these inputs afterwards.
  abbrev pub course_of : List S → Course S
  course_of after = record {
    job = run.job;
    start = start_of run.snapshots;
    every = run.every;
    before = run.inputs;
    after = after;
    kept = run.before;
    keeps = run.after;
    fell = run.fell;
    rose = run.rose;
  }

  module _ {after : List S} {link : Type 0} {peer : PeerFault → Type 0} (laws : Laws words) (wound : IsWoundUp words run after link peer) where
    come : ComeBack words.faults inputs after
    come = record {
      many = wound.many ∙ sym ran.inputs_many;
      each = λ a old new was is.
          let back = laws.come_back run ran a old was in
          let there : slice_get after a ≡ Some back.1.0 = wound.are_left a back.0 back.1.0 back.1.1 back.1.2 in
          let e : back.1.0 ≡ new = some_is back.1.0 new (slice_get after a) there is in
          subst (λ (s : S). words.faults old ≤ words.faults s) e back.1.3;
    }

    -- The images are a chain, of which the worker that collects left the last one.
    chained : (end : CollectEnd) → collected ≡ Ended end → LinksTell words.sent words.got → (bytes : ℕ → List ℕ) → AreTold words.left inputs bytes →
        (base : Image) → bases_of run bytes base →
        (stored : StoredFrom (bases_of run bytes) job (λ a. lines (bytes a)) every run.before run.after) × (end.last ≡ last_or None stored.images)
    chained end is tell bytes told base may =
        let are_chain = laws.are_chain run end bytes base ran in
        are_chain may is told (wound.settled tell end is)

    -- A worker that was done has marked it so.
    done_final : (end : CollectEnd) (image : Image) → collected ≡ Ended end → end.last ≡ Some image → AllDone rows loops collected → image.final_one ≡ true
    done_final end image is at done =
        let same : ran.end ≡ end = same_end ran.end end ran.end_is is in
        let cause : ran.end.cause ≡ causes.Done = done_cause ran.end ran.end_is done.by_collector in
        is_final ran.end.last image (ap (λ (e : CollectEnd). e.last) same ∙ at) (ran.collector.account.done cause)

    ends_in : (table : Values) → AllDone rows loops collected → IsJoined job collected table → LinksTell words.sent words.got → (bytes : ℕ → List ℕ) →
        AreTold words.left inputs bytes → (base : Image) → bases_of run bytes base →
        EndsFrom (bases_of run bytes) job (λ a. lines (bytes a)) every run.before run.after table
    ends_in table done joined tell bytes told base may =
        let image = joined.table_of.image in
        let chain = chained joined.end joined.end_is tell bytes told base may in
        record {
          stored = chain.0;
          last = image;
          last_is = λ first first_may. last_of_some chain.0.images image first (sym chain.1 ∙ joined.table_of.image_is);
          final = done_final joined.end image joined.end_is joined.table_of.image_is done;
          table_is = joined.table_of.table_is;
        }

    pub is_run : {history : List (ℕ × StopEntry)} (result : Result Values Cause) → IsAnswer job rows loops collected history result → IsRun words (course_of after) link peer result
    is_run (Ok table) answer =
        let some = laws.got_images run ran in
        record {
          worth_is = λ tell bytes told base may.
              let joined = answer.table.1 in
              let worth_of = laws.done_worth run joined.end bytes base joined.table_of.image ran may in
              let both = worth_of joined.end_is joined.table_of.image_is answer.table.0 told (wound.settled tell joined.end joined.end_is) in
              (both.1, joined.table_of.table_is ∙ both.0);
          cause = tt;
          inputs = come;
          chain = λ tell bytes told base may. (chained ran.end ran.end_is tell bytes told base may).0;
          kept_some = some.0;
          last = ends_in table answer.table.0 answer.table.1;
          never_falls = some.1;
        }
    is_run (Err cause) answer =
        let some = laws.got_images run ran in
        record {
          worth_is = tt;
          cause = elim answer.cause [
            | inl memory ↦ subst (HasItsGrounds words (course_of after) link peer) (sym memory) tt
            | inr fault ↦
                let large : HasLargeImage words run → TellsLargeImage words (course_of after) = λ big tell bytes told.
                big ran.end bytes ran.end_is told (wound.settled tell ran.end ran.end_is) in
                let grounds = laws.grounds run after cause ran wound.are_left (wound.many ∙ sym ran.inputs_many) in
                cause_with words (course_of after) wound.risen wound.met large cause (grounds fault.0 fault.1 fault.2)
          ];
          inputs = come;
          chain = λ tell bytes told base may. (chained ran.end ran.end_is tell bytes told base may).0;
          kept_some = some.0;
          last = tt;
          never_falls = some.1;
        }

-- ---- the answer of a run

is_memory : (cause : Cause) → (cause ≡ causes.Memory) ⊎ (cause ≢ causes.Memory)
is_memory causes.Memory = inl refl
is_memory other = inr (λ e. absurd (cc))

-- What all workers came to, by the history that the stop cell tells.
pub record IsOutcome {S O I : Type 0} (rows : List (Items (TaskPlace S))) (loops : List (Items (LoopPlace O I))) (collected : Place CollectTask CollectEnd)
    (met : List (ℕ × StopEntry)) (cause : Cause) : Type 0 where
  pub done : cause ≡ causes.Done → AllDone rows loops collected
  pub ended : cause ≢ causes.Done → cause ≢ causes.Memory → HasEnded rows loops collected cause
  pub not_stopped : cause ≢ causes.Stopped
  pub first : cause ≢ causes.Done → cause ≢ causes.Memory → first_met met ≡ Some cause

module _ {S O I : Type 0} {rows : List (Items (TaskPlace S))} {loops : List (Items (LoopPlace O I))} {collected : Place CollectTask CollectEnd}
    {met : List (ℕ × StopEntry)} {cause : Cause} where
  -- The places were looked at where they were lent.
  pub of_lent : {seen_rows : List (Items (TaskPlace S))} {seen_loops : List (Items (LoopPlace O I))} → seen_rows ≡ rows → seen_loops ≡ loops →
      IsOutcome seen_rows seen_loops collected met cause → IsOutcome rows loops collected met cause
  of_lent {seen_rows = seen_rows} same_rows same_loops outcome =
      subst (λ (r : List (Items (TaskPlace S))). IsOutcome r loops collected met cause) same_rows
      (subst (λ (l : List (Items (LoopPlace O I))). IsOutcome seen_rows l collected met cause) same_loops outcome)

  module _ (outcome : IsOutcome rows loops collected met cause) where
    has_fault : (fault : Cause) → IsFaultOf cause fault → (fault ≡ causes.Memory) ⊎ (HasEnded rows loops collected fault × (fault ≢ causes.Done) × (fault ≢ causes.Stopped) × (first_met met ≡ Some fault))
    has_fault fault (inl memory) = inl memory
    has_fault fault (inr same) = elim (is_memory cause) [
      | inl memory ↦ inl (same.0 ∙ memory)
      | inr other ↦
          let is : cause ≡ fault = sym same.0 in
          let not : cause ≢ causes.Done = (λ e. same.1 (same.0 ∙ e)) in
          inr (subst (λ (f : Cause). HasEnded rows loops collected f) is (outcome.ended not other), same.1, subst (λ (f : Cause). f ≢ causes.Stopped) is outcome.not_stopped, subst (λ (f : Cause). first_met met ≡ Some f) is (outcome.first not other))
    ]

    pub is_answer : {job : Job} (result : Result Values Cause) (end : CollectEnd) → collected ≡ Ended end →
        OnOk result (cause ≡ causes.Done) → IfOk result (λ table. IsTableOf job end.last table) → IfErr result (λ fault. IsFaultOf cause fault) →
        IsAnswer job rows loops collected met result
    is_answer (Ok table) end is is_done table_of fault = record { table = (outcome.done is_done, record { end = end; end_is = is; table_of = table_of }); cause = tt }
    is_answer (Err found) end is is_done table_of fault = record { table = tt; cause = has_fault found fault }

    -- One that was done has a last image, where it has one.
    pub has_image : (end : CollectEnd) → collected ≡ Ended end → (end.cause ≡ causes.Done → IsSome end.last) → cause ≡ causes.Done → IsSome end.last
    has_image end is has done = has (done_cause end is (outcome.done done).by_collector)

-- Workers that have ended have ended where their places are lent.
pub ended_lent : {S O I : Type 0} {belong : O → I → Type 0} {sent : O → Option (List ℕ)} {got : I → Option (List ℕ)} {job : Job} {size : ℕ} {edges : List Edge}
    {rows lent_rows : List (Items (TaskPlace S))} {loops lent_loops : List (Items (LoopPlace O I))} → lent_rows ≡ rows → lent_loops ≡ loops →
    AreEnded belong sent got job size edges rows loops → AreEnded belong sent got job size edges lent_rows lent_loops
ended_lent same_rows same_loops ended = rw (sym same_rows, sym same_loops) at ended
