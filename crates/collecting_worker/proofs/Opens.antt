-- How the worker stands while a checkpoint is open.
use Rattle.std.proofs.Common.{◌⊎◌, ⊎_elim, inl, inr, ◌≡◌, ◌≢◌, ℕ, zero, suc, ◌+◌, ◌<◌, Bool, true, false, cond, ◌&&◌, eqb, List, [], ◌∷◌, ◌++◌, length, take, drop, get_or, Option, Some, None, refl, sym, ap, ◌∙◌, subst, arith}
use Rattle.std.specs.Prelude.{All, AllPairs, Contains, IfNone, IfSome, IsSomeAnd, MatchOption, Vec, remove, slice_index_or}
use Rattle.std.specs.declared.alloc.Global.{Global}
use Rattle.std.proofs.lemmas.Bool.{and_parts, eqb-true, eq-eqb}
use Rattle.std.proofs.lemmas.List.{get_or-take, get_or-drop, length-drop, length-take}
use Rattle.std.proofs.lemmas.List.Elements.{All-append, All-take, All-drop, All-push, All-weaker, All-contains, All-from_get_or, All-get_or, Contains-append_left, Contains-push, Contains-push_cases, recursion_from_All}
use Rattle.std.proofs.lemmas.List.Quantifiers.{all_pairs_push, all_pairs_remove}
use Rattle.std.proofs.lemmas.Option.{same_Some}
use Rattle.flow_defs.specs.declared.job.Job.{Job}
use Rattle.flow_defs.specs.declared.image.Image.{Image}
use Rattle.flow_defs.specs.declared.image.Saved.{Saved}
use Rattle.flow_defs.specs.declared.image.Snapshot.{Snapshot}
use Rattle.flow_defs.specs.declared.image.TakeRun.{TakeRun}
use Rattle.flow_defs.specs.Jobs.{tasks}
use Rattle.collector.specs.declared.collector.Checkpoint.{Checkpoint}
use Rattle.collector.specs.declared.collector.Collector.{Collector}
use Rattle.collector.specs.Collecting.{IsCollector, IsDue, IsOneMore, IsCompleted, IsOfCheckpoint, acknowledged, and_one}
use Rattle.collector.specs.Fitting as fitting
use Rattle.collector.specs.Fitting.{AreTakes, IsSnapshotOf}
use Rattle.collector.specs.Images.{IsImageOf}
use Rattle.collector.specs.Pieces.{IsInto, IsOutOf}
use Rattle.checkpoint_laws.specs.Chapters.{task_at}
use Rattle.job_start.specs.declared.start.Start.{Start}
use Rattle.job_start.specs.Starts.{was_ended}
use Rattle.snapshot_channel.specs.declared.opened.CollectingPass.{CollectingPass}
use Rattle.snapshot_channel.specs.Snapshots.{IsTask, FitsTask, MaySend, AreTakesAt, LeadsTo, ComesFrom, snapshots_of}
use Rattle.snapshot_channel.specs.Passes.{IsCollecting, opening, opening_of, received_by}
use Rattle.snapshot_channel.specs.declared.views.Opening.{Opening}
use Rattle.collecting_worker.specs.declared.gathering.Gathering.{Gathering}
use Rattle.collecting_worker.specs.Images.{IsSnapshotFor}
use Rattle.collecting_worker.specs.Gathering.{AreReceived, AreTwo, HadEnded, MayBeLast, IsGathering, IsBetween, IsMissing, HasOpen, IsOpen, IsInHand, IsComplete, job_of, start_of, every_of}
use Rattle.collecting_worker.proofs.Members.{In, contains_in, in_contained}
use Rattle.collecting_worker.proofs.Receipts.{larger, received_more}

-- ---- what a snapshot fits

takes_at : (job : Job) (i a : ℕ) (runs : List TakeRun) → AreTakesAt job i a runs → AreTakes job i a runs
takes_at job zero a runs h = h
takes_at job (suc e) a runs h = h

pub fits : (job : Job) (final_one : Bool) (x : Snapshot) → IsTask job x.task → FitsTask job x → (final_one ≡ true → x.task.stage ≡ 0 → x.ended ≡ true) → fitting.FitsTask job final_one x
fits job final_one x is_task h ended = record {
  task = (is_task.stage_is, is_task.index_is);
  keys = h.keys;
  runs = takes_at job x.task.stage x.task.index x.takes.items h.runs;
  saved_in = recursion_from_All (IsInto job x.task.stage x.task.index) x.saved_in.items
      (All-weaker (λ (p : Saved). LeadsTo job x.task p.channel) (IsInto job x.task.stage x.task.index) (λ p l. record { stage_is = sym l.edge_is; index_is = sym l.to_is; channel = l.channel_is }) x.saved_in.items h.came_in);
  saved_out = recursion_from_All (IsOutOf job x.task.stage x.task.index) x.saved_out.items
      (All-weaker (λ (p : Saved). ComesFrom job x.task p.channel) (IsOutOf job x.task.stage x.task.index) (λ p l. record { stage_is = sym l.edge_is; index_is = sym l.from_is; channel = l.channel_is }) x.saved_out.items h.goes_out);
  ended = ended;
}

-- ---- one more is received

still_ended : (received : List Snapshot) (x : Snapshot) (a k : ℕ) → HadEnded received a k → HadEnded (received ++ x ∷ []) a k
still_ended received x a k h = record {
  snapshot = h.snapshot;
  received_it = Contains-append_left received (x ∷ []) h.snapshot h.received_it;
  task_is = h.task_is;
  before = h.before;
  ended = h.ended;
}

still_last : (job : Job) (start : Start) (every : Option ℕ) (received : List Snapshot) (x : Snapshot) (k : ℕ) → MayBeLast job start every received k → MayBeLast job start every (received ++ x ∷ []) k
still_last job start None received x k h = tt
still_last job start (Some n) received x k h = λ a low. ⊎_elim (λ (was : was_ended start a ≡ true). inl was) (λ (had : HadEnded received a k). inr (still_ended received x a k had)) (h a low)

still_for : (received : List Snapshot) (x y : Snapshot) (i a k : ℕ) → IsSnapshotFor received i a k y → IsSnapshotFor (received ++ x ∷ []) i a k y
still_for received x y i a k h = record { received_it = Contains-append_left received (x ∷ []) y h.received_it; task_is = h.task_is; number_is = h.number_is }

none_or : (found : Option Snapshot) → ((y : Snapshot) → found ≡ Some y → ⊥) → found ≡ None
none_or None never = refl
none_or (Some y) never = absurd (never y refl)

module _ (g : Gathering) (pass : CollectingPass) (x : Snapshot) (is_pass : IsCollecting g.channel.now pass) (more : received_by pass ≡ received_by g.pass ++ x ∷ [])
    (is_task : IsTask (opening_of g.channel.now).job x.task) (may : MaySend (opening_of g.channel.now) x.task (snapshots_of x.task (received_by g.pass)) x) where
  abbrev got : Gathering
  got = record { collector = g.collector; channel = g.channel; pass = pass; ahead = g.ahead }

  pub gathers_more : IsGathering g → IsGathering got
  gathers_more h =
      let task_is : IsTask (job_of g) x.task = subst (λ (o : Opening). IsTask o.job x.task) h.opening_is is_task in
      let may_is = subst (λ (o : Opening). MaySend o x.task (snapshots_of x.task (received_by g.pass)) x) h.opening_is may in
      record {
        collector = h.collector;
        pass = is_pass;
        opening_is = h.opening_is;
        received = subst (AreReceived (job_of g) (start_of g) (every_of g)) (sym more) (received_more (job_of g) (start_of g) (every_of g) (received_by g.pass) x task_is may_is h.received);
        ahead = subst (λ l. All (Contains l) g.ahead.items) (sym more)
            (All-weaker (Contains (received_by g.pass)) (Contains (received_by g.pass ++ x ∷ [])) (λ y c. Contains-append_left (received_by g.pass) (x ∷ []) y c) g.ahead.items h.ahead);
        once = h.once;
      }

  pub open_more : (cp : Checkpoint) → HasOpen cp g → HasOpen cp got
  open_more cp h = record {
    gathering = gathers_more h.gathering;
    opened = h.opened;
    last = λ final. subst (λ l. MayBeLast (job_of g) (start_of g) (every_of g) l cp.number) (sym more) (still_last (job_of g) (start_of g) (every_of g) (received_by g.pass) x cp.number (h.last final));
    acknowledged_are = λ i a y is at. subst (λ l. IsSnapshotFor l i a cp.number y) (sym more) (still_for (received_by g.pass) x y i a cp.number (h.acknowledged_are i a y is at));
    missing = h.missing;
  }

  pub in_hand_received : (cp : Checkpoint) → IsOpen cp g → IsInHand cp got x
  in_hand_received cp whole =
      let h = whole.has_open in
      let task_is : IsTask (job_of g) x.task = subst (λ (o : Opening). IsTask o.job x.task) h.gathering.opening_is is_task in
      let may_is = subst (λ (o : Opening). MaySend o x.task (snapshots_of x.task (received_by g.pass)) x) h.gathering.opening_is may in
      let above = larger (job_of g) (start_of g) (every_of g) (received_by g.pass) x task_is may_is h.gathering.received in
      record {
        is_open = open_more cp h;
        received_it = subst (λ l. Contains l x) (sym more) (Contains-push (received_by g.pass) x);
        missing = λ at. none_or (acknowledged g.collector x.task.stage x.task.index) (λ y is.
            let from = h.acknowledged_are x.task.stage x.task.index y (task_is.stage_is, task_is.index_is) is in
            let low = above y from.received_it from.task_is in
            omega (arith, low, from.number_is, at));
        other = All-weaker (Contains (received_by g.pass)) (AreTwo x) (λ y c same e. let low = above y c (sym same) in omega (arith, low, e)) g.ahead.items h.gathering.ahead;
        kept = λ y c. ⊎_elim (λ old. inl (whole.kept y old)) (λ e. inr e) (Contains-push_cases (received_by g.pass) x y (subst (λ l. Contains l y) more c));
      }

-- ---- none is received

module _ (g : Gathering) (pass : CollectingPass) (is_pass : IsCollecting g.channel.now pass) (same : received_by pass ≡ received_by g.pass) where
  pub open_still : (cp : Checkpoint) → IsOpen cp g → IsOpen cp (record { collector = g.collector; channel = g.channel; pass = pass; ahead = g.ahead })
  open_still cp whole =
      let h = whole.has_open in
      record {
        has_open = record {
          gathering = record {
            collector = h.gathering.collector;
            pass = is_pass;
            opening_is = h.gathering.opening_is;
            received = subst (AreReceived (job_of g) (start_of g) (every_of g)) (sym same) h.gathering.received;
            ahead = subst (λ l. All (Contains l) g.ahead.items) (sym same) h.gathering.ahead;
            once = h.gathering.once;
          };
          opened = h.opened;
          last = λ final. subst (λ l. MayBeLast (job_of g) (start_of g) (every_of g) l cp.number) (sym same) (h.last final);
          acknowledged_are = λ i a y is at. subst (λ l. IsSnapshotFor l i a cp.number y) (sym same) (h.acknowledged_are i a y is at);
          missing = h.missing;
        };
        kept = λ y c. whole.kept y (subst (λ l. Contains l y) same c);
      }

-- ---- one that waits is taken out

two_turned : (x y : Snapshot) → AreTwo x y → AreTwo y x
two_turned x y two same e = two (sym same) (sym e)

module _ (xs : List Snapshot) (k : ℕ) (x : Snapshot) (low : k < length xs) (is : slice_index_or xs k x ≡ x) (once : AllPairs AreTwo xs) where
  others_before : All (AreTwo x) (take k xs)
  others_before = All-from_get_or (AreTwo x) (take k xs) x (λ i within.
      let under : i < k = omega (arith, within, length-take k xs) in
      subst (AreTwo x) (sym (get_or-take k xs i x under)) (two_turned (get_or xs i x) x (subst (AreTwo (get_or xs i x)) is (once i k x under low))))

  others_behind : All (AreTwo x) (drop (suc k) xs)
  others_behind = All-from_get_or (AreTwo x) (drop (suc k) xs) x (λ i within.
      let over : suc k + i < length xs = omega (arith, within, length-drop (suc k) xs) in
      subst (AreTwo x) (sym (get_or-drop (suc k) xs i x)) (subst (λ y. AreTwo y (get_or xs (suc k + i) x)) is (once k (suc k + i) x (omega arith) over)))

  others : All (AreTwo x) (remove xs k)
  others = All-append (AreTwo x) (take k xs) (drop (suc k) xs) others_before others_behind

all_removed : (P : Snapshot → Type 0) (xs : List Snapshot) (k : ℕ) → All P xs → All P (remove xs k)
all_removed P xs k h = All-append P (take k xs) (drop (suc k) xs) (All-take P k xs h) (All-drop P (suc k) xs h)

removed_or : (xs : List Snapshot) (k : ℕ) (x y : Snapshot) → slice_index_or xs k x ≡ x → In xs y → In (remove xs k) y ⊎ (x ≡ y)
removed_or [] k x y is i = absurd i
removed_or (z ∷ xs) zero x y is (inl e) = inr (sym is ∙ e)
removed_or (z ∷ xs) zero x y is (inr i) = inl i
removed_or (z ∷ xs) (suc k) x y is (inl e) = inl (inl e)
removed_or (z ∷ xs) (suc k) x y is (inr i) = ⊎_elim (λ here. inl (inr here)) (λ e. inr e) (removed_or xs k x y is i)

pub in_hand_taken : (g : Gathering) (ahead : Vec Snapshot Global) (cp : Checkpoint) (k : ℕ) (x : Snapshot) → k < length g.ahead.items → slice_index_or g.ahead.items k x ≡ x → ahead.items ≡ remove g.ahead.items k
    → IsOpen cp g → IsInHand cp (record { collector = g.collector; channel = g.channel; pass = g.pass; ahead = ahead }) x
in_hand_taken g ahead cp k x low is rest whole =
    let h = whole.has_open in
    let xs = g.ahead.items in
    let inside : Contains xs x = (k, low, is) in
    record {
      is_open = record {
        gathering = record {
          collector = h.gathering.collector;
          pass = h.gathering.pass;
          opening_is = h.gathering.opening_is;
          received = h.gathering.received;
          ahead = subst (All (Contains (received_by g.pass))) (sym rest) (all_removed (Contains (received_by g.pass)) xs k h.gathering.ahead);
          once = subst (AllPairs AreTwo) (sym rest) (all_pairs_remove AreTwo xs k low h.gathering.once);
        };
        opened = h.opened;
        last = h.last;
        acknowledged_are = h.acknowledged_are;
        missing = subst (All (IsMissing g.collector cp.number)) (sym rest) (all_removed (IsMissing g.collector cp.number) xs k h.missing);
      };
      received_it = All-contains (Contains (received_by g.pass)) xs x h.gathering.ahead inside;
      missing = All-contains (IsMissing g.collector cp.number) xs x h.missing inside;
      other = subst (All (AreTwo x)) (sym rest) (others xs k x low is h.gathering.once);
      kept = λ y c. ⊎_elim
          (λ before. inl (inl before))
          (λ later. ⊎_elim
          (λ waits. ⊎_elim (λ still. inl (inr (inl (subst (λ l. Contains l y) (sym rest) (contains_in (remove xs k) y still))))) (λ e. inr e) (removed_or xs k x y is (in_contained xs y waits)))
          (λ acked. inl (inr (inr acked))) later)
          (whole.kept y c);
    }

-- ---- one more waits

pub open_waiting : (g : Gathering) (ahead : Vec Snapshot Global) (cp : Checkpoint) (x : Snapshot) → x.number ≢ cp.number → ahead.items ≡ g.ahead.items ++ x ∷ []
    → IsInHand cp g x → IsOpen cp (record { collector = g.collector; channel = g.channel; pass = g.pass; ahead = ahead })
open_waiting g ahead cp x later more h =
    let xs = g.ahead.items in
    let was = h.is_open in
    record {
      has_open = record {
        gathering = record {
          collector = was.gathering.collector;
          pass = was.gathering.pass;
          opening_is = was.gathering.opening_is;
          received = was.gathering.received;
          ahead = subst (All (Contains (received_by g.pass))) (sym more) (All-push (Contains (received_by g.pass)) xs x was.gathering.ahead h.received_it);
          once = subst (AllPairs AreTwo) (sym more) (all_pairs_push AreTwo xs x was.gathering.once (λ k d low. two_turned x (get_or xs k d) (All-get_or (AreTwo x) xs k d low h.other)));
        };
        opened = was.opened;
        last = was.last;
        acknowledged_are = was.acknowledged_are;
        missing = subst (All (IsMissing g.collector cp.number)) (sym more) (All-push (IsMissing g.collector cp.number) xs x was.missing (λ at. absurd (later at)));
      };
      kept = λ y c. ⊎_elim
          (λ kept. ⊎_elim
          (λ before. inl before)
          (λ later. ⊎_elim (λ waits. inr (inl (subst (λ l. Contains l y) (sym more) (Contains-append_left xs (x ∷ []) y waits)))) (λ acked. inr (inr acked)) later) kept)
          (λ e. inr (inl (subst (λ l. Contains l y) (sym more) (subst (Contains (xs ++ x ∷ [])) e (Contains-push xs x)))))
          (h.kept y c);
    }

-- ---- it is acknowledged

of_some : (opened : Option Checkpoint) (P : Checkpoint → Type 0) (checkpoint : Checkpoint) → opened ≡ Some checkpoint → P checkpoint → IsSomeAnd opened P
of_some opened P checkpoint is p = subst (λ o. IsSomeAnd o P) (sym is) p

from_some : (opened : Option Checkpoint) (P : Checkpoint → Type 0) (checkpoint : Checkpoint) → opened ≡ Some checkpoint → IsSomeAnd opened P → P checkpoint
from_some opened P checkpoint is p = let q = subst (λ o. IsSomeAnd o P) is p in q

-- a source is at its end at a last checkpoint
ended_at_last : (job : Job) (start : Start) (every : Option ℕ) (received : List Snapshot) (cp : Checkpoint) (x : Snapshot) → AreReceived job start every received → MayBeLast job start every received cp.number → Contains received x → x.number ≡ cp.number → IsTask job x.task
    → x.task.stage ≡ 0 → x.ended ≡ true
ended_at_last job start None received cp x h may c at is_task first = h.all_ended refl x c first
ended_at_last job start (Some n) received cp x h may c at is_task first = ⊎_elim
    (λ (was : was_ended start x.task.index ≡ true). h.were_ended x c first was)
    (λ (had : HadEnded received x.task.index cp.number).
    let same : had.snapshot.task ≡ x.task = had.task_is ∙ ap (λ s. task_at s x.task.index) (sym first) in
    h.stay_ended had.snapshot x had.received_it c same first (omega (arith, had.before, at)) had.ended)
    (may x.task.index (subst (λ s. x.task.index < tasks job s) first is_task.index_is))

module _ (g : Gathering) (cp : Checkpoint) (x : Snapshot) (h : IsInHand cp g x) (at : x.number ≡ cp.number) where
  pub fits_here : fitting.FitsTask (job_of g) cp.final_one x
  fits_here =
      let f = h.is_open.gathering.received.fit x h.received_it in
      fits (job_of g) cp.final_one x f.0 f.1 (λ final first. ended_at_last (job_of g) (start_of g) (every_of g) (received_by g.pass) cp x h.is_open.gathering.received (h.is_open.last final) h.received_it at f.0 first)

  pub due : IsDue g.collector x
  due = record {
    of_open = of_some g.collector.opened (IsOfCheckpoint (job_of g) x) cp h.is_open.opened (record { number = at; fits = fits_here });
    missing = h.missing at;
  }

  for_it : (i a : ℕ) → x.task.stage ≡ i → x.task.index ≡ a → IsSnapshotFor (received_by g.pass) i a cp.number x
  for_it i a stage index = record { received_it = h.received_it; task_is = ap (λ (p : ℕ × ℕ). task_at p.0 p.1) (λ j. (stage j, index j)); number_is = at }

  -- those acknowledged, and this one
  acknowledged_for : (i a : ℕ) (y : Snapshot) → fitting.IsTask (job_of g) i a → and_one (acknowledged g.collector) x i a ≡ Some y → IsSnapshotFor (received_by g.pass) i a cp.number y
  acknowledged_for i a y is =
      elim (eqb x.task.stage i && eqb x.task.index a) as (λ b. (eqb x.task.stage i && eqb x.task.index a) ≡ b → cond b (Some x) (acknowledged g.collector i a) ≡ Some y → IsSnapshotFor (received_by g.pass) i a cp.number y) [
        | true ↦ λ e some. let parts = and_parts (eqb x.task.stage i) (eqb x.task.index a) e in subst (IsSnapshotFor (received_by g.pass) i a cp.number) (same_Some x y some) (for_it i a (eqb-true x.task.stage i parts.0) (eqb-true x.task.index a parts.1))
        | false ↦ λ e some. h.is_open.acknowledged_are i a y is some
      ] refl

  module _ (c : Collector) (is_collector : IsCollector c) (same : c.job ≡ g.collector.job) where
    abbrev acked : Gathering
    acked = record { collector = c; channel = g.channel; pass = g.pass; ahead = g.ahead }

    pub gathers_acked : IsGathering acked
    gathers_acked =
        let was = h.is_open.gathering in
        record {
          collector = is_collector;
          pass = was.pass;
          opening_is = subst (λ j. opening_of g.channel.now ≡ opening j (start_of g) (every_of g)) (ap (λ j. j.now) (sym same)) was.opening_is;
          received = subst (λ j. AreReceived j (start_of g) (every_of g) (received_by g.pass)) (ap (λ j. j.now) (sym same)) was.received;
          ahead = was.ahead;
          once = was.once;
        }

    still_missing : IsOneMore g.collector x c → (y : Snapshot) → AreTwo x y → Contains (received_by g.pass) y → IsMissing g.collector cp.number y → IsMissing c cp.number y
    still_missing more y two inside was now =
        let f = h.is_open.gathering.received.fit y inside in
        more.one_more y.task.stage y.task.index (f.0.stage_is, f.0.index_is)
        ∙ else_one (eqb x.task.stage y.task.stage && eqb x.task.index y.task.index) refl
      where
        else_one : (b : Bool) → (eqb x.task.stage y.task.stage && eqb x.task.index y.task.index) ≡ b → cond b (Some x) (acknowledged g.collector y.task.stage y.task.index) ≡ None
        else_one true e =
            let parts = and_parts (eqb x.task.stage y.task.stage) (eqb x.task.index y.task.index) e in
            let stage = eqb-true x.task.stage y.task.stage parts.0 in
            let index = eqb-true x.task.index y.task.index parts.1 in
            absurd (two (ap (λ (p : ℕ × ℕ). task_at p.0 p.1) (λ j. (stage j, index j))) (at ∙ sym now))
        else_one false e = was now

    has_open_acked : IsOneMore g.collector x c → HasOpen cp acked
    has_open_acked more = record {
      gathering = gathers_acked;
      opened = more.same_open ∙ h.is_open.opened;
      last = λ final. subst (λ j. MayBeLast j (start_of g) (every_of g) (received_by g.pass) cp.number) (ap (λ j. j.now) (sym same)) (h.is_open.last final);
      acknowledged_are = λ i a y is some.
          let task_is : fitting.IsTask (job_of g) i a = subst (λ j. fitting.IsTask j i a) (ap (λ j. j.now) same) is in
          acknowledged_for i a y task_is (sym (more.one_more i a task_is) ∙ some);
      missing = all_both g.ahead.items h.other h.is_open.gathering.ahead h.is_open.missing;
    }
      where
        all_both : (ys : List Snapshot) → All (AreTwo x) ys → All (Contains (received_by g.pass)) ys → All (IsMissing g.collector cp.number) ys → All (IsMissing c cp.number) ys
        all_both ys two inside was = λ k d low. still_missing more (slice_index_or ys k d) (two k d low) (inside k d low) (was k d low)

    -- it stands for its task now, and the others do as before
    ack_is : IsOneMore g.collector x c → (y : Snapshot) → Contains (received_by g.pass) y → acknowledged g.collector y.task.stage y.task.index ≡ Some y → acknowledged c y.task.stage y.task.index ≡ Some y
    ack_is more y inside some =
        let f = h.is_open.gathering.received.fit y inside in
        more.one_more y.task.stage y.task.index (f.0.stage_is, f.0.index_is) ∙ by (eqb x.task.stage y.task.stage && eqb x.task.index y.task.index) refl
      where
        by : (b : Bool) → (eqb x.task.stage y.task.stage && eqb x.task.index y.task.index) ≡ b → cond b (Some x) (acknowledged g.collector y.task.stage y.task.index) ≡ Some y
        by true e =
            let parts = and_parts (eqb x.task.stage y.task.stage) (eqb x.task.index y.task.index) e in
            let stage = eqb-true x.task.stage y.task.stage parts.0 in
            let index = eqb-true x.task.index y.task.index parts.1 in
            let none : acknowledged g.collector y.task.stage y.task.index ≡ None = subst (λ (p : ℕ × ℕ). acknowledged g.collector p.0 p.1 ≡ None) (λ j. (stage j, index j)) (h.missing at) in
            absurd (cc)
        by false e = some

    ack_here : IsOneMore g.collector x c → acknowledged c x.task.stage x.task.index ≡ Some x
    ack_here more =
        let f = h.is_open.gathering.received.fit x h.received_it in
        let same_task : (eqb x.task.stage x.task.stage && eqb x.task.index x.task.index) ≡ true = ap (λ b. b && eqb x.task.index x.task.index) (eq-eqb x.task.stage x.task.stage refl) ∙ eq-eqb x.task.index x.task.index refl in
        more.one_more x.task.stage x.task.index (f.0.stage_is, f.0.index_is) ∙ ap (λ b. cond b (Some x) (acknowledged g.collector x.task.stage x.task.index)) same_task

    pub open_acked : IsOneMore g.collector x c → IsOpen cp acked
    open_acked more = record {
      has_open = has_open_acked more;
      kept = λ y inside. ⊎_elim
          (λ kept. ⊎_elim (λ before. inl before) (λ later. ⊎_elim (λ waits. inr (inl waits)) (λ some. inr (inr (ack_is more y inside some))) later) kept)
          (λ e. inr (inr (subst (λ (z : Snapshot). acknowledged c z.task.stage z.task.index ≡ Some z) e (ack_here more))))
          (h.kept y inside);
    }

    pub between_acked : (image : Image) → IsCompleted g.collector x c image → IsBetween (cp.number + 1) acked
    between_acked image done = record {
      gathering = gathers_acked;
      closed = done.closed;
      kept = λ y inside. ⊎_elim
          (λ kept. ⊎_elim
          (λ before. inl (omega (arith, before)))
          (λ later. ⊎_elim
          (λ waits. inr waits)
          (λ some. let f = h.is_open.gathering.received.fit y inside in
          let it = h.is_open.acknowledged_are y.task.stage y.task.index y (f.0.stage_is, f.0.index_is) some in inl (omega (arith, it.number_is)))
          later) kept)
          (λ e. let number : y.number ≡ x.number = ap (λ (z : Snapshot). z.number) (sym e) in inl (omega (arith, number, at)))
          (h.kept y inside);
    }

    pub complete_acked : (image : Image) → IsCompleted g.collector x c image → IsComplete (job_of acked) (received_by g.pass) cp image
    complete_acked image done =
        let made = from_some g.collector.opened (λ (checkpoint : Checkpoint).
        IsImageOf (job_of g) checkpoint.number checkpoint.final_one done.snapshots image
        × ((i a : ℕ) → fitting.IsTask (job_of g) i a → IsSnapshotOf (job_of g) checkpoint.final_one i a (done.snapshots i a))) cp h.is_open.opened done.made in
        subst (λ j. IsComplete j (received_by g.pass) cp image) (ap (λ j. j.now) (sym same)) (record {
          snapshot = done.snapshots;
          image_is = made.0;
          fit = made.1;
          each = λ i a is. acknowledged_for i a (done.snapshots i a) is (done.all i a is);
        })

-- ---- a checkpoint is opened

pub opens : (g : Gathering) (cp : Checkpoint) (c : Collector) → IsBetween cp.number g → (cp.final_one ≡ true → MayBeLast (job_of g) (start_of g) (every_of g) (received_by g.pass) cp.number)
    → IsCollector c → c.job ≡ g.collector.job → c.opened ≡ Some cp → ((i a : ℕ) → acknowledged c i a ≡ None) → IsOpen cp (record { collector = c; channel = g.channel; pass = g.pass; ahead = g.ahead })
opens g cp c h last is_collector same opened none =
    let was = h.gathering in
    record {
      has_open = record {
        gathering = record {
          collector = is_collector;
          pass = was.pass;
          opening_is = subst (λ j. opening_of g.channel.now ≡ opening j (start_of g) (every_of g)) (ap (λ j. j.now) (sym same)) was.opening_is;
          received = subst (λ j. AreReceived j (start_of g) (every_of g) (received_by g.pass)) (ap (λ j. j.now) (sym same)) was.received;
          ahead = was.ahead;
          once = was.once;
        };
        opened = opened;
        last = λ final. subst (λ j. MayBeLast j (start_of g) (every_of g) (received_by g.pass) cp.number) (ap (λ j. j.now) (sym same)) (last final);
        acknowledged_are = λ i a y _ is. absurd (some_none y (sym (none i a) ∙ is));
        missing = λ k d low at. none (slice_index_or g.ahead.items k d).task.stage (slice_index_or g.ahead.items k d).task.index;
      };
      kept = λ y c. ⊎_elim (λ before. inl before) (λ waits. inr (inl waits)) (h.kept y c);
    }
  where
    some_none : (y : Snapshot) → None ≡ Some y → ⊥
    some_none y e = cc

-- ---- what the calls come to

pub in_hand_if : (g : Gathering) (pass : CollectingPass) (cp : Checkpoint) (r : Option Snapshot) → IsCollecting g.channel.now pass → MatchOption r (received_by pass ≡ received_by g.pass) (λ x. received_by pass ≡ received_by g.pass ++ x ∷ [])
    → IfSome r (λ x. IsTask (opening_of g.channel.now).job x.task × MaySend (opening_of g.channel.now) x.task (snapshots_of x.task (received_by g.pass)) x) → IsOpen cp g
    → IfSome r (IsInHand cp (record { collector = g.collector; channel = g.channel; pass = pass; ahead = g.ahead }))
in_hand_if g pass cp None is_pass received next h = tt
in_hand_if g pass cp (Some x) is_pass received next h = in_hand_received g pass x is_pass received next.0 next.1 cp h

pub open_if_none : (g : Gathering) (pass : CollectingPass) (cp : Checkpoint) (r : Option Snapshot) → IsCollecting g.channel.now pass → MatchOption r (received_by pass ≡ received_by g.pass) (λ x. received_by pass ≡ received_by g.pass ++ x ∷ [])
    → IsOpen cp g → IfNone r (IsOpen cp (record { collector = g.collector; channel = g.channel; pass = pass; ahead = g.ahead }))
open_if_none g pass cp None is_pass received h = open_still g pass is_pass received cp h
open_if_none g pass cp (Some x) is_pass received h = tt

pub in_hand_of : (g : Gathering) (ahead : Vec Snapshot Global) (cp : Checkpoint) (x : Snapshot) → (x.number ≡ cp.number) × ((k : ℕ) × (k < length g.ahead.items) × (slice_index_or g.ahead.items k x ≡ x) × (ahead.items ≡ remove g.ahead.items k))
    → IsOpen cp g → IsInHand cp (record { collector = g.collector; channel = g.channel; pass = g.pass; ahead = ahead }) x
in_hand_of g ahead cp x from h = in_hand_taken g ahead cp from.1.0 x from.1.1 from.1.2 from.1.3 h

module _ (g : Gathering) (cp : Checkpoint) (x : Snapshot) (h : IsInHand cp g x) (at : x.number ≡ cp.number) (c : Collector) (is_collector : IsCollector c) (same : c.job ≡ g.collector.job) where
  pub open_if_more : (made : Option Image) → IfNone made (IsOneMore g.collector x c) → IfNone made (IsOpen cp (record { collector = c; channel = g.channel; pass = g.pass; ahead = g.ahead }))
  open_if_more None more = open_acked g cp x h at c is_collector same more
  open_if_more (Some image) more = tt

  pub complete_if : (made : Option Image) → IfSome made (IsCompleted g.collector x c) → IfSome made (IsComplete c.job.now (received_by g.pass) cp)
  complete_if None done = tt
  complete_if (Some image) done = complete_acked g cp x h at c is_collector same image done

  pub between_if : (made : Option Image) → IfSome made (IsCompleted g.collector x c) → IfSome made (λ _. IsBetween (cp.number + 1) (record { collector = c; channel = g.channel; pass = g.pass; ahead = g.ahead }))
  between_if None done = tt
  between_if (Some image) done = between_acked g cp x h at c is_collector same image done
