-- What a task sent on all its channels, and how it grows.
use Rattle.std.proofs.Common.{◌≡◌, ℕ, zero, suc, ◌+◌, ◌<◌, List, [], ◌∷◌, ◌++◌, length, take, drop, get_or, sym, ap, subst, ◌∙◌, append_assoc, append-nil, arith}
use Rattle.std.specs.Prelude.{⊤}
use Rattle.std.specs.List.{AllByRecursion}
use Rattle.std.proofs.lemmas.List.{map-append, take_more, take-append-drop, length-append}
use Rattle.flow_defs.specs.Items.{Items}
use Rattle.flow_defs.specs.declared.job.Job.{Job}
use Rattle.flow_defs.specs.declared.task.BarrierKind.{BarrierKind}
use Rattle.flow_defs.specs.Jobs.{exchange}
use Rattle.flow_defs.specs.Records.{all_encoded}
use Rattle.plain_machine.specs.Emitting.{receiver_on, emit, count_after}
use Rattle.subpartition.specs.declared.entry.SendEntry.TheVariants.{PutInline, Finish}
use Rattle.subpartition.specs.Sending.{barriers_put}
use Rattle.record_writer.specs.Writers as writers
use Rattle.record_writer.specs.Writers.{Writer, ways_on, receiver_at, laid_at, own_at, coming, IsSame, IsStill, IsOpen, IsNew, IsNextBarrier, HasEmitted, HasMarked, WasStopped, HasPutData, HasPutTowards, PutSome, PutAll, AreCut, last_put}
use Rattle.task_output.specs.Outputs.{Output, WritesFor, HasSent, HasStopped, HasFinished, all_of, count_behind, filling_at, end_of, bytes_of}
pub use Rattle.task_output.specs.Looking.{same_itself, same_twice}
use Rattle.task_output.proofs.Entries.{barriers_same, barriers_one}
use Rattle.task_output.proofs.OnChannel.{Laws, sent_then, begun_then, begun_barrier, begun_end, marked_then, finished_then}

-- ---- the same writer

pub writes_same : (job : Job) (e a size : ℕ) (w w' : Writer) → IsSame w w' → WritesFor job e a size w → WritesFor job e a size w'
writes_same job e a size w w' same for = record {
  job_is = same.job ∙ for.job_is;
  edge = same.edge ∙ for.edge;
  index = same.index ∙ for.index;
  size_is = same.size ∙ for.size_is;
}

-- ---- what comes to a channel

module _ (job : Job) (e a size : ℕ) (w : Writer) (for : WritesFor job e a size w) where
  pub ways_are : ways_on w.job w.edge ≡ ways_on job e
  ways_are = ap (λ (j : Job). ways_on j w.edge) for.job_is ∙ ap (ways_on job) for.edge

  coming_is : (n : ℕ) (rs : List (List ℕ)) (c : ℕ) → w.emitted ≡ n → coming w rs c ≡ all_encoded (emit (receiver_on job e a) n rs (end_of job e a c))
  coming_is n rs c counted =
      ap (λ (j : Job). all_encoded (emit (receiver_on j w.edge w.index) w.emitted rs (receiver_at (exchange j w.edge) w.index c))) for.job_is
      ∙ ap (λ (x : ℕ). all_encoded (emit (receiver_on job x w.index) w.emitted rs (receiver_at (exchange job x) w.index c))) for.edge
      ∙ ap (λ (x : ℕ). all_encoded (emit (receiver_on job e x) w.emitted rs (receiver_at (exchange job e) x c))) for.index
      ∙ ap (λ (x : ℕ). all_encoded (emit (receiver_on job e a) x rs (receiver_at (exchange job e) a c))) counted

-- one number of barriers and then the next
next_same : (k : ℕ) (xs ys : List (ℕ × BarrierKind)) → ys ≡ xs → k ≡ suc (length xs) → k ≡ suc (length ys)
next_same k xs ys is next = next ∙ ap (λ (l : List (ℕ × BarrierKind)). suc (length l)) (sym is)

next_one : (n : ℕ) (xs ys : List (ℕ × BarrierKind)) (x : ℕ × BarrierKind) → ys ≡ xs ++ x ∷ [] → suc n ≡ suc (length xs) → suc (suc n) ≡ suc (length ys)
next_one n xs ys x is next = ap suc (next ∙ omega (arith, length-append xs (x ∷ []))) ∙ ap (λ (l : List (ℕ × BarrierKind)). suc (length l)) (sym is)

module _ (laws : Laws) (from : ℕ) (job : Job) (e a size : ℕ) (old new : Output) (groups : List (List (List ℕ))) (records : List (List ℕ)) (same : IsSame old.writer new.writer) (was : HasSent from job e a size old groups records) where
  at_old : (c : ℕ) → c < ways_on job e → c < ways_on old.writer.job old.writer.edge
  at_old c inside = subst (λ n. c < n) (sym (ways_are job e a size old.writer was.writes_for)) inside

  at_old_of_new : (c : ℕ) → c < ways_on new.writer.job new.writer.edge → c < ways_on old.writer.job old.writer.edge
  at_old_of_new c inside =
      at_old c (subst (λ n. c < n) (ways_are job e a size new.writer (writes_same job e a size old.writer new.writer same was.writes_for)) inside)

  comes : (more : List (List ℕ)) (c : ℕ) → coming old.writer more c ≡ all_encoded (emit (receiver_on job e a) (count_after (count_behind from groups) records) more (end_of job e a c))
  comes more c = coming_is job e a size old.writer was.writes_for (count_after (count_behind from groups) records) more c (was.agrees ∙ was.counted)

  with_coming : (more : List (List ℕ)) (c : ℕ) → laid_at old.writer c ++ coming old.writer more c ≡ laid_at old.writer c ++ all_encoded (emit (receiver_on job e a) (count_after (count_behind from groups) records) more (end_of job e a c))
  with_coming more c = ap (λ l. laid_at old.writer c ++ l) (comes more c)

  -- it has emitted these records more
  pub sent_more : (more : List (List ℕ)) → IsOpen new.writer → HasEmitted old.writer new.writer more → HasPutData old.writer new.writer → new.emitted ≡ new.writer.emitted → HasSent from job e a size new groups (records ++ more)
  sent_more more is_open emitted grew counts = record {
    writes_for = writes_same job e a size old.writer new.writer same was.writes_for;
    is_open = is_open;
    next = λ c inside. let grown = grew c (at_old_of_new c inside) in
        next_same (suc (length groups)) (barriers_put (own_at old.writer c)) (barriers_put (own_at new.writer c)) (ap barriers_put grown.1 ∙ barriers_same (own_at old.writer c) grown.0) (was.next c (at_old_of_new c inside));
    counted = counts ∙ emitted.count ∙ ap (λ n. count_after n more) (was.agrees ∙ was.counted) ∙ sym (laws.count (count_behind from groups) records more);
    agrees = sym counts;
    each = λ c inside.
        sent_then laws (receiver_on job e a) (end_of job e a c) from groups records (own_at old.writer c) (filling_at old.writer c) (was.each c inside) (own_at new.writer c) more (filling_at new.writer c)
        (grew c (at_old c inside)) (emitted.each c (at_old c inside) ∙ with_coming more c);
  }

  some_at : (more : List (List ℕ)) (c : ℕ) → PutSome old.writer.size (own_at new.writer c) (laid_at old.writer c ++ coming old.writer more c) → PutSome size (own_at new.writer c) (laid_at old.writer c ++ all_encoded (emit (receiver_on job e a) (count_after (count_behind from groups) records) more (end_of job e a c)))
  some_at more c some = subst (λ s. PutSome s (own_at new.writer c) (laid_at old.writer c ++ all_encoded (emit (receiver_on job e a) (count_after (count_behind from groups) records) more (end_of job e a c)))) was.writes_for.size_is
      (subst (PutSome old.writer.size (own_at new.writer c)) (with_coming more c) some)

  -- it was stopped among these
  pub sent_until : (more : List (List ℕ)) → WasStopped old.writer new.writer more → HasPutData old.writer new.writer → new.emitted ≡ old.emitted → HasStopped from job e a size new groups records more ⊥ ⊥
  sent_until more stopped grew counts = record {
    fault = stopped.fault;
    begun_them = record {
      counted = counts ∙ was.counted;
      each = λ c inside.
          begun_then laws (receiver_on job e a) (end_of job e a c) from groups records (own_at old.writer c) (filling_at old.writer c) (was.each c inside) (own_at new.writer c) size more
          (some_at more c (stopped.each c (at_old c inside))) ⊥ (was.is_open.each c (at_old c inside)).0 (grew c (at_old c inside));
    };
  }

  -- it has put a barrier behind them
  pub sent_marked : (k : ℕ) → IsOpen new.writer → HasMarked old.writer new.writer k → new.emitted ≡ old.emitted → HasSent from job e a size new (groups ++ records ∷ []) []
  sent_marked k is_open marked counts = record {
    writes_for = writes_same job e a size old.writer new.writer same was.writes_for;
    is_open = is_open;
    next = λ c inside. let grown = marked.entries c (at_old_of_new c inside) in
        ap suc (omega (arith, length-append groups (records ∷ [])))
        ∙ next_one (length groups) (barriers_put (own_at old.writer c)) (barriers_put (own_at new.writer c)) _ (ap barriers_put grown.1 ∙ barriers_one (own_at old.writer c) grown.0 k) (was.next c (at_old_of_new c inside));
    counted = counts ∙ was.counted ∙ sym (laws.count from (all_of groups) records) ∙ ap (count_after from) (all_more groups records);
    agrees = marked.count ∙ was.agrees ∙ sym counts;
    each = λ c inside.
        marked_then laws (receiver_on job e a) (end_of job e a c) from groups records (own_at old.writer c) (filling_at old.writer c) (was.each c inside) (own_at new.writer c) k (filling_at new.writer c)
        (marked.entries c (at_old c inside)) (marked.whole c (at_old c inside)) (marked.none_filled c (at_old c inside));
  }
    where
      all_more : (gs : List (List (List ℕ))) (rs : List (List ℕ)) → all_of gs ++ rs ≡ all_of (gs ++ rs ∷ [])
      all_more [] rs = sym (append-nil rs)
      all_more (g ∷ gs) rs = append_assoc g (all_of gs) rs ∙ ap (λ l. g ++ l) (all_more gs rs)

  -- it was stopped at the barrier
  pub marked_until : (k : ℕ) → WasStopped old.writer new.writer [] → HasPutTowards (PutInline k) old.writer new.writer → new.emitted ≡ old.emitted → HasStopped from job e a size new groups records [] ⊤ ⊥
  marked_until k stopped grew counts = record {
    fault = stopped.fault;
    begun_them = record {
      counted = counts ∙ was.counted;
      each = λ c inside.
          begun_barrier laws (receiver_on job e a) (end_of job e a c) from groups records (own_at old.writer c) (filling_at old.writer c) (was.each c inside) (own_at new.writer c) size []
          (some_at [] c (stopped.each c (at_old c inside))) k (was.is_open.each c (at_old c inside)).0 (grew c (at_old c inside));
    };
  }

  -- it has ended its channels
  pub sent_whole : writers.HasFinished old.writer new.writer → new.emitted ≡ old.emitted → HasFinished from job e a size new groups records
  sent_whole finished counts = record {
    counted = counts ∙ was.counted;
    each = λ c inside.
        finished_then laws (receiver_on job e a) (end_of job e a c) from groups records (own_at old.writer c) (filling_at old.writer c) (was.each c inside) (own_at new.writer c) size
        (finished.entries c (at_old c inside)) (subst (λ s. PutAll s (own_at new.writer c) (laid_at old.writer c)) was.writes_for.size_is (finished.each c (at_old c inside)));
  }

  -- it was stopped at the end
  pub whole_until : WasStopped old.writer new.writer [] → HasPutTowards Finish old.writer new.writer → new.emitted ≡ old.emitted → HasStopped from job e a size new groups records [] ⊥ ⊤
  whole_until stopped grew counts = record {
    fault = stopped.fault;
    begun_them = record {
      counted = counts ∙ was.counted;
      each = λ c inside.
          begun_end laws (receiver_on job e a) (end_of job e a c) from groups records (own_at old.writer c) (filling_at old.writer c) (was.each c inside) (own_at new.writer c) size []
          (some_at [] c (stopped.each c (at_old c inside))) (grew c (at_old c inside));
    };
  }

-- ---- one record after another

pub short_at : (P : List ℕ → Type 0) (xs : List (Items ℕ)) (i : ℕ) (x : Items ℕ) → AllByRecursion P (bytes_of xs) → i < length xs → x ≡ get_or xs i x → P x.items
short_at P [] i x all within is = absurd (omega (arith, within))
short_at P (y ∷ xs) zero x all within is = subst (λ (z : Items ℕ). P z.items) (sym is) all.0
short_at P (y ∷ xs) (suc i) x all within is = short_at P xs i x all.1 (omega (arith, within)) is

-- one more of them
pub front_more : (xs : List (Items ℕ)) (i : ℕ) (x : Items ℕ) → i < length xs → x ≡ get_or xs i x → bytes_of (take (i + 1) xs) ≡ bytes_of (take i xs) ++ x.items ∷ []
front_more xs i x within is = ap bytes_of (take_more xs i x within) ∙ map-append (λ (r : Items ℕ). r.items) (take i xs) (get_or xs i x ∷ []) ∙ ap (λ (z : Items ℕ). bytes_of (take i xs) ++ z.items ∷ []) (sym is)

-- those before it, it, and those behind it
pub front_parts : (xs : List (Items ℕ)) (i : ℕ) (x : Items ℕ) → i < length xs → x ≡ get_or xs i x → bytes_of xs ≡ bytes_of (take i xs) ++ (x.items ∷ [] ++ bytes_of (drop (i + 1) xs))
front_parts xs i x within is =
    ap bytes_of (sym (take-append-drop (i + 1) xs)) ∙ map-append (λ (r : Items ℕ). r.items) (take (i + 1) xs) (drop (i + 1) xs)
    ∙ ap (λ l. l ++ bytes_of (drop (i + 1) xs)) (front_more xs i x within is) ∙ append_assoc (bytes_of (take i xs)) (x.items ∷ []) (bytes_of (drop (i + 1) xs))
