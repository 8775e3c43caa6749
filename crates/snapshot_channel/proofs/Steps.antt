-- Each step keeps the rule.
use Rattle.std.proofs.Common.{◌≡◌, ◌≢◌, ℕ, zero, suc, ◌+◌, ◌<◌, ◌≤◌, ◌⊎◌, ⊎_elim, inl, inr, Bool, true, false, cond, List, [], ◌∷◌, ◌++◌, length, set, refl, sym, ap, ◌∙◌, subst, arith, append-nil, append_assoc}
use Rattle.std.specs.List.{AllByRecursion}
use mathlib.Core.Option.{Option, some, none, some-injective, some-ne-none}
use lib.ListN.{get_elem?}
use Rattle.crossbeam_channel.specs.Fifo.{Pushes, Pops, Forks, Merges, Learns}
use Rattle.atomic_table.proofs.Lists.{at_set, at_snoc}
use Rattle.flow_defs.specs.declared.task.TaskId.{TaskId}
use Rattle.flow_defs.specs.declared.image.Snapshot.{Snapshot}
use Rattle.snapshot_channel.specs.declared.views.Opening.{Opening}
use Rattle.snapshot_channel.specs.declared.views.Sends.{Sends}
use Rattle.snapshot_channel.specs.declared.views.Handed.{Handed}
use Rattle.snapshot_channel.specs.declared.views.Collects.{Collects}
use Rattle.snapshot_channel.specs.declared.views.View.{View}
use Rattle.snapshot_channel.specs.declared.views.View.TheVariants.{Sending, Collecting, Spent}
use Rattle.snapshot_channel.specs.Snapshots.{task, same_task, snapshots_of, IsTask, MaySend, MaySendAll}
use Rattle.snapshot_channel.specs.Views.{no_opening, unopened, sends, handed, collects, IsFrom, behind, IsBack, Knows, InOrder, opened, dealt, dealt_to, sent_more, gathered, IsCollector, IsSender, IsUnopened, MayDeal, MaySendBy, Receives, Gets, IsMet, Meets}
use Rattle.snapshot_channel.proofs.Tasks.{same_same, same_other, by_task, from_first, from_behind, not_behind, of_append, of_here, of_more, of_same, may_more, may_at}

-- ---- lists of views

abbrev All : (ℕ → View → Type 0) → List View → Type 0
All F views = (pass : ℕ) (v : View) → get_elem? views pass ≡ some v → F pass v

all_set : (F : ℕ → View → Type 0) (views : List View) (pass : ℕ) (w : View) → F pass w → ((j : ℕ) (u : View) → j ≢ pass → get_elem? views j ≡ some u → F j u) → All F (set views pass w)
all_set F views pass w mine others j u e = ⊎_elim (λ (x : (j ≡ pass) × (w ≡ u)). subst (λ (y : ℕ × View). F y.0 y.1) (λ i. (sym x.0 i, x.1 i)) mine)
    (λ (x : (j ≢ pass) × (get_elem? views j ≡ some u)). others j u x.0 x.1) (at_set views pass j w u e)

at_one : (l : List View) (a b : View) (j : ℕ) → get_elem? (l ++ a ∷ []) j ≡ some b → (get_elem? l j ≡ some b) ⊎ ((j ≡ length l) × (a ≡ b))
at_one [] a b zero e = inr (refl, some-injective a b e)
at_one [] a b (suc j) e = absurd (some-ne-none b (sym e))
at_one (x ∷ xs) a b zero e = inl e
at_one (x ∷ xs) a b (suc j) e = ⊎_elim inl (λ (r : (j ≡ length xs) × (a ≡ b)). inr (ap suc r.0, r.1)) (at_one xs a b j e)

all_snoc : (F : ℕ → View → Type 0) (views : List View) (w : View) → All F views → F (length views) w → All F (views ++ w ∷ [])
all_snoc F views w old new j u e = ⊎_elim (old j u) (λ (r : (j ≡ length views) × (w ≡ u)). subst (λ (y : ℕ × View). F y.0 y.1) (λ i. (sym r.0 i, r.1 i)) new) (at_one views w u j e)

weaker : {X : Type 0} (P Q : X → Type 0) → ((x : X) → P x → Q x) → (xs : List X) → AllByRecursion P xs → AllByRecursion Q xs
weaker P Q f [] h = tt
weaker P Q f (x ∷ xs) h = (f x h.0, weaker P Q f xs h.1)

-- ---- seats

one_seat : (seat : TaskId → Option ℕ) (a b : TaskId) (i j : ℕ) → a ≡ b → seat a ≡ some i → seat b ≡ some j → i ≡ j
one_seat seat a b i j e f g = some-injective i j (sym f ∙ (ap seat e ∙ g))

no_seat : (seat : TaskId → Option ℕ) (a b : TaskId) (i : ℕ) → a ≡ b → seat a ≡ none → seat b ≡ some i → ⊥
no_seat seat a b i e f g = some-ne-none i (sym g ∙ (sym (ap seat e) ∙ f))

-- the seats after one was given to a task, or taken from it
seat_with : (TaskId → Option ℕ) → TaskId → Option ℕ → TaskId → Option ℕ
seat_with seat t p u = cond (same_task u t) p (seat u)

seat_here : (seat : TaskId → Option ℕ) (t : TaskId) (p : Option ℕ) (u : TaskId) → u ≡ t → seat_with seat t p u ≡ p
unfolding seat_with
seat_here seat t p u e = ap (λ b. cond b p (seat u)) (same_same u t e)

seat_else : (seat : TaskId → Option ℕ) (t : TaskId) (p : Option ℕ) (u : TaskId) → u ≢ t → seat_with seat t p u ≡ seat u
unfolding seat_with
seat_else seat t p u ne = ap (λ b. cond b p (seat u)) (same_other u t ne)

-- ---- the beginning

begin_knows : (pass : ℕ) (v : View) → get_elem? (unopened ∷ []) pass ≡ some v → Knows no_opening 0 (λ t. none) (task 0 0) [] [] pass v
begin_knows zero v e = subst (Knows no_opening 0 (λ t. none) (task 0 0) [] [] 0) (some-injective unopened v e) (refl, refl, refl, refl, tt)
begin_knows (suc pass) v e = absurd (some-ne-none v (sym e))

pub begins : InOrder [] (unopened ∷ [])
begins = record {
  opening = no_opening;
  collector = 0;
  seat = λ t. none;
  next = task 0 0;
  received = [];
  all = [];
  all_is = refl;
  each = λ t. tt;
  still = λ t h. (refl, refl);
  knows = begin_knows;
}

-- ---- the channel is opened

module _ (new old : Opening) (collector : ℕ) (seat : TaskId → Option ℕ) (received all : List Snapshot) (still : (t : TaskId) → seat t ≡ none) where
  knows_opened : (j : ℕ) (u : View) → j ≢ collector → Knows old collector seat (task 0 0) received all j u → Knows new collector seat (task 0 0) received all j u
  knows_opened j (Sending s) n f = absurd (no_seat seat s.task s.task j refl (still s.task) f.1)
  knows_opened j (Collecting r) n f = absurd (n f.0)
  knows_opened j Spent n f = tt

opens_step : (pass : ℕ) (r : Collects) (o : Opening) → r.next ≡ task 0 0 → Forks InOrder pass (Collecting r) (opened o (Collecting r)) Spent
opens_step pass r o first items views h at =
    let mine = h.knows pass (Collecting r) at in
    let left : View = Collecting (collects o r.next r.received []) in
    let next : h.next ≡ task 0 0 = sym mine.2 ∙ first in
    let still : (t : TaskId) → IsFrom h.next t = λ t. subst (λ n. IsFrom n t) (sym next) (from_first t) in
    let F : ℕ → View → Type 0 = Knows o h.collector h.seat (task 0 0) h.received h.all in
    record {
      opening = o;
      collector = h.collector;
      seat = h.seat;
      next = task 0 0;
      received = h.received;
      all = h.all;
      all_is = h.all_is;
      each = λ t. subst (MaySendAll o t []) (sym (h.still t (still t)).0) tt;
      still = λ t from. h.still t (still t);
      knows = all_snoc F (set views pass left) Spent
          (all_set F views pass left
          (mine.0, refl, first, mine.3, tt)
          (λ j u other e. knows_opened o h.opening h.collector h.seat h.received h.all (λ t. (h.still t (still t)).1) j u (λ q. other (q ∙ sym mine.0))
          (subst (λ n. Knows h.opening h.collector h.seat n h.received h.all j u) next (h.knows j u e))))
          tt;
    }

-- ---- a snapshot is sent

module _ (o : Opening) (collector : ℕ) (seat : TaskId → Option ℕ) (next : TaskId) (received all : List Snapshot) (x : Snapshot) (pass : ℕ) (taken : seat x.task ≡ some pass) where
  -- what another pass knows stays when a snapshot is sent by the pass of its task
  back_more : (h : Handed) → IsBack seat next all h → IsBack seat next (all ++ x ∷ []) h
  back_more h b = (b.0, b.1 ∙ sym (of_same h.task all x (λ e. no_seat seat h.task x.task pass (sym e) b.0 taken)), b.2)

  knows_more : (j : ℕ) (u : View) → j ≢ pass → Knows o collector seat next received all j u → Knows o collector seat next received (all ++ x ∷ []) j u
  knows_more j (Sending s) n f = (f.0, f.1, f.2 ∙ sym (of_same s.task all x (λ e. n (sym (one_seat seat x.task s.task pass j e taken f.1)))), f.3)
  knows_more j (Collecting r) n f = (f.0, f.1, f.2, f.3, weaker (IsBack seat next all) (IsBack seat next (all ++ x ∷ [])) back_more r.back f.4)
  knows_more j Spent n f = tt

sends_step : (n pass : ℕ) (s : Sends) (x : Snapshot) → MaySend s.opening s.task s.sent x → Pushes InOrder n pass (Sending s) x (λ w. w ≡ sent_more (Sending s) x)
sends_step n pass s x may items views room h at =
    let mine = h.knows pass (Sending s) at in
    let taken : h.seat x.task ≡ some pass = ap h.seat may.task_is ∙ mine.1 in
    let all : List Snapshot = h.all ++ x ∷ [] in
    let w : View = Sending (sends s.opening s.task (s.sent ++ x ∷ [])) in
    let next_one : (t : TaskId) → x.task ≡ t → MaySend h.opening t (snapshots_of t h.all) x = λ t e.
    (let same : s.task ≡ t = sym may.task_is ∙ e in
    subst (λ (y : Opening × TaskId × List Snapshot). MaySend y.0 y.1 y.2 x) (λ i. (mine.0 i, same i, (mine.2 ∙ ap (λ u. snapshots_of u h.all) same) i)) may) in
    let is_task : (t : TaskId) → x.task ≡ t → IsTask h.opening.job t = λ t e. subst (IsTask h.opening.job) (sym may.task_is ∙ e) mine.3 in (
      w,
      record {
        opening = h.opening;
        collector = h.collector;
        seat = h.seat;
        next = h.next;
        received = h.received;
        all = all;
        all_is = ap (λ (l : List Snapshot). l ++ x ∷ []) h.all_is ∙ append_assoc h.received items (x ∷ []);
        each = λ t. by_task x.task t
            (λ e. subst (MaySendAll h.opening t []) (sym (of_more t h.all x e)) (may_more h.opening t [] (snapshots_of t h.all) x (h.each t) (is_task t e) (next_one t e)))
            (λ ne. subst (MaySendAll h.opening t []) (sym (of_same t h.all x ne)) (h.each t));
        still = λ t from. (of_same t h.all x (λ e. no_seat h.seat t x.task pass (sym e) (h.still t from).1 taken) ∙ (h.still t from).0, (h.still t from).1);
        knows = all_set (Knows h.opening h.collector h.seat h.next h.received all) views pass w
            (mine.0, mine.1, ap (λ (l : List Snapshot). l ++ x ∷ []) mine.2 ∙ sym (of_more s.task h.all x may.task_is), mine.3)
            (λ j u other e. knows_more h.opening h.collector h.seat h.next h.received h.all x pass taken j u other (h.knows j u e));
      },
      refl,
    )

-- ---- a snapshot is received

knows_got : (o : Opening) (collector : ℕ) (seat : TaskId → Option ℕ) (next : TaskId) (received more all : List Snapshot) (j : ℕ) (u : View) → j ≢ collector → Knows o collector seat next received all j u → Knows o collector seat next more all j u
knows_got o collector seat next received more all j (Sending s) n f = f
knows_got o collector seat next received more all j (Collecting r) n f = absurd (n f.0)
knows_got o collector seat next received more all j Spent n f = tt

gets_step : (pass : ℕ) (r : Collects) → Pops InOrder pass (Collecting r) (λ x w. Gets (Collecting r) x w)
gets_step pass r x items views h at =
    let mine = h.knows pass (Collecting r) at in
    let w : View = Collecting (collects r.opening r.next (r.received ++ x ∷ []) r.back) in
    let received : List Snapshot = h.received ++ x ∷ [] in
    let here : snapshots_of x.task h.all ≡ snapshots_of x.task h.received ++ x ∷ snapshots_of x.task items =
    ap (snapshots_of x.task) h.all_is ∙ (of_append x.task h.received (x ∷ items) ∙ ap (λ (l : List Snapshot). snapshots_of x.task h.received ++ l) (of_here x.task x items refl)) in
    let may : IsTask h.opening.job x.task × MaySend h.opening x.task (snapshots_of x.task h.received) x =
    may_at h.opening x.task [] (snapshots_of x.task h.received) x (snapshots_of x.task items) (subst (MaySendAll h.opening x.task []) here (h.each x.task)) in (
      w,
      record {
        opening = h.opening;
        collector = h.collector;
        seat = h.seat;
        next = h.next;
        received = received;
        all = h.all;
        all_is = h.all_is ∙ sym (append_assoc h.received (x ∷ []) items);
        each = h.each;
        still = h.still;
        knows = all_set (Knows h.opening h.collector h.seat h.next received h.all) views pass w
            (mine.0, mine.1, mine.2, ap (λ (l : List Snapshot). l ++ x ∷ []) mine.3, mine.4)
            (λ j u other e. knows_got h.opening h.collector h.seat h.next h.received received h.all j u (λ q. other (q ∙ sym mine.0)) (h.knows j u e));
      },
      record {
        after_is = refl;
        task_is = subst (λ (o : Opening). IsTask o.job x.task) (sym mine.1) may.0;
        may = subst (λ (y : Opening × List Snapshot). MaySend y.0 x.task (snapshots_of x.task y.1) x) (λ i. (sym mine.1 i, sym mine.3 i)) may.1;
      },
    )

-- ---- a task gets its pass

module _ (o : Opening) (collector : ℕ) (seat : TaskId → Option ℕ) (next : TaskId) (received all : List Snapshot) (t : TaskId) (p : Option ℕ) (from : IsFrom next t) (still : seat t ≡ none) where
  back_dealt : (h : Handed) → IsBack seat next all h → IsBack (seat_with seat t p) (behind t) all h
  back_dealt h b = (
    seat_else seat t p h.task (λ e. b.2 (subst (IsFrom next) (sym e) from)) ∙ b.0,
    b.1,
    λ k. b.2 (from_behind next t h.task from k),
  )

  knows_dealt : (j : ℕ) (u : View) → j ≢ collector → Knows o collector seat next received all j u → Knows o collector (seat_with seat t p) (behind t) received all j u
  knows_dealt j (Sending s) n f = (f.0, seat_else seat t p s.task (λ e. no_seat seat t s.task j (sym e) still f.1) ∙ f.1, f.2, f.3)
  knows_dealt j (Collecting r) n f = absurd (n f.0)
  knows_dealt j Spent n f = tt

deals_step : (pass : ℕ) (r : Collects) (t : TaskId) → IsTask r.opening.job t → IsFrom r.next t → Forks InOrder pass (Collecting r) (dealt t (Collecting r)) (dealt_to t (Collecting r))
deals_step pass r t is_task from' items views h at =
    let mine = h.knows pass (Collecting r) at in
    let from : IsFrom h.next t = subst (λ n. IsFrom n t) mine.2 from' in
    let left : View = Collecting (collects r.opening (behind t) r.received r.back) in
    let right : View = Sending (sends r.opening t []) in
    let vs : List View = set views pass left in
    let p : Option ℕ = some (length vs) in
    let seat : TaskId → Option ℕ = seat_with h.seat t p in
    let F : ℕ → View → Type 0 = Knows h.opening h.collector seat (behind t) h.received h.all in
    record {
      opening = h.opening;
      collector = h.collector;
      seat = seat;
      next = behind t;
      received = h.received;
      all = h.all;
      all_is = h.all_is;
      each = h.each;
      still = λ u k. (
        (h.still u (from_behind h.next t u from k)).0,
        seat_else h.seat t p u (not_behind t u k) ∙ (h.still u (from_behind h.next t u from k)).1,
      );
      knows = all_snoc F vs right
          (all_set F views pass left
          (mine.0, mine.1, refl, mine.3, weaker (IsBack h.seat h.next h.all) (IsBack seat (behind t) h.all) (back_dealt h.opening h.collector h.seat h.next h.received h.all t p from (h.still t from).1) r.back mine.4)
          (λ j u other e. knows_dealt h.opening h.collector h.seat h.next h.received h.all t p from (h.still t from).1 j u (λ q. other (q ∙ sym mine.0)) (h.knows j u e)))
          (mine.1, seat_here h.seat t p t refl, sym (h.still t from).0, subst (λ (o : Opening). IsTask o.job t) mine.1 is_task);
    }

-- ---- a task's pass comes back

module _ (o : Opening) (collector : ℕ) (seat : TaskId → Option ℕ) (next : TaskId) (received all : List Snapshot) (t : TaskId) (other : ℕ) (taken : seat t ≡ some other) where
  back_gathered : (h : Handed) → IsBack seat next all h → IsBack (seat_with seat t none) next all h
  back_gathered h b = (by_task h.task t (λ e. seat_here seat t none h.task e) (λ ne. seat_else seat t none h.task ne ∙ b.0), b.1, b.2)

  knows_gathered : (j : ℕ) (u : View) → j ≢ collector → j ≢ other → Knows o collector seat next received all j u → Knows o collector (seat_with seat t none) next received all j u
  knows_gathered j (Sending s) n apart f = (f.0, seat_else seat t none s.task (λ e. apart (one_seat seat s.task t j other e f.1 taken)) ∙ f.1, f.2, f.3)
  knows_gathered j (Collecting r) n apart f = absurd (n f.0)
  knows_gathered j Spent n apart f = tt

gathers_step : (pass : ℕ) (r : Collects) (other : ℕ) (s : Sends) → Merges InOrder pass (Collecting r) other (Sending s) (gathered (Collecting r) (Sending s)) Spent
gathers_step pass r other s items views h at two at' =
    let mine = h.knows pass (Collecting r) at in
    let both : View = Collecting (collects r.opening r.next r.received (handed s.task s.sent ∷ r.back)) in
    let vs : List View = set views pass both in
    let was : get_elem? views other ≡ some (Sending s) = ⊎_elim (λ (x : (other ≡ pass) × (both ≡ Sending s)). absurd (two x.0)) (λ (x : (other ≢ pass) × (get_elem? views other ≡ some (Sending s))). x.1) (at_set views pass other both (Sending s) at') in
    let theirs = h.knows other (Sending s) was in
    let seat : TaskId → Option ℕ = seat_with h.seat s.task none in
    let F : ℕ → View → Type 0 = Knows h.opening h.collector seat h.next h.received h.all in
    let Now : ℕ → View → Type 0 = λ j u. j ≢ other → F j u in
    let back : IsBack seat h.next h.all (handed s.task s.sent) =
    (seat_here h.seat s.task none s.task refl, theirs.2, λ from. no_seat h.seat s.task s.task other refl (h.still s.task from).1 theirs.1) in
    let now : All Now vs = all_set Now views pass both
    (λ _. (mine.0, mine.1, mine.2, mine.3, (back, weaker (IsBack h.seat h.next h.all) (IsBack seat h.next h.all) (back_gathered h.opening h.collector h.seat h.next h.received h.all s.task other theirs.1) r.back mine.4)))
    (λ j u apart e o. knows_gathered h.opening h.collector h.seat h.next h.received h.all s.task other theirs.1 j u (λ q. apart (q ∙ sym mine.0)) o (h.knows j u e)) in
    record {
      opening = h.opening;
      collector = h.collector;
      seat = seat;
      next = h.next;
      received = h.received;
      all = h.all;
      all_is = h.all_is;
      each = h.each;
      still = λ t from. ((h.still t from).0, by_task t s.task (λ e. seat_here h.seat s.task none t e) (λ ne. seat_else h.seat s.task none t ne ∙ (h.still t from).1));
      knows = all_set F vs other Spent tt (λ j u apart e. now j u e apart);
    }

-- ---- what was received is compared with what was sent

met : (o : Opening) (seat : TaskId → Option ℕ) (next : TaskId) (all received items : List Snapshot) → received ++ items ≡ all → ((t : TaskId) → MaySendAll o t [] (snapshots_of t all)) →
    (r : Collects) → r.opening ≡ o → r.received ≡ received → (h : Handed) → IsBack seat next all h → IsMet r items h
met o seat next all received items e each r oe re h b =
    let same : snapshots_of h.task (r.received ++ items) ≡ snapshots_of h.task all = ap (λ (l : List Snapshot). snapshots_of h.task (l ++ items)) re ∙ ap (snapshots_of h.task) e in
    record {
      all_is = same ∙ sym b.1;
      may = subst (λ (y : Opening × List Snapshot). MaySendAll y.0 h.task [] y.1) (λ i. (sym oe i, sym b.1 i)) (each h.task);
    }

learns_step : (pass : ℕ) (r : Collects) → Learns InOrder pass (Collecting r) (λ items. Meets (Collecting r) items)
learns_step pass r items views h at =
    let mine = h.knows pass (Collecting r) at in
    weaker (IsBack h.seat h.next h.all) (IsMet r items) (met h.opening h.seat h.next h.all h.received items (sym h.all_is) h.each r mine.1 mine.3) r.back mine.4

-- ---- the same at any view that the clauses allow

pub opens_any : (pass : ℕ) (v : View) (o : Opening) → IsUnopened v → Forks InOrder pass v (opened o v) Spent
opens_any pass (Sending s) o m = absurd m
opens_any pass (Collecting r) o m = opens_step pass r o m
opens_any pass Spent o m = absurd m

pub sends_any : (n pass : ℕ) (v : View) (x : Snapshot) → MaySendBy v x → Pushes InOrder n pass v x (λ w. w ≡ sent_more v x)
sends_any n pass (Sending s) x m = sends_step n pass s x m
sends_any n pass (Collecting r) x m = absurd m
sends_any n pass Spent x m = absurd m

pub gets_any : (pass : ℕ) (v : View) → IsCollector v → Pops InOrder pass v (Gets v)
gets_any pass (Sending s) m = absurd m
gets_any pass (Collecting r) m = gets_step pass r
gets_any pass Spent m = absurd m

pub learns_any : (pass : ℕ) (v : View) → IsCollector v → Learns InOrder pass v (Meets v)
learns_any pass (Sending s) m = absurd m
learns_any pass (Collecting r) m = learns_step pass r
learns_any pass Spent m = absurd m

pub deals_any : (pass : ℕ) (v : View) (t : TaskId) → MayDeal t v → Forks InOrder pass v (dealt t v) (dealt_to t v)
deals_any pass (Sending s) t m = absurd m
deals_any pass (Collecting r) t m = deals_step pass r t m.0 m.1
deals_any pass Spent t m = absurd m

pub gathers_any : (pass : ℕ) (v : View) (other : ℕ) (w : View) → IsCollector v → IsSender w → Merges InOrder pass v other w (gathered v w) Spent
gathers_any pass (Sending s) other w m k = absurd m
gathers_any pass (Collecting r) other (Sending s) m k = gathers_step pass r other s
gathers_any pass (Collecting r) other (Collecting o) m k = absurd k
gathers_any pass (Collecting r) other Spent m k = absurd k
gathers_any pass Spent other w m k = absurd m
