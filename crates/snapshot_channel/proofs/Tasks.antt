-- Tasks and their order, and the snapshots of each.
use Rattle.std.proofs.Common.{◌≡◌, ◌≢◌, ◌⊎◌, ⊎_elim, inl, inr, ℕ, zero, suc, ◌+◌, ◌<◌, ◌≤◌, Bool, true, false, cond, ◌&&◌, eqb, List, [], ◌∷◌, ◌++◌, length, refl, sym, ap, ◌∙◌, subst, arith, append-nil, append_assoc}
use Rattle.std.specs.Prelude.{filter}
use Rattle.std.proofs.lemmas.Bool.{eqb-true, eq-eqb, eqb-false, ne_eqb}
use Rattle.std.proofs.lemmas.List.Elements.{filter-append}
use Rattle.flow_defs.specs.declared.task.TaskId.{TaskId}
use Rattle.flow_defs.specs.declared.image.Snapshot.{Snapshot}
use Rattle.snapshot_channel.specs.declared.views.Opening.{Opening}
use Rattle.snapshot_channel.specs.Snapshots.{task, same_task, snapshots_of, IsTask, MaySend, MaySendAll}
use Rattle.snapshot_channel.specs.Views.{IsFrom, behind}

both_true : (a b : Bool) → (a && b) ≡ true → (a ≡ true) × (b ≡ true)
both_true true b e = (refl, e)
both_true false b e = absurd (cc)

pub same_true : (s t : TaskId) → same_task s t ≡ true → s ≡ t
same_true s t e =
    let h : (eqb s.stage t.stage ≡ true) × (eqb s.index t.index ≡ true) = both_true (eqb s.stage t.stage) (eqb s.index t.index) e in
    ap (λ (p : ℕ × ℕ). task p.0 p.1) (λ i. (eqb-true s.stage t.stage h.0 i, eqb-true s.index t.index h.1 i))

pub same_same : (s t : TaskId) → s ≡ t → same_task s t ≡ true
same_same s t e = ap (λ (u : TaskId). same_task s u) (sym e) ∙ ap (λ b. b && eqb s.index s.index) (eq-eqb s.stage s.stage refl) ∙ eq-eqb s.index s.index refl

pub by_task : {P : Type 0} → (s t : TaskId) → (s ≡ t → P) → (s ≢ t → P) → P
by_task {P} s t here else =
    elim (same_task s t) as (λ b. same_task s t ≡ b → P) [
      | true ↦ λ e. here (same_true s t e)
      | false ↦ λ e. else (λ same. let f : same_task s t ≡ true = same_same s t same in absurd (cc))
    ] refl

pub same_other : (s t : TaskId) → s ≢ t → same_task s t ≡ false
same_other s t ne = elim (same_task s t) as (λ b. same_task s t ≡ b → b ≡ false) [
  | true ↦ λ e. absurd (ne (same_true s t e))
  | false ↦ λ e. refl
] refl

-- ---- the order of tasks

-- all tasks come from the first one on
pub from_first : (t : TaskId) → IsFrom (task 0 0) t
from_first t = elim (eqb t.stage 0) as (λ b. eqb t.stage 0 ≡ b → IsFrom (task 0 0) t) [
  | true ↦ λ e. let z : t.stage ≡ 0 = eqb-true t.stage 0 e in inr (omega arith, omega arith)
  | false ↦ λ e. let z : t.stage ≡ 0 → ⊥ = eqb-false t.stage 0 e in inl (omega arith)
] refl

-- one that comes behind another comes from where that one does, and is not that one
pub from_behind : (n t u : TaskId) → IsFrom n t → IsFrom (behind t) u → IsFrom n u
from_behind n t u h k = ⊎_elim
    (λ (a : n.stage < t.stage). ⊎_elim (λ (b : t.stage < u.stage). inl (omega arith)) (λ (b : (t.stage ≡ u.stage) × (t.index + 1 ≤ u.index)). inl (omega arith)) k)
    (λ (a : (n.stage ≡ t.stage) × (n.index ≤ t.index)). ⊎_elim (λ (b : t.stage < u.stage). inl (omega arith)) (λ (b : (t.stage ≡ u.stage) × (t.index + 1 ≤ u.index)). inr (omega arith, omega arith)) k) h

pub not_behind : (t u : TaskId) → IsFrom (behind t) u → u ≢ t
not_behind t u h e = ⊎_elim
    (λ (a : t.stage < u.stage). let s : u.stage ≡ t.stage = ap (λ (x : TaskId). x.stage) e in absurd (omega arith))
    (λ (a : (t.stage ≡ u.stage) × (t.index + 1 ≤ u.index)). let s : u.index ≡ t.index = ap (λ (x : TaskId). x.index) e in absurd (omega arith)) h

-- ---- the snapshots of a task

pub of_append : (t : TaskId) (xs ys : List Snapshot) → snapshots_of t (xs ++ ys) ≡ snapshots_of t xs ++ snapshots_of t ys
of_append t xs ys = filter-append (λ (x : Snapshot). same_task x.task t) xs ys

pub of_here : (t : TaskId) (x : Snapshot) (xs : List Snapshot) → x.task ≡ t → snapshots_of t (x ∷ xs) ≡ x ∷ snapshots_of t xs
of_here t x xs e = ap (λ b. cond b (x ∷ snapshots_of t xs) (snapshots_of t xs)) (same_same x.task t e)

pub of_else : (t : TaskId) (x : Snapshot) (xs : List Snapshot) → x.task ≢ t → snapshots_of t (x ∷ xs) ≡ snapshots_of t xs
of_else t x xs ne = ap (λ b. cond b (x ∷ snapshots_of t xs) (snapshots_of t xs)) (same_other x.task t ne)

-- one more at the back
pub of_more : (t : TaskId) (xs : List Snapshot) (x : Snapshot) → x.task ≡ t → snapshots_of t (xs ++ x ∷ []) ≡ snapshots_of t xs ++ x ∷ []
of_more t xs x e = of_append t xs (x ∷ []) ∙ ap (λ (l : List Snapshot). snapshots_of t xs ++ l) (of_here t x [] e)

pub of_same : (t : TaskId) (xs : List Snapshot) (x : Snapshot) → x.task ≢ t → snapshots_of t (xs ++ x ∷ []) ≡ snapshots_of t xs
of_same t xs x ne = of_append t xs (x ∷ []) ∙ (ap (λ (l : List Snapshot). snapshots_of t xs ++ l) (of_else t x [] ne) ∙ append-nil (snapshots_of t xs))

-- ---- what a task may send

pub may_more : (o : Opening) (t : TaskId) (before xs : List Snapshot) (x : Snapshot) → MaySendAll o t before xs → IsTask o.job t → MaySend o t (before ++ xs) x → MaySendAll o t before (xs ++ x ∷ [])
may_more o t before [] x h is may = (is, subst (λ (l : List Snapshot). MaySend o t l x) (append-nil before) may, tt)
may_more o t before (y ∷ xs) x h is may =
    (h.0, h.1, may_more o t (before ++ y ∷ []) xs x h.2 is (subst (λ (l : List Snapshot). MaySend o t l x) (sym (append_assoc before (y ∷ []) xs)) may))

pub may_at : (o : Opening) (t : TaskId) (before xs : List Snapshot) (y : Snapshot) (ys : List Snapshot) → MaySendAll o t before (xs ++ y ∷ ys) → IsTask o.job t × MaySend o t (before ++ xs) y
may_at o t before [] y ys h = (h.0, subst (λ (l : List Snapshot). MaySend o t l y) (sym (append-nil before)) h.1)
may_at o t before (x ∷ xs) y ys h =
    let k = may_at o t (before ++ x ∷ []) xs y ys h.2 in
    (k.0, subst (λ (l : List Snapshot). MaySend o t l y) (append_assoc before (x ∷ []) xs) k.1)
