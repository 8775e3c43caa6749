-- The job of the tests, with two sources and one task that counts, what its tasks send, and their passes.
use Rattle.std.proofs.Common.{◌≡◌, ℕ, zero, suc, ◌+◌, Bool, true, false, Option, Some, None, List, [], ◌∷◌, ◌++◌, map, length, replicate, refl, sym, ap, ◌∙◌, subst}
use Rattle.std.specs.Prelude.{All, slice_get, unwrap_or, ◌||◌}
use Rattle.std.proofs.lemmas.List.{replicate_more}
use Rattle.std.specs.List.{list_any}
use Rattle.std.proofs.lemmas.List.Elements.{All-pop}
use Rattle.flow_defs.specs.declared.job.Job.{Job}
use Rattle.flow_defs.specs.declared.task.TaskId.{TaskId}
use Rattle.flow_defs.specs.declared.image.Snapshot.{Snapshot}
use Rattle.snapshot_channel.specs.declared.opened.SnapshotChannel.{SnapshotChannel}
use Rattle.snapshot_channel.specs.declared.opened.TaskPass.{TaskPass}
use Rattle.snapshot_channel.specs.Snapshots.{task, all_tasks, IsAtEnd}
use Rattle.snapshot_channel.specs.Passes.{IsFresh, task_of}

-- ---- what is sent

by_head : (b all some e : Bool) → (b || all) ≡ true → ((b || some) ≡ true → e ≡ true) → (all ≡ true → (some ≡ true → e ≡ true) → e ≡ true) → e ≡ true
by_head true all some e is before rest = before refl
by_head false all some e is before rest = rest is before

or_false : (b : Bool) → (b || false) ≡ true → b ≡ true
or_false true e = refl
or_false false e = absurd (cc)

any_more : (xs : List Snapshot) (x : Snapshot) → list_any (λ (y : Snapshot). y.ended) (xs ++ x ∷ []) ≡ true → (list_any (λ (y : Snapshot). y.ended) xs ≡ true → x.ended ≡ true) → x.ended ≡ true
any_more [] x some before = or_false x.ended some
any_more (y ∷ xs) x some before = by_head y.ended (list_any (λ (y : Snapshot). y.ended) (xs ++ x ∷ [])) (list_any (λ (y : Snapshot). y.ended) xs) x.ended some before (any_more xs x)

-- it stays at its end
pub at_end_more : (every : Option ℕ) (was : Bool) (sent : List Snapshot) (x : Snapshot) → (IsAtEnd every was sent → x.ended ≡ true) → IsAtEnd every was (sent ++ x ∷ []) → x.ended ≡ true
at_end_more None was sent x before now = before tt
at_end_more (Some n) was sent x before now = by_head was (list_any (λ (y : Snapshot). y.ended) (sent ++ x ∷ [])) (list_any (λ (y : Snapshot). y.ended) sent) x.ended now before (any_more sent x)

pub at_end_first : (every : Option ℕ) (was ended : Bool) (sent : List Snapshot) → sent ≡ [] → (IsAtEnd every was [] → ended ≡ true) → IsAtEnd every was sent → ended ≡ true
at_end_first every was ended sent fresh begun now = begun (subst (IsAtEnd every was) fresh now)

-- a source that was at its end in the start is so at the first checkpoint
pub at_end_begun : (every : Option ℕ) (was stood ended : Bool) → (was ≡ true → stood ≡ true) → (IsAtEnd every stood [] → ended ≡ true) → IsAtEnd every was [] → ended ≡ true
at_end_begun None was stood ended less begun now = begun tt
at_end_begun (Some n) was stood ended less begun now = begun (ap (λ b. b || false) (less (or_false was now)))

pub at_end_some : (n : ℕ) (was : Bool) → IsAtEnd (Some n) was [] → was ≡ true
at_end_some n was now = or_false was now

-- ---- the start

pub flags_more : (flags new : List Bool) (n : ℕ) (b : Bool) → flags ≡ replicate n b → new ≡ flags ++ b ∷ [] → new ≡ replicate (n + 1) b
flags_more flags new n b so_far more = more ∙ ap (λ l. l ++ b ∷ []) so_far ∙ replicate_more n b

copied_at : (n a : ℕ) (b : Bool) → unwrap_or (slice_get (replicate n b) a) false ≡ true → b ≡ true
copied_at zero a b was = absurd (cc)
copied_at (suc n) zero b was = was
copied_at (suc n) (suc a) b was = copied_at n a b was

pub all_stood : (flags : List Bool) (n : ℕ) (b : Bool) → flags ≡ replicate n b → (a : ℕ) → unwrap_or (slice_get flags a) false ≡ true → b ≡ true
all_stood flags n b are a was = copied_at n a b (ap (λ l. unwrap_or (slice_get l a) false) (sym are) ∙ was)

-- ---- the passes of the channel

its_tasks : (job : Job) → job.stages.items ≡ [] → length job.sources.items ≡ 2 → job.agg_tasks ≡ 1 → all_tasks job ≡ task 0 0 ∷ task 0 1 ∷ task 1 0 ∷ []
its_tasks job none sources counts = rw (none, sources, counts) refl

last_three : (rest : List TaskPass) (p q r : TaskPass) → map task_of (((rest ++ r ∷ []) ++ q ∷ []) ++ p ∷ []) ≡ task 0 0 ∷ task 0 1 ∷ task 1 0 ∷ [] → (task_of r ≡ task 0 0) × (task_of q ≡ task 0 1) × (task_of p ≡ task 1 0)
last_three [] p q r e = (cc, cc, cc)
last_three (a ∷ []) p q r e = absurd (cc)
last_three (a ∷ b ∷ []) p q r e = absurd (cc)
last_three (a ∷ b ∷ d ∷ []) p q r e = absurd (cc)
last_three (a ∷ b ∷ d ∷ f ∷ rest) p q r e = absurd (cc)

abbrev Its : SnapshotChannel → TaskPass → TaskId → Type 0
Its channel pass t = IsFresh channel pass × (task_of pass ≡ t)

pub ends_are : (channel : SnapshotChannel) (job : Job) (passes two one rest : List TaskPass) (p q r : TaskPass) → job.stages.items ≡ [] → length job.sources.items ≡ 2 → job.agg_tasks ≡ 1
    → All (IsFresh channel) passes → map task_of passes ≡ all_tasks job → passes ≡ two ++ p ∷ [] → two ≡ one ++ q ∷ [] → one ≡ rest ++ r ∷ []
    → Its channel r (task 0 0) × Its channel q (task 0 1) × Its channel p (task 1 0)
ends_are channel job passes two one rest p q r stages sources counts fresh tasks first second third =
    let last = All-pop (IsFresh channel) passes two (Some p) first fresh in
    let mid = All-pop (IsFresh channel) two one (Some q) second last.0 in
    let head = All-pop (IsFresh channel) one rest (Some r) third mid.0 in
    let whole : map task_of (((rest ++ r ∷ []) ++ q ∷ []) ++ p ∷ []) ≡ task 0 0 ∷ task 0 1 ∷ task 1 0 ∷ [] =
    ap (λ l. map task_of ((l ++ q ∷ []) ++ p ∷ [])) (sym third) ∙ ap (λ l. map task_of (l ++ p ∷ [])) (sym second) ∙ ap (map task_of) (sym first) ∙ tasks ∙ its_tasks job stages sources counts in
    let are = last_three rest p q r whole in
    ((head.1, are.0), (mid.1, are.1), (last.1, are.2))
