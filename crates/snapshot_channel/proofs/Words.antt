-- From the words of callers to the rule, and back.
use Rattle.std.proofs.Common.{◌≡◌, ℕ, Result, Ok, Err, ◌+◌, ◌<◌, ◌≤◌, List, [], ◌∷◌, ◌++◌, length, map, refl, sym, ap, ◌∙◌, subst, append-nil}
use Rattle.std.specs.List.{AllByRecursion}
use Rattle.flow_defs.specs.declared.task.TaskId.{TaskId}
use Rattle.flow_defs.specs.declared.image.Snapshot.{Snapshot}
use Rattle.snapshot_channel.specs.declared.opened.TaskPass.{TaskPass}
use Rattle.snapshot_channel.specs.declared.views.Opening.{Opening}
use Rattle.snapshot_channel.specs.declared.views.Sends.{Sends}
use Rattle.snapshot_channel.specs.declared.views.Handed.{Handed}
use Rattle.snapshot_channel.specs.declared.views.Collects.{Collects}
use Rattle.snapshot_channel.specs.declared.views.View.{View}
use Rattle.snapshot_channel.specs.declared.views.View.TheVariants.{Sending, Collecting, Spent}
use Rattle.snapshot_channel.specs.Snapshots.{snapshots_of, IsTask, MaySend, MaySendAll, IsBeginning}
use Rattle.snapshot_channel.specs.Views.{handed, IsFrom, behind, dealt, dealt_to, sent_more, gathered, IsCollector, IsSender, MayDeal, MaySendBy, Receives, Gets, IsMet, Meets}
use Rattle.snapshot_channel.specs.Passes.{task_in, sent_in, received_in, back_in, next_in, task_of, sent_by, handed_by, IsSenderOf, IsCollectorOf, IsReceivedOf, IsAllReceived}
use Rattle.std.specs.Prelude.{All, IfNone, MatchResult}
use Rattle.std.specs.Result.{result_ok}
use Rattle.std.proofs.lemmas.List.{nil_from_length}
use Rattle.std.proofs.lemmas.List.Elements.{All-from_recursion}
use Rattle.crossbeam_channel.specs.Fifo.{Held}
use Rattle.snapshot_channel.proofs.Tasks.{of_append}

pub is_sender : (o : Opening) (v : View) → IsSenderOf o v → IsSender v
is_sender o (Sending s) h = tt
is_sender o (Collecting r) h = absurd h
is_sender o Spent h = absurd h

pub is_collector : (o : Opening) (v : View) → IsCollectorOf o v → IsCollector v
is_collector o (Sending s) h = absurd h
is_collector o (Collecting r) h = tt
is_collector o Spent h = absurd h

-- ---- sending

pub may_send_by : (o : Opening) (v : View) (x : Snapshot) → IsSenderOf o v → MaySend o (task_in v) (sent_in v) x → MaySendBy v x
may_send_by o (Sending s) x h may = subst (λ (p : Opening). MaySend p s.task s.sent x) (sym h.0) may
may_send_by o (Collecting r) x h may = absurd h
may_send_by o Spent x h may = absurd h

pub record HasSent (o : Opening) (v w : View) (x : Snapshot) : Type 0 where
  pub sender_is : IsSenderOf o w
  pub task_is : task_in w ≡ task_in v
  pub sent_is : sent_in w ≡ sent_in v ++ x ∷ []

has_sent_at : (o : Opening) (v : View) (x : Snapshot) → IsSenderOf o v → HasSent o v (sent_more v x) x
has_sent_at o (Sending s) x h = record { sender_is = h; task_is = refl; sent_is = refl }
has_sent_at o (Collecting r) x h = absurd h
has_sent_at o Spent x h = absurd h

pub has_sent : (o : Opening) (v w : View) (x : Snapshot) → IsSenderOf o v → w ≡ sent_more v x → HasSent o v w x
has_sent o v w x h e = subst (λ u. HasSent o v u x) (sym e) (has_sent_at o v x h)

-- ---- receiving

pub record HasReceived (o : Opening) (v w : View) (x : Snapshot) : Type 0 where
  pub collector_is : IsCollectorOf o w
  pub received_is : received_in w ≡ received_in v ++ x ∷ []
  pub next_is : IsTask o.job x.task × MaySend o x.task (snapshots_of x.task (received_in v)) x

pub has_received : (o : Opening) (v w : View) (x : Snapshot) → IsCollectorOf o v → Gets v x w → HasReceived o v w x
has_received o (Sending s) w x h g = absurd h
has_received o (Collecting r) w x h g = record {
  collector_is = subst (IsCollectorOf o) (sym g.after_is) h;
  received_is = ap received_in g.after_is;
  next_is = (subst (λ (p : Opening). IsTask p.job x.task) h g.task_is, subst (λ (p : Opening). MaySend p x.task (snapshots_of x.task r.received) x) h g.may);
}
has_received o Spent w x h g = absurd h

-- where the channel holds nothing, what was sent by the passes that came back is received
all_of_met : (r : Collects) (items : List Snapshot) (back : List Handed) → length items ≡ 0 → AllByRecursion (IsMet r items) back → AllByRecursion (IsAllReceived r.received) back
all_of_met r items [] none met = tt
all_of_met r items (h ∷ back) none met =
    (ap (snapshots_of h.task) (sym (ap (λ (l : List Snapshot). r.received ++ l) (nil_from_length items none) ∙ append-nil r.received)) ∙ met.0.all_is, all_of_met r items back none met.1)

none_left : (o : Opening) (v : View) → IsCollectorOf o v → Held 0 (Meets v) → AllByRecursion (IsAllReceived (received_in v)) (back_in v)
none_left o (Sending s) h held = absurd h
none_left o (Collecting r) h held = all_of_met r held.0 r.back held.1 held.2
none_left o Spent h held = absurd h

pub none_received : {E : Type 0} (o : Opening) (v w : View) (r : Result Snapshot E) → IsCollectorOf o v → MatchResult r (λ x. Gets v x w) (λ _. (w ≡ v) × Held 0 (Meets v)) →
    IfNone (result_ok r) (All (IsAllReceived (received_in v)) (back_in v))
none_received o v w (Ok x) h told = tt
none_received o v w (Err e) h told = All-from_recursion _ _ (none_left o v h told.1)

-- ---- dealing

pub may_deal : (o : Opening) (v : View) (t : TaskId) → IsCollectorOf o v → IsTask o.job t → IsFrom (next_in v) t → MayDeal t v
may_deal o (Sending s) t h is from = absurd h
may_deal o (Collecting r) t h is from = (subst (λ (p : Opening). IsTask p.job t) (sym h) is, from)
may_deal o Spent t h is from = absurd h

pub record HasDealt (o : Opening) (t : TaskId) (v w pass : View) : Type 0 where
  pub collector_is : IsCollectorOf o w
  pub next_is : next_in w ≡ behind t
  pub received_is : received_in w ≡ received_in v
  pub sender_is : IsSenderOf o pass
  pub sent_is : sent_in pass ≡ []
  pub task_is : task_in pass ≡ t

has_dealt_at : (o : Opening) (t : TaskId) (v : View) → IsCollectorOf o v → IsTask o.job t → HasDealt o t v (dealt t v) (dealt_to t v)
has_dealt_at o t (Sending s) h is = absurd h
has_dealt_at o t (Collecting r) h is = record { collector_is = h; next_is = refl; received_is = refl; sender_is = (h, is); sent_is = refl; task_is = refl }
has_dealt_at o t Spent h is = absurd h

pub has_dealt : (o : Opening) (t : TaskId) (v w pass : View) → IsCollectorOf o v → IsTask o.job t → w ≡ dealt t v → pass ≡ dealt_to t v → HasDealt o t v w pass
has_dealt o t v w pass h is e f = subst (λ (u : View). HasDealt o t v u pass) (sym e) (subst (λ (u : View). HasDealt o t v (dealt t v) u) (sym f) (has_dealt_at o t v h is))

-- ---- gathering

pub record HasGathered (o : Opening) (v pass w : View) : Type 0 where
  pub collector_is : IsCollectorOf o w
  pub received_is : received_in w ≡ received_in v
  pub back_is : back_in w ≡ handed (task_in pass) (sent_in pass) ∷ back_in v

has_gathered_at : (o : Opening) (v pass : View) → IsCollectorOf o v → IsSenderOf o pass → HasGathered o v pass (gathered v pass)
has_gathered_at o (Sending s) pass h k = absurd h
has_gathered_at o (Collecting r) (Sending s) h k = record { collector_is = h; received_is = refl; back_is = refl }
has_gathered_at o (Collecting r) (Collecting q) h k = absurd k
has_gathered_at o (Collecting r) Spent h k = absurd k
has_gathered_at o Spent pass h k = absurd h

pub has_gathered : (o : Opening) (v pass w : View) → IsCollectorOf o v → IsSenderOf o pass → w ≡ gathered v pass → HasGathered o v pass w
has_gathered o v pass w h k e = subst (HasGathered o v pass) (sym e) (has_gathered_at o v pass h k)

-- ---- comparing

received_at : (o : Opening) (r : Collects) (items : List Snapshot) (pass : TaskPass) → r.opening ≡ o → IsMet r items (handed_by pass) → IsReceivedOf o r.received pass
received_at o r items pass h met = record {
  beginning = (snapshots_of (task_of pass) items, sym (of_append (task_of pass) r.received items) ∙ met.all_is);
  may = subst (λ (p : Opening). MaySendAll p (task_of pass) [] (sent_by pass)) h met.may;
}

all_received_at : (o : Opening) (r : Collects) (items : List Snapshot) (passes : List TaskPass) (more : List Handed) → r.opening ≡ o → AllByRecursion (IsMet r items) (map handed_by passes ++ more) →
    AllByRecursion (IsReceivedOf o r.received) passes
all_received_at o r items [] more h met = tt
all_received_at o r items (pass ∷ passes) more h met = (received_at o r items pass h met.0, all_received_at o r items passes more h met.1)

pub all_received : (o : Opening) (v : View) (items : List Snapshot) (passes : List TaskPass) (more : List Handed) → IsCollectorOf o v → back_in v ≡ map handed_by passes ++ more → Meets v items →
    AllByRecursion (IsReceivedOf o (received_in v)) passes
all_received o (Sending s) items passes more h e met = absurd h
all_received o (Collecting r) items passes more h e met = all_received_at o r items passes more h (subst (AllByRecursion (IsMet r items)) e met)
all_received o Spent items passes more h e met = absurd h
