use Rattle.std.proofs.Common.{◌≡◌, ◌≢◌, ℕ, ◌<◌, true, false, List, length, Option, Some, None, sym, ap, ◌∙◌, subst}
use Rattle.flow_defs.specs.declared.image.Snapshot.{Snapshot}
use Rattle.flow_defs.specs.Items.{Items}
use Rattle.plain_machine.specs.Places.{sender_place}
use Rattle.collector.specs.Collecting.{kept_at, IsCollector}
use Rattle.collector.specs.Filling.{IsPut, IsFilled}
use Rattle.collector.proofs.Acknowledging.{still_collector, one_more, completed, are_of_tasks}
use Rattle.collector.proofs.collector.Collector.ack.Goals as goal

pub returns-then-not-are_kept_but-clause-collector : goal.returns-then-not-are_kept_but-clause-collector
returns-then-not-are_kept_but-clause-collector c =
    let old = c.args.self.now in
    let snapshot = c.args.snapshot in
    still_collector old c.put_from.new.list snapshot c.requires.collector c.requires.due
    (subst (λ k. IsPut 0 k (Some snapshot) old.snapshots.items c.put_from.new.list.items) c.task_place-place.ensures.is c.put_from.ensures)

-- a place is empty beside that of the snapshot
pub returns-then-not-are_kept_but-clause-none : goal.returns-then-not-are_kept_but-clause-none
returns-then-not-are_kept_but-clause-none c =
    let old = c.args.self.now in
    let snapshot = c.args.snapshot in
    let slots = c.as_slice.ensures in
    let place = c.task_place-place.ensures.is in
    one_more old c.put_from.new.list snapshot c.requires.collector c.requires.due
    (subst (λ k. IsPut 0 k (Some snapshot) old.snapshots.items c.put_from.new.list.items) place c.put_from.ensures)
    (λ kept.
    let yes : c.are_kept_but.result ≡ true = c.are_kept_but.ensures.1 (λ i low ne none.
    kept i (subst (λ (l : List (Option Snapshot)). i < length l) slots low) (λ e. ne (e ∙ sym place)) (ap (λ (l : List (Option Snapshot)). kept_at l i) (sym slots) ∙ none)) in
    let no : true ≡ false = sym yes ∙ c.if-not-are_kept_but.true in
    cc)

pub fill_image-requires-clause-tasks : goal.fill_image-requires-clause-tasks
fill_image-requires-clause-tasks c =
    let old = c.args.self.now in
    let snapshot = c.args.snapshot in
    are_of_tasks (record { job = old.job; opened = old.opened; snapshots = c.replace-snapshots.result })
    (subst (λ (l : Items (Option Snapshot)). IsCollector (record { job = old.job; opened = old.opened; snapshots = l })) (sym c.replace-snapshots.ensures.value)
    (still_collector old c.put_from-2.new.list snapshot c.requires.collector c.requires.due
    (subst (λ k. IsPut 0 k (Some snapshot) old.snapshots.items c.put_from-2.new.list.items) c.task_place-place.ensures.is c.put_from-2.ensures)))

pub returns-clause-some : goal.returns-clause-some
returns-clause-some c =
    let old = c.args.self.now in
    let snapshot = c.args.snapshot in
    let job = old.job.now in
    let slots = c.as_slice.ensures in
    let place = c.task_place-place.ensures.is in
    completed old c.put_from-2.new.list snapshot c.requires.collector c.requires.due
    (subst (λ k. IsPut 0 k (Some snapshot) old.snapshots.items c.put_from-2.new.list.items) place c.put_from-2.ensures)
    c.in-Some.checkpoint c.replace-snapshots.new.dest c.in-Ok.blank c.fill_image.new.image c.in-Some.is
    (λ i low ne none. c.are_kept_but.ensures.0 c.if-not-are_kept_but.false i (subst (λ (l : List (Option Snapshot)). i < length l) (sym slots) low) (λ e. ne (e ∙ place)) (ap (λ (l : List (Option Snapshot)). kept_at l i) slots ∙ none))
    c.in-Ok.ensures
    (subst (λ (l : Items (Option Snapshot)). IsFilled job l.items c.in-Ok.blank c.fill_image.new.image) c.replace-snapshots.ensures.value c.fill_image.ensures)
