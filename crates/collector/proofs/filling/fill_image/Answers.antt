use Rattle.std.proofs.Common.{◌≡◌, ℕ, suc, ◌<◌, List, [], ◌∷◌, ◌++◌, length, Option, Some, None, true, false, sym, ap, ◌∙◌, subst, arith, inl, inr}
use Rattle.std.proofs.lemmas.Bool.{cases_lt}
use Rattle.flow_defs.specs.declared.image.Saved.{Saved}
use Rattle.collector.specs.Pieces.{IsInto, IsOutOf}
use Rattle.collector.specs.Collecting.{kept_at}
use Rattle.collector.specs.Filling.{IsOfJob, ShowsAll, IsPutInto}
use Rattle.collector.proofs.ListLemmas.{one_less, popped, still_kept, all_weaker}
use Rattle.collector.proofs.SlotLemmas.{all_none, all_some, all_nothing, shape_stays, same_heads}
use Rattle.collector.proofs.filling.fill_image.Goals as goal

pub put_snapshot-requires-clause-pieces_in : goal.put_snapshot-requires-clause-pieces_in
put_snapshot-requires-clause-pieces_in c =
    let job = c.args.job.now in
    let snapshot = c.in-Some-slot.snapshot in
    let left = c.pop.new.self.items in
    let here = popped c.args.snapshots.items c.tasks.rest.items left c.in-Some.slot c.tasks.invariant.kept c.in-Some.ensures.items ∙ c.in-Some-slot.is in
    all_weaker (IsInto job snapshot.task.stage snapshot.task.index) (IsOfJob job) (λ saved into. into.channel) snapshot.saved_in.items (c.requires.tasks (length left) snapshot here).saved_in

pub put_snapshot-requires-clause-pieces_out : goal.put_snapshot-requires-clause-pieces_out
put_snapshot-requires-clause-pieces_out c =
    let job = c.args.job.now in
    let snapshot = c.in-Some-slot.snapshot in
    let left = c.pop.new.self.items in
    let here = popped c.args.snapshots.items c.tasks.rest.items left c.in-Some.slot c.tasks.invariant.kept c.in-Some.ensures.items ∙ c.in-Some-slot.is in
    all_weaker (IsOutOf job snapshot.task.stage snapshot.task.index) (IsOfJob job) (λ saved out. out.channel) snapshot.saved_out.items (c.requires.tasks (length left) snapshot here).saved_out

pub tasks-preserved-in-Some-slot : goal.tasks-preserved-in-Some-slot
tasks-preserved-in-Some-slot c =
    let job = c.args.job.now in
    let slots = c.args.snapshots.items in
    let snapshot = c.in-Some-slot.snapshot in
    let rest = c.tasks.rest.items in
    let left = c.pop.new.self.items in
    let slot = c.in-Some.slot in
    let k = length left in
    let old = c.tasks.image in
    let new = c.put_snapshot.new.image in
    let so_far = c.tasks.invariant in
    let here = popped slots rest left slot so_far.kept c.in-Some.ensures.items ∙ c.in-Some-slot.is in
    let put : IsPutInto job k snapshot old new = subst (λ n. IsPutInto job n snapshot old new) (ap length c.as_slice.ensures) c.put_snapshot.ensures in
    record {
      head = same_heads c.args.image.now old new so_far.head put.head;
      shape = shape_stays job k snapshot old new so_far.shape put;
      kept = still_kept slots rest left slot so_far.kept c.in-Some.ensures.items;
      shows = all_some job slots k snapshot old new here (c.requires.tasks k snapshot here) put
          (subst (λ n. ShowsAll job slots n old) (one_less rest left slot c.in-Some.ensures.items) so_far.shows);
    }

pub tasks-preserved : goal.tasks-preserved
tasks-preserved c =
    let job = c.args.job.now in
    let slots = c.args.snapshots.items in
    let rest = c.tasks.rest.items in
    let left = c.pop.new.self.items in
    let slot = c.in-Some.slot in
    let image = c.tasks.image in
    let so_far = c.tasks.invariant in
    let none = popped slots rest left slot so_far.kept c.in-Some.ensures.items ∙ c.in_default-slot.is in
    record {
      head = so_far.head;
      shape = so_far.shape;
      kept = still_kept slots rest left slot so_far.kept c.in-Some.ensures.items;
      shows = all_none job slots (length left) image none (subst (λ n. ShowsAll job slots n image) (one_less rest left slot c.in-Some.ensures.items) so_far.shows);
    }

pub returns : goal.returns
returns c =
    let job = c.args.job.now in
    let slots = c.args.snapshots.items in
    let image = c.tasks.image in
    let so_far = c.tasks.invariant in
    let n = length c.tasks.rest.items in
    let nothing : n ≡ 0 = elim (cases_lt 0 n) [
      | inl some ↦ let no : false ≡ true = c.in_default.ensures.some.1 some in cc
      | inr none ↦ omega (arith, none)
    ] in
    record {
      head = so_far.head;
      shape = so_far.shape;
      shows = subst (λ k. ShowsAll job slots k image) nothing so_far.shows;
    }
