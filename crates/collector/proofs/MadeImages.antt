-- The image of all snapshots, and what a collector holds.
use Rattle.std.proofs.Common.{◌≡◌, ◌≢◌, ◌⊎◌, ℕ, zero, suc, ◌+◌, ◌<◌, ◌≤◌, Bool, true, false, ◌&&◌, cond, eqb, List, [], ◌∷◌, length, Option, Some, None, refl, sym, ap, ◌∙◌, subst, arith, inl, inr}
use Rattle.std.specs.Prelude.{slice_get, slice_index, unwrap_or, All, IsSomeAnd}
use Rattle.std.specs.Option.{option_map_or}
use Rattle.std.proofs.lemmas.Option.{get_or_from_slice_get}
use Rattle.flow_defs.specs.declared.job.Job.{Job}
use Rattle.flow_defs.specs.declared.image.Image.{Image}
use Rattle.flow_defs.specs.declared.image.TakeRun.{TakeRun}
use Rattle.flow_defs.specs.declared.image.Snapshot.{Snapshot}
use Rattle.flow_defs.specs.Items.{Items}
use Rattle.flow_defs.specs.Jobs.{last_edge, tasks, sum_below, is_channel, IsJob}
use Rattle.plain_machine.specs.Places.{channels, channel_place, sender_place, receiver_place}
use Rattle.plain_machine.specs.Images.{items_at}
use Rattle.plain_machine.proofs.Channels.{ends_of}
use Rattle.collector.specs.declared.collector.Checkpoint.{Checkpoint}
use Rattle.collector.specs.Fitting.{IsTask}
use Rattle.collector.specs.Images.{IsImageOf}
use Rattle.collector.specs.Collecting.{task_count, kept_at}
use Rattle.collector.specs.Filling.{IsBlank, IsFilled}
use Rattle.collector.proofs.TaskPlaces.{place_within, taker_stands, many_send, many_take}

-- a filled image is one of all snapshots
pub image_of : (job : Job) (checkpoint : Checkpoint) (slots : List (Option Snapshot)) (snapshots : ℕ → ℕ → Snapshot) (blank image : Image) → IsBlank job checkpoint blank → IsFilled job slots blank image →
    ((i a : ℕ) → IsTask job i a → kept_at slots (sender_place job i a) ≡ Some (snapshots i a)) → IsImageOf job checkpoint.number checkpoint.final_one snapshots image
image_of job checkpoint slots snapshots blank image is filled all = record {
  number_is = filled.head.number ∙ is.number;
  last = filled.head.last ∙ is.last;
  text = ap (λ (l : Items ℕ). l.items) filled.head.text ∙ is.text;
  offsets = filled.shape.offsets;
  ended = filled.shape.ended;
  emitted = filled.shape.emitted ∙ sym (many_send job);
  tables = filled.shape.tables;
  takes = let e = many_take job in omega (arith, filled.shape.takes, e);
  saved_in = filled.shape.saved_in;
  saved_out = filled.shape.saved_out;
  offset_at = λ a here. get_or_from_slice_get image.offsets.items a (snapshots 0 a).offset 0 (filled.shows.offsets a (snapshots 0 a) (omega arith) (omega (arith, here, filled.shape.offsets)) (all 0 a (omega arith, here)));
  ended_at = λ a here. filled.shows.ended a (snapshots 0 a) (omega arith) (omega (arith, here, filled.shape.ended)) (all 0 a (omega arith, here));
  emitted_at = λ i a low here.
      let place = sender_place job i a in
      let within = place_within (suc (last_edge job)) (tasks job) i a (omega (arith, low)) here in
      get_or_from_slice_get image.emitted.items place (snapshots i a).emitted 0
      (filled.shows.emitted place (snapshots i a) (omega arith) (omega (arith, within, filled.shape.emitted))
      (ap (kept_at slots) (let z : 0 + place ≡ place = omega arith in z) ∙ all i a (omega (arith, low), here)));
  table_at = λ b here. filled.shows.tables b (snapshots (suc (last_edge job)) b) (omega arith) (omega (arith, here, filled.shape.tables)) (all (suc (last_edge job)) b (omega arith, here));
  takes_at = λ e b low here.
      let place = receiver_place job e b in
      let stands = taker_stands job e b in
      let within = place_within (suc (suc (last_edge job))) (tasks job) (suc e) b (omega (arith, low)) here in
      ap (λ o. option_map_or (λ (l : Items TakeRun). l.items) o [])
      (filled.shows.takes place (snapshots (suc e) b) (omega arith) (omega (arith, within, stands, filled.shape.takes))
      (ap (kept_at slots) (sym stands) ∙ all (suc e) b (omega (arith, low), here)));
  saved_in_at = λ e a b on. let ends = ends_of job e a b on in filled.shows.saved_in.put e a b (snapshots (suc e) b) on (omega arith) (all (suc e) b (omega (arith, ends.edge), ends.receiver));
  saved_out_at = λ e a b on. let ends = ends_of job e a b on in filled.shows.saved_out.put e a b (snapshots e a) on (omega arith) (all e a (omega (arith, ends.edge), ends.sender));
}
