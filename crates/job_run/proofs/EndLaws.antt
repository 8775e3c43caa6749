-- What stands in the places of workers while they are settled, one thing after the other.
use Rattle.std.proofs.Common.{◌≡◌, ℕ, suc, ◌<◌, List, [], sym, ap, ◌∙◌, arith}
use Rattle.std.proofs.lemmas.Option.{slice_get_within}
use Rattle.std.specs.Prelude.{Option}
use Rattle.std.specs.Option.{option_map_or}
use Rattle.flow_defs.specs.Items.{Items}
use Rattle.flow_defs.specs.declared.image.Snapshot.{Snapshot}
use Rattle.flow_defs.specs.declared.job.Job.{Job}
use Rattle.flow_defs.specs.Jobs.{last_edge, tasks}
use Rattle.snapshot_channel.specs.declared.opened.SnapshotChannel.{SnapshotChannel}
use Rattle.job_workers.specs.declared.task.TaskLeft.{TaskLeft}
use Rattle.job_workers.specs.Tasks.{snapshots_in}
use Rattle.job_ends.specs.Ended.{TaskPlace, AreReceived, AreSettled, HaveAcknowledged, SnapshotsStay, snapshots_at}
use Rattle.job_run.proofs.ListLaws.{get_there}

module _ {S : Type 0} where
  -- Rows that were settled and settled again are settled.
  pub settled_again : {old mid new : List (Items (TaskPlace S))} → AreSettled old mid → AreSettled mid new → AreSettled old new
  settled_again {old = old} {mid = mid} one two = record {
    many = two.many ∙ one.many;
    row_many = λ s before after was is.
        let low = slice_get_within old s before was in
        let many = one.many in
        let between = get_there mid s (omega (arith, low, many)) in
        two.row_many s between.0 after between.1 is ∙ one.row_many s before between.0 was between.1;
    each = λ s i left at.
        let first = one.each s i left at in
        let second = two.each s i first.0 first.1 in (
          second.0,
          second.1,
          record { input = second.2.input ∙ first.2.input; cause = second.2.cause ∙ first.2.cause },
        );
  }

  module _ {job : Job} {old new : List (Items (TaskPlace S))} (settled : AreSettled old new) (stay : SnapshotsStay old new) where
    -- Tasks whose edges were settled have their passes of the channel of snapshots.
    pub still_acknowledged : {channel : SnapshotChannel} → HaveAcknowledged job channel old → HaveAcknowledged job channel new
    still_acknowledged have = record {
      rows_many = settled.many ∙ have.rows_many;
      row_many = λ s row at.
          let low = slice_get_within new s row at in
          let many = settled.many in
          let before = get_there old s (omega (arith, low, many)) in
          settled.row_many s before.0 row before.1 at ∙ have.row_many s before.0 before.1;
      each = λ s i stage low.
          let one = have.each s i stage low in
          let rest = stay s i one.0 one.1 in (
            rest.0,
            rest.1,
            record { pass = one.2.pass; is_there = rest.2 ∙ one.2.is_there; of_channel = one.2.of_channel; task = one.2.task },
          );
    }

    -- And what was received of them then was received of them before.
    module _ {channel : SnapshotChannel} (have : HaveAcknowledged job channel old) where
      same_snapshots : (s i : ℕ) → s < suc (suc (last_edge job)) → i < tasks job s → snapshots_at new s i ≡ snapshots_at old s i
      same_snapshots s i stage low =
          let one = have.each s i stage low in
          let rest = stay s i one.0 one.1 in
          ap (λ (m : Option (TaskLeft S)). option_map_or (λ (left : TaskLeft S). snapshots_in left.snapshots) m []) rest.1
          ∙ ap snapshots_in rest.2
          ∙ sym (ap (λ (m : Option (TaskLeft S)). option_map_or (λ (left : TaskLeft S). snapshots_in left.snapshots) m []) one.1)

      pub were_received : (received : List Snapshot) → AreReceived job received new → AreReceived job received old
      were_received received are s i stage low =
          let begins = are s i stage low in
          (begins.0, begins.1 ∙ same_snapshots s i stage low)
