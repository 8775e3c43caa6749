-- What it leaves are its input and what the source handed back.
use Rattle.std.proofs.Common.{refl, ◌∙◌}
use Rattle.job_workers.proofs.task.run_source_task.Goals as goal

pub returns : goal.returns
returns g c =
    let end = c.run_source-end.result in
    let did = c.run_source-end.ensures in record {
      input = c.run_source-end.new.input;
      is_there = refl;
      no_gate = refl;
      partition = record { passes = end.passes.partition; are_there = refl; are_of = did.partition };
      snapshots = record { pass = end.passes.snapshots; is_there = refl; of_channel = did.snapshots.0; task = did.snapshots.1 ∙ c.requires.may.lent.task };
      last_image = did.last_image;
      account = did.account;
    }
