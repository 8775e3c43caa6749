use Rattle.channel_cut.proofs.Closing.{Laws, settled_are_ends, ends_are_cut}
use Rattle.channel_cut.proofs.laws.ends_are_cut.Goals as goal

pub returns : goal.returns
returns c =
    let laws : Laws = record {
      numbers = c.allowed_histories.ensures.numbers;
      grows = c.histories_keep_order.ensures.taken;
      entries = c.passes_tell.ensures.entries;
      reader = c.passes_tell-2.ensures.pushed;
    } in
    record { ends = settled_are_ends laws; cut = ends_are_cut laws }
