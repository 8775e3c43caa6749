use Rattle.channel_cut.proofs.Running.{Laws, start_is_from, ran_is_told, ran_is_chain, ran_ends_in_worth, ran_ends_in_tally}
use Rattle.channel_cut.proofs.laws.runs_are_chains.Goals as goal

pub returns : goal.returns
returns c =
    let laws : Laws = record {
      records = c.accounts_tell.ensures.records;
      snapshots = c.accounts_tell.ensures.snapshots;
      chain = c.told_images_are_a_chain.ensures.chain;
      worth = c.told_images_are_a_chain.ensures.worth;
      tally = c.told_images_are_a_chain.ensures.tally;
      cut = c.ends_are_cut.ensures.cut;
    } in
    record { start = start_is_from; told = ran_is_told laws; chain = ran_is_chain laws; worth = ran_ends_in_worth laws; tally = ran_ends_in_tally laws }
