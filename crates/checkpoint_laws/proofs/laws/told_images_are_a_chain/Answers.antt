use Rattle.checkpoint_laws.proofs.Told.{Laws, told_is_chain, told_ends_in_worth, told_ends_in_tally}
use Rattle.checkpoint_laws.proofs.laws.told_images_are_a_chain.Goals as goal

pub returns : goal.returns
returns c =
    let laws : Laws = record {
      between = c.encodings_give_records.ensures.between;
      successor = c.recorded_is_successor.ensures.successor;
      steps = c.steps_make_chain.ensures.steps;
      start = c.start_exists.ensures.cut;
      worth = c.chain_keeps_worth.ensures.last;
      tally = c.chain_keeps_worth.ensures.last_tally;
    } in
    record { chain = told_is_chain laws; worth = told_ends_in_worth laws; tally = told_ends_in_tally laws }
