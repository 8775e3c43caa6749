use Rattle.checkpoint_laws.proofs.Told as chains
use Rattle.job_chain.proofs.Chaining.{Laws, start_is_run_base, ran_is_chain, ran_ends_in_worth}
use Rattle.job_chain.proofs.laws.runs_are_chains.Goals as goal

pub returns : goal.returns
returns c =
    let laws : Laws = record {
      source = c.sources_have_accounts.ensures.account;
      stage = c.stages_have_accounts.ensures.account;
      aggregate = c.aggregates_have_accounts.ensures.account;
      begins = c.runs_are_chains.ensures.start;
    } in
    let machine : chains.Laws = record {
      between = c.encodings_give_records.ensures.between;
      successor = c.recorded_is_successor.ensures.successor;
      steps = c.steps_make_chain.ensures.steps;
      start = c.start_exists.ensures.cut;
      worth = c.chain_keeps_worth.ensures.last;
      tally = c.chain_keeps_worth.ensures.last_tally;
    } in
    let ran = c.runs_are_chains.ensures in
    record { start = start_is_run_base machine; chain = ran_is_chain laws ran.chain; worth = ran_ends_in_worth laws ran.worth }
