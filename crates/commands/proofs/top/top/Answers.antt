use Rattle.commands.proofs.top.top.Goals as goal

pub returns : goal.returns
returns g c = let did = c.answer.ensures in record {
  done = did.done;
  usage = did.usage;
  accepted = did.accepted;
  text = did.text;
  text_refused = did.text_refused;
  script_refused = did.script_refused;
  limit = did.limit;
  job_refused = did.job_refused;
  pool_refused = did.pool_refused;
  source_refused = did.source_refused;
  over_refused = did.over_refused;
  input = did.input;
  output = did.output;
  keeper = did.keeper;
  kept = did.kept;
  kept_else = did.kept_else;
  chain = did.chain;
  last = did.last;
  held = did.held;
  held_refused = did.held_refused;
  inspect_refused = did.inspect_refused;
  no_link = did.no_link;
  over_credit = did.over_credit;
  complete = did.complete;
  complete_gen = did.complete_gen;
  complete_selfrun = did.complete_selfrun;
  complete_script = did.complete_script;
  complete_inspect = did.complete_inspect;
  known = did.known;
  silent = did.silent;
  front = did.front;
  told = did.told;
  given_back = did.given_back;
}
