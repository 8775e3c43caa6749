use Rattle.plain_machine.proofs.HistoryLemmas.{takes_are_woven, runs_are_steps}
use Rattle.plain_machine.proofs.WholeRun.{whole_run_gives_tally}
use Rattle.plain_machine.proofs.laws.runs_are_steps.Goals as goal

pub returns-clause-task : goal.returns-clause-task
returns-clause-task c = takes_are_woven

pub returns-clause-all : goal.returns-clause-all
returns-clause-all c = runs_are_steps

pub returns-clause-whole : goal.returns-clause-whole
returns-clause-whole c = whole_run_gives_tally
