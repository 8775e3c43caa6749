use Rattle.credit_reader.proofs.Histories.{begins, grows, grows_by_sending, history_adds_up}
use Rattle.credit_reader.proofs.laws.histories_add_up.Goals as goal

pub returns-clause-begin : goal.returns-clause-begin
returns-clause-begin c = begins

pub returns-clause-grow : goal.returns-clause-grow
returns-clause-grow c = grows

pub returns-clause-send : goal.returns-clause-send
returns-clause-send c = grows_by_sending

pub returns-clause-add_up : goal.returns-clause-add_up
returns-clause-add_up c = λ channels history s d r has there. history_adds_up channels history s d r has there
