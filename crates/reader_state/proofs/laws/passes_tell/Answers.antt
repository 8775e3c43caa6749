use Rattle.reader_state.proofs.Telling.{sent_by, backlog_by, credit_by, resumptions_by}
use Rattle.reader_state.proofs.laws.passes_tell.Goals as goal

pub returns : goal.returns
returns c = λ channels history d legal. record {
  sent = sent_by channels history d legal;
  backlog = backlog_by channels history d legal;
  credit = credit_by channels history d legal;
  resumptions = resumptions_by channels history d legal;
}
