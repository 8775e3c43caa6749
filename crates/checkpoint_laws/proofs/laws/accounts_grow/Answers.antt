use Rattle.checkpoint_laws.proofs.Growing as growing
use Rattle.checkpoint_laws.proofs.laws.accounts_grow.Goals as goal

pub returns : goal.returns
returns c = record {
  begin = growing.account_begins;
  buffer = growing.buffer_is_put;
  barrier = growing.barrier_is_put;
  end = growing.end_is_put;
  snapshot = growing.snapshot_is_sent;
}
