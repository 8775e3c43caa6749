use Rattle.snapshot_channel.proofs.Steps.{sends_any}
use Rattle.snapshot_channel.proofs.Words.{may_send_by, has_sent}
use Rattle.snapshot_channel.proofs.opened.SnapshotChannel.send.Goals as goal

pub try_send_as-requires-clause-rule : goal.try_send_as-requires-clause-rule
try_send_as-requires-clause-rule g c = (sends_any _ _ _ _ (may_send_by _ _ _ c.requires.pass.sender_is c.requires.may), λ items views h at. tt)
