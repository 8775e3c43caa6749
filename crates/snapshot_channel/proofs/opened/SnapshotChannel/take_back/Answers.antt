use Rattle.snapshot_channel.proofs.Steps.{gathers_any}
use Rattle.snapshot_channel.proofs.Words.{is_collector, is_sender, has_gathered}
use Rattle.snapshot_channel.proofs.opened.SnapshotChannel.take_back.Goals as goal

pub absorb-requires-clause-rule : goal.absorb-requires-clause-rule
absorb-requires-clause-rule c = gathers_any _ _ _ _ (is_collector _ _ c.requires.collecting.collector_is) (is_sender _ _ c.requires.pass.sender_is)
