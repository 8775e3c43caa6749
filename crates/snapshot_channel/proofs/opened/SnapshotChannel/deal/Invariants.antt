use Rattle.snapshot_channel.proofs.opened.SnapshotChannel.deal.Given as goal

abbrev pub ghosts-deal_to : goal.ghosts-deal_to
ghosts-deal_to a = record { whose = a.whose }
