use Rattle.plain_machine.proofs.PlaceLemmas.{senders_stand, receivers_stand, channels_stand, channels_fill}
use Rattle.plain_machine.proofs.laws.places_are_in_order.Goals as goal

pub returns-clause-senders : goal.returns-clause-senders
returns-clause-senders c = senders_stand

pub returns-clause-receivers : goal.returns-clause-receivers
returns-clause-receivers c = receivers_stand

pub returns-clause-channels : goal.returns-clause-channels
returns-clause-channels c = channels_stand

pub returns-clause-width : goal.returns-clause-width
returns-clause-width c = channels_fill
