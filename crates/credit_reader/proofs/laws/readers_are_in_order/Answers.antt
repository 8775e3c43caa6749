use Rattle.std.proofs.Common.{subst, map}
use Rattle.credit_reader.specs.Senders.{AreDistinct}
use Rattle.credit_reader.specs.Laws.{HoldsEachOnce, FirstCanSend}
use Rattle.credit_reader.proofs.Holding.{holds_each_once, own_channels, first_can_send}
use Rattle.credit_reader.proofs.laws.readers_are_in_order.Goals as goal

pub returns-clause-queue : goal.returns-clause-queue
returns-clause-queue c = subst HoldsEachOnce c.readers.view_is (holds_each_once _ _ _ c.readers.invariant)

pub returns-clause-first : goal.returns-clause-first
returns-clause-first c = subst FirstCanSend c.readers.view_is (first_can_send _ _ _ c.readers.invariant)

pub returns-clause-channels : goal.returns-clause-channels
returns-clause-channels c = subst (λ s. AreDistinct (map (λ r. r.channel) s.readers)) c.readers.view_is (own_channels _ _ _ c.readers.invariant)
