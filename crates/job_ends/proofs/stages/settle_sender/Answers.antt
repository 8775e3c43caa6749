use Rattle.std.proofs.Common.{List, sym, subst}
use Rattle.subpartition.specs.Standing as sending
use Rattle.job_ends.specs.Settling.{AllSettled}
use Rattle.job_ends.proofs.Leavings.{own_sent, sent_is}
use Rattle.job_ends.proofs.stages.settle_sender.Goals as goal

pub take_partition-passes-requires : goal.take_partition-passes-requires
take_partition-passes-requires g c = c.requires.sent.has

pub settle_channels-requires-clause-own : goal.settle_channels-requires-clause-own
settle_channels-requires-clause-own g c =
    own_sent c.args.cells.now c.args.first c.args.stride c.args.place.now c.take_partition-passes.new.place c.take_partition-passes.result c.requires.sent c.take_partition-passes.ensures

pub returns-clause-place : goal.returns-clause-place
returns-clause-place g c = c.take_partition-passes.ensures.without

pub returns-clause-settled : goal.returns-clause-settled
returns-clause-settled g c =
    subst (λ (own : List _). AllSettled sending.QueueStandsFor c.args.first c.args.stride own c.args.takers.now.items)
    (sym (sent_is c.args.place.now c.take_partition-passes.new.place c.take_partition-passes.result c.take_partition-passes.ensures)) c.settle_channels.ensures.settled
