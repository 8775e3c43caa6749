use Rattle.std.proofs.Common.{sym, ap, ◌∙◌}
use Rattle.credit_reader.specs.Readers.{Ready}
use Rattle.credit_reader.specs.Senders.{happened}
use Rattle.exchange_world.specs.Lanes.{channel_id, head_in}
use Rattle.exchange_core.specs.Exchanges.{world_lane}
use Rattle.exchange_core.proofs.LaneSteps.{backlog_is, head_is}
use Rattle.exchange_core.proofs.sending.tell.Goals as goal

pub returns : goal.returns
returns c =
    let items = c.args.lane.now.queue.items in
    c.ready.ensures
    ∙ ap (λ i. happened i (Ready c.head.result c.backlog.result) c.args.readers.now) c.channel_id.ensures
    ∙ ap (λ h. happened (channel_id c.args.c) (Ready h c.backlog.result) c.args.readers.now) (c.head.ensures ∙ sym (head_is items))
    ∙ ap (λ n. happened (channel_id c.args.c) (Ready (head_in (world_lane c.args.lane.now).items) n) c.args.readers.now) (c.backlog.ensures.backlog ∙ sym (backlog_is items))
