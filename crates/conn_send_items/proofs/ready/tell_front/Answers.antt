use Rattle.std.proofs.Common.{sym, ap, subst, ◌∙◌, append-nil}
use Rattle.reader_state.specs.Standing.{sent_on, announced_on}
use Rattle.reader_state.specs.Turning.{HeadsChange, IsOneOf}
use Rattle.turn_cell.specs.Passes.{mine, seen}
use Rattle.conn_send_items.proofs.Standing.{channel_at, channel_there, stands_told, stands_on}
use Rattle.conn_send_items.proofs.Saying.{sent_on-append, announced_more, sends_quiet}
use Rattle.conn_send_items.proofs.Noting.{ready_tells, told_here, told_else}
use Rattle.conn_send_items.proofs.ready.tell_front.Goals as goal

pub tell_ready-requires-clause-known : goal.tell_ready-requires-clause-known
tell_ready-requires-clause-known g c =
    let cells = c.args.cells.now in
    subst (λ channels. IsOneOf (channel_at cells.channels.now c.args.place) channels) (sym c.requires.cells.channels) (c.args.place, channel_there cells.channels.now c.args.place c.requires.within)

pub returns-clause-quiet : goal.returns-clause-quiet
returns-clause-quiet g c =
    sends_quiet c.args.cells.now.channels.now c.args.place c.args.passes.now.subpartitions.items c.look_at-front.new.passes.items (mine c.args.passes.now.readers) (mine c.tell_ready.new.pass)
    c.look_at-front.ensures.others c.look_at-front.ensures.taken
    (λ d. ap (sent_on d) c.tell_ready.ensures.told ∙ sent_on-append d (mine c.args.passes.now.readers) _ ∙ append-nil (sent_on d (mine c.args.passes.now.readers)))
    (λ d. announced_more d (mine c.args.passes.now.readers) (mine c.tell_ready.new.pass) _ c.tell_ready.ensures.told ∙ append-nil (announced_on d (mine c.args.passes.now.readers)))

pub returns-clause-here : goal.returns-clause-here
returns-clause-here g c = let cells = c.args.cells.now in
    let heads = subst (λ channels. HeadsChange channels (channel_at cells.channels.now c.args.place) c.look_at-front.result.head (seen c.args.passes.now.readers) (seen c.tell_ready.new.pass)) c.requires.cells.channels c.tell_ready.ensures.heads in
    stands_told cells.channels.now c.args.place c.args.passes.now.subpartitions.items c.look_at-front.new.passes.items c.look_at-front.ensures.others c.requires.cells.distinct (channel_at cells.channels.now c.args.place)
    (channel_there cells.channels.now c.args.place c.requires.within) c.look_at-front.result.head (seen c.args.passes.now.readers) (seen c.tell_ready.new.pass) heads c.look_at-front.ensures.front

pub returns-clause-stays : goal.returns-clause-stays
returns-clause-stays g c = λ k stood. let cells = c.args.cells.now in
    let heads = subst (λ channels. HeadsChange channels (channel_at cells.channels.now c.args.place) c.look_at-front.result.head (seen c.args.passes.now.readers) (seen c.tell_ready.new.pass)) c.requires.cells.channels c.tell_ready.ensures.heads in
    stands_on cells.channels.now c.args.place c.args.passes.now.subpartitions.items c.look_at-front.new.passes.items c.look_at-front.ensures.others c.requires.cells.distinct (channel_at cells.channels.now c.args.place)
    (channel_there cells.channels.now c.args.place c.requires.within) c.look_at-front.result.head (seen c.args.passes.now.readers) (seen c.tell_ready.new.pass) heads c.look_at-front.ensures.front k (λ ne. stood)

pub returns-clause-backlog : goal.returns-clause-backlog
returns-clause-backlog g c = let cells = c.args.cells.now in let place = c.args.place in let channel = channel_at cells.channels.now place in let front = c.look_at-front.result in
    let own = mine c.args.passes.now.readers in let own_after = mine c.tell_ready.new.pass in
    let told = ready_tells channel front.head front.backlog own own_after c.tell_ready.ensures.told in
    record {
      here = told_here cells.channels.now place c.args.passes.now.subpartitions.items c.look_at-front.new.passes.items c.look_at-front.ensures.others c.requires.cells.distinct channel
          (channel_there cells.channels.now place c.requires.within) own own_after front.backlog told c.look_at-front.ensures.backlog;
      others = told_else cells.channels.now place c.args.passes.now.subpartitions.items c.look_at-front.new.passes.items c.look_at-front.ensures.others c.requires.cells.distinct channel
          (channel_there cells.channels.now place c.requires.within) own own_after front.backlog told;
    }
