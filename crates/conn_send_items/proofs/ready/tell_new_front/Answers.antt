use Rattle.std.proofs.Common.{rules, ◌≡◌, refl, sym, ap, subst, ◌∙◌, append-nil}
use Rattle.reader_state.specs.Standing.{sent_on, announced_on}
use Rattle.reader_state.specs.Turning.{HeadsChange, IsOneOf}
use Rattle.turn_cell.specs.Passes.{mine, seen}
use Rattle.conn_send_items.proofs.Standing.{channel_at, channel_there, stands_on, stands_looked}
use Rattle.conn_send_items.proofs.Saying.{sent_on-append, announced_more, sends_quiet}
use Rattle.conn_send_items.proofs.Noting.{ready_tells, told_here, told_else, backlog_else}
use Rattle.conn_send_items.proofs.ready.tell_new_front.Goals as goal

pub tell_ready-requires-clause-known : goal.tell_ready-requires-clause-known
tell_ready-requires-clause-known g c =
    let cells = c.args.cells.now in
    subst (λ channels. IsOneOf (channel_at cells.channels.now c.args.place) channels) (sym c.requires.cells.channels) (c.args.place, channel_there cells.channels.now c.args.place c.requires.within)

pub returns-then-ne-clause-quiet : goal.returns-then-ne-clause-quiet
returns-then-ne-clause-quiet g c =
    sends_quiet c.args.cells.now.channels.now c.args.place c.args.passes.now.subpartitions.items c.look_at-front.new.passes.items (mine c.args.passes.now.readers) (mine c.tell_ready.new.pass)
    c.look_at-front.ensures.others c.look_at-front.ensures.taken
    (λ d. ap (sent_on d) c.tell_ready.ensures.told ∙ sent_on-append d (mine c.args.passes.now.readers) _ ∙ append-nil (sent_on d (mine c.args.passes.now.readers)))
    (λ d. announced_more d (mine c.args.passes.now.readers) (mine c.tell_ready.new.pass) _ c.tell_ready.ensures.told ∙ append-nil (announced_on d (mine c.args.passes.now.readers)))

pub returns-then-ne-clause-stays : goal.returns-then-ne-clause-stays
returns-then-ne-clause-stays g c = λ k stood. let cells = c.args.cells.now in
    let heads = subst (λ channels. HeadsChange channels (channel_at cells.channels.now c.args.place) c.look_at-front.result.head (seen c.args.passes.now.readers) (seen c.tell_ready.new.pass)) c.requires.cells.channels c.tell_ready.ensures.heads in
    stands_on cells.channels.now c.args.place c.args.passes.now.subpartitions.items c.look_at-front.new.passes.items c.look_at-front.ensures.others c.requires.cells.distinct (channel_at cells.channels.now c.args.place)
    (channel_there cells.channels.now c.args.place c.requires.within) c.look_at-front.result.head (seen c.args.passes.now.readers) (seen c.tell_ready.new.pass) heads c.look_at-front.ensures.front k (λ ne. stood)

pub returns-else-ne-clause-quiet : goal.returns-else-ne-clause-quiet
returns-else-ne-clause-quiet g c =
    sends_quiet c.args.cells.now.channels.now c.args.place c.args.passes.now.subpartitions.items c.look_at-front.new.passes.items (mine c.args.passes.now.readers) (mine c.args.passes.now.readers)
    c.look_at-front.ensures.others c.look_at-front.ensures.taken (λ d. refl) (λ d. refl)

pub returns-else-ne-clause-stays : goal.returns-else-ne-clause-stays
returns-else-ne-clause-stays g c = λ k stood.
    stands_looked c.args.cells.now.channels.now c.args.place c.args.passes.now.subpartitions.items c.look_at-front.new.passes.items c.look_at-front.ensures.others (seen c.args.passes.now.readers) c.look_at-front.ensures.stays k stood

pub returns-then-ne-clause-backlog : goal.returns-then-ne-clause-backlog
returns-then-ne-clause-backlog g c = let cells = c.args.cells.now in let place = c.args.place in let channel = channel_at cells.channels.now place in let front = c.look_at-front.result in
    let own = mine c.args.passes.now.readers in let own_after = mine c.tell_ready.new.pass in
    let told = ready_tells channel front.head front.backlog own own_after c.tell_ready.ensures.told in
    record {
      here = told_here cells.channels.now place c.args.passes.now.subpartitions.items c.look_at-front.new.passes.items c.look_at-front.ensures.others c.requires.cells.distinct channel
          (channel_there cells.channels.now place c.requires.within) own own_after front.backlog told c.look_at-front.ensures.backlog;
      others = told_else cells.channels.now place c.args.passes.now.subpartitions.items c.look_at-front.new.passes.items c.look_at-front.ensures.others c.requires.cells.distinct channel
          (channel_there cells.channels.now place c.requires.within) own own_after front.backlog told;
    }

pub returns-else-ne-clause-backlog : goal.returns-else-ne-clause-backlog
returns-else-ne-clause-backlog g c = let channels = c.args.cells.now.channels.now in let front = c.look_at-front.result in let own = mine c.args.passes.now.readers in
    let same : c.args.last.backlog ≡ front.backlog = search rules in
    record {
      here = (λ d at. c.requires.last.0 d at ∙ same, c.look_at-front.ensures.backlog);
      others = backlog_else channels c.args.place c.args.passes.now.subpartitions.items c.look_at-front.new.passes.items c.look_at-front.ensures.others own;
    }
