use Rattle.std.proofs.Common.{rules, ◌≡◌, ◌+◌, ◌++◌, cond, true, [], Some, None, refl, ap, subst, ◌∙◌, arith}
use Rattle.input_channel.specs.declared.entry.ReceiveEntry.TheVariants as entries
use Rattle.input_channel.specs.declared.entry.Gave.TheVariants as gaves
use Rattle.flow_defs.specs.declared.parcel.Parcel.TheVariants as parcels
use Rattle.input_channel.specs.Answers.{IsBufferOf}
use Rattle.input_channel.specs.Contents.{content}
use Rattle.input_channel.specs.Counts.{gave_by}
use Rattle.input_channel.specs.Inboxes.{due, is_barrier, poll_gives}
use Rattle.input_channel.proofs.PollLemmas.{polled_empty, polled_held}
use Rattle.input_channel.specs.States.{ChannelState, channel_next}
use Rattle.local_pool.specs.Locals.{lent_of, limit_of}
use Rattle.exchange_world.specs.Lanes.{floating_here, behind_records}
use Rattle.exchange_core.specs.declared.lane.Lane.{Lane}
use Rattle.exchange_core.specs.Inlets.{GateFollows, with_floats, floating_out, lent_then, polled_back, polled_inbox}
use Rattle.exchange_core.proofs.Polling.{data_given, gave_is, exclusive_is, floating_polled, follows_again, lane_made, lane_kept, no_line, none_given}
use Rattle.exchange_core.proofs.receiving.poll_lane.Goals as goal

pub returns-in_ok-records-in-Buffer-clause-lane : goal.returns-in_ok-records-in-Buffer-clause-lane
returns-in_ok-records-in-Buffer-clause-lane g c =
    let lane : Lane = c.args.lane.now in
    let buf = c.in-Buffer.buf in
    let bytes = content buf in
    let hold = c.args.hold in
    let limit = limit_of c.args.gate.now in
    let lent = lent_of c.args.gate.now in
    let of : IsBufferOf lane.inbox buf = search rules in
    let given : poll_gives hold lane.inbox.queue ≡ Some (parcels.Data bytes) = data_given hold lane.inbox.queue bytes of.due in
    let gave : gave_by (Some (parcels.Data bytes)) lane.inbox.counts.held ≡ cond buf.exclusive gaves.Exclusive gaves.Floating = gave_is bytes buf.exclusive of.rest lane.inbox.counts.held of.kind in
    let polled : c.poll.new.self ≡ channel_next lane.inbox (entries.Poll hold (cond buf.exclusive gaves.Exclusive gaves.Floating)) = search rules in
    let read : c.read_buffer.new.lane ≡ record lane { inbox = c.poll.new.self; reader = behind_records (lane.reader ++ bytes) } = search rules in
    let taken : c.take_back.new.inbox ≡ channel_next c.read_buffer.new.lane.inbox (entries.Returned buf.exclusive) = search rules in
    let back : c.take_back.new.inbox ≡ polled_back hold bytes lane.inbox =
    taken ∙ ap (λ (l : Lane). channel_next l.inbox (entries.Returned buf.exclusive)) read ∙ ap (λ (s : ChannelState). channel_next s (entries.Returned buf.exclusive)) polled
    ∙ exclusive_is hold bytes buf.exclusive lane.inbox gave in
    let follows = c.take_back.ensures.gate.lent in
    let same = c.take_back.ensures.gate.same.limit in
    let out : floating_here c.read_buffer.new.lane.inbox + floating_out buf.exclusive ≡ floating_here lane.inbox =
    ap (λ (l : Lane). floating_here l.inbox + floating_out buf.exclusive) read ∙ ap (λ (s : ChannelState). floating_here s + floating_out buf.exclusive) polled ∙ floating_polled hold buf.exclusive of.rest lane.inbox of.kind in
    let lent_now : lent_of c.take_back.new.gate ≡ lent_then lent lane.inbox (polled_back hold bytes lane.inbox) =
    (let e : floating_here c.take_back.new.inbox ≡ floating_here (polled_back hold bytes lane.inbox) = ap floating_here back in omega (arith, follows, out, e)) in
    let inbox_is : c.ask_floats.new.inbox ≡ polled_inbox limit lent hold lane.inbox (Some (parcels.Data bytes)) =
    c.ask_floats.ensures.inbox ∙ ap (λ n. with_floats n (lent_of c.take_back.new.gate) c.take_back.new.inbox) same ∙ ap (λ n. with_floats limit n c.take_back.new.inbox) lent_now
    ∙ ap (with_floats limit (lent_then lent lane.inbox (polled_back hold bytes lane.inbox))) back in
    lane_made limit lent hold lane c.read_buffer.new.lane c.poll.new.self c.ask_floats.new.inbox bytes (poll_gives hold lane.inbox.queue) given refl read inbox_is c.requires.owed

pub returns-in_ok-records-in-Buffer-clause-gate : goal.returns-in_ok-records-in-Buffer-clause-gate
returns-in_ok-records-in-Buffer-clause-gate g c =
    let lane : Lane = c.args.lane.now in
    let buf = c.in-Buffer.buf in
    let bytes = content buf in
    let of : IsBufferOf lane.inbox buf = search rules in
    let polled : c.poll.new.self ≡ channel_next lane.inbox (entries.Poll c.args.hold (cond buf.exclusive gaves.Exclusive gaves.Floating)) = search rules in
    let read : c.read_buffer.new.lane ≡ record lane { inbox = c.poll.new.self; reader = behind_records (lane.reader ++ bytes) } = search rules in
    let out : floating_here c.read_buffer.new.lane.inbox + floating_out buf.exclusive ≡ floating_here lane.inbox =
    ap (λ (l : Lane). floating_here l.inbox + floating_out buf.exclusive) read
    ∙ ap (λ (s : ChannelState). floating_here s + floating_out buf.exclusive) polled
    ∙ floating_polled c.args.hold buf.exclusive of.rest lane.inbox of.kind in
    follows_again c.args.pool.now c.args.gate.now c.take_back.new.gate c.ask_floats.new.gate (floating_here lane.inbox) (floating_here c.take_back.new.inbox) (floating_here c.ask_floats.new.inbox)
    (subst (λ n. GateFollows c.args.pool.now c.args.gate.now c.take_back.new.gate n (floating_here c.take_back.new.inbox)) out c.take_back.ensures.gate)
    c.ask_floats.ensures.gate

pub returns-in-Empty-clause-lane : goal.returns-in-Empty-clause-lane
returns-in-Empty-clause-lane g c =
    let lane : Lane = c.args.lane.now in
    let hold = c.args.hold in
    let none : lane.inbox.queue ≡ [] = search rules in
    let polled : c.poll.new.self ≡ channel_next lane.inbox (entries.Poll hold gaves.NoBuffer) = search rules in
    let same : c.poll.new.self ≡ lane.inbox = polled ∙ polled_empty lane.inbox hold none (no_line lane.inbox.line (c.requires.line.0 ∙ none) c.requires.line.1) in
    lane_kept (limit_of c.args.gate.now) (lent_of c.args.gate.now) hold lane c.poll.new.self (poll_gives hold lane.inbox.queue) same (ap (poll_gives hold) none ∙ none_given hold) c.requires.owed

pub returns-in-Held-clause-lane : goal.returns-in-Held-clause-lane
returns-in-Held-clause-lane g c =
    let lane : Lane = c.args.lane.now in
    let hold = c.args.hold in
    let stands : is_barrier (due lane.inbox.queue) ≡ true = search rules in
    let holds : hold ≡ true = search rules in
    let polled : c.poll.new.self ≡ channel_next lane.inbox (entries.Poll hold gaves.NoBuffer) = search rules in
    let same : c.poll.new.self ≡ lane.inbox = polled ∙ polled_held lane.inbox hold holds stands c.requires.line.0 in
    let none : poll_gives hold lane.inbox.queue ≡ None = ap (λ h. poll_gives h lane.inbox.queue) holds ∙ ap (λ b. cond b None (due lane.inbox.queue)) stands in
    lane_kept (limit_of c.args.gate.now) (lent_of c.args.gate.now) hold lane c.poll.new.self (poll_gives hold lane.inbox.queue) same none c.requires.owed
