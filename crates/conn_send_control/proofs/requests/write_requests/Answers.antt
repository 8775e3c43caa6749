use Rattle.std.proofs.Common.{◌≡◌, ◌<◌, ◌∙◌, arith, subst, length, take}
use Rattle.std.proofs.lemmas.List.{take_all}
use Rattle.std.proofs.lemmas.Result.{err_from_is_err_and}
use Rattle.net_frames.specs.Frames.{all_spelled}
use Rattle.conn_parts.specs.Messages.{requests_of}
use Rattle.conn_send_control.specs.Going.{LieStill}
use Rattle.conn_send_control.proofs.Opening.{request_laid, requests_cut, requests_written, request_cut_as}
use Rattle.conn_send_control.proofs.requests.write_requests.Goals as goal

pub returns-in_err-make_room-clause-written : goal.returns-in_err-make_room-clause-written
returns-in_err-make_room-clause-written g c =
    let failed = err_from_is_err_and c.from_residual.result c.from_residual.ensures.1 in let i = c.loop-channel.invariant in
    request_cut_as _ _ _ _ _ failed.0 c.from_residual.result failed.1
    (requests_cut _ _ _ _ _ _ c.args.channels.now c.loop-channel.channel-index _ i.never_falls i.lies c.in_err-make_room.ensures.out)

pub loop-channel-preserved : goal.loop-channel-preserved
loop-channel-preserved g c =
    let i = c.loop-channel.invariant in
    let within : c.loop-channel.channel-index < length c.args.channels.now = omega arith in
    record {
      unfinished = c.make_room.ensures.unfinished ∙ i.unfinished;
      line = c.make_room.ensures.line ∙ i.line;
      never_falls = omega (arith, i.never_falls, c.make_room.ensures.never_falls);
      lies = request_laid _ _ _ c.args.channels.now c.loop-channel.channel-index _ _ _ _ within i.lies c.in_ok-make_room.ensures.out c.put.ensures.laid;
    }

pub returns-clause-written : goal.returns-clause-written
returns-clause-written g c =
    let i = c.loop-channel.invariant in
    let all : take c.loop-channel.channel-index c.args.channels.now ≡ c.args.channels.now = take_all _ c.args.channels.now (omega arith) in
    requests_written _ _ _ _ _ _ _ _ c.write_to.result i.never_falls
    (subst (λ cs. LieStill (g.O.LinkOut.sent c.args.out.now) (g.O.LinkOut.sent c.loop-channel.out) (all_spelled (requests_of cs)) c.loop-channel.outgoing) all i.lies) c.write_to.ensures.written
