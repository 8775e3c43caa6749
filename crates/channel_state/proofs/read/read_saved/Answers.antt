use Rattle.std.proofs.Common.{◌≡◌, subst, arith}
use Rattle.channel_state.specs.Building.{AreSaved}
use Rattle.channel_state.proofs.BuildLemmas.{first_saved, next_saved}
use Rattle.channel_state.proofs.read.read_saved.Goals as goal

pub loop-i-init : goal.loop-i-init
loop-i-init c = λ fits. first_saved c.args.last c.args.cursor.now.rest.now c.new-pieces_in.result.items c.new-pieces_out.result.items c.new-pieces_in.ensures c.new-pieces_out.ensures fits

pub loop-i-preserved : goal.loop-i-preserved
loop-i-preserved c = λ fits.
    next_saved c.loop-i._i c.args.last c.args.cursor.now.rest.now c.loop-i.cursor.rest.now c.saved_in.new.self.rest.now c.saved_out.new.self.rest.now c.in_ok-first.first.now c.in_ok-second.second.now
    c.loop-i.pieces_in.items c.push.new.self.items c.loop-i.pieces_out.items c.push-in-loop-i.new.self.items c.in_ok-incoming.incoming c.in_ok-overtaken.overtaken (c.loop-i.invariant fits)
    c.in_ok-first.ensures c.in_ok-second.ensures c.in_ok-incoming.ensures c.in_ok-overtaken.ensures c.in_ok-push.ensures.ok c.in_ok-push-2.ensures.ok

pub returns : goal.returns
returns c = λ fits. let all : c.loop-i._i ≡ c.args.many = omega arith in subst (λ k. AreSaved k c.args.last c.args.cursor.now.rest.now c.loop-i.cursor.rest.now c.loop-i.pieces_in.items c.loop-i.pieces_out.items) all (c.loop-i.invariant fits)
