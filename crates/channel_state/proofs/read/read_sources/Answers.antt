use Rattle.std.proofs.Common.{◌≡◌, subst, arith}
use Rattle.channel_state.specs.Building.{AreSources}
use Rattle.channel_state.proofs.BuildLemmas.{first_sources, next_source}
use Rattle.channel_state.proofs.read.read_sources.Goals as goal

pub loop-i-init : goal.loop-i-init
loop-i-init c = λ fits. first_sources c.args.last c.args.cursor.now.rest.now c.new-offsets.result.items c.new-ends.result.items c.new-offsets.ensures c.new-ends.ensures fits

pub loop-i-preserved : goal.loop-i-preserved
loop-i-preserved c = λ fits.
    next_source c.loop-i._i c.args.last c.args.cursor.now.rest.now c.loop-i.cursor.rest.now c.u64.new.self.rest.now c.ended.new.self.rest.now c.loop-i.offsets.items c.push.new.self.items c.loop-i.ends.items c.push-in-loop-i.new.self.items
    c.in_ok-offset.offset c.in_ok-is_ended.is_ended (c.loop-i.invariant fits) c.in_ok-offset.ensures c.in_ok-is_ended.ensures c.in_ok-push.ensures.ok c.in_ok-push-2.ensures.ok

pub returns : goal.returns
returns c = λ fits. let all : c.loop-i._i ≡ c.args.many = omega arith in subst (λ k. AreSources k c.args.last c.args.cursor.now.rest.now c.loop-i.cursor.rest.now c.loop-i.offsets.items c.loop-i.ends.items) all (c.loop-i.invariant fits)
