use Rattle.std.proofs.Common.{rules, ◌<◌, ◌≤◌, ◌∙◌, length, refl, arith}
use Rattle.input_gate.proofs.RoundLaws.{quiet_all, quiet_length, quiet_on, spare_more, spare_all}
use Rattle.input_gate.proofs.SegmentLaws.{even_refl, even_then}
use Rattle.input_gate.proofs.rounds.refill_all.Goals as goal

pub loop-i-init : goal.loop-i-init
loop-i-init g c = record { within = omega arith; lanes = c.requires.lanes; quiet = quiet_all c.args.lanes.now.items; lender = c.requires.lender; same = refl; spare = λ d low. absurd (omega (arith, low)); segments = even_refl _ _ _ }

pub refill_at-requires-clause-within : goal.refill_at-requires-clause-within
refill_at-requires-clause-within g c =
    let same = quiet_length c.args.lanes.now.items c.loop-i.lanes.items c.loop-i.invariant.quiet in
    let low : c.loop-i.i < length c.args.lanes.now.items = search rules in
    omega (arith, same, low)

pub refill_at-requires-clause-lanes : goal.refill_at-requires-clause-lanes
refill_at-requires-clause-lanes g c = search (rules, c.loop-i.invariant.lanes, c.loop-i.invariant.same)

pub loop-i-preserved : goal.loop-i-preserved
loop-i-preserved g c =
    let low : c.loop-i.i < length c.args.lanes.now.items = search rules in
    record {
      within = omega (arith, low);
      lanes = search (rules, c.refill_at.ensures.lanes, c.loop-i.invariant.same);
      quiet = quiet_on c.args.lanes.now.items c.loop-i.lanes.items c.refill_at.new.lanes.items c.loop-i.invariant.quiet c.refill_at.ensures.quiet;
      lender = c.refill_at.ensures.lender.0;
      same = c.refill_at.ensures.lender.1 ∙ c.loop-i.invariant.same;
      spare = spare_more c.loop-i.lanes.items c.refill_at.new.lanes.items c.loop-i.i c.in-Ok.ensures.here c.refill_at.ensures.others c.loop-i.invariant.spare;
      segments = even_then c.loop-i.invariant.segments c.refill_at.ensures.segments;
    }

pub returns-in-Err-clause-quiet : goal.returns-in-Err-clause-quiet
returns-in-Err-clause-quiet g c = quiet_on c.args.lanes.now.items c.loop-i.lanes.items c.refill_at.new.lanes.items c.loop-i.invariant.quiet c.refill_at.ensures.quiet

pub returns-clause-spare : goal.returns-clause-spare
returns-clause-spare g c = spare_all c.loop-i.lanes.items c.loop-i.i (let same = quiet_length c.args.lanes.now.items c.loop-i.lanes.items c.loop-i.invariant.quiet in let e : length c.args.lanes.now.items ≤ c.loop-i.i = search rules in omega (arith, same, e)) c.loop-i.invariant.spare

pub returns-in-Err-clause-segments : goal.returns-in-Err-clause-segments
returns-in-Err-clause-segments g c = even_then c.loop-i.invariant.segments c.refill_at.ensures.segments
