use Rattle.std.proofs.Common.{rules, ◌∙◌, subst, refl, arith, Ok}
use Rattle.input_gate.specs.Channels.{account_of, Took}
use Rattle.input_gate.proofs.RoundLaws.{quiet_later, later_on, quiet_length, quiet_on, quiet_cells, up_then, gave_on, most_on, same_of, nothing_of}
use Rattle.input_gate.proofs.GateLaws.{looked_on}
use Rattle.input_gate.proofs.SegmentLaws.{even_then}
use Rattle.input_gate.proofs.cell_gate.next_of.Goals as goal

pub returns-in-Err-clause-gave : goal.returns-in-Err-clause-gave
returns-in-Err-clause-gave g c = (nothing_of (account_of c.args.lanes.now.items) (account_of c.refill_unread.new.lanes.items) (same_of c.args.lanes.now.items c.refill_unread.new.lanes.items c.refill_unread.ensures.quiet), tt)

pub returns-in-Err-clause-cells : goal.returns-in-Err-clause-cells
returns-in-Err-clause-cells g c = quiet_cells c.args.lanes.now.items c.refill_unread.new.lanes.items c.refill_unread.ensures.quiet

pub loop-round-init : goal.loop-round-init
loop-round-init g c = record {
  lanes = c.refill_unread.ensures.lanes;
  quiet = c.refill_unread.ensures.quiet;
  spare = c.in-Ok.ensures.spare;
  lender = c.refill_unread.ensures.lender.0;
  same = c.refill_unread.ensures.lender.1;
  most = c.most_held-most.ensures;
  stop = c.requires.stop;
  pass = (refl, refl);
  segments = c.refill_unread.ensures.segments;
}

pub take-requires-clause-few : goal.take-requires-clause-few
take-requires-clause-few g c = let same = quiet_length c.args.lanes.now.items c.loop-round.lanes.items c.loop-round.invariant.quiet in let few = c.requires.few in omega (arith, same, few)

pub returns-in-Ok-Item-clause-gave : goal.returns-in-Ok-Item-clause-gave
returns-in-Ok-Item-clause-gave g c = gave_on c.args.lanes.now.items c.loop-round.lanes.items c.take.new.lanes.items c.args.hold c.in-Ok-Item.item c.loop-round.invariant.quiet (subst (λ taken. Took c.args.hold c.loop-round.lanes.items (Ok taken) c.take.new.lanes.items) c.in-Ok-Item.field-0-is c.in-Ok-Item.ensures.took).0

pub returns-in-Ok-Item-clause-cells : goal.returns-in-Ok-Item-clause-cells
returns-in-Ok-Item-clause-cells g c = c.take.ensures.cells ∙ quiet_cells c.args.lanes.now.items c.loop-round.lanes.items c.loop-round.invariant.quiet

pub returns-in-Ok-Item-clause-looked : goal.returns-in-Ok-Item-clause-looked
returns-in-Ok-Item-clause-looked g c = looked_on c.args.hold c.args.lanes.now.items c.loop-round.lanes.items c.take.new.lanes.items c.in-Ok-Item.item c.loop-round.invariant.quiet (quiet_length c.args.lanes.now.items c.loop-round.lanes.items c.loop-round.invariant.quiet) (subst (λ taken. Took c.args.hold c.loop-round.lanes.items (Ok taken) c.take.new.lanes.items) c.in-Ok-Item.field-0-is c.in-Ok-Item.ensures.took).1

pub loop-round-preserved-in-Ok-More : goal.loop-round-preserved-in-Ok-More
loop-round-preserved-in-Ok-More g c = record {
  lanes = search (rules, c.take.ensures.lanes, c.loop-round.invariant.same);
  quiet = quiet_on c.args.lanes.now.items c.loop-round.lanes.items c.take.new.lanes.items c.loop-round.invariant.quiet (subst (λ taken. Took c.args.hold c.loop-round.lanes.items (Ok taken) c.take.new.lanes.items) c.in-Ok-More.field-0-is c.in-Ok-More.ensures.took);
  spare = c.in-Ok-More.ensures.spare;
  lender = c.take.ensures.lender.0;
  same = c.take.ensures.lender.1 ∙ c.loop-round.invariant.same;
  most = λ is. most_on c.loop-round.lanes.items c.take.new.lanes.items c.most_held-most.result (subst (λ taken. Took c.args.hold c.loop-round.lanes.items (Ok taken) c.take.new.lanes.items) c.in-Ok-More.field-0-is c.in-Ok-More.ensures.took) (c.loop-round.invariant.most is);
  stop = c.loop-round.invariant.stop;
  pass = c.loop-round.invariant.pass;
  segments = even_then c.loop-round.invariant.segments c.take.ensures.segments;
}

pub returns-then-all_over-clause-gave : goal.returns-then-all_over-clause-gave
returns-then-all_over-clause-gave g c = (nothing_of (account_of c.args.lanes.now.items) (account_of c.take.new.lanes.items) (same_of c.args.lanes.now.items c.take.new.lanes.items (quiet_on c.args.lanes.now.items c.loop-round.lanes.items c.take.new.lanes.items c.loop-round.invariant.quiet (subst (λ taken. Took c.args.hold c.loop-round.lanes.items (Ok taken) c.take.new.lanes.items) c.in-Ok-Nothing.field-0-is c.in-Ok-Nothing.ensures.took))), c.all_over.ensures c.if-all_over.true)

pub returns-then-all_over-clause-cells : goal.returns-then-all_over-clause-cells
returns-then-all_over-clause-cells g c = c.take.ensures.cells ∙ quiet_cells c.args.lanes.now.items c.loop-round.lanes.items c.loop-round.invariant.quiet

pub returns-then-is_stopped-clause-gave : goal.returns-then-is_stopped-clause-gave
returns-then-is_stopped-clause-gave g c = (nothing_of (account_of c.args.lanes.now.items) (account_of c.take.new.lanes.items) (same_of c.args.lanes.now.items c.take.new.lanes.items (quiet_on c.args.lanes.now.items c.loop-round.lanes.items c.take.new.lanes.items c.loop-round.invariant.quiet (subst (λ taken. Took c.args.hold c.loop-round.lanes.items (Ok taken) c.take.new.lanes.items) c.in-Ok-Nothing.field-0-is c.in-Ok-Nothing.ensures.took))), tt)

pub returns-then-is_stopped-clause-cells : goal.returns-then-is_stopped-clause-cells
returns-then-is_stopped-clause-cells g c = c.take.ensures.cells ∙ quiet_cells c.args.lanes.now.items c.loop-round.lanes.items c.loop-round.invariant.quiet

pub loop-round-preserved : goal.loop-round-preserved
loop-round-preserved g c = record {
  lanes = search (rules, c.take.ensures.lanes, c.loop-round.invariant.same);
  quiet = quiet_on c.args.lanes.now.items c.loop-round.lanes.items c.take.new.lanes.items c.loop-round.invariant.quiet (subst (λ taken. Took c.args.hold c.loop-round.lanes.items (Ok taken) c.take.new.lanes.items) c.in-Ok-Nothing.field-0-is c.in-Ok-Nothing.ensures.took);
  spare = c.in-Ok-Nothing.ensures.spare;
  lender = c.take.ensures.lender.0;
  same = c.take.ensures.lender.1 ∙ c.loop-round.invariant.same;
  most = λ is. most_on c.loop-round.lanes.items c.take.new.lanes.items c.most_held-most.result (subst (λ taken. Took c.args.hold c.loop-round.lanes.items (Ok taken) c.take.new.lanes.items) c.in-Ok-Nothing.field-0-is c.in-Ok-Nothing.ensures.took) (c.loop-round.invariant.most is);
  stop = c.is_stopped.ensures.pass.0;
  pass = (c.is_stopped.ensures.pass.1.0 ∙ c.loop-round.invariant.pass.0, c.is_stopped.ensures.pass.1.1 ∙ c.loop-round.invariant.pass.1);
  segments = even_then c.loop-round.invariant.segments c.take.ensures.segments;
}

pub returns-in-Err-take-clause-gave : goal.returns-in-Err-take-clause-gave
returns-in-Err-take-clause-gave g c =
    let up = up_then c.args.lanes.now.items c.loop-round.lanes.items c.take.new.lanes.items c.in-Err-take.end c.loop-round.invariant.quiet c.in-Err-take.ensures.took in
    (nothing_of (account_of c.args.lanes.now.items) (account_of c.take.new.lanes.items) (same_of c.args.lanes.now.items c.take.new.lanes.items up.quiet), up.ended)

pub returns-in-Err-take-clause-cells : goal.returns-in-Err-take-clause-cells
returns-in-Err-take-clause-cells g c = c.take.ensures.cells ∙ quiet_cells c.args.lanes.now.items c.loop-round.lanes.items c.loop-round.invariant.quiet

pub returns-in-Ok-Item-clause-segments : goal.returns-in-Ok-Item-clause-segments
returns-in-Ok-Item-clause-segments g c = even_then c.loop-round.invariant.segments c.take.ensures.segments

pub returns-then-all_over-clause-segments : goal.returns-then-all_over-clause-segments
returns-then-all_over-clause-segments g c = even_then c.loop-round.invariant.segments c.take.ensures.segments

pub returns-then-is_stopped-clause-segments : goal.returns-then-is_stopped-clause-segments
returns-then-is_stopped-clause-segments g c = even_then c.loop-round.invariant.segments c.take.ensures.segments

pub returns-in-Err-take-clause-segments : goal.returns-in-Err-take-clause-segments
returns-in-Err-take-clause-segments g c = even_then c.loop-round.invariant.segments c.take.ensures.segments

pub returns-in-Err-clause-later : goal.returns-in-Err-clause-later
returns-in-Err-clause-later g c = quiet_later c.args.lanes.now.items c.refill_unread.new.lanes.items c.refill_unread.ensures.quiet

pub returns-in-Ok-Item-clause-later : goal.returns-in-Ok-Item-clause-later
returns-in-Ok-Item-clause-later g c = later_on c.args.lanes.now.items c.loop-round.lanes.items c.take.new.lanes.items (quiet_later c.args.lanes.now.items c.loop-round.lanes.items c.loop-round.invariant.quiet) c.take.ensures.later

pub returns-then-all_over-clause-later : goal.returns-then-all_over-clause-later
returns-then-all_over-clause-later g c = later_on c.args.lanes.now.items c.loop-round.lanes.items c.take.new.lanes.items (quiet_later c.args.lanes.now.items c.loop-round.lanes.items c.loop-round.invariant.quiet) c.take.ensures.later

pub returns-then-is_stopped-clause-later : goal.returns-then-is_stopped-clause-later
returns-then-is_stopped-clause-later g c = later_on c.args.lanes.now.items c.loop-round.lanes.items c.take.new.lanes.items (quiet_later c.args.lanes.now.items c.loop-round.lanes.items c.loop-round.invariant.quiet) c.take.ensures.later

pub returns-in-Err-take-clause-later : goal.returns-in-Err-take-clause-later
returns-in-Err-take-clause-later g c = later_on c.args.lanes.now.items c.loop-round.lanes.items c.take.new.lanes.items (quiet_later c.args.lanes.now.items c.loop-round.lanes.items c.loop-round.invariant.quiet) c.take.ensures.later
