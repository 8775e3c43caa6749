use Rattle.std.proofs.Common.{false, refl, ap, ◌∙◌}
use Rattle.turn_cell.specs.Passes.{mine}
use Rattle.input_channel.specs.declared.entry.Gave.TheVariants.{NoBuffer}
use Rattle.input_channel.specs.declared.entry.ReceiveEntry.TheVariants.{Poll, Returned}
use Rattle.input_channel.specs.Legal.{open_save}
use Rattle.input_channel.proofs.PassLaws.{stays_closed}
use Rattle.conn_harness.proofs.InletLaws.{even_none, even_back, gave_for, out_now}
use Rattle.conn_harness.proofs.inlet.Inlet.take.Goals as goal

pub return_in_turn-free-requires-clause-out : goal.return_in_turn-free-requires-clause-out
return_in_turn-free-requires-clause-out g c =
    out_now c.in-Buffer.buf.exclusive (mine c.args.self.pass) (mine c.poll_in_turn.new.pass) c.in-Buffer.ensures.entered c.args.self.even

pub invariant_of-result-clause-even : goal.invariant_of-result-clause-even
invariant_of-result-clause-even g c =
    even_back c.in-Buffer.buf.exclusive (mine c.args.self.pass) (mine c.poll_in_turn.new.pass) (mine c.return_in_turn-free.new.pass) c.in-Buffer.ensures.entered c.return_in_turn-free.ensures.entered c.args.self.even

pub invariant_of-result-in-End-clause-even : goal.invariant_of-result-in-End-clause-even
invariant_of-result-in-End-clause-even g c = even_none (mine c.args.self.pass) (mine c.poll_in_turn.new.pass) c.in-End.ensures.entered c.args.self.even

pub invariant_of-result-in-Empty-clause-even : goal.invariant_of-result-in-Empty-clause-even
invariant_of-result-in-Empty-clause-even g c = even_none (mine c.args.self.pass) (mine c.poll_in_turn.new.pass) c.in-Empty.ensures.entered c.args.self.even

pub invariant_of-result-in-Held-clause-even : goal.invariant_of-result-in-Held-clause-even
invariant_of-result-in-Held-clause-even g c = even_none (mine c.args.self.pass) (mine c.poll_in_turn.new.pass) c.in-Held.ensures.entered c.args.self.even

pub invariant_of-result-in-Barrier-clause-even : goal.invariant_of-result-in-Barrier-clause-even
invariant_of-result-in-Barrier-clause-even g c = even_none (mine c.args.self.pass) (mine c.poll_in_turn.new.pass) c.in-Barrier.ensures.entered c.args.self.even

pub invariant_of-result-clause-closed : goal.invariant_of-result-clause-closed
invariant_of-result-clause-closed g c =
    let polled = ap open_save c.in-Buffer.ensures.entered ∙ stays_closed (mine c.args.self.pass) (Poll false (gave_for c.in-Buffer.buf.exclusive)) c.args.self.closed refl in
    ap open_save c.return_in_turn-free.ensures.entered ∙ stays_closed (mine c.poll_in_turn.new.pass) (Returned c.in-Buffer.buf.exclusive) polled refl

pub invariant_of-result-in-End-clause-closed : goal.invariant_of-result-in-End-clause-closed
invariant_of-result-in-End-clause-closed g c = ap open_save c.in-End.ensures.entered ∙ stays_closed (mine c.args.self.pass) (Poll false NoBuffer) c.args.self.closed refl

pub invariant_of-result-in-Empty-clause-closed : goal.invariant_of-result-in-Empty-clause-closed
invariant_of-result-in-Empty-clause-closed g c = ap open_save c.in-Empty.ensures.entered ∙ stays_closed (mine c.args.self.pass) (Poll false NoBuffer) c.args.self.closed refl

pub invariant_of-result-in-Held-clause-closed : goal.invariant_of-result-in-Held-clause-closed
invariant_of-result-in-Held-clause-closed g c = ap open_save c.in-Held.ensures.entered ∙ stays_closed (mine c.args.self.pass) (Poll false NoBuffer) c.args.self.closed refl

pub invariant_of-result-in-Barrier-clause-closed : goal.invariant_of-result-in-Barrier-clause-closed
invariant_of-result-in-Barrier-clause-closed g c = ap open_save c.in-Barrier.ensures.entered ∙ stays_closed (mine c.args.self.pass) (Poll false NoBuffer) c.args.self.closed refl
