use Rattle.input_gate.proofs.RoundLaws.{quiet_all}
use Rattle.input_gate.proofs.SegmentLaws.{even_refl}
use Rattle.input_gate.proofs.rounds.refill_unread.Goals as goal

pub returns-then-not-unread-clause-quiet : goal.returns-then-not-unread-clause-quiet
returns-then-not-unread-clause-quiet g c = quiet_all c.args.lanes.now.items

pub returns-then-not-unread-clause-segments : goal.returns-then-not-unread-clause-segments
returns-then-not-unread-clause-segments g c = even_refl _ _ _
