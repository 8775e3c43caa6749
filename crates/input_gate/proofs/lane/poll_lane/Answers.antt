use Rattle.std.proofs.Common.{◌++◌, ◌∷◌, [], ◌∙◌, refl, ap, sym, append-nil}
use Rattle.flow_defs.specs.declared.parcel.Parcel.TheVariants as parcels
use Rattle.input_gate.specs.Lanes.{polled}
use Rattle.input_gate.proofs.LaneLaws.{lane_buffer, quiet_buffer, lane_nothing, quiet_nothing, lane_end, quiet_end, lane_front, gives_front, lane_inline, gives_inline}
use Rattle.input_gate.proofs.SegmentLaws.{untouched_other}
use Rattle.input_gate.proofs.lane.poll_lane.Goals as goal

pub returns-in-Buffer-clause-lane : goal.returns-in-Buffer-clause-lane
returns-in-Buffer-clause-lane g c size h =
    let e = c.in-Buffer.ensures in
    lane_buffer size c.args.lane.now c.poll_in_turn.new.pass c.args.hold c.in-Buffer.buf h c.requires.empty.0 c.requires.empty.1 e.pass e.later e.given e.entered (e.fits ∙ h.size_is)

pub returns-in-Buffer-clause-came : goal.returns-in-Buffer-clause-came
returns-in-Buffer-clause-came g c =
    let e = c.in-Buffer.ensures in
    quiet_buffer c.requires.lane.0 c.args.lane.now c.poll_in_turn.new.pass c.args.hold c.in-Buffer.buf c.requires.lane.1 c.requires.empty.0 c.requires.empty.1 e.pass e.later e.given e.entered

pub returns-in-Empty-clause-lane : goal.returns-in-Empty-clause-lane
returns-in-Empty-clause-lane g c size h =
    let e = c.in-Empty.ensures in
    lane_nothing size c.args.lane.now c.poll_in_turn.new.pass c.args.hold h c.requires.empty.0 e.pass e.later e.entered (e.given ∙ append-nil (polled c.args.lane.now))

pub returns-in-Empty-clause-came : goal.returns-in-Empty-clause-came
returns-in-Empty-clause-came g c =
    let e = c.in-Empty.ensures in
    quiet_nothing c.requires.lane.0 c.args.lane.now c.poll_in_turn.new.pass c.args.hold c.requires.lane.1 c.requires.empty.0 e.pass e.later e.entered (e.given ∙ append-nil (polled c.args.lane.now))

pub returns-in-Held-clause-lane : goal.returns-in-Held-clause-lane
returns-in-Held-clause-lane g c size h =
    let e = c.in-Held.ensures in
    lane_nothing size c.args.lane.now c.poll_in_turn.new.pass c.args.hold h c.requires.empty.0 e.pass e.later e.entered (e.given ∙ append-nil (polled c.args.lane.now))

pub returns-in-Held-clause-came : goal.returns-in-Held-clause-came
returns-in-Held-clause-came g c =
    let e = c.in-Held.ensures in
    quiet_nothing c.requires.lane.0 c.args.lane.now c.poll_in_turn.new.pass c.args.hold c.requires.lane.1 c.requires.empty.0 e.pass e.later e.entered (e.given ∙ append-nil (polled c.args.lane.now))

pub returns-in-End-clause-lane : goal.returns-in-End-clause-lane
returns-in-End-clause-lane g c size h =
    let e = c.in-End.ensures in
    lane_end size c.args.lane.now c.poll_in_turn.new.pass c.args.hold h c.requires.empty.0 e.pass e.later e.entered e.given

pub returns-in-End-clause-came : goal.returns-in-End-clause-came
returns-in-End-clause-came g c =
    let e = c.in-End.ensures in
    quiet_end c.requires.lane.0 c.args.lane.now c.poll_in_turn.new.pass c.args.hold c.requires.lane.1 c.requires.empty.0 e.pass e.later e.entered e.given

pub returns-in-Barrier-default-Inline-clause-lane : goal.returns-in-Barrier-default-Inline-clause-lane
returns-in-Barrier-default-Inline-clause-lane g c size h =
    let e = c.in-Barrier-default-Inline.ensures in
    lane_inline size c.args.lane.now c.poll_in_turn.new.pass c.args.hold h c.requires.empty.0 e.pass e.later e.entered c.in-Barrier-default-Inline.k (e.given ∙ ap (λ kind. polled c.args.lane.now ++ parcels.Barrier c.in-Barrier-default-Inline.k kind ∷ []) c.in-Barrier-default-Inline.kind-is) e.fits.0 c.requires.free c.requires.empty.1 (ap Rattle.flow_defs.specs.Records.first_record (sym c.rest.ensures) ∙ c.rest_len-len.ensures.none)

pub returns-in-Barrier-default-Inline-clause-came : goal.returns-in-Barrier-default-Inline-clause-came
returns-in-Barrier-default-Inline-clause-came g c =
    let e = c.in-Barrier-default-Inline.ensures in
    gives_inline c.requires.lane.0 c.args.lane.now c.poll_in_turn.new.pass c.args.hold c.requires.lane.1 c.requires.empty.0 e.pass e.later e.entered c.in-Barrier-default-Inline.k (e.given ∙ ap (λ kind. polled c.args.lane.now ++ parcels.Barrier c.in-Barrier-default-Inline.k kind ∷ []) c.in-Barrier-default-Inline.kind-is) e.fits.0 c.requires.free c.requires.empty.1 (ap Rattle.flow_defs.specs.Records.first_record (sym c.rest.ensures) ∙ c.rest_len-len.ensures.none) c.lanes_are_cut.ensures.poll e.ends c.args.hold e.fits.1

pub returns-in-Barrier-default-Front-clause-lane : goal.returns-in-Barrier-default-Front-clause-lane
returns-in-Barrier-default-Front-clause-lane g c size h =
    let e = c.in-Barrier-default-Front.ensures in
    lane_front size c.args.lane.now c.poll_in_turn.new.pass c.args.hold h c.requires.empty.0 e.pass e.later e.entered c.in-Barrier-default-Front.k (e.given ∙ ap (λ kind. polled c.args.lane.now ++ parcels.Barrier c.in-Barrier-default-Front.k kind ∷ []) c.in-Barrier-default-Front.kind-is) e.fits.0

pub returns-in-Barrier-default-Front-clause-came : goal.returns-in-Barrier-default-Front-clause-came
returns-in-Barrier-default-Front-clause-came g c =
    let e = c.in-Barrier-default-Front.ensures in
    gives_front c.requires.lane.0 c.args.lane.now c.poll_in_turn.new.pass c.args.hold c.requires.lane.1 c.requires.empty.0 e.pass e.later e.entered c.in-Barrier-default-Front.k (e.given ∙ ap (λ kind. polled c.args.lane.now ++ parcels.Barrier c.in-Barrier-default-Front.k kind ∷ []) c.in-Barrier-default-Front.kind-is) e.fits.0 c.requires.free c.args.hold e.fits.1

pub returns-in-Buffer-clause-segments : goal.returns-in-Buffer-clause-segments
returns-in-Buffer-clause-segments g c = untouched_other c.args.lane.now.pass c.poll_in_turn.new.pass _ refl c.in-Buffer.ensures.entered c.poll_in_turn.ensures.freed

pub returns-in-Empty-clause-segments : goal.returns-in-Empty-clause-segments
returns-in-Empty-clause-segments g c = untouched_other c.args.lane.now.pass c.poll_in_turn.new.pass _ refl c.in-Empty.ensures.entered c.poll_in_turn.ensures.freed

pub returns-in-Held-clause-segments : goal.returns-in-Held-clause-segments
returns-in-Held-clause-segments g c = untouched_other c.args.lane.now.pass c.poll_in_turn.new.pass _ refl c.in-Held.ensures.entered c.poll_in_turn.ensures.freed

pub returns-in-End-clause-segments : goal.returns-in-End-clause-segments
returns-in-End-clause-segments g c = untouched_other c.args.lane.now.pass c.poll_in_turn.new.pass _ refl c.in-End.ensures.entered c.poll_in_turn.ensures.freed

pub returns-in-Barrier-default-Inline-clause-segments : goal.returns-in-Barrier-default-Inline-clause-segments
returns-in-Barrier-default-Inline-clause-segments g c = untouched_other c.args.lane.now.pass c.poll_in_turn.new.pass _ refl c.in-Barrier-default-Inline.ensures.entered c.poll_in_turn.ensures.freed

pub returns-in-Barrier-default-Front-clause-segments : goal.returns-in-Barrier-default-Front-clause-segments
returns-in-Barrier-default-Front-clause-segments g c = untouched_other c.args.lane.now.pass c.poll_in_turn.new.pass _ refl c.in-Barrier-default-Front.ensures.entered c.poll_in_turn.ensures.freed
