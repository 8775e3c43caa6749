use Rattle.std.proofs.Common.{◌*◌, ◌≤◌, length, List, sym, subst, arith}
use Rattle.input_channel.specs.States as receiving
use Rattle.job_ends.specs.Settling.{AllSettled, AreTaskAt}
use Rattle.job_ends.proofs.Leavings.{own_taken, taken_is, first_low}
use Rattle.job_ends.proofs.stages.settle_taker.Goals as goal

pub take_gate-passes-requires : goal.take_gate-passes-requires
take_gate-passes-requires g c = c.requires.took.has

pub overflow_mul-first : goal.overflow_mul-first
overflow_mul-first g c =
    let own = own_taken c.args.cells.now c.args.number c.args.place.now c.take_gate-passes.new.place c.take_gate-passes.result c.requires.took c.take_gate-passes.ensures in
    let low : c.args.number * length c.as_slice.result.now ≤ length c.args.cells.now =
    subst (λ (l : List _). c.args.number * length l ≤ length c.args.cells.now) (sym c.as_slice.ensures) (first_low c.args.cells.now c.args.number c.take_gate-passes.result.cells.items own) in
    omega (arith, low, c.requires.few)

pub settle_channels-requires-clause-own : goal.settle_channels-requires-clause-own
settle_channels-requires-clause-own g c =
    subst (λ (l : List _). AreTaskAt c.args.cells.now (c.args.number * length l) 1 c.take_gate-passes.result.cells.items) (sym c.as_slice.ensures)
    (own_taken c.args.cells.now c.args.number c.args.place.now c.take_gate-passes.new.place c.take_gate-passes.result c.requires.took c.take_gate-passes.ensures)

pub returns-clause-place : goal.returns-clause-place
returns-clause-place g c = c.take_gate-passes.ensures.without

pub returns-clause-settled : goal.returns-clause-settled
returns-clause-settled g c =
    subst (λ (own : List _). AllSettled receiving.ChannelStandsFor (c.args.number * length own) 1 own c.args.pushers.now.items)
    (sym (taken_is c.args.place.now c.take_gate-passes.new.place c.take_gate-passes.result c.take_gate-passes.ensures))
    (subst (λ (l : List _). AllSettled receiving.ChannelStandsFor (c.args.number * length l) 1 c.take_gate-passes.result.cells.items c.args.pushers.now.items) c.as_slice.ensures c.settle_channels.ensures.settled)
