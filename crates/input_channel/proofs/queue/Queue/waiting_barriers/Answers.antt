use Rattle.std.proofs.Common.{length, ap, arith}
use Rattle.flow_defs.specs.Parcels.{barriers_of}
use Rattle.input_channel.specs.Lines.{Line, parcels}
use Rattle.input_channel.proofs.LineLemmas.{waiting_merged}
use Rattle.input_channel.proofs.queue.Queue.waiting_barriers.Goals as goal

pub returns : goal.returns
returns c =
    let f = c.self.inside in
    let long = f.barriers.ok.0 in
    let all = waiting_merged f.polled f.barriers.items f.buffers.items c.self.invariant.few_polled in
    let view = ap (λ (l : Line). length (barriers_of (parcels l))) c.self.view_is in
    omega (arith, long, all, view)
