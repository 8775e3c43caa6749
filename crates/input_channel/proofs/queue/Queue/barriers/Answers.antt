use Rattle.std.proofs.Common.{length, map, ap, arith}
use Rattle.flow_defs.specs.Parcels.{barriers_of}
use Rattle.input_channel.specs.Inboxes.{parcel_of}
use Rattle.input_channel.specs.Lines.{Line}
use Rattle.input_channel.proofs.LineLemmas.{barriers_merged}
use Rattle.input_channel.proofs.queue.Queue.barriers.Goals as goal

pub returns : goal.returns
returns c =
    let f = c.self.inside in
    let long = f.barriers.ok.0 in
    let all = barriers_merged f.polled f.barriers.items f.buffers.items in
    let view = ap (λ (l : Line). length (barriers_of (map parcel_of l.arrived))) c.self.view_is in
    omega (arith, long, all, view)
