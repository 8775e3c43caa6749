use Rattle.std.proofs.Common.{refl}
use Rattle.job_ends.proofs.Returns.{gave_back}
use Rattle.job_ends.proofs.wires.give_back.Goals as goal

pub returns-clause-kept : goal.returns-clause-kept
returns-clause-kept g c =
    gave_back g.N.In.LinkIn.got g.N.In.LinkIn.ended (g.N.Links.wires c.args.net.now) _ c.args.wire _
    (record { got_is = c.meet.ensures.got.0; ended_is = c.meet.ensures.got.1 }) (record { got_is = refl; ended_is = refl }) c.back.ensures.kept
