use Rattle.std.proofs.Common.{refl}
use Rattle.std.specs.Prelude.{All}
use Rattle.flow_defs.specs.declared.cause.Cause.TheVariants.{Memory}
use Rattle.outside.specs.Links.{NeverFails}
use Rattle.job_run.proofs.RunLaws.{link_before, no_wire, not_run, peer_before, run_with, same_start}
use Rattle.job_run.proofs.run.run_in_pool.Goals as goal

pub returns-in-Ok-open_wires-clause-run : goal.returns-in-Ok-open_wires-clause-run
returns-in-Ok-open_wires-clause-run g c =
    let sure = All (NeverFails g.N.Out.LinkOut.never_fails g.N.In.LinkIn.never_fails) c.in-Ok-open_wires.wires.items in
    let never = g.N.Links.never_fails c.args.net.now in
    let first = g.N.Links.faults c.args.net.now in
    let opened = g.N.Links.faults c.open_wires.new.net in
    let last = g.N.Links.faults c.run_over_wires.new.net in
    same_start c.in-Ok-open_cells.ensures.start
    (run_with (link_before sure never first opened last c.in-Ok-open_wires.ensures.sure c.in-Ok-open_wires.ensures.never_falls)
    (peer_before g.N.Out.LinkOut.sent g.N.In.LinkIn.got g.N.In.LinkIn.ended c.args.job.now (g.N.Links.wires c.run_over_wires.new.net) c.in-Ok-open_wires.ensures.same) c.run_over_wires.result c.run_over_wires.ensures.run)

pub returns-in_default-clause-run : goal.returns-in_default-clause-run
returns-in_default-clause-run g c = not_run Memory refl refl refl tt

pub returns-in_default-open_cells-clause-run : goal.returns-in_default-open_cells-clause-run
returns-in_default-open_cells-clause-run g c = not_run Memory refl refl refl tt

pub returns-clause-run : goal.returns-clause-run
returns-clause-run g c = no_wire c.in-Err.cause refl refl refl c.in-Err.ensures.cause
