use Rattle.std.proofs.Common.{ap}
use Rattle.flow_defs.specs.declared.cause.Cause.TheVariants.{Memory}
use Rattle.snapshot_channel.specs.declared.views.Opening.{Opening}
use Rattle.job_run.proofs.PeerLaws.{peer_ground}
use Rattle.job_run.proofs.RunLaws.{has_collected, have_inputs, is_run, not_run, same_start}
use Rattle.job_run.proofs.run.run_over_wires.Goals as goal

pub wind_up-requires-clause-ended : goal.wind_up-requires-clause-ended
wind_up-requires-clause-ended g c κs within = (c.args.size, (c.workers_end.ensures _ c.in-Ok.ensures.ran).0)

pub wind_up-requires-clause-acknowledged : goal.wind_up-requires-clause-acknowledged
wind_up-requires-clause-acknowledged g c κs within = (c.workers_end.ensures _ c.in-Ok.ensures.ran).1

pub returns-in_default-clause-run : goal.returns-in_default-clause-run
returns-in_default-clause-run g c =
    let kept = c.in_default.ensures.kept in
    not_run Memory kept.0 (ap g.K.Keeper.images kept.2) (ap g.K.Keeper.faults kept.2) tt

pub wind_up-requires-clause-left : goal.wind_up-requires-clause-left
wind_up-requires-clause-left g c κs within = have_inputs c.in-Ok.ensures.ran c.inputs_come_back.ensures

pub wind_up-requires-clause-collected : goal.wind_up-requires-clause-collected
wind_up-requires-clause-collected g c κs within = has_collected c.in-Ok.ensures.ran c.done_collector_has_last.ensures

pub returns-clause-run : goal.returns-clause-run
returns-clause-run g c =
    same_start (ap (λ (o : Opening). o.start) c.requires.opened.dealt.opening_is)
    (is_run c.in-Ok.ensures.ran
    (record {
      come_back = c.inputs_come_back.ensures;
      grounds = c.causes_have_grounds.ensures;
      done_worth = c.done_workers_have_worth.ensures;
      are_chain = c.stored_images_are_chain.ensures;
      got_images = c.keeper_got_images.ensures;
    })
    (record {
      are_left = c.wind_up.ensures.inputs.0;
      many = c.wind_up.ensures.inputs.1;
      settled = c.wind_up.ensures.settled;
      risen = λ fault. record {
        risen = c.wind_up.ensures.fault fault;
        may_fail = λ sure. c.sure_wires_have_no_fault.ensures _ c.in-Ok.ensures.ran sure fault;
      };
      met = peer_ground c.in-Ok.ensures.ran (g.N.Links.wires c.args.net.now) (g.N.Links.wires c.wind_up.new.net) c.wind_up.ensures.wires;
    })
    c.wind_up.result c.wind_up.ensures.answer)
