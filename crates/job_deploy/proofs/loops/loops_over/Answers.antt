use Rattle.std.proofs.Common.{refl}
use Rattle.job_workers.specs.declared.connection.ConnLoop.TheVariants.{SendItems, ReadControl, ReadItems, SendControl}
use Rattle.job_workers.specs.declared.connection.LoopWork.{LoopWork}
use Rattle.job_workers.specs.declared.place.Place.TheVariants.{Todo}
use Rattle.job_deploy.proofs.Orders.{four_put}
use Rattle.job_deploy.proofs.loops.loops_over.Goals as goal

pub returns : goal.returns
returns g c =
    let send : LoopWork _ = record { alloc = c.args.alloc; half = c.args.wire.data_out; share = c.args.shares.send } in
    let control : LoopWork _ = record { alloc = c.args.alloc; half = c.args.wire.control_in; share = c.args.shares.control } in
    let items : LoopWork _ = record { alloc = c.args.alloc; half = c.args.wire.data_in; share = c.args.shares.items } in
    let announce : LoopWork _ = record { alloc = c.args.alloc; half = c.args.wire.control_out; share = c.args.shares.announce } in
    record {
      send = send;
      control = control;
      items = items;
      announce = announce;
      row_is = four_put (Todo (SendItems send)) (Todo (ReadControl control)) (Todo (ReadItems items)) (Todo (SendControl announce)) c.args.shares.row.items c.put.new.list.items c.put-2.new.list.items c.put-3.new.list.items c.put-4.new.list.items
          c.requires.empty c.put.ensures.items c.put-2.ensures.items c.put-3.ensures.items c.put-4.ensures.items;
      sending = (refl, refl);
      receiving = (refl, refl);
      send_shares = (refl, refl);
      receive_shares = (refl, refl);
    }
