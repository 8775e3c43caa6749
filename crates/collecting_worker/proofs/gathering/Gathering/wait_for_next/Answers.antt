use Rattle.std.proofs.Common.{refl}
use Rattle.collecting_worker.proofs.Same.{gathering_same, gathering_twice, pass_twice}
use Rattle.collecting_worker.proofs.gathering.Gathering.wait_for_next.Goals as goal

pub loop-round-init : goal.loop-round-init
loop-round-init g c = record { same = gathering_same c.args.self.now; still_open = c.requires.«open»; stop = c.requires.stop; same_stop = (refl, refl) }

pub returns-in-Some-next_snapshot-clause-same : goal.returns-in-Some-next_snapshot-clause-same
returns-in-Some-next_snapshot-clause-same g c = gathering_twice c.args.self.now c.loop-round.self c.next_snapshot.new.self c.loop-round.invariant.same c.next_snapshot.ensures.same

pub returns-then-is_some-clause-same : goal.returns-then-is_some-clause-same
returns-then-is_some-clause-same g c = gathering_twice c.args.self.now c.loop-round.self c.next_snapshot.new.self c.loop-round.invariant.same c.next_snapshot.ensures.same

pub loop-round-preserved : goal.loop-round-preserved
loop-round-preserved g c = record {
  same = gathering_twice c.args.self.now c.loop-round.self c.next_snapshot.new.self c.loop-round.invariant.same c.next_snapshot.ensures.same;
  still_open = c.in_default.ensures.«open»;
  stop = c.look_for_stop.ensures.pass.0;
  same_stop = pass_twice c.args.stop_pass.now c.loop-round.stop_pass c.look_for_stop.new.pass c.loop-round.invariant.same_stop c.look_for_stop.ensures.pass.1;
}

pub returns-then-is_some-clause-stop : goal.returns-then-is_some-clause-stop
returns-then-is_some-clause-stop g c =
    (c.look_for_stop.ensures.pass.0, pass_twice c.args.stop_pass.now c.loop-round.stop_pass c.look_for_stop.new.pass c.loop-round.invariant.same_stop c.look_for_stop.ensures.pass.1)
