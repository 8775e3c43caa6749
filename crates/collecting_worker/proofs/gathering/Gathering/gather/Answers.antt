use Rattle.std.proofs.Common.{refl}
use Rattle.collecting_worker.proofs.Opens.{opens}
use Rattle.collecting_worker.proofs.Same.{gathering_same}
use Rattle.collecting_worker.proofs.gathering.Gathering.gather.Goals as goal

pub loop-snapshot-init : goal.loop-snapshot-init
loop-snapshot-init g c =
    let old = c.args.self.now in
    let begun = c.begin.ensures in
    record {
      same = gathering_same (record { collector = c.begin.new.self; channel = old.channel; pass = old.pass; ahead = old.ahead });
      still_open = opens old c.args.checkpoint c.begin.new.self c.requires.between c.requires.last begun.collector begun.job begun.opened begun.none;
      stop = c.requires.stop;
      same_stop = (refl, refl);
    }
