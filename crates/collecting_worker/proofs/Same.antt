-- The same worker, twice.
use Rattle.std.proofs.Common.{◌∙◌, refl}
use Rattle.turn_cell.specs.Passes.{IsSamePass}
use Rattle.turn_cell.proofs.Lists.{starts_itself, starts_on}
use Rattle.conn_parts.specs.Stopping.{StopPass}
use Rattle.collecting_worker.specs.declared.gathering.Gathering.{Gathering}
use Rattle.collecting_worker.specs.declared.worker.Worker.{Worker}
use Rattle.collecting_worker.specs.Gathering.{IsSameGathering}
use Rattle.collecting_worker.specs.Steps.{IsSameWorker}

pub gathering_same : (g : Gathering) → IsSameGathering g g
gathering_same g = record { job_is = refl; channel_is = refl; received = starts_itself _ }

pub gathering_twice : (a b c : Gathering) → IsSameGathering a b → IsSameGathering b c → IsSameGathering a c
gathering_twice a b c one two = record { job_is = two.job_is ∙ one.job_is; channel_is = two.channel_is ∙ one.channel_is; received = starts_on _ _ _ two.received one.received }

pub pass_twice : (a b c : StopPass) → IsSamePass a b → IsSamePass b c → IsSamePass a c
pass_twice a b c one two = (two.0 ∙ one.0, two.1 ∙ one.1)

pub worker_same : (w : Worker) → IsSameWorker w w
worker_same w = record { gathering = gathering_same w.gathering; job_is = refl; last_image = refl; stop = refl; stop_number = refl }

pub worker_twice : (a b c : Worker) → IsSameWorker a b → IsSameWorker b c → IsSameWorker a c
worker_twice a b c one two = record { gathering = gathering_twice a.gathering b.gathering c.gathering one.gathering two.gathering; job_is = two.job_is ∙ one.job_is; last_image = two.last_image ∙ one.last_image; stop = two.stop ∙ one.stop; stop_number = two.stop_number ∙ one.stop_number }
