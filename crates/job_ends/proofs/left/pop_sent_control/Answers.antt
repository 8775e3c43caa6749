use Rattle.job_workers.specs.declared.connection.LoopLeft.TheVariants.{SentControl}
use Rattle.job_ends.proofs.left.pop_sent_control.Goals as goal

pub pop_left-requires : goal.pop_left-requires
pop_left-requires g c = (c.requires.0, (SentControl c.requires.1.0, c.requires.1.1))
