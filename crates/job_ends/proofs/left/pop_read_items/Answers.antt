use Rattle.job_workers.specs.declared.connection.LoopLeft.TheVariants.{ReadItems}
use Rattle.job_ends.proofs.left.pop_read_items.Goals as goal

pub pop_left-requires : goal.pop_left-requires
pop_left-requires g c = (c.requires.0, (ReadItems c.requires.1.0, c.requires.1.1))
