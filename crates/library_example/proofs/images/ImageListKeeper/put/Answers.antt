use Rattle.outside.proofs.Keepers.{above_put}
use Rattle.library_example.proofs.images.ImageListKeeper.put.Goals as goal

pub returns-clause-above : goal.returns-clause-above
returns-clause-above c more below = rw c.in_ok-push.ensures.ok (above_put c.args.self.now.images.items _ more below)
