use Rattle.std.proofs.Common.{refl}
use Rattle.outside.proofs.LastImages.{keeps_stored}
use Rattle.outside.proofs.last_image.LastImage.store.Goals as goal

pub returns : goal.returns
returns c history number collector keeps = keeps_stored c.args.self.now _ history number c.args.stored refl collector keeps
