use Rattle.std.proofs.Common.{refl}
use Rattle.outside.proofs.LastImages.{keeps_none}
use Rattle.outside.proofs.last_image.LastImage.new.Goals as goal

pub returns : goal.returns
returns c = keeps_none _ refl
