use Rattle.std.proofs.Common.{◌≡◌, subst, sym}
use Rattle.crossbeam_channel.specs.Claims.{view}
use Rattle.crossbeam_channel.specs.Fifo.{Forks}
use Rattle.snapshot_channel.specs.declared.views.View.TheVariants.{Spent}
use Rattle.snapshot_channel.specs.Views.{opened, InOrder}
use Rattle.snapshot_channel.proofs.Steps.{opens_any}
use Rattle.snapshot_channel.proofs.channel.open_for.Goals as goal

pub another-spent-requires-clause-rule : goal.another-spent-requires-clause-rule
another-spent-requires-clause-rule g c = opens_any _ _ _ c.requires.unopened
