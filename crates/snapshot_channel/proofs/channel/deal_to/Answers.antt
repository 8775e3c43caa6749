use Rattle.std.proofs.Common.{◌≡◌, subst, sym}
use Rattle.crossbeam_channel.specs.Claims.{view}
use Rattle.snapshot_channel.specs.Views.{MayDeal}
use Rattle.snapshot_channel.proofs.Steps.{deals_any}
use Rattle.snapshot_channel.proofs.channel.deal_to.Goals as goal

pub another-requires-clause-rule : goal.another-requires-clause-rule
another-requires-clause-rule g c = deals_any _ _ _ (subst (λ t. MayDeal t (view c.args.pass.now)) (sym c.requires.whose) c.requires.may)
