use Rattle.std.proofs.Common.{◌≡◌, List, subst}
use Rattle.std.specs.Prelude.{All}
use Rattle.std.proofs.lemmas.List.Elements.{All-from_recursion}
use Rattle.crossbeam_channel.specs.Claims.{view}
use Rattle.flow_defs.specs.declared.image.Snapshot.{Snapshot}
use Rattle.snapshot_channel.specs.Passes.{IsReceivedOf, opening_of}
use Rattle.snapshot_channel.proofs.Steps.{learns_any}
use Rattle.snapshot_channel.proofs.Words.{is_collector, all_received}
use Rattle.snapshot_channel.proofs.opened.SnapshotChannel.close.Goals as goal

pub learn_as-requires-clause-rule : goal.learn_as-requires-clause-rule
learn_as-requires-clause-rule c = learns_any _ _ (is_collector _ _ c.take_all_back.ensures.collecting.collector_is)

pub returns : goal.returns
returns c =
    subst (λ (l : List Snapshot). All (IsReceivedOf (opening_of c.args.self.now) l) c.args.passes.items) c.take_all_back.ensures.received
    (All-from_recursion _ _ (all_received (opening_of c.args.self.now) (view c.take_all_back.new.collecting.pass) c.learn_as.ensures.rule.0 c.args.passes.items _ c.take_all_back.ensures.collecting.collector_is c.take_all_back.ensures.back c.learn_as.ensures.rule.1))
