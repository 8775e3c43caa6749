use Rattle.std.proofs.Common.{sym, subst}
use Rattle.std.specs.Prelude.{All, IfNone}
use Rattle.crossbeam_channel.specs.Claims.{view}
use Rattle.snapshot_channel.specs.Passes.{IsAllReceived, received_by, back_by}
use Rattle.snapshot_channel.proofs.Steps.{gets_any, learns_any}
use Rattle.snapshot_channel.proofs.Words.{is_collector, has_received, none_received}
use Rattle.snapshot_channel.proofs.opened.SnapshotChannel.receive.Goals as goal

pub try_recv_as-requires-clause-rule : goal.try_recv_as-requires-clause-rule
try_recv_as-requires-clause-rule g c = (gets_any _ _ (is_collector _ _ c.requires.collector_is), learns_any _ _ (is_collector _ _ c.requires.collector_is))

pub returns-clause-none : goal.returns-clause-none
returns-clause-none g c =
    let old = c.args.pass.now in
    subst (λ o. IfNone o (All (IsAllReceived (received_by old)) (back_by old))) (sym c.ok.ensures.value)
    (none_received _ (view old.pass) (view c.try_recv_as.new.pass) c.try_recv_as.result c.requires.collector_is c.try_recv_as.ensures.rule)
