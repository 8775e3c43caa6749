use Rattle.std.proofs.Common.{Bor, [], ap, sym, subst, ◌∙◌, arith}
use Rattle.turn_cell.specs.Passes.{IsSamePass, seen}
use Rattle.flow_defs.specs.declared.cause.Cause.TheVariants as causes
use Rattle.conn_parts.specs.Shares.{AreNew}
use Rattle.record_writer.specs.declared.partition.PartitionPasses.{PartitionPasses}
use Rattle.record_writer.specs.Writers.{Writer}
use Rattle.snapshot_channel.specs.declared.opened.SnapshotChannel.{SnapshotChannel}
use Rattle.snapshot_channel.specs.Passes.{opening_of, sent_by}
use Rattle.source_task.specs.declared.output.SourceOutput.{SourceOutput}
use Rattle.source_task.specs.Emitting.{HasEmitted, start_of}
use Rattle.source_task.proofs.Ends.{start_is, begun, emitted_none, source_begins, account_of_same, account_ended, account_unsent, told_by_source}
use Rattle.source_task.proofs.source.run_source.Given.{Over}
use Rattle.source_task.proofs.source.run_source.Goals.{After-new-in-Ok}
use Rattle.source_task.proofs.source.run_source.Goals as goal

-- ---- where it begins

module _ (g : Over) (c : After-new-in-Ok g) where
  abbrev out : SourceOutput
  out = begun c.args.job.now c.args.index c.args.start.now c.args.every c.args.world c.requires.lent c.new-in-Ok.result c.offset-offset.result

  -- it has read nothing
  nothing : HasEmitted c.args.job.now c.args.world.partition.size out []
  nothing =
      let new = c.in-Ok.ensures.new in
      emitted_none c.args.job.now c.args.index c.args.start.now c.args.every c.args.world c.requires.lent c.new-in-Ok.result c.offset-offset.result c.in-Ok.writer c.in-Ok.ensures.is_of.0
      (new.0, new.1, new.2 ∙ c.emitted-emitted.ensures) c.new-in-Ok.ensures.none c.offset-offset.ensures

pub emit_input-cause-requires-clause-source : goal.emit_input-cause-requires-clause-source
emit_input-cause-requires-clause-source g c =
    source_begins c.args.job.now c.args.index c.args.start.now c.args.every c.args.world c.requires.lent c.new-in-Ok.result c.offset-offset.result
    (nothing g (goal.at.emit_input-cause-requires-clause-source g c).After-new-in-Ok)

-- ---- where it ends

pub returns-in-Ok-clause-account : goal.returns-in-Ok-clause-account
returns-in-Ok-clause-account g c =
    let job = c.args.job.now in
    let start = c.args.start.now in
    let size = c.args.world.partition.size in
    let after = c.emit_input-cause.new.output in
    let said = c.end_sender.ensures in
    let passes = c.end_sender.result.passes in
    let left = g.S.Source.left c.args.input.now in
    let fell = g.S.Source.faults c.args.input.now in
    let rose = g.S.Source.faults c.emit_input-cause.new.input in
    let same = c.emit_input-cause.ensures.same in
    let was = (c.emit_input-cause.ensures.ended job size (nothing g (goal.at.returns-in-Ok-clause-account g c).After-new-in-Ok)).account in
    account_ended job c.args.index size start c.args.every passes.partition.subpartitions.items (sent_by passes.snapshots) (seen passes.last_image) left fell rose c.emit_input-cause.result c.end_sender.result.cause said.cause
    (account_of_same job after.index c.args.index size (start_of after) start after.every c.args.every after.output.writer.passes passes.partition.subpartitions.items (sent_by after.acks.pass) (sent_by passes.snapshots) (seen after.acks.last_pass) (seen passes.last_image) left fell rose
    c.emit_input-cause.result same.index (ap (λ (s : Bor SnapshotChannel). (opening_of s.now).start) same.snapshots ∙ start_is job c.args.index start c.args.every c.args.world c.requires.lent) same.every_is
    (sym said.partition.same) (ap sent_by (sym said.passes.0)) (ap seen (sym said.passes.1)) was)

pub returns-in-Ok-clause-stop : goal.returns-in-Ok-clause-stop
returns-in-Ok-clause-stop g c =
    let after = c.emit_input-cause.new.output in
    let was = c.emit_input-cause.ensures.ended c.args.job.now c.args.world.partition.size (nothing g (goal.at.returns-in-Ok-clause-stop g c).After-new-in-Ok) in
    told_by_source c.args.world.stop.now c.emit_input-cause.result c.end_sender.result.cause c.args.world.stop_pass after.output.writer.stop_pass c.end_sender.result.passes.stop
    (subst (λ p. IsSamePass p after.output.writer.stop_pass) (ap (λ (w : Writer). w.stop_pass) c.new-in-Ok.ensures.writer.0 ∙ c.in-Ok.ensures.is_of.2) c.emit_input-cause.ensures.same.writer.stop_pass) was.stopped c.end_sender.ensures.told

pub returns-in-Err-clause-account : goal.returns-in-Err-clause-account
returns-in-Err-clause-account g c =
    let start = c.args.start.now in
    let said = c.end_task.ensures in
    let passes = c.end_task.result.passes in
    let size = c.args.world.partition.size in
    let left = g.S.Source.left c.args.input.now in
    let fell = g.S.Source.faults c.args.input.now in
    account_ended c.args.job.now c.args.index size start c.args.every passes.partition.subpartitions.items (sent_by passes.snapshots) (seen passes.last_image) left fell fell causes.Memory c.end_task.result.cause said.cause
    (account_unsent c.args.job.now c.args.index size start c.args.every passes.partition.subpartitions.items (sent_by passes.snapshots) (seen passes.last_image) left fell fell
    (subst (λ (p : PartitionPasses). AreNew p.subpartitions.items) (sym (said.partition ∙ c.in-Err.ensures.refused.0)) c.requires.partition.new) (ap sent_by said.passes.0 ∙ c.requires.lent.fresh) (omega arith))
