use Rattle.std.proofs.Common.{Some}
use Rattle.record_writer.proofs.Emitting.{is_new}
use Rattle.record_writer.proofs.writer.RecordWriter.new.Goals as goal

pub returns-clause-new : goal.returns-clause-new
returns-clause-new c =
    let p = c.args.partition in
    is_new c.new.result.job.now c.new.result.edge c.new.result.index
    (record { subpartitions = p.subpartitions; first = p.first; stride = p.stride; passes = p.passes.subpartitions; parts = c.in-Ok.parts })
    (record { pool = p.pool; pool_pass = Some p.passes.pool; size = p.size; stop = c.args.stop; stop_pass = c.args.stop_pass })
    c.args.emitted c.requires.partition.new c.in-Ok.ensures.empty c.in-Ok.ensures.held
