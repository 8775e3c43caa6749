use Rattle.std.proofs.lemmas.Result.{IfOk-weaker}
use Rattle.job_text.specs.Shapes.{job_of}
use Rattle.channel_state.specs.Building.{IsBytes, AreRunsSoFar, AreRunsRead}
use Rattle.channel_state.proofs.BuildLemmas.{runs_read}
use Rattle.channel_state.proofs.read.read_takes_of.Goals as goal

pub returns : goal.returns
returns c =
    let job = job_of c.args.shape.now in
    let old = c.args.cursor.now.rest.now in
    let mid = c.u32.new.self.rest.now in
    let new = c.read_runs.new.cursor.rest.now in
    let many = c.in_ok-many.many in
    IfOk-weaker c.read_runs.result (λ runs. IsBytes mid → AreRunsSoFar job c.args.edge c.args.to many mid new runs.items) (λ runs. IsBytes old → AreRunsRead job c.args.edge c.args.to old new runs.items)
    (λ runs read. runs_read job c.args.edge c.args.to many old mid new runs.items c.in_ok-many.ensures read) c.read_runs.ensures
