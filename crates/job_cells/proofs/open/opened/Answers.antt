use Rattle.std.proofs.Common.{arith}
use Rattle.job_cells.proofs.WantLaws.{same_dealt}
use Rattle.job_cells.proofs.open.opened.Goals as goal

pub returns-clause-dealt : goal.returns-clause-dealt
returns-clause-dealt c =
    let need = c.needed-most.ensures in let most = c.max.ensures in let least = c.min.ensures in
    same_dealt c.args.job.now c.args.segments c.min.result c.requires.is_job c.requires.range.1 (omega (arith, need, most, least))
