use Rattle.job_cells.proofs.PartLaws.{is_edge, are_passes}
use Rattle.job_cells.proofs.parts.edge_of.Goals as goal

pub returns-clause-edge : goal.returns-clause-edge
returns-clause-edge c = λ job e size is low are shares. is_edge job e size c.args.parts is low are shares

pub returns-clause-passes : goal.returns-clause-passes
returns-clause-passes c = λ job e size is low are. are_passes job e size c.args.parts are
