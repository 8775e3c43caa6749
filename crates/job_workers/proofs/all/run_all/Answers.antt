-- The tasks may run in threads of their own.
use denote.Exit.{no}
use denote.Param.{param}
use denote.Param.Send.{arg_send, param_send, sendable}
use Rattle.job_workers.proofs.Crossing.{task_send}
use Rattle.job_workers.proofs.all.run_all.Goals as goal

pub run_with_keeper-requires-send-V : goal.run_with_keeper-requires-send-V
run_with_keeper-requires-send-V g c κs within =
    param_send 0 _ (arg_send _ no _ (task_send _ _ (param 0 g.row.S) (search (sendable, c.type_bounds.send-S) depth 20)))
