use Rattle.subpartition.proofs.Adding.{last_is_put, take_tells, front_overtakes, task_tells_queue}
use Rattle.subpartition.proofs.laws.calls_tell.Goals as goal

pub returns : goal.returns
returns c = record { put = last_is_put; take = take_tells; front = front_overtakes; task = task_tells_queue }
