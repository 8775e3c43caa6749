use Rattle.std.proofs.Common.{◌≡◌, suc, [], ◌++◌}
use Rattle.std.specs.Prelude.{if◌then◌else◌}
use Rattle.flow_defs.specs.Jobs.{tasks, is_channel}
use Rattle.plain_machine.specs.Worth.{concat_below}
use Rattle.image_lines.specs.Shown.{source_line, task_line, table_line, take_line, channel_line, channel_lines}
use Rattle.image_lines.proofs.lines.add_tasks.Given as goal

abbrev pub invariant-loop-stage : goal.invariant-loop-stage
invariant-loop-stage l = l.text.items ≡ l.fn.text.items ++ concat_below l.stage (λ i. concat_below (tasks l.job i) (task_line l.job l.image i))
