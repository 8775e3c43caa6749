use Rattle.std.proofs.Common.{◌≡◌, suc, [], ◌++◌}
use Rattle.std.specs.Prelude.{if◌then◌else◌}
use Rattle.flow_defs.specs.Jobs.{tasks, is_channel}
use Rattle.plain_machine.specs.Worth.{concat_below}
use Rattle.image_lines.specs.Shown.{source_line, task_line, table_line, take_line, channel_line, channel_lines}
use Rattle.image_lines.proofs.lines.add_takers.Given as goal

abbrev pub invariant-loop-b : goal.invariant-loop-b
invariant-loop-b l = l.text.items ≡ l.fn.text.items ++ concat_below l.b (take_line l.job l.image l.edge)
