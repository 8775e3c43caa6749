use Rattle.task_output.proofs.Begun.{sent_is_begun, finished_is_begun, barrier_is_left_aside}
use Rattle.task_output.proofs.laws.what_was_sent_was_begun.Goals as goal

pub returns-clause-sent : goal.returns-clause-sent
returns-clause-sent c = sent_is_begun (record { parts = c.emits_in_parts.ensures.records; count = c.emits_in_parts.ensures.count; grow = c.stretches_grow.ensures.data; barrier = c.stretches_grow.ensures.barrier; over = c.stretches_grow.ensures.«end» })

pub returns-clause-finished : goal.returns-clause-finished
returns-clause-finished c = finished_is_begun (record { parts = c.emits_in_parts.ensures.records; count = c.emits_in_parts.ensures.count; grow = c.stretches_grow.ensures.data; barrier = c.stretches_grow.ensures.barrier; over = c.stretches_grow.ensures.«end» })

pub returns-clause-aside : goal.returns-clause-aside
returns-clause-aside c = barrier_is_left_aside (record { parts = c.emits_in_parts.ensures.records; count = c.emits_in_parts.ensures.count; grow = c.stretches_grow.ensures.data; barrier = c.stretches_grow.ensures.barrier; over = c.stretches_grow.ensures.«end» })
