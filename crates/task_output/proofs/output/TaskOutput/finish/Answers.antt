use Rattle.std.proofs.Common.{refl, sym, subst}
use Rattle.task_output.specs.Outputs.{Output, HasSent}
use Rattle.task_output.proofs.Sending.{sent_whole, whole_until}
use Rattle.task_output.proofs.output.TaskOutput.finish.Goals as goal

pub returns-clause-finished : goal.returns-clause-finished
returns-clause-finished g c = λ from job e a size groups records was.
    sent_whole (record { parts = c.emits_in_parts.ensures.records; count = c.emits_in_parts.ensures.count; grow = c.stretches_grow.ensures.data; barrier = c.stretches_grow.ensures.barrier; over = c.stretches_grow.ensures.«end» })
    from job e a size (record { writer = c.self.inside.writer; emitted = c.self.inside.emitted }) (record { writer = c.finish.new.self; emitted = c.self.inside.emitted }) groups records c.finish.ensures.same
    (subst (λ (o : Output). HasSent from job e a size o groups records) (sym c.self.view_is) was) c.in-Ok.ensures.finished refl

pub returns-in-Err-clause-finished : goal.returns-in-Err-clause-finished
returns-in-Err-clause-finished g c = λ from job e a size groups records was.
    whole_until (record { parts = c.emits_in_parts.ensures.records; count = c.emits_in_parts.ensures.count; grow = c.stretches_grow.ensures.data; barrier = c.stretches_grow.ensures.barrier; over = c.stretches_grow.ensures.«end» })
    from job e a size (record { writer = c.self.inside.writer; emitted = c.self.inside.emitted }) (record { writer = c.finish.new.self; emitted = c.self.inside.emitted }) groups records c.finish.ensures.same
    (subst (λ (o : Output). HasSent from job e a size o groups records) (sym c.self.view_is) was) c.in-Err.ensures.stopped c.in-Err.ensures.entries refl
