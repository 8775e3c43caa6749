use Rattle.std.proofs.Common.{refl, sym, subst}
use Rattle.task_output.specs.Outputs.{Output, HasSent}
use Rattle.task_output.proofs.Sending.{sent_marked, marked_until}
use Rattle.task_output.proofs.output.TaskOutput.mark.Goals as goal

pub returns-clause-marked : goal.returns-clause-marked
returns-clause-marked g c = λ from job e a size groups records was.
    sent_marked (record { parts = c.emits_in_parts.ensures.records; count = c.emits_in_parts.ensures.count; grow = c.stretches_grow.ensures.data; barrier = c.stretches_grow.ensures.barrier; over = c.stretches_grow.ensures.«end» })
    from job e a size (record { writer = c.self.inside.writer; emitted = c.self.inside.emitted }) (record { writer = c.mark.new.self; emitted = c.self.inside.emitted }) groups records c.mark.ensures.same
    (subst (λ (o : Output). HasSent from job e a size o groups records) (sym c.self.view_is) was) c.args.k c.in-Ok.ensures.marked.0 c.in-Ok.ensures.marked.1 refl

pub returns-in-Err-clause-marked : goal.returns-in-Err-clause-marked
returns-in-Err-clause-marked g c = λ from job e a size groups records was.
    marked_until (record { parts = c.emits_in_parts.ensures.records; count = c.emits_in_parts.ensures.count; grow = c.stretches_grow.ensures.data; barrier = c.stretches_grow.ensures.barrier; over = c.stretches_grow.ensures.«end» })
    from job e a size (record { writer = c.self.inside.writer; emitted = c.self.inside.emitted }) (record { writer = c.mark.new.self; emitted = c.self.inside.emitted }) groups records c.mark.ensures.same
    (subst (λ (o : Output). HasSent from job e a size o groups records) (sym c.self.view_is) was) c.args.k c.in-Err.ensures.stopped c.in-Err.ensures.entries refl
