use Rattle.std.proofs.Common.{◌∷◌, [], refl, sym, subst}
use Rattle.task_output.specs.Outputs.{Output, HasSent}
use Rattle.task_output.proofs.Sending.{sent_more, sent_until}
use Rattle.task_output.proofs.output.TaskOutput.emit.Goals as goal

pub returns-in-Ok-clause-emitted : goal.returns-in-Ok-clause-emitted
returns-in-Ok-clause-emitted g c = λ from job e a size groups records was.
    sent_more (record { parts = c.emits_in_parts.ensures.records; count = c.emits_in_parts.ensures.count; grow = c.stretches_grow.ensures.data; barrier = c.stretches_grow.ensures.barrier; over = c.stretches_grow.ensures.«end» })
    from job e a size (record { writer = c.self.inside.writer; emitted = c.self.inside.emitted }) (record { writer = c.emit.new.self; emitted = c.emitted-self-inside.result }) groups records c.emit.ensures.same
    (subst (λ (o : Output). HasSent from job e a size o groups records) (sym c.self.view_is) was) (c.args.line.now ∷ []) c.in-Ok.ensures.emitted.0 c.in-Ok.ensures.emitted.1 c.in-Ok.ensures.entries c.emitted-self-inside.ensures

pub returns-in-Err-clause-emitted : goal.returns-in-Err-clause-emitted
returns-in-Err-clause-emitted g c = λ from job e a size groups records was.
    sent_until (record { parts = c.emits_in_parts.ensures.records; count = c.emits_in_parts.ensures.count; grow = c.stretches_grow.ensures.data; barrier = c.stretches_grow.ensures.barrier; over = c.stretches_grow.ensures.«end» })
    from job e a size (record { writer = c.self.inside.writer; emitted = c.self.inside.emitted }) (record { writer = c.emit.new.self; emitted = c.self.inside.emitted }) groups records c.emit.ensures.same
    (subst (λ (o : Output). HasSent from job e a size o groups records) (sym c.self.view_is) was) (c.args.line.now ∷ []) c.in-Err.ensures.stopped c.in-Err.ensures.entries refl
