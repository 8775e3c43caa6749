use Rattle.std.proofs.Common.{◌≡◌, ◌+◌, suc, sym, ap, ◌∙◌, arith}
use Rattle.flow_defs.specs.Jobs.{tasks}
use Rattle.job_cells.proofs.span.span_of.Goals as goal

pub returns-clause-fits : goal.returns-clause-fits
returns-clause-fits c =
    let job = c.args.job.now in let e = c.args.edge in let is_job = c.requires.0 in let low = c.requires.1 in
    let next : suc e ≡ e + 1 = omega arith in
    let stages = is_job.stages in
    let some = (is_job.counts e (omega (arith, low))).0 in let some_behind = (is_job.counts (e + 1) (omega (arith, low))).0 in
    let sends = c.tasks.ensures.is in let receives = c.tasks-2.ensures.is in
    record {
      edge = omega (arith, low, stages);
      some_send = omega (arith, some, sends);
      few_send = c.tasks.ensures.few;
      some_receive = omega (arith, some_behind, receives);
      few_receive = c.tasks-2.ensures.few;
      forward = λ forward. sends ∙ is_job.widths e low (sym c.exchange.ensures ∙ forward) ∙ ap (tasks job) next ∙ sym receives;
    }
