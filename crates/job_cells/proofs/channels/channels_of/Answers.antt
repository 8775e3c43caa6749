use Rattle.std.proofs.Common.{◌≡◌, suc, ◌+◌, ◌++◌, ap, ◌∙◌, arith}
use Rattle.job_cells.specs.Spans.{ids_below, ids_into, ways_in}
use Rattle.job_cells.proofs.channels.channels_of.Goals as goal

pub loop-to-preserved : goal.loop-to-preserved
loop-to-preserved c =
    let span = c.args.span in let b = c.loop-to.to in
    let next : suc b ≡ b + 1 = omega arith in
    c.in_ok-add_ids.ensures ∙ ap (λ ids. ids ++ ids_into span b (ways_in span)) c.loop-to.invariant ∙ ap (ids_below span) next
