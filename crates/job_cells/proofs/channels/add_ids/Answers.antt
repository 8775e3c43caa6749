use Rattle.std.proofs.Common.{ℕ, ◌++◌, ◌∷◌, [], sym, ap, ◌∙◌, append_assoc}
use Rattle.flow_defs.specs.declared.task.ChannelId.{ChannelId}
use Rattle.job_cells.specs.Spans.{id_at, ids_into}
use Rattle.job_cells.proofs.Places.{ids_more}
use Rattle.job_cells.proofs.channels.add_ids.Goals as goal

pub loop-way-preserved : goal.loop-way-preserved
loop-way-preserved c =
    let span = c.args.span in let b = c.args.to in let i = c.loop-way.way in let old = c.args.ids.now.items in
    let from_is : ℕ → ChannelId = λ a. record { edge = span.edge; «from» = a; to = b } in
    c.in_ok-push.ensures.ok
    ∙ ap (λ ids. ids ++ from_is c.sender_at.result ∷ []) c.loop-way.invariant
    ∙ ap (λ a. (old ++ ids_into span b i) ++ from_is a ∷ []) c.sender_at.ensures
    ∙ append_assoc old (ids_into span b i) (id_at span b i ∷ [])
    ∙ ap (λ ids. old ++ ids) (sym (ids_more span b i))
