use Rattle.std.proofs.Common.{sym, ap, ◌∙◌, arith}
use Rattle.input_channel.specs.Inboxes.{waiting_before}
use Rattle.input_channel.specs.Lines.{Line}
use Rattle.input_channel.proofs.LineLemmas.{before_merged}
use Rattle.input_channel.proofs.queue.Queue.data_before.Goals as goal
use Rattle.std.proofs.lemmas.Result.{IfOk-weaker}

pub count_before-count-requires : goal.count_before-count-requires
count_before-count-requires c =
    let counted = c.self.invariant.counted in
    let within = c.self.invariant.within in
    let few = c.self.invariant.few in
    (omega (arith, counted), omega (arith, within, few))

pub returns : goal.returns
returns c =
    let f = c.self.inside in
    IfOk-weaker c.copy_of.result _ _ (λ bytes is.
    is ∙ c.count_before-count.ensures f.buffers.items (sym c.len.ensures.len) ∙ sym (before_merged c.args.k f.polled f.barriers.items f.buffers.items)
    ∙ ap (λ (l : Line). waiting_before c.args.k l.arrived) c.self.view_is) c.copy_of.ensures
