use Rattle.std.proofs.Common.{◌≡◌, ◌+◌, ◌≤◌, ◌++◌, sym, ap, ◌∙◌, arith}
use Rattle.input_channel.specs.Lines.{contents}
use Rattle.input_channel.proofs.LineLemmas.{one_copied}
use Rattle.input_channel.proofs.queue.copy_of.Goals as goal

pub copies-preserved : goal.copies-preserved
copies-preserved c =
    c.in_ok-extend.ensures.ok ∙ ap (λ z. z ++ c.data.result.now) c.copies.invariant ∙ ap (λ z. contents (Rattle.std.proofs.Common.take c.copies.i c.args.buffers.now.items) ++ z) c.data.ensures
    ∙ one_copied c.copies.i c.args.buffers.now.items c.in-Some.buf.now c.in-Some.ensures
