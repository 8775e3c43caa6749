use Rattle.std.proofs.Common.{◌++◌, ap, ◌∙◌}
use Rattle.std.specs.Int.{w32, w64, to_be_bytes}
use Rattle.channel_state.proofs.Parts.{two_parts}
use Rattle.channel_state.proofs.write.put_run.Goals as goal

pub returns-clause-out : goal.returns-clause-out
returns-clause-out c =
    let old = c.args.out.now.items in
    let run = c.args.run in
    two_parts old c.extend.new.self.items c.extend-2.new.self.items (to_be_bytes w32 run.from) (to_be_bytes w64 run.count)
    (c.in_ok-extend.ensures.ok ∙ ap (λ l. old ++ l) c.to_be_bytes.ensures) (c.in_ok-extend-2.ensures.ok ∙ ap (λ l. c.extend.new.self.items ++ l) c.to_be_bytes-2.ensures)
