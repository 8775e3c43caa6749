use Rattle.std.proofs.Common.{ℕ, List, ◌++◌, ap, sym, ◌∙◌}
use Rattle.script_text.specs.Replies.{printed, reply_lines}
use Rattle.script_command.proofs.ScriptLemmas.{bare_lines}
use Rattle.script_command.proofs.script.add_reply.Goals as goal

pub returns-clause-text : goal.returns-clause-text
returns-clause-text g c =
    c.in_ok-write_reply.ensures.ok
    ∙ ap (λ (lines : List (List ℕ)). c.args.text.now.items ++ printed lines) (sym (bare_lines c.in_ok-reply.reply) ∙ ap reply_lines c.in_ok-reply.ensures.reply)
