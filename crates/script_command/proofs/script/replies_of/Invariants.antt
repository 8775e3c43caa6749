use Rattle.std.proofs.Common.{reverse, length}
use Rattle.script_command.specs.Scripts.{printed_replies}
use Rattle.script_command.proofs.ScriptLemmas.{IsScripted}
use Rattle.script_command.proofs.script.replies_of.Given as goal

-- the events that are left are ahead, the next one last
abbrev pub invariant-loop-event : goal.invariant-loop-event
invariant-loop-event g l = IsScripted l.fn.script.channels l.exchange.world (reverse l.events.items) l.text.items (printed_replies l.fn.script)

abbrev pub decreases-loop-event : goal.decreases-loop-event
decreases-loop-event g l = length l.events.items
