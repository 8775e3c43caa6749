use Rattle.std.proofs.Common.{◌≡◌, ◌≤◌, length, take}
use Rattle.script_text.proofs.reply.write_reply.Given as goal

-- what was written before is still there, and room is only gained
abbrev pub invariant-cut : goal.invariant-cut
invariant-cut l = (take l.before l.out.items ≡ l.fn.out.items) × (l.before ≤ length l.out.items) × (l.initial.out.room ≤ l.out.room)

abbrev pub decreases-cut : goal.decreases-cut
decreases-cut l = length l.out.items
