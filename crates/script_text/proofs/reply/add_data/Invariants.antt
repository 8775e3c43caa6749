use Rattle.std.proofs.Common.{◌≡◌, ◌≤◌, ◌+◌, ℕ, ◌++◌, length, map, take, drop}
use Rattle.flow_defs.specs.Items.{Items}
use Rattle.script_text.specs.Replies.{printed, record_line}
use Rattle.script_text.specs.Writing.{data_lines}
use Rattle.script_text.proofs.reply.add_data.Given as goal

-- the lines so far, and then those of the records that are left; what stood there before still does;
-- and what is left of the room
abbrev pub invariant-loop-record : goal.invariant-loop-record
invariant-loop-record l =
    (l.out.items ++ printed (map (λ (text : Items ℕ). record_line l.c text.items) (drop l.record-index l.records)) ≡ l.fn.out.items ++ printed (data_lines l.c l.len l.records))
    × (take (length l.fn.out.items) l.out.items ≡ l.fn.out.items)
    × (l.fn.out.room + length (printed (map (λ (text : Items ℕ). record_line l.c text.items) (drop l.record-index l.records))) ≤ l.out.room + length (printed (data_lines l.c l.len l.records)))
