use Rattle.std.proofs.Common.{◌≡◌, ◌≤◌, ◌+◌, ◌++◌, length, take, drop}
use Rattle.script_text.specs.Writing.{digits_text}
use Rattle.script_text.proofs.reply.add_digits.Given as goal

-- the digits so far, and then those of the bytes that are left; what stood there before still does; and
-- what is left of the room
abbrev pub invariant-loop-byte : goal.invariant-loop-byte
invariant-loop-byte l =
    (l.out.items ++ digits_text (drop l.byte-index l.bytes) ≡ l.fn.out.items ++ digits_text l.bytes)
    × (take (length l.fn.out.items) l.out.items ≡ l.fn.out.items)
    × (l.fn.out.room + length (digits_text (drop l.byte-index l.bytes)) ≤ l.out.room + length (digits_text l.bytes))
