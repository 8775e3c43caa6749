use Rattle.std.proofs.Common.{◌≡◌, ◌≤◌, ◌+◌, ◌∷◌, ◌++◌, length, map, take, drop}
use Rattle.script_text.specs.Scripts.{line_of}
use Rattle.script_text.specs.Writing.{part_word}
use Rattle.script_text.proofs.Writings.{parts_text}
use Rattle.script_text.proofs.reply.add_line.Given as goal

-- the line so far, and then the parts that are left; what stood there before still does; and what is
-- left of the room
abbrev pub invariant-loop-part : goal.invariant-loop-part
invariant-loop-part l =
    (l.out.items ++ parts_text (drop l.part-index l.parts) ≡ l.fn.out.items ++ line_of (l.first ∷ map part_word l.parts))
    × (take (length l.fn.out.items) l.out.items ≡ l.fn.out.items)
    × (l.fn.out.room + length (parts_text (drop l.part-index l.parts)) ≤ l.out.room + length (line_of (l.first ∷ map part_word l.parts)))
