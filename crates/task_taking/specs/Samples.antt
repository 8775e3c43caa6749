-- What a gate of the tests tells, that gives the items of a list. This is this project's own choice.
use Rattle.std.specs.Prelude.{ℕ, ◌==◌, Bool, List, [], ◌∷◌, if◌then◌else◌}
use Rattle.flow_defs.specs.declared.task.BarrierKind.{BarrierKind}
use Rattle.flow_defs.specs.declared.task.BarrierKind.TheVariants.{Inline}
use Rattle.gate_account.specs.Accounts.{Account}
use Rattle.input_gate.specs.declared.gate.GateItem.{GateItem}
use Rattle.input_gate.specs.declared.gate.GateItem.TheVariants as items

-- The lines of a channel among these items,
abbrev pub lines_by : List GateItem → ℕ → List (List ℕ)
lines_by [] c = []
lines_by (items.Line a line ∷ given) c = if a == c then line.items ∷ lines_by given c else lines_by given c
lines_by (items.Barrier a k kind ∷ given) c = lines_by given c
lines_by (items.AllEnded ∷ given) c = lines_by given c

-- and its barriers.
abbrev pub barriers_by : List GateItem → ℕ → List (ℕ × BarrierKind)
barriers_by [] c = []
barriers_by (items.Line a line ∷ given) c = barriers_by given c
barriers_by (items.Barrier a k kind ∷ given) c = if a == c then (k, Inline) ∷ barriers_by given c else barriers_by given c
barriers_by (items.AllEnded ∷ given) c = barriers_by given c

-- How often each of two channels was resumed.
abbrev pub resumed_by : ℕ → ℕ → ℕ → ℕ
resumed_by first second c = if c == 0 then first else if c == 1 then second else 0

-- The account of a gate that gave these items.
abbrev pub account_of : List GateItem → ℕ → ℕ → Bool → Account
account_of given first second over = record {
  channels = 2;
  lines = lines_by given;
  barriers = barriers_by given;
  resumed = resumed_by first second;
  ended = λ c. over;
  left = λ c. [];
}
