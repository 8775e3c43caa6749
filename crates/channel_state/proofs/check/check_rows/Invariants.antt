use Rattle.std.proofs.Common.{◌≡◌, ◌-◌, None}
use Rattle.std.specs.Prelude.{option_map}
use Rattle.channel_state.specs.ImageFaults.{rows}
use Rattle.channel_state.proofs.check.check_rows.Given as goal

abbrev pub invariant-loop-i : goal.invariant-loop-i
invariant-loop-i l = rows (l.many - l._i) (option_map (λ key. key.now) l.before) l.cursor.rest.now ≡ rows l.many None l.fn.cursor.rest.now
