use Rattle.std.proofs.Common.{◌≡◌, ◌++◌, drop}
use Rattle.std.specs.Prelude.{flat_map}
use Rattle.std.specs.List.{zip}
use Rattle.plain_machine.specs.Spelling.{channel_part}
use Rattle.channel_state.proofs.write.put_pieces.Given as goal

abbrev pub invariant-pieces : goal.invariant-pieces
invariant-pieces l = l.out.items ++ flat_map channel_part (zip (drop l.i l.saved_in) (drop l.i l.saved_out)) ≡ l.fn.out.items ++ flat_map channel_part (zip l.saved_in l.saved_out)
