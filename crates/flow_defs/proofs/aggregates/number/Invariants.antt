use Rattle.std.proofs.Common.{◌≡◌, ◌%◌, ◌^◌, drop}
use Rattle.std.specs.List.{list_all}
use Rattle.std.specs.Str.Parse.{digits_value, digits_value_after}
use Rattle.flow_defs.specs.Aggregates.{is_digit}
use Rattle.flow_defs.proofs.aggregates.number.Given as goal

-- the number so far, and then the rest, is that of all
abbrev pub invariant-loop-byte : goal.invariant-loop-byte
invariant-loop-byte l =
    let rest = drop l.byte-index l.bytes in
    (list_all is_digit rest ≡ list_all is_digit l.fn.bytes) × (digits_value_after 10 l.number rest % 2 ^ 64 ≡ digits_value 10 l.fn.bytes % 2 ^ 64)
