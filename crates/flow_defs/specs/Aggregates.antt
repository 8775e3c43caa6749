-- Aggregates: what the last stage of a job keeps of its records. A keyed aggregation in the sense of
-- Flink's data streams; which ones there are is this project's own choice.
use Rattle.std.specs.Prelude.{ℕ, ◌+◌, ◌%◌, ◌^◌, ◌==◌, ◌&&◌, nat_le, max, Bool, List, [], ◌∷◌, Option, Some, None, if◌then◌else◌}
use Rattle.std.specs.List.{list_all}
use Rattle.std.specs.Option.{option_map_or}
use Rattle.std.specs.Str.Parse.{digits_value}
use Rattle.flow_defs.specs.declared.job.AggKind.{AggKind}
use Rattle.flow_defs.specs.declared.job.AggKind.TheVariants.{Count, Sum, Max}

-- The bytes before the last `=` and those behind it, where there is one.
abbrev pub parted : List ℕ → Option (List ℕ × List ℕ)
parted [] = None
parted (b ∷ bytes) = option_map_or (λ parts. Some (b ∷ parts.0, parts.1)) (parted bytes) (if b == 61 then Some ([], bytes) else None)

-- Whether a byte is a digit of ASCII.
abbrev pub is_digit : ℕ → Bool
is_digit b = nat_le 48 b && nat_le b 57

-- The bytes as a number in decimal digits, modulo 2^64, or 0 where another byte stands among them.
abbrev pub number : List ℕ → ℕ
number bytes = if list_all is_digit bytes then digits_value 10 bytes % 2 ^ 64 else 0

-- The key of a record.
abbrev pub key_of : AggKind → List ℕ → List ℕ
key_of Count r = r
key_of Sum r = option_map_or (λ parts. parts.0) (parted r) r
key_of Max r = option_map_or (λ parts. parts.0) (parted r) r

-- The value of a record.
abbrev pub value_of : AggKind → List ℕ → ℕ
value_of Count r = 1
value_of Sum r = option_map_or (λ parts. number parts.1) (parted r) 0
value_of Max r = option_map_or (λ parts. number parts.1) (parted r) 0

-- The values of one key are folded, one after another, from 0 on.
abbrev pub folded : AggKind → ℕ → ℕ → ℕ
folded Count old new = (old + new) % 2 ^ 64
folded Sum old new = (old + new) % 2 ^ 64
folded Max old new = max old new
