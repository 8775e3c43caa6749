-- A source and a sink in memory: which of their calls fail, and what the others do.
use Rattle.std.specs.Prelude.{◌≡◌, ℕ, ◌+◌, ◌-◌, ◌==◌, Bool, true, false, nat_le, min, List, [], length, drop, if◌then◌else◌, Option, Result, Ok, Err}
use Rattle.std.specs.Option.{option_map_or}
use Rattle.std.specs.List.{list_any}
use Rattle.outside.specs.declared.source.Failed.{Failed}

-- One more, up to the end of the range.
abbrev pub counted : ℕ → ℕ
counted n = min (n + 1) 18446744073709551615

-- The number is one of these.
abbrev pub is_listed : List ℕ → ℕ → Bool
is_listed numbers n = list_any (λ k. k == n) numbers

-- What is left, how many bytes a read gives at most, which reads fail, how many there were, and how many failed.
pub record SourceState : Type 0 where
  pub left : List ℕ
  pub most : ℕ
  pub fails : List ℕ
  pub calls : ℕ
  pub faults : ℕ

-- A source of these bytes that was not read yet.
abbrev pub source_of : List ℕ → ℕ → List ℕ → SourceState
source_of bytes most fails = record { left = bytes; most = most; fails = fails; calls = 0; faults = 0 }

-- A read into so much room gives as many bytes as are left, fit and may be given, or fails where its number is listed.
abbrev pub ReadStep : SourceState → ℕ → Result ℕ Failed → SourceState → Type 0
ReadStep old room (Ok n) new =
    (is_listed old.fails (counted old.calls) ≡ false)
    × (n ≡ min (min (length old.left) room) old.most)
    × (new ≡ record old { left = drop n old.left; calls = counted old.calls })
ReadStep old room (Err e) new =
    (is_listed old.fails (counted old.calls) ≡ true)
    × (new ≡ record old { calls = counted old.calls; faults = counted old.faults })

-- What a sink got, how much more it takes, which writes fail, from which on they take nothing, how many there were, and how many faults.
pub record SinkState : Type 0 where
  pub got : List ℕ
  pub spare : ℕ
  pub fails : List ℕ
  pub nothing_from : Option ℕ
  pub calls : ℕ
  pub faults : ℕ

-- A sink with so much room that got nothing yet.
abbrev pub empty_sink : ℕ → List ℕ → Option ℕ → SinkState
empty_sink room fails nothing_from = record { got = []; spare = room; fails = fails; nothing_from = nothing_from; calls = 0; faults = 0 }

-- The write with this number takes nothing.
abbrev pub has_stopped : Option ℕ → ℕ → Bool
has_stopped nothing_from call = option_map_or (λ «from». nat_le «from» call) nothing_from false

-- A write of so many bytes takes as many as fit, or none where the sink has stopped, or fails where its number is listed.
-- Taking none is a fault.
abbrev pub WriteStep : SinkState → ℕ → Result ℕ Failed → SinkState → Type 0
WriteStep old len (Ok n) new =
    (is_listed old.fails (counted old.calls) ≡ false)
    × (n ≡ (if has_stopped old.nothing_from (counted old.calls) then 0 else min len old.spare))
    × (new.spare ≡ old.spare - n)
    × (new.fails ≡ old.fails)
    × (new.nothing_from ≡ old.nothing_from)
    × (new.calls ≡ counted old.calls)
    × (new.faults ≡ (if n == 0 then counted old.faults else old.faults))
WriteStep old len (Err e) new =
    (is_listed old.fails (counted old.calls) ≡ true)
    × (new ≡ record old { calls = counted old.calls; faults = counted old.faults })
