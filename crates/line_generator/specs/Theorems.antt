-- The laws of lines that are made of a seed. Each is proved as a clause of a function of `laws`.
use Rattle.std.specs.Prelude.{◌≡◌, ℕ, length, []}
use Rattle.std.specs.List.{AllByRecursion}
use Rattle.flow_defs.specs.declared.job.StageKind.TheVariants.{Words}
use Rattle.flow_defs.specs.Lines.{lines}
use Rattle.flow_defs.specs.Stages.{given}
use Rattle.line_generator.specs.Generated.{generated}

-- They are as many lines as were asked for.
abbrev pub GeneratedAreCounted : Type 0
GeneratedAreCounted = (seed n : ℕ) → length (lines (generated seed n)) ≡ n

-- Each of them has two words.
abbrev pub EachHasTwoWords : Type 0
EachHasTwoWords = (seed n : ℕ) → AllByRecursion (λ line. length (given Words [] line) ≡ 2) (lines (generated seed n))
