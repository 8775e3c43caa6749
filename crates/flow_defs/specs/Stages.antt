-- What a stateless stage makes of a record. Which stages there are is this project's own choice.
use Rattle.std.specs.Prelude.{◌≡◌, ℕ, ◌-◌, ◌≤◌, ◌==◌, ◌&&◌, nat_le, nat_eq, not, List, [], ◌∷◌, length, map, filter, slice_get, if◌then◌else◌, All, decimal}
use Rattle.std.specs.Option.{option_to_list}
use Rattle.std.specs.List.{starts_with, slice_split}
use Rattle.std.specs.Str.Parse.{digits_value}
use Rattle.flow_defs.specs.Limits.{token_max, field_max}
use Rattle.flow_defs.specs.declared.job.Stage.{Stage}
use Rattle.flow_defs.specs.declared.job.StageKind.{StageKind}
use Rattle.flow_defs.specs.declared.job.StageKind.TheVariants.{Words, Upper, Keep, Field}

-- The pieces between the bytes with this code, empty ones among them.
abbrev pub pieces : ℕ → List ℕ → List (List ℕ)
pieces code r = slice_split (λ b. b == code) r

-- A lower case letter of ASCII raised, and any other byte as it is.
abbrev pub raised : ℕ → ℕ
raised b = if nat_le 97 b && nat_le b 122 then b - 32 else b

-- What a stage of this kind and argument gives for a record: its words between spaces, the record
-- raised, the record where it begins with the argument, or that one of its fields between commas
-- which the argument counts from 1.
abbrev pub given : StageKind → List ℕ → List ℕ → List (List ℕ)
given Words arg r = filter (λ piece. not (length piece == 0)) (pieces 32 r)
given Upper arg r = map raised r ∷ []
given Keep arg r = if starts_with nat_eq r arg then r ∷ [] else []
given Field arg r = option_to_list (slice_get (pieces 44 r) (digits_value 10 arg - 1))

unfoldable pub apply : Stage → List ℕ → List (List ℕ)
apply stage r = given stage.kind stage.arg.items r

-- A token: at least a byte and at most `token_max`, each visible and of ASCII.
pub record IsToken (bytes : List ℕ) : Type 0 where
  pub not_empty : 1 ≤ length bytes
  pub not_long : length bytes ≤ token_max
  pub visible : All (λ b. (33 ≤ b) × (b ≤ 126)) bytes

-- The bytes are a number in decimal, without a sign and without a zero before it, within these bounds.
abbrev pub IsNumber : ℕ → ℕ → List ℕ → Type 0
IsNumber least most bytes = (n : ℕ) × (bytes ≡ decimal n) × (least ≤ n) × (n ≤ most)

-- The bytes may be the argument of a stage of this kind.
abbrev pub IsArgument : StageKind → List ℕ → Type 0
IsArgument Words arg = arg ≡ []
IsArgument Upper arg = arg ≡ []
IsArgument Keep arg = IsToken arg
IsArgument Field arg = IsNumber 1 field_max arg
