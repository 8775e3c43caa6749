-- Fields of an image, read from the left. A field that is cut, or doesn't say what it has to, is a fault.
-- The format is this project's own.
use Rattle.std.specs.Prelude.{ℕ, zero, suc, Bool, true, false, List, [], ◌∷◌, length, take, drop, Result, Ok, Err, nat_lt, nat_eq, if◌then◌else◌}
use Rattle.std.specs.List.{starts_with}
use Rattle.std.specs.Int.{Width, w32, byte_len, from_be_bytes}

-- What a field says and the bytes behind it, or how many bytes are left from the first faulty field on.
abbrev pub Reading : Type 0 → Type 0
Reading X = Result (X × List ℕ) ℕ

-- The bytes behind some fields, or how many bytes are left from the first faulty one on.
abbrev pub Passing : Type 0
Passing = Result (List ℕ) ℕ

infixl 10 ◌>>=◌
abbrev pub ◌>>=◌ : {A B : Type 0} → Result A ℕ → (A → Result B ℕ) → Result B ℕ
(Ok x) >>= f = f x
(Err left) >>= f = Err left

-- A number of one byte.
abbrev pub byte : List ℕ → Reading ℕ
byte [] = Err 0
byte (b ∷ rest) = Ok (b, rest)

-- A flag is 0 or 1.
abbrev pub flag : List ℕ → Reading Bool
flag [] = Err 0
flag (zero ∷ rest) = Ok (false, rest)
flag (suc zero ∷ rest) = Ok (true, rest)
flag (suc (suc b) ∷ rest) = Err (suc (length rest))

-- A number, with its highest byte first.
abbrev pub number : Width → List ℕ → Reading ℕ
number w bytes = if nat_lt (length bytes) (byte_len w) then Err (length bytes) else Ok (from_be_bytes w (take (byte_len w) bytes), drop (byte_len w) bytes)

-- So many of the bytes, as part of a field with so many.
abbrev pub front : ℕ → ℕ → List ℕ → Reading (List ℕ)
front all len bytes = if nat_lt (length bytes) len then Err all else Ok (take len bytes, drop len bytes)

-- A length and that many bytes, which are one field.
unfoldable pub piece : List ℕ → Reading (List ℕ)
piece bytes = do
  len ← number w32 bytes
  front (length bytes) len.0 len.1

-- These bytes.
abbrev pub mark : List ℕ → List ℕ → Passing
mark text bytes = if starts_with nat_eq bytes text then Ok (drop (length text) bytes) else Err (length bytes)

-- The same field, where what it says passes a test.
unfoldable pub tested : {X : Type 0} → (X → Bool) → (List ℕ → Reading X) → List ℕ → Reading X
tested test field bytes = do
  x ← field bytes
  if test x.0 then Ok x else Err (length bytes)

-- So many parts one behind the other, of which the first has this number.
unfoldable pub parts_from : ℕ → ℕ → (ℕ → List ℕ → Passing) → List ℕ → Passing
parts_from i zero part bytes = Ok bytes
parts_from i (suc n) part bytes = do
  rest ← part i bytes
  parts_from (suc i) n part rest

-- So many parts, counted from 0.
abbrev pub parts : ℕ → (ℕ → List ℕ → Passing) → List ℕ → Passing
parts n part bytes = parts_from 0 n part bytes

-- No bytes.
abbrev pub nothing : List ℕ → Passing
nothing [] = Ok []
nothing (b ∷ rest) = Err (suc (length rest))
