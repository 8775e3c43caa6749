-- What the writer of replies has written.
use Rattle.std.proofs.Common.{◌≡◌, ℕ, ◌+◌, ◌≤◌, List, [], ◌∷◌, ◌++◌, length, map, take, refl, sym, ap, ◌∙◌, arith, append_assoc, append-nil, length-append, length-take}
use Rattle.std.specs.Prelude.{flat_map}
use Rattle.std.proofs.lemmas.List.{take-append-le}
use Rattle.hex.specs.Hex.{encode_with, encode_lower}
use Rattle.script_text.specs.declared.reply.Part.{Part}
use Rattle.script_text.specs.Scripts.{line_of}
use Rattle.script_text.specs.Replies.{bytes_word}
use Rattle.script_text.specs.Writing.{part_word, digits_text}

-- the parts of a line behind its first word, each behind a space
abbrev pub parts_text : List Part → List ℕ
parts_text parts = flat_map (λ part. 32 ∷ part_word part) parts

pub line_is : (first : List ℕ) (parts : List Part) → first ++ parts_text parts ≡ line_of (first ∷ map part_word parts)
line_is first [] = append-nil first
line_is first (part ∷ parts) = ap (λ l. first ++ 32 ∷ l) (line_is (part_word part) parts)

pub line_begins : (old first : List ℕ) (parts : List Part) → (old ++ first) ++ parts_text parts ≡ old ++ line_of (first ∷ map part_word parts)
line_begins old first parts = append_assoc old first (parts_text parts) ∙ ap (λ l. old ++ l) (line_is first parts)

pub length_line : (first : List ℕ) (parts : List Part) → length (line_of (first ∷ map part_word parts)) ≡ length first + length (parts_text parts)
length_line first parts = sym (ap length (line_is first parts)) ∙ length-append first (parts_text parts)

-- what begins with the bytes that stood there still does with more behind it
pub keeps : (old now new more : List ℕ) → take (length old) now ≡ old → new ≡ now ++ more → take (length old) new ≡ old
keeps old now new more kept is =
    let same : length (take (length old) now) ≡ length old = ap length kept in
    let taken = length-take (length old) now in
    let within : length old ≤ length now = omega (arith, same, taken) in
    ap (take (length old)) is ∙ take-append-le (length old) now more within ∙ kept

-- ---- bytes in hexadecimal

digits_are : (bytes : List ℕ) → encode_lower bytes ≡ digits_text bytes
unfolding encode_with
digits_are [] = refl
digits_are (b ∷ bytes) = ap (λ l. encode_lower (b ∷ []) ++ l) (digits_are bytes)

pub some_bytes : (bytes : List ℕ) → (length bytes ≡ 0 → ⊥) → bytes_word bytes ≡ digits_text bytes
some_bytes [] some = absurd (some refl)
some_bytes (b ∷ bytes) some = digits_are (b ∷ bytes)

pub no_bytes : (bytes : List ℕ) → length bytes ≡ 0 → bytes_word bytes ≡ 45 ∷ []
no_bytes [] none = refl
no_bytes (b ∷ bytes) none = absurd (omega (arith, none))
