use Rattle.std.proofs.Common.{◌≡◌, ℕ, ◌^◌, ◌<◌, ◌≤◌, sym, ap, ◌∙◌, subst, arith, lit<}
use Rattle.std.specs.Fmt.{decimal}
use Rattle.std.specs.Str.{IsUtf8}
use Rattle.std.specs.Result.{result_unwrap_or}
use Rattle.std.specs.Str.Parse.{digits_value}
use Rattle.std.proofs.lemmas.Fmt.{parse-decimal, decimal_is_IsNumeral, IsAscii-decimal}
use Rattle.std.proofs.lemmas.Str.{IsUtf8-from_ascii}
use Rattle.stage_fns.proofs.stages.place_of.Goals as goal

-- a number of four digits fits
fits : (n : ℕ) → n ≤ 9999 → n < 2 ^ 64
fits n h = let big : 9999 < 2 ^ 64 = lit< tt in omega (arith, big)

pub unreachable-requires : goal.unreachable-requires
unreachable-requires c =
    let n = c.requires.0 in
    c.in_default.ensures.cases.0 (subst IsUtf8 (sym c.requires.1) (IsUtf8-from_ascii (decimal n) (IsAscii-decimal n (fits n c.requires.3))))

pub unreachable-requires-in_default-parse : goal.unreachable-requires-in_default-parse
unreachable-requires-in_default-parse c =
    let n = c.requires.0 in
    let fit = fits n c.requires.3 in
    c.in_default-parse.not-Ok n (parse-decimal 64 n c.in-Ok.text.now c.parse.result fit fit (c.in-Ok.ensures.cases.0 ∙ c.requires.1) c.parse.ensures.value.0)

pub returns : goal.returns
returns c =
    let n = c.requires.0 in
    let fit = fits n c.requires.3 in
    let parsed = parse-decimal 64 n c.in-Ok.text.now c.parse.result fit fit (c.in-Ok.ensures.cases.0 ∙ c.requires.1) c.parse.ensures.value.0 in
    let place : c.in-Ok-parse.place ≡ n = ap (λ r. result_unwrap_or r 0) (sym c.in-Ok-parse.is ∙ parsed) in
    let value = ap (digits_value 10) c.requires.1 ∙ (decimal_is_IsNumeral n fit).1 in
    record { value = place ∙ sym value; least = rw place c.requires.2 }
