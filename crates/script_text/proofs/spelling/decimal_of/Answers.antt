use Rattle.std.proofs.Common.{◌≡◌, ℕ, ◌∙◌, sym, ap, subst, Ok, not, true≢false}
use Rattle.std.proofs.lemmas.Str.{IsUtf8-from_ascii}
use Rattle.std.proofs.lemmas.Fmt.{IsAscii-decimal, parse-decimal}
use Rattle.std.specs.Prelude.{IsUtf8, decimal, Result}
use Rattle.script_text.proofs.Numbers.{bytes_same}
use Rattle.script_text.proofs.spelling.decimal_of.Goals as goal

ok_same : {E : Type 0} (a b : ℕ) (e : Result ℕ E) → e ≡ Ok a → e ≡ Ok b → a ≡ b
ok_same a b e first second = cc

pub returns-in_default-clause-none : goal.returns-in_default-clause-none
returns-in_default-clause-none c = λ n small is. c.in_default.ensures.cases.0 (subst IsUtf8 (sym is) (IsUtf8-from_ascii _ (IsAscii-decimal n small)))

pub returns-in_default-parse-clause-none : goal.returns-in_default-parse-clause-none
returns-in_default-parse-clause-none c = λ n small is. c.in_default-parse.not-Ok n (parse-decimal 64 n c.in-Ok.text.now c.parse.result small small (c.in-Ok.ensures.cases.0 ∙ is) c.parse.ensures.value.0)

pub returns-then-ne-clause-none : goal.returns-then-ne-clause-none
returns-then-ne-clause-none c =
    let m = c.in-Ok-parse.number in
    let word = c.args.word.now in
    let other : (word ≡ decimal m) → ⊥ = λ is. true≢false (c.if-ne.ensures ∙ ap not (bytes_same c.as_bytes.result.now word (c.as_bytes.ensures.value ∙ c.format.ensures.text ∙ sym is))) in
    λ n small is. other (is ∙ ap decimal (sym (ok_same m n c.parse.result c.in-Ok-parse.is (parse-decimal 64 n c.in-Ok.text.now c.parse.result small small (c.in-Ok.ensures.cases.0 ∙ is) c.parse.ensures.value.0))))
