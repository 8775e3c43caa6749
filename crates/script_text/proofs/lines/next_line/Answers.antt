use Rattle.std.proofs.Common.{◌≡◌, ◌≢◌, ◌∷◌, [], ℕ, List, length, ap, ◌∙◌, sym, arith, refl}
use Rattle.std.proofs.lemmas.List.{append-nil}
use Rattle.flow_defs.specs.Lines.{lines, onto_first_line}
use Rattle.script_text.proofs.lines.next_line.Goals as goal

pub returns-in-Some-clause-some : goal.returns-in-Some-clause-some
returns-in-Some-clause-some c =
    let bytes = c.args.bytes.now in
    ap lines (sym (append-nil bytes)) ∙ c.in-Some.ensures.line [] ∙ ap (λ rest. c.in-Some.line.now ∷ lines rest) (append-nil c.in-Some.rest.now)

whole_line : (bytes : List ℕ) → length bytes ≢ 0 → onto_first_line bytes [] ≡ bytes ∷ []
whole_line [] some = absurd (some refl)
whole_line (b ∷ bytes) some = refl

pub returns-else-is_empty-clause-some : goal.returns-else-is_empty-clause-some
returns-else-is_empty-clause-some c =
    let bytes = c.args.bytes.now in
    ap lines (sym (append-nil bytes)) ∙ c.in-None.ensures.none [] ∙ whole_line bytes (grind arith)
