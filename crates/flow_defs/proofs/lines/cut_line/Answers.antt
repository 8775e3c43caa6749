use Rattle.std.proofs.lemmas.Grind.{common_steps}
use Rattle.std.proofs.Common.{arith, ◌≡◌, List, ℕ, suc, ◌-◌, ◌+◌, length, take, drop, ◌∷◌, ◌++◌, ap, ◌∙◌, append_assoc}
use Rattle.flow_defs.specs.Lines.{lines}
use Rattle.flow_defs.proofs.LineLemmas.{HasNoNewline, lines_cut, lines_onto, none_passes, none_before, parts_at}
use Rattle.flow_defs.proofs.lines.cut_line.Goals as goal

pub returns-in_err-newline-clause-none : goal.returns-in_err-newline-clause-none
returns-in_err-newline-clause-none c =
    let none : HasNoNewline c.args.bytes.now = none_passes c.args.bytes.now c.in_err-newline.ensures in
    rw c.from_residual.ensures (λ more. lines_onto c.args.bytes.now more none)

pub returns-clause-line : goal.returns-clause-line
returns-clause-line c = λ more.
    let bytes = c.args.bytes.now in
    let k = c.in_ok-newline.newline in
    let found = c.in_ok-newline.ensures in
    let first : List ℕ = take k bytes in
    let rest : List ℕ = take (length bytes - (k + 1)) (drop (k + 1) bytes) in
    let parts : bytes ≡ first ++ 10 ∷ drop (suc k) bytes = parts_at bytes k found.0.high found.1 in
    let cut : bytes ≡ first ++ 10 ∷ rest = grind (arith, common_steps, parts) in
    let none : HasNoNewline first = none_before bytes k found.0.high found.0.before in
    ap (λ (all : List ℕ). lines (all ++ more)) cut ∙ ap lines (append_assoc first (10 ∷ rest) more) ∙ lines_cut first (rest ++ more) none
