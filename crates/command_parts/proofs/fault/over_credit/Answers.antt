use Rattle.std.proofs.Common.{◌≡◌, ◌++◌, ◌∙◌, ℕ, List, ap, append_assoc}
use Rattle.std.specs.Prelude.{codes, decimal}
use Rattle.std.proofs.lemmas.List.{append-nil}
use Rattle.command_parts.specs.FaultTexts.{part_text}
use Rattle.command_parts.proofs.fault.over_credit.Goals as goal

joined : (p a b x y : List ℕ) → p ≡ a ++ b → x ≡ y → p ++ x ≡ a ++ (b ++ y)
joined p a b x y here rest = ap (λ (l : List ℕ). l ++ x) here ∙ append_assoc a b x ∙ ap (λ (l : List ℕ). a ++ (b ++ l)) rest

pub returns : goal.returns
returns c =
    let parts =
    joined (part_text c.numbered-edge.result) (codes "over credit on ") (decimal c.args.channel.edge) _ _ c.numbered-edge.ensures
    (joined (part_text c.numbered-from.result) (codes " ") (decimal c.args.channel.from) _ _ c.numbered-from.ensures
    (joined (part_text c.numbered-to.result) (codes " ") (decimal c.args.channel.to) _ _ c.numbered-to.ensures
    (joined (part_text c.numbered-got.result) (codes ": received ") (decimal c.args.received) _ _ c.numbered-got.ensures
    (append-nil (part_text c.numbered-most.result) ∙ c.numbered-most.ensures)))) in
    simp append_assoc (simp append_assoc at parts)
