use Rattle.std.proofs.Common.{◌++◌, ◌∙◌, ℕ, List, ap, append_assoc}
use Rattle.std.specs.Prelude.{codes, decimal}
use Rattle.command_parts.specs.FaultTexts.{part_text}
use Rattle.command_parts.proofs.fault.not_image.Goals as goal

pub returns : goal.returns
returns c =
    let parts =
    c.both.ensures
    ∙ ap (λ (l : List ℕ). l ++ part_text c.numbered-fault.result) c.numbered-image.ensures
    ∙ ap (λ (l : List ℕ). (codes "image " ++ decimal c.args.number) ++ l) c.numbered-fault.ensures in
    simp append_assoc (simp append_assoc at parts)
