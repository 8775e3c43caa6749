use Rattle.std.proofs.Common.{◌%◌, ◌^◌, ℕ, ap, ◌∙◌}
use Rattle.turn_tests.proofs.sum.end.Goals as goal

pub returns : goal.returns
returns c = let whole = c.close.ensures in
    whole.stands_for.0 ∙ ap (λ (n : ℕ). n % 2 ^ 64) (whole.weighs (λ e. e.amount))
