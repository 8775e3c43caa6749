use Rattle.std.proofs.Common.{length, nat_lt, ◌||◌, sym, ap, ◌∙◌}
use Rattle.barriers.specs.Alignments.{is_open}
use Rattle.barriers.proofs.Counting.{open_is}
use Rattle.barriers.proofs.aligner.Aligner.is_open.Goals as goal

pub returns-else-self : goal.returns-else-self
returns-else-self c =
    let a = c.self.inside in
    ap (λ n. nat_lt a.missing n) (c.len.ensures ∙ a.given.ok.0) ∙
    ap (λ s. s || nat_lt a.missing (length a.given.items)) (sym c.if-self.false) ∙ open_is a.closed a.missing a.given.items a.saving a.saved.items c.self.invariant ∙ ap is_open c.self.view_is
