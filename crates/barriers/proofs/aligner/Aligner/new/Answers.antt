use Rattle.std.proofs.Common.{ℕ, List, false, sym, ap, ◌∙◌, subst}
use Rattle.std.specs.Prelude.{replicate}
use Rattle.barriers.specs.Counts.{Counts, seen}
use Rattle.barriers.proofs.Counting.{first_counts, first_gave}
use Rattle.barriers.proofs.aligner.Aligner.new.Goals as goal

pub invariant_of-result : goal.invariant_of-result
invariant_of-result c =
    subst (λ (given : List ℕ). Counts 0 c.args.channels given false c.in_ok-saved.saved.items) (sym (c.in_ok-given.ensures.items_if_clones_equal (λ y e. e)))
    (subst (λ (saved : List ℕ). Counts 0 c.args.channels (replicate c.args.channels 0) false saved) (sym (c.in_ok-saved.ensures.items_if_clones_equal (λ y e. e))) (first_counts c.args.channels c.requires c.ranges.channels.fits))

pub returns-clause-begins : goal.returns-clause-begins
returns-clause-begins c =
    ap (λ given. seen 0 given false c.in_ok-saved.saved.items) (c.in_ok-given.ensures.items_if_clones_equal (λ y e. e)) ∙
    ap (seen 0 (replicate c.args.channels 0) false) (c.in_ok-saved.ensures.items_if_clones_equal (λ y e. e)) ∙
    ap (λ flags. record { closed = 0; gave = flags; saving = false; saved = flags }) (first_gave c.args.channels)

pub returns-clause-stands : goal.returns-clause-stands
returns-clause-stands c = record { some = c.requires; may = tt; is = sym (returns-clause-begins c) }
