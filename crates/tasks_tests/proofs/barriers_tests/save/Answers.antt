use Rattle.std.proofs.Common.{rules, ◌≡◌, false, length, vec_len, ap, ◌∙◌}
use Rattle.barriers.specs.Alignments.{Alignment, none_of}
use Rattle.tasks_tests.proofs.Flags.{none_filled}
use Rattle.tasks_tests.proofs.barriers_tests.save.Goals as goal

pub invariant_of-watched-in-Done : goal.invariant_of-watched-in-Done
invariant_of-watched-in-Done c =
    let old = c.args.watched.now in
    let gave_many : length old.gave.items ≡ vec_len old.gave = search rules in
    let saved_many : length old.saved.items ≡ vec_len old.saved = search rules in
    record {
      same = c.in-Done.ensures.answers.1 ∙ ap (λ (a : Alignment). record { closed = c.in-Done.k; gave = none_of a.gave; saving = false; saved = none_of a.saved }) old.same ∙
          ap (λ gave. record { closed = c.in-Done.k; gave = gave; saving = false; saved = none_of old.saved.items }) (none_filled old.gave.items c.fill.new.self.items (vec_len old.gave) gave_many (c.fill.ensures.items (λ y is. is))) ∙
          ap (λ saved. record { closed = c.in-Done.k; gave = c.fill.new.self.items; saving = false; saved = saved }) (none_filled old.saved.items c.fill-in-Done.new.self.items (vec_len old.saved) saved_many (c.fill-in-Done.ensures.items (λ y is. is)));
    }
