use Rattle.std.proofs.Common.{rules, ◌≡◌, true, length, vec_len, ap, ◌∙◌}
use Rattle.std.specs.Prelude.{slice_set}
use Rattle.barriers.specs.Alignments.{Alignment, none_of}
use Rattle.tasks_tests.proofs.Flags.{none_filled}
use Rattle.tasks_tests.proofs.barriers_tests.give.Goals as goal

pub invariant_of-watched-in-SnapshotInline : goal.invariant_of-watched-in-SnapshotInline
invariant_of-watched-in-SnapshotInline c =
    let old = c.args.watched.now in
    let many : length old.gave.items ≡ vec_len old.gave = search rules in
    record {
      same = c.in-SnapshotInline.ensures.answers.2 ∙ ap (λ (a : Alignment). record a { closed = c.in-SnapshotInline.k; gave = none_of a.gave }) old.same ∙
          ap (λ gave. record { closed = c.in-SnapshotInline.k; gave = gave; saving = old.saving; saved = old.saved.items }) (none_filled old.gave.items c.fill.new.self.items (vec_len old.gave) many (c.fill.ensures.items (λ y is. is)));
    }

pub invariant_of-watched-in-SnapshotFront : goal.invariant_of-watched-in-SnapshotFront
invariant_of-watched-in-SnapshotFront c =
    let old = c.args.watched.now in
    let many : length old.saved.items ≡ vec_len old.saved = search rules in
    record {
      same = c.in-SnapshotFront.ensures.answers.2 ∙ ap (λ (a : Alignment). record a { gave = slice_set a.gave c.args.channel true; saving = true; saved = none_of a.saved }) old.same ∙
          ap (λ saved. record { closed = old.closed; gave = slice_set old.gave.items c.args.channel true; saving = true; saved = saved }) (none_filled old.saved.items c.fill-in-SnapshotFront.new.self.items (vec_len old.saved) many (c.fill-in-SnapshotFront.ensures.items (λ y is. is)));
    }
