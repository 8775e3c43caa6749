use Rattle.std.proofs.Common.{[], ◌∷◌, ◌++◌, length, true, sym, ◌∙◌, subst}
use Rattle.std.specs.Prelude.{slice_set}
use Rattle.std.proofs.lemmas.List.{length-set}
use Rattle.barriers.specs.declared.aligner.Action.{Action}
use Rattle.barriers.specs.declared.aligner.Action.TheVariants.{Nothing, Block, SnapshotInline, SnapshotFront}
use Rattle.barriers.specs.Alignments.{Alignment, Came, AddsBarrier, Answers, AlignmentStandsFor, MayGive, action, alignment_next, barrier}
use Rattle.barriers.specs.Counts.{Counts, seen}
use Rattle.barriers.proofs.Aligning.{answers, goes_on}
use Rattle.barriers.proofs.Given.{adds_barrier}
use Rattle.barriers.proofs.Counting.{Stepped, counts, fronts, blocks, snapshots}
use Rattle.barriers.proofs.aligner.Aligner.on_barrier.Goals as goal

pub returns-then-self-clause-after : goal.returns-then-self-clause-after
returns-then-self-clause-after c = (counts c.self.inside.closed c.self.inside.missing c.self.inside.given.items c.self.inside.saving c.self.inside.saved.items c.args.self.now (barrier c.args.channel c.args.k c.args.kind) c.self.invariant c.self.view_is c.requires c.if-self.true).after_is

pub returns-then-self-clause-given : goal.returns-then-self-clause-given
returns-then-self-clause-given c =
    subst (AddsBarrier (barrier c.args.channel c.args.k c.args.kind) c.args.self.now) (sym (returns-then-self-clause-after c)) (adds_barrier c.args.self.now (barrier c.args.channel c.args.k c.args.kind) c.requires)

pub returns-then-self-clause-answers : goal.returns-then-self-clause-answers
returns-then-self-clause-answers c =
    subst (λ (x : Alignment). Answers (barrier c.args.channel c.args.k c.args.kind) c.args.self.now Nothing x) (sym (returns-then-self-clause-after c))
    (subst (λ (y : Action). Answers (barrier c.args.channel c.args.k c.args.kind) c.args.self.now y (alignment_next c.args.self.now (barrier c.args.channel c.args.k c.args.kind))) (sym (counts c.self.inside.closed c.self.inside.missing c.self.inside.given.items c.self.inside.saving c.self.inside.saved.items c.args.self.now (barrier c.args.channel c.args.k c.args.kind) c.self.invariant c.self.view_is c.requires c.if-self.true).action_is) (answers c.args.self.now (barrier c.args.channel c.args.k c.args.kind) c.requires))

pub returns-then-self-clause-stands : goal.returns-then-self-clause-stands
returns-then-self-clause-stands c channels events h =
    subst (AlignmentStandsFor channels (events ++ Came (barrier c.args.channel c.args.k c.args.kind) ∷ [])) (sym (returns-then-self-clause-after c)) (goes_on c.args.self.now (Came (barrier c.args.channel c.args.k c.args.kind)) c.requires channels events h)

pub invariant_of-self-then-self-gt0 : goal.invariant_of-self-then-self-gt0
invariant_of-self-then-self-gt0 c = (blocks c.self.inside.closed c.self.inside.missing c.self.inside.given.items c.self.inside.saving c.self.inside.saved.items c.args.self.now (barrier c.args.channel c.args.k c.args.kind) c.self.invariant c.self.view_is c.requires c.if-self.false c.in-Inline.is c.if-self-gt0.true).counts

pub returns-then-self-gt0-clause-action : goal.returns-then-self-gt0-clause-action
returns-then-self-gt0-clause-action c = (blocks c.self.inside.closed c.self.inside.missing c.self.inside.given.items c.self.inside.saving c.self.inside.saved.items c.args.self.now (barrier c.args.channel c.args.k c.args.kind) c.self.invariant c.self.view_is c.requires c.if-self.false c.in-Inline.is c.if-self-gt0.true).action_is

pub returns-then-self-gt0-clause-after : goal.returns-then-self-gt0-clause-after
returns-then-self-gt0-clause-after c = (blocks c.self.inside.closed c.self.inside.missing c.self.inside.given.items c.self.inside.saving c.self.inside.saved.items c.args.self.now (barrier c.args.channel c.args.k c.args.kind) c.self.invariant c.self.view_is c.requires c.if-self.false c.in-Inline.is c.if-self-gt0.true).after_is

pub returns-then-self-gt0-clause-given : goal.returns-then-self-gt0-clause-given
returns-then-self-gt0-clause-given c =
    subst (AddsBarrier (barrier c.args.channel c.args.k c.args.kind) c.args.self.now) (sym (returns-then-self-gt0-clause-after c)) (adds_barrier c.args.self.now (barrier c.args.channel c.args.k c.args.kind) c.requires)

pub returns-then-self-gt0-clause-answers : goal.returns-then-self-gt0-clause-answers
returns-then-self-gt0-clause-answers c =
    subst (λ (x : Alignment). Answers (barrier c.args.channel c.args.k c.args.kind) c.args.self.now Block x) (sym (returns-then-self-gt0-clause-after c))
    (subst (λ (y : Action). Answers (barrier c.args.channel c.args.k c.args.kind) c.args.self.now y (alignment_next c.args.self.now (barrier c.args.channel c.args.k c.args.kind))) (sym (blocks c.self.inside.closed c.self.inside.missing c.self.inside.given.items c.self.inside.saving c.self.inside.saved.items c.args.self.now (barrier c.args.channel c.args.k c.args.kind) c.self.invariant c.self.view_is c.requires c.if-self.false c.in-Inline.is c.if-self-gt0.true).action_is) (answers c.args.self.now (barrier c.args.channel c.args.k c.args.kind) c.requires))

pub returns-then-self-gt0-clause-stands : goal.returns-then-self-gt0-clause-stands
returns-then-self-gt0-clause-stands c channels events h =
    subst (AlignmentStandsFor channels (events ++ Came (barrier c.args.channel c.args.k c.args.kind) ∷ [])) (sym (returns-then-self-gt0-clause-after c)) (goes_on c.args.self.now (Came (barrier c.args.channel c.args.k c.args.kind)) c.requires channels events h)

pub invariant_of-self-in-Inline : goal.invariant_of-self-in-Inline
invariant_of-self-in-Inline c = subst (λ n. Counts c.args.k n (slice_set c.self.inside.given.items c.args.channel c.args.k) c.self.inside.saving c.self.inside.saved.items) (length-set c.self.inside.given.items c.args.channel c.args.k ∙ sym c.self.inside.given.ok.0 ∙ sym c.len.ensures)
    (snapshots c.self.inside.closed c.self.inside.missing c.self.inside.given.items c.self.inside.saving c.self.inside.saved.items c.args.self.now (barrier c.args.channel c.args.k c.args.kind) c.self.invariant c.self.view_is c.requires c.if-self.false c.in-Inline.is c.if-self-gt0.false).counts

pub returns-else-self-gt0-clause-action : goal.returns-else-self-gt0-clause-action
returns-else-self-gt0-clause-action c = (snapshots c.self.inside.closed c.self.inside.missing c.self.inside.given.items c.self.inside.saving c.self.inside.saved.items c.args.self.now (barrier c.args.channel c.args.k c.args.kind) c.self.invariant c.self.view_is c.requires c.if-self.false c.in-Inline.is c.if-self-gt0.false).action_is

pub returns-else-self-gt0-clause-after : goal.returns-else-self-gt0-clause-after
returns-else-self-gt0-clause-after c = (snapshots c.self.inside.closed c.self.inside.missing c.self.inside.given.items c.self.inside.saving c.self.inside.saved.items c.args.self.now (barrier c.args.channel c.args.k c.args.kind) c.self.invariant c.self.view_is c.requires c.if-self.false c.in-Inline.is c.if-self-gt0.false).after_is

pub returns-else-self-gt0-clause-given : goal.returns-else-self-gt0-clause-given
returns-else-self-gt0-clause-given c =
    subst (AddsBarrier (barrier c.args.channel c.args.k c.args.kind) c.args.self.now) (sym (returns-else-self-gt0-clause-after c)) (adds_barrier c.args.self.now (barrier c.args.channel c.args.k c.args.kind) c.requires)

pub returns-else-self-gt0-clause-answers : goal.returns-else-self-gt0-clause-answers
returns-else-self-gt0-clause-answers c =
    subst (λ (x : Alignment). Answers (barrier c.args.channel c.args.k c.args.kind) c.args.self.now (SnapshotInline c.args.k) x) (sym (returns-else-self-gt0-clause-after c))
    (subst (λ (y : Action). Answers (barrier c.args.channel c.args.k c.args.kind) c.args.self.now y (alignment_next c.args.self.now (barrier c.args.channel c.args.k c.args.kind))) (sym (snapshots c.self.inside.closed c.self.inside.missing c.self.inside.given.items c.self.inside.saving c.self.inside.saved.items c.args.self.now (barrier c.args.channel c.args.k c.args.kind) c.self.invariant c.self.view_is c.requires c.if-self.false c.in-Inline.is c.if-self-gt0.false).action_is) (answers c.args.self.now (barrier c.args.channel c.args.k c.args.kind) c.requires))

pub returns-else-self-gt0-clause-stands : goal.returns-else-self-gt0-clause-stands
returns-else-self-gt0-clause-stands c channels events h =
    subst (AlignmentStandsFor channels (events ++ Came (barrier c.args.channel c.args.k c.args.kind) ∷ [])) (sym (returns-else-self-gt0-clause-after c)) (goes_on c.args.self.now (Came (barrier c.args.channel c.args.k c.args.kind)) c.requires channels events h)

pub invariant_of-self-in-Front : goal.invariant_of-self-in-Front
invariant_of-self-in-Front c = subst (λ n. Counts c.self.inside.closed n (slice_set c.self.inside.given.items c.args.channel c.args.k) true c.self.inside.saved.items) (length-set c.self.inside.given.items c.args.channel c.args.k ∙ sym c.self.inside.given.ok.0 ∙ sym c.len-in-Front.ensures)
    (fronts c.self.inside.closed c.self.inside.missing c.self.inside.given.items c.self.inside.saving c.self.inside.saved.items c.args.self.now (barrier c.args.channel c.args.k c.args.kind) c.self.invariant c.self.view_is c.requires c.if-self.false c.in-Front.is).counts

pub returns-in-Front-clause-after : goal.returns-in-Front-clause-after
returns-in-Front-clause-after c = (fronts c.self.inside.closed c.self.inside.missing c.self.inside.given.items c.self.inside.saving c.self.inside.saved.items c.args.self.now (barrier c.args.channel c.args.k c.args.kind) c.self.invariant c.self.view_is c.requires c.if-self.false c.in-Front.is).after_is

pub returns-in-Front-clause-given : goal.returns-in-Front-clause-given
returns-in-Front-clause-given c =
    subst (AddsBarrier (barrier c.args.channel c.args.k c.args.kind) c.args.self.now) (sym (returns-in-Front-clause-after c)) (adds_barrier c.args.self.now (barrier c.args.channel c.args.k c.args.kind) c.requires)

pub returns-in-Front-clause-answers : goal.returns-in-Front-clause-answers
returns-in-Front-clause-answers c =
    subst (λ (x : Alignment). Answers (barrier c.args.channel c.args.k c.args.kind) c.args.self.now (SnapshotFront c.args.k) x) (sym (returns-in-Front-clause-after c))
    (subst (λ (y : Action). Answers (barrier c.args.channel c.args.k c.args.kind) c.args.self.now y (alignment_next c.args.self.now (barrier c.args.channel c.args.k c.args.kind))) (sym (fronts c.self.inside.closed c.self.inside.missing c.self.inside.given.items c.self.inside.saving c.self.inside.saved.items c.args.self.now (barrier c.args.channel c.args.k c.args.kind) c.self.invariant c.self.view_is c.requires c.if-self.false c.in-Front.is).action_is) (answers c.args.self.now (barrier c.args.channel c.args.k c.args.kind) c.requires))

pub returns-in-Front-clause-stands : goal.returns-in-Front-clause-stands
returns-in-Front-clause-stands c channels events h =
    subst (AlignmentStandsFor channels (events ++ Came (barrier c.args.channel c.args.k c.args.kind) ∷ [])) (sym (returns-in-Front-clause-after c)) (goes_on c.args.self.now (Came (barrier c.args.channel c.args.k c.args.kind)) c.requires channels events h)
