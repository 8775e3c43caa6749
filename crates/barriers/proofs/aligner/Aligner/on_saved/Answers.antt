use Rattle.std.proofs.Common.{[], ◌∷◌, ◌++◌, ◌+◌, length, false, refl, sym, ◌∙◌, subst}
use Rattle.std.specs.Prelude.{slice_set}
use Rattle.barriers.specs.declared.aligner.Action.{Action}
use Rattle.barriers.specs.declared.aligner.Action.TheVariants.{Nothing, Done}
use Rattle.barriers.specs.Alignments.{Alignment, Saved, KeepsBarriers, AnswersSaved, AlignmentStandsFor, MayBeSaved, action_saved, after_saved}
use Rattle.barriers.specs.Counts.{Counts}
use Rattle.barriers.proofs.Aligning.{answers_saved, goes_on}
use Rattle.barriers.proofs.Given.{keeps_barriers}
use Rattle.barriers.proofs.Counting.{saves, finishes, saves_are_behind, saved_as_many}
use Rattle.barriers.proofs.aligner.Aligner.on_saved.Goals as goal

pub invariant_of-self : goal.invariant_of-self
invariant_of-self c = subst (λ n. Counts c.index-k.result.now n c.self.inside.given.items false (slice_set c.self.inside.saved.items c.args.channel c.index-k.result.now)) (sym c.self.inside.given.ok.0 ∙ sym c.len.ensures)
    (finishes c.self.inside.closed c.self.inside.missing c.self.inside.given.items c.self.inside.saving c.self.inside.saved.items c.args.self.now c.args.channel c.index-k.result.now c.self.invariant c.self.view_is c.requires c.index-k.ensures c.if-self-eq0.true).counts

pub returns-then-self-eq0-clause-action : goal.returns-then-self-eq0-clause-action
returns-then-self-eq0-clause-action c = (finishes c.self.inside.closed c.self.inside.missing c.self.inside.given.items c.self.inside.saving c.self.inside.saved.items c.args.self.now c.args.channel c.index-k.result.now c.self.invariant c.self.view_is c.requires c.index-k.ensures c.if-self-eq0.true).action_is

pub returns-then-self-eq0-clause-after : goal.returns-then-self-eq0-clause-after
returns-then-self-eq0-clause-after c = (finishes c.self.inside.closed c.self.inside.missing c.self.inside.given.items c.self.inside.saving c.self.inside.saved.items c.args.self.now c.args.channel c.index-k.result.now c.self.invariant c.self.view_is c.requires c.index-k.ensures c.if-self-eq0.true).after_is

pub returns-then-self-eq0-clause-given : goal.returns-then-self-eq0-clause-given
returns-then-self-eq0-clause-given c =
    subst (KeepsBarriers c.args.self.now) (sym (returns-then-self-eq0-clause-after c)) (keeps_barriers c.args.self.now c.args.channel (saves_are_behind c.self.inside.closed c.self.inside.missing c.self.inside.given.items c.self.inside.saving c.self.inside.saved.items c.args.self.now c.args.channel c.self.invariant c.self.view_is c.requires) c.requires
    (saved_as_many c.self.inside.closed c.self.inside.missing c.self.inside.given.items c.self.inside.saving c.self.inside.saved.items c.args.self.now c.self.invariant c.self.view_is))

pub returns-then-self-eq0-clause-answers : goal.returns-then-self-eq0-clause-answers
returns-then-self-eq0-clause-answers c =
    subst (λ (x : Alignment). AnswersSaved c.args.channel c.args.self.now (Done c.index-k.result.now) x) (sym (returns-then-self-eq0-clause-after c))
    (subst (λ (y : Action). AnswersSaved c.args.channel c.args.self.now y (after_saved c.args.self.now c.args.channel)) (sym (finishes c.self.inside.closed c.self.inside.missing c.self.inside.given.items c.self.inside.saving c.self.inside.saved.items c.args.self.now c.args.channel c.index-k.result.now c.self.invariant c.self.view_is c.requires c.index-k.ensures c.if-self-eq0.true).action_is) (answers_saved c.args.self.now c.args.channel))

pub returns-then-self-eq0-clause-stands : goal.returns-then-self-eq0-clause-stands
returns-then-self-eq0-clause-stands c channels events h =
    subst (AlignmentStandsFor channels (events ++ Saved c.args.channel (c.args.self.now.closed + 1) ∷ [])) (sym (returns-then-self-eq0-clause-after c)) (goes_on c.args.self.now (Saved c.args.channel (c.args.self.now.closed + 1)) (c.requires, refl) channels events h)

pub invariant_of-self-else-self-eq0 : goal.invariant_of-self-else-self-eq0
invariant_of-self-else-self-eq0 c = (saves c.self.inside.closed c.self.inside.missing c.self.inside.given.items c.self.inside.saving c.self.inside.saved.items c.args.self.now c.args.channel c.index-k.result.now c.self.invariant c.self.view_is c.requires c.index-k.ensures c.if-self-eq0.false).counts

pub returns-clause-action : goal.returns-clause-action
returns-clause-action c = (saves c.self.inside.closed c.self.inside.missing c.self.inside.given.items c.self.inside.saving c.self.inside.saved.items c.args.self.now c.args.channel c.index-k.result.now c.self.invariant c.self.view_is c.requires c.index-k.ensures c.if-self-eq0.false).action_is

pub returns-clause-after : goal.returns-clause-after
returns-clause-after c = (saves c.self.inside.closed c.self.inside.missing c.self.inside.given.items c.self.inside.saving c.self.inside.saved.items c.args.self.now c.args.channel c.index-k.result.now c.self.invariant c.self.view_is c.requires c.index-k.ensures c.if-self-eq0.false).after_is

pub returns-clause-answers : goal.returns-clause-answers
returns-clause-answers c =
    subst (λ (x : Alignment). AnswersSaved c.args.channel c.args.self.now Nothing x) (sym (returns-clause-after c))
    (subst (λ (y : Action). AnswersSaved c.args.channel c.args.self.now y (after_saved c.args.self.now c.args.channel)) (sym (saves c.self.inside.closed c.self.inside.missing c.self.inside.given.items c.self.inside.saving c.self.inside.saved.items c.args.self.now c.args.channel c.index-k.result.now c.self.invariant c.self.view_is c.requires c.index-k.ensures c.if-self-eq0.false).action_is) (answers_saved c.args.self.now c.args.channel))

pub returns-clause-stands : goal.returns-clause-stands
returns-clause-stands c channels events h =
    subst (AlignmentStandsFor channels (events ++ Saved c.args.channel (c.args.self.now.closed + 1) ∷ [])) (sym (returns-clause-after c)) (goes_on c.args.self.now (Saved c.args.channel (c.args.self.now.closed + 1)) (c.requires, refl) channels events h)
