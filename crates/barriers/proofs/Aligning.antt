-- What an aligner answers to a barrier and to the saved bytes of a channel, and one event more.
use Rattle.std.proofs.Common.{◌≡◌, ℕ, zero, suc, ◌+◌, ◌<◌, Bool, true, false, cond, ◌||◌, List, [], ◌∷◌, ◌++◌, length, refl, sym, ap, ◌∙◌, subst, arith}
use Rattle.std.specs.Prelude.{slice_set}
use Rattle.std.specs.List.{list_any}
use Rattle.std.proofs.lemmas.Option.{slice_get_within}
use Rattle.flow_defs.specs.declared.task.BarrierKind.TheVariants.{Inline, Front}
use Rattle.barriers.specs.declared.aligner.Action.TheVariants.{Nothing, Block, SnapshotInline, SnapshotFront, Done}
use Rattle.barriers.specs.Alignments.{Barrier, Alignment, Event, MayGive, MayHappen, MayAllHappen, AlignmentStandsFor, Answers, AnswersSaved, action, action_saved, alignment_next, after_all, after_saved, event_next, unaligned, gave_with, is_front, is_last, is_last_saved, none_of}
use Rattle.barriers.proofs.Given.{counted, opened, closing, resaved, done}

pub any_set : (gave : List Bool) (i : ℕ) → i < length gave → list_any (λ g. g) (slice_set gave i true) ≡ true
any_set [] i h = absurd (omega arith)
any_set (g ∷ gave) zero h = refl
any_set (true ∷ gave) (suc i) h = refl
any_set (false ∷ gave) (suc i) h = any_set gave i (omega arith)

pub any_false : (gave : List Bool) → list_any (λ g. g) (none_of gave) ≡ false
any_false [] = refl
any_false (g ∷ gave) = any_false gave

-- ---- a barrier

answers_inline : (a : Alignment) (b : Barrier) → MayGive a b → a.saving ≡ false → b.kind ≡ Inline →
    Answers b a (cond (is_last a b) (SnapshotInline b.number) Block) (cond (is_last a b) (closing a b) (counted a b))
answers_inline a b may off kind =
    elim (is_last a b) as (λ t. Answers b a (cond t (SnapshotInline b.number) Block) (cond t (closing a b) (counted a b))) [
      | true ↦ (kind, refl, refl, ap (λ s. s || list_any (λ g. g) (none_of a.gave)) off ∙ any_false a.gave)
      | false ↦ (kind, refl, ap (λ s. s || list_any (λ g. g) (gave_with a b)) off ∙ any_set a.gave b.channel (slice_get_within a.gave b.channel false may.once), off)
    ]

pub answers : (a : Alignment) (b : Barrier) → MayGive a b → Answers b a (action a b) (alignment_next a b)
answers a b may =
    elim a.saving as (λ s. a.saving ≡ s → Answers b a (cond s Nothing (cond (is_front b.kind) (SnapshotFront b.number) (cond (is_last a b) (SnapshotInline b.number) Block))) (cond s (counted a b) (cond (is_front b.kind) (opened a b) (cond (is_last a b) (closing a b) (counted a b))))) [
      | true ↦ λ on. (on, refl)
      | false ↦ λ off. elim b.kind as (λ kind. b.kind ≡ kind → Answers b a (cond (is_front kind) (SnapshotFront b.number) (cond (is_last a b) (SnapshotInline b.number) Block)) (cond (is_front kind) (opened a b) (cond (is_last a b) (closing a b) (counted a b)))) [
        | Inline ↦ λ is. answers_inline a b may off is
        | Front ↦ λ is. (is, refl, refl)
      ] refl
    ] refl

-- ---- the saved bytes of a channel

pub answers_saved : (a : Alignment) (channel : ℕ) → AnswersSaved channel a (action_saved a channel) (after_saved a channel)
answers_saved a channel =
    elim (is_last_saved a channel) as (λ t. AnswersSaved channel a (cond t (Done (a.closed + 1)) Nothing) (cond t (done a) (resaved a channel))) [
      | true ↦ (refl, refl, any_false a.gave)
      | false ↦ refl
    ]

-- ---- one event more

pub after_one_more : (a : Alignment) (events : List Event) (event : Event) → after_all a (events ++ event ∷ []) ≡ event_next (after_all a events) event
after_one_more a [] event = refl
after_one_more a (first ∷ events) event = after_one_more (event_next a first) events event

pub may_one_more : (a : Alignment) (events : List Event) (event : Event) → MayAllHappen a events → MayHappen (after_all a events) event → MayAllHappen a (events ++ event ∷ [])
may_one_more a [] event h may = (may, tt)
may_one_more a (first ∷ events) event h may = (h.0, may_one_more (event_next a first) events event h.1 may)

pub goes_on : (a : Alignment) (event : Event) → MayHappen a event → (channels : ℕ) (events : List Event) → AlignmentStandsFor channels events a → AlignmentStandsFor channels (events ++ event ∷ []) (event_next a event)
goes_on a event may channels events h =
    record {
      some = h.some;
      may = may_one_more (unaligned channels) events event h.may (subst (λ x. MayHappen x event) (sym h.is) may);
      is = after_one_more (unaligned channels) events event ∙ ap (λ x. event_next x event) h.is;
    }
