-- The laws of the channels saved.
use Rattle.std.proofs.Common.{◌≡◌, ◌↔◌, ℕ, ◌+◌, ◌<◌, true, false, cond, [], ◌∷◌, ◌++◌, length, refl, sym, ◌∙◌, subst, true≢false}
use Rattle.std.proofs.lemmas.List.{length-set}
use Rattle.barriers.specs.declared.aligner.Action.TheVariants.{Nothing, Done}
use Rattle.barriers.specs.Alignments.{Saved, saved_with, is_last_saved}
use Rattle.barriers.specs.Laws.{was_saved, SavesFollowBarriers, DoneWithLast}
use Rattle.barriers.proofs.Flags.{all_at, all_from}
use Rattle.barriers.proofs.Events.{told, saves_with}

pub saves_follow_barriers : SavesFollowBarriers
saves_follow_barriers channels events a h = (told channels events a h).behind

pub done_with_last : DoneWithLast
done_with_last channels events a channel h may =
    let t = told channels events a h in
    let width : length (saved_with a channel) ≡ channels = length-set a.saved channel true ∙ t.saved_of_each in
    let tells = saves_with channels events a channel t may in
    elim (is_last_saved a channel) as (λ l. is_last_saved a channel ≡ l → (cond l (Done (a.closed + 1)) Nothing ≡ Done (a.closed + 1)) ↔ ((c : ℕ) → c < channels → was_saved c (a.closed + 1) (events ++ Saved channel (a.closed + 1) ∷ []) ≡ true)) [
      | true ↦ λ last. (λ e c lt. tells c lt ∙ all_at (saved_with a channel) c (subst (λ n. c < n) (sym width) lt) last, λ all. refl)
      | false ↦ λ more. (
        λ e. absurd (cc),
        λ all. absurd (true≢false (sym (all_from (saved_with a channel) (λ c lt. let lt' = subst (λ n. c < n) width lt in sym (tells c lt') ∙ all c lt')) ∙ more)),
      )
    ] refl
