-- How many barriers each channel has given, through each event.
use Rattle.std.proofs.Common.{◌≡◌, ℕ, suc, ◌+◌, ◌<◌, true, false, cond, eqb, get_or, length, refl, sym, ap, ◌∙◌, subst, arith}
use Rattle.std.specs.Prelude.{◌||◌}
use Rattle.std.proofs.lemmas.Bool.{eqb-true}
use Rattle.std.proofs.lemmas.List.{length-map, length-set}
use Rattle.std.proofs.lemmas.Option.{get_or_from_slice_get, slice_get_within}
use Rattle.barriers.specs.Alignments.{Barrier, Alignment, MayGive, MayBeSaved, AddsBarrier, KeepsBarriers, alignment_next, after_saved, none_of, given_by, gave_with, is_front, is_last, saved_with, is_last_saved}
use Rattle.barriers.specs.Laws.{SavesAreBehind}
use Rattle.barriers.proofs.Flags.{none_at, all_at, set_at}

-- the alignment with a barrier counted, with the first front one, and with the last inline one
abbrev pub counted : Alignment → Barrier → Alignment
counted a b = record a { gave = gave_with a b }

abbrev pub opened : Alignment → Barrier → Alignment
opened a b = record a { gave = gave_with a b; saving = true; saved = none_of a.saved }

abbrev pub closing : Alignment → Barrier → Alignment
closing a b = record a { closed = b.number; gave = none_of a.gave }

-- with a channel saved, and with the last one
abbrev pub resaved : Alignment → ℕ → Alignment
resaved a channel = record a { saved = saved_with a channel }

abbrev pub done : Alignment → Alignment
done a = record { closed = a.closed + 1; gave = none_of a.gave; saving = false; saved = none_of a.saved }

plus_zero : (n : ℕ) → n + 0 ≡ n
plus_zero n = omega arith

-- ---- a barrier

module _ (a : Alignment) (b : Barrier) (may : MayGive a b) where
  -- the barrier that comes is the one after those that its channel has given
  pub number_is_next : b.number ≡ suc (given_by a b.channel)
  number_is_next =
      let none : get_or a.gave b.channel false ≡ false = get_or_from_slice_get a.gave b.channel false false may.once in
      let given : given_by a b.channel ≡ a.closed = ap (λ g. a.closed + cond g 1 0) none ∙ plus_zero a.closed in
      let number = may.number in omega arith

  pub given_counted : (c : ℕ) → given_by (counted a b) c ≡ cond (eqb c b.channel) b.number (given_by a c)
  given_counted c =
      ap (λ g. a.closed + cond g 1 0) (set_at a.gave b.channel c (slice_get_within a.gave b.channel false may.once)) ∙
      (elim (eqb c b.channel) as (λ s. a.closed + cond (s || get_or a.gave c false) 1 0 ≡ cond s b.number (given_by a c)) [ true ↦ sym may.number | false ↦ refl ])

  pub given_closing : is_last a b ≡ true → (c : ℕ) → c < length a.gave → given_by (closing a b) c ≡ cond (eqb c b.channel) b.number (given_by a c)
  given_closing last c lt =
      let new : given_by (closing a b) c ≡ b.number = ap (λ g. b.number + cond g 1 0) (none_at a.gave c) ∙ plus_zero b.number in
      let each : get_or (gave_with a b) c false ≡ true = all_at (gave_with a b) c (subst (λ n. c < n) (sym (length-set a.gave b.channel true)) lt) last in
      let same : cond (eqb c b.channel) b.number (given_by a c) ≡ a.closed + 1 = sym (given_counted c) ∙ ap (λ g. a.closed + cond g 1 0) each in
      new ∙ may.number ∙ sym same

  pub adds_barrier : AddsBarrier b a (alignment_next a b)
  adds_barrier =
      elim a.saving as (λ s. AddsBarrier b a (cond s (counted a b) (cond (is_front b.kind) (opened a b) (cond (is_last a b) (closing a b) (counted a b))))) [
        | true ↦ record { channels = length-set a.gave b.channel true; given = λ c lt. given_counted c }
        | false ↦
            elim (is_front b.kind) as (λ f. AddsBarrier b a (cond f (opened a b) (cond (is_last a b) (closing a b) (counted a b)))) [
              | true ↦ record { channels = length-set a.gave b.channel true; given = λ c lt. given_counted c }
              | false ↦
                  elim (is_last a b) as (λ l. is_last a b ≡ l → AddsBarrier b a (cond l (closing a b) (counted a b))) [
                    | true ↦ λ last. record { channels = length-map a.gave (λ g. false); given = given_closing last }
                    | false ↦ λ more. record { channels = length-set a.gave b.channel true; given = λ c lt. given_counted c }
                  ] refl
            ]
      ]

-- ---- a channel saved

module _ (a : Alignment) (channel : ℕ) (behind : SavesAreBehind a) (may : MayBeSaved a channel) where
  pub gave_where_saved : (c : ℕ) → get_or (saved_with a channel) c false ≡ true → get_or a.gave c false ≡ true
  gave_where_saved c is =
      elim (eqb c channel) as (λ s. eqb c channel ≡ s → get_or a.gave c false ≡ true) [
        | true ↦ λ here. ap (λ i. get_or a.gave i false) (eqb-true c channel here) ∙ get_or_from_slice_get a.gave channel true false may.gave
        | false ↦ λ elsewhere. (behind c (ap (λ x. x || get_or a.saved c false) (sym elsewhere) ∙ sym (set_at a.saved channel c (slice_get_within a.saved channel false may.once)) ∙ is)).1
      ] refl

  pub given_done : is_last_saved a channel ≡ true → (c : ℕ) → c < length a.saved → given_by (done a) c ≡ given_by a c
  given_done last c lt =
      let each : get_or (saved_with a channel) c false ≡ true = all_at (saved_with a channel) c (subst (λ n. c < n) (sym (length-set a.saved channel true)) lt) last in
      ap (λ g. a.closed + 1 + cond g 1 0) (none_at a.gave c) ∙ plus_zero (a.closed + 1) ∙ ap (λ g. a.closed + cond g 1 0) (sym (gave_where_saved c each))

  pub keeps_barriers : length a.saved ≡ length a.gave → KeepsBarriers a (after_saved a channel)
  keeps_barriers as_many =
      elim (is_last_saved a channel) as (λ l. is_last_saved a channel ≡ l → KeepsBarriers a (cond l (done a) (resaved a channel))) [
        | true ↦ λ last. record { channels = length-map a.gave (λ g. false); given = λ c lt. given_done last c (subst (λ n. c < n) (sym as_many) lt) }
        | false ↦ λ more. record { channels = refl; given = λ c lt. refl }
      ] refl
