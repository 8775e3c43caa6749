-- The laws of the barriers that came.
use Rattle.std.proofs.Common.{◌≡◌, ◌↔◌, ℕ, zero, suc, ◌+◌, ◌<◌, Bool, true, false, cond, get_or, List, [], ◌∷◌, ◌++◌, length, refl, sym, ap, ◌∙◌, subst, length-append, true≢false, arith}
use Rattle.std.specs.Prelude.{◌||◌}
use Rattle.std.proofs.lemmas.List.{length-set}
use Rattle.flow_defs.specs.declared.task.BarrierKind.{BarrierKind}
use Rattle.flow_defs.specs.declared.task.BarrierKind.TheVariants.{Inline, Front}
use Rattle.barriers.specs.declared.aligner.Action.TheVariants.{Nothing, Block, SnapshotInline, SnapshotFront}
use Rattle.barriers.specs.Alignments.{Barrier, Alignment, Event, Came, MayGive, AlignmentStandsFor, action, given_by, gave_with, is_front, is_last}
use Rattle.barriers.specs.Laws.{counting, has_front, AllGave, NumbersCountUp, SnapshotsWithLast, SnapshotsAtFirstFront, NothingBehindFront}
use Rattle.barriers.proofs.Flags.{none_at, all_from, or_false}
use Rattle.barriers.proofs.Given.{counted, closing}
use Rattle.barriers.proofs.Events.{told, told_counted, told_closing, front_next}

pub numbers_count_up : NumbersCountUp
numbers_count_up channels events a h = (told channels events a h).numbers

-- ---- the kind

front_kind : (kind : BarrierKind) → is_front kind ≡ true → kind ≡ Front
front_kind Inline e = absurd (true≢false (sym e))
front_kind Front e = refl

is_front_kind : (kind : BarrierKind) → kind ≡ Front → is_front kind ≡ true
is_front_kind kind e = ap is_front e

-- ---- the numbers given

length_counting : (n : ℕ) → length (counting n) ≡ n
length_counting zero = refl
length_counting (suc n) = length-append (counting n) (suc n ∷ []) ∙ omega (arith, length_counting n)

-- the numbers given are those up to k alone where k are given
counting_same : (m n : ℕ) → counting m ≡ counting n → m ≡ n
counting_same m n e = sym (length_counting m) ∙ ap length e ∙ length_counting n

one_is_true : (g : Bool) (n : ℕ) → n + cond g 1 0 ≡ n + 1 → g ≡ true
one_is_true true n e = refl
one_is_true false n e = absurd (omega arith)

-- where all have given a barrier, it was the last
last_where_all : (channels : ℕ) (a : Alignment) (b : Barrier) → MayGive a b → length a.gave ≡ channels → ((c : ℕ) → c < channels → given_by (counted a b) c ≡ b.number) → is_last a b ≡ true
last_where_all channels a b may width all =
    all_from (gave_with a b) (λ c lt. one_is_true (get_or (gave_with a b) c false) a.closed (all c (subst (λ n. c < n) (length-set a.gave b.channel true ∙ width) lt) ∙ may.number))

given_closed : (a : Alignment) (b : Barrier) (c : ℕ) → given_by (closing a b) c ≡ b.number
given_closed a b c =
    let none : given_by (closing a b) c ≡ b.number + 0 = ap (λ g. b.number + cond g 1 0) (none_at a.gave c) in
    omega arith

-- ---- what the answer is, by what came

module _ (channels : ℕ) (events : List Event) (a : Alignment) (b : Barrier) (h : AlignmentStandsFor channels events a) (may : MayGive a b) where
  before : has_front b.number events ≡ a.saving
  before = ap (λ k. has_front k events) may.number ∙ (told channels events a h).front

  nothing_behind : (action a b ≡ Nothing) ↔ (has_front b.number events ≡ true)
  nothing_behind =
      elim a.saving as (λ s. has_front b.number events ≡ s → (cond s Nothing (cond (is_front b.kind) (SnapshotFront b.number) (cond (is_last a b) (SnapshotInline b.number) Block)) ≡ Nothing) ↔ (has_front b.number events ≡ true)) [
        | true ↦ λ saving. (λ e. saving, λ front. refl)
        | false ↦ λ still.
            elim (is_front b.kind) as (λ f. (cond f (SnapshotFront b.number) (cond (is_last a b) (SnapshotInline b.number) Block) ≡ Nothing) ↔ (has_front b.number events ≡ true)) [
              | true ↦ (λ e. absurd (cc), λ front. absurd (true≢false (sym front ∙ still)))
              | false ↦
                  elim (is_last a b) as (λ l. (cond l (SnapshotInline b.number) Block ≡ Nothing) ↔ (has_front b.number events ≡ true)) [
                    | true ↦ (λ e. absurd (cc), λ front. absurd (true≢false (sym front ∙ still)))
                    | false ↦ (λ e. absurd (cc), λ front. absurd (true≢false (sym front ∙ still)))
                  ]
            ]
      ] before

  snapshots_first : (action a b ≡ SnapshotFront b.number) ↔ ((b.kind ≡ Front) × (has_front b.number events ≡ false))
  snapshots_first =
      elim a.saving as (λ s. has_front b.number events ≡ s → (cond s Nothing (cond (is_front b.kind) (SnapshotFront b.number) (cond (is_last a b) (SnapshotInline b.number) Block)) ≡ SnapshotFront b.number) ↔ ((b.kind ≡ Front) × (has_front b.number events ≡ false))) [
        | true ↦ λ saving. (λ e. absurd (cc), λ first. absurd (true≢false (sym saving ∙ first.1)))
        | false ↦ λ still.
            elim (is_front b.kind) as (λ f. is_front b.kind ≡ f → (cond f (SnapshotFront b.number) (cond (is_last a b) (SnapshotInline b.number) Block) ≡ SnapshotFront b.number) ↔ ((b.kind ≡ Front) × (has_front b.number events ≡ false))) [
              | true ↦ λ front. (λ e. (front_kind b.kind front, still), λ first. refl)
              | false ↦ λ inline.
                  elim (is_last a b) as (λ l. (cond l (SnapshotInline b.number) Block ≡ SnapshotFront b.number) ↔ ((b.kind ≡ Front) × (has_front b.number events ≡ false))) [
                    | true ↦ (λ e. absurd (cc), λ first. absurd (true≢false (sym (is_front_kind b.kind first.0) ∙ inline)))
                    | false ↦ (λ e. absurd (cc), λ first. absurd (true≢false (sym (is_front_kind b.kind first.0) ∙ inline)))
                  ]
            ] refl
      ] before

  fronts_with : has_front b.number (events ++ Came b ∷ []) ≡ (a.saving || is_front b.kind)
  fronts_with = ap (λ k. has_front k (events ++ Came b ∷ [])) may.number ∙ front_next channels events a b (told channels events a h) may

  all_where_last : a.saving ≡ false → is_last a b ≡ true → AllGave channels b.number (events ++ Came b ∷ [])
  all_where_last still last c lt = (told_closing channels events a b (told channels events a h) may still last).numbers c lt ∙ ap counting (given_closed a b c)

  not_all : a.saving ≡ false → is_front b.kind ≡ false → is_last a b ≡ false → AllGave channels b.number (events ++ Came b ∷ []) → ⊥
  not_all still inline more all =
      let t = told channels events a h in
      let kept : (a.saving || is_front b.kind) ≡ a.saving = ap (λ x. a.saving || x) inline ∙ or_false a.saving in
      let last : is_last a b ≡ true = last_where_all channels a b may t.gave_of_each
      (λ c lt. counting_same (given_by (counted a b) c) b.number (sym ((told_counted channels events a b t may kept).numbers c lt) ∙ all c lt)) in
      true≢false (sym last ∙ more)

  snapshots_last : (action a b ≡ SnapshotInline b.number) ↔ (AllGave channels b.number (events ++ Came b ∷ []) × (has_front b.number (events ++ Came b ∷ []) ≡ false))
  snapshots_last =
      elim a.saving as (λ s. a.saving ≡ s → has_front b.number (events ++ Came b ∷ []) ≡ (s || is_front b.kind) →
      (cond s Nothing (cond (is_front b.kind) (SnapshotFront b.number) (cond (is_last a b) (SnapshotInline b.number) Block)) ≡ SnapshotInline b.number) ↔ (AllGave channels b.number (events ++ Came b ∷ []) × (has_front b.number (events ++ Came b ∷ []) ≡ false))) [
        | true ↦ λ saving fronts. (λ e. absurd (cc), λ whole. absurd (true≢false (sym fronts ∙ whole.1)))
        | false ↦ λ still fronts.
            elim (is_front b.kind) as (λ f. is_front b.kind ≡ f → has_front b.number (events ++ Came b ∷ []) ≡ f →
            (cond f (SnapshotFront b.number) (cond (is_last a b) (SnapshotInline b.number) Block) ≡ SnapshotInline b.number) ↔ (AllGave channels b.number (events ++ Came b ∷ []) × (has_front b.number (events ++ Came b ∷ []) ≡ false))) [
              | true ↦ λ front came. (λ e. absurd (cc), λ whole. absurd (true≢false (sym came ∙ whole.1)))
              | false ↦ λ inline none.
                  elim (is_last a b) as (λ l. is_last a b ≡ l →
                  (cond l (SnapshotInline b.number) Block ≡ SnapshotInline b.number) ↔ (AllGave channels b.number (events ++ Came b ∷ []) × (has_front b.number (events ++ Came b ∷ []) ≡ false))) [
                    | true ↦ λ last. (λ e. (all_where_last still last, none), λ whole. refl)
                    | false ↦ λ more. (λ e. absurd (cc), λ whole. absurd (not_all still inline more whole.0))
                  ] refl
            ] refl fronts
      ] refl fronts_with

pub nothing_behind_front : NothingBehindFront
nothing_behind_front = nothing_behind

pub snapshots_at_first_front : SnapshotsAtFirstFront
snapshots_at_first_front = snapshots_first

pub snapshots_with_last : SnapshotsWithLast
snapshots_with_last = snapshots_last
