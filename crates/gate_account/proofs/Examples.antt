-- The definitions on a gate of two channels: a record in flight on the first one is given, then a barrier of each, and both are resumed.
use Rattle.std.proofs.Common.{◌≡◌, ◌≢◌, ℕ, zero, suc, true, false, List, [], ◌∷◌, refl, ap, ne_eqb, arith}
use Rattle.std.specs.Prelude.{if◌then◌else◌, ◌==◌}
use Rattle.flow_defs.specs.declared.task.BarrierKind.{BarrierKind}
use Rattle.flow_defs.specs.declared.task.BarrierKind.TheVariants.{Inline, Front}
use Rattle.barriers.specs.Alignments.{Alignment, barrier, alignment_next, unaligned}
use Rattle.channel_cut.specs.Cuts.{Cut, InLine}
use Rattle.gate_account.specs.Accounts.{Account, IsNew, GaveOf, GaveBarrier, Resumed, ResumedAll}
use Rattle.gate_account.specs.Taking.{AreApart, IsTaking, IsAtSnapshot}
use Rattle.gate_account.proofs.Takings.{keeps_all, new_is_taking, takes_line, takes_barrier, takes_last_barrier, goes_on_aligned, taking_is_cut}

-- ---- the gate

abbrev flight : ℕ → List ℕ
flight zero = 0 ∷ 0 ∷ 0 ∷ 1 ∷ 7 ∷ []
flight (suc c) = []

abbrev line : ℕ → List (List ℕ)
line zero = (7 ∷ []) ∷ []
line (suc c) = []

abbrev first : ℕ → List (ℕ × BarrierKind)
first zero = (1, Inline) ∷ []
first (suc c) = []

abbrev both : ℕ → List (ℕ × BarrierKind)
both zero = (1, Inline) ∷ []
both (suc zero) = (1, Inline) ∷ []
both (suc (suc c)) = []

abbrev gate_of : (ℕ → List (List ℕ)) → (ℕ → List (ℕ × BarrierKind)) → (ℕ → ℕ) → (ℕ → List ℕ) → Account
gate_of lines barriers resumed left = record { channels = 2; lines = lines; barriers = barriers; resumed = resumed; ended = λ c. false; left = left }

abbrev fresh : Account
fresh = gate_of (λ c. []) (λ c. []) (λ c. 0) flight

abbrev with_line : Account
with_line = gate_of line (λ c. []) (λ c. 0) (λ c. [])

abbrev with_first : Account
with_first = gate_of line first (λ c. 0) (λ c. [])

abbrev with_both : Account
with_both = gate_of line both (λ c. 0) (λ c. [])

abbrev with_one_resumed : Account
with_one_resumed = gate_of line both (λ c. if c == 0 then 1 else 0) (λ c. [])

abbrev with_all_resumed : Account
with_all_resumed = gate_of line both (λ c. 1) (λ c. [])

-- it shows that barrier 1 cut each channel behind its lines
abbrev shows : ℕ → Cut → Type 0
shows c (InLine k lines) = (k ≡ 1) × (lines ≡ line c)

-- ---- its calls

line_elsewhere : (d : ℕ) → d ≢ 0 → line d ≡ []
line_elsewhere zero other = absurd (other refl)
line_elsewhere (suc d) other = refl

first_elsewhere : (d : ℕ) → d ≢ 0 → first d ≡ []
first_elsewhere zero other = absurd (other refl)
first_elsewhere (suc d) other = refl

both_elsewhere : (d : ℕ) → d ≢ 1 → both d ≡ first d
both_elsewhere zero other = refl
both_elsewhere (suc zero) other = absurd (other refl)
both_elsewhere (suc (suc d)) other = refl

pub is_new : IsNew flight fresh
is_new = record { lines = λ c. refl; barriers = λ c. refl; resumed = λ c. refl; ended = λ c. refl; left = λ c. refl }

pub gave_line : GaveOf fresh with_line 0 ((7 ∷ []) ∷ []) []
gave_line = record {
  within = omega arith;
  was_free = refl;
  lines_here = refl;
  lines_elsewhere = line_elsewhere;
  barriers_here = refl;
  barriers_elsewhere = λ d other. refl;
  resumed = λ d. refl;
}

pub gave_first : GaveBarrier with_line with_first shows false 0 1 Inline
gave_first = (
  record { number = refl; held = λ h. absurd (cc) },
  record {
    within = omega arith;
    was_free = refl;
    lines_here = refl;
    lines_elsewhere = λ d other. refl;
    barriers_here = refl;
    barriers_elsewhere = first_elsewhere;
    resumed = λ d. refl;
  },
  (refl, (refl, refl)),
)

-- while the first channel waits the other one may give just this
pub gave_second : GaveBarrier with_first with_both shows true 1 1 Inline
gave_second = (
  record { number = refl; held = λ h. (0, omega arith, omega arith) },
  record {
    within = omega arith;
    was_free = refl;
    lines_here = refl;
    lines_elsewhere = λ d other. refl;
    barriers_here = refl;
    barriers_elsewhere = both_elsewhere;
    resumed = λ d. refl;
  },
  (refl, (refl, refl)),
)

pub gave_front : GaveBarrier with_line (gate_of line (λ c. if c == 0 then (1, Front) ∷ [] else []) (λ c. 0) (λ c. [])) shows false 0 1 Front
gave_front = (
  record { number = refl; held = λ h. absurd (cc) },
  record {
    within = omega arith;
    was_free = refl;
    lines_here = refl;
    lines_elsewhere = λ d other. refl;
    barriers_here = refl;
    barriers_elsewhere = λ d other. ap (λ b. if b then (1, Front) ∷ [] else []) (ne_eqb d 0 other);
    resumed = λ d. refl;
  },
)

pub one_resumed : Resumed with_both with_one_resumed 0
one_resumed = record {
  lines = λ d. refl;
  barriers = λ d. refl;
  here = refl;
  elsewhere = λ d other. ap (λ b. if b then 1 else 0) (ne_eqb d 0 other);
  ended = λ d. refl;
  left = λ d. refl;
}

pub all_resumed : ResumedAll with_both with_all_resumed
all_resumed = record { lines = λ c. refl; barriers = λ c. refl; resumed = λ c low. refl; ended = λ c. refl; left = λ c. refl }

-- ---- what the task takes

abbrev sender : ℕ → ℕ
sender c = c

are_apart : AreApart 2 sender
are_apart c d low there other = other

abbrev half_aligned : Alignment
half_aligned = alignment_next (unaligned 2) (barrier 0 1 Inline)

abbrev aligned : Alignment
aligned = alignment_next half_aligned (barrier 1 1 Inline)

took_line : IsTaking with_line shows sender (unaligned 2) [] ((0, 7 ∷ []) ∷ [])
took_line = takes_line fresh with_line shows shows (keeps_all shows) refl sender (unaligned 2) [] [] (new_is_taking flight fresh shows sender is_new) 0 (7 ∷ []) are_apart gave_line

pub took_first : IsTaking with_first shows sender half_aligned [] ((0, 7 ∷ []) ∷ [])
took_first = takes_barrier with_line with_first shows shows (keeps_all shows) refl sender (unaligned 2) [] ((0, 7 ∷ []) ∷ []) took_line 0 1 gave_first refl

pub took_second : IsAtSnapshot with_both shows sender aligned (((0, 7 ∷ []) ∷ []) ∷ [])
took_second = takes_last_barrier with_first with_both shows shows (keeps_all shows) refl sender half_aligned [] ((0, 7 ∷ []) ∷ []) took_first 1 1 gave_second refl

pub takes_on : IsTaking with_all_resumed shows sender aligned (((0, 7 ∷ []) ∷ []) ∷ []) []
takes_on = goes_on_aligned with_both with_all_resumed shows shows (keeps_all shows) refl sender aligned (((0, 7 ∷ []) ∷ []) ∷ []) took_second all_resumed

pub first_is_cut : shows 0 (InLine 1 ((7 ∷ []) ∷ []))
first_is_cut = taking_is_cut with_all_resumed shows sender aligned (((0, 7 ∷ []) ∷ []) ∷ []) [] takes_on 0 (omega arith) 0 (omega arith)
