-- A gate and its alignment.
use Rattle.std.proofs.Common.{◌≡◌, ◌≢◌, ◌+◌, ◌<◌, ◌≤◌, ℕ, zero, suc, Bool, true, false, cond, eqb, get_or, true≢false, ◌||◌, Some, List, [], ◌∷◌, ◌++◌, length, length-append, refl, sym, ap, subst, ◌∙◌, append-nil, eqb-true, arith}
use Rattle.std.specs.Prelude.{slice_get, slice_set, map}
use Rattle.std.specs.List.{list_all, list_any}
use Rattle.std.proofs.lemmas.Bool.{eqb-false}
use Rattle.std.proofs.lemmas.List.{length-map, length-set, length-replicate, get_or-set_same, get_or-set_other}
use mathlib.Core.Logic.{dite}
use native.Mathlib.Decide.{ℕ_discrete}
use Rattle.flow_defs.specs.declared.task.BarrierKind.{BarrierKind}
use Rattle.flow_defs.specs.declared.task.BarrierKind.TheVariants.{Inline, Front}
use Rattle.barriers.specs.Alignments.{Alignment, alignment_next, barrier, is_last, is_open, unaligned}
use Rattle.gate_account.specs.Accounts.{Account, inlines, GaveOf}
use Rattle.gate_account.specs.Aligning.{gave_at, weight, IsInStepWhere, IsInStep, NewAreInStep, NothingIsInStep, LineIsInStep, NextIsInTurn, BlockIsInStep, CloseIsInStep, WaitingIsBlocked, ResumedIsInStep, AllResumedIsInStep}

-- ---- flags

weight_low : (b : Bool) → weight b ≤ 1
weight_low true = omega arith
weight_low false = omega arith

pub weight_none : (b : Bool) → weight b ≡ 0 → b ≡ false
weight_none true h = absurd (omega (arith, h))
weight_none false h = refl

got : (flags : List Bool) (c : ℕ) (flag : Bool) → c < length flags → get_or flags c false ≡ flag → slice_get flags c ≡ Some flag
got [] c flag low is = absurd (omega (arith, low))
got (x ∷ flags) zero flag low is = ap Some is
got (x ∷ flags) (suc c) flag low is = got flags c flag (omega (arith, low)) is

-- none of them is set
pub none_any : (flags : List Bool) (c : ℕ) → list_any (λ g. g) flags ≡ false → get_or flags c false ≡ false
none_any [] c none = refl
none_any (true ∷ flags) c none = absurd (true≢false none)
none_any (false ∷ flags) zero none = refl
none_any (false ∷ flags) (suc c) none = none_any flags c none

none_at : (flags : List Bool) (c : ℕ) → get_or (map (λ g. false) flags) c false ≡ false
none_at [] c = refl
none_at (g ∷ flags) zero = refl
none_at (g ∷ flags) (suc c) = none_at flags c

pub none_are : (flags : List Bool) → list_any (λ g. g) (map (λ g. false) flags) ≡ false
none_are [] = refl
none_are (g ∷ flags) = none_are flags

-- while no checkpoint is open no channel has given its barrier
pub none_gave : (a : Alignment) (c : ℕ) → is_open a ≡ false → gave_at a c ≡ false
none_gave a c shut =
    elim a.saving as (λ s. (s || list_any (λ g. g) a.gave) ≡ false → gave_at a c ≡ false) [
      | true ↦ λ e. absurd (true≢false e)
      | false ↦ λ e. none_any a.gave c e
    ] shut

replicate_at : (n c : ℕ) → gave_at (unaligned n) c ≡ false
replicate_at zero c = refl
replicate_at (suc n) zero = refl
replicate_at (suc n) (suc c) = replicate_at n c

-- all of them are set
pub all_at : (flags : List Bool) (c : ℕ) → c < length flags → list_all (λ g. g) flags ≡ true → get_or flags c false ≡ true
all_at [] c low all = absurd (omega (arith, low))
all_at (true ∷ flags) zero low all = refl
all_at (true ∷ flags) (suc c) low all = all_at flags c (omega (arith, low)) all
all_at (false ∷ flags) c low all = absurd (true≢false (sym all))

-- ---- where nothing changes the barriers

-- which channels wait may be told otherwise
pub step_told : (gate : Account) (a : Alignment) (waits told : ℕ → Bool) → ((c : ℕ) → c < gate.channels → waits c ≡ told c) → IsInStepWhere gate a waits → IsInStepWhere gate a told
step_told gate a waits told same step = record {
  width = step.width;
  still = step.still;
  barriers = step.barriers;
  resumed = λ c low. step.resumed c low ∙ ap (λ b. gate.resumed c + weight b) (same c low);
}

step_stays : (gate now : Account) (a : Alignment) → IsInStep gate a → now.channels ≡ gate.channels → ((d : ℕ) → now.barriers d ≡ gate.barriers d) → ((d : ℕ) → now.resumed d ≡ gate.resumed d) → IsInStep now a
step_stays gate now a step same barriers resumed = record {
  width = step.width ∙ sym same;
  still = step.still;
  barriers = λ d low. ap length (barriers d) ∙ step.barriers d (subst (λ n. d < n) same low);
  resumed = λ d low. ap inlines (barriers d) ∙ step.resumed d (subst (λ n. d < n) same low) ∙ ap (λ n. n + weight (gave_at a d)) (sym (resumed d));
}

pub new_are_in_step : NewAreInStep
new_are_in_step flight gate new = record {
  width = length-replicate gate.channels false;
  still = refl;
  barriers = λ c low. ap length (new.barriers c) ∙ sym (ap (λ b. 0 + weight b) (replicate_at gate.channels c));
  resumed = λ c low. ap inlines (new.barriers c) ∙ sym (ap (λ n. n + weight (gave_at (unaligned gate.channels) c)) (new.resumed c) ∙ ap (λ b. 0 + weight b) (replicate_at gate.channels c));
}

pub nothing_is_in_step : NothingIsInStep
nothing_is_in_step gate now a step same gave = step_stays gate now a step same gave.barriers gave.resumed

pub line_is_in_step : LineIsInStep
line_is_in_step gate now a c line step same gave = step_stays gate now a step same
    (λ d. dite (ℕ_discrete d c)
    (λ here. ap now.barriers here ∙ gave.barriers_here ∙ append-nil (gate.barriers c) ∙ ap gate.barriers (sym here))
    (λ other. gave.barriers_elsewhere d other))
    gave.resumed

-- ---- a barrier is given

pub next_is_in_turn : NextIsInTurn
next_is_in_turn gate now a c k kind step low next =
    let here : length (gate.barriers c) ≡ a.closed + weight (gave_at a c) = step.barriers c low in
    let none : gave_at a c ≡ false =
    elim (is_open a) as (λ b. is_open a ≡ b → gave_at a c ≡ false) [
      | true ↦ λ opened.
          let held = next.held opened in
          let there : length (gate.barriers held.0) ≡ a.closed + weight (gave_at a held.0) = step.barriers held.0 held.1 in
          let most = weight_low (gave_at a held.0) in
          weight_none (gave_at a c) (omega (arith, here, there, most, next.number, held.2))
      | false ↦ λ shut. none_gave a c shut
    ] refl in
    let many : length (gate.barriers c) ≡ a.closed + 0 = here ∙ ap (λ b. a.closed + weight b) none in
    record {
      once = got a.gave c false (let wide = step.width in omega (arith, low, wide)) none;
      number = let number = next.number in omega (arith, number, many);
    }

pub append_inlines : (xs ys : List (ℕ × BarrierKind)) → inlines (xs ++ ys) ≡ inlines xs + inlines ys
append_inlines [] ys = omega arith
append_inlines ((k, Inline) ∷ xs) ys = ap suc (append_inlines xs ys) ∙ (let e : suc (inlines xs + inlines ys) ≡ suc (inlines xs) + inlines ys = omega arith in e)
append_inlines ((k, Front) ∷ xs) ys = append_inlines xs ys

-- as the alignment goes on, and as it closes
abbrev pub going : Alignment → ℕ → Alignment
going a c = record { closed = a.closed; gave = slice_set a.gave c true; saving = a.saving; saved = a.saved }

abbrev pub closing : Alignment → ℕ → Alignment
closing a k = record { closed = k; gave = map (λ g. false) a.gave; saving = a.saving; saved = a.saved }

module _ (gate now : Account) (a : Alignment) (c k : ℕ) (step : IsInStep gate a) (same : now.channels ≡ gate.channels) (gave : GaveOf gate now c [] ((k, Inline) ∷ [])) where
  there : (d : ℕ) → d < now.channels → d < gate.channels
  there d low = subst (λ n. d < n) same low

  -- the channel was free, so it had not given it
  once : gave_at a c ≡ false
  once = let owed = step.resumed c gave.within in let free = gave.was_free in weight_none (gave_at a c) (omega (arith, owed, free))

  set_here : get_or (slice_set a.gave c true) c false ≡ true
  set_here = get_or-set_same a.gave c true false (let wide = step.width in let within = gave.within in omega (arith, wide, within))

  set_elsewhere : (d : ℕ) → d ≢ c → get_or (slice_set a.gave c true) d false ≡ gave_at a d
  set_elsewhere d other = get_or-set_other a.gave c d true false other

  counted_now : (d : ℕ) → d < gate.channels → length (now.barriers d) ≡ a.closed + weight (get_or (slice_set a.gave c true) d false)
  counted_now d low = dite (ℕ_discrete d c)
      (λ here.
      let before : length (gate.barriers c) ≡ a.closed + 0 = step.barriers c gave.within ∙ ap (λ b. a.closed + weight b) once in
      let more = ap length gave.barriers_here ∙ length-append (gate.barriers c) ((k, Inline) ∷ []) in
      let sum : length (now.barriers c) ≡ a.closed + 1 = omega (arith, before, more) in
      subst (λ x. length (now.barriers x) ≡ a.closed + weight (get_or (slice_set a.gave c true) x false)) (sym here) (sum ∙ ap (λ b. a.closed + weight b) (sym set_here)))
      (λ other. ap length (gave.barriers_elsewhere d other) ∙ step.barriers d low ∙ ap (λ b. a.closed + weight b) (sym (set_elsewhere d other)))

  owed_now : (d : ℕ) → d < gate.channels → inlines (now.barriers d) ≡ now.resumed d + weight (get_or (slice_set a.gave c true) d false)
  owed_now d low = dite (ℕ_discrete d c)
      (λ here.
      let free = gave.was_free in
      let more = ap inlines gave.barriers_here ∙ append_inlines (gate.barriers c) ((k, Inline) ∷ []) in
      let still = gave.resumed c in
      let sum : inlines (now.barriers c) ≡ now.resumed c + 1 = omega (arith, free, more, still) in
      subst (λ x. inlines (now.barriers x) ≡ now.resumed x + weight (get_or (slice_set a.gave c true) x false)) (sym here) (sum ∙ ap (λ b. now.resumed c + weight b) (sym set_here)))
      (λ other.
      ap inlines (gave.barriers_elsewhere d other) ∙ step.resumed d low ∙ ap (λ n. n + weight (gave_at a d)) (sym (gave.resumed d))
      ∙ ap (λ b. now.resumed d + weight b) (sym (set_elsewhere d other)))

  step_going : IsInStep now (going a c)
  step_going = record {
    width = length-set a.gave c true ∙ step.width ∙ sym same;
    still = step.still;
    barriers = λ d low. counted_now d (there d low);
    resumed = λ d low. owed_now d (there d low);
  }

  -- with the last one all have given it
  pub each_gave : is_last a (barrier c k Inline) ≡ true → (d : ℕ) → d < gate.channels → get_or (slice_set a.gave c true) d false ≡ true
  each_gave last d low = all_at (slice_set a.gave c true) d (let wide = step.width in let set = length-set a.gave c true in omega (arith, wide, set, low)) last

  step_closing : is_last a (barrier c k Inline) ≡ true → k ≡ suc a.closed → IsInStepWhere now (closing a k) (λ d. true)
  step_closing last number = record {
    width = length-map a.gave (λ (b : Bool). false) ∙ step.width ∙ sym same;
    still = step.still;
    barriers = λ d low.
        let given : length (now.barriers d) ≡ a.closed + 1 = counted_now d (there d low) ∙ ap (λ b. a.closed + weight b) (each_gave last d (there d low)) in
        (let e : length (now.barriers d) ≡ k + 0 = omega (arith, given, number) in e) ∙ ap (λ b. k + weight b) (sym (none_at a.gave d));
    resumed = λ d low. owed_now d (there d low) ∙ ap (λ b. now.resumed d + weight b) (each_gave last d (there d low));
  }

-- the alignment behind a barrier
pub next_going : (a : Alignment) (c k : ℕ) → a.saving ≡ false → is_last a (barrier c k Inline) ≡ false → alignment_next a (barrier c k Inline) ≡ going a c
next_going a c k still others = ap (λ s. cond s (going a c) (cond (is_last a (barrier c k Inline)) (closing a k) (going a c))) still ∙ ap (λ b. cond b (closing a k) (going a c)) others

pub next_closing : (a : Alignment) (c k : ℕ) → a.saving ≡ false → is_last a (barrier c k Inline) ≡ true → alignment_next a (barrier c k Inline) ≡ closing a k
next_closing a c k still last = ap (λ s. cond s (going a c) (cond (is_last a (barrier c k Inline)) (closing a k) (going a c))) still ∙ ap (λ b. cond b (closing a k) (going a c)) last

pub block_is_in_step : BlockIsInStep
block_is_in_step gate now a c k step others same next gave = subst (IsInStep now) (sym (next_going a c k step.still others)) (step_going gate now a c k step same gave)

pub close_is_in_step : CloseIsInStep
close_is_in_step gate now a c k step last same next gave =
    let may = next_is_in_turn gate now a c k Inline step gave.within next in
    subst (λ x. IsInStepWhere now x (λ d. true)) (sym (next_closing a c k step.still last)) (step_closing gate now a c k step same gave last (let number = may.number in omega (arith, number)))

-- ---- channels are resumed

pub waiting_is_blocked : WaitingIsBlocked
waiting_is_blocked gate a waits c step low waited = step.resumed c low ∙ ap (λ b. gate.resumed c + weight b) waited ∙ (let e : gate.resumed c + 1 ≡ suc (gate.resumed c) = omega arith in e)

pub resumed_is_in_step : ResumedIsInStep
resumed_is_in_step gate now a waits c step waited same by = record {
  width = step.width ∙ sym same;
  still = step.still;
  barriers = λ d low. ap length (by.barriers d) ∙ step.barriers d (subst (λ n. d < n) same low);
  resumed = λ d low. owed d (subst (λ n. d < n) same low);
}
  where
    owed : (d : ℕ) → d < gate.channels → inlines (now.barriers d) ≡ now.resumed d + weight (cond (eqb d c) false (waits d))
    owed d low =
        elim (eqb d c) as (λ b. eqb d c ≡ b → inlines (now.barriers d) ≡ now.resumed d + weight (cond b false (waits d))) [
          | true ↦ λ is.
              let at = eqb-true d c is in
              let before : inlines (gate.barriers d) ≡ gate.resumed d + 1 = step.resumed d low ∙ ap (λ x. gate.resumed d + weight (waits x)) at ∙ ap (λ b. gate.resumed d + weight b) waited in
              let one : now.resumed d ≡ suc (gate.resumed d) = ap now.resumed at ∙ by.here ∙ ap (λ x. suc (gate.resumed x)) (sym at) in
              ap inlines (by.barriers d) ∙ omega (arith, before, one)
          | false ↦ λ isnt. ap inlines (by.barriers d) ∙ step.resumed d low ∙ ap (λ n. n + weight (waits d)) (sym (by.elsewhere d (eqb-false d c isnt)))
        ] refl

pub all_resumed_is_in_step : AllResumedIsInStep
all_resumed_is_in_step gate now a step aligned same by = record {
  width = step.width ∙ sym same;
  still = step.still;
  barriers = λ d low. ap length (by.barriers d) ∙ step.barriers d (subst (λ n. d < n) same low);
  resumed = λ d low.
      let in_gate : d < gate.channels = subst (λ n. d < n) same low in
      let before : inlines (gate.barriers d) ≡ gate.resumed d + 1 = step.resumed d in_gate in
      let one = by.resumed d in_gate in
      ap inlines (by.barriers d) ∙ (let e : inlines (gate.barriers d) ≡ now.resumed d + 0 = omega (arith, before, one) in e)
      ∙ ap (λ b. now.resumed d + weight b) (sym (none_gave a d aligned));
}
