-- A task that takes from its gate, answer by answer.
use Rattle.std.proofs.Common.{◌≡◌, ◌≢◌, ◌+◌, ◌<◌, ℕ, suc, Bool, true, false, cond, ◌||◌, get_or, List, [], ◌∷◌, ◌++◌, length, map, refl, sym, ap, subst, ◌∙◌, append-nil, arith}
use Rattle.std.specs.Prelude.{slice_set}
use Rattle.std.specs.List.{list_any}
use Rattle.std.proofs.lemmas.List.{get_or-set_same, get_or-set_other}
use mathlib.Core.Logic.{dite}
use native.Mathlib.Decide.{ℕ_discrete}
use Rattle.flow_defs.specs.declared.task.BarrierKind.{BarrierKind}
use Rattle.flow_defs.specs.declared.task.BarrierKind.TheVariants.{Inline}
use Rattle.plain_machine.specs.Histories.{of_sender}
use Rattle.barriers.specs.declared.aligner.Action.TheVariants.{Nothing, Block, SnapshotInline}
use Rattle.barriers.specs.Alignments.{Alignment, action, alignment_next, barrier, is_last, is_open, unaligned}
use Rattle.checkpoint_laws.specs.Chapters.{Chapter}
use Rattle.checkpoint_laws.specs.Runs.{took_before}
use Rattle.channel_cut.specs.Cuts.{Cut, InLine}
use Rattle.gate_account.specs.Accounts.{Account, IsNew, Keeps, GaveNothing, GaveOf, IsNext, CutsInLine, GaveBarrier, ResumedAll}
use Rattle.gate_account.specs.Aligning.{gave_at, weight, IsInStepWhere, IsInStep}
use Rattle.channel_cut.specs.Takings.{taken_to, TakenOn}
use Rattle.gate_account.specs.Taking.{AreApart, HasTaken, IsTaking, IsAtSnapshot}
use Rattle.gate_account.proofs.InStep.{weight_none, none_gave, none_are, new_are_in_step, nothing_is_in_step, line_is_in_step, next_is_in_turn, block_is_in_step, close_is_in_step, all_resumed_is_in_step, each_gave, going, closing, next_going, next_closing}
use Rattle.channel_cut.proofs.Taking.{Group, many_with, taken_stays, taken_begins, line_is_taken, other_is_taken, barrier_is_given, snapshot_is_taken, snapshot_is_unsent, taken_in_chapters, many_chapters}

-- ---- what a gate shows

pub keeps_all : (shows : ℕ → Cut → Type 0) → Keeps shows shows
keeps_all shows c cut shown = shown

pub keeps_on : (shows now later : ℕ → Cut → Type 0) → Keeps shows now → Keeps now later → Keeps shows later
keeps_on shows now later first second c cut shown = second c cut (first c cut shown)

-- ---- what the alignment answers

module _ (a : Alignment) (c k : ℕ) where
  pub blocks_others : action a (barrier c k Inline) ≡ Block → is_last a (barrier c k Inline) ≡ false
  blocks_others is =
      elim a.saving as (λ s. cond s Nothing (cond (is_last a (barrier c k Inline)) (SnapshotInline k) Block) ≡ Block → is_last a (barrier c k Inline) ≡ false) [
        | true ↦ λ e. absurd (cc)
        | false ↦ λ e. elim (is_last a (barrier c k Inline)) as (λ b. cond b (SnapshotInline k) Block ≡ Block → b ≡ false) [ true ↦ λ e. absurd (cc) | false ↦ λ e. refl ] e
      ] is

  pub snapshots_at_last : (n : ℕ) → action a (barrier c k Inline) ≡ SnapshotInline n → is_last a (barrier c k Inline) ≡ true
  snapshots_at_last n is =
      elim a.saving as (λ s. cond s Nothing (cond (is_last a (barrier c k Inline)) (SnapshotInline k) Block) ≡ SnapshotInline n → is_last a (barrier c k Inline) ≡ true) [
        | true ↦ λ e. absurd (cc)
        | false ↦ λ e. elim (is_last a (barrier c k Inline)) as (λ b. cond b (SnapshotInline k) Block ≡ SnapshotInline n → b ≡ true) [ true ↦ λ e. refl | false ↦ λ e. absurd (cc) ] e
      ] is

-- ---- what was taken, at any end

module _ (gate : Account) (shows : ℕ → Cut → Type 0) (sender : ℕ → ℕ) (groups : List Group) (took : Group) (waits : ℕ → Bool) (has : HasTaken gate shows sender groups took waits)
    (c : ℕ) (within : c < gate.channels) where
  -- at each snapshot its channel was cut behind what was taken up to it,
  pub chapters_are_cut : (k : ℕ) → k < length groups → shows c (InLine (suc k) (of_sender (sender c) (taken_to (suc k) groups)))
  chapters_are_cut k low = (has c within).cuts k low

  -- and so by chapters, behind which there may be groups that were not sent
  pub cut_by_chapters : (chapters : List Chapter) (more : List Group) → groups ≡ map (λ (chapter : Chapter). chapter.took) chapters ++ more →
      (k : ℕ) → k < length chapters → shows c (InLine (suc k) (of_sender (sender c) (took_before (suc k) chapters)))
  cut_by_chapters chapters more are k low =
      subst (λ g. shows c (InLine (suc k) (of_sender (sender c) g))) (taken_in_chapters (suc k) groups more chapters are (omega (arith, low)))
      (chapters_are_cut k (many_chapters groups more chapters are k low))

-- a snapshot that was not sent may be told as records that were taken: all channels wait behind its barrier
pub has_unsent : (gate : Account) (shows : ℕ → Cut → Type 0) (sender : ℕ → ℕ) (groups : List Group) (took : Group) (waits : ℕ → Bool) →
    HasTaken gate shows sender (groups ++ took ∷ []) [] waits → HasTaken gate shows sender groups took (λ c. true)
has_unsent gate shows sender groups took waits has = λ c low. snapshot_is_unsent (shows c) (sender c) (gate.lines c) groups took (waits c) (has c low)

-- which channels wait may be told otherwise
pub waits_told : (gate : Account) (shows : ℕ → Cut → Type 0) (sender : ℕ → ℕ) (groups : List Group) (took : Group) (waits told : ℕ → Bool) →
    ((c : ℕ) → c < gate.channels → waits c ≡ told c) → HasTaken gate shows sender groups took waits → HasTaken gate shows sender groups took told
waits_told gate shows sender groups took waits told same has = λ c low. subst (TakenOn (shows c) (gate.lines c) (sender c) groups took) (same c low) (has c low)

-- a barrier is no line
pub no_line : (gate now : Account) (c : ℕ) (barriers : List (ℕ × BarrierKind)) → GaveOf gate now c [] barriers → (d : ℕ) → now.lines d ≡ gate.lines d
no_line gate now c barriers gave d = dite (ℕ_discrete d c)
    (λ here. ap now.lines here ∙ gave.lines_here ∙ append-nil (gate.lines c) ∙ ap gate.lines (sym here))
    (λ other. gave.lines_elsewhere d other)

module _ (gate now : Account) (shows shown : ℕ → Cut → Type 0) (kept : Keeps shows shown) (same : now.channels ≡ gate.channels)
    (sender : ℕ → ℕ) (groups : List Group) (took : Group) (waits : ℕ → Bool) (has : HasTaken gate shows sender groups took waits) where
  -- a channel of which no line was given
  stays : (d : ℕ) → d < now.channels → now.lines d ≡ gate.lines d → TakenOn (shown d) (now.lines d) (sender d) groups took (waits d)
  stays d low is =
      subst (λ ls. TakenOn (shown d) ls (sender d) groups took (waits d)) (sym is)
      (taken_stays (shows d) (shown d) (kept d) (gate.lines d) (sender d) groups took (waits d) (has d (subst (λ n. d < n) same low)))

  -- no line was given
  pub has_as_before : ((d : ℕ) → now.lines d ≡ gate.lines d) → HasTaken now shown sender groups took waits
  has_as_before is = λ d low. stays d low (is d)

  -- a barrier was given, at which the task may end
  pub has_at_barrier : (c : ℕ) (barriers : List (ℕ × BarrierKind)) → GaveOf gate now c [] barriers → HasTaken now shown sender groups took waits
  has_at_barrier c barriers gave = has_as_before (no_line gate now c barriers gave)

  -- a line of a channel that doesn't wait
  pub has_line : (c : ℕ) (line : List ℕ) → AreApart gate.channels sender → waits c ≡ false → GaveOf gate now c (line ∷ []) [] → HasTaken now shown sender groups (took ++ (sender c, line) ∷ []) waits
  has_line c line apart free gave = λ d low. dite (ℕ_discrete d c)
      (λ here.
      let before = taken_stays (shows c) (shown c) (kept c) (gate.lines c) (sender c) groups took false (subst (TakenOn (shows c) (gate.lines c) (sender c) groups took) free (has c gave.within)) in
      let after : TakenOn (shown c) (now.lines c) (sender c) groups (took ++ (sender c, line) ∷ []) (waits c) =
      subst (TakenOn (shown c) (now.lines c) (sender c) groups (took ++ (sender c, line) ∷ [])) (sym free)
      (subst (λ ls. TakenOn (shown c) ls (sender c) groups (took ++ (sender c, line) ∷ []) false) (sym gave.lines_here) (line_is_taken (shown c) (sender c) (gate.lines c) line groups took before)) in
      subst (λ x. TakenOn (shown x) (now.lines x) (sender x) groups (took ++ (sender c, line) ∷ []) (waits x)) (sym here) after)
      (λ other.
      let in_gate = subst (λ n. d < n) same low in
      other_is_taken (shown d) (sender d) (now.lines d) (sender c) line groups took (waits d) (apart c d gave.within in_gate (λ e. other (sym e))) (stays d low (gave.lines_elsewhere d other)))

  -- the barrier of the next checkpoint, behind which its channel waits
  pub has_barrier : (c k : ℕ) (told : ℕ → Bool) → k ≡ suc (length groups) → ((d : ℕ) → d ≢ c → waits d ≡ told d) → GaveOf gate now c [] ((k, Inline) ∷ []) → CutsInLine gate now shown c k →
      told c ≡ true → HasTaken now shown sender groups took told
  has_barrier c k told number others gave cut set = λ d low. dite (ℕ_discrete d c)
      (λ here.
      let before = taken_stays (shows c) (shown c) (kept c) (gate.lines c) (sender c) groups took (waits c) (has c gave.within) in
      let given = barrier_is_given (shown c) (sender c) (gate.lines c) groups took (waits c) (subst (λ j. shown c (InLine j (gate.lines c))) number cut.1) before in
      let after : TakenOn (shown c) (now.lines c) (sender c) groups took (told c) =
      subst (TakenOn (shown c) (now.lines c) (sender c) groups took) (sym set)
      (subst (λ ls. TakenOn (shown c) ls (sender c) groups took true) (sym (no_line gate now c ((k, Inline) ∷ []) gave c)) given) in
      subst (λ x. TakenOn (shown x) (now.lines x) (sender x) groups took (told x)) (sym here) after)
      (λ other. subst (TakenOn (shown d) (now.lines d) (sender d) groups took) (others d other) (stays d low (gave.lines_elsewhere d other)))

-- ---- the task takes on

-- of a new gate nothing was taken
pub new_is_taking : (flight : ℕ → List ℕ) (gate : Account) (shows : ℕ → Cut → Type 0) (sender : ℕ → ℕ) → IsNew flight gate → IsTaking gate shows sender (unaligned gate.channels) [] []
new_is_taking flight gate shows sender new =
    let step = new_are_in_step flight gate new in
    record {
      step = step;
      has = λ c low.
          subst (λ ls. TakenOn (shows c) ls (sender c) [] [] (gave_at (unaligned gate.channels) c)) (sym (new.lines c))
          (subst (TakenOn (shows c) [] (sender c) [] []) (sym (weight_none (gave_at (unaligned gate.channels) c) (let none = step.barriers c low in let given = ap length (new.barriers c) in omega (arith, none, given)))) (taken_begins (shows c) (sender c)));
      counted = refl;
    }

module _ (gate now : Account) (shows shown : ℕ → Cut → Type 0) (kept : Keeps shows shown) (same : now.channels ≡ gate.channels)
    (sender : ℕ → ℕ) (a : Alignment) (groups : List Group) (took : Group) (taking : IsTaking gate shows sender a groups took) where
  -- nothing is given
  pub takes_nothing : GaveNothing gate now → IsTaking now shown sender a groups took
  takes_nothing gave = record {
    step = nothing_is_in_step gate now a taking.step same gave;
    has = has_as_before gate now shows shown kept same sender groups took (gave_at a) taking.has gave.lines;
    counted = taking.counted;
  }

  -- a channel that gives anything doesn't wait
  is_free : (c : ℕ) (lines : List (List ℕ)) (barriers : List (ℕ × BarrierKind)) → GaveOf gate now c lines barriers → gave_at a c ≡ false
  is_free c lines barriers gave = let owed = taking.step.resumed c gave.within in let free = gave.was_free in weight_none (gave_at a c) (omega (arith, owed, free))

  -- a line
  pub takes_line : (c : ℕ) (line : List ℕ) → AreApart gate.channels sender → GaveOf gate now c (line ∷ []) [] → IsTaking now shown sender a groups (took ++ (sender c, line) ∷ [])
  takes_line c line apart gave = record {
    step = line_is_in_step gate now a c line taking.step same gave;
    has = has_line gate now shows shown kept same sender groups took (gave_at a) taking.has c line apart (is_free c (line ∷ []) [] gave) gave;
    counted = taking.counted;
  }

  -- ---- an inline barrier

  module _ (c k : ℕ) (answer : GaveBarrier gate now shown (is_open a) c k Inline) where
    next : IsNext gate now (is_open a) c k
    next = answer.0

    gave : GaveOf gate now c [] ((k, Inline) ∷ [])
    gave = answer.1

    number : k ≡ suc a.closed
    number = let may = next_is_in_turn gate now a c k Inline taking.step gave.within next in let is = may.number in omega (arith, is)

    had : HasTaken now shown sender groups took (λ d. get_or (slice_set a.gave c true) d false)
    had = has_barrier gate now shows shown kept same sender groups took (gave_at a) taking.has c k (λ d. get_or (slice_set a.gave c true) d false) (number ∙ ap suc (sym taking.counted))
        (λ d other. sym (get_or-set_other a.gave c d true false other)) gave answer.2
        (get_or-set_same a.gave c true false (let wide = taking.step.width in let within = gave.within in omega (arith, wide, within)))

    -- others are missing: its channel waits
    pub takes_barrier : is_last a (barrier c k Inline) ≡ false → IsTaking now shown sender (alignment_next a (barrier c k Inline)) groups took
    takes_barrier others =
        let taken : IsTaking now shown sender (going a c) groups took = record {
          step = subst (IsInStep now) (next_going a c k taking.step.still others) (block_is_in_step gate now a c k taking.step others same next gave);
          has = had;
          counted = taking.counted;
        } in
        subst (λ x. IsTaking now shown sender x groups took) (sym (next_going a c k taking.step.still others)) taken

    -- it is the last one: the task snapshots
    pub takes_last_barrier : is_last a (barrier c k Inline) ≡ true → IsAtSnapshot now shown sender (alignment_next a (barrier c k Inline)) (groups ++ took ∷ [])
    takes_last_barrier last =
        let at : IsAtSnapshot now shown sender (closing a k) (groups ++ took ∷ []) = record {
          step = subst (λ x. IsInStepWhere now x (λ d. true)) (next_closing a c k taking.step.still last) (close_is_in_step gate now a c k taking.step last same next gave);
          aligned = ap (λ s. s || list_any (λ g. g) (map (λ g. false) a.gave)) taking.step.still ∙ none_are a.gave;
          has = λ d low. snapshot_is_taken (shown d) (sender d) (now.lines d) groups took
              (subst (TakenOn (shown d) (now.lines d) (sender d) groups took) (each_gave gate now a c k taking.step same gave last d (subst (λ n. d < n) same low)) (had d low));
          counted = many_with groups took ∙ ap suc taking.counted ∙ sym number;
        } in
        subst (λ x. IsAtSnapshot now shown sender x (groups ++ took ∷ [])) (sym (next_closing a c k taking.step.still last)) at

-- of each channel the cut at each snapshot
pub taking_is_cut : (gate : Account) (shows : ℕ → Cut → Type 0) (sender : ℕ → ℕ) (a : Alignment) (groups : List Group) (took : Group) → IsTaking gate shows sender a groups took →
    (c : ℕ) → c < gate.channels → (k : ℕ) → k < length groups → shows c (InLine (suc k) (of_sender (sender c) (taken_to (suc k) groups)))
taking_is_cut gate shows sender a groups took taking c within k low = chapters_are_cut gate shows sender groups took (gave_at a) taking.has c within k low

-- ---- at a snapshot

-- each channel has given just the barriers of these snapshots
pub barriers_at_snapshot : (gate : Account) (shows : ℕ → Cut → Type 0) (sender : ℕ → ℕ) (a : Alignment) (groups : List Group) → IsAtSnapshot gate shows sender a groups →
    (c : ℕ) → c < gate.channels → length (gate.barriers c) ≡ length groups
barriers_at_snapshot gate shows sender a groups at c low =
    at.step.barriers c low ∙ ap (λ b. a.closed + weight b) (none_gave a c at.aligned) ∙ (let e : a.closed + 0 ≡ a.closed = omega arith in e) ∙ sym at.counted

-- all channels were resumed: the task takes on
pub goes_on_aligned : (gate now : Account) (shows shown : ℕ → Cut → Type 0) → Keeps shows shown → now.channels ≡ gate.channels → (sender : ℕ → ℕ) (a : Alignment) (groups : List Group) →
    IsAtSnapshot gate shows sender a groups → ResumedAll gate now → IsTaking now shown sender a groups []
goes_on_aligned gate now shows shown kept same sender a groups at by = record {
  step = all_resumed_is_in_step gate now a at.step at.aligned same by;
  has = waits_told now shown sender groups [] (λ c. false) (gave_at a) (λ c low. sym (none_gave a c at.aligned))
      (has_as_before gate now shows shown kept same sender groups [] (λ c. false) at.has by.lines);
  counted = at.counted;
}
