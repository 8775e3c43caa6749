-- How what a task took from a channel grows, step by step.
use Rattle.std.proofs.Common.{◌≡◌, ◌≢◌, ◌+◌, ◌<◌, ◌≤◌, ℕ, zero, suc, Bool, true, false, cond, true≢false, List, [], ◌∷◌, ◌++◌, length, length-append, map, refl, sym, ap, subst, ◌∙◌, append_assoc, append-nil, eq-eqb, ne_eqb, arith}
use Rattle.std.specs.Prelude.{take}
use Rattle.std.proofs.lemmas.List.{length-map}
use Rattle.std.proofs.lemmas.List.Concat.{flat_map-append}
use mathlib.Core.Logic.{dite}
use native.Mathlib.Decide.{ℕ_discrete}
use Rattle.plain_machine.specs.Histories.{of_sender}
use Rattle.checkpoint_laws.specs.Chapters.{Chapter}
use Rattle.checkpoint_laws.specs.Runs.{took_before}
use Rattle.checkpoint_laws.proofs.Lists.{of_sender-append}
use Rattle.channel_cut.specs.Cuts.{Cut, InLine}
use Rattle.channel_cut.specs.Takings.{all_in, taken_to, TakenOn}

abbrev pub Group : Type 0
Group = List (ℕ × List ℕ)

-- ---- groups

of_here : (s : ℕ) (r : List ℕ) → of_sender s ((s, r) ∷ []) ≡ r ∷ []
of_here s r = ap (λ b. cond b (r ∷ []) []) (eq-eqb s s refl)

of_other : (s a : ℕ) (r : List ℕ) → a ≢ s → of_sender s ((a, r) ∷ []) ≡ []
of_other s a r other = ap (λ b. cond b (r ∷ []) []) (ne_eqb a s other)

one_more : (s a : ℕ) (r : List ℕ) (groups : List Group) (took : Group) → of_sender s (all_in groups ++ (took ++ (a, r) ∷ [])) ≡ of_sender s (all_in groups ++ took) ++ of_sender s ((a, r) ∷ [])
one_more s a r groups took = ap (of_sender s) (sym (append_assoc (all_in groups) took ((a, r) ∷ []))) ∙ of_sender-append s (all_in groups ++ took) ((a, r) ∷ [])

take-front : (k : ℕ) (groups more : List Group) → k ≤ length groups → take k (groups ++ more) ≡ take k groups
take-front zero groups more low = refl
take-front (suc k) [] more low = absurd (omega (arith, low))
take-front (suc k) (g ∷ groups) more low = ap (λ z. g ∷ z) (take-front k groups more (omega (arith, low)))

take-all : (groups : List Group) → take (length groups) groups ≡ groups
take-all [] = refl
take-all (g ∷ groups) = ap (λ z. g ∷ z) (take-all groups)

all_with : (groups : List Group) (took : Group) → all_in (groups ++ took ∷ []) ≡ all_in groups ++ took
all_with groups took = flat_map-append (λ (g : Group). g) groups (took ∷ []) ∙ ap (λ z. all_in groups ++ z) (append-nil took)

pub many_with : (groups : List Group) (took : Group) → length (groups ++ took ∷ []) ≡ suc (length groups)
many_with groups took = length-append groups (took ∷ []) ∙ (let e : length groups + 1 ≡ suc (length groups) = omega arith in e)

to-front : (k : ℕ) (groups : List Group) (took : Group) → k < length groups → taken_to (suc k) (groups ++ took ∷ []) ≡ taken_to (suc k) groups
to-front k groups took low = ap all_in (take-front (suc k) groups (took ∷ []) (omega (arith, low)))

to-all : (groups : List Group) (took : Group) → taken_to (suc (length groups)) (groups ++ took ∷ []) ≡ all_in groups ++ took
to-all groups took = ap (λ n. taken_to n (groups ++ took ∷ [])) (sym (many_with groups took)) ∙ ap all_in (take-all (groups ++ took ∷ [])) ∙ all_with groups took

-- ---- one channel

-- a call that gives nothing of the channel
pub taken_stays : (shows now : Cut → Type 0) → ((cut : Cut) → shows cut → now cut) → (lines : List (List ℕ)) (s : ℕ) (groups : List Group) (took : Group) (waits : Bool) →
    TakenOn shows lines s groups took waits → TakenOn now lines s groups took waits
taken_stays shows now keeps lines s groups took waits t = record {
  lines_are = t.lines_are;
  cuts = λ k low. keeps (InLine (suc k) (of_sender s (taken_to (suc k) groups))) (t.cuts k low);
  behind = λ w. keeps (InLine (suc (length groups)) lines) (t.behind w);
}

module _ (shows : Cut → Type 0) (s : ℕ) where
  -- nothing is taken yet
  pub taken_begins : TakenOn shows [] s [] [] false
  taken_begins = record { lines_are = refl; cuts = λ k low. absurd (omega (arith, low)); behind = λ w. absurd (true≢false (sym w)) }

  -- a line of this channel is taken
  pub line_is_taken : (lines : List (List ℕ)) (r : List ℕ) (groups : List Group) (took : Group) →
      TakenOn shows lines s groups took false → TakenOn shows (lines ++ r ∷ []) s groups (took ++ (s, r) ∷ []) false
  line_is_taken lines r groups took t = record {
    lines_are = ap (λ z. z ++ r ∷ []) t.lines_are ∙ ap (λ z. of_sender s (all_in groups ++ took) ++ z) (sym (of_here s r)) ∙ sym (one_more s s r groups took);
    cuts = t.cuts;
    behind = λ w. absurd (true≢false (sym w));
  }

  -- a line of another channel is taken
  pub other_is_taken : (lines : List (List ℕ)) (a : ℕ) (r : List ℕ) (groups : List Group) (took : Group) (waits : Bool) → a ≢ s →
      TakenOn shows lines s groups took waits → TakenOn shows lines s groups (took ++ (a, r) ∷ []) waits
  other_is_taken lines a r groups took waits other t = record {
    lines_are = t.lines_are ∙ sym (one_more s a r groups took ∙ ap (λ z. of_sender s (all_in groups ++ took) ++ z) (of_other s a r other) ∙ append-nil (of_sender s (all_in groups ++ took)));
    cuts = t.cuts;
    behind = t.behind;
  }

  -- the barrier of the next checkpoint is given
  pub barrier_is_given : (lines : List (List ℕ)) (groups : List Group) (took : Group) (waits : Bool) → shows (InLine (suc (length groups)) lines) →
      TakenOn shows lines s groups took waits → TakenOn shows lines s groups took true
  barrier_is_given lines groups took waits cut t = record { lines_are = t.lines_are; cuts = t.cuts; behind = λ w. cut }

  -- the task snapshots, where the channel waits behind the barrier
  pub snapshot_is_taken : (lines : List (List ℕ)) (groups : List Group) (took : Group) → TakenOn shows lines s groups took true → TakenOn shows lines s (groups ++ took ∷ []) [] false
  snapshot_is_taken lines groups took t = record {
    lines_are = t.lines_are ∙ ap (of_sender s) (sym (append-nil (all_in (groups ++ took ∷ [])) ∙ all_with groups took));
    cuts = λ k low. dite (ℕ_discrete k (length groups))
        (λ is. subst (λ n. shows (InLine (suc n) (of_sender s (taken_to (suc n) (groups ++ took ∷ []))))) (sym is)
        (subst (λ ls. shows (InLine (suc (length groups)) ls)) (t.lines_are ∙ ap (of_sender s) (sym (to-all groups took))) (t.behind refl)))
        (λ isnt. let less : k < length groups = (let many = many_with groups took in omega (arith, low, many, isnt)) in
        subst (λ g. shows (InLine (suc k) (of_sender s g))) (sym (to-front k groups took less)) (t.cuts k less));
    behind = λ w. absurd (true≢false (sym w));
  }

  -- where it was not sent, the channel is told to wait behind its barrier still
  pub snapshot_is_unsent : (lines : List (List ℕ)) (groups : List Group) (took : Group) (waits : Bool) → TakenOn shows lines s (groups ++ took ∷ []) [] waits → TakenOn shows lines s groups took true
  snapshot_is_unsent lines groups took waits t =
      let are : lines ≡ of_sender s (all_in groups ++ took) = t.lines_are ∙ ap (of_sender s) (append-nil (all_in (groups ++ took ∷ [])) ∙ all_with groups took) in
      record {
        lines_are = are;
        cuts = λ k low. subst (λ g. shows (InLine (suc k) (of_sender s g))) (to-front k groups took low) (t.cuts k (let many = many_with groups took in omega (arith, low, many)));
        behind = λ w. subst (λ ls. shows (InLine (suc (length groups)) ls)) (ap (of_sender s) (to-all groups took) ∙ sym are) (t.cuts (length groups) (let many = many_with groups took in omega (arith, many)));
      }

-- ---- chapters

taken_of : (k : ℕ) (chapters : List Chapter) → taken_to k (map (λ (c : Chapter). c.took) chapters) ≡ took_before k chapters
taken_of zero chapters = refl
taken_of (suc k) [] = refl
taken_of (suc k) (c ∷ chapters) = ap (λ l. c.took ++ l) (taken_of k chapters)

-- where the first groups are what chapters took, what was taken up to a snapshot is what they took before it
pub taken_in_chapters : (k : ℕ) (groups more : List Group) (chapters : List Chapter) → groups ≡ map (λ (c : Chapter). c.took) chapters ++ more → k ≤ length chapters → taken_to k groups ≡ took_before k chapters
taken_in_chapters k groups more chapters are low =
    ap (taken_to k) are
    ∙ ap all_in (take-front k (map (λ (c : Chapter). c.took) chapters) more (let many = length-map chapters (λ (c : Chapter). c.took) in omega (arith, many, low)))
    ∙ taken_of k chapters

pub many_chapters : (groups more : List Group) (chapters : List Chapter) → groups ≡ map (λ (c : Chapter). c.took) chapters ++ more → (k : ℕ) → k < length chapters → k < length groups
many_chapters groups more chapters are k low =
    let many = ap length are ∙ length-append (map (λ (c : Chapter). c.took) chapters) more in
    let each = length-map chapters (λ (c : Chapter). c.took) in
    omega (arith, many, each, low)
