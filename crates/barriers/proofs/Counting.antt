-- How many channels are waited for, and what a barrier and a save change of it.
use Rattle.std.proofs.Common.{◌≡◌, ℕ, zero, suc, ◌+◌, ◌-◌, ◌^◌, ◌<◌, ◌≤◌, Bool, true, false, cond, ◌&&◌, ◌||◌, eqb, get_or, List, [], ◌∷◌, length, refl, sym, ap, ◌∙◌, subst, arith}
use Rattle.std.specs.Prelude.{Some, slice_get, slice_set, map, replicate, nat_lt}
use Rattle.std.specs.List.{AllByRecursion, list_all, list_any}
use Rattle.std.proofs.lemmas.Bool.{eqb-true, eqb-false, ltb-true, ltb-false, lt-ltb, le-ltb}
use Rattle.std.proofs.lemmas.List.{length-map, length-set, length-replicate, map-set, get_or-set_same, get_or-set_other}
use Rattle.std.proofs.lemmas.Option.{slice_get_within, get_or_from_slice_get}
use Rattle.flow_defs.specs.declared.task.BarrierKind.TheVariants.{Inline, Front}
use Rattle.barriers.specs.declared.aligner.Action.{Action}
use Rattle.barriers.specs.declared.aligner.Action.TheVariants.{Nothing, Block, SnapshotInline, SnapshotFront, Done}
use Rattle.barriers.specs.Alignments.{Barrier, Alignment, MayGive, MayBeSaved, action, action_saved, alignment_next, after_saved, gave_with, is_front, is_last, is_last_saved, is_open, none_of, saved_with}
use Rattle.barriers.specs.Counts.{Counts, seen, waiting}
use Rattle.barriers.specs.Laws.{SavesAreBehind}
use Rattle.barriers.proofs.Given.{counted, opened, closing, resaved, done}

-- the numbers that channels may have
abbrev pub Near : ℕ → ℕ → Type 0
Near closed k = (closed ≤ k) × (k ≤ closed + 1)

pub none_waits : (closed : ℕ) (given : List ℕ) → waiting closed given ≡ 0 → list_all (λ g. g) (map (nat_lt closed) given) ≡ true
none_waits closed [] e = refl
none_waits closed (k ∷ given) e =
    elim (nat_lt closed k) as (λ b. cond b (waiting closed given) (suc (waiting closed given)) ≡ 0 → (b && list_all (λ g. g) (map (nat_lt closed) given)) ≡ true) [
      | true ↦ λ e. none_waits closed given e
      | false ↦ λ e. absurd (omega arith)
    ] e

pub some_waits : (closed : ℕ) (given : List ℕ) → 1 ≤ waiting closed given → list_all (λ g. g) (map (nat_lt closed) given) ≡ false
some_waits closed [] e = absurd (omega arith)
some_waits closed (k ∷ given) e =
    elim (nat_lt closed k) as (λ b. 1 ≤ cond b (waiting closed given) (suc (waiting closed given)) → (b && list_all (λ g. g) (map (nat_lt closed) given)) ≡ false) [
      | true ↦ λ e. some_waits closed given e
      | false ↦ λ e. refl
    ] e

pub waits_at_most : (closed : ℕ) (given : List ℕ) → waiting closed given ≤ length given
waits_at_most closed [] = omega arith
waits_at_most closed (k ∷ given) =
    let rest = waits_at_most closed given in
    elim (nat_lt closed k) as (λ b. cond b (waiting closed given) (suc (waiting closed given)) ≤ suc (length given)) [
      | true ↦ omega (arith, rest)
      | false ↦ omega (arith, rest)
    ]

one_more_each : (a b : ℕ) → nat_lt (suc a) (suc b) ≡ nat_lt a b
one_more_each a b = elim (nat_lt a b) as (λ t. nat_lt a b ≡ t → nat_lt (suc a) (suc b) ≡ t) [
  | true ↦ λ is. let below = ltb-true a b is in lt-ltb (suc a) (suc b) (omega (arith, below))
  | false ↦ λ is. let above = ltb-false a b is in le-ltb (suc a) (suc b) (omega (arith, above))
] refl

-- not all channels are waited for where some have given the barrier of the next checkpoint
pub some_gave : (closed : ℕ) (given : List ℕ) → nat_lt (waiting closed given) (length given) ≡ list_any (λ g. g) (map (nat_lt closed) given)
some_gave closed [] = refl
some_gave closed (k ∷ given) =
    let rest = some_gave closed given in
    let most = waits_at_most closed given in
    elim (nat_lt closed k) as (λ b. nat_lt (cond b (waiting closed given) (suc (waiting closed given))) (suc (length given)) ≡ (b || list_any (λ g. g) (map (nat_lt closed) given))) [
      | true ↦ lt-ltb (waiting closed given) (suc (length given)) (omega (arith, most))
      | false ↦ one_more_each (waiting closed given) (length given) ∙ rest
    ]

-- a checkpoint is open while the task saves, and while some channels have given its barrier
pub open_is : (closed missing : ℕ) (given : List ℕ) (saving : Bool) (saved : List ℕ) → Counts closed missing given saving saved →
    (saving || nat_lt missing (length given)) ≡ is_open (seen closed given saving saved)
open_is closed missing given saving saved h =
    elim saving as (λ s. missing ≡ waiting closed (cond s saved given) → (s || nat_lt missing (length given)) ≡ (s || list_any (λ g. g) (map (nat_lt closed) given))) [
      | true ↦ λ counted. refl
      | false ↦ λ counted. ap (λ n. nat_lt n (length given)) counted ∙ some_gave closed given
    ] h.counted

-- a channel that was waited for is so no longer: one less is
pub one_less : (closed k : ℕ) → closed < k → (given : List ℕ) (i : ℕ) → slice_get (map (nat_lt closed) given) i ≡ Some false → waiting closed given ≡ suc (waiting closed (slice_set given i k))
one_less closed k lt [] i e = absurd (cc)
one_less closed k lt (n ∷ given) zero e =
    let f : nat_lt closed n ≡ false = cc in
    let t : nat_lt closed k ≡ true = lt-ltb closed k lt in
    ap (λ b. cond b (waiting closed given) (suc (waiting closed given))) f ∙ sym (ap (λ b. suc (cond b (waiting closed given) (suc (waiting closed given)))) t)
one_less closed k lt (n ∷ given) (suc i) e =
    let h : waiting closed given ≡ suc (waiting closed (slice_set given i k)) = one_less closed k lt given i e in
    elim (nat_lt closed n) as (λ b. cond b (waiting closed given) (suc (waiting closed given)) ≡ suc (cond b (waiting closed (slice_set given i k)) (suc (waiting closed (slice_set given i k))))) [
      | true ↦ h
      | false ↦ ap suc h
    ]

pub near_set : (closed k : ℕ) → Near closed k → (given : List ℕ) (i : ℕ) → AllByRecursion (Near closed) given → AllByRecursion (Near closed) (slice_set given i k)
near_set closed k near [] i h = h
near_set closed k near (n ∷ given) zero h = (near, h.1)
near_set closed k near (n ∷ given) (suc i) h = (h.0, near_set closed k near given i h.1)

near_at : (closed : ℕ) (given : List ℕ) (i : ℕ) → i < length given → AllByRecursion (Near closed) given → Near closed (get_or given i 0)
near_at closed [] i lt h = absurd (omega arith)
near_at closed (k ∷ given) zero lt h = h.0
near_at closed (k ∷ given) (suc i) lt h = near_at closed given i (omega arith) h.1

-- where none is waited for, all have the number of the next checkpoint
pub near_next : (closed : ℕ) (given : List ℕ) → waiting closed given ≡ 0 → AllByRecursion (Near closed) given → AllByRecursion (λ k. k ≡ closed + 1) given
near_next closed [] e h = tt
near_next closed (k ∷ given) e h =
    elim (nat_lt closed k) as (λ b. nat_lt closed k ≡ b → cond b (waiting closed given) (suc (waiting closed given)) ≡ 0 → AllByRecursion (λ k. k ≡ closed + 1) (k ∷ given)) [
      | true ↦ λ is e. let lt : closed < k = ltb-true closed k is in let near = h.0 in (omega arith, near_next closed given e h.1)
      | false ↦ λ is e. absurd (omega arith)
    ] refl e

-- where none is waited for, each number is later than those closed
none_waits_at : (closed : ℕ) (saved : List ℕ) (i : ℕ) → i < length saved → waiting closed saved ≡ 0 → closed < get_or saved i 0
none_waits_at closed [] i lt e = absurd (omega arith)
none_waits_at closed (k ∷ saved) i lt e =
    elim (nat_lt closed k) as (λ b. nat_lt closed k ≡ b → cond b (waiting closed saved) (suc (waiting closed saved)) ≡ 0 → closed < get_or (k ∷ saved) i 0) [
      | true ↦ λ is e. elim i as (λ i. i < length (k ∷ saved) → closed < get_or (k ∷ saved) i 0) [
        | zero ↦ λ lt. ltb-true closed k is
        | suc i ↦ λ lt. none_waits_at closed saved i (omega arith) e
      ] lt
      | false ↦ λ is e. absurd (omega arith)
    ] refl e

pub near_same : (c : ℕ) (given : List ℕ) → AllByRecursion (λ k. k ≡ c) given → AllByRecursion (Near c) given
near_same c [] h = tt
near_same c (k ∷ given) h = let e : k ≡ c = h.0 in ((omega arith, omega arith), near_same c given h.1)

-- ---- none is later than those closed

pub below_same : (c : ℕ) (given : List ℕ) → AllByRecursion (λ k. k ≡ c) given → AllByRecursion (λ k. k ≤ c) given
below_same c [] h = tt
below_same c (k ∷ given) h = let e : k ≡ c = h.0 in (omega arith, below_same c given h.1)

below_later : (c d : ℕ) → c ≤ d → (saved : List ℕ) → AllByRecursion (λ k. k ≤ c) saved → AllByRecursion (λ k. k ≤ d) saved
below_later c d le [] h = tt
below_later c d le (k ∷ saved) h = let e : k ≤ c = h.0 in (omega (arith, e, le), below_later c d le saved h.1)

below_each : (c : ℕ) (saved : List ℕ) → ((i : ℕ) → i < length saved → get_or saved i 0 ≤ c) → AllByRecursion (λ k. k ≤ c) saved
below_each c [] h = tt
below_each c (k ∷ saved) h = (h 0 (omega arith), below_each c saved (λ i lt. h (suc i) (omega arith)))

pub all_wait : (c : ℕ) (given : List ℕ) → AllByRecursion (λ k. k ≤ c) given → waiting c given ≡ length given
all_wait c [] h = refl
all_wait c (k ∷ given) h =
    let e : k ≤ c = h.0 in
    let f : nat_lt c k ≡ false = le-ltb c k e in
    ap (λ b. cond b (waiting c given) (suc (waiting c given))) f ∙ ap suc (all_wait c given h.1)

pub none_gave : (c : ℕ) (given : List ℕ) (gave : List Bool) → AllByRecursion (λ k. k ≤ c) given → length given ≡ length gave → map (nat_lt c) given ≡ none_of gave
none_gave c [] [] h e = refl
none_gave c [] (g ∷ gave) h e = absurd (omega arith)
none_gave c (k ∷ given) [] h e = absurd (omega arith)
none_gave c (k ∷ given) (g ∷ gave) h e =
    let below : k ≤ c = h.0 in
    let f : nat_lt c k ≡ false = le-ltb c k below in
    ap (λ b. b ∷ map (nat_lt c) given) f ∙ ap (λ bs. false ∷ bs) (none_gave c given gave h.1 (omega arith))

-- ---- at the start

pub first_same : (n : ℕ) → AllByRecursion (λ (k : ℕ). k ≡ 0) (replicate n 0)
first_same zero = tt
first_same (suc n) = (refl, first_same n)

first_at : (n i : ℕ) → get_or (replicate n 0) i 0 ≤ 0
first_at zero i = omega arith
first_at (suc n) zero = omega arith
first_at (suc n) (suc i) = first_at n i

pub first_gave : (n : ℕ) → map (nat_lt 0) (replicate n 0) ≡ replicate n false
first_gave zero = refl
first_gave (suc n) = ap (λ gs. false ∷ gs) (first_gave n)

pub first_counts : (n : ℕ) → 1 ≤ n → n < 2 ^ 32 → Counts 0 n (replicate n 0) false (replicate n 0)
first_counts n some small =
    record {
      each = near_same 0 (replicate n 0) (first_same n);
      counted = sym (all_wait 0 (replicate n 0) (below_same 0 (replicate n 0) (first_same n)) ∙ length-replicate n 0);
      some = some;
      small = subst (λ m. m < 2 ^ 32) (sym (length-replicate n 0)) small;
      as_many = refl;
      behind = λ c lt. first_at n c;
    }

-- ---- at a barrier

abbrev alignment : ℕ → List Bool → Bool → List Bool → Alignment
alignment closed gave saving saved = record { closed = closed; gave = gave; saving = saving; saved = saved }

-- what is true after a barrier, with the numbers that are kept then, and the answer
pub record Stepped (a : Alignment) (b : Barrier) (closed missing : ℕ) (given : List ℕ) (saving : Bool) (saved : List ℕ) (answer : Action) : Type 0 where
  pub counts : Counts closed missing given saving saved
  pub action_is : answer ≡ action a b
  pub after_is : seen closed given saving saved ≡ alignment_next a b

gave_is : (closed k : ℕ) (given : List ℕ) (i : ℕ) → closed < k → map (nat_lt closed) (slice_set given i k) ≡ slice_set (map (nat_lt closed) given) i true
gave_is closed k given i lt = map-set (nat_lt closed) given i k ∙ ap (λ g. slice_set (map (nat_lt closed) given) i g) (lt-ltb closed k lt)

within_of : (closed : ℕ) (given : List ℕ) (i : ℕ) (flag : Bool) → slice_get (map (nat_lt closed) given) i ≡ Some flag → i < length given
within_of closed given i flag e = subst (λ n. i < n) (length-map given (nat_lt closed)) (slice_get_within (map (nat_lt closed) given) i flag e)

-- while the task doesn't save, no channel was saved for the next checkpoint
none_saved : (closed missing : ℕ) (given saved : List ℕ) → Counts closed missing given false saved → AllByRecursion (λ k. k ≤ closed) saved
none_saved closed missing given saved h = below_each closed saved (λ i lt. h.behind i (subst (λ n. i < n) h.as_many lt))

counts_at : (closed missing : ℕ) (given saved : List ℕ) (b : Barrier) → Counts closed missing given true saved → MayGive (seen closed given true saved) b →
    Stepped (seen closed given true saved) b closed missing (slice_set given b.channel b.number) true saved Nothing
counts_at closed missing given saved b h may =
    let number = may.number in
    let new = slice_set given b.channel b.number in
    let len : length new ≡ length given = length-set given b.channel b.number in
    let within : b.channel < length given = within_of closed given b.channel false may.once in
    record {
      counts = record {
        each = near_set closed b.number (omega arith, omega arith) given b.channel h.each;
        counted = h.counted;
        some = h.some;
        small = subst (λ n. n < 2 ^ 32) (sym len) h.small;
        as_many = h.as_many ∙ sym len;
        behind = λ c lt.
            let lt' : c < length given = subst (λ n. c < n) len lt in
            let was : get_or saved c 0 ≤ get_or given c 0 = h.behind c lt' in
            elim (eqb c b.channel) as (λ t. eqb c b.channel ≡ t → get_or saved c 0 ≤ get_or new c 0) [
              | true ↦ λ is.
                  let near = near_at closed given c lt' h.each in
                  let now : get_or new c 0 ≡ b.number = ap (λ i. get_or new i 0) (eqb-true c b.channel is) ∙ get_or-set_same given b.channel b.number 0 within in
                  omega (arith, was, near.1, now, number)
              | false ↦ λ is. subst (λ n. get_or saved c 0 ≤ n) (sym (get_or-set_other given b.channel c b.number 0 (eqb-false c b.channel is))) was
            ] refl;
      };
      action_is = refl;
      after_is = ap (λ gs. alignment closed gs true (map (nat_lt closed) saved)) (gave_is closed b.number given b.channel (omega arith));
    }

fronts_at : (closed missing : ℕ) (given saved : List ℕ) (b : Barrier) → Counts closed missing given false saved → MayGive (seen closed given false saved) b → b.kind ≡ Front →
    Stepped (seen closed given false saved) b closed (length (slice_set given b.channel b.number)) (slice_set given b.channel b.number) true saved (SnapshotFront b.number)
fronts_at closed missing given saved b h may kind =
    let a = seen closed given false saved in
    let number = may.number in
    let new = slice_set given b.channel b.number in
    let len : length new ≡ length given = length-set given b.channel b.number in
    let within : b.channel < length given = within_of closed given b.channel false may.once in
    let below : AllByRecursion (λ k. k ≤ closed) saved = none_saved closed missing given saved h in
    let near : AllByRecursion (Near closed) new = near_set closed b.number (omega arith, omega arith) given b.channel h.each in
    record {
      counts = record {
        each = near;
        counted = len ∙ sym h.as_many ∙ sym (all_wait closed saved below);
        some = omega (arith, within, len);
        small = subst (λ n. n < 2 ^ 32) (sym len) h.small;
        as_many = h.as_many ∙ sym len;
        behind = λ c lt.
            let was : get_or saved c 0 ≤ closed = h.behind c (subst (λ n. c < n) len lt) in
            let now = near_at closed new c lt near in
            omega (arith, was, now.0);
      };
      action_is = ap (λ k. cond (is_front k) (SnapshotFront b.number) (cond (is_last a b) (SnapshotInline b.number) Block)) (sym kind);
      after_is =
          ap (λ gs. alignment closed gs true (map (nat_lt closed) saved)) (gave_is closed b.number given b.channel (omega arith)) ∙
          ap (λ flags. alignment closed (gave_with a b) true flags) (none_gave closed saved (map (nat_lt closed) saved) below (sym (length-map saved (nat_lt closed)))) ∙
          ap (λ k. cond (is_front k) (opened a b) (cond (is_last a b) (closing a b) (counted a b))) (sym kind);
    }

blocks_at : (closed missing : ℕ) (given saved : List ℕ) (b : Barrier) → Counts closed missing given false saved → MayGive (seen closed given false saved) b → b.kind ≡ Inline → 1 ≤ missing - 1 →
    Stepped (seen closed given false saved) b closed (missing - 1) (slice_set given b.channel b.number) false saved Block
blocks_at closed missing given saved b h may kind more =
    let a = seen closed given false saved in
    let number = may.number in
    let still = h.counted in
    let len : length (slice_set given b.channel b.number) ≡ length given = length-set given b.channel b.number in
    let less : waiting closed given ≡ suc (waiting closed (slice_set given b.channel b.number)) = one_less closed b.number (omega arith) given b.channel may.once in
    let gave : map (nat_lt closed) (slice_set given b.channel b.number) ≡ gave_with a b = gave_is closed b.number given b.channel (omega arith) in
    let not_last : is_last a b ≡ false = ap (λ gs. list_all (λ g. g) gs) (sym gave) ∙ some_waits closed (slice_set given b.channel b.number) (omega arith) in
    record {
      counts = record {
        each = near_set closed b.number (omega arith, omega arith) given b.channel h.each;
        counted = omega arith;
        some = more;
        small = subst (λ n. n < 2 ^ 32) (sym len) h.small;
        as_many = h.as_many ∙ sym len;
        behind = λ c lt. h.behind c (subst (λ n. c < n) len lt);
      };
      action_is = ap (λ t. cond t (SnapshotInline b.number) Block) (sym not_last) ∙
          ap (λ k. cond (is_front k) (SnapshotFront b.number) (cond (is_last a b) (SnapshotInline b.number) Block)) (sym kind);
      after_is = ap (λ gs. alignment closed gs false (map (nat_lt closed) saved)) gave ∙ ap (λ t. cond t (closing a b) (counted a b)) (sym not_last) ∙
          ap (λ k. cond (is_front k) (opened a b) (cond (is_last a b) (closing a b) (counted a b))) (sym kind);
    }

snapshots_at : (closed missing : ℕ) (given saved : List ℕ) (b : Barrier) → Counts closed missing given false saved → MayGive (seen closed given false saved) b → b.kind ≡ Inline → missing - 1 ≤ 0 →
    Stepped (seen closed given false saved) b b.number (length (slice_set given b.channel b.number)) (slice_set given b.channel b.number) false saved (SnapshotInline b.number)
snapshots_at closed missing given saved b h may kind none =
    let a = seen closed given false saved in
    let number = may.number in
    let still = h.counted in
    let some = h.some in
    let new = slice_set given b.channel b.number in
    let within : b.channel < length given = within_of closed given b.channel false may.once in
    let len : length new ≡ length given = length-set given b.channel b.number in
    let less : waiting closed given ≡ suc (waiting closed new) = one_less closed b.number (omega arith) given b.channel may.once in
    let none_left : waiting closed new ≡ 0 = omega arith in
    let gave : map (nat_lt closed) new ≡ gave_with a b = gave_is closed b.number given b.channel (omega arith) in
    let last : is_last a b ≡ true = ap (λ gs. list_all (λ g. g) gs) (sym gave) ∙ none_waits closed new none_left in
    let same : AllByRecursion (λ k. k ≡ b.number) new =
    subst (λ n. AllByRecursion (λ k. k ≡ n) new) (sym number) (near_next closed new none_left (near_set closed b.number (omega arith, omega arith) given b.channel h.each)) in
    let gone : map (nat_lt b.number) new ≡ none_of a.gave = none_gave b.number new a.gave (below_same b.number new same) (len ∙ sym (length-map given (nat_lt closed))) in
    let below : AllByRecursion (λ k. k ≤ closed) saved = none_saved closed missing given saved h in
    let flags : length saved ≡ length (map (nat_lt closed) saved) = sym (length-map saved (nat_lt closed)) in
    let later : AllByRecursion (λ k. k ≤ b.number) saved = below_later closed b.number (omega arith) saved below in
    let unsaved : map (nat_lt b.number) saved ≡ map (nat_lt closed) saved =
    none_gave b.number saved (map (nat_lt closed) saved) later flags ∙ sym (none_gave closed saved (map (nat_lt closed) saved) below flags) in
    record {
      counts = record {
        each = near_same b.number new same;
        counted = sym (all_wait b.number new (below_same b.number new same));
        some = omega arith;
        small = subst (λ n. n < 2 ^ 32) (sym len) h.small;
        as_many = h.as_many ∙ sym len;
        behind = λ c lt. let was : get_or saved c 0 ≤ closed = h.behind c (subst (λ n. c < n) len lt) in omega (arith, was, number);
      };
      action_is = ap (λ t. cond t (SnapshotInline b.number) Block) (sym last) ∙
          ap (λ k. cond (is_front k) (SnapshotFront b.number) (cond (is_last a b) (SnapshotInline b.number) Block)) (sym kind);
      after_is = ap (λ gs. alignment b.number gs false (map (nat_lt b.number) saved)) gone ∙ ap (λ flags. alignment b.number (none_of a.gave) false flags) unsaved ∙
          ap (λ t. cond t (closing a b) (counted a b)) (sym last) ∙
          ap (λ k. cond (is_front k) (opened a b) (cond (is_last a b) (closing a b) (counted a b))) (sym kind);
    }

-- the same of an alignment that these numbers stand for
pub counts : (closed missing : ℕ) (given : List ℕ) (saving : Bool) (saved : List ℕ) (a : Alignment) (b : Barrier) → Counts closed missing given saving saved → seen closed given saving saved ≡ a → MayGive a b → saving ≡ true →
    Stepped a b closed missing (slice_set given b.channel b.number) saving saved Nothing
counts closed missing given saving saved a b h e may on =
    subst (λ x. Stepped x b closed missing (slice_set given b.channel b.number) saving saved Nothing) e
    (elim saving as (λ s. s ≡ true → Counts closed missing given s saved → MayGive (seen closed given s saved) b → Stepped (seen closed given s saved) b closed missing (slice_set given b.channel b.number) s saved Nothing) [
      | true ↦ λ on h may. counts_at closed missing given saved b h may
      | false ↦ λ on h may. absurd (cc)
    ] on h (subst (λ x. MayGive x b) (sym e) may))

pub fronts : (closed missing : ℕ) (given : List ℕ) (saving : Bool) (saved : List ℕ) (a : Alignment) (b : Barrier) → Counts closed missing given saving saved → seen closed given saving saved ≡ a → MayGive a b → saving ≡ false → b.kind ≡ Front →
    Stepped a b closed (length (slice_set given b.channel b.number)) (slice_set given b.channel b.number) true saved (SnapshotFront b.number)
fronts closed missing given saving saved a b h e may off kind =
    subst (λ x. Stepped x b closed (length (slice_set given b.channel b.number)) (slice_set given b.channel b.number) true saved (SnapshotFront b.number)) e
    (elim saving as (λ s. s ≡ false → Counts closed missing given s saved → MayGive (seen closed given s saved) b → Stepped (seen closed given s saved) b closed (length (slice_set given b.channel b.number)) (slice_set given b.channel b.number) true saved (SnapshotFront b.number)) [
      | true ↦ λ off h may. absurd (cc)
      | false ↦ λ off h may. fronts_at closed missing given saved b h may kind
    ] off h (subst (λ x. MayGive x b) (sym e) may))

pub blocks : (closed missing : ℕ) (given : List ℕ) (saving : Bool) (saved : List ℕ) (a : Alignment) (b : Barrier) → Counts closed missing given saving saved → seen closed given saving saved ≡ a → MayGive a b → saving ≡ false → b.kind ≡ Inline → 1 ≤ missing - 1 →
    Stepped a b closed (missing - 1) (slice_set given b.channel b.number) saving saved Block
blocks closed missing given saving saved a b h e may off kind more =
    subst (λ x. Stepped x b closed (missing - 1) (slice_set given b.channel b.number) saving saved Block) e
    (elim saving as (λ s. s ≡ false → Counts closed missing given s saved → MayGive (seen closed given s saved) b → Stepped (seen closed given s saved) b closed (missing - 1) (slice_set given b.channel b.number) s saved Block) [
      | true ↦ λ off h may. absurd (cc)
      | false ↦ λ off h may. blocks_at closed missing given saved b h may kind more
    ] off h (subst (λ x. MayGive x b) (sym e) may))

pub snapshots : (closed missing : ℕ) (given : List ℕ) (saving : Bool) (saved : List ℕ) (a : Alignment) (b : Barrier) → Counts closed missing given saving saved → seen closed given saving saved ≡ a → MayGive a b → saving ≡ false → b.kind ≡ Inline → missing - 1 ≤ 0 →
    Stepped a b b.number (length (slice_set given b.channel b.number)) (slice_set given b.channel b.number) saving saved (SnapshotInline b.number)
snapshots closed missing given saving saved a b h e may off kind none =
    subst (λ x. Stepped x b b.number (length (slice_set given b.channel b.number)) (slice_set given b.channel b.number) saving saved (SnapshotInline b.number)) e
    (elim saving as (λ s. s ≡ false → Counts closed missing given s saved → MayGive (seen closed given s saved) b → Stepped (seen closed given s saved) b b.number (length (slice_set given b.channel b.number)) (slice_set given b.channel b.number) s saved (SnapshotInline b.number)) [
      | true ↦ λ off h may. absurd (cc)
      | false ↦ λ off h may. snapshots_at closed missing given saved b h may kind none
    ] off h (subst (λ x. MayGive x b) (sym e) may))

-- ---- at the saved bytes of a channel

-- what is true after a save, with the numbers that are kept then, and the answer
pub record SavedStep (a : Alignment) (channel closed missing : ℕ) (given : List ℕ) (saving : Bool) (saved : List ℕ) (answer : Action) : Type 0 where
  pub counts : Counts closed missing given saving saved
  pub action_is : answer ≡ action_saved a channel
  pub after_is : seen closed given saving saved ≡ after_saved a channel

later_at : (closed : ℕ) (given : List ℕ) (i : ℕ) → get_or (map (nat_lt closed) given) i false ≡ true → (i < length given) × (closed < get_or given i 0)
later_at closed [] i e = absurd (cc)
later_at closed (k ∷ given) zero e = (omega arith, ltb-true closed k e)
later_at closed (k ∷ given) (suc i) e = let h = later_at closed given i e in (omega (arith, h.0), h.1)

at_later : (closed : ℕ) (given : List ℕ) (i : ℕ) → i < length given → closed < get_or given i 0 → get_or (map (nat_lt closed) given) i false ≡ true
at_later closed [] i lt e = absurd (omega arith)
at_later closed (k ∷ given) zero lt e = lt-ltb closed k e
at_later closed (k ∷ given) (suc i) lt e = at_later closed given i (omega arith) e

same_each : (c : ℕ) (given : List ℕ) → ((i : ℕ) → i < length given → get_or given i 0 ≡ c) → AllByRecursion (λ k. k ≡ c) given
same_each c [] h = tt
same_each c (k ∷ given) h = (h 0 (omega arith), same_each c given (λ i lt. h (suc i) (omega arith)))

any_default : (given : List ℕ) (i d e : ℕ) → i < length given → get_or given i d ≡ get_or given i e
any_default [] i d e lt = absurd (omega arith)
any_default (k ∷ given) zero d e lt = refl
any_default (k ∷ given) (suc i) d e lt = any_default given i d e (omega arith)

behind_at : (closed missing : ℕ) (given saved : List ℕ) → Counts closed missing given true saved → SavesAreBehind (seen closed given true saved)
behind_at closed missing given saved h c e =
    let later = later_at closed saved c e in
    let lt : c < length given = subst (λ n. c < n) h.as_many later.0 in
    let behind : get_or saved c 0 ≤ get_or given c 0 = h.behind c lt in
    (refl, at_later closed given c lt (omega (arith, later.1, behind)))

-- a channel that may be saved has given the barrier of the next checkpoint
next_at : (closed missing : ℕ) (given saved : List ℕ) (channel : ℕ) → Counts closed missing given true saved → MayBeSaved (seen closed given true saved) channel →
    (channel < length given) × (get_or given channel 0 ≡ closed + 1)
next_at closed missing given saved channel h may =
    let later = later_at closed given channel (get_or_from_slice_get (map (nat_lt closed) given) channel true false may.gave) in
    let near = near_at closed given channel later.0 h.each in
    (later.0, omega (arith, later.1, near.1))

-- no channel is saved ahead of its barrier, this one neither
behind_with : (closed missing : ℕ) (given saved : List ℕ) (channel : ℕ) → Counts closed missing given true saved → channel < length given → get_or given channel 0 ≡ closed + 1 →
    (c : ℕ) → c < length given → get_or (slice_set saved channel (closed + 1)) c 0 ≤ get_or given c 0
behind_with closed missing given saved channel h within next c lt =
    elim (eqb c channel) as (λ t. eqb c channel ≡ t → get_or (slice_set saved channel (closed + 1)) c 0 ≤ get_or given c 0) [
      | true ↦ λ is.
          let same : c ≡ channel = eqb-true c channel is in
          let now : get_or (slice_set saved channel (closed + 1)) c 0 ≡ closed + 1 = ap (λ i. get_or (slice_set saved channel (closed + 1)) i 0) same ∙ get_or-set_same saved channel (closed + 1) 0 (subst (λ n. channel < n) (sym h.as_many) within) in
          let there : get_or given c 0 ≡ closed + 1 = ap (λ i. get_or given i 0) same ∙ next in
          omega (arith, now, there)
      | false ↦ λ is. subst (λ n. n ≤ get_or given c 0) (sym (get_or-set_other saved channel c (closed + 1) 0 (eqb-false c channel is))) (h.behind c lt)
    ] refl

saves_at : (closed missing : ℕ) (given saved : List ℕ) (channel : ℕ) → Counts closed missing given true saved → MayBeSaved (seen closed given true saved) channel → 1 ≤ missing - 1 →
    SavedStep (seen closed given true saved) channel closed (missing - 1) given true (slice_set saved channel (closed + 1)) Nothing
saves_at closed missing given saved channel h may more =
    let a = seen closed given true saved in
    let at = next_at closed missing given saved channel h may in
    let still = h.counted in
    let new = slice_set saved channel (closed + 1) in
    let less : waiting closed saved ≡ suc (waiting closed new) = one_less closed (closed + 1) (omega arith) saved channel may.once in
    let flags : map (nat_lt closed) new ≡ saved_with a channel = gave_is closed (closed + 1) saved channel (omega arith) in
    let not_last : is_last_saved a channel ≡ false = ap (λ ss. list_all (λ s. s) ss) (sym flags) ∙ some_waits closed new (omega arith) in
    record {
      counts = record {
        each = h.each;
        counted = omega arith;
        some = more;
        small = h.small;
        as_many = length-set saved channel (closed + 1) ∙ h.as_many;
        behind = behind_with closed missing given saved channel h at.0 at.1;
      };
      action_is = ap (λ t. cond t (Done (closed + 1)) Nothing) (sym not_last);
      after_is = ap (λ ss. alignment closed (map (nat_lt closed) given) true ss) flags ∙ ap (λ t. cond t (done a) (resaved a channel)) (sym not_last);
    }

finishes_at : (closed missing : ℕ) (given saved : List ℕ) (channel : ℕ) → Counts closed missing given true saved → MayBeSaved (seen closed given true saved) channel → missing - 1 ≡ 0 →
    SavedStep (seen closed given true saved) channel (closed + 1) (length given) given false (slice_set saved channel (closed + 1)) (Done (closed + 1))
finishes_at closed missing given saved channel h may none =
    let a = seen closed given true saved in
    let at = next_at closed missing given saved channel h may in
    let still = h.counted in
    let some = h.some in
    let new = slice_set saved channel (closed + 1) in
    let len : length new ≡ length saved = length-set saved channel (closed + 1) in
    let less : waiting closed saved ≡ suc (waiting closed new) = one_less closed (closed + 1) (omega arith) saved channel may.once in
    let none_left : waiting closed new ≡ 0 = omega arith in
    let flags : map (nat_lt closed) new ≡ saved_with a channel = gave_is closed (closed + 1) saved channel (omega arith) in
    let last : is_last_saved a channel ≡ true = ap (λ ss. list_all (λ s. s) ss) (sym flags) ∙ none_waits closed new none_left in
    let ahead : (c : ℕ) → c < length given → get_or new c 0 ≤ get_or given c 0 = behind_with closed missing given saved channel h at.0 at.1 in
    let same : AllByRecursion (λ k. k ≡ closed + 1) given = same_each (closed + 1) given (λ c lt.
    let later : closed < get_or new c 0 = none_waits_at closed new c (subst (λ n. c < n) (sym (len ∙ h.as_many)) lt) none_left in
    let near = near_at closed given c lt h.each in
    omega (arith, later, ahead c lt, near.1)) in
    let below : (c : ℕ) → c < length given → get_or new c 0 ≤ closed + 1 = λ c lt. (let near = near_at closed given c lt h.each in omega (arith, ahead c lt, near.1)) in
    record {
      counts = record {
        each = near_same (closed + 1) given same;
        counted = sym (all_wait (closed + 1) given (below_same (closed + 1) given same));
        some = omega (arith, at.0);
        small = h.small;
        as_many = len ∙ h.as_many;
        behind = below;
      };
      action_is = ap (λ t. cond t (Done (closed + 1)) Nothing) (sym last);
      after_is =
          ap (λ gs. alignment (closed + 1) gs false (map (nat_lt (closed + 1)) new)) (none_gave (closed + 1) given a.gave (below_same (closed + 1) given same) (sym (length-map given (nat_lt closed)))) ∙
          ap (λ ss. alignment (closed + 1) (none_of a.gave) false ss)
          (none_gave (closed + 1) new a.saved (below_each (closed + 1) new (λ c lt. below c (subst (λ n. c < n) (len ∙ h.as_many) lt))) (len ∙ sym (length-map saved (nat_lt closed)))) ∙
          ap (λ t. cond t (done a) (resaved a channel)) (sym last);
    }

-- the same of an alignment that these numbers stand for, and of the number that is read
saving_is : (closed : ℕ) (given : List ℕ) (saving : Bool) (saved : List ℕ) (a : Alignment) (channel : ℕ) → seen closed given saving saved ≡ a → MayBeSaved a channel → saving ≡ true
saving_is closed given saving saved a channel e may = ap (λ (x : Alignment). x.saving) e ∙ may.saving

pub saves_are_behind : (closed missing : ℕ) (given : List ℕ) (saving : Bool) (saved : List ℕ) (a : Alignment) (channel : ℕ) → Counts closed missing given saving saved → seen closed given saving saved ≡ a → MayBeSaved a channel → SavesAreBehind a
saves_are_behind closed missing given saving saved a channel h e may =
    subst SavesAreBehind e (subst (λ s. Counts closed missing given s saved → SavesAreBehind (seen closed given s saved)) (sym (saving_is closed given saving saved a channel e may)) (behind_at closed missing given saved) h)

pub saved_as_many : (closed missing : ℕ) (given : List ℕ) (saving : Bool) (saved : List ℕ) (a : Alignment) → Counts closed missing given saving saved → seen closed given saving saved ≡ a → length a.saved ≡ length a.gave
saved_as_many closed missing given saving saved a h e =
    subst (λ (x : Alignment). length x.saved ≡ length x.gave) e (length-map saved (nat_lt closed) ∙ h.as_many ∙ sym (length-map given (nat_lt closed)))

pub next_number : (closed missing : ℕ) (given : List ℕ) (saving : Bool) (saved : List ℕ) (a : Alignment) (channel k : ℕ) → Counts closed missing given saving saved → seen closed given saving saved ≡ a → MayBeSaved a channel →
    k ≡ get_or given channel k → k ≡ closed + 1
next_number closed missing given saving saved a channel k h e may read =
    let on = saving_is closed given saving saved a channel e may in
    let at : (channel < length given) × (get_or given channel 0 ≡ closed + 1) =
    next_at closed missing given saved channel (subst (λ s. Counts closed missing given s saved) on h) (subst (λ s. MayBeSaved (seen closed given s saved) channel) on (subst (λ x. MayBeSaved x channel) (sym e) may)) in
    read ∙ any_default given channel k 0 at.0 ∙ at.1

some_left : (n : ℕ) → (n ≡ 0 → ⊥) → 1 ≤ n
some_left zero not = absurd (not refl)
some_left (suc n) not = omega arith

pub saves : (closed missing : ℕ) (given : List ℕ) (saving : Bool) (saved : List ℕ) (a : Alignment) (channel k : ℕ) → Counts closed missing given saving saved → seen closed given saving saved ≡ a → MayBeSaved a channel →
    k ≡ get_or given channel k → (missing - 1 ≡ 0 → ⊥) → SavedStep a channel closed (missing - 1) given saving (slice_set saved channel k) Nothing
saves closed missing given saving saved a channel k h e may read more =
    subst (λ n. SavedStep a channel closed (missing - 1) given saving (slice_set saved channel n) Nothing) (sym (next_number closed missing given saving saved a channel k h e may read))
    (subst (λ x. SavedStep x channel closed (missing - 1) given saving (slice_set saved channel (closed + 1)) Nothing) e
    (subst (λ s. Counts closed missing given s saved → MayBeSaved (seen closed given s saved) channel → SavedStep (seen closed given s saved) channel closed (missing - 1) given s (slice_set saved channel (closed + 1)) Nothing)
    (sym (saving_is closed given saving saved a channel e may)) (λ h may. saves_at closed missing given saved channel h may (some_left (missing - 1) more)) h (subst (λ x. MayBeSaved x channel) (sym e) may)))

pub finishes : (closed missing : ℕ) (given : List ℕ) (saving : Bool) (saved : List ℕ) (a : Alignment) (channel k : ℕ) → Counts closed missing given saving saved → seen closed given saving saved ≡ a → MayBeSaved a channel →
    k ≡ get_or given channel k → missing - 1 ≡ 0 → SavedStep a channel k (length given) given false (slice_set saved channel k) (Done k)
finishes closed missing given saving saved a channel k h e may read none =
    subst (λ n. SavedStep a channel n (length given) given false (slice_set saved channel n) (Done n)) (sym (next_number closed missing given saving saved a channel k h e may read))
    (subst (λ x. SavedStep x channel (closed + 1) (length given) given false (slice_set saved channel (closed + 1)) (Done (closed + 1))) e
    (subst (λ s. Counts closed missing given s saved → MayBeSaved (seen closed given s saved) channel → SavedStep (seen closed given s saved) channel (closed + 1) (length given) given false (slice_set saved channel (closed + 1)) (Done (closed + 1)))
    (sym (saving_is closed given saving saved a channel e may)) (λ h may. finishes_at closed missing given saved channel h may none) h (subst (λ x. MayBeSaved x channel) (sym e) may)))
