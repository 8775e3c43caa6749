-- The rule of a cell, and what its steps tell. Tickets, the ticket that is served, seats and the history are this project's own choice.
-- There is one history. While no pass has its turn, the state is at home in the slot and stands for the history.
use Rattle.std.specs.Prelude.{◌≡◌, ◌≢◌, ℕ, ◌+◌, ◌%◌, ◌^◌, ◌<◌, ◌≤◌, ◌⊎◌, ◌==◌, cond, Bool, true, false, List, [], ◌∷◌, ◌++◌, map, length, slice_index, Option, None, Some}
use mathlib.Core.Option as may
use lib.ListN.{get_elem?}
use Rattle.atomic_table.specs.Table.{State, Me, Step}
use Rattle.turn_cell.specs.declared.rule.View.{View}
use Rattle.turn_cell.specs.declared.rule.Past.{Past}
use Rattle.turn_cell.specs.declared.rule.Opening.{Opening}
use Rattle.turn_cell.specs.declared.rule.Stage.{Stage}
use Rattle.turn_cell.specs.declared.rule.Stage.TheVariants.{Away, Waits, Turns}
use Rattle.turn_cell.specs.History.{by, StartsWith, told, seen_by}

-- x is one of xs
abbrev pub Has : {A : Type 0} → A → List A → Type 0
Has x [] = ⊥
Has x (y ∷ ys) = (x ≡ y) ⊎ Has x ys

-- the weights of all items, added up
abbrev pub total : {A : Type 0} → (A → ℕ) → List A → ℕ
total f [] = 0
total f (x ∷ xs) = f x + total f xs

abbrev pub one_if : Bool → ℕ
one_if true = 1
one_if false = 0

-- 1 where the two are one number, else 0
abbrev pub is_number : ℕ → ℕ → ℕ
is_number k n = one_if (k == n)

abbrev pub is_turn : Stage → Bool
is_turn Away = false
is_turn (Waits t) = false
is_turn (Turns t) = true

abbrev pub is_waiting : Stage → Bool
is_waiting Away = false
is_waiting (Waits t) = true
is_waiting (Turns t) = false

abbrev pub ticket_of : Stage → ℕ
ticket_of Away = 0
ticket_of (Waits t) = t
ticket_of (Turns t) = t

-- how many tickets a pass has out
abbrev pub tickets_of : Stage → ℕ
tickets_of Away = 0
tickets_of (Waits t) = 1
tickets_of (Turns t) = 1

-- how many of them are this one
abbrev pub ticket_is : ℕ → Stage → ℕ
ticket_is k Away = 0
ticket_is k (Waits t) = is_number k t
ticket_is k (Turns t) = is_number k t

abbrev pub but_first : {A : Type 0} → List A → List A
but_first [] = []
but_first (x ∷ xs) = xs

module _ {A E : Type 0} where
  -- how many passes stand at this seat: its own, and those that it took in
  abbrev pub weight : View A E → ℕ
  weight v = one_if v.live + length v.gathered

  -- how many of them have this number
  abbrev pub bears : ℕ → View A E → ℕ
  bears k v = cond v.live (is_number k v.number) 0 + total (λ (p : Past E). is_number k p.number) v.gathered

  abbrev pub has_ticket : View A E → ℕ
  has_ticket v = tickets_of v.stage

  abbrev pub at_ticket : ℕ → View A E → ℕ
  at_ticket t v = ticket_is t v.stage

  abbrev pub turning : View A E → ℕ
  turning v = one_if (is_turn v.stage)

  abbrev pub newcomer : ℕ → ℕ → Option A → List (ℕ × E) → View A E
  newcomer number made about seen = record { live = true; number = number; made = made; about = about; seen = seen; mine = []; sights = []; stage = Away; gathered = [] }

  -- what is left of a seat that another took in
  abbrev pub spent : View A E
  spent = record { live = false; number = 0; made = 0; about = None; seen = []; mine = []; sights = []; stage = Away; gathered = [] }

  abbrev pub sees : View A E → List (ℕ × E) → View A E
  sees v log = record v { seen = log }

  abbrev pub past : View A E → Past E
  past w = record { number = w.number; seen = w.seen; mine = w.mine; sights = w.sights }

  abbrev pub gathering : View A E → List (Past E) → View A E
  gathering v l = record v { gathered = l }

  abbrev pub gathers : View A E → View A E → View A E
  gathers v w = gathering v (past w ∷ v.gathered)

  -- the pass that was taken in last, which has then seen what the pass that took it in has seen
  abbrev pub released : Option A → List (ℕ × E) → List (Past E) → View A E
  released about seen [] = spent
  released about seen (p ∷ ps) = record { live = true; number = p.number; made = 0; about = about; seen = seen; mine = p.mine; sights = p.sights; stage = Away; gathered = [] }

  -- the first pass, after it has made another
  abbrev pub maker : View A E → View A E
  maker v = record v { made = v.made + 1 }

  abbrev pub waits : View A E → ℕ → View A E
  waits v t = record v { stage = Waits t }

  -- it looks, and sees this history
  abbrev pub having_looked : View A E → List (ℕ × E) → View A E
  having_looked v log = record v { seen = log; sights = v.sights ++ log ∷ [] }

  abbrev pub turns : View A E → ℕ → List (ℕ × E) → View A E
  turns v t log = record v { seen = log; sights = v.sights ++ log ∷ []; stage = Turns t }

  abbrev pub enters : E → View A E → View A E
  enters e v = record v { seen = v.seen ++ (v.number, e) ∷ []; mine = v.mine ++ e ∷ [] }

  abbrev pub leaves : View A E → View A E
  leaves v = record v { stage = Away }

-- what a seat knows of the history and the tickets, by its stage
module _ {E : Type 0} (log : List (ℕ × E)) (drawn served : ℕ) where
  abbrev pub Stands : Bool → List (ℕ × E) → Stage → Type 0
  Stands live seen Away = Unit {0}
  Stands live seen (Waits t) = (live ≡ true) × (served ≤ t) × (t < drawn)
  Stands live seen (Turns t) = (live ≡ true) × (t ≡ served) × (t < drawn) × (seen ≡ log)

-- This word counts the entries of the history, as far as a word can: it never goes back to 0
abbrev pub Counts : {A : Type 0} → ℕ → List A → Type 0
Counts n history = (n ≤ length history) × (n + 1 < 2 ^ 64 → n ≡ length history)

-- what is known of a pass that was taken in
module _ {E : Type 0} (moments : List (ℕ × Option E)) (made : ℕ) where
  pub record IsGone (p : Past E) : Type 0 where
    pub prefix : StartsWith (told moments) p.seen
    pub mine : by p.number (told moments) ≡ p.mine
    pub sights : seen_by p.number moments ≡ p.sights
    pub below : p.number < made

module _ {A E : Type 0} (moments : List (ℕ × Option E)) (base : A) (drawn served made : ℕ) where
  pub record Knows (v : View A E) : Type 0 where
    pub prefix : StartsWith (told moments) v.seen
    pub mine : v.live ≡ true → by v.number (told moments) ≡ v.mine
    pub sights : v.live ≡ true → seen_by v.number moments ≡ v.sights
    pub below : v.live ≡ true → v.number < made
    pub about : v.live ≡ true → v.about ≡ Some base
    pub making : 0 < v.made → (v.made ≡ made) × (v.live ≡ true) × (v.number ≡ 0)
    pub gone : (p : Past E) → Has p v.gathered → IsGone moments made p
    pub stage : Stands (told moments) drawn served v.live v.seen v.stage

module _ {S F E : Type 0} (stands : S → List (ℕ × E) → Type 0) (fixed : S → F) where
  -- the state stands for the history, and has the fixed part with which the cell was made
  abbrev pub IsGood : Opening S → List (ℕ × E) → S → Type 0
  IsGood base log x = stands x log × (fixed x ≡ fixed base.state.value)

  abbrev pub Home : Opening S → List (ℕ × E) → List (may.Option (Option S)) → Type 0
  Home base log homes = (x : S) × (homes ≡ may.some (Some x) ∷ []) × IsGood base log x

  pub record Kept (s : State (Option S) (View (Opening S) E)) : Type 0 where
    pub moments : List (ℕ × Option E)
    pub base : Opening S
    pub drawn : ℕ
    pub served : ℕ
    pub made : ℕ
    pub wide : length s.words ≡ 19
    pub next : slice_index s.words 0 ≡ drawn % 2 ^ 64
    pub serving : slice_index s.words 1 ≡ served % 2 ^ 64
    pub news : Counts (slice_index s.words 18) (told moments)
    pub few : base.passes < 2 ^ 32
    pub fits : made ≤ base.passes
    pub counted : drawn ≡ served + total (λ (v : View (Opening S) E). has_ticket v) s.views
    pub passed : total (λ (v : View (Opening S) E). weight v) s.views ≤ made
    pub numbered : (k : ℕ) → made ≤ k → (by k (told moments) ≡ []) × (seen_by k moments ≡ [])
    -- two passes have two numbers, and never one ticket
    pub apart : (k : ℕ) → total (λ (v : View (Opening S) E). bears k v) s.views ≤ 1
    pub ticketed : (t : ℕ) → total (λ (v : View (Opening S) E). at_ticket t v) s.views ≤ 1
    pub each : (i : ℕ) (v : View (Opening S) E) → get_elem? s.views i ≡ may.some v → Knows moments base drawn served made v
    pub slot : Home base (told moments) s.homes ⊎ (1 ≤ total (λ (v : View (Opening S) E). turning v) s.views)

  abbrev Sat : Type 0
  Sat = Me (Option S) (View (Opening S) E)

  -- a pass finds its turn, and takes the state, which is good for a history that begins with what it has seen
  abbrev pub FindsTurn : Sat → Sat → Type 0
  FindsTurn m m' = (x : S) × (log : List (ℕ × E)) × (base : Opening S) × (m' ≡ (turns m.0 (ticket_of m.0.stage) log, (0, Some x) ∷ m.1)) × (m.0.about ≡ Some base) × IsGood base log x × StartsWith log m.0.seen × (by m.0.number log ≡ m.0.mine)

  -- a load of the word of the ticket that is served: a pass that reads its own ticket finds its turn
  abbrev pub looked : Step (Option S) → Sat → ℕ → Sat → Type 0
  looked st m n m' = (n ≡ ticket_of m.0.stage % 2 ^ 64 → FindsTurn m m') × (n ≢ ticket_of m.0.stage % 2 ^ 64 → m' ≡ m)

module _ {S A E : Type 0} where
  abbrev pub drew : Step (Option S) → Me (Option S) (View A E) → ℕ → Me (Option S) (View A E) → Type 0
  drew st m n m' = (t : ℕ) × (n ≡ t % 2 ^ 64) × (m' ≡ (waits m.0 t, m.1))

  -- a load of the word that counts entries, in a turn
  abbrev pub counted : Step (Option S) → Me (Option S) (View A E) → ℕ → Me (Option S) (View A E) → Type 0
  counted st m n m' = (m' ≡ m) × Counts n m.0.seen

  -- The same load outside a turn. Where it finds as many entries as the pass has seen, below the greatest number of a word, the pass has seen the history as it stands, and this is a look of its own
  abbrev pub glanced : Step (Option S) → Me (Option S) (View A E) → ℕ → Me (Option S) (View A E) → Type 0
  glanced st m n m' = ((n ≡ length m.0.seen) × (n + 1 < 2 ^ 64) → m' ≡ (having_looked m.0 m.0.seen, m.1)) × (¬ ((n ≡ length m.0.seen) × (n + 1 < 2 ^ 64)) → m' ≡ m)

  -- a store to that word, with which an entry is in the history
  abbrev pub entered : E → Step (Option S) → Me (Option S) (View A E) → ℕ → Me (Option S) (View A E) → Type 0
  entered e st m n m' = m' ≡ (enters e m.0, m.1)

  abbrev pub left : Step (Option S) → Me (Option S) (View A E) → ℕ → Me (Option S) (View A E) → Type 0
  left st m n m' = m' ≡ (leaves m.0, [])

  -- a step on a word that threads sleep on
  abbrev pub stirred : Step (Option S) → Me (Option S) (View A E) → ℕ → Me (Option S) (View A E) → Type 0
  stirred st m n m' = m' ≡ m

  -- the history now begins with what the pass has seen, and with what each has seen that it took in, and it has the entries of each
  abbrev pub met : Step (Option S) → Me (Option S) (View A E) → ℕ → Me (Option S) (View A E) → Type 0
  met st m n m' = (log : List (ℕ × E)) × (m' ≡ (sees m.0 log, m.1)) × Counts n log × StartsWith log m.0.seen × (by m.0.number log ≡ m.0.mine)
      × ((p : Past E) → Has p m.0.gathered → StartsWith log p.seen × (by p.number log ≡ p.mine))
