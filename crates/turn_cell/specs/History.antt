-- Histories: lists of pairs of a pass's number and an entry, in the order of the turns. They are this project's own choice.
use Rattle.std.specs.Prelude.{◌≡◌, ℕ, ◌==◌, Bool, true, false, List, [], ◌∷◌, ◌++◌, map, Option, None, Some}
use Rattle.std.specs.List.{filter}

-- the entries of one pass, in order
abbrev pub by : {E : Type 0} → ℕ → List (ℕ × E) → List E
by number history = map (λ e. e.1) (filter (λ e. number == e.0) history)

-- the first list begins with the second
abbrev pub StartsWith : {A : Type 0} → List A → List A → Type 0
StartsWith {A} xs ys = (rest : List A) × (xs ≡ ys ++ rest)

-- the entries of all passes, in order
abbrev pub entries_of : {E : Type 0} → List (ℕ × E) → List E
entries_of history = map (λ e. e.1) history

-- each of these might be added to those before it
abbrev pub IsHistory : {A : Type 0} → (List A → A → Type 0) → List A → Type 0
IsHistory {A} MayAdd xs = (before after : List A) (x : A) → xs ≡ before ++ x ∷ after → MayAdd before x

-- a moment's entry, if it has one, behind the history before it
abbrev pub with_entry : {E : Type 0} → ℕ → Option E → List (ℕ × E) → List (ℕ × E)
with_entry number None history = history
with_entry number (Some entry) history = history ++ (number, entry) ∷ []

-- Moments are pairs of a pass's number and the entry that it made, or of no entry where it looked. A list of them has the latest first.
-- This is the history that they tell
abbrev pub told : {E : Type 0} → List (ℕ × Option E) → List (ℕ × E)
told [] = []
told (m ∷ ms) = with_entry m.0 m.1 (told ms)

-- a look sees all that was told before it
abbrev pub with_sight : {E : Type 0} → Option E → Bool → List (ℕ × E) → List (List (ℕ × E)) → List (List (ℕ × E))
with_sight (Some entry) own history before = before
with_sight None true history before = before ++ history ∷ []
with_sight None false history before = before

-- what one pass saw at each of its looks, in order
abbrev pub seen_by : {E : Type 0} → ℕ → List (ℕ × Option E) → List (List (ℕ × E))
seen_by number [] = []
seen_by number (m ∷ ms) = with_sight m.1 (number == m.0) (told ms) (seen_by number ms)
