-- Each task and channel stands at its place.
use Rattle.std.proofs.Common.{◌≡◌, ℕ, zero, suc, ◌+◌, ◌*◌, ◌<◌, ◌≤◌, Bool, true, cond, eqb, List, [], ◌∷◌, ◌++◌, length, Some, refl, sym, ap, subst, ◌∙◌, arith, inl, inr, length-append}
use Rattle.std.specs.Prelude.{slice_get}
use Rattle.std.proofs.lemmas.Bool.{cond-true, cond-false, cases_lt, cases_eq, eqb-true, eq-eqb, ne_eqb, and_from, le-leb, lt-ltb}
use Rattle.flow_defs.specs.declared.job.Job.{Job}
use Rattle.flow_defs.specs.declared.job.Exchange.{Exchange}
use Rattle.flow_defs.specs.declared.job.Exchange.TheVariants.{Hash, Rebalance, Forward}
use Rattle.flow_defs.specs.Jobs.{last_edge, tasks, exchange, joins, is_channel, width, edge_width, sum_below, IsJob}
use Rattle.plain_machine.specs.Worth.{concat_below}
use Rattle.plain_machine.specs.Places.{channels_from, place_on_edge}
use Rattle.plain_machine.specs.Theorems.{SendersStandInOrder, ReceiversStandInOrder, ChannelsStandInOrder, ChannelsFillEdges}
use Rattle.plain_machine.proofs.Channels.{ends_of}

pub concat_below-ext : {X : Type 0} (n : ℕ) (f g : ℕ → List X) → ((i : ℕ) → i < n → f i ≡ g i) → concat_below n f ≡ concat_below n g
concat_below-ext zero f g same = refl
concat_below-ext (suc n) f g same =
    ap (λ xs. xs ++ f n) (concat_below-ext n f g (λ i low. same i (omega arith))) ∙ ap (λ xs. concat_below n g ++ xs) (same n (omega arith))

get-front : {X : Type 0} (xs ys : List X) (i : ℕ) → i < length xs → slice_get (xs ++ ys) i ≡ slice_get xs i
get-front [] ys i low = absurd (omega arith)
get-front (x ∷ xs) ys zero low = refl
get-front (x ∷ xs) ys (suc i) low = get-front xs ys i (omega arith)

get-behind : {X : Type 0} (xs ys : List X) (j : ℕ) → slice_get (xs ++ ys) (length xs + j) ≡ slice_get ys j
get-behind [] ys j = ap (slice_get ys) (let z : 0 + j ≡ j = omega arith in z)
get-behind (x ∷ xs) ys j = ap (slice_get (x ∷ (xs ++ ys))) (let z : suc (length xs) + j ≡ suc (length xs + j) = omega arith in z) ∙ get-behind xs ys j

-- how many stand below
pub length-concat_below : {X : Type 0} (n : ℕ) (f : ℕ → List X) (g : ℕ → ℕ) → ((i : ℕ) → i < n → length (f i) ≡ g i) → length (concat_below n f) ≡ sum_below n g
length-concat_below zero f g many = refl
length-concat_below (suc n) f g many =
    length-append (concat_below n f) (f n) ∙ ap (λ k. k + length (f n)) (length-concat_below n f g (λ i low. many i (omega arith))) ∙ ap (λ k. sum_below n g + k) (many n (omega arith))

pub sum_below-within : (n : ℕ) (g : ℕ → ℕ) (i : ℕ) → i < n → sum_below i g + g i ≤ sum_below n g
sum_below-within zero g i low = absurd (omega arith)
sum_below-within (suc n) g i low = elim (cases_lt i n) [
  | inl below ↦ let deep = sum_below-within n g i below in omega (arith, deep)
  | inr above ↦ let same : i ≡ n = omega arith in subst (λ k. sum_below k g + g k ≤ sum_below n g + g n) (sym same) (omega arith)
]

-- the j-th of the i-th list
get-concat_below : {X : Type 0} (n : ℕ) (f : ℕ → List X) (g : ℕ → ℕ) (i j : ℕ) → ((i : ℕ) → i < n → length (f i) ≡ g i) → i < n → j < g i → slice_get (concat_below n f) (sum_below i g + j) ≡ slice_get (f i) j
get-concat_below zero f g i j many low inside = absurd (omega arith)
get-concat_below (suc n) f g i j many low inside =
    let all : length (concat_below n f) ≡ sum_below n g = length-concat_below n f g (λ k l. many k (omega arith)) in
    elim (cases_lt i n) [
      | inl below ↦
          let deep = sum_below-within n g i below in
          get-front (concat_below n f) (f n) (sum_below i g + j) (omega (arith, all, deep, inside)) ∙ get-concat_below n f g i j (λ k l. many k (omega arith)) below inside
      | inr above ↦
          let same : i ≡ n = omega arith in
          subst (λ k. slice_get (concat_below n f ++ f n) (sum_below k g + j) ≡ slice_get (f k) j) (sym same)
          (ap (λ k. slice_get (concat_below n f ++ f n) (k + j)) (sym all) ∙ get-behind (concat_below n f) (f n) j)
    ]

pub sum_same : (n k : ℕ) → sum_below n (λ i. k) ≡ n * k
sum_same zero k = omega arith
sum_same (suc n) k = let deep = sum_same n k in omega (arith, deep)

-- ---- tasks

pub length-each : {X : Type 0} (n : ℕ) (f : ℕ → X) → length (concat_below n (λ a. f a ∷ [])) ≡ n
length-each n f = length-concat_below n (λ a. f a ∷ []) (λ i. 1) (λ _ _. refl) ∙ sum_same n 1 ∙ (let z : n * 1 ≡ n = omega arith in z)

get-each : {X : Type 0} (n : ℕ) (f : ℕ → X) (a : ℕ) → a < n → slice_get (concat_below n (λ a. f a ∷ [])) a ≡ Some (f a)
get-each n f a low =
    ap (slice_get (concat_below n (λ a. f a ∷ []))) (let ones = sum_same a 1 in let z : a ≡ sum_below a (λ i. 1) + 0 = omega (arith, ones) in z)
    ∙ get-concat_below n (λ a. f a ∷ []) (λ i. 1) a 0 (λ i _. refl) low (omega arith)

pub senders_stand : SendersStandInOrder
senders_stand job i a low here =
    get-concat_below (suc (last_edge job)) (λ i. concat_below (tasks job i) (λ a. (i, a) ∷ [])) (tasks job) i a
    (λ k _. length-each (tasks job k) (λ a. (k, a))) (omega arith) here
    ∙ get-each (tasks job i) (λ a. (i, a)) a here

pub receivers_stand : ReceiversStandInOrder
receivers_stand job e b low here =
    get-concat_below (suc (last_edge job)) (λ e. concat_below (tasks job (suc e)) (λ b. (suc e, b) ∷ [])) (λ e. tasks job (suc e)) e b
    (λ k _. length-each (tasks job (suc k)) (λ b. (suc k, b))) (omega arith) here
    ∙ get-each (tasks job (suc e)) (λ b. (suc e, b)) b here

-- ---- channels

-- what stands for the channels of one sender, how many they are, and where the one to task b is
abbrev row : {X : Type 0} → Exchange → ℕ → ℕ → (ℕ → X) → List X
row x n a f = concat_below n (λ b. cond (joins x a b) (f b ∷ []) [])

abbrev row_width : Exchange → ℕ → ℕ
row_width Hash n = n
row_width Rebalance n = n
row_width Forward n = 1

abbrev place_in_row : Exchange → ℕ → ℕ
place_in_row Hash b = b
place_in_row Rebalance b = b
place_in_row Forward b = 0

none_elsewhere : {X : Type 0} (n a : ℕ) (f : ℕ → X) → n ≤ a → row Forward n a f ≡ []
none_elsewhere zero a f high = refl
none_elsewhere (suc n) a f high =
    ap (λ xs. xs ++ cond (eqb a n) (f n ∷ []) []) (none_elsewhere n a f (omega arith)) ∙ cond-false (eqb a n) (f n ∷ []) [] (ne_eqb a n (λ e. omega arith))

one_there : {X : Type 0} (n a : ℕ) (f : ℕ → X) → a < n → row Forward n a f ≡ f a ∷ []
one_there zero a f low = absurd (omega arith)
one_there (suc n) a f low = elim (cases_eq a n) [
  | inl e ↦ ap (λ xs. xs ++ cond (eqb a n) (f n ∷ []) []) (none_elsewhere n a f (omega arith)) ∙ cond-true (eqb a n) (f n ∷ []) [] (eq-eqb a n e) ∙ ap (λ k. f k ∷ []) (sym e)
  | inr ne ↦ ap (λ xs. xs ++ cond (eqb a n) (f n ∷ []) []) (one_there n a f (omega arith)) ∙ ap (λ xs. f a ∷ xs) (cond-false (eqb a n) (f n ∷ []) [] (ne_eqb a n ne))
]

length-row : {X : Type 0} (x : Exchange) (m n a : ℕ) (f : ℕ → X) → (x ≡ Forward → m ≡ n) → a < m → length (row x n a f) ≡ row_width x n
length-row Hash m n a f wide low = length-each n f
length-row Rebalance m n a f wide low = length-each n f
length-row Forward m n a f wide low = ap length (one_there n a f (let same = wide refl in omega (arith, same, low)))

get-row : {X : Type 0} (x : Exchange) (n a b : ℕ) (f : ℕ → X) → b < n → joins x a b ≡ true → slice_get (row x n a f) (place_in_row x b) ≡ Some (f b)
get-row Hash n a b f low joined = get-each n f b low
get-row Rebalance n a b f low joined = get-each n f b low
get-row Forward n a b f low joined =
    let same : a ≡ b = eqb-true a b joined in
    ap (λ xs. slice_get xs 0) (one_there n a f (omega (arith, same, low))) ∙ ap (λ k. Some (f k)) same

in_row : (x : Exchange) (n b : ℕ) → b < n → place_in_row x b < row_width x n
in_row Hash n b low = low
in_row Rebalance n b low = low
in_row Forward n b low = omega arith

rows_before : (x : Exchange) (n a b : ℕ) → place_on_edge x n a b ≡ sum_below a (λ i. row_width x n) + place_in_row x b
rows_before Hash n a b = ap (λ k. k + b) (sym (sum_same a n))
rows_before Rebalance n a b = ap (λ k. k + b) (sym (sum_same a n))
rows_before Forward n a b = let ones = sum_same a 1 in omega (arith, ones)

rows_fill : (x : Exchange) (m n : ℕ) → sum_below m (λ a. row_width x n) ≡ width x m n
rows_fill Hash m n = sum_same m n
rows_fill Rebalance m n = sum_same m n
rows_fill Forward m n = sum_same m 1 ∙ (let z : m * 1 ≡ m = omega arith in z)

-- the channels of one sender are such a row
row_of : (job : Job) (e a : ℕ) → e ≤ last_edge job → a < tasks job e → channels_from job e a ≡ row (exchange job e) (tasks job (suc e)) a (λ b. (e, a, b))
row_of job e a low here =
    concat_below-ext (tasks job (suc e)) _ _ (λ b there.
    ap (λ (t : Bool). cond t ((e, a, b) ∷ []) []) (all b there))
  where
    all : (b : ℕ) → b < tasks job (suc e) → is_channel job e a b ≡ joins (exchange job e) a b
    all b there = ap (λ t. Rattle.std.specs.Prelude.◌&&◌ t (joins (exchange job e) a b)) (and_from _ _ (and_from _ _ (le-leb _ _ low) (lt-ltb _ _ here)) (lt-ltb _ _ there))

length-from : (job : Job) (e a : ℕ) → IsJob job → e ≤ last_edge job → a < tasks job e → length (channels_from job e a) ≡ row_width (exchange job e) (tasks job (suc e))
length-from job e a is low here =
    ap length (row_of job e a low here) ∙ length-row (exchange job e) (tasks job e) (tasks job (suc e)) a (λ b. (e, a, b)) (is.widths e low) here

pub length-edge : (job : Job) (e : ℕ) → IsJob job → e ≤ last_edge job → length (concat_below (tasks job e) (channels_from job e)) ≡ edge_width job e
length-edge job e is low =
    length-concat_below (tasks job e) (channels_from job e) (λ a. row_width (exchange job e) (tasks job (suc e))) (λ a here. length-from job e a is low here)
    ∙ rows_fill (exchange job e) (tasks job e) (tasks job (suc e))

pub channels_fill : ChannelsFillEdges
channels_fill job is =
    length-concat_below (suc (last_edge job)) (λ e. concat_below (tasks job e) (channels_from job e)) (edge_width job) (λ e low. length-edge job e is (omega arith))

pub channels_stand : ChannelsStandInOrder
channels_stand job e a b is on =
    let ends = ends_of job e a b on in
    let x = exchange job e in
    let n = tasks job (suc e) in
    let before = rows_before x n a b in
    let within : place_on_edge x n a b < edge_width job e =
    (let deep = sum_below-within (tasks job e) (λ i. row_width x n) a ends.sender in
    let inside = in_row x n b ends.receiver in
    let fill = rows_fill x (tasks job e) n in
    omega (arith, before, deep, inside, fill)) in
    get-concat_below (suc (last_edge job)) (λ e. concat_below (tasks job e) (channels_from job e)) (edge_width job) e (place_on_edge x n a b)
    (λ k low. length-edge job k is (omega arith)) (omega (arith, ends.edge)) within
    ∙ ap (slice_get (concat_below (tasks job e) (channels_from job e))) before
    ∙ get-concat_below (tasks job e) (channels_from job e) (λ i. row_width x n) a (place_in_row x b)
    (λ i here. length-from job e i is ends.edge here) ends.sender (in_row x n b ends.receiver)
    ∙ ap (λ xs. slice_get xs (place_in_row x b)) (row_of job e a ends.edge ends.sender)
    ∙ get-row x n a b (λ b. (e, a, b)) ends.receiver ends.joined
