-- Each task has a place of its own among all, and each place is one of a task.
use Rattle.std.proofs.Common.{◌≡◌, ◌≢◌, ◌⊎◌, ℕ, zero, suc, ◌+◌, ◌-◌, ◌*◌, ◌<◌, ◌≤◌, List, [], ◌∷◌, length, Some, refl, sym, ap, ◌∙◌, subst, arith, inl, inr}
use Rattle.std.proofs.lemmas.Bool.{cases_lt}
use Rattle.flow_defs.specs.declared.job.Job.{Job}
use Rattle.flow_defs.specs.declared.job.Exchange.{Exchange}
use Rattle.flow_defs.specs.declared.job.Exchange.TheVariants.{Hash, Rebalance, Forward}
use Rattle.flow_defs.specs.Jobs.{last_edge, tasks, sum_below}
use Rattle.plain_machine.specs.Places.{sending_tasks, receiving_tasks, sender_place, receiver_place, place_on_edge}
use Rattle.plain_machine.specs.Worth.{concat_below}
use Rattle.plain_machine.proofs.PlaceLemmas.{length-concat_below, length-each}
use Rattle.collector.specs.Fitting.{IsTask}
use Rattle.collector.specs.Collecting.{task_count}

pub place_within : (n : ℕ) (g : ℕ → ℕ) (i a : ℕ) → i < n → a < g i → sum_below i g + a < sum_below n g
place_within zero g i a low here = absurd (omega (arith, low))
place_within (suc n) g i a low here = elim (cases_lt i n) [
  | inl below ↦ let deep = place_within n g i a below here in omega (arith, deep)
  | inr above ↦ let same : i ≡ n = omega (arith, low, above) in subst (λ k. sum_below k g + a < sum_below n g + g n) (sym same) (let here' : a < g n = subst (λ k. a < g k) same here in omega (arith, here'))
]

-- the same place is the same task's
pub same_place : (g : ℕ → ℕ) (i a j b : ℕ) → a < g i → b < g j → sum_below i g + a ≡ sum_below j g + b → (i ≡ j) × (a ≡ b)
same_place g i a j b here there e = elim (cases_lt i j) [
  | inl below ↦ let w = place_within j g i a below here in absurd (omega (arith, w, e))
  | inr high ↦ elim (cases_lt j i) [
    | inl above ↦ let w = place_within i g j b above there in absurd (omega (arith, w, e))
    | inr low ↦
        let same : i ≡ j = omega (arith, high, low) in
        let e' : sum_below j g + a ≡ sum_below j g + b = ap (λ k. sum_below k g + a) (sym same) ∙ e in
        (same, omega (arith, e'))
  ]
]

-- which task a place is of
pub record At (g : ℕ → ℕ) (n place : ℕ) : Type 0 where
  pub i : ℕ
  pub a : ℕ
  pub low : i < n
  pub here : a < g i
  pub is : place ≡ sum_below i g + a

pub at_place : (g : ℕ → ℕ) (n place : ℕ) → place < sum_below n g → At g n place
at_place g zero place within = absurd (omega (arith, within))
at_place g (suc n) place within = elim (cases_lt place (sum_below n g)) [
  | inl below ↦ let deep = at_place g n place below in record { i = deep.i; a = deep.a; low = omega (arith, deep.low); here = deep.here; is = deep.is }
  | inr above ↦ record { i = n; a = place - sum_below n g; low = omega arith; here = omega (arith, within, above); is = omega (arith, above) }
]

pub sum_shift : (n : ℕ) (g : ℕ → ℕ) → sum_below (suc n) g ≡ g 0 + sum_below n (λ i. g (suc i))
sum_shift zero g = omega arith
sum_shift (suc n) g = let deep = sum_shift n g in omega (arith, deep)

-- a task that takes stands behind the sources, at its place among those that take
pub taker_stands : (job : Job) (e b : ℕ) → sender_place job (suc e) b ≡ tasks job 0 + receiver_place job e b
taker_stands job e b = let shift = sum_shift e (tasks job) in omega (arith, shift)

pub many_send : (job : Job) → length (sending_tasks job) ≡ sum_below (suc (last_edge job)) (tasks job)
many_send job = length-concat_below (suc (last_edge job)) (λ i. concat_below (tasks job i) (λ a. (i, a) ∷ [])) (tasks job) (λ i _. length-each (tasks job i) (λ a. (i, a)))

pub many_take : (job : Job) → tasks job 0 + length (receiving_tasks job) ≡ task_count job
many_take job =
    let shift = sum_shift (suc (last_edge job)) (tasks job) in
    let many : length (receiving_tasks job) ≡ sum_below (suc (last_edge job)) (λ e. tasks job (suc e)) =
    length-concat_below (suc (last_edge job)) (λ e. concat_below (tasks job (suc e)) (λ b. (suc e, b) ∷ [])) (λ e. tasks job (suc e)) (λ e _. length-each (tasks job (suc e)) (λ b. (suc e, b))) in
    omega (arith, shift, many)

-- ---- channels

pub place_other : (x : Exchange) (n a b : ℕ) → x ≢ Forward → place_on_edge x n a b ≡ a * n + b
place_other Hash n a b ne = refl
place_other Rebalance n a b ne = refl
place_other Forward n a b ne = absurd (ne refl)
