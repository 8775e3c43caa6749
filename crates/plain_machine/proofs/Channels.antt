-- Which channels a job has, and that a record is sent on one of them.
use Rattle.std.proofs.Common.{◌≡◌, ℕ, suc, ◌<◌, ◌≤◌, ◌&&◌, true, false, leb, ltb, List, [], ◌++◌, cond, refl, arith}
use Rattle.std.proofs.Math.Nat.{mod-lt}
use Rattle.std.proofs.lemmas.Bool.{and_parts, and_from, and_left, and_right, leb-true, le-leb, ltb-true, lt-ltb, le-ltb, eq-eqb}
use Rattle.flow_defs.specs.declared.job.Job.{Job}
use Rattle.flow_defs.specs.declared.job.Exchange.{Exchange}
use Rattle.flow_defs.specs.declared.job.Exchange.TheVariants.{Hash, Rebalance, Forward}
use Rattle.flow_defs.specs.Jobs.{last_edge, tasks, exchange, joins, key_on, is_channel, IsJob}
use Rattle.flow_defs.specs.Routes.{fnv, receiver}
use Rattle.plain_machine.specs.Emitting.{receiver_on}
use Rattle.plain_machine.specs.Steps.{on_channel}

-- what it is that is_channel tests
pub record Ends (job : Job) (e a b : ℕ) : Type 0 where
  pub edge : e ≤ last_edge job
  pub sender : a < tasks job e
  pub receiver : b < tasks job (suc e)
  pub joined : joins (exchange job e) a b ≡ true

pub ends_of : (job : Job) (e a b : ℕ) → is_channel job e a b ≡ true → Ends job e a b
ends_of job e a b is =
    let all = and_parts (leb e (last_edge job) && ltb a (tasks job e) && ltb b (tasks job (suc e))) (joins (exchange job e) a b) is in
    let ends = and_parts (leb e (last_edge job) && ltb a (tasks job e)) (ltb b (tasks job (suc e))) all.0 in
    let first = and_parts (leb e (last_edge job)) (ltb a (tasks job e)) ends.0 in
    record { edge = leb-true _ _ first.0; sender = ltb-true _ _ first.1; receiver = ltb-true _ _ ends.1; joined = all.1 }

pub channel_of : (job : Job) (e a b : ℕ) → Ends job e a b → is_channel job e a b ≡ true
channel_of job e a b ends = and_from _ _ (and_from _ _ (and_from _ _ (le-leb _ _ ends.edge) (lt-ltb _ _ ends.sender)) (lt-ltb _ _ ends.receiver)) ends.joined

-- no task beyond the last has a channel
pub no_channel : (job : Job) (e a b : ℕ) → tasks job e ≤ a → is_channel job e a b ≡ false
no_channel job e a b high = and_left _ _ (and_left _ _ (and_right (leb e (last_edge job)) _ (le-ltb a (tasks job e) high)))

routed : (x : Exchange) (m n : ℕ) → 1 ≤ n → (x ≡ Forward → m ≡ n) → (key : List ℕ) (emitted a : ℕ) → a < m → (receiver x key emitted a n < n) × (joins x a (receiver x key emitted a n) ≡ true)
routed Hash m n some wide key emitted a low = (mod-lt (fnv key) some, refl)
routed Rebalance m n some wide key emitted a low = (mod-lt emitted some, refl)
routed Forward m n some wide key emitted a low = (let same = wide refl in omega (arith, same, low), eq-eqb a a refl)

-- the receiver of a record is a task that the sender has a channel to
pub channel_to : (job : Job) (e a : ℕ) → IsJob job → e ≤ last_edge job → a < tasks job e → (n : ℕ) (r : List ℕ) → Ends job e a (receiver_on job e a n r)
channel_to job e a is low here n r =
    let found = routed (exchange job e) (tasks job e) (tasks job (suc e)) (is.counts (suc e) (omega (arith, low))).0 (is.widths e low) (key_on job e r) n a here in
    record { edge = low; sender = here; receiver = found.0; joined = found.1 }

pub on_channel-append : (job : Job) (e a b : ℕ) (xs ys : List (List ℕ)) → on_channel job e a b (xs ++ ys) ≡ on_channel job e a b xs ++ on_channel job e a b ys
on_channel-append job e a b xs ys = elim (is_channel job e a b) as (λ t. cond t (xs ++ ys) [] ≡ cond t xs [] ++ cond t ys []) [ true ↦ refl | false ↦ refl ]
