-- What the local pools of a job want: how many they are, where each stands, and what all need.
use Rattle.std.proofs.Common.{◌≡◌, ℕ, zero, suc, ◌+◌, ◌*◌, ◌<◌, ◌≤◌, length, Some, refl, sym, ap, ◌∙◌, arith, length-append}
use Rattle.std.specs.Prelude.{max, min, slice_get, replicate}
use Rattle.std.specs.List.{All, sum_by}
use Rattle.std.proofs.lemmas.List.{length-replicate, get_or-replicate}
use Rattle.std.proofs.lemmas.List.Elements.{All-append, All-replicate}
use Rattle.std.proofs.lemmas.List.Folds.{sum_by-replicate}
use Rattle.std.proofs.lemmas.List.Sums.{sum_by-append}
use Rattle.std.proofs.lemmas.Option.{slice_get-get_or}
use Rattle.flow_defs.specs.declared.job.Job.{Job}
use Rattle.flow_defs.specs.declared.job.Exchange.{Exchange}
use Rattle.flow_defs.specs.declared.job.Exchange.TheVariants.{Hash, Rebalance, Forward}
use Rattle.flow_defs.specs.Jobs.{IsJob, last_edge, tasks, exchange, width, edge_width, sum_below, segments_needed}
use Rattle.plain_machine.specs.Worth.{concat_below}
use Rattle.plain_machine.proofs.PlaceLemmas.{length-concat_below, sum_below-within}
use Rattle.local_pool.specs.declared.shares.Want.{Want}
use Rattle.local_pool.specs.Shares.{IsWant, dealt, needs, wish, wishes}
use Rattle.record_writer.specs.Writers.{ways, ways_on, ways_into}
use Rattle.job_cells.specs.Grants.{partition_want, gate_want, wants_on, wants_of}
use Rattle.job_cells.specs.Lending.{ends, wants_before}
use Rattle.job_cells.proofs.Lists.{get_behind, get_front}
use Rattle.job_cells.proofs.Places.{get_below}

-- ---- each is a want

fits_on : (job : Job) (e : ℕ) → All IsWant (wants_on job e)
fits_on job e =
    let s = ways_on job e in let g = ways_into job e in
    All-append IsWant (replicate (tasks job e) (partition_want s)) (replicate (tasks job (suc e)) (gate_want g))
    (All-replicate IsWant (tasks job e) (partition_want s) (omega arith)) (All-replicate IsWant (tasks job (suc e)) (gate_want g) (omega arith))

fits_below : (job : Job) (n : ℕ) → All IsWant (concat_below n (wants_on job))
fits_below job zero = λ k d low. absurd (omega arith)
fits_below job (suc n) = All-append IsWant (concat_below n (wants_on job)) (wants_on job n) (fits_below job n) (fits_on job n)

pub all_fit : (job : Job) → All IsWant (wants_of job)
all_fit job = fits_below job (suc (last_edge job))

-- ---- how many they are

length_on : (job : Job) (e : ℕ) → length (wants_on job e) ≡ ends job e
length_on job e =
    let n = tasks job e in let m = tasks job (suc e) in let p = partition_want (ways_on job e) in let g = gate_want (ways_into job e) in
    length-append (replicate n p) (replicate m g) ∙ ap (λ k. k + length (replicate m g)) (length-replicate n p) ∙ ap (λ k. n + k) (length-replicate m g)

pub length_wants : (job : Job) → length (wants_of job) ≡ sum_below (suc (last_edge job)) (ends job)
length_wants job = length-concat_below (suc (last_edge job)) (wants_on job) (ends job) (λ e low. length_on job e)

few_ends : (job : Job) (n : ℕ) → IsJob job → n ≤ suc (last_edge job) → sum_below n (ends job) ≤ 16 * n
few_ends job zero is low = omega arith
few_ends job (suc n) is low =
    let deep = few_ends job n is (omega arith) in let a = (is.counts n (omega arith)).1 in let b = (is.counts (suc n) (omega arith)).1 in omega (arith, deep, a, b)

pub many_wants : (job : Job) → IsJob job → (1 ≤ length (wants_of job)) × (length (wants_of job) < 2000)
many_wants job is =
    let l = length_wants job in let few = few_ends job (suc (last_edge job)) is (omega arith) in let stages = is.stages in
    let some = (is.counts 0 (omega arith)).0 in let first = sum_below-within (suc (last_edge job)) (ends job) 0 (omega arith) in
    (omega (arith, l, some, first), omega (arith, l, few, stages))

-- ---- what all need

same_need : (x : Exchange) (n m : ℕ) → (x ≡ Forward → n ≡ m) → n * (ways x m + 1) + m * (2 * ways x n) ≡ 3 * width x n m + n
same_need Hash n m wide = omega arith
same_need Rebalance n m wide = omega arith
same_need Forward n m wide = let same = wide refl in omega (arith, same)

needs_on : (job : Job) (e : ℕ) → IsJob job → e ≤ last_edge job → needs (wants_on job e) ≡ 3 * edge_width job e + tasks job e
needs_on job e is low =
    let need : Want → ℕ = λ want. want.need in
    let n = tasks job e in let m = tasks job (suc e) in let p = partition_want (ways_on job e) in let g = gate_want (ways_into job e) in
    let both = sum_by-append need (replicate n p) (replicate m g) in
    let one = sum_by-replicate need n p in let two = sum_by-replicate need m g in
    both ∙ ap (λ k. k + sum_by need (replicate m g)) one ∙ ap (λ k. n * (ways_on job e + 1) + k) two
    ∙ same_need (exchange job e) n m (is.widths e low)

needs_below : (job : Job) (n : ℕ) → IsJob job → n ≤ suc (last_edge job) → needs (concat_below n (wants_on job)) ≡ sum_below n (λ e. 3 * edge_width job e + tasks job e)
needs_below job zero is low = refl
needs_below job (suc n) is low =
    let need : Want → ℕ = λ want. want.need in
    sum_by-append need (concat_below n (wants_on job)) (wants_on job n)
    ∙ ap (λ k. k + needs (wants_on job n)) (needs_below job n is (omega arith))
    ∙ ap (λ k. sum_below n (λ e. 3 * edge_width job e + tasks job e) + k) (needs_on job n is (omega arith))

pub needs_are : (job : Job) → IsJob job → needs (wants_of job) ≡ segments_needed job
needs_are job is = needs_below job (suc (last_edge job)) is (omega arith)

-- ---- where a gate and a partition stand

at_replicate : {X : Type 0} (n i : ℕ) (x : X) → i < n → slice_get (replicate n x) i ≡ Some x
at_replicate n i x low = slice_get-get_or (replicate n x) i x (let l = length-replicate n x in omega (arith, l, low)) ∙ ap Some (get_or-replicate n i x x low)

pub gate_stands : (job : Job) (e b : ℕ) → e ≤ last_edge job → b < tasks job (suc e) → slice_get (wants_of job) (wants_before job e + (tasks job e + b)) ≡ Some (gate_want (ways_into job e))
gate_stands job e b low here =
    let n = tasks job e in let m = tasks job (suc e) in let p = partition_want (ways_on job e) in let g = gate_want (ways_into job e) in
    get_below (suc (last_edge job)) (wants_on job) (ends job) e (n + b) (λ k l. length_on job k) (omega arith) (omega arith)
    ∙ ap (λ k. slice_get (wants_on job e) (k + b)) (sym (length-replicate n p))
    ∙ get_behind (replicate n p) (replicate m g) b
    ∙ at_replicate m b g here

pub partition_stands : (job : Job) (e a : ℕ) → e ≤ last_edge job → a < tasks job e → slice_get (wants_of job) (wants_before job e + a) ≡ Some (partition_want (ways_on job e))
partition_stands job e a low here =
    let n = tasks job e in let m = tasks job (suc e) in let p = partition_want (ways_on job e) in let g = gate_want (ways_into job e) in
    get_below (suc (last_edge job)) (wants_on job) (ends job) e a (λ k l. length_on job k) (omega arith) (omega arith)
    ∙ get_front (replicate n p) (replicate m g) a (let l = length-replicate n p in omega (arith, l, here))
    ∙ at_replicate n a p here

pub ends_within : (job : Job) (e : ℕ) → e ≤ last_edge job → wants_before job e + ends job e ≤ length (wants_of job)
ends_within job e low = let l = length_wants job in let w = sum_below-within (suc (last_edge job)) (ends job) e (omega arith) in omega (arith, l, w)

-- ---- what they wish beyond their needs

-- Whoever has a channel wishes at most five times what it needs.
few_on : (job : Job) (e : ℕ) → IsJob job → e ≤ last_edge job → wishes (wants_on job e) ≤ 5 * needs (wants_on job e)
few_on job e is low =
    let need : Want → ℕ = λ want. want.need in
    let n = tasks job e in let m = tasks job (suc e) in let s = ways_on job e in let g = ways_into job e in let p = partition_want s in let q = gate_want g in
    let one = sum_by-append wish (replicate n p) (replicate m q) in
    let two = sum_by-replicate wish n p in let three = sum_by-replicate wish m q in
    let four = sum_by-append need (replicate n p) (replicate m q) in
    let five = sum_by-replicate need n p in let six = sum_by-replicate need m q in
    let some_s = some_ways (exchange job e) m (is.counts (suc e) (omega arith)).0 in
    let some_g = some_ways (exchange job e) n (is.counts e (omega arith)).0 in
    let left : n * wish p ≤ 5 * (n * p.need) = times_five n (wish p) p.need (omega (arith, some_s)) in
    let right : m * wish q ≤ 5 * (m * q.need) = times_five m (wish q) q.need (omega (arith, some_g)) in
    omega (arith, one, two, three, four, five, six, left, right)
  where
    some_ways : (x : Exchange) (k : ℕ) → 1 ≤ k → 1 ≤ ways x k
    some_ways Hash k some = some
    some_ways Rebalance k some = some
    some_ways Forward k some = omega arith

    times_five : (k a b : ℕ) → a ≤ 5 * b → k * a ≤ 5 * (k * b)
    times_five zero a b low = omega arith
    times_five (suc k) a b low = let more = times_five k a b low in omega (arith, more, low)

few_below : (job : Job) (n : ℕ) → IsJob job → n ≤ suc (last_edge job) → wishes (concat_below n (wants_on job)) ≤ 5 * needs (concat_below n (wants_on job))
few_below job zero is low = omega arith
few_below job (suc n) is low =
    let need : Want → ℕ = λ want. want.need in
    let one = sum_by-append wish (concat_below n (wants_on job)) (wants_on job n) in
    let two = sum_by-append need (concat_below n (wants_on job)) (wants_on job n) in
    let here = few_on job n is (omega arith) in let before = few_below job n is (omega arith) in
    omega (arith, one, two, here, before)

-- So six segments for each that is needed are all that is ever dealt out.
pub same_dealt : (job : Job) (segments total : ℕ) → IsJob job → segments_needed job ≤ segments → total ≡ min segments (max (6 * segments_needed job) 1) →
    dealt (wants_of job) total ≡ dealt (wants_of job) segments
same_dealt job segments total is enough total_is =
    let few = few_below job (suc (last_edge job)) is (omega arith) in let needed = needs_are job is in
    omega (arith, few, needed, total_is)
