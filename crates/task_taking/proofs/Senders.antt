-- From which task a channel leads.
use Rattle.std.proofs.Common.{◌≡◌, ℕ, suc, ◌<◌, ◌≤◌, ◌&&◌, Bool, true, false, IsTrue, refl, eq-eqb, arith}
use Rattle.std.specs.Prelude.{nat_le, nat_lt}
use Rattle.std.proofs.lemmas.Bool.Decides.{nat_tests}
use Rattle.flow_defs.specs.declared.job.Exchange.{Exchange}
use Rattle.flow_defs.specs.declared.job.Exchange.TheVariants.{Hash, Rebalance, Forward}
use Rattle.flow_defs.specs.declared.job.Job.{Job}
use Rattle.flow_defs.specs.Jobs.{IsJob, last_edge, tasks, exchange, joins, is_channel}
use Rattle.record_writer.specs.Writers.{ways, sender_at, ways_into}

-- channels of one gate lead from different tasks
pub apart_at : (x : Exchange) (b m c d : ℕ) → c < ways x m → d < ways x m → sender_at x b c ≡ sender_at x b d → c ≡ d
apart_at Hash b m c d inside other same = same
apart_at Rebalance b m c d inside other same = same
apart_at Forward b m c d inside other same = omega (arith, inside, other)

from_task : (x : Exchange) (b m n c : ℕ) → c < ways x m → b < n → (x ≡ Forward → m ≡ n) → (sender_at x b c < m) × (joins x (sender_at x b c) b ≡ true)
from_task Hash b m n c inside index wide = (inside, refl)
from_task Rebalance b m n c inside index wide = (inside, refl)
from_task Forward b m n c inside index wide = (let h = wide refl in omega (arith, index, h), eq-eqb b b refl)

four : (p q r s : Bool) → p ≡ true → q ≡ true → r ≡ true → s ≡ true → IsTrue (p && q && r && s)
four true true true true _ _ _ _ = refl
four false q r s is _ _ _ = absurd (cc)
four true false r s _ is _ _ = absurd (cc)
four true true false s _ _ is _ = absurd (cc)
four true true true false _ _ _ is = absurd (cc)

-- each of them is a channel of the job
pub leads_here : (job : Job) (e b c : ℕ) → IsJob job → e ≤ last_edge job → b < tasks job (suc e) → c < ways_into job e → IsTrue (is_channel job e (sender_at (exchange job e) b c) b)
leads_here job e b c is_job edge index inside =
    let at = from_task (exchange job e) b (tasks job e) (tasks job (suc e)) c inside index (is_job.widths e edge) in
    four (nat_le e (last_edge job)) (nat_lt (sender_at (exchange job e) b c) (tasks job e)) (nat_lt b (tasks job (suc e))) (joins (exchange job e) (sender_at (exchange job e) b c) b)
    (grind (arith, nat_tests)) (let low = at.0 in grind (arith, nat_tests)) (grind (arith, nat_tests)) at.1

-- at least one channel leads to each task
some_ways : (x : Exchange) (m : ℕ) → 1 ≤ m → 1 ≤ ways x m
some_ways Hash m some = some
some_ways Rebalance m some = some
some_ways Forward m some = omega (arith)

pub some_way_in : (job : Job) (e : ℕ) → IsJob job → e ≤ last_edge job → 1 ≤ ways_into job e
some_way_in job e is_job edge = some_ways (exchange job e) (tasks job e) (is_job.counts e (omega (arith, edge))).0
