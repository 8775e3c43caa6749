use Rattle.std.proofs.Common.{[], refl, sym, ap, subst, ◌∙◌, length, arith}
use Rattle.std.specs.List.{length_refill}
use Rattle.subpartition.specs.Queues.{Queue}
use Rattle.subpartition.specs.Standing.{QueueStandsFor}
use Rattle.exchange_tests.proofs.subpartition_tests.send_buffer.Goals as goal

pub new-requires : goal.new-requires
new-requires g c = (omega arith, subst (λ queue. QueueStandsFor queue []) (sym c.requires.queue) (c.calls_add_entries.ensures.new 64 1))

pub send_in_threads-requires-clause-size : goal.send_in_threads-requires-clause-size
send_in_threads-requires-clause-size g c κs within =
    let segment = c.claim-segment.result in
    sym (length_refill (length segment) segment _ refl) ∙ c.claim-segment.ensures.size ∙ c.requires.pool.1
    ∙ sym (ap (λ (queue : Queue). queue.size) (c.in-Ok.ensures.cell.0 ∙ c.requires.queue))
