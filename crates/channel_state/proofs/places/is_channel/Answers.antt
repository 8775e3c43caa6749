use Rattle.std.proofs.Common.{◌≡◌, ◌+◌, ◌&&◌, suc, true, leb, ltb, ap, sym, ◌∙◌, arith}
use Rattle.std.proofs.lemmas.Bool.{and_from, le-leb, lt-ltb}
use Rattle.flow_defs.specs.Jobs.{last_edge, tasks, exchange, joins}
use Rattle.job_text.specs.Shapes.{job_of}
use Rattle.channel_state.proofs.places.is_channel.Goals as goal

pub returns-then-to-receivers : goal.returns-then-to-receivers
returns-then-to-receivers c =
    let job = job_of c.args.shape.now in
    let e = c.args.edge in
    let a = c.args.from in
    let b = c.args.to in
    let many : c.tasks-receivers.result ≡ tasks job (suc e) = c.tasks-receivers.ensures ∙ ap (tasks job) (let z : e + 1 ≡ suc e = omega arith in z) in
    let first : leb e (last_edge job) ≡ true = le-leb _ _ c.requires.edge in
    let second : ltb a (tasks job e) ≡ true = lt-ltb _ _ (omega (arith, c.tasks-senders.ensures)) in
    let third : ltb b (tasks job (suc e)) ≡ true = lt-ltb _ _ (omega (arith, many)) in
    c.joins.ensures ∙ ap (λ x. joins x a b) c.exchange-exchange.ensures ∙ sym (ap (λ t. t && joins (exchange job e) a b) (and_from _ _ (and_from _ _ first second) third))
