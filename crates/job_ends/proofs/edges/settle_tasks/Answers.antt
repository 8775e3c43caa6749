use Rattle.std.proofs.Common.{◌≡◌, ◌+◌, length, slice_index_or, slice_set, ℕ, List, sym, ap, subst, arith}
use Rattle.std.proofs.lemmas.List.{length-set}
use Rattle.job_ends.specs.Ended.{own_at, gate_at}
use Rattle.job_ends.specs.Leaving.{SentAt, TookAt}
use Rattle.job_ends.proofs.Rows.{read_there, next_stood, edge_goes_on_at}
use Rattle.job_ends.proofs.Leavings.{few_sent, few_taken, sends, takes, is_settled}
use Rattle.job_ends.proofs.edges.settle_tasks.Goals as goal

pub settle_senders-requires-clause-few : goal.settle_senders-requires-clause-few
settle_senders-requires-clause-few g c =
    let few = few_sent c.args.job.now c.args.number c.args.edge.now c.args.rows.now c.requires.has c.requires.is_job c.requires.has.low in
    let cells = ap length c.as_slice-cells.ensures in
    omega (arith, few, cells)

pub settle_senders-requires-clause-sent : goal.settle_senders-requires-clause-sent
settle_senders-requires-clause-sent g c =
    let has = c.requires.has in
    let many = has.rows_many in
    let row = slice_index_or c.args.rows.now c.args.number c.index-rows-number.result in
    let at = read_there c.args.rows.now c.args.number c.index-rows-number.result (omega (arith, many)) c.index-rows-number.is in
    λ a place there. subst (λ (cells : List _). SentAt cells a (length row.items) place) (sym c.as_slice-cells.ensures)
    (sends c.args.job.now c.args.number c.args.edge.now c.args.rows.now has row at a place there)

pub settle_takers-requires-clause-few : goal.settle_takers-requires-clause-few
settle_takers-requires-clause-few g c =
    let few = few_taken c.args.job.now c.args.number c.args.edge.now c.args.rows.now c.requires.has c.requires.is_job c.requires.has.low in
    let cells = ap length c.as_slice-inputs.ensures in
    omega (arith, few, cells)

pub settle_takers-requires-clause-took : goal.settle_takers-requires-clause-took
settle_takers-requires-clause-took g c =
    let has = c.requires.has in
    let many = has.rows_many in
    let number : ℕ = c.args.number in
    let after = c.settle_senders.new.row in
    let rows = slice_set c.args.rows.now number after in
    let row = slice_index_or rows (number + 1) c.index-rows-next.result in
    let same : length rows ≡ length c.args.rows.now = length-set c.args.rows.now number after in
    let at = read_there rows (number + 1) c.index-rows-next.result (omega (arith, many, same)) c.index-rows-next.is in
    let there = next_stood number (number + 1) (omega arith) c.args.rows.now after row at in
    λ b place here. subst (λ (cells : List _). TookAt cells b place) (sym c.as_slice-inputs.ensures)
    (takes c.args.job.now number c.args.edge.now c.args.rows.now has row there b place here)

pub returns-clause-rows : goal.returns-clause-rows
returns-clause-rows g c =
    let has = c.requires.has in
    let many = has.rows_many in
    let number : ℕ = c.args.number in
    let after = c.settle_senders.new.row in
    let rows = slice_set c.args.rows.now number after in
    let same : length rows ≡ length c.args.rows.now = length-set c.args.rows.now number after in
    edge_goes_on_at number (number + 1) (omega arith) c.args.rows.now (slice_index_or c.args.rows.now number c.index-rows-number.result) (slice_index_or rows (number + 1) c.index-rows-next.result) after c.settle_takers.new.row
    (read_there c.args.rows.now number c.index-rows-number.result (omega (arith, many)) c.index-rows-number.is) c.settle_senders.ensures.many c.settle_senders.ensures.row
    (read_there rows (number + 1) c.index-rows-next.result (omega (arith, many, same)) c.index-rows-next.is) c.settle_takers.ensures.many c.settle_takers.ensures.row

pub returns-clause-carry : goal.returns-clause-carry
returns-clause-carry g c =
    let has = c.requires.has in
    let many = has.rows_many in
    let job = c.args.job.now in
    let number : ℕ = c.args.number in
    let edge = c.args.edge.now in
    let start = c.args.rows.now in
    let after = c.settle_senders.new.row in
    let rows = slice_set start number after in
    let same : length rows ≡ length start = length-set start number after in
    let sent = slice_index_or start number c.index-rows-number.result in
    let came = slice_index_or rows (number + 1) c.index-rows-next.result in
    let at = read_there start number c.index-rows-number.result (omega (arith, many)) c.index-rows-number.is in
    let next = read_there rows (number + 1) c.index-rows-next.result (omega (arith, many, same)) c.index-rows-next.is in
    let there = next_stood number (number + 1) (omega arith) start after came next in
    λ arrived. c.edges_carry.ensures job number edge.subpartitions.items edge.inputs.items (own_at start number) (gate_at start number) c.args.takers.items c.args.pushers.items c.requires.is_job
    (is_settled job number edge start has sent came at there c.args.takers.items c.args.pushers.items c.requires.takers c.requires.pushers c.settle_senders.ensures.settled c.settle_takers.ensures.settled arrived)
