use Rattle.std.proofs.Common.{get_or, sym, ◌∙◌, arith}
use Rattle.std.proofs.lemmas.Option.{slice_get-get_or}
use Rattle.job_deploy.proofs.Workers.{deployed_is}
use Rattle.job_deploy.proofs.places.deploy.Goals as goal

pub source_row-sources-requires-clause-lents : goal.source_row-sources-requires-clause-lents
source_row-sources-requires-clause-lents g c = c.in_ok-prepared.ensures.lents.many ∙ sym c.requires.inputs

pub source_row-sources-requires-clause-row : goal.source_row-sources-requires-clause-row
source_row-sources-requires-clause-row g c =
    let s = c.in_ok-prepared.ensures.sources in (s.0, (let r = s.1 in let n = c.requires.inputs in omega (arith, r, n)))

pub source_row-sources-requires-clause-few : goal.source_row-sources-requires-clause-few
source_row-sources-requires-clause-few g c = let few = (c.requires.is_job.counts 0 (omega arith)).1 in let n = c.requires.inputs in omega (arith, few, n)

pub returns-clause-deployed : goal.returns-clause-deployed
returns-clause-deployed g c =
    let all = c.in_ok-prepared.ensures in let p = c.in_ok-prepared.prepared in
    deployed_is c.args.job.now c.args.size c.args.shared.every c.args.shared.snapshots.now c.args.edges.now c.args.inputs.now.items c.args.wires.now.items p.lents.items p.rows.items c.with_sources.result.items c.source_row-sources.result p.shares.items c.loop_rows.result.items
    c.requires.edges c.requires.inputs c.requires.wires all.lents c.source_row-sources.ensures.row all.rows_many all.rows c.with_sources.ensures all.shares c.loop_rows.ensures.rows

pub loop_rows-requires-clause-shares : goal.loop_rows-requires-clause-shares
loop_rows-requires-clause-shares g c = c.in_ok-prepared.ensures.shares_many ∙ sym c.requires.wires

pub loop_rows-requires-clause-empty : goal.loop_rows-requires-clause-empty
loop_rows-requires-clause-empty g c = λ k d low.
    let shares = c.in_ok-prepared.prepared.shares.items in
    (c.in_ok-prepared.ensures.shares k (get_or shares k d) (slice_get-get_or shares k d low)).are.has_room

pub loop_rows-requires-clause-rows : goal.loop_rows-requires-clause-rows
loop_rows-requires-clause-rows g c = let l = c.in_ok-prepared.ensures.loops in (l.0, (let r = l.1 in let n = c.requires.wires in omega (arith, r, n)))

pub with_sources-requires : goal.with_sources-requires
with_sources-requires g c = let r = c.in_ok-prepared.ensures.rows_room in omega (arith, r)

pub returns-clause-taken : goal.returns-clause-taken
returns-clause-taken g c = (c.source_row-sources.ensures.taken, c.loop_rows.ensures.taken)

pub returns-clause-room : goal.returns-clause-room
returns-clause-room g c = c.source_row-sources.ensures.room
