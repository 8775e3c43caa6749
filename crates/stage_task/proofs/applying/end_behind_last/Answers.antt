use Rattle.std.proofs.Common.{Ok, suc, [], inr, subst}
use Rattle.flow_defs.specs.declared.cause.Cause.TheVariants as causes
use Rattle.flow_defs.specs.declared.cause.PeerFault.TheVariants as peers
use Rattle.snapshot_channel.specs.Passes.{sent_by}
use Rattle.turn_cell.specs.Passes.{seen}
use Rattle.task_taking.specs.Steps.{TookNext}
use Rattle.task_taking.specs.declared.taking.Taken.{Taken}
use Rattle.stage_task.specs.Applying.{start_at, from_at}
use Rattle.stage_task.specs.Snapshots.{all_applied}
use Rattle.stage_task.proofs.Ends.{finished, finish_ended, line_behind, barrier_behind, ended_behind, named}
use Rattle.stage_task.proofs.applying.end_behind_last.Goals as goal

pub returns-in-Ok-clause-ended : goal.returns-in-Ok-clause-ended
returns-in-Ok-clause-ended g c =
    let out = c.args.out.now in
    let behind = c.requires.behind in
    let before = g.G.Gate.account c.args.gate.now in
    let gate = g.G.Gate.account c.next.new.gate in
    let t = c.next.new.self in
    let o = c.finish.new.self in
    let took = subst (λ (x : Taken). TookNext out.job.now out.edge out.index gate (g.G.Gate.shows c.next.new.gate) t behind.groups [] (Ok x)) c.in-Ok-AllEnded.field-0-is (c.in-Ok-AllEnded.ensures.took out.job.now out.edge out.index behind.groups [] behind.applied_them.taken) in
    named out.job.now out.edge out.index o.writer.size (start_at out) out.every gate (g.G.Gate.shows c.next.new.gate) o.writer.passes (sent_by out.acks.pass) (seen out.acks.last_pass) t.runs c.end_of.result.takes.items causes.Done c.end_of.result.cause c.end_of.ensures.0 c.end_of.ensures.1
    (finished before gate (g.G.Gate.shows c.args.gate.now) (g.G.Gate.shows c.next.new.gate) c.args.taking t out behind took.0 o c.finish.ensures.same.size c.what_was_sent_was_begun.ensures.finished took.1
    (c.in-Ok.ensures.finished (from_at out).emitted out.job.now (suc out.edge) out.index out.output.writer.size (all_applied out.job.now out.edge behind.groups) [] behind.applied_them.sent))

pub returns-in-Ok-AllEnded-clause-ended : goal.returns-in-Ok-AllEnded-clause-ended
returns-in-Ok-AllEnded-clause-ended g c =
    let out = c.args.out.now in
    let behind = c.requires.behind in
    let before = g.G.Gate.account c.args.gate.now in
    let gate = g.G.Gate.account c.next.new.gate in
    let t = c.next.new.self in
    let o = c.finish.new.self in
    let took = subst (λ (x : Taken). TookNext out.job.now out.edge out.index gate (g.G.Gate.shows c.next.new.gate) t behind.groups [] (Ok x)) c.in-Ok-AllEnded.field-0-is (c.in-Ok-AllEnded.ensures.took out.job.now out.edge out.index behind.groups [] behind.applied_them.taken) in
    named out.job.now out.edge out.index o.writer.size (start_at out) out.every gate (g.G.Gate.shows c.next.new.gate) o.writer.passes (sent_by out.acks.pass) (seen out.acks.last_pass) t.runs c.end_of-in-Err-finish.result.takes.items causes.Stopped c.end_of-in-Err-finish.result.cause c.end_of-in-Err-finish.ensures.0 c.end_of-in-Err-finish.ensures.1
    (finish_ended before gate (g.G.Gate.shows c.args.gate.now) (g.G.Gate.shows c.next.new.gate) c.args.taking t out behind took.0 o c.finish.ensures.same.size
    (c.in-Err-finish.ensures.finished (from_at out).emitted out.job.now (suc out.edge) out.index out.output.writer.size (all_applied out.job.now out.edge behind.groups) [] behind.applied_them.sent))

pub returns-in-Ok-AllEnded-clause-stopped : goal.returns-in-Ok-AllEnded-clause-stopped
returns-in-Ok-AllEnded-clause-stopped g c = λ is.
    let out = c.args.out.now in
    let behind = c.requires.behind in
    inr (c.in-Err-finish.ensures.finished (from_at out).emitted out.job.now (suc out.edge) out.index out.output.writer.size (all_applied out.job.now out.edge behind.groups) [] behind.applied_them.sent).fault

pub returns-in-Ok-Line-clause-ended : goal.returns-in-Ok-Line-clause-ended
returns-in-Ok-Line-clause-ended g c =
    let out = c.args.out.now in
    let behind = c.requires.behind in
    let before = g.G.Gate.account c.args.gate.now in
    let gate = g.G.Gate.account c.next.new.gate in
    let t = c.next.new.self in
    let took = subst (λ (x : Taken). TookNext out.job.now out.edge out.index gate (g.G.Gate.shows c.next.new.gate) t behind.groups [] (Ok x)) c.in-Ok-Line.field-0-is (c.in-Ok-Line.ensures.took out.job.now out.edge out.index behind.groups [] behind.applied_them.taken) in
    named out.job.now out.edge out.index out.output.writer.size (start_at out) out.every gate (g.G.Gate.shows c.next.new.gate) out.output.writer.passes (sent_by out.acks.pass) (seen out.acks.last_pass) t.runs c.end_of-in-Ok-Line.result.takes.items (causes.Peer peers.Barrier) c.end_of-in-Ok-Line.result.cause c.end_of-in-Ok-Line.ensures.0 c.end_of-in-Ok-Line.ensures.1
    (line_behind before gate (g.G.Gate.shows c.args.gate.now) (g.G.Gate.shows c.next.new.gate) c.args.taking t out behind c.what_was_sent_was_begun.ensures.sent took.1.0 _ took.1.1)

pub returns-in-Ok-Checkpoint-clause-ended : goal.returns-in-Ok-Checkpoint-clause-ended
returns-in-Ok-Checkpoint-clause-ended g c =
    let out = c.args.out.now in
    let behind = c.requires.behind in
    let before = g.G.Gate.account c.args.gate.now in
    let gate = g.G.Gate.account c.next.new.gate in
    let t = c.next.new.self in
    let took = subst (λ (x : Taken). TookNext out.job.now out.edge out.index gate (g.G.Gate.shows c.next.new.gate) t behind.groups [] (Ok x)) c.in-Ok-Checkpoint.field-0-is (c.in-Ok-Checkpoint.ensures.took out.job.now out.edge out.index behind.groups [] behind.applied_them.taken) in
    named out.job.now out.edge out.index out.output.writer.size (start_at out) out.every gate (g.G.Gate.shows c.next.new.gate) out.output.writer.passes (sent_by out.acks.pass) (seen out.acks.last_pass) t.runs c.end_of-in-Ok-Checkpoint.result.takes.items (causes.Peer peers.Barrier) c.end_of-in-Ok-Checkpoint.result.cause c.end_of-in-Ok-Checkpoint.ensures.0 c.end_of-in-Ok-Checkpoint.ensures.1
    (barrier_behind before gate (g.G.Gate.shows c.args.gate.now) (g.G.Gate.shows c.next.new.gate) c.args.taking t out behind c.what_was_sent_was_begun.ensures.sent took.0)

pub returns-clause-ended : goal.returns-clause-ended
returns-clause-ended g c =
    let out = c.args.out.now in
    let behind = c.requires.behind in
    let before = g.G.Gate.account c.args.gate.now in
    let gate = g.G.Gate.account c.next.new.gate in
    let t = c.next.new.self in
    let took = c.in-Err.ensures.took out.job.now out.edge out.index behind.groups [] behind.applied_them.taken in
    named out.job.now out.edge out.index out.output.writer.size (start_at out) out.every gate (g.G.Gate.shows c.next.new.gate) out.output.writer.passes (sent_by out.acks.pass) (seen out.acks.last_pass) t.runs c.end_of-in-Err.result.takes.items c.in-Err.cause c.end_of-in-Err.result.cause c.end_of-in-Err.ensures.0 c.end_of-in-Err.ensures.1
    (ended_behind before gate (g.G.Gate.shows c.args.gate.now) (g.G.Gate.shows c.next.new.gate) c.args.taking t out behind c.what_was_sent_was_begun.ensures.sent c.in-Err.cause took.0 took.1 took.2)
