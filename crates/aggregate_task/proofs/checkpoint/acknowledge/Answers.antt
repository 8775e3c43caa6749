use Rattle.aggregate_task.proofs.Sending.{may_send, sent_it, knows}
use Rattle.aggregate_task.proofs.checkpoint.acknowledge.Goals as goal

pub send-requires-clause-may : goal.send-requires-clause-may
send-requires-clause-may g c =
    let learnt = c.learn_last.ensures.own in
    may_send c.args.out.now c.learn_last.new.self c.in-Some.k c.args.counts.now c.in-Ok-to_table.table c.args.takes.items c.snapshot_at-snapshot.result c.requires.own learnt.1 learnt.2 c.in-Ok-to_table.ensures c.snapshot_at-snapshot.ensures c.in-Some.ensures
    c.requires.keys c.requires.runs

pub returns-in-Ok-send-clause-sent : goal.returns-in-Ok-send-clause-sent
returns-in-Ok-send-clause-sent g c =
    let out = c.args.out.now in
    let learnt = c.learn_last.new.self in
    let learnt_own = c.learn_last.ensures.own in
    let x = c.snapshot_at-snapshot.result in (
      sent_it out learnt c.in-Some.k c.args.counts.now c.in-Ok-to_table.table c.args.takes.items x c.requires.own learnt_own.1 learnt_own.2 c.in-Ok-to_table.ensures c.snapshot_at-snapshot.ensures c.in-Some.ensures c.send.new.self c.in-Ok-send.ensures.sent,
      knows out learnt c.in-Some.k c.args.counts.now c.in-Ok-to_table.table c.args.takes.items x c.requires.own learnt_own.1 learnt_own.2 c.in-Ok-to_table.ensures c.snapshot_at-snapshot.ensures c.in-Some.ensures c.send.new.self c.in-Ok.last learnt_own.3 c.send.ensures.own.2
          c.in-Ok.ensures.last,
    )
