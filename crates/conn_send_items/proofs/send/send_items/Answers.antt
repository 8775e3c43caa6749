use Rattle.conn_send_items.proofs.Ends.{closes, memory_stays}
use Rattle.conn_send_items.proofs.send.send_items.Goals as goal

pub returns-clause-account : goal.returns-clause-account
returns-clause-account g c =
    let out = g.O.LinkOut in let sends = c.send_all-cause.ensures.sends in
    let closed = closes sends.added sends.frames sends.direction (out.sent c.args.out) (out.sent c.send_all-cause.new.out) (out.sent c.end_half-cause.new.out)
    (out.faults c.args.out) (out.faults c.send_all-cause.new.out) (out.faults c.end_half-cause.new.out) c.send_all-cause.ensures.never_falls c.end_half-cause.ensures.never_falls
    c.send_all-cause.result c.end_half-cause.result sends.cause_is sends.written c.end_half-cause.ensures.closed in
    record {
      messages = sends.added;
      wrote = closed.wrote;
      sent = record {
        took = sends.sends.took;
        numbers = sends.sends.numbers;
        told = sends.sends.told;
        backlogs = record {
          behind = sends.sends.behind;
          announced = sends.sends.announced;
          stood = sends.sends.stood;
          last = λ ne. sends.last (λ is. ne (memory_stays (out.sent c.send_all-cause.new.out) (out.sent c.end_half-cause.new.out) (out.faults c.send_all-cause.new.out) (out.faults c.end_half-cause.new.out)
              c.send_all-cause.result c.end_half-cause.result c.end_half-cause.ensures.closed is));
        };
        ends = λ is. sends.ends (closed.was_done is);
      };
      cause_is = closed.cause_is;
    }

pub returns-clause-given : goal.returns-clause-given
returns-clause-given g c = c.send_all-cause.ensures.gives
