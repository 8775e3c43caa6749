use Rattle.std.proofs.Common.{arith, length, ap, ◌∙◌}
use Rattle.std.proofs.lemmas.List.{length_push}
use Rattle.job_run.proofs.PassLaws.{rest_told_nothing, other_told_nothing, last_is}
use Rattle.job_run.proofs.stops.open_stops.Goals as goal

pub returns : goal.returns
returns c =
    let front = c.take_last-own.new.self.items in
    let rest = c.take_last-collecting.new.self.items in
    let front_is = c.take_last-own.ensures.items in
    let rest_is = c.take_last-collecting.ensures.items in
    let made = c.in-Ok.ensures.made in
    let needed = c.stops_needed-passes.ensures.is in
    let many_front = ap length front_is ∙ length_push front c.take_last-own.result in
    let many_rest = ap length rest_is ∙ length_push rest c.take_last-collecting.result in
    let all = made.1 in
    record {
      enough = omega (arith, many_front, many_rest, all, needed);
      each = rest_told_nothing c.in-Ok.cell c.in-Ok.workers.items made.0 rest c.take_last-own.result c.take_last-collecting.result front_is rest_is;
      collecting = other_told_nothing c.in-Ok.cell c.in-Ok.workers.items made.0 rest c.take_last-own.result c.take_last-collecting.result front_is rest_is;
      own = last_is c.in-Ok.cell c.in-Ok.workers.items made.0 rest c.take_last-own.result c.take_last-collecting.result front_is rest_is;
    }
