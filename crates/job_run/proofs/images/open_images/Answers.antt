use Rattle.std.proofs.Common.{arith, sym, ◌∙◌}
use Rattle.job_run.proofs.PassLaws.{first_is, rest_are, rest_many}
use Rattle.job_run.proofs.images.open_images.Goals as goal

pub returns : goal.returns
returns c =
    let turned = sym c.reverse_all.ensures ∙ c.take_last-collecting.ensures.items in
    let made = c.in-Ok.ensures.made in
    let needed = c.tasks_needed-passes.ensures.is in
    let many = rest_many c.in-Ok.cell c.in-Ok.tasks.items made.0 c.take_last-collecting.new.self.items c.take_last-collecting.result turned in
    let first = first_is c.in-Ok.cell c.in-Ok.tasks.items made.0 c.take_last-collecting.new.self.items c.take_last-collecting.result turned in
    let all = made.1 in
    record {
      enough = omega (arith, many, all, needed);
      each = rest_are c.in-Ok.cell c.in-Ok.tasks.items made.0 c.take_last-collecting.new.self.items c.take_last-collecting.result turned;
      collecting = first.0;
      first = first.1;
      none_told = first.2;
    }
