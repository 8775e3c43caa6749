use Rattle.turn_cell.specs.Passes.{seen}
use Rattle.task_output.proofs.SeenLaws.{waited_for}
use Rattle.task_output.proofs.acks.Acks.learn_last.Goals as goal

pub returns-then-all_ended-clause-waited : goal.returns-then-all_ended-clause-waited
returns-then-all_ended-clause-waited g c =
    let now = c.wait_for_image.new.self in let own = c.wait_for_image.ensures.own in
    waited_for c.args.self.now now c.args.k (seen now.last_pass) c.in-Ok.all_ended c.requires.number own.1.base own.3 c.in-Ok.ensures.stored

pub returns-else-all_ended-clause-waited : goal.returns-else-all_ended-clause-waited
returns-else-all_ended-clause-waited g c =
    let now = c.wait_for_image.new.self in let own = c.wait_for_image.ensures.own in
    waited_for c.args.self.now now c.args.k (seen now.last_pass) c.in-Ok.all_ended c.requires.number own.1.base own.3 c.in-Ok.ensures.stored
