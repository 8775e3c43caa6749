use Rattle.std.proofs.Common.{[], ◌∷◌}
use Rattle.job_workers.specs.declared.connection.LoopLeft.TheVariants.{SentItems, ReadControl, ReadItems}
use Rattle.job_workers.specs.declared.place.Place.TheVariants.{Ended}
use Rattle.job_ends.proofs.FourEnds.{rest_one, rest_two, rest_three, left_is}
use Rattle.job_ends.proofs.left.take_edge.Goals as goal

pub pop_sent_control-announce-requires : goal.pop_sent_control-announce-requires
pop_sent_control-announce-requires g c = let ends = c.requires.0 in
    (Ended (SentItems ends.send) ∷ Ended (ReadControl ends.control) ∷ Ended (ReadItems ends.items) ∷ [], (ends.announce, c.requires.1))

pub pop_read_items-items-requires : goal.pop_read_items-items-requires
pop_read_items-items-requires g c = let ends = c.requires.0 in let one = c.pop_sent_control-announce.new.row.items in (
  Ended (SentItems ends.send) ∷ Ended (ReadControl ends.control) ∷ [],
  (ends.items, rest_one ends c.args.row.now.items one one one one c.pop_sent_control-announce.result ends.items ends.control ends.send c.requires.1 c.pop_sent_control-announce.ensures),
)

pub pop_read_control-control-requires : goal.pop_read_control-control-requires
pop_read_control-control-requires g c = let ends = c.requires.0 in let one = c.pop_sent_control-announce.new.row.items in let two = c.pop_read_items-items.new.row.items in (
  Ended (SentItems ends.send) ∷ [],
  (ends.control, rest_two ends c.args.row.now.items one two two two c.pop_sent_control-announce.result c.pop_read_items-items.result ends.control ends.send c.requires.1 c.pop_sent_control-announce.ensures c.pop_read_items-items.ensures),
)

pub pop_sent_items-send-requires : goal.pop_sent_items-send-requires
pop_sent_items-send-requires g c = let ends = c.requires.0 in let one = c.pop_sent_control-announce.new.row.items in let two = c.pop_read_items-items.new.row.items in let three = c.pop_read_control-control.new.row.items in
    ([], (ends.send, rest_three ends c.args.row.now.items one two three three c.pop_sent_control-announce.result c.pop_read_items-items.result c.pop_read_control-control.result ends.send c.requires.1 c.pop_sent_control-announce.ensures c.pop_read_items-items.ensures c.pop_read_control-control.ensures))

pub returns : goal.returns
returns g c = λ ends is.
    let left = left_is ends c.args.row.now.items c.pop_sent_control-announce.new.row.items c.pop_read_items-items.new.row.items c.pop_read_control-control.new.row.items c.pop_sent_items-send.new.row.items
    c.pop_sent_control-announce.result c.pop_read_items-items.result c.pop_read_control-control.result c.pop_sent_items-send.result is c.pop_sent_control-announce.ensures c.pop_read_items-items.ensures c.pop_read_control-control.ensures c.pop_sent_items-send.ensures in
    let takers = c.takers_of-takers.ensures in
    let pushers = c.pushers_of-pushers.ensures in
    let out = c.half_of-control_out.ensures in
    let input = c.half_of-control_in.ensures in
    cc
