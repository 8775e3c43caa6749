use Rattle.std.proofs.Common.{refl, ◌∙◌}
use Rattle.job_deploy.proofs.Taking.{fewer_more, theirs_more}
use Rattle.job_deploy.proofs.loops.shares_of.Goals as goal

pub returns-clause-stops : goal.returns-clause-stops
returns-clause-stops g c =
    fewer_more 3 1 4 c.args.shared.now c.share_to_read_items-items.new.shared c.share_to_send_control-announce.new.shared refl
    (fewer_more 2 1 3 c.args.shared.now c.share_to_read_control-control.new.shared c.share_to_read_items-items.new.shared refl
    (fewer_more 1 1 2 c.args.shared.now c.share_to_send_items-send.new.shared c.share_to_read_control-control.new.shared refl c.share_to_send_items-send.ensures.stops c.share_to_read_control-control.ensures.stops)
    c.share_to_read_items-items.ensures.stops)
    c.share_to_send_control-announce.ensures.stops

pub returns-clause-theirs : goal.returns-clause-theirs
returns-clause-theirs g c =
    theirs_more c.args.shared.now c.share_to_read_items-items.new.shared c.share_to_send_control-announce.new.shared
    (theirs_more c.args.shared.now c.share_to_read_control-control.new.shared c.share_to_read_items-items.new.shared
    (theirs_more c.args.shared.now c.share_to_send_items-send.new.shared c.share_to_read_control-control.new.shared c.share_to_send_items-send.ensures.theirs c.share_to_read_control-control.ensures.theirs)
    c.share_to_read_items-items.ensures.theirs)
    c.share_to_send_control-announce.ensures.theirs

pub returns-clause-shares : goal.returns-clause-shares
returns-clause-shares g c = record {
  channels = (c.share_to_send_items-send.ensures.channels, c.share_to_read_items-items.ensures.channels);
  cells = (c.share_to_send_items-send.ensures.cells, c.share_to_read_items-items.ensures.cells);
  unseen = c.share_to_send_items-send.ensures.unseen;
  new = c.share_to_read_items-items.ensures.new;
  may_send = (c.share_to_send_items-send.ensures.may, c.share_to_read_control-control.ensures.may);
  may_receive = (c.share_to_read_items-items.ensures.may, c.share_to_send_control-announce.ensures.may);
  has_room = record { empty = c.reserve.ensures.items ∙ c.new-row.ensures; room = c.in_ok-reserve.ensures.ok };
}
