use Rattle.channel_cut.proofs.Reading.{read_begins, polled_is_left, line_is_given, lines_are_told, parts_are_read, in_line_cuts}
use Rattle.channel_cut.proofs.Polling.{poll_cuts}
use Rattle.channel_cut.proofs.laws.lanes_are_cut.Goals as goal

pub returns : goal.returns
returns c = record { begin = read_begins; polled = polled_is_left; line = line_is_given; lines = lines_are_told; parts = parts_are_read; cut = in_line_cuts; poll = poll_cuts c.histories_keep_order.ensures.barriers c.legal_histories_agree.ensures.numbered }
