use Rattle.channel_cut.proofs.Receiving.{in_line_has_all_before}
use Rattle.channel_cut.proofs.Cutting.{cuts_stay, cut_of_channel, saves_stay, cut_at_save}
use Rattle.channel_cut.proofs.laws.channels_are_cut.Goals as goal

pub returns : goal.returns
returns c = record { before = in_line_has_all_before; stay = cuts_stay; cut = cut_of_channel; saves_stay = saves_stay; cut_at_save = cut_at_save }
