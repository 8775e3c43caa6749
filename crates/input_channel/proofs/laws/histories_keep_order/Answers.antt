use Rattle.input_channel.proofs.InboxLaws.{arrivals_are_pushed, data_come_in_order, barriers_come_in_order}
use Rattle.input_channel.proofs.LegalLaws.{shut_announces_nothing}
use Rattle.input_channel.proofs.laws.histories_keep_order.Goals as goal

pub returns : goal.returns
returns c = record { arrivals = arrivals_are_pushed; bytes = data_come_in_order; barriers = barriers_come_in_order; shut = shut_announces_nothing }
