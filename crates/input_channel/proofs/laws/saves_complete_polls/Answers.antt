use Rattle.input_channel.proofs.SaveLaws.{saved_completes_polled, saved_stays}
use Rattle.input_channel.proofs.BarrierLaws.{not_polled_is_in_time, just_polled_is_in_time}
use Rattle.input_channel.proofs.laws.saves_complete_polls.Goals as goal

pub returns : goal.returns
returns c = record { complete = saved_completes_polled; not_polled = not_polled_is_in_time; just_polled = just_polled_is_in_time; stay = saved_stays }
