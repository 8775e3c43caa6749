use Rattle.subpartition.proofs.Travelling.{data_travel_in_order, data_are_taken_or_left, barriers_travel_in_order, end_travels, taken_grows}
use Rattle.subpartition.proofs.laws.histories_keep_order.Goals as goal

pub returns : goal.returns
returns c = record { bytes = data_travel_in_order; left = data_are_taken_or_left; barriers = barriers_travel_in_order; end = end_travels; taken = taken_grows }
