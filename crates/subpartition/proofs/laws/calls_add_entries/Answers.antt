use Rattle.subpartition.proofs.Adding.{new_stands_for_none, put_adds, put_inline_adds, put_front_adds, finish_adds, take_adds, size_adds}
use Rattle.subpartition.proofs.laws.calls_add_entries.Goals as goal

pub returns : goal.returns
returns c = record { new = new_stands_for_none; put = put_adds; put_inline = put_inline_adds; put_front = put_front_adds; finish = finish_adds; take = take_adds; size = size_adds }
