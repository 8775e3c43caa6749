use Rattle.plain_machine.proofs.SpanLemmas.{spans-encoded, front_is_records, cut_between}
use Rattle.plain_machine.proofs.laws.encodings_give_records.Goals as goal

pub returns-clause-records : goal.returns-clause-records
returns-clause-records c = spans-encoded

pub returns-clause-front : goal.returns-clause-front
returns-clause-front c = front_is_records

pub returns-clause-between : goal.returns-clause-between
returns-clause-between c = cut_between
