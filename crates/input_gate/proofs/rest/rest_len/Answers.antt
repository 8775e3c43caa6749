use Rattle.std.proofs.Common.{arith}
use Rattle.input_gate.proofs.Reading.{none_of_few, none_of_cut, begins_too_long, begins_with}
use Rattle.input_gate.proofs.rest.rest_len.Goals as goal

pub unreachable-requires : goal.unreachable-requires
unreachable-requires c = c.requires.no_length c.front_length-len.result (begins_too_long c.args.bytes.now c.front_length-len.result (omega arith) (omega arith) c.front_length-len.ensures)

pub unreachable-requires-then-bytes-len : goal.unreachable-requires-then-bytes-len
unreachable-requires-then-bytes-len c = c.requires.no_record _ _ (begins_with c.args.bytes.now c.front_length-len.result (omega arith) (omega arith) c.front_length-len.ensures)

pub returns-then-bytes-lt4-clause-none : goal.returns-then-bytes-lt4-clause-none
returns-then-bytes-lt4-clause-none c = none_of_few c.args.bytes.now c.if-bytes-lt4.true

pub returns-clause-none : goal.returns-clause-none
returns-clause-none c = none_of_cut c.args.bytes.now c.front_length-len.result (omega arith) c.front_length-len.ensures (omega arith)
