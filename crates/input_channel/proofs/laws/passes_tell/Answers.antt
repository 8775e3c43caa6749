use Rattle.input_channel.proofs.PassLaws.{reader_tells_pushed, gate_tells_buffers, gate_tells_saves, writer_tells_credit, given_stays}
use Rattle.input_channel.proofs.laws.passes_tell.Goals as goal

pub returns : goal.returns
returns c = record { pushed = reader_tells_pushed; buffers = gate_tells_buffers; saves = gate_tells_saves; credit = writer_tells_credit; given = given_stays }
