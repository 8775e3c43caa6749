use Rattle.std.proofs.Common.{arith, drop, sym}
use Rattle.std.proofs.lemmas.List.{take-append-drop}
use Rattle.record_spans.proofs.Lengths.{none_short, none_cut}
use Rattle.record_spans.proofs.reader.front_of.Goals as goal

pub returns-then-bytes-lt4 : goal.returns-then-bytes-lt4
returns-then-bytes-lt4 c = none_short c.args.bytes.now c.if-bytes-lt4.true

pub returns-then-len-gt-RECORD_MAX : goal.returns-then-len-gt-RECORD_MAX
returns-then-len-gt-RECORD_MAX c = record {
  more = drop 4 c.args.bytes.now;
  bytes_are = rw c.front_length-len.ensures (sym (take-append-drop 4 c.args.bytes.now));
  in_range = omega arith;
  above = omega arith;
}

pub returns-then-bytes-len : goal.returns-then-bytes-len
returns-then-bytes-len c = none_cut c.args.bytes.now c.front_length-len.result (omega arith) c.front_length-len.ensures (omega arith)
