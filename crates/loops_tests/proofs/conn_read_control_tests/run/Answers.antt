use Rattle.std.proofs.Common.{◌≡◌, ℕ, [], ◌∷◌, refl, sym, subst, arith}
use Rattle.turn_cell.specs.declared.cell.TurnCell.{TurnCell}
use Rattle.turn_cell.specs.Passes.{opened_with}
use Rattle.subpartition.specs.declared.entry.SendEntry.{SendEntry}
use Rattle.subpartition.specs.Queues.{Queue}
use Rattle.conn_parts.specs.Shares.{AreOwn}
use Rattle.loops_tests.proofs.Alone.{all_one, own_one}
use Rattle.loops_tests.proofs.conn_read_control_tests.run.Goals as goal

pub read_control-half-requires : goal.read_control-half-requires
read_control-half-requires g c = let readers = c.in_ok-readers in let sub = c.open_subpartition-subpartition in record {
  channels = readers.ensures.channels;
  distinct = λ i j d less within. absurd (omega arith);
  places = refl;
  sizes = all_one (λ (cell : TurnCell Queue SendEntry ℕ). (opened_with cell).size ≡ 128) sub.result.0 sub.ensures.size;
  reader_pass = readers.control;
  readers = refl;
  reader_is = readers.ensures.reader.0;
  new = readers.ensures.reader.1;
  subpartitions = subst (AreOwn 2 (sub.result.0 ∷ [])) (sym c.in_ok-size_passes.ensures) (own_one 2 sub.result.0 sub.result.2 sub.ensures.reader.0 sub.ensures.reader.1);
  stop = c.in_ok-stop.ensures.first.0;
}
