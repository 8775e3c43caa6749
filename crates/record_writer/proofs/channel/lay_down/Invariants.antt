use Rattle.std.proofs.Common.{◌≡◌, ◌+◌, ◌≤◌, ◌++◌, length, take}
use Rattle.turn_cell.specs.Passes.{mine}
use Rattle.flow_defs.specs.Records.{encoded}
use Rattle.record_writer.specs.Writers.{GrewByData}
use Rattle.record_writer.specs.Channels.{IsTaskPass, IsPart, IsOpenAt, IsSupply, IsSameSupply, laid}
use Rattle.record_writer.specs.Segments.{NoneLostAt}
use Rattle.record_writer.proofs.channel.lay_down.Given as goal

abbrev pub invariant-loop-round : goal.invariant-loop-round
invariant-loop-round g l = record {
  supply : IsSupply l.supply;
  same : IsSameSupply l.initial.supply l.supply;
  pass : IsTaskPass l.cell l.pass;
  part : IsPart l.initial.supply.size l.part;
  is_open : IsOpenAt l.initial.supply.size (mine l.pass);
  within : l.done ≤ length l.line + 4;
  laid_is : laid (mine l.pass) l.part ≡ laid (mine l.initial.pass) l.initial.part ++ take l.done (encoded l.line);
  entries : GrewByData (mine l.initial.pass) (mine l.pass);
  none_lost : NoneLostAt l.initial.supply l.supply (mine l.initial.pass) (mine l.pass) l.initial.part l.part;
}
