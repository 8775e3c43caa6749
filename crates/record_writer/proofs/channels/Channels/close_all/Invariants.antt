use Rattle.std.proofs.Common.{◌<◌, ◌≤◌, ℕ, length}
use Rattle.record_writer.specs.Channels.{WasEndedAt, IsSupply, IsSameSupply}
use Rattle.record_writer.specs.Lists.{AreChannels, AreSame, IsSameAt, own_of, laid_of}
use Rattle.record_writer.specs.Segments.{NoneLostOn}
use Rattle.record_writer.proofs.channels.Channels.close_all.Given as goal

abbrev pub invariant-loop-number : goal.invariant-loop-number
invariant-loop-number g l = let was = l.initial.self in let size = l.initial.supply.size in record {
  supply : IsSupply l.supply;
  same : IsSameSupply l.initial.supply l.supply;
  channels : AreChannels size (length was.passes.items) l.self;
  same_cells : AreSame was l.self;
  closed : (c : ℕ) → c < l.number → WasEndedAt size (own_of was c) (own_of l.self c) (laid_of was c);
  others : (c : ℕ) → l.number ≤ c → IsSameAt c was l.self;
  none_lost : NoneLostOn l.initial.supply l.supply was l.self;
}
