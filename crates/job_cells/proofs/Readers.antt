-- The readers of the channels of an edge.
use Rattle.std.proofs.Common.{◌≡◌, List, [], ◌∷◌, refl, ap}
use Rattle.std.specs.Prelude.{map}
use Rattle.flow_defs.specs.declared.task.ChannelId.{ChannelId}
use Rattle.credit_reader.specs.declared.reader.Reader.{Reader}
use Rattle.credit_reader.specs.Readers.{fresh}

-- New readers are those of the channels.
pub names_of : (channels : List ChannelId) → map (λ (r : Reader). r.channel) (map fresh channels) ≡ channels
names_of [] = refl
names_of (c ∷ channels) = ap (λ l. c ∷ l) (names_of channels)
