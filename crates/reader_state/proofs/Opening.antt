-- Readers that were newly opened.
use Rattle.std.proofs.Common.{◌≡◌, List, [], ◌∷◌, map, refl, sym, ap}
use Rattle.flow_defs.specs.declared.task.ChannelId.{ChannelId}
use Rattle.credit_reader.specs.declared.reader.Reader.{Reader}
use Rattle.credit_reader.specs.Readers.{fresh}
use Rattle.reader_state.specs.declared.state.Early.{Early}
use Rattle.reader_state.specs.Ledgers.{none_early, opened}
use Rattle.reader_state.specs.Standing.{LedgerStandsFor, MayEnterAs}
use Rattle.turn_cell.proofs.Histories.{history_nil}

pub fresh_names : (channels : List ChannelId) → map (λ (r : Reader). r.channel) (map fresh channels) ≡ channels
fresh_names [] = refl
fresh_names (c ∷ channels) = ap (λ cs. c ∷ cs) (fresh_names channels)

pub early_names : (channels : List ChannelId) → map (λ (e : Early). e.channel) (map none_early channels) ≡ channels
early_names [] = refl
early_names (c ∷ channels) = ap (λ cs. c ∷ cs) (early_names channels)

pub opened_stands : (channels : List ChannelId) → LedgerStandsFor (opened channels) []
opened_stands channels = record {
  legal = history_nil (MayEnterAs (map (λ (r : Reader). r.channel) (map fresh channels)));
  replayed = ap opened (sym (fresh_names channels));
}
