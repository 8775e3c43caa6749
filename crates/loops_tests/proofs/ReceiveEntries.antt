-- An entry of any pass, as the tests add them.
use Rattle.std.proofs.Common.{◌≡◌, ℕ, true, List, [], ◌∷◌, ◌++◌, sym, subst}
use Rattle.turn_cell.specs.History.{entries_of}
use Rattle.input_channel.specs.declared.entry.ReceiveEntry.{ReceiveEntry}
use Rattle.input_channel.specs.Legal.{may_receive}
use Rattle.input_channel.specs.States.{ChannelState, channel_next, ChannelStandsFor, Allows}
use Rattle.input_channel.specs.Theorems.{CallsAreLegal, CallsAddEntries}

pub entry_stands : CallsAreLegal → CallsAddEntries → (entered c now : ChannelState) (h : List (ℕ × ReceiveEntry)) (n : ℕ) (e : ReceiveEntry) → ChannelStandsFor entered h → c ≡ entered →
    may_receive n e ≡ true → Allows c (entries_of h) e → now ≡ channel_next c e → ChannelStandsFor now (h ++ (n, e) ∷ [])
entry_stands legal adds entered c now h n e stands same own allowed now_is =
    let before = subst (λ s. ChannelStandsFor s h) (sym same) stands in
    subst (λ s. ChannelStandsFor s (h ++ (n, e) ∷ [])) (sym now_is) (adds c h n e before (own, legal c h e before allowed))
