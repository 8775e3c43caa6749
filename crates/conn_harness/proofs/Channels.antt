-- A channel's state and history over a turn of the gate.
use Rattle.std.proofs.Common.{◌≡◌, ℕ, true, List, [], ◌∷◌, ◌++◌, sym, subst}
use Rattle.turn_cell.specs.History.{entries_of}
use Rattle.input_channel.specs.declared.entry.ReceiveEntry.{ReceiveEntry}
use Rattle.input_channel.specs.Legal.{may_receive}
use Rattle.input_channel.specs.States.{ChannelState, ChannelStandsFor, Allows, channel_next}
use Rattle.input_channel.specs.Theorems.{CallsAreLegal, CallsAddEntries}

-- The channel after a call stands for the history with its entry.
pub stands_after : (legal : CallsAreLegal) (adds : CallsAddEntries) (found old new : ChannelState) (history : List (ℕ × ReceiveEntry)) (n k : ℕ) (e : ReceiveEntry) →
    ChannelStandsFor found history → old ≡ found → n ≡ k → may_receive k e ≡ true → Allows old (entries_of history) e → new ≡ channel_next old e → ChannelStandsFor new (history ++ (n, e) ∷ [])
stands_after legal adds found old new history n k e stands is same may allows then =
    let s = subst (λ c. ChannelStandsFor c history) (sym is) stands in
    subst (λ m. ChannelStandsFor new (history ++ (m, e) ∷ [])) (sym same)
    (subst (λ c. ChannelStandsFor c (history ++ (k, e) ∷ [])) (sym then) (adds old history k e s (may, legal old history e s allows)))
