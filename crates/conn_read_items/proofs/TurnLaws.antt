-- A channel's state and history over a turn.
use Rattle.std.proofs.Common.{◌≡◌, ◌≢◌, inl, inr, ℕ, true, List, [], ◌∷◌, ◌++◌, Some, refl, sym, subst}
use Rattle.turn_cell.specs.History.{entries_of}
use Rattle.input_channel.specs.declared.arrival.Arrival.{Arrival}
use Rattle.input_channel.specs.declared.entry.ReceiveEntry.{ReceiveEntry}
use Rattle.input_channel.specs.declared.fault.AcceptFault.{AcceptFault}
use Rattle.input_channel.specs.declared.fault.AcceptFault.TheVariants.{WrongSequence, AfterEnd, OverCredit, OverSize, WrongBarrier, Memory}
use Rattle.input_channel.specs.Answers.{refused, IsFault}
use Rattle.input_channel.specs.Legal.{may_receive}
use Rattle.input_channel.specs.States.{ChannelState, ChannelStandsFor, Allows, channel_next}
use Rattle.input_channel.specs.Theorems.{CallsAreLegal, CallsAddEntries}
use Rattle.conn_read_items.specs.Turning.{Refuses, WasRefusedWith}

-- The channel after a call stands for the history with its entry.
pub stands_after : (legal : CallsAreLegal) (adds : CallsAddEntries) (found old new : ChannelState) (history : List (ℕ × ReceiveEntry)) (n k : ℕ) (e : ReceiveEntry) →
    ChannelStandsFor found history → old ≡ found → n ≡ k → may_receive k e ≡ true → Allows old (entries_of history) e → new ≡ channel_next old e → ChannelStandsFor new (history ++ (n, e) ∷ [])
stands_after legal adds found old new history n k e stands is same may allows then =
    let s = subst (λ c. ChannelStandsFor c history) (sym is) stands in
    subst (λ m. ChannelStandsFor new (history ++ (m, e) ∷ [])) (sym same)
    (subst (λ c. ChannelStandsFor c (history ++ (k, e) ∷ [])) (sym then) (adds old history k e s (may, legal old history e s allows)))

is_reason : (c : ChannelState) (a : Arrival) (bytes : List ℕ) (fault : AcceptFault) → IsFault c a bytes fault → fault ≢ Memory → refused c a bytes ≡ Some fault
is_reason c a bytes fault (inl reason) ne = reason
is_reason c a bytes fault (inr wants) ne = absurd (ne wants.1)

pub refuses : (found old : ChannelState) (history : List (ℕ × ReceiveEntry)) (a : Arrival) (bytes : List ℕ) (fault : AcceptFault) →
    ChannelStandsFor found history → old ≡ found → IsFault old a bytes fault → fault ≢ Memory → Refuses history a bytes fault
refuses found old history a bytes fault stands is why ne = record {
  state = old;
  stands = subst (λ c. ChannelStandsFor c history) (sym is) stands;
  refused = is_reason old a bytes fault why ne;
}

-- What a refusal leaves where no data came over the credit.
pub refused_with : (found old : ChannelState) (entered left : List ReceiveEntry) (history : List (ℕ × ReceiveEntry)) (a : Arrival) (bytes : List ℕ) (fault : AcceptFault) →
    ChannelStandsFor found history → old ≡ found → IsFault old a bytes fault → ((received announced : ℕ) → fault ≢ OverCredit received announced) → left ≡ entered → WasRefusedWith entered left history a bytes fault
refused_with found old entered left history a bytes (WrongSequence want got) stands is why ne same = (same, refuses found old history a bytes _ stands is why (λ e. cc))
refused_with found old entered left history a bytes AfterEnd stands is why ne same = (same, refuses found old history a bytes _ stands is why (λ e. cc))
refused_with found old entered left history a bytes (OverCredit received announced) stands is why ne same = absurd (ne received announced refl)
refused_with found old entered left history a bytes (OverSize got size) stands is why ne same = (same, refuses found old history a bytes _ stands is why (λ e. cc))
refused_with found old entered left history a bytes (WrongBarrier want got) stands is why ne same = (same, refuses found old history a bytes _ stands is why (λ e. cc))
refused_with found old entered left history a bytes Memory stands is why ne same = same
