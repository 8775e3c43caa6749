-- What a poll of a buffer gives, and what it leaves.
use Rattle.std.proofs.lemmas.Bool.{false≢true}
use Rattle.std.proofs.Common.{◌≡◌, ℕ, ◌+◌, ◌++◌, Bool, true, false, not, cond, List, [], ◌∷◌, drop, Option, Some, None, refl, sym, ap, ◌∙◌, arith}
use Rattle.std.specs.Prelude.{◌&&◌, count_by, option_to_list}
use Rattle.input_channel.specs.Legal.{inline_in}
use Rattle.std.proofs.lemmas.List.Sums.{sum_by-cons}
use Rattle.flow_defs.specs.declared.parcel.Parcel.{Parcel}
use Rattle.flow_defs.specs.declared.parcel.Parcel.TheVariants as parcels
use Rattle.flow_defs.proofs.Lists.{no_cons}
use Rattle.segment_pool.specs.declared.pool.Pool.{Pool}
use Rattle.local_pool.specs.declared.local.LocalPool.{LocalPool}
use Rattle.local_pool.specs.Locals.{lent_of}
use Rattle.input_channel.specs.declared.entry.ReceiveEntry.TheVariants as entries
use Rattle.input_channel.specs.declared.entry.Gave.{Gave}
use Rattle.input_channel.specs.declared.entry.Gave.TheVariants as gaves
use Rattle.input_channel.specs.Counts.{gave_by}
use Rattle.input_channel.specs.Inboxes.{Arrived, WasPolled, Waits, waiting, due, is_barrier, poll_gives}
use Rattle.input_channel.specs.States.{ChannelState, starts_waiting, channel_next}
use Rattle.exchange_world.specs.Lanes.{floating_here, behind_records}
use Rattle.exchange_world.specs.Steps.{is_exclusive}
use Rattle.exchange_core.specs.declared.lane.Lane.{Lane}
use Rattle.exchange_core.specs.Inlets.{GateFollows, with_floats, with_inbox, floating_out, lent_then, polled_back, polled_inbox, polled_rest}
use Rattle.exchange_core.proofs.Floats.{owed_with}

data_of : (hold : Bool) (bytes : List ℕ) → cond (hold && false) None (Some (parcels.Data bytes)) ≡ Some (parcels.Data bytes)
data_of true bytes = refl
data_of false bytes = refl

pub data_given : (hold : Bool) (queue : List Parcel) (bytes : List ℕ) → due queue ≡ Some (parcels.Data bytes) → poll_gives hold queue ≡ Some (parcels.Data bytes)
data_given hold queue bytes is = ap (λ p. cond (hold && is_barrier p) None p) is ∙ data_of hold bytes

gave_first : (bytes : List ℕ) (exclusive : Bool) (rest : List Bool) → gave_by (Some (parcels.Data bytes)) (exclusive ∷ rest) ≡ cond exclusive gaves.Exclusive gaves.Floating
gave_first bytes true rest = refl
gave_first bytes false rest = refl

pub gave_is : (bytes : List ℕ) (exclusive : Bool) (rest held : List Bool) → held ≡ exclusive ∷ rest → gave_by (Some (parcels.Data bytes)) held ≡ cond exclusive gaves.Exclusive gaves.Floating
gave_is bytes exclusive rest held is = ap (gave_by (Some (parcels.Data bytes))) is ∙ gave_first bytes exclusive rest

kind_told : (exclusive : Bool) → is_exclusive (cond exclusive gaves.Exclusive gaves.Floating) ≡ exclusive
kind_told true = refl
kind_told false = refl

pub exclusive_is : (hold : Bool) (bytes : List ℕ) (exclusive : Bool) (inbox : ChannelState) → gave_by (Some (parcels.Data bytes)) inbox.counts.held ≡ cond exclusive gaves.Exclusive gaves.Floating
    → channel_next (channel_next inbox (entries.Poll hold (cond exclusive gaves.Exclusive gaves.Floating))) (entries.Returned exclusive) ≡ polled_back hold bytes inbox
exclusive_is hold bytes exclusive inbox gave =
    ap (λ e. channel_next (channel_next inbox (entries.Poll hold (cond exclusive gaves.Exclusive gaves.Floating))) (entries.Returned e)) (sym (kind_told exclusive))
    ∙ ap (λ (g : Gave). channel_next (channel_next inbox (entries.Poll hold g)) (entries.Returned (is_exclusive g))) (sym gave)

abbrev with_held : ChannelState → List Bool → ℕ
with_held inbox held = inbox.counts.floating + count_by not held

pub floating_polled : (hold exclusive : Bool) (rest : List Bool) (inbox : ChannelState) → inbox.counts.held ≡ exclusive ∷ rest
    → floating_here (channel_next inbox (entries.Poll hold (cond exclusive gaves.Exclusive gaves.Floating))) + floating_out exclusive ≡ floating_here inbox
floating_polled hold true rest inbox is =
    let cons = sum_by-cons (λ (x : Bool). cond (not x) 1 0) true rest in
    let had : floating_here inbox ≡ with_held inbox (true ∷ rest) = ap (with_held inbox) is in
    let has : floating_here (channel_next inbox (entries.Poll hold gaves.Exclusive)) ≡ with_held inbox rest = ap (λ (xs : List Bool). with_held inbox (drop 1 xs)) is in
    omega (arith, cons, had, has)
floating_polled hold false rest inbox is =
    let cons = sum_by-cons (λ (x : Bool). cond (not x) 1 0) false rest in
    let had : floating_here inbox ≡ with_held inbox (false ∷ rest) = ap (with_held inbox) is in
    let has : floating_here (channel_next inbox (entries.Poll hold gaves.Floating)) ≡ with_held inbox rest = ap (λ (xs : List Bool). with_held inbox (drop 1 xs)) is in
    omega (arith, cons, had, has)

pub owed_polled : (hold : Bool) (inbox : ChannelState) (bytes : List ℕ) → poll_gives hold inbox.queue ≡ Some (parcels.Data bytes) → (polled_back hold bytes inbox).owed ≡ inbox.owed
owed_polled hold inbox bytes given =
    returned_owed (is_exclusive (gave_by (Some (parcels.Data bytes)) inbox.counts.held)) (channel_next inbox (entries.Poll hold (gave_by (Some (parcels.Data bytes)) inbox.counts.held)))
    ∙ ap (λ p. inbox.owed + inline_in (option_to_list p)) given ∙ omega arith
  where
    returned_owed : (e : Bool) (s : ChannelState) → (channel_next s (entries.Returned e)).owed ≡ s.owed
    returned_owed e s = refl

made : Lane → ChannelState → ℕ → List ℕ → Lane
made lane inbox owed rest = record lane { inbox = inbox; owed = owed; reader = rest }

pub lane_made : (limit lent : ℕ) (hold : Bool) (lane read : Lane) (polled asked : ChannelState) (bytes : List ℕ) (p : Option Parcel) → p ≡ Some (parcels.Data bytes) → poll_gives hold lane.inbox.queue ≡ p
    → read ≡ record lane { inbox = polled; reader = behind_records (lane.reader ++ bytes) }
    → asked ≡ polled_inbox limit lent hold lane.inbox (Some (parcels.Data bytes)) → lane.owed ≡ lane.inbox.owed
    → record read { inbox = asked } ≡ with_inbox lane (polled_inbox limit lent hold lane.inbox p) (polled_rest lane.reader p)
unfolding made
lane_made limit lent hold lane read polled asked bytes p is given read_is asked_is owed =
    let rest = behind_records (lane.reader ++ bytes) in
    let back = polled_back hold bytes lane.inbox in
    let inbox = polled_inbox limit lent hold lane.inbox (Some (parcels.Data bytes)) in
    let owed_is : lane.owed ≡ inbox.owed = owed ∙ sym (owed_with limit (lent_then lent lane.inbox back) back ∙ owed_polled hold lane.inbox bytes (given ∙ is)) in
    ap (λ (l : Lane). let r : Lane = record l { inbox = asked } in r) read_is
    ∙ ap (λ s. made lane s lane.owed rest) asked_is
    ∙ ap (λ n. made lane inbox n rest) owed_is
    ∙ ap (λ q. with_inbox lane (polled_inbox limit lent hold lane.inbox q) (polled_rest lane.reader q)) (sym is)

-- one step of a gate's pool and then another
pub follows_again : (pool : Pool) (one two three : LocalPool) (had has then : ℕ) → GateFollows pool one two had has → GateFollows pool two three has then → GateFollows pool one three had then
follows_again pool one two three had has then first second =
    let a = first.lent in
    let b = second.lent in
    record {
      local = second.local;
      same = record { need = second.same.need ∙ first.same.need; most = second.same.most ∙ first.same.most; limit = second.same.limit ∙ first.same.limit; number = second.same.number ∙ first.same.number };
      lent = omega (arith, a, b);
    }

-- ---- a poll that gives nothing

-- where nothing waits the line is empty
pub no_line : (xs : List Arrived) → waiting xs ≡ [] → starts_waiting xs ≡ true → xs ≡ []
no_line [] none first = refl
no_line (WasPolled p ∷ xs) none first = absurd (false≢true first)
no_line (Waits p ∷ xs) none first = absurd (no_cons p (waiting xs) none)

pub none_given : (hold : Bool) → poll_gives hold [] ≡ None
none_given true = refl
none_given false = refl

-- the channel stays as it was
pub lane_kept : (limit lent : ℕ) (hold : Bool) (lane : Lane) (polled : ChannelState) (p : Option Parcel) → polled ≡ lane.inbox → p ≡ None → lane.owed ≡ lane.inbox.owed
    → record lane { inbox = polled } ≡ with_inbox lane (polled_inbox limit lent hold lane.inbox p) (polled_rest lane.reader p)
unfolding made
lane_kept limit lent hold lane polled p same none owed =
    ap (λ s. made lane s lane.owed lane.reader) same
    ∙ ap (λ n. made lane lane.inbox n lane.reader) owed
    ∙ ap (λ q. with_inbox lane (polled_inbox limit lent hold lane.inbox q) (polled_rest lane.reader q)) (sym none)
