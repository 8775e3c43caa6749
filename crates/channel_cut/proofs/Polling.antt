-- A poll that gives a barrier in line.
use Rattle.std.proofs.Common.{◌≡◌, ◌≢◌, ℕ, zero, suc, ◌+◌, false, ◌||◌, List, [], ◌∷◌, ◌++◌, length, map, Option, Some, None, refl, sym, ap, ◌∙◌, ne_eqb, arith}
use Rattle.std.specs.Prelude.{option_to_list}
use Rattle.std.specs.List.{range_with_len}
use Rattle.std.proofs.lemmas.List.{append_cancel_left, map-append}
use Rattle.flow_defs.specs.declared.task.BarrierKind.{BarrierKind}
use Rattle.flow_defs.specs.declared.task.BarrierKind.TheVariants.{Inline}
use Rattle.flow_defs.specs.declared.parcel.Parcel.{Parcel}
use Rattle.flow_defs.specs.declared.parcel.Parcel.TheVariants.{Data, Barrier, End}
use Rattle.flow_defs.specs.Parcels.{barriers_of}
use Rattle.flow_defs.proofs.Lists.{head_same, tail_same, no_cons}
use Rattle.input_channel.specs.declared.entry.ReceiveEntry.TheVariants.{Poll}
use Rattle.input_channel.specs.Inboxes.{Inbox, inbox, poll_gives, pushed, waiting}
use Rattle.input_channel.specs.Theorems.{BarriersComeInOrder, ArrivalsAreNumbered}
use Rattle.input_channel.proofs.InboxLaws.{inbox-more, polled-given}
use Rattle.flow_defs.specs.Barriers.{has_barrier}
use Rattle.channel_cut.specs.Lanes.{PollCuts}
use Rattle.channel_cut.proofs.Reading.{in_line_cuts}

-- ---- numbers of barriers

abbrev number_of : ℕ × BarrierKind → ℕ
number_of barrier = barrier.0

first_number : (k m n : ℕ) (rest : List ℕ) → k ∷ rest ≡ range_with_len m n → (k ≡ m) × ((o : ℕ) × (rest ≡ range_with_len (m + 1) o))
first_number k m zero rest e = absurd (no_cons k rest e)
first_number k m (suc n) rest e = (head_same k m rest (range_with_len (m + 1) n) e, (n, tail_same k m rest (range_with_len (m + 1) n) e))

-- the next number is among none of them
next_is_new : (ps : List Parcel) (more : List ℕ) (m n k : ℕ) → map number_of (barriers_of ps) ++ more ≡ range_with_len m n → k ≡ m + length (barriers_of ps) → has_barrier k ps ≡ false
next_is_new [] more m n k numbered next = refl
next_is_new (Data bytes ∷ ps) more m n k numbered next = next_is_new ps more m n k numbered next
next_is_new (Barrier j kind ∷ ps) more m n k numbered next =
    let first = first_number j m n (map number_of (barriers_of ps) ++ more) numbered in
    let rest = first.1 in
    let other : j ≢ k = λ same. omega (arith, same, next, first.0) in
    ap (λ b. b || has_barrier k ps) (ne_eqb j k other) ∙ next_is_new ps more (m + 1) rest.0 k rest.1 (omega (arith, next))
next_is_new (End ∷ ps) more m n k numbered next = next_is_new ps more m n k numbered next

-- ---- what the poll gave

only_one : (p : Option Parcel) (x : Parcel) → option_to_list p ≡ x ∷ [] → p ≡ Some x
only_one None x is = absurd (no_cons x [] (sym is))
only_one (Some y) x is = ap Some (head_same y x [] [] is)

pub poll_cuts : BarriersComeInOrder → ArrivalsAreNumbered → PollCuts
poll_cuts in_order numbered room flight es hold gave k lines left legal next given read none =
    in_line_cuts flight es hold gave k lines left (record {
      gives = only_one (poll_gives hold (waiting i.arrivals)) (Barrier k Inline)
          (append_cancel_left i.given (option_to_list (poll_gives hold (waiting i.arrivals))) (Barrier k Inline ∷ [])
          (sym (polled-given hold i) ∙ sym (ap (λ (x : Inbox). x.given) (inbox-more es (Poll hold gave))) ∙ given));
      once = next_is_new i.given (map number_of (barriers_of (waiting i.arrivals))) 1 (length (barriers_of (pushed es))) k
          (sym (map-append number_of (barriers_of i.given) (barriers_of (waiting i.arrivals))) ∙ ap (map number_of) (in_order es) ∙ numbered room es legal)
          (omega (arith, next));
    }) read none
  where
    i : Inbox
    i = inbox es
