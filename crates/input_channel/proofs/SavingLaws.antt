-- What a channel keeps of an open save is what its history saves.
use Rattle.std.proofs.Common.{◌≡◌, ℕ, zero, suc, ◌+◌, ◌≤◌, true, List, [], ◌∷◌, ◌++◌, length, length-append, Option, Some, None, refl, sym, ap, ◌∙◌, append_assoc, append-nil, arith, inl, inr}
use Rattle.std.proofs.lemmas.Bool.{le-leb}
use Rattle.flow_defs.specs.declared.parcel.Parcel.{Parcel}
use Rattle.flow_defs.specs.Parcels.{barriers_of}
use Rattle.flow_defs.specs.Barriers.{has_barrier}
use Rattle.input_channel.specs.declared.entry.ReceiveEntry.{ReceiveEntry}
use Rattle.input_channel.specs.declared.entry.ReceiveEntry.TheVariants.{Push, Save, Saved}
use Rattle.input_channel.specs.Inboxes.{Inbox, empty_inbox, inbox, pushed, waiting, waiting_before}
use Rattle.input_channel.specs.Legal.{open_from, open_save, IsInTurn, MaySave}
use Rattle.input_channel.specs.States.{OpenSave, ChannelState, gain, gained, SaveIs}
use Rattle.input_channel.proofs.InboxLaws.{arrivals_are_pushed, inbox-more, barriers_come_in_order}
use Rattle.input_channel.proofs.BarrierLaws.{has_barrier-number}
use Rattle.input_channel.proofs.SaveLaws.{saved_from-append, has_save-there, has_save-more, comes, waiting_before-more, saved-same, saved-more}
use Rattle.input_channel.proofs.LineLaws.{AreNumbered, by_number, first_numbered}

pub open_from-append : (now : Option ℕ) (xs ys : List ReceiveEntry) → open_from now (xs ++ ys) ≡ open_from (open_from now xs) ys
open_from-append now [] ys = refl
open_from-append now (Save k rest ∷ xs) ys = open_from-append (Some k) xs ys
open_from-append now (Saved k ∷ xs) ys = open_from-append None xs ys
open_from-append now (e ∷ xs) ys = open_from-append now xs ys

-- ---- each entry

-- one that changes neither the inbox nor the open save
pub still_saves : (es : List ReceiveEntry) (e : ReceiveEntry) (save : Option OpenSave) → open_from (open_save es) (e ∷ []) ≡ open_save es → pushed (e ∷ []) ≡ [] → inbox (es ++ e ∷ []) ≡ inbox es → SaveIs es save → SaveIs (es ++ e ∷ []) save
still_saves es e None stays none same is = open_from-append None es (e ∷ []) ∙ stays ∙ is
still_saves es e (Some save) stays none same is = (
  open_from-append None es (e ∷ []) ∙ stays ∙ is.0,
  has_save-more save.number es (e ∷ []) is.1,
  is.2,
  saved-same save.number es e is.1 none ∙ is.3 ∙ ap (λ (i : Inbox). save.bytes ++ waiting_before save.number i.arrivals) (sym same),
)

pub push_saves : (es : List ReceiveEntry) (p : Parcel) (backlog : ℕ) (save : Option OpenSave) → SaveIs es save → SaveIs (es ++ Push p backlog ∷ []) save
push_saves es p backlog None is = open_from-append None es (Push p backlog ∷ []) ∙ is
push_saves es p backlog (Some save) is =
    let k = save.number in
    let xs = (inbox es).arrivals in (
      open_from-append None es (Push p backlog ∷ []) ∙ is.0,
      has_save-more k es (Push p backlog ∷ []) is.1,
      is.2,
      saved-more k es p backlog is.1 ∙ ap (λ z. z ++ comes k (pushed es) p) is.3 ∙ append_assoc save.bytes (waiting_before k xs) (comes k (pushed es) p)
          ∙ ap (λ z. save.bytes ++ z) (ap (λ ps. waiting_before k xs ++ comes k ps p) (sym (arrivals_are_pushed es)) ∙ sym (waiting_before-more k xs p)
          ∙ ap (λ (i : Inbox). waiting_before k i.arrivals) (sym (inbox-more es (Push p backlog)))),
    )

-- one that polls this
pub poll_saves : (es : List ReceiveEntry) (e : ReceiveEntry) (c : ChannelState) (p : Option Parcel) (save : Option OpenSave) → open_from (open_save es) (e ∷ []) ≡ open_save es → pushed (e ∷ []) ≡ [] →
    ((k : ℕ) → 1 ≤ k → waiting_before k (inbox es).arrivals ≡ gain c k p ++ waiting_before k (inbox (es ++ e ∷ [])).arrivals) → SaveIs es save → SaveIs (es ++ e ∷ []) (gained c p save)
poll_saves es e c p None stays none gains is = open_from-append None es (e ∷ []) ∙ stays ∙ is
poll_saves es e c p (Some save) stays none gains is =
    let k = save.number in (
      open_from-append None es (e ∷ []) ∙ stays ∙ is.0,
      has_save-more k es (e ∷ []) is.1,
      is.2,
      saved-same k es e is.1 none ∙ is.3 ∙ ap (λ z. save.bytes ++ z) (gains k is.2) ∙ sym (append_assoc save.bytes (gain c k p) (waiting_before k (inbox (es ++ e ∷ [])).arrivals)),
    )

from_one : (es : List ReceiveEntry) (k : ℕ) → IsInTurn es k → 1 ≤ k
from_one es k turn = elim turn as (λ t. 1 ≤ k) [ inl is ↦ omega (arith, is) | inr is ↦ (let j = is.1 in omega (arith, j)) ]

pub save_saves : (es : List ReceiveEntry) (k : ℕ) (rest : List ℕ) → MaySave es k rest → SaveIs (es ++ Save k rest ∷ []) (Some (record { number = k; bytes = rest }))
save_saves es k rest may = (
  open_from-append None es (Save k rest ∷ []),
  has_save-there k es [] rest,
  from_one es k may.in_turn,
  saved_from-append empty_inbox k es [] rest may.once ∙ ap (λ xs. rest ++ waiting_before k xs) (append-nil (inbox es).arrivals)
      ∙ ap (λ (i : Inbox). rest ++ waiting_before k i.arrivals) (sym (inbox-more es (Save k rest))),
)

pub close_saves : (es : List ReceiveEntry) (k : ℕ) → SaveIs (es ++ Saved k ∷ []) None
close_saves es k = open_from-append None es (Saved k ∷ [])

-- ---- what may be saved

-- a barrier that came, by its number
pub has_come : (ps : List Parcel) (k : ℕ) → AreNumbered (barriers_of ps) → 1 ≤ k → k ≤ length (barriers_of ps) → has_barrier k ps ≡ true
has_come ps k numbered one low = has_barrier-number k ps ∙ by_number k (barriers_of ps) numbered one ∙ le-leb k (length (barriers_of ps)) low

-- the barriers that were polled are the first ones that came
pub is_in_turn : (es : List ReceiveEntry) (polled k : ℕ) → AreNumbered (barriers_of (pushed es)) → polled + length (barriers_of (waiting (inbox es).arrivals)) ≡ length (barriers_of (pushed es)) → 1 ≤ k → k ≤ suc polled → IsInTurn es k
is_in_turn es polled zero numbered many one low = absurd (omega (arith, one))
is_in_turn es polled (suc zero) numbered many one low = inl refl
is_in_turn es polled (suc (suc j)) numbered many one low =
    let given = barriers_of (inbox es).given in
    let left = barriers_of (waiting (inbox es).arrivals) in
    let parts : barriers_of (pushed es) ≡ given ++ left = sym (barriers_come_in_order es) in
    let count = ap length parts ∙ length-append given left in
    inr (suc j, refl, has_come (inbox es).given (suc j) (first_numbered given left (barriers_of (pushed es)) parts numbered) (omega arith) (omega (arith, low, many, count)))
