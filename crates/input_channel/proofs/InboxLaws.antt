-- What every history of the receiving end keeps.
use Rattle.std.proofs.Common.{◌≡◌, ◌+◌, Bool, true, false, cond, List, [], ◌∷◌, ◌++◌, map, drop, None, refl, sym, ap, ◌∙◌, append_assoc, append-nil, arith}
use Rattle.std.specs.Prelude.{◌&&◌, option_to_list}
use Rattle.flow_defs.specs.declared.parcel.Parcel.{Parcel}
use Rattle.flow_defs.specs.declared.parcel.Parcel.TheVariants.{Data, Barrier, End}
use Rattle.flow_defs.specs.Parcels.{data_of, barriers_of}
use Rattle.input_channel.specs.declared.entry.ReceiveEntry.{ReceiveEntry}
use Rattle.input_channel.specs.declared.entry.ReceiveEntry.TheVariants.{Push, Poll, Returned, Added, Backlog, Credit, Shut, Ask, Resume, Save, Saved}
use Rattle.input_channel.specs.Inboxes.{front_waits, first_parcel, first_barrier, without_barrier, due, undue, is_barrier, poll_gives, poll_leaves, Arrived, WasPolled, Waits, parcel_of, waiting, poll_first, poll_barrier, poll_due, Inbox, empty_inbox, polled_one, received_one, received_from, inbox, pushed}
use Rattle.input_channel.specs.Legal.{inline_in}
use Rattle.input_channel.specs.Theorems.{ArrivalsArePushed, DataComeInOrder, BarriersComeInOrder}
use Rattle.flow_defs.proofs.ParcelLemmas.{data_of-append, barriers_of-append}

-- ---- what waits

pub waiting-append : (xs ys : List Arrived) → waiting (xs ++ ys) ≡ waiting xs ++ waiting ys
waiting-append [] ys = refl
waiting-append (WasPolled p ∷ xs) ys = waiting-append xs ys
waiting-append (Waits p ∷ xs) ys = ap (λ ps. p ∷ ps) (waiting-append xs ys)

waiting-poll_first : (xs : List Arrived) → waiting (poll_first xs) ≡ drop 1 (waiting xs)
waiting-poll_first [] = refl
waiting-poll_first (WasPolled p ∷ xs) = waiting-poll_first xs
waiting-poll_first (Waits p ∷ xs) = refl

waiting-poll_barrier : (xs : List Arrived) → waiting (poll_barrier xs) ≡ without_barrier (waiting xs)
waiting-poll_barrier [] = refl
waiting-poll_barrier (WasPolled p ∷ xs) = waiting-poll_barrier xs
waiting-poll_barrier (Waits (Data bytes) ∷ xs) = ap (λ ps. Data bytes ∷ ps) (waiting-poll_barrier xs)
waiting-poll_barrier (Waits (Barrier k kind) ∷ xs) = refl
waiting-poll_barrier (Waits End ∷ xs) = ap (λ ps. End ∷ ps) (waiting-poll_barrier xs)

pub waiting-poll_due : (xs : List Arrived) → waiting (poll_due xs) ≡ undue (waiting xs)
waiting-poll_due xs =
    elim (front_waits (waiting xs)) as (λ b. waiting (cond b (poll_barrier xs) (poll_first xs)) ≡ cond b (without_barrier (waiting xs)) (drop 1 (waiting xs))) [
      | true ↦ waiting-poll_barrier xs
      | false ↦ waiting-poll_first xs
    ]

-- a poll leaves what poll_leaves says, and gives what poll_gives says
pub polled-waiting : (hold : Bool) (i : Inbox) → waiting (polled_one hold i).arrivals ≡ poll_leaves hold (waiting i.arrivals)
polled-waiting hold i =
    elim (hold && is_barrier (due (waiting i.arrivals))) as (λ b. waiting (cond b i (record { arrivals = poll_due i.arrivals; given = i.given ++ option_to_list (due (waiting i.arrivals)) })).arrivals ≡ cond b (waiting i.arrivals) (undue (waiting i.arrivals))) [
      | true ↦ refl
      | false ↦ waiting-poll_due i.arrivals
    ]

pub polled-given : (hold : Bool) (i : Inbox) → (polled_one hold i).given ≡ i.given ++ option_to_list (poll_gives hold (waiting i.arrivals))
polled-given hold i =
    elim (hold && is_barrier (due (waiting i.arrivals))) as (λ b. (cond b i (record { arrivals = poll_due i.arrivals; given = i.given ++ option_to_list (due (waiting i.arrivals)) })).given ≡ i.given ++ option_to_list (cond b None (due (waiting i.arrivals)))) [
      | true ↦ sym (append-nil i.given)
      | false ↦ refl
    ]

-- ---- the entries of a history, one by one

pub received_from-append : (i : Inbox) (xs ys : List ReceiveEntry) → received_from i (xs ++ ys) ≡ received_from (received_from i xs) ys
received_from-append i [] ys = refl
received_from-append i (x ∷ xs) ys = received_from-append (received_one i x) xs ys

pub inbox-more : (es : List ReceiveEntry) (e : ReceiveEntry) → inbox (es ++ e ∷ []) ≡ received_one (inbox es) e
inbox-more es e = received_from-append empty_inbox es (e ∷ [])

pub pushed-append : (xs ys : List ReceiveEntry) → pushed (xs ++ ys) ≡ pushed xs ++ pushed ys
pushed-append [] ys = refl
pushed-append (Push p backlog ∷ xs) ys = ap (λ ps. p ∷ ps) (pushed-append xs ys)
pushed-append (e ∷ xs) ys = pushed-append xs ys

-- ---- what arrived is what was pushed

poll_first-parcels : (xs : List Arrived) → map parcel_of (poll_first xs) ≡ map parcel_of xs
poll_first-parcels [] = refl
poll_first-parcels (WasPolled p ∷ xs) = ap (λ ps. p ∷ ps) (poll_first-parcels xs)
poll_first-parcels (Waits p ∷ xs) = refl

poll_barrier-parcels : (xs : List Arrived) → map parcel_of (poll_barrier xs) ≡ map parcel_of xs
poll_barrier-parcels [] = refl
poll_barrier-parcels (WasPolled p ∷ xs) = ap (λ ps. p ∷ ps) (poll_barrier-parcels xs)
poll_barrier-parcels (Waits (Data bytes) ∷ xs) = ap (λ ps. Data bytes ∷ ps) (poll_barrier-parcels xs)
poll_barrier-parcels (Waits (Barrier k kind) ∷ xs) = refl
poll_barrier-parcels (Waits End ∷ xs) = ap (λ ps. End ∷ ps) (poll_barrier-parcels xs)

pub poll_due-parcels : (xs : List Arrived) → map parcel_of (poll_due xs) ≡ map parcel_of xs
poll_due-parcels xs = elim (front_waits (waiting xs)) as (λ b. map parcel_of (cond b (poll_barrier xs) (poll_first xs)) ≡ map parcel_of xs) [ true ↦ poll_barrier-parcels xs | false ↦ poll_first-parcels xs ]

polled-parcels : (hold : Bool) (i : Inbox) → map parcel_of (polled_one hold i).arrivals ≡ map parcel_of i.arrivals
polled-parcels hold i =
    elim (hold && is_barrier (due (waiting i.arrivals))) as (λ b. map parcel_of (cond b i (record { arrivals = poll_due i.arrivals; given = i.given ++ option_to_list (due (waiting i.arrivals)) })).arrivals ≡ map parcel_of i.arrivals) [
      | true ↦ refl
      | false ↦ poll_due-parcels i.arrivals
    ]

received_from-parcels : (i : Inbox) (es : List ReceiveEntry) → map parcel_of (received_from i es).arrivals ≡ map parcel_of i.arrivals ++ pushed es
received_from-parcels i [] = sym (append-nil (map parcel_of i.arrivals))
received_from-parcels i (Push p backlog ∷ es) =
    received_from-parcels (received_one i (Push p backlog)) es ∙ ap (λ ps. ps ++ pushed es) (Rattle.std.proofs.lemmas.List.map-append parcel_of i.arrivals (Waits p ∷ []))
    ∙ append_assoc (map parcel_of i.arrivals) (p ∷ []) (pushed es)
received_from-parcels i (Poll hold gave ∷ es) = received_from-parcels (polled_one hold i) es ∙ ap (λ ps. ps ++ pushed es) (polled-parcels hold i)
received_from-parcels i (e ∷ es) = received_from-parcels i es

pub arrivals_are_pushed : ArrivalsArePushed
arrivals_are_pushed es = received_from-parcels empty_inbox es

-- ---- what is told of parcels by a word that goes along with ++ , and that finds what is due before the rest

module _ {X : Type 0} (f : List Parcel → List X) (f-append : (ps qs : List Parcel) → f (ps ++ qs) ≡ f ps ++ f qs) (f-nil : f [] ≡ [])
    (f-due : (ps : List Parcel) → f (option_to_list (due ps)) ++ f (undue ps) ≡ f ps) where
  in_all : Inbox → List X
  in_all i = f i.given ++ f (waiting i.arrivals)

  poll-leaves : (hold : Bool) (ps : List Parcel) → f (option_to_list (poll_gives hold ps)) ++ f (poll_leaves hold ps) ≡ f ps
  poll-leaves hold ps =
      elim (hold && is_barrier (due ps)) as (λ b. f (option_to_list (cond b None (due ps))) ++ f (cond b ps (undue ps)) ≡ f ps) [
        | true ↦ ap (λ xs. xs ++ f ps) f-nil
        | false ↦ f-due ps
      ]

  none_more : (i : Inbox) → in_all i ≡ in_all i ++ f []
  unfolding in_all
  none_more i = sym (ap (λ xs. (f i.given ++ f (waiting i.arrivals)) ++ xs) f-nil ∙ append-nil (f i.given ++ f (waiting i.arrivals)))

  one_more : (i : Inbox) (e : ReceiveEntry) → in_all (received_one i e) ≡ in_all i ++ f (pushed (e ∷ []))
  unfolding in_all
  one_more i (Push p backlog) =
      ap (λ ps. f i.given ++ f ps) (waiting-append i.arrivals (Waits p ∷ [])) ∙ ap (λ xs. f i.given ++ xs) (f-append (waiting i.arrivals) (p ∷ []))
      ∙ sym (append_assoc (f i.given) (f (waiting i.arrivals)) (f (p ∷ [])))
  one_more i (Poll hold gave) =
      ap (λ ps. f ps ++ f (waiting (polled_one hold i).arrivals)) (polled-given hold i)
      ∙ ap (λ ps. f (i.given ++ option_to_list (poll_gives hold (waiting i.arrivals))) ++ f ps) (polled-waiting hold i)
      ∙ ap (λ xs. xs ++ f (poll_leaves hold (waiting i.arrivals))) (f-append i.given (option_to_list (poll_gives hold (waiting i.arrivals))))
      ∙ append_assoc (f i.given) (f (option_to_list (poll_gives hold (waiting i.arrivals)))) (f (poll_leaves hold (waiting i.arrivals)))
      ∙ ap (λ xs. f i.given ++ xs) (poll-leaves hold (waiting i.arrivals))
      ∙ none_more i
  one_more i (Returned exclusive) = none_more i
  one_more i Added = none_more i
  one_more i (Backlog backlog) = none_more i
  one_more i (Credit given) = none_more i
  one_more i Shut = none_more i
  one_more i Ask = none_more i
  one_more i Resume = none_more i
  one_more i (Save k kept) = none_more i
  one_more i (Saved k) = none_more i

  all_from : (i : Inbox) (es : List ReceiveEntry) → in_all (received_from i es) ≡ in_all i ++ f (pushed es)
  all_from i [] = none_more i
  all_from i (e ∷ es) =
      all_from (received_one i e) es ∙ ap (λ xs. xs ++ f (pushed es)) (one_more i e)
      ∙ append_assoc (in_all i) (f (pushed (e ∷ []))) (f (pushed es))
      ∙ ap (λ xs. in_all i ++ xs) (sym (f-append (pushed (e ∷ [])) (pushed es)))
      ∙ ap (λ ps. in_all i ++ f ps) (sym (pushed-append (e ∷ []) es))

  pub all_in_order : (es : List ReceiveEntry) → f (inbox es).given ++ f (waiting (inbox es).arrivals) ≡ f (pushed es)
  unfolding in_all
  all_in_order es = all_from empty_inbox es ∙ ap (λ xs. (xs ++ xs) ++ f (pushed es)) f-nil

-- ---- bytes

data_of-barrier : (ps : List Parcel) → data_of (option_to_list (first_barrier ps)) ≡ []
data_of-barrier [] = refl
data_of-barrier (Data bytes ∷ ps) = data_of-barrier ps
data_of-barrier (Barrier k kind ∷ ps) = refl
data_of-barrier (End ∷ ps) = data_of-barrier ps

data_of-without : (ps : List Parcel) → data_of (without_barrier ps) ≡ data_of ps
data_of-without [] = refl
data_of-without (Data bytes ∷ ps) = ap (λ z. bytes ++ z) (data_of-without ps)
data_of-without (Barrier k kind ∷ ps) = refl
data_of-without (End ∷ ps) = data_of-without ps

data_of-first : (ps : List Parcel) → data_of (option_to_list (first_parcel ps)) ++ data_of (drop 1 ps) ≡ data_of ps
data_of-first [] = refl
data_of-first (p ∷ ps) = sym (data_of-append (p ∷ []) ps)

data_of-due : (ps : List Parcel) → data_of (option_to_list (due ps)) ++ data_of (undue ps) ≡ data_of ps
data_of-due ps =
    elim (front_waits ps) as (λ b. data_of (option_to_list (cond b (first_barrier ps) (first_parcel ps))) ++ data_of (cond b (without_barrier ps) (drop 1 ps)) ≡ data_of ps) [
      | true ↦ ap (λ z. z ++ data_of (without_barrier ps)) (data_of-barrier ps) ∙ data_of-without ps
      | false ↦ data_of-first ps
    ]

pub data_come_in_order : DataComeInOrder
data_come_in_order es = all_in_order data_of data_of-append refl data_of-due es

-- ---- barriers

barriers_of-barrier : (ps : List Parcel) → barriers_of (option_to_list (first_barrier ps)) ++ barriers_of (without_barrier ps) ≡ barriers_of ps
barriers_of-barrier [] = refl
barriers_of-barrier (Data bytes ∷ ps) = barriers_of-barrier ps
barriers_of-barrier (Barrier k kind ∷ ps) = refl
barriers_of-barrier (End ∷ ps) = barriers_of-barrier ps

barriers_of-first : (ps : List Parcel) → barriers_of (option_to_list (first_parcel ps)) ++ barriers_of (drop 1 ps) ≡ barriers_of ps
barriers_of-first [] = refl
barriers_of-first (p ∷ ps) = sym (barriers_of-append (p ∷ []) ps)

barriers_of-due : (ps : List Parcel) → barriers_of (option_to_list (due ps)) ++ barriers_of (undue ps) ≡ barriers_of ps
barriers_of-due ps =
    elim (front_waits ps) as (λ b. barriers_of (option_to_list (cond b (first_barrier ps) (first_parcel ps))) ++ barriers_of (cond b (without_barrier ps) (drop 1 ps)) ≡ barriers_of ps) [
      | true ↦ barriers_of-barrier ps
      | false ↦ barriers_of-first ps
    ]

pub barriers_come_in_order : BarriersComeInOrder
barriers_come_in_order es = all_in_order barriers_of barriers_of-append refl barriers_of-due es

-- ---- inline barriers

pub inline_in-append : (ps qs : List Parcel) → inline_in (ps ++ qs) ≡ inline_in ps + inline_in qs
inline_in-append [] qs = omega arith
inline_in-append (Data bytes ∷ ps) qs = inline_in-append ps qs
inline_in-append (Barrier k kind ∷ ps) qs = let rest = inline_in-append ps qs in omega (arith, rest)
inline_in-append (End ∷ ps) qs = inline_in-append ps qs
