-- What is due of a line with the end behind it, and what a poll makes of a channel.
use Rattle.std.proofs.Common.{◌≡◌, ℕ, zero, suc, ◌+◌, ◌-◌, ◌<◌, ◌≤◌, ◌%◌, ◌^◌, eqb, ltb, Bool, true, false, cond, List, [], ◌∷◌, ◌++◌, map, length, drop, Option, Some, None, refl, sym, ap, subst, ◌∙◌, append-nil, true≢false, arith}
use Rattle.std.specs.Prelude.{◌&&◌, nat_le, option_to_list}
use Rattle.std.proofs.lemmas.List.{map-append}
use Rattle.flow_defs.specs.declared.task.BarrierKind.{BarrierKind}
use Rattle.flow_defs.specs.declared.task.BarrierKind.TheVariants.{Inline, Front}
use Rattle.flow_defs.specs.declared.parcel.Parcel.{Parcel}
use Rattle.flow_defs.specs.declared.parcel.Parcel.TheVariants.{Data, Barrier, End}
use Rattle.flow_defs.specs.Parcels.{barriers_of}
use Rattle.input_channel.specs.declared.held.HeldBuf.{HeldBuf}
use Rattle.input_channel.specs.declared.entry.Gave.{Gave}
use Rattle.input_channel.specs.declared.entry.Gave.TheVariants.{NoBuffer, Exclusive, Floating}
use Rattle.input_channel.specs.declared.entry.ReceiveEntry.TheVariants.{Poll, Credit}
use Rattle.input_channel.specs.Inboxes.{Arrived, WasPolled, Waits, parcel_of, waiting, front_waits, first_parcel, first_barrier, without_barrier, due, undue, is_barrier, poll_first, poll_barrier, poll_due, poll_gives, poll_leaves, waiting_before}
use Rattle.input_channel.specs.Counts.{Counts, counts_one, told}
use Rattle.input_channel.specs.declared.arrival.ArrivalKind.TheVariants as kinds
use Rattle.input_channel.specs.declared.fault.AcceptFault.TheVariants.{OverCredit, OverSize}
use Rattle.input_channel.specs.Answers.{kind_refused, GivesSaved}
use Rattle.input_channel.specs.Legal.{inline_in, owes}
use Rattle.flow_defs.proofs.ParcelLemmas.{barriers_of-append}
use Rattle.input_channel.specs.declared.parts.Parts.{Parts}
use Rattle.input_channel.specs.Lines.{Line, parcels}
use Rattle.input_channel.specs.Kept.{queue_of, line_of, state_of, save_of, passed_by, with_gain, AreOfLength, ClosesSave}
use Rattle.input_channel.proofs.InboxLaws.{waiting-append, waiting-poll_due}
use Rattle.input_channel.proofs.LineLaws.{waiting-from_waiting}
use Rattle.std.proofs.lemmas.Bool.{ne_eqb}
use Rattle.std.proofs.lemmas.Option.{same_Some}
use Rattle.input_channel.proofs.KeptLemmas.{not_lt}
use Rattle.input_channel.specs.States.{OpenSave, ChannelState, from_waiting, line_leaves, passed, reached_by, gain, gained, channel_next}

-- ---- the end behind a line

pub front_waits-end : (ps : List Parcel) → front_waits (ps ++ End ∷ []) ≡ front_waits ps
front_waits-end [] = refl
front_waits-end (Data bytes ∷ ps) = front_waits-end ps
front_waits-end (Barrier k Inline ∷ ps) = refl
front_waits-end (Barrier k Front ∷ ps) = refl
front_waits-end (End ∷ ps) = front_waits-end ps

first_barrier-end : (ps : List Parcel) → first_barrier (ps ++ End ∷ []) ≡ first_barrier ps
first_barrier-end [] = refl
first_barrier-end (Data bytes ∷ ps) = first_barrier-end ps
first_barrier-end (Barrier k kind ∷ ps) = refl
first_barrier-end (End ∷ ps) = first_barrier-end ps

without_barrier-end : (ps : List Parcel) → without_barrier (ps ++ End ∷ []) ≡ without_barrier ps ++ End ∷ []
without_barrier-end [] = refl
without_barrier-end (Data bytes ∷ ps) = ap (λ qs. Data bytes ∷ qs) (without_barrier-end ps)
without_barrier-end (Barrier k kind ∷ ps) = refl
without_barrier-end (End ∷ ps) = ap (λ qs. End ∷ qs) (without_barrier-end ps)

first-end : (p : Parcel) (ps : List Parcel) → first_parcel ps ≡ Some p → (first_parcel (ps ++ End ∷ []) ≡ Some p) × (drop 1 (ps ++ End ∷ []) ≡ drop 1 ps ++ End ∷ [])
first-end p [] e = absurd (no e)
  where
    no : ◌≡◌ {A = Option Parcel} None (Some p) → ⊥
    no e = cc
first-end p (q ∷ ps) e = (e, refl)

-- what is due stays due with the end behind it
pub due-end : (p : Parcel) (ps : List Parcel) → due ps ≡ Some p → (due (ps ++ End ∷ []) ≡ Some p) × (undue (ps ++ End ∷ []) ≡ undue ps ++ End ∷ [])
due-end p ps e =
    elim (front_waits ps) as (λ b. cond b (first_barrier ps) (first_parcel ps) ≡ Some p → front_waits (ps ++ End ∷ []) ≡ b →
    (cond (front_waits (ps ++ End ∷ [])) (first_barrier (ps ++ End ∷ [])) (first_parcel (ps ++ End ∷ [])) ≡ Some p)
    × (cond (front_waits (ps ++ End ∷ [])) (without_barrier (ps ++ End ∷ [])) (drop 1 (ps ++ End ∷ [])) ≡ cond b (without_barrier ps) (drop 1 ps) ++ End ∷ [])) [
      | true ↦ λ is at. (
        ap (λ b. cond b (first_barrier (ps ++ End ∷ [])) (first_parcel (ps ++ End ∷ []))) at ∙ first_barrier-end ps ∙ is,
        ap (λ b. cond b (without_barrier (ps ++ End ∷ [])) (drop 1 (ps ++ End ∷ []))) at ∙ without_barrier-end ps,
      )
      | false ↦ λ is at. (
        ap (λ b. cond b (first_barrier (ps ++ End ∷ [])) (first_parcel (ps ++ End ∷ []))) at ∙ (first-end p ps is).0,
        ap (λ b. cond b (without_barrier (ps ++ End ∷ [])) (drop 1 (ps ++ End ∷ []))) at ∙ (first-end p ps is).1,
      )
    ] e (front_waits-end ps)

-- ---- the end behind a line

from_waiting-end : (xs : List Arrived) → from_waiting (xs ++ Waits End ∷ []) ≡ from_waiting xs ++ Waits End ∷ []
from_waiting-end [] = refl
from_waiting-end (WasPolled p ∷ xs) = from_waiting-end xs
from_waiting-end (Waits p ∷ xs) = refl

poll_first-end : (p : Parcel) (xs : List Arrived) → first_parcel (waiting xs) ≡ Some p → poll_first (xs ++ Waits End ∷ []) ≡ poll_first xs ++ Waits End ∷ []
poll_first-end p [] e = absurd (no e)
  where
    no : ◌≡◌ {A = Option Parcel} None (Some p) → ⊥
    no e = cc
poll_first-end p (WasPolled q ∷ xs) e = ap (λ ys. WasPolled q ∷ ys) (poll_first-end p xs e)
poll_first-end p (Waits q ∷ xs) e = refl

poll_barrier-end : (xs : List Arrived) → poll_barrier (xs ++ Waits End ∷ []) ≡ poll_barrier xs ++ Waits End ∷ []
poll_barrier-end [] = refl
poll_barrier-end (WasPolled q ∷ xs) = ap (λ ys. WasPolled q ∷ ys) (poll_barrier-end xs)
poll_barrier-end (Waits (Data bytes) ∷ xs) = ap (λ ys. Waits (Data bytes) ∷ ys) (poll_barrier-end xs)
poll_barrier-end (Waits (Barrier k kind) ∷ xs) = refl
poll_barrier-end (Waits End ∷ xs) = ap (λ ys. Waits End ∷ ys) (poll_barrier-end xs)

poll_due-end : (p : Parcel) (xs : List Arrived) → due (waiting xs) ≡ Some p → poll_due (xs ++ Waits End ∷ []) ≡ poll_due xs ++ Waits End ∷ []
poll_due-end p xs e =
    let ys = xs ++ Waits End ∷ [] in
    ap (λ b. cond b (poll_barrier ys) (poll_first ys)) (ap front_waits (waiting-append xs (Waits End ∷ [])) ∙ front_waits-end (waiting xs))
    ∙ elim (front_waits (waiting xs)) as (λ b. cond b (first_barrier (waiting xs)) (first_parcel (waiting xs)) ≡ Some p → cond b (poll_barrier ys) (poll_first ys) ≡ cond b (poll_barrier xs) (poll_first xs) ++ Waits End ∷ []) [
      | true ↦ λ is. poll_barrier-end xs
      | false ↦ λ is. poll_first-end p xs is
    ] e

pub waiting_line : (line : Line) (waits : Bool) → waiting (line_of line waits) ≡ queue_of line waits
waiting_line line true = waiting-append line.arrived (Waits End ∷ [])
waiting_line line false = refl

line-barriers : (xs : List Arrived) → barriers_of (map parcel_of (xs ++ Waits End ∷ [])) ≡ barriers_of (map parcel_of xs)
line-barriers xs = ap barriers_of (map-append parcel_of xs (Waits End ∷ [])) ∙ barriers_of-append (map parcel_of xs) (End ∷ []) ∙ append-nil (barriers_of (map parcel_of xs))

-- how many barriers are gone from the line
pub passed_is : (f : Parts) → passed (state_of f) ≡ passed_by f
passed_is f = ap (λ n. f.last - n) (at f.end_waits)
  where
    at : (waits : Bool) → length (barriers_of (map parcel_of (line_of f.queue waits))) ≡ length (barriers_of (map parcel_of f.queue.arrived))
    at true = ap length (line-barriers f.queue.arrived)
    at false = refl

-- what waits before a barrier, in the line with its end
pub line-before : (k : ℕ) (line : Line) (waits : Bool) → waiting_before k (line_of line waits) ≡ waiting_before k line.arrived
line-before k line true = at line.arrived
  where
    at : (xs : List Arrived) → waiting_before k (xs ++ Waits End ∷ []) ≡ waiting_before k xs
    at [] = refl
    at (WasPolled (Data bytes) ∷ xs) = at xs
    at (WasPolled (Barrier j kind) ∷ xs) = ap (λ z. cond (eqb j k) [] z) (at xs)
    at (WasPolled End ∷ xs) = at xs
    at (Waits (Data bytes) ∷ xs) = ap (λ z. bytes ++ z) (at xs)
    at (Waits (Barrier j kind) ∷ xs) = ap (λ z. cond (eqb j k) [] z) (at xs)
    at (Waits End ∷ xs) = at xs
line-before k line false = refl

-- ---- what is due goes

pub queue_due : (line : Line) (waits : Bool) (p : Parcel) → due (parcels line) ≡ Some p → due (queue_of line waits) ≡ Some p
queue_due line true p e = (due-end p (parcels line) e).0
queue_due line false p e = e

pub record IsDue (old : Line) (waits : Bool) (p : Parcel) (new : Line) : Type 0 where
  pub due_is : due (queue_of old waits) ≡ Some p
  pub queue : queue_of new waits ≡ undue (queue_of old waits)
  pub line : line_of new waits ≡ from_waiting (poll_due (line_of old waits))

pub goes : (old new : Line) (waits : Bool) (p : Parcel) → due (parcels old) ≡ Some p → new.arrived ≡ from_waiting (poll_due old.arrived) → IsDue old waits p new
goes old new waits p e arrived = at waits
  where
    left : parcels new ≡ undue (parcels old)
    left = ap waiting arrived ∙ waiting-from_waiting (poll_due old.arrived) ∙ waiting-poll_due old.arrived

    at : (w : Bool) → IsDue old w p new
    at false = record { due_is = e; queue = left; line = arrived }
    at true = record {
      due_is = (due-end p (parcels old) e).0;
      queue = ap (λ ps. ps ++ End ∷ []) left ∙ sym (due-end p (parcels old) e).1;
      line = ap (λ xs. xs ++ Waits End ∷ []) arrived ∙ sym (ap from_waiting (poll_due-end p old.arrived e) ∙ from_waiting-end (poll_due old.arrived));
    }

-- ---- what an open save gains

gains_nothing : (s : ChannelState) (p : Option Parcel) (save : Option OpenSave) → ((k : ℕ) → gain s k p ≡ []) → gained s p save ≡ save
gains_nothing s p None none = refl
gains_nothing s p (Some save) none = ap (λ bytes. Some (record { number = save.number; bytes = bytes })) (ap (λ z. save.bytes ++ z) (none save.number) ∙ append-nil save.bytes)

pub gains_data : (f : Parts) (bytes : List ℕ) (save : Option OpenSave) → with_gain (passed_by f) bytes save ≡ gained (state_of f) (Some (Data bytes)) save
gains_data f bytes None = refl
gains_data f bytes (Some save) = ap (λ n. Some (record { number = save.number; bytes = save.bytes ++ cond (nat_le save.number n) [] bytes })) (sym (passed_is f))

-- ---- the channel after a poll

-- what a poll changes
abbrev pub polled_state : ChannelState → List Parcel → List Arrived → ℕ → Option OpenSave → Counts → ℕ → ChannelState
polled_state s queue line reached save counts owed = record s { queue = queue; line = line; reached = reached; save = save; counts = counts; owed = owed }

same_state : (s : ChannelState) (q r : List Parcel) (l m : List Arrived) (a b : ℕ) (v w : Option OpenSave) (c d : Counts) (n o : ℕ) → q ≡ r → l ≡ m → a ≡ b → v ≡ w → c ≡ d → n ≡ o → polled_state s q l a v c n ≡ polled_state s r m b w d o
same_state s q r l m a b v w c d n o e f g h i j = cc

same_credit : (s : ChannelState) (p q m n a b : ℕ) → p ≡ q → m ≡ n → a ≡ b → ◌≡◌ {A = ChannelState} (record s { counts = record s.counts { pending = p }; credit = m; announced = a }) (record s { counts = record s.counts { pending = q }; credit = n; announced = b })
same_credit s p q m n a b e f g = cc

-- what is due is given, but for a barrier that is held back
pub gives_due : (hold : Bool) (ps : List Parcel) (p : Parcel) → due ps ≡ Some p → (hold && is_barrier (Some p)) ≡ false → (poll_gives hold ps ≡ Some p) × (poll_leaves hold ps ≡ undue ps)
gives_due hold ps p e free =
    let at : (hold && is_barrier (due ps)) ≡ false = ap (λ q. hold && is_barrier q) e ∙ free in
    (ap (λ b. cond b None (due ps)) at ∙ e, ap (λ b. cond b ps (undue ps)) at)

pub holds_back : (ps : List Parcel) → is_barrier (due ps) ≡ true → (poll_gives true ps ≡ None) × (poll_leaves true ps ≡ ps)
holds_back ps is = (ap (λ b. cond b None (due ps)) is, ap (λ b. cond b ps (undue ps)) is)

-- nothing is given
pub polled_none : (s : ChannelState) (hold : Bool) → poll_gives hold s.queue ≡ None → poll_leaves hold s.queue ≡ s.queue → line_leaves hold s.line ≡ s.line → channel_next s (Poll hold NoBuffer) ≡ s
polled_none s hold gives leaves line =
    same_state s (poll_leaves hold s.queue) s.queue (line_leaves hold s.line) s.line (reached_by s (poll_gives hold s.queue)) s.reached (gained s (poll_gives hold s.queue) s.save) s.save s.counts s.counts
    (s.owed + inline_in (option_to_list (poll_gives hold s.queue))) s.owed leaves line (ap (reached_by s) gives) (ap (λ p. gained s p s.save) gives ∙ gains_nothing s None s.save (λ k. refl)) refl
    (ap (λ p. s.owed + inline_in (option_to_list p)) gives ∙ Rattle.std.proofs.Common.add-zero s.owed)

pub polled_held : (s : ChannelState) (hold : Bool) → hold ≡ true → is_barrier (due s.queue) ≡ true → waiting s.line ≡ s.queue → channel_next s (Poll hold NoBuffer) ≡ s
polled_held s hold held is same =
    let back = holds_back s.queue is in
    polled_none s hold (ap (λ h. poll_gives h s.queue) held ∙ back.0) (ap (λ h. poll_leaves h s.queue) held ∙ back.1)
    (ap (λ h. line_leaves h s.line) held ∙ ap (λ b. cond b s.line (from_waiting (poll_due s.line))) (ap (λ ps. is_barrier (due ps)) same ∙ is))

pub polled_empty : (s : ChannelState) (hold : Bool) → s.queue ≡ [] → s.line ≡ [] → channel_next s (Poll hold NoBuffer) ≡ s
polled_empty s hold none empty =
    polled_none s hold (ap (poll_gives hold) none ∙ nothing hold) (ap (poll_leaves hold) none ∙ nothing_left hold ∙ sym none) (ap (line_leaves hold) empty ∙ no_line hold ∙ sym empty)
  where
    nothing : (h : Bool) → poll_gives h [] ≡ None
    nothing true = refl
    nothing false = refl

    nothing_left : (h : Bool) → poll_leaves h [] ≡ []
    nothing_left true = refl
    nothing_left false = refl

    no_line : (h : Bool) → line_leaves h [] ≡ []
    no_line true = refl
    no_line false = refl

-- this is given
pub polled_some : (s : ChannelState) (hold : Bool) (gave : Gave) (p : Parcel) (queue : List Parcel) (line : List Arrived) (reached : ℕ) (save : Option OpenSave) (counts : Counts) (owed : ℕ) →
    waiting s.line ≡ s.queue → due s.queue ≡ Some p → (hold && is_barrier (Some p)) ≡ false → queue ≡ undue s.queue → line ≡ from_waiting (poll_due s.line) →
    reached ≡ reached_by s (Some p) → save ≡ gained s (Some p) s.save → counts ≡ counts_one s.counts (Poll hold gave) → owed ≡ s.owed + inline_in (p ∷ []) →
    polled_state s queue line reached save counts owed ≡ channel_next s (Poll hold gave)
polled_some s hold gave p queue line reached save counts owed same is free left line_left reaches gained_is counts_are owed_is =
    let at = gives_due hold s.queue p is free in
    let on : (hold && is_barrier (due (waiting s.line))) ≡ false = ap (λ ps. hold && is_barrier (due ps)) same ∙ ap (λ q. hold && is_barrier q) is ∙ free in
    same_state s queue (poll_leaves hold s.queue) line (line_leaves hold s.line) reached (reached_by s (poll_gives hold s.queue)) save (gained s (poll_gives hold s.queue) s.save) counts (counts_one s.counts (Poll hold gave))
    owed (s.owed + inline_in (option_to_list (poll_gives hold s.queue)))
    (left ∙ sym at.1) (line_left ∙ sym (ap (λ b. cond b s.line (from_waiting (poll_due s.line))) on)) (reaches ∙ ap (reached_by s) (sym at.0)) (gained_is ∙ ap (λ q. gained s q s.save) (sym at.0)) counts_are
    (owed_is ∙ ap (λ q. s.owed + inline_in (option_to_list q)) (sym at.0))

-- a barrier or the end adds nothing to a save
pub barrier_gains : (s : ChannelState) (k : ℕ) (kind : BarrierKind) (save : Option OpenSave) → save ≡ gained s (Some (Barrier k kind)) save
barrier_gains s k kind save = sym (gains_nothing s (Some (Barrier k kind)) save (λ j. refl))

pub end_gains : (s : ChannelState) (save : Option OpenSave) → save ≡ gained s (Some End) save
end_gains s save = sym (gains_nothing s (Some End) save (λ j. refl))

-- ---- the credit of a channel that was shut

-- none is told, and the channel stays
pub tells_nothing : (s : ChannelState) → s.counts.shut ≡ true → s.announced < 2 ^ 64 → channel_next s (Credit 0) ≡ s
tells_nothing s shut small =
    let none : told s.counts ≡ 0 = ap (λ b. cond b 0 s.counts.pending) shut in
    let left : s.counts.pending - told s.counts ≡ s.counts.pending = omega (arith, none) in
    let credit : s.credit + told s.counts ≡ s.credit = omega (arith, none) in
    let same : (s.announced + told s.counts) % 2 ^ 64 ≡ s.announced = omega (arith, none, small) in
    same_credit s _ _ _ _ _ _ left credit same

-- ---- data within the credit and the size

pub accepts_data : (s : ChannelState) (bytes : List ℕ) → (s.credit ≡ 0 → ⊥) → length bytes ≤ s.size → kind_refused s kinds.Buffer bytes ≡ None
accepts_data s bytes some low =
    ap (λ b. cond b (Some (OverCredit ((s.received + 1) % 2 ^ 64) s.announced)) (cond (ltb s.size (length bytes)) (Some (OverSize (length bytes) s.size)) None)) (ne_eqb s.credit 0 some)
    ∙ ap (λ b. cond b (Some (OverSize (length bytes) s.size)) None) (not_lt s.size (length bytes) low)

-- ---- how many barriers wait

-- a barrier that is due is one of those that wait
without_barrier-length : (ps : List Parcel) → is_barrier (first_barrier ps) ≡ true → length (barriers_of (without_barrier ps)) + 1 ≡ length (barriers_of ps)
without_barrier-length [] e = absurd (true≢false (sym e))
without_barrier-length (Data bytes ∷ ps) e = without_barrier-length ps e
without_barrier-length (Barrier k kind ∷ ps) e = omega arith
without_barrier-length (End ∷ ps) e = without_barrier-length ps e

first-length : (ps : List Parcel) → is_barrier (first_parcel ps) ≡ true → length (barriers_of (drop 1 ps)) + 1 ≡ length (barriers_of ps)
first-length [] e = absurd (true≢false (sym e))
first-length (Data bytes ∷ ps) e = absurd (true≢false (sym e))
first-length (Barrier k kind ∷ ps) e = omega arith
first-length (End ∷ ps) e = absurd (true≢false (sym e))

pub undue-length : (ps : List Parcel) → is_barrier (due ps) ≡ true → length (barriers_of (undue ps)) + 1 ≡ length (barriers_of ps)
undue-length ps is =
    elim (front_waits ps) as (λ b. is_barrier (cond b (first_barrier ps) (first_parcel ps)) ≡ true → length (barriers_of (cond b (without_barrier ps) (drop 1 ps))) + 1 ≡ length (barriers_of ps)) [
      | true ↦ λ e. without_barrier-length ps e
      | false ↦ λ e. first-length ps e
    ] is

pub owes-low : (kind : BarrierKind) → owes kind ≤ 1
owes-low Inline = omega arith
owes-low Front = omega arith

pub counts-poll : (c : Counts) (hold x : Bool) → counts_one c (Poll hold (cond x Exclusive Floating)) ≡ record c { held = drop 1 c.held }
counts-poll c hold x = elim x as (λ b. counts_one c (Poll hold (cond b Exclusive Floating)) ≡ record c { held = drop 1 c.held }) [ true ↦ refl | false ↦ refl ]

pub buffers-first : (n : ℕ) (xs ys : List HeldBuf) (b : HeldBuf) → xs ≡ b ∷ ys → AreOfLength n xs → length b.segment ≡ n
buffers-first n xs ys b e h = let sizes : AreOfLength n (b ∷ ys) = subst (AreOfLength n) e h in sizes.0

-- ---- the channel after a save was closed

gave_save : (f g : Parts) (k : ℕ) (bytes : List ℕ) (save : Option OpenSave) → save_of f.save ≡ save → with_gain (passed_by f) (waiting_before k f.queue.arrived) save ≡ Some (record { number = k; bytes = bytes }) →
    g ≡ record f { save = None } → GivesSaved (state_of f) k bytes (state_of g)
gave_save f g k bytes None is gives same = absurd (no gives)
  where
    no : ◌≡◌ {A = Option OpenSave} None (Some (record { number = k; bytes = bytes })) → ⊥
    no e = cc
gave_save f g k bytes (Some save) is gives same =
    let late = waiting_before k f.queue.arrived in
    let closed = same_Some (record { number = save.number; bytes = save.bytes ++ cond (nat_le save.number (passed_by f)) [] late }) (record { number = k; bytes = bytes }) gives in
    let number : save.number ≡ k = ap (λ (s : OpenSave). s.number) closed in
    record {
      save = save;
      was_open = is;
      number = number;
      bytes_are =
          sym (ap (λ (s : OpenSave). s.bytes) closed)
          ∙ ap (λ n. save.bytes ++ cond (nat_le save.number n) [] late) (sym (passed_is f))
          ∙ ap (λ z. save.bytes ++ cond (nat_le save.number (passed (state_of f))) [] z)
          (ap (λ j. waiting_before j f.queue.arrived) (sym number) ∙ sym (line-before save.number f.queue f.end_waits));
      closed = ap state_of same;
    }

pub closes_save : (f g : Parts) (k : ℕ) (bytes : List ℕ) → ClosesSave f k bytes g → GivesSaved (state_of f) k bytes (state_of g)
closes_save f g k bytes is = gave_save f g k bytes (save_of f.save) refl is.gives is.same
