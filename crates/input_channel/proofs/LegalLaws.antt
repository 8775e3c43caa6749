-- What every legal history of the receiving end keeps.
use Rattle.std.proofs.Common.{◌≡◌, ℕ, zero, suc, ◌+◌, ◌-◌, ◌<◌, ◌≤◌, Bool, true, false, not, cond, eqb, ltb, ltb-true, ltb-false, List, [], ◌∷◌, ◌++◌, map, length, drop, Option, Some, None, refl, sym, ap, subst, ◌∙◌, append-nil, arith}
use Rattle.std.specs.Prelude.{◌&&◌, nat_lt, count_by}
use Rattle.std.proofs.lemmas.List.{map-append}
use Rattle.flow_defs.specs.declared.task.BarrierKind.{BarrierKind}
use Rattle.flow_defs.specs.declared.parcel.Parcel.{Parcel}
use Rattle.flow_defs.specs.declared.parcel.Parcel.TheVariants.{Data, Barrier, End}
use Rattle.flow_defs.specs.Parcels.{barriers_of}
use Rattle.input_channel.specs.declared.entry.Gave.TheVariants.{NoBuffer, Exclusive, Floating}
use Rattle.input_channel.specs.declared.entry.ReceiveEntry.{ReceiveEntry}
use Rattle.input_channel.specs.declared.entry.ReceiveEntry.TheVariants.{Push, Poll, Returned, Added, Backlog, Credit, Shut, Ask, Resume, Save, Saved}
use Rattle.input_channel.specs.Inboxes.{inbox, pushed, waiting, poll_gives}
use Rattle.input_channel.specs.Counts.{Counts, free, with_data, with_exclusive, lets_go, told, exclusive_held, gave_by, Numbers, at_opening, numbers_one, numbers_from, numbers}
use Rattle.turn_cell.specs.History.{IsHistory}
use Rattle.turn_cell.proofs.Histories.{history_keeps}
use Rattle.std.specs.List.{range_with_len}
use Rattle.input_channel.specs.Legal.{MayReceive, polled_with, returned, gives_kind, returns_kind, credit_of, credit_told}
use Rattle.input_channel.specs.Theorems.{CreditAgrees, ArrivalsAreNumbered, AnnouncedIsTold, ShutAnnouncesNothing}
use Rattle.input_channel.proofs.CountLemmas.{count-cons, count-snoc}
use Rattle.flow_defs.proofs.ParcelLemmas.{barriers_of-append}
use Rattle.flow_defs.proofs.Lists.{count-next}
use Rattle.input_channel.proofs.InboxLaws.{pushed-append}

-- ---- the numbers of barriers

numbers_of : List (ℕ × BarrierKind) → List ℕ
numbers_of barriers = map (λ barrier. barrier.0) barriers

IsNumbered : List (ℕ × BarrierKind) → Type 0
IsNumbered bs = map (λ barrier. barrier.0) bs ≡ range_with_len 1 (length bs)

length-numbers : (bs : List (ℕ × BarrierKind)) → length (map (λ (barrier : ℕ × BarrierKind). barrier.0) bs) ≡ length bs
length-numbers [] = refl
length-numbers (b ∷ bs) = ap suc (length-numbers bs)

numbered_more : (bs : List (ℕ × BarrierKind)) (k : ℕ) (kind : BarrierKind) → IsNumbered bs → k ≡ suc (length bs) → IsNumbered (bs ++ (k, kind) ∷ [])
unfolding IsNumbered
numbered_more bs k kind numbered next =
    let more = map-append (λ (b : ℕ × BarrierKind). b.0) bs ((k, kind) ∷ []) in
    more
    ∙ count-next (map (λ (b : ℕ × BarrierKind). b.0) bs) k (numbered ∙ ap (range_with_len 1) (sym (length-numbers bs))) (next ∙ ap suc (sym (length-numbers bs)))
    ∙ ap (λ ns. range_with_len 1 (length ns)) (sym more)
    ∙ ap (range_with_len 1) (length-numbers (bs ++ (k, kind) ∷ []))

numbered_same : (bs : List (ℕ × BarrierKind)) → IsNumbered bs → IsNumbered (bs ++ [])
numbered_same bs numbered = subst IsNumbered (sym (append-nil bs)) numbered

push_step : (room : ℕ) (es : List ReceiveEntry) (e : ReceiveEntry) → IsNumbered (barriers_of (pushed es)) → MayReceive room es e → IsNumbered (barriers_of (pushed es) ++ barriers_of (pushed (e ∷ [])))
push_step room es (Push (Data bytes) backlog) numbered may = numbered_same (barriers_of (pushed es)) numbered
push_step room es (Push (Barrier k kind) backlog) numbered may = numbered_more (barriers_of (pushed es)) k kind numbered may.fits
push_step room es (Push End backlog) numbered may = numbered_same (barriers_of (pushed es)) numbered
push_step room es e numbered may = numbered_same (barriers_of (pushed es)) numbered

pub arrivals_are_numbered : ArrivalsAreNumbered
unfolding IsNumbered
arrivals_are_numbered room es history =
    history_keeps (MayReceive room) (λ xs. IsNumbered (barriers_of (pushed xs))) refl
    (λ xs e numbered may. subst IsNumbered (sym (ap barriers_of (pushed-append xs (e ∷ [])) ∙ barriers_of-append (pushed xs) (pushed (e ∷ [])))) (push_step room xs e numbered may)) es history

-- ---- credit

pub numbers_from-append : (n : Numbers) (xs ys : List ReceiveEntry) → numbers_from n (xs ++ ys) ≡ numbers_from (numbers_from n xs) ys
numbers_from-append n [] ys = refl
numbers_from-append n (x ∷ xs) ys = numbers_from-append (numbers_one n x) xs ys

pub numbers-more : (es : List ReceiveEntry) (e : ReceiveEntry) → numbers (es ++ e ∷ []) ≡ numbers_one (numbers es) e
numbers-more es e = numbers_from-append at_opening es (e ∷ [])

abbrev pub Agree : Numbers → Type 0
Agree n = free n.counts + n.received ≡ n.announced + n.counts.pending

data_agrees : (c : Counts) (received announced : ℕ) → free c + received ≡ announced + c.pending → received < announced → free (with_data c) + (received + 1) ≡ announced + c.pending
data_agrees c received announced agree low =
    elim (nat_lt 0 c.floating) as (λ b. nat_lt 0 c.floating ≡ b → cond b c.exclusive (c.exclusive - 1) + (c.floating - 1) + (received + 1) ≡ announced + c.pending) [
      | true ↦ λ h. let some : 0 < c.floating = ltb-true 0 c.floating h in omega (arith, agree, low, some)
      | false ↦ λ h. let none : c.floating ≤ 0 = ltb-false 0 c.floating h in omega (arith, agree, low, none)
    ] refl

exclusive_agrees : (c : Counts) (received announced : ℕ) → free c + received ≡ announced + c.pending → free (with_exclusive c) + received ≡ announced + (with_exclusive c).pending
exclusive_agrees c received announced agree =
    elim (nat_lt c.required (free c + 1)) as (λ a. free (cond (a && nat_lt 0 c.floating) (record c { exclusive = c.exclusive + 1; floating = c.floating - 1 }) (record c { exclusive = c.exclusive + 1; pending = c.pending + 1 })) + received ≡ announced + (cond (a && nat_lt 0 c.floating) (record c { exclusive = c.exclusive + 1; floating = c.floating - 1 }) (record c { exclusive = c.exclusive + 1; pending = c.pending + 1 })).pending) [
      | true ↦ elim (nat_lt 0 c.floating) as (λ b. nat_lt 0 c.floating ≡ b → free (cond b (record c { exclusive = c.exclusive + 1; floating = c.floating - 1 }) (record c { exclusive = c.exclusive + 1; pending = c.pending + 1 })) + received ≡ announced + (cond b (record c { exclusive = c.exclusive + 1; floating = c.floating - 1 }) (record c { exclusive = c.exclusive + 1; pending = c.pending + 1 })).pending) [
        | true ↦ λ h. let some : 0 < c.floating = ltb-true 0 c.floating h in omega (arith, agree, some)
        | false ↦ λ h. omega (arith, agree)
      ] refl
      | false ↦ omega (arith, agree)
    ]

told_agrees : (c : Counts) (received announced : ℕ) → free c + received ≡ announced + c.pending → free c + received ≡ announced + told c + (c.pending - told c)
told_agrees c received announced agree =
    elim c.shut as (λ b. free c + received ≡ announced + cond b 0 c.pending + (c.pending - cond b 0 c.pending)) [ true ↦ omega (arith, agree) | false ↦ omega (arith, agree) ]

numbers_step : (room : ℕ) (es : List ReceiveEntry) (e : ReceiveEntry) → Agree (numbers es) → MayReceive room es e → Agree (numbers_one (numbers es) e)
numbers_step room es (Push (Data bytes) backlog) agree may = data_agrees (numbers es).counts (numbers es).received (numbers es).announced agree may.fits
numbers_step room es (Push (Barrier k kind) backlog) agree may = omega (arith, agree)
numbers_step room es (Push End backlog) agree may = omega (arith, agree)
numbers_step room es (Poll hold NoBuffer) agree may = agree
numbers_step room es (Poll hold Exclusive) agree may = agree
numbers_step room es (Poll hold Floating) agree may = agree
numbers_step room es (Returned true) agree may = exclusive_agrees (numbers es).counts (numbers es).received (numbers es).announced agree
numbers_step room es (Returned false) agree may = agree
numbers_step room es Added agree may = omega (arith, agree)
numbers_step room es (Backlog n) agree may = agree
numbers_step room es (Credit n) agree may = told_agrees (numbers es).counts (numbers es).received (numbers es).announced agree
numbers_step room es Shut agree may = agree
numbers_step room es Ask agree may = agree
numbers_step room es Resume agree may = agree
numbers_step room es (Save k kept) agree may = agree
numbers_step room es (Saved k) agree may = agree

pub credit_agrees : CreditAgrees
credit_agrees room es history =
    history_keeps (MayReceive room) (λ xs. Agree (numbers xs)) refl (λ xs e agree may. subst Agree (sym (numbers-more xs e)) (numbers_step room xs e agree may)) es history

-- what was told is what was announced, in a legal history
told_step : (room : ℕ) (es : List ReceiveEntry) (e : ReceiveEntry) → (numbers es).announced ≡ 2 + credit_told es → MayReceive room es e → (numbers_one (numbers es) e).announced ≡ 2 + (credit_told es + credit_of e)
told_step room es (Credit n) same may = let given : n ≡ told (numbers es).counts = may in omega (arith, same, given)
told_step room es (Push p backlog) same may = omega (arith, same)
told_step room es (Poll hold gave) same may = omega (arith, same)
told_step room es (Returned exclusive) same may = omega (arith, same)
told_step room es Added same may = omega (arith, same)
told_step room es (Backlog n) same may = omega (arith, same)
told_step room es Shut same may = omega (arith, same)
told_step room es Ask same may = omega (arith, same)
told_step room es Resume same may = omega (arith, same)
told_step room es (Save k kept) same may = omega (arith, same)
told_step room es (Saved k) same may = omega (arith, same)

credit_told-more : (es : List ReceiveEntry) (e : ReceiveEntry) → credit_told (es ++ e ∷ []) ≡ credit_told es + credit_of e
credit_told-more es e = Rattle.std.proofs.lemmas.List.Sums.sum_by-append credit_of es (e ∷ []) ∙ ap (λ n. credit_told es + n) (Rattle.std.proofs.lemmas.List.Sums.sum_by-cons credit_of e [] ∙ Rattle.std.proofs.Common.add-zero (credit_of e))

pub announced_is_told : AnnouncedIsTold
announced_is_told room es history =
    history_keeps (MayReceive room) (λ xs. (numbers xs).announced ≡ 2 + credit_told xs) refl
    (λ xs e same may. ap (λ (n : Numbers). n.announced) (numbers-more xs e) ∙ told_step room xs e same may ∙ ap (λ n. 2 + n) (sym (credit_told-more xs e))) es history

-- ---- a channel that was shut

record IsShut (n m : Numbers) : Type 0 where
  shut : m.counts.shut ≡ true
  announced : m.announced ≡ n.announced

shut_exclusive : (c : Counts) → (with_exclusive c).shut ≡ c.shut
shut_exclusive c = elim (lets_go c) as (λ b. (cond b (record c { exclusive = c.exclusive + 1; floating = c.floating - 1 }) (record c { exclusive = c.exclusive + 1; pending = c.pending + 1 })).shut ≡ c.shut) [ true ↦ refl | false ↦ refl ]

shut_one : (n : Numbers) (e : ReceiveEntry) → n.counts.shut ≡ true → IsShut n (numbers_one n e)
shut_one n (Push (Data bytes) backlog) h = record { shut = h; announced = refl }
shut_one n (Push (Barrier k kind) backlog) h = record { shut = h; announced = refl }
shut_one n (Push End backlog) h = record { shut = h; announced = refl }
shut_one n (Poll hold NoBuffer) h = record { shut = h; announced = refl }
shut_one n (Poll hold Exclusive) h = record { shut = h; announced = refl }
shut_one n (Poll hold Floating) h = record { shut = h; announced = refl }
shut_one n (Returned true) h = record { shut = shut_exclusive n.counts ∙ h; announced = refl }
shut_one n (Returned false) h = record { shut = h; announced = refl }
shut_one n Added h = record { shut = h; announced = refl }
shut_one n (Backlog k) h = record { shut = h; announced = refl }
shut_one n (Credit k) h = record { shut = h; announced = ap (λ b. n.announced + cond b 0 n.counts.pending) h ∙ Rattle.std.proofs.Common.add-zero n.announced }
shut_one n Shut h = record { shut = refl; announced = refl }
shut_one n Ask h = record { shut = h; announced = refl }
shut_one n Resume h = record { shut = h; announced = refl }
shut_one n (Save k kept) h = record { shut = h; announced = refl }
shut_one n (Saved k) h = record { shut = h; announced = refl }

shut_from : (n : Numbers) (es : List ReceiveEntry) → n.counts.shut ≡ true → (numbers_from n es).announced ≡ n.announced
shut_from n [] h = refl
shut_from n (e ∷ es) h = let one = shut_one n e h in shut_from (numbers_one n e) es one.shut ∙ one.announced

pub shut_announces_nothing : ShutAnnouncesNothing
shut_announces_nothing es more h = ap (λ (n : Numbers). n.announced) (numbers_from-append at_opening es more) ∙ shut_from (numbers es) more h

-- ---- the two exclusive buffers

-- they are free, wait with data, or were given and have not come back
abbrev pub AreTwo : List ReceiveEntry → Type 0
AreTwo es = (numbers es).counts.exclusive + exclusive_held (numbers es).counts + polled_with true es ≡ 2 + returned true es

-- what an entry does to each of the numbers
record Changes (es : List ReceiveEntry) (e : ReceiveEntry) : Type 0 where
  polled : polled_with true (es ++ e ∷ []) ≡ polled_with true es + cond (gives_kind true e) 1 0
  back : returned true (es ++ e ∷ []) ≡ returned true es + cond (returns_kind true e) 1 0
  counts : (numbers (es ++ e ∷ [])).counts ≡ (numbers_one (numbers es) e).counts

changes : (es : List ReceiveEntry) (e : ReceiveEntry) → Changes es e
changes es e = record { polled = count-snoc (gives_kind true) es e; back = count-snoc (returns_kind true) es e; counts = ap (λ (n : Numbers). n.counts) (numbers-more es e) }

two_stay : (es : List ReceiveEntry) (e : ReceiveEntry) → AreTwo es → gives_kind true e ≡ false → returns_kind true e ≡ false →
    (numbers_one (numbers es) e).counts.exclusive + exclusive_held (numbers_one (numbers es) e).counts ≡ (numbers es).counts.exclusive + exclusive_held (numbers es).counts → AreTwo (es ++ e ∷ [])
two_stay es e two given back same =
    let ch = changes es e in
    let polled = ch.polled ∙ ap (λ b. polled_with true es + cond b 1 0) given in
    let come = ch.back ∙ ap (λ b. returned true es + cond b 1 0) back in
    let now : (numbers (es ++ e ∷ [])).counts.exclusive + exclusive_held (numbers (es ++ e ∷ [])).counts ≡ (numbers_one (numbers es) e).counts.exclusive + exclusive_held (numbers_one (numbers es) e).counts =
    ap (λ (c : Counts). c.exclusive + exclusive_held c) ch.counts in
    omega (arith, two, polled, come, now, same)

data_keeps_two : (c : Counts) → 0 < free c → (with_data c).exclusive + exclusive_held (with_data c) ≡ c.exclusive + exclusive_held c
data_keeps_two c some =
    let more = count-snoc (λ x. x) c.held (eqb c.floating 0) in
    elim (nat_lt 0 c.floating) as (λ b. nat_lt 0 c.floating ≡ b → cond b c.exclusive (c.exclusive - 1) + exclusive_held (with_data c) ≡ c.exclusive + exclusive_held c) [
      | true ↦ λ h. let low : 0 < c.floating = ltb-true 0 c.floating h in
          let apart : c.floating ≡ 0 → ⊥ = λ e. omega (arith, e, low) in
          let off : cond (eqb c.floating 0) 1 0 ≡ 0 = ap (λ (b : Bool). cond {A = ℕ} b 1 0) (Rattle.std.proofs.lemmas.Bool.ne_eqb c.floating 0 apart) in omega (arith, more, off)
      | false ↦ λ h. let none : c.floating ≤ 0 = ltb-false 0 c.floating h in
          let on : cond (eqb c.floating 0) 1 0 ≡ 1 = ap (λ (b : Bool). cond {A = ℕ} b 1 0) (Rattle.std.proofs.Common.eq-eqb c.floating 0 (omega (arith, none))) in omega (arith, more, on, none, some)
    ] refl

exclusive_keeps_two : (c : Counts) → (with_exclusive c).exclusive + exclusive_held (with_exclusive c) ≡ c.exclusive + exclusive_held c + 1
exclusive_keeps_two c = elim (lets_go c) as (λ b. (cond b (record c { exclusive = c.exclusive + 1; floating = c.floating - 1 }) (record c { exclusive = c.exclusive + 1; pending = c.pending + 1 })).exclusive + exclusive_held (cond b (record c { exclusive = c.exclusive + 1; floating = c.floating - 1 }) (record c { exclusive = c.exclusive + 1; pending = c.pending + 1 })) ≡ c.exclusive + exclusive_held c + 1) [ true ↦ omega arith | false ↦ omega arith ]

-- a poll that gave an exclusive buffer took it from the first place of those that wait
gave_exclusive : (p : Option Parcel) (held : List Bool) → Exclusive ≡ gave_by p held → held ≡ true ∷ drop 1 held
gave_exclusive (Some (Data bytes)) (true ∷ held) e = refl
gave_exclusive (Some (Data bytes)) (false ∷ held) e = absurd (no e)
  where
    no : Exclusive ≡ Floating → ⊥
    no e = cc
gave_exclusive (Some (Data bytes)) [] e = absurd (no e)
  where
    no : Exclusive ≡ NoBuffer → ⊥
    no e = cc
gave_exclusive (Some (Barrier k kind)) held e = absurd (no e)
  where
    no : Exclusive ≡ NoBuffer → ⊥
    no e = cc
gave_exclusive (Some End) held e = absurd (no e)
  where
    no : Exclusive ≡ NoBuffer → ⊥
    no e = cc
gave_exclusive None held e = absurd (no e)
  where
    no : Exclusive ≡ NoBuffer → ⊥
    no e = cc

gave_floating : (p : Option Parcel) (held : List Bool) → Floating ≡ gave_by p held → held ≡ false ∷ drop 1 held
gave_floating (Some (Data bytes)) (false ∷ held) e = refl
gave_floating (Some (Data bytes)) (true ∷ held) e = absurd (no e)
  where
    no : Floating ≡ Exclusive → ⊥
    no e = cc
gave_floating (Some (Data bytes)) [] e = absurd (no e)
  where
    no : Floating ≡ NoBuffer → ⊥
    no e = cc
gave_floating (Some (Barrier k kind)) held e = absurd (no e)
  where
    no : Floating ≡ NoBuffer → ⊥
    no e = cc
gave_floating (Some End) held e = absurd (no e)
  where
    no : Floating ≡ NoBuffer → ⊥
    no e = cc
gave_floating None held e = absurd (no e)
  where
    no : Floating ≡ NoBuffer → ⊥
    no e = cc

two_step : (room : ℕ) (es : List ReceiveEntry) (e : ReceiveEntry) → Agree (numbers es) → AreTwo es → MayReceive room es e → AreTwo (es ++ e ∷ [])
two_step room es (Push (Data bytes) backlog) agree two may =
    let low = may.fits in
    two_stay es (Push (Data bytes) backlog) two refl refl (data_keeps_two (numbers es).counts (omega (arith, agree, low)))
two_step room es (Push (Barrier k kind) backlog) agree two may = two_stay es (Push (Barrier k kind) backlog) two refl refl refl
two_step room es (Push End backlog) agree two may = two_stay es (Push End backlog) two refl refl refl
two_step room es (Poll hold NoBuffer) agree two may = two_stay es (Poll hold NoBuffer) two refl refl refl
two_step room es (Poll hold Exclusive) agree two may =
    let ch = changes es (Poll hold Exclusive) in
    let c = (numbers es).counts in
    let first : c.held ≡ true ∷ drop 1 c.held = gave_exclusive (poll_gives hold (waiting (inbox es).arrivals)) c.held may in
    let less : exclusive_held c ≡ 1 + count_by (λ x. x) (drop 1 c.held) = ap (count_by (λ x. x)) first ∙ count-cons (λ x. x) true (drop 1 c.held) in
    let now : (numbers (es ++ Poll hold Exclusive ∷ [])).counts.exclusive + exclusive_held (numbers (es ++ Poll hold Exclusive ∷ [])).counts ≡ c.exclusive + count_by (λ x. x) (drop 1 c.held) =
    ap (λ (d : Counts). d.exclusive + exclusive_held d) ch.counts in
    let polled = ch.polled in
    let back = ch.back in
    omega (arith, two, polled, back, less, now)
two_step room es (Poll hold Floating) agree two may =
    let c = (numbers es).counts in
    let first : c.held ≡ false ∷ drop 1 c.held = gave_floating (poll_gives hold (waiting (inbox es).arrivals)) c.held may in
    two_stay es (Poll hold Floating) two refl refl (ap (λ n. c.exclusive + n) (sym (ap (count_by (λ x. x)) first ∙ count-cons (λ x. x) false (drop 1 c.held) ∙ Rattle.std.proofs.Common.zero-add (count_by (λ x. x) (drop 1 c.held)))))
two_step room es (Returned true) agree two may =
    let ch = changes es (Returned true) in
    let c = (numbers es).counts in
    let now : (numbers (es ++ Returned true ∷ [])).counts.exclusive + exclusive_held (numbers (es ++ Returned true ∷ [])).counts ≡ c.exclusive + exclusive_held c + 1 =
    ap (λ (d : Counts). d.exclusive + exclusive_held d) ch.counts ∙ exclusive_keeps_two c in
    let polled = ch.polled in
    let back = ch.back in
    omega (arith, two, polled, back, now)
two_step room es (Returned false) agree two may = two_stay es (Returned false) two refl refl refl
two_step room es Added agree two may = two_stay es Added two refl refl refl
two_step room es (Backlog n) agree two may = two_stay es (Backlog n) two refl refl refl
two_step room es (Credit n) agree two may = two_stay es (Credit n) two refl refl refl
two_step room es Shut agree two may = two_stay es Shut two refl refl refl
two_step room es Ask agree two may = two_stay es Ask two refl refl refl
two_step room es Resume agree two may = two_stay es Resume two refl refl refl
two_step room es (Save k kept) agree two may = two_stay es (Save k kept) two refl refl refl
two_step room es (Saved k) agree two may = two_stay es (Saved k) two refl refl refl

pub two_always : (room : ℕ) (es : List ReceiveEntry) → IsHistory (MayReceive room) es → AreTwo es
two_always room es history =
    (history_keeps (MayReceive room) (λ xs. Agree (numbers xs) × AreTwo xs) (refl, refl)
    (λ xs e both may. (subst Agree (sym (numbers-more xs e)) (numbers_step room xs e both.0 may), two_step room xs e both.0 both.1 may)) es history).1
