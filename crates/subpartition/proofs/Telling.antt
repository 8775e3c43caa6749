-- What a pass's own entries tell of a cell.
use Rattle.std.proofs.Common.{◌≡◌, ℕ, true, false, cond, eqb, true≢false, List, [], ◌∷◌, ◌++◌, refl, sym, ap, subst, ◌∙◌}
use Rattle.std.specs.Prelude.{⊤}
use Rattle.flow_defs.specs.declared.task.BarrierKind.TheVariants.{Inline, Front}
use Rattle.flow_defs.specs.declared.parcel.Parcel.TheVariants.{Data, Barrier, End}
use Rattle.flow_defs.specs.Parcels.{data_of, barriers_of, has_end}
use Rattle.flow_defs.proofs.Lists.{cancel_nil}
use Rattle.flow_defs.proofs.NumberLemmas.{eqb_comm}
use Rattle.turn_cell.specs.History.{by}
use Rattle.subpartition.specs.declared.entry.SendEntry.{SendEntry}
use Rattle.subpartition.specs.declared.entry.SendEntry.TheVariants.{Put, PutInline, PutFront, Finish, Take, Size}
use Rattle.turn_cell.specs.History.{IsHistory, entries_of}
use Rattle.turn_cell.proofs.Histories.{history_keeps, entries_of-append}
use Rattle.turn_cell.proofs.Lists.{by-cons, by-append, first_apart}
use Rattle.subpartition.specs.Sending.{Outbox, sent_one, sent_from, outbox, taken, parcels_put, may_send, MaySendAs}
use Rattle.subpartition.specs.Theorems.{TaskTellsPuts, TakenStays}
use Rattle.subpartition.proofs.Travelling.{sent_from-append}

-- each entry is one that its pass makes
abbrev pub AreByPasses : List (ℕ × SendEntry) → Type 0
AreByPasses [] = ⊤
AreByPasses (pair ∷ pairs) = (may_send pair.0 pair.1 ≡ true) × AreByPasses pairs

by_passes-more : (pairs : List (ℕ × SendEntry)) (pair : ℕ × SendEntry) → AreByPasses pairs → may_send pair.0 pair.1 ≡ true → AreByPasses (pairs ++ pair ∷ [])
by_passes-more [] pair by h = (h, tt)
by_passes-more (p ∷ pairs) pair by h = (by.0, by_passes-more pairs pair by.1 h)

by_passes-back : (xs ys : List (ℕ × SendEntry)) → AreByPasses (xs ++ ys) → AreByPasses ys
by_passes-back [] ys h = h
by_passes-back (x ∷ xs) ys h = by_passes-back xs ys h.1

are_by_passes : (size : ℕ) (history : List (ℕ × SendEntry)) → IsHistory (MaySendAs size) history → AreByPasses history
are_by_passes size history legal = history_keeps (MaySendAs size) (λ xs. AreByPasses xs) tt (λ xs x by may. by_passes-more xs x by may.0) history legal

-- another pass's entries are none of the task's
other_sender : (n : ℕ) (e : SendEntry) → may_send n e ≡ true → eqb 0 n ≡ false → may_send 0 e ≡ false
other_sender n (Put bytes) h apart = absurd (true≢false (sym h ∙ eqb_comm n 0 ∙ apart))
other_sender n (PutInline k) h apart = absurd (true≢false (sym h ∙ eqb_comm n 0 ∙ apart))
other_sender n (PutFront k) h apart = absurd (true≢false (sym h ∙ eqb_comm n 0 ∙ apart))
other_sender n Finish h apart = absurd (true≢false (sym h ∙ eqb_comm n 0 ∙ apart))
other_sender n Take h apart = refl
other_sender n (Size size) h apart = refl

parcels-more : (e : SendEntry) (xs ys : List SendEntry) → parcels_put xs ≡ parcels_put ys → parcels_put (e ∷ xs) ≡ parcels_put (e ∷ ys)
parcels-more (Put bytes) xs ys h = ap (λ z. Data bytes ∷ z) h
parcels-more (PutInline k) xs ys h = ap (λ z. Barrier k Inline ∷ z) h
parcels-more (PutFront k) xs ys h = ap (λ z. Barrier k Front ∷ z) h
parcels-more Finish xs ys h = ap (λ z. End ∷ z) h
parcels-more Take xs ys h = h
parcels-more (Size n) xs ys h = h

parcels-skips : (e : SendEntry) (xs : List SendEntry) → may_send 0 e ≡ false → parcels_put (e ∷ xs) ≡ parcels_put xs
parcels-skips (Put bytes) xs h = absurd (true≢false h)
parcels-skips (PutInline k) xs h = absurd (true≢false h)
parcels-skips (PutFront k) xs h = absurd (true≢false h)
parcels-skips Finish xs h = absurd (true≢false h)
parcels-skips Take xs h = refl
parcels-skips (Size n) xs h = refl

-- what was put, the task's own entries tell
told : (pairs : List (ℕ × SendEntry)) → AreByPasses pairs → parcels_put (entries_of pairs) ≡ parcels_put (by 0 pairs)
told [] are = refl
told (pair ∷ pairs) are =
    let rest = told pairs are.1 in
    elim (eqb 0 pair.0) as (λ b. eqb 0 pair.0 ≡ b → parcels_put (pair.1 ∷ entries_of pairs) ≡ parcels_put (cond b (pair.1 ∷ by 0 pairs) (by 0 pairs))) [
      | true ↦ λ same. parcels-more pair.1 (entries_of pairs) (by 0 pairs) rest
      | false ↦ λ else. parcels-skips pair.1 (entries_of pairs) (other_sender pair.0 pair.1 are.0 else) ∙ rest
    ] refl
    ∙ ap parcels_put (sym (by-cons 0 pair pairs))

pub parcels_told : (size : ℕ) (history : List (ℕ × SendEntry)) → IsHistory (MaySendAs size) history → parcels_put (entries_of history) ≡ parcels_put (by 0 history)
parcels_told size history legal = told history (are_by_passes size history legal)

pub task_tells_puts : TaskTellsPuts
task_tells_puts size history legal =
    let same = parcels_told size history legal in
    record {
      bytes = ap data_of same;
      barriers = ap barriers_of same;
      finished = ap has_end same;
    }

no_take : (n : ℕ) (o : Outbox) (e : SendEntry) → may_send n e ≡ true → eqb 1 n ≡ false → (sent_one o e).taken ≡ o.taken
no_take n o (Put bytes) h apart = refl
no_take n o (PutInline k) h apart = refl
no_take n o (PutFront k) h apart = refl
no_take n o Finish h apart = refl
no_take n o Take h apart = absurd (true≢false (sym h ∙ eqb_comm n 1 ∙ apart))
no_take n o (Size size) h apart = refl

taken_from : (o : Outbox) (more : List (ℕ × SendEntry)) → AreByPasses more → by 1 more ≡ [] → (sent_from o (entries_of more)).taken ≡ o.taken
taken_from o [] are none = refl
taken_from o (pair ∷ more) are none =
    let apart = first_apart 1 pair more none in
    taken_from (sent_one o pair.1) more are.1 apart.1 ∙ no_take pair.0 o pair.1 are.0 apart.0

pub taken_stays : TakenStays
taken_stays size before now legal starts same =
    let none : by 1 starts.0 ≡ [] = cancel_nil (by 1 before) (by 1 starts.0) (sym (by-append 1 before starts.0) ∙ ap (by 1) (sym starts.1) ∙ same) in
    let are = by_passes-back before starts.0 (subst AreByPasses starts.1 (are_by_passes size now legal)) in
    ap (λ l. taken (entries_of l)) starts.1
    ∙ ap taken (entries_of-append before starts.0)
    ∙ ap (λ (o : Outbox). o.taken) (sent_from-append (record { taken = []; items = [] }) (entries_of before) (entries_of starts.0))
    ∙ taken_from (outbox (entries_of before)) starts.0 are none
