-- What histories keep whose entries were all allowed.
use Rattle.std.proofs.Common.{◌≡◌, ℕ, zero, suc, ◌+◌, ◌≤◌, ◌==◌, ◌||◌, arith, true, false, cond, true≢false, append_assoc, List, [], ◌∷◌, ◌++◌, length, refl, sym, ap, subst, ◌∙◌, append-nil, inl, inr}
use Rattle.std.proofs.lemmas.Bool.Decides.{eqb_tells}
use Rattle.std.proofs.lemmas.List.{map-append}
use Rattle.flow_defs.specs.declared.task.BarrierKind.{BarrierKind}
use Rattle.flow_defs.specs.declared.task.BarrierKind.TheVariants.{Inline, Front}
use Rattle.flow_defs.specs.declared.parcel.Parcel.{Parcel}
use Rattle.flow_defs.specs.declared.parcel.Parcel.TheVariants.{Data, Barrier, End}
use Rattle.flow_defs.specs.Parcels.{barriers_of, has_end}
use Rattle.std.specs.List.{list_any}
use Rattle.flow_defs.specs.Barriers.{has_barrier}
use Rattle.flow_defs.proofs.Lists.{count-next}
use Rattle.subpartition.specs.declared.entry.SendEntry.{SendEntry}
use Rattle.subpartition.specs.declared.entry.SendEntry.TheVariants.{Put, PutInline, PutFront, Finish, Take, Size}
use Rattle.turn_cell.specs.History.{IsHistory, entries_of}
use Rattle.turn_cell.proofs.Histories.{split_last, history_nil, history_more, history_keeps, entries_of-append}
use Rattle.std.specs.List.{range_with_len}
use Rattle.subpartition.specs.Sending.{sent_one, outbox, travelled, parcels_put, barriers_put, MaySend, MaySendAs, numbers_of}
use Rattle.subpartition.specs.Theorems.{BarriersAreNumbered, EndIsLast, EntriesAreHistory}
use Rattle.subpartition.proofs.Travelling.{empty_outbox, all_of, barriers_put-append, sent_from-append, end_travels, none_added, one-has_end}

abbrev IsNumbered : List (ℕ × BarrierKind) → Type 0
IsNumbered bs = numbers_of bs ≡ range_with_len 1 (length bs)

length-numbers_of : (bs : List (ℕ × BarrierKind)) → length (numbers_of bs) ≡ length bs
length-numbers_of [] = refl
length-numbers_of (b ∷ bs) = ap suc (length-numbers_of bs)

-- one more barrier with the next number
numbered_more : (bs : List (ℕ × BarrierKind)) (k : ℕ) (kind : BarrierKind) → IsNumbered bs → k ≡ suc (length bs) → IsNumbered (bs ++ (k, kind) ∷ [])
numbered_more bs k kind numbered next =
    let more = map-append (λ (b : ℕ × BarrierKind). b.0) bs ((k, kind) ∷ []) in
    more
    ∙ count-next (numbers_of bs) k (numbered ∙ ap (range_with_len 1) (sym (length-numbers_of bs))) (next ∙ ap suc (sym (length-numbers_of bs)))
    ∙ ap (λ ns. range_with_len 1 (length ns)) (sym more)
    ∙ ap (range_with_len 1) (length-numbers_of (bs ++ (k, kind) ∷ []))

none_more : (bs : List (ℕ × BarrierKind)) → IsNumbered bs → IsNumbered (bs ++ [])
none_more bs numbered = subst IsNumbered (sym (append-nil bs)) numbered

put_step : (size : ℕ) (es : List SendEntry) (e : SendEntry) → IsNumbered (barriers_put es) → MaySend size es e → IsNumbered (barriers_put es ++ barriers_put (e ∷ []))
put_step size es (Put bytes) numbered may = none_more (barriers_put es) numbered
put_step size es (PutInline k) numbered may = numbered_more (barriers_put es) k Inline numbered may.next
put_step size es (PutFront k) numbered may = numbered_more (barriers_put es) k Front numbered may.next
put_step size es Finish numbered may = none_more (barriers_put es) numbered
put_step size es Take numbered may = none_more (barriers_put es) numbered
put_step size es (Size n) numbered may = none_more (barriers_put es) numbered

pub barriers_are_numbered : BarriersAreNumbered
barriers_are_numbered size es history =
    history_keeps (MaySend size) (λ xs. IsNumbered (barriers_put xs)) refl
    (λ xs e numbered may. subst IsNumbered (sym (barriers_put-append xs (e ∷ []))) (put_step size xs e numbered may)) es history

-- nothing stands behind an end
abbrev EndsLast : List Parcel → Type 0
EndsLast ps = (front back : List Parcel) → ps ≡ front ++ End ∷ back → back ≡ []

has_end-there : (front back : List Parcel) → has_end (front ++ End ∷ back) ≡ true
has_end-there [] back = refl
has_end-there (Data bytes ∷ front) back = has_end-there front back
has_end-there (Barrier k kind ∷ front) back = has_end-there front back
has_end-there (End ∷ front) back = refl

-- one more parcel, where no end was there
ends_more : (ps : List Parcel) (p : Parcel) → has_end ps ≡ false → EndsLast (ps ++ p ∷ [])
ends_more ps p none front back e =
    elim (split_last ps p front back End e) [
      | inl l ↦ l.after_is
      | inr r ↦ absurd (true≢false (sym (ap has_end r.1 ∙ has_end-there front r.0) ∙ none))
    ]

-- where there is no end, none has anything behind it
no_end_ends : (ps : List Parcel) → has_end ps ≡ false → EndsLast ps
no_end_ends ps none front back e = absurd (true≢false (sym (ap has_end e ∙ has_end-there front back) ∙ none))

end_step : (size : ℕ) (es : List SendEntry) (e : SendEntry) → EndsLast (travelled es) → MaySend size es e → EndsLast (all_of (sent_one (outbox es) e))
end_step size es (Put bytes) ends may = no_end_ends (all_of (sent_one (outbox es) (Put bytes))) (one-has_end (outbox es) (Put bytes) ∙ ap (λ b. cond b true false) (end_travels es ∙ may))
end_step size es (PutInline k) ends may = no_end_ends (all_of (sent_one (outbox es) (PutInline k))) (one-has_end (outbox es) (PutInline k) ∙ ap (λ b. cond b true false) (end_travels es ∙ may.unfinished))
end_step size es (PutFront k) ends may = no_end_ends (all_of (sent_one (outbox es) (PutFront k))) (one-has_end (outbox es) (PutFront k) ∙ ap (λ b. cond b true false) (end_travels es ∙ may.unfinished))
end_step size es Finish ends may = subst EndsLast (append_assoc (outbox es).taken (outbox es).items (End ∷ [])) (ends_more (travelled es) End (end_travels es ∙ may))
end_step size es Take ends may = subst EndsLast (sym (none_added (outbox es) Take refl)) ends
end_step size es (Size n) ends may = ends

no_end_first : EndsLast []
no_end_first [] back e = absurd (no_cons End back e)
  where
    no_cons : (p : Parcel) (ps : List Parcel) → [] ≡ p ∷ ps → ⊥
    no_cons p ps e = cc
no_end_first (p ∷ front) back e = absurd (no_cons p (front ++ End ∷ back) e)
  where
    no_cons : (p : Parcel) (ps : List Parcel) → [] ≡ p ∷ ps → ⊥
    no_cons p ps e = cc

travelled-more : (es : List SendEntry) (e : SendEntry) → travelled (es ++ e ∷ []) ≡ all_of (sent_one (outbox es) e)
travelled-more es e = ap all_of (sent_from-append empty_outbox es (e ∷ []))

pub end_is_last : EndIsLast
end_is_last size es front back history e =
    history_keeps (MaySend size) (λ xs. EndsLast (travelled xs)) no_end_first
    (λ xs x ends may. subst EndsLast (sym (travelled-more xs x)) (end_step size xs x ends may)) es history front back e

pub entries_are_history : EntriesAreHistory
entries_are_history size history legal =
    history_keeps (MaySendAs size) (λ xs. IsHistory (MaySend size) (entries_of xs)) (history_nil (MaySend size))
    (λ xs x known may. subst (IsHistory (MaySend size)) (sym (entries_of-append xs (x ∷ []))) (history_more (MaySend size) (entries_of xs) x.1 known may.1)) history legal

-- The next barrier was not put yet.
other : (j k : ℕ) → (j ≡ k → ⊥) → (j == k) ≡ false
other j k apart = elim (eqb_tells j k) [ inl same ↦ absurd (apart same.1) | inr differs ↦ differs.0 ]

above : (n k j : ℕ) (ns : List ℕ) → ns ≡ range_with_len j n → j + n ≤ k → list_any (λ m. m == k) ns ≡ false
above zero k j ns is low = ap (list_any (λ m. m == k)) is
above (suc n) k j ns is low =
    ap (list_any (λ m. m == k)) is ∙ ap (λ b. b || list_any (λ m. m == k) (range_with_len (j + 1) n)) (other j k (λ e. omega (arith, e, low)))
    ∙ above n k (j + 1) (range_with_len (j + 1) n) refl (omega (arith, low))

has_barrier-numbers : (k : ℕ) (ps : List Parcel) → has_barrier k ps ≡ list_any (λ m. m == k) (numbers_of (barriers_of ps))
has_barrier-numbers k [] = refl
has_barrier-numbers k (Data bytes ∷ ps) = has_barrier-numbers k ps
has_barrier-numbers k (Barrier j kind ∷ ps) = ap (λ b. (j == k) || b) (has_barrier-numbers k ps)
has_barrier-numbers k (End ∷ ps) = has_barrier-numbers k ps

pub not_yet : (size : ℕ) (es : List SendEntry) (k : ℕ) → IsHistory (MaySend size) es → k ≡ suc (length (barriers_put es)) → has_barrier k (parcels_put es) ≡ false
not_yet size es k history next =
    has_barrier-numbers k (parcels_put es) ∙ above (length (barriers_put es)) k 1 (numbers_of (barriers_put es)) (barriers_are_numbered size es history) (omega (arith, next))
