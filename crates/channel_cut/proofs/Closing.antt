-- The two ends of a channel whose cells were closed.
use Rattle.std.proofs.Common.{◌≡◌, ◌+◌, ℕ, zero, suc, cond, List, [], ◌∷◌, ◌++◌, map, length, refl, sym, ap, subst, ◌∙◌, append_assoc, eq-eqb, arith}
use Rattle.std.specs.Prelude.{flat_map, take}
use Rattle.std.specs.List.{range_with_len}
use Rattle.std.proofs.lemmas.Bool.{ne_eqb}
use Rattle.turn_cell.specs.History.{by, entries_of, StartsWith}
use Rattle.turn_cell.proofs.Lists.{starts_on}
use Rattle.turn_cell.proofs.Histories.{entries_of-append}
use Rattle.flow_defs.specs.declared.task.BarrierKind.{BarrierKind}
use Rattle.flow_defs.specs.declared.parcel.Parcel.{Parcel}
use Rattle.flow_defs.specs.declared.parcel.Parcel.TheVariants.{Data, Barrier, End}
use Rattle.flow_defs.specs.Parcels.{barriers_of}
use Rattle.flow_defs.proofs.Lists.{head_same, tail_same}
use Rattle.plain_machine.specs.Images.{AreSpans}
use Rattle.checkpoint_laws.specs.Puts as puts
use Rattle.checkpoint_laws.specs.Puts.{stretches, onto_first}
use Rattle.subpartition.specs.Sending.{parcels_put, taken, put_before}
use Rattle.subpartition.specs.Theorems as sending
use Rattle.subpartition.proofs.Telling.{parcels_told}
use Rattle.input_channel.specs.Inboxes.{pushed}
use Rattle.input_channel.specs.Theorems as receiving
use Rattle.flow_defs.specs.Barriers.{data_before}
use Rattle.channel_cut.specs.Cuts.{InLine}
use Rattle.channel_cut.specs.Ends.{SettledAreEnds, EndsAreCut}
use Rattle.channel_cut.proofs.Cutting.{cuts_stay, cut_of_channel}

-- ---- a barrier by its number, and by its place

take-nil : (j : ℕ) → ◌≡◌ {A = List (List ℕ)} (take j []) []
take-nil zero = refl
take-nil (suc j) = refl

abbrev joined : List (List ℕ) → List ℕ
joined xs = flat_map (λ (x : List ℕ). x) xs

onto-joined : (bytes : List ℕ) (j : ℕ) (xs : List (List ℕ)) → joined (take (suc j) (onto_first bytes xs)) ≡ bytes ++ joined (take (suc j) xs)
onto-joined bytes j [] = ap (λ z. bytes ++ joined z) (take-nil j)
onto-joined bytes j (x ∷ xs) = append_assoc bytes x (joined (take j xs))

by_place : (s j : ℕ) (ps : List Parcel) → map (λ (b : ℕ × BarrierKind). b.0) (barriers_of ps) ≡ range_with_len (suc s) (length (barriers_of ps)) →
    data_before (suc (s + j)) ps ≡ joined (take (suc j) (stretches ps))
by_place s j [] numbered = ap joined (sym (take-nil j))
by_place s j (Data bytes ∷ ps) numbered = ap (λ z. bytes ++ z) (by_place s j ps numbered) ∙ sym (onto-joined bytes j (stretches ps))
by_place s zero (Barrier i kind ∷ ps) numbered =
    let here : i ≡ suc s = head_same i (suc s) (map (λ (b : ℕ × BarrierKind). b.0) (barriers_of ps)) (range_with_len (suc s + 1) (length (barriers_of ps))) numbered in
    ap (λ b. cond b [] (data_before (suc (s + 0)) ps)) (eq-eqb i (suc (s + 0)) (omega (arith, here)))
by_place s (suc j) (Barrier i kind ∷ ps) numbered =
    let here : i ≡ suc s = head_same i (suc s) (map (λ (b : ℕ × BarrierKind). b.0) (barriers_of ps)) (range_with_len (suc s + 1) (length (barriers_of ps))) numbered in
    let later = tail_same i (suc s) (map (λ (b : ℕ × BarrierKind). b.0) (barriers_of ps)) (range_with_len (suc s + 1) (length (barriers_of ps))) numbered in
    let next : suc s + 1 ≡ suc (suc s) = omega arith in
    let number : suc (s + suc j) ≡ suc (suc s + j) = omega arith in
    ap (λ b. cond b [] (data_before (suc (s + suc j)) ps)) (ne_eqb i (suc (s + suc j)) (λ same. omega (arith, same, here)))
    ∙ ap (λ k. data_before k ps) number
    ∙ by_place (suc s) j ps (later ∙ ap (λ a. range_with_len a (length (barriers_of ps))) next)
by_place s j (End ∷ ps) numbered = by_place s j ps numbered

number_is_place : (ps : List Parcel) (k : ℕ) → map (λ (b : ℕ × BarrierKind). b.0) (barriers_of ps) ≡ range_with_len 1 (length (barriers_of ps)) → data_before (suc k) ps ≡ puts.put_before (suc k) ps
number_is_place ps k numbered = ap (λ n. data_before (suc n) ps) (let e : k ≡ 0 + k = omega arith in e) ∙ by_place 0 k ps numbered

-- ---- two cells that have settled

-- The laws of the two ends that are used.
pub record Laws : Type 0 where
  pub numbers : sending.BarriersAreNumbered
  pub grows : sending.TakenGrows
  pub entries : sending.EntriesAreHistory
  pub reader : receiving.ReaderTellsPushed

pub settled_are_ends : Laws → SettledAreEnds
settled_are_ends laws size sends takers takes pushers sender receiver carried =
    let sent = sender.history in
    let received = receiver.history in
    let grows : StartsWith (taken (entries_of sent)) (taken (entries_of takers)) =
    subst (λ es. StartsWith (taken es) (taken (entries_of takers))) (sym (ap entries_of sender.later_loop.1 ∙ entries_of-append takers sender.later_loop.0)) (laws.grows (entries_of takers) (entries_of sender.later_loop.0)) in (
      sent,
      received,
      record {
        size = size;
        legal = sender.is_legal;
        sender = sender.later_task;
        all_put = sender.of_task;
        receiver = receiver.later_task;
        begins =
            subst (λ ps. StartsWith (taken (entries_of sent)) ps) (sym (laws.reader received receiver.is_legal ∙ ap pushed receiver.of_loop))
            (starts_on (taken (entries_of sent)) (taken (entries_of takers)) (pushed (by 1 pushers)) grows carried);
      },
    )

-- ---- the cut

pub ends_are_cut : Laws → EndsAreCut
ends_are_cut laws sends takes sent received flight k lines ends held records shown =
    let own = parcels_put (by 0 sends) in
    let numbered = laws.numbers ends.size (entries_of sent) (laws.entries ends.size sent ends.legal) in
    let put : put_before (suc k) (entries_of sent) ≡ puts.put_before (suc k) own =
    number_is_place (parcels_put (entries_of sent)) k numbered ∙ ap (puts.put_before (suc k)) (parcels_told ends.size sent ends.legal ∙ ap parcels_put ends.all_put) in
    let seen : entries_of received ≡ entries_of takes ++ entries_of ends.receiver.0 = ap entries_of ends.receiver.1 ∙ entries_of-append takes ends.receiver.0 in
    ap (λ z. flight ++ z) (sym put)
    ∙ cut_of_channel (entries_of sent) (entries_of received) flight (suc k) lines ends.begins held (subst AreSpans (sym put) records)
    (subst (λ es. Rattle.channel_cut.specs.Cuts.Shows flight es (InLine (suc k) lines)) (sym seen) (cuts_stay flight (entries_of takes) (entries_of ends.receiver.0) (InLine (suc k) lines) shown))
