-- How the account of a task grows.
use Rattle.std.proofs.Common.{◌≡◌, ℕ, true, false, cond, eqb, List, [], ◌∷◌, ◌++◌, refl, sym, ap, subst, ◌∙◌, append_assoc}
use Rattle.std.specs.Prelude.{map}
use Rattle.std.specs.List.{AllByRecursion}
use Rattle.std.proofs.lemmas.List.{map-append}
use Rattle.std.proofs.lemmas.List.Concat.{flat_map-append}
use Rattle.std.proofs.lemmas.Bool.{eqb-true}
use Rattle.flow_defs.specs.declared.parcel.Parcel.{Parcel}
use Rattle.flow_defs.specs.declared.parcel.Parcel.TheVariants.{Data, Barrier, End}
use Rattle.flow_defs.specs.Records.{IsShort, encoded, all_encoded}
use Rattle.plain_machine.specs.Emitting.{receiver_on, emit, count_after}
use Rattle.plain_machine.specs.Histories.{records}
use Rattle.plain_machine.specs.Theorems.{EmittedInParts, CountedInParts, EmittedAreShort}
use Rattle.checkpoint_laws.specs.Puts.{stretches}
use Rattle.checkpoint_laws.specs.Chapters.{Linked, Chapter, opening, Step}
use Rattle.checkpoint_laws.specs.Growing.{last_chapter, with_at, AccountBegins, BufferIsPut, BarrierIsPut, EndIsPut, SnapshotIsSent, MoreIsEmitted, OneIsTaken}
use Rattle.checkpoint_laws.proofs.Lists.{short_both}
use Rattle.checkpoint_laws.proofs.Stretches.{data_grow, barrier_begins, end_adds_nothing}

linked_more : (R : Chapter → Chapter → Type 0) (x : Chapter) (xs : List Chapter) (y : Chapter) → Linked R x xs → R (last_chapter x xs) y → Linked R x (xs ++ y ∷ [])
linked_more R x [] y linked step = (step, tt)
linked_more R x (z ∷ xs) y linked step = (linked.0, linked_more R z xs y linked.1 step)

-- Stretches that are these in the place of c, and elsewhere as before.
at_one : (parcels : ℕ → List Parcel) (now : List Parcel) (first : ℕ → List (List ℕ)) (more : ℕ → List (List ℕ)) (later : List (List ℕ)) (c b : ℕ) →
    stretches (parcels b) ≡ first b ++ more b → (c ≡ b → stretches now ≡ first b ++ later) → stretches (with_at c now parcels b) ≡ first b ++ with_at c later more b
at_one parcels now first more later c b before here =
    elim (eqb c b) as (λ t. eqb c b ≡ t → stretches (cond t now (parcels b)) ≡ first b ++ cond t later (more b)) [
      | true ↦ λ is. here (eqb-true c b is)
      | false ↦ λ isnt. before
    ] refl

pub account_begins : AccountBegins
account_begins job lines every base i a = record { steps = tt; snapshots = refl; puts = λ b on. refl }

pub buffer_is_put : BufferIsPut
buffer_is_put job lines every base i a chapters sent parcels more c first last bytes known open_one = record {
  steps = known.steps;
  snapshots = known.snapshots;
  puts = λ b on.
      let put = map (λ (c : Chapter). c.put b) chapters in
      at_one parcels (parcels c ++ Data bytes ∷ []) (λ b. map (λ (c : Chapter). c.put b) chapters) more (first ++ (last ++ bytes) ∷ []) c b (known.puts b on) (λ same.
      data_grow (parcels c) (put ++ first) last bytes (
      ap (λ x. stretches (parcels x)) same ∙ known.puts b on ∙ ap (λ xs. put ++ xs) (ap more (sym same) ∙ open_one) ∙ sym (append_assoc put first (last ∷ [])))
      ∙ append_assoc put first ((last ++ bytes) ∷ []));
}

pub barrier_is_put : BarrierIsPut
barrier_is_put job lines every base i a chapters sent parcels more c k kind known = record {
  steps = known.steps;
  snapshots = known.snapshots;
  puts = λ b on.
      let put = map (λ (c : Chapter). c.put b) chapters in
      at_one parcels (parcels c ++ Barrier k kind ∷ []) (λ b. map (λ (c : Chapter). c.put b) chapters) more (more c ++ [] ∷ []) c b (known.puts b on) (λ same.
      barrier_begins (parcels c) k kind ∙ ap (λ xs. xs ++ [] ∷ []) (ap (λ x. stretches (parcels x)) same ∙ known.puts b on ∙ ap (λ x. put ++ more x) (sym same))
      ∙ append_assoc put (more c) ([] ∷ []));
}

pub end_is_put : EndIsPut
end_is_put job lines every base i a chapters sent parcels more c known = record {
  steps = known.steps;
  snapshots = known.snapshots;
  puts = λ b on. elim (eqb c b) as (λ t. eqb c b ≡ t → stretches (cond t (parcels c ++ End ∷ []) (parcels b)) ≡ map (λ (c : Chapter). c.put b) chapters ++ more b) [
    | true ↦ λ is. end_adds_nothing (parcels c) ∙ ap (λ x. stretches (parcels x)) (eqb-true c b is) ∙ known.puts b on
    | false ↦ λ isnt. known.puts b on
  ] refl;
}

pub snapshot_is_sent : SnapshotIsSent
snapshot_is_sent job lines every base i a chapters sent parcels before next more known stand step = record {
  steps = linked_more (Step job lines every i a) (opening job base i a) chapters next known.steps step;
  snapshots = map-append (λ (c : Chapter). c.snapshot) chapters (next ∷ []) ∙ ap (λ xs. xs ++ next.snapshot ∷ []) known.snapshots;
  puts = λ b on.
      let put = map (λ (c : Chapter). c.put b) chapters in
      known.puts b on ∙ ap (λ xs. put ++ xs) (stand b on) ∙ sym (append_assoc put (next.put b ∷ []) (more b))
      ∙ ap (λ xs. xs ++ more b) (sym (map-append (λ (c : Chapter). c.put b) chapters (next ∷ [])));
}

pub more_is_emitted : EmittedInParts → CountedInParts → EmittedAreShort → MoreIsEmitted
more_is_emitted in_parts counted shorts job e a old new emitted more put now is short behind = record {
  count = ap (λ n. count_after n more) is.count ∙ sym (counted old emitted more);
  puts = λ b on.
      let to = receiver_on job e a in
      let so_far = is.puts b on in
      let parts = in_parts to old emitted more b in
      record {
        whole = ap all_encoded parts ∙ flat_map-append encoded (emit to old emitted b) (emit to (count_after old emitted) more b)
            ∙ ap (λ bytes. bytes ++ all_encoded (emit to (count_after old emitted) more b)) so_far.whole
            ∙ ap (λ n. put b ++ all_encoded (emit to n more b)) (sym is.count) ∙ sym (behind b on);
        short = subst (AllByRecursion IsShort) (sym parts) (short_both (emit to old emitted b) (emit to (count_after old emitted) more b) so_far.short (shorts to (count_after old emitted) more b short));
      };
}

pub one_is_taken : OneIsTaken
one_is_taken job e b a r runs now took known short senders are = record {
  senders_are = senders ∙ ap (λ xs. xs ++ a ∷ []) known.senders_are ∙ sym (map-append (λ t. t.0) took ((a, r) ∷ []));
  are_runs = are;
  short = subst (AllByRecursion IsShort) (sym (map-append (λ t. t.1) took ((a, r) ∷ []))) (short_both (records took) (r ∷ []) known.short (short, tt));
}
