-- Wires that are given back one after another.
use Rattle.std.proofs.Common.{◌≡◌, ℕ, zero, suc, ◌+◌, Bool, inl, inr, Option, Some, None, List, [], ◌∷◌, ◌++◌, length, refl, sym, ap, subst, ◌∙◌, arith, append_assoc, append-nil, length-append}
use Rattle.std.specs.Prelude.{slice_get, IfSome}
use Rattle.std.proofs.lemmas.Bool.{cases_lt}
use Rattle.std.proofs.lemmas.Option.{same_Some}
use Rattle.flow_defs.specs.Items.{Items}
use Rattle.flow_defs.specs.declared.job.Job.{Job}
use Rattle.outside.specs.declared.wires.Wire.{Wire}
use Rattle.conn_parts.specs.declared.share.LoopEnd.{LoopEnd}
use Rattle.job_cells.specs.declared.edge.Edge.{Edge}
use Rattle.job_workers.specs.declared.connection.LoopLeft.TheVariants.{ReadControl, ReadItems}
use Rattle.job_workers.specs.declared.place.Place.TheVariants.{Ended}
use Rattle.job_ends.specs.declared.left.EdgeLeft.{EdgeLeft}
use Rattle.job_ends.specs.Ended.{LoopPlace, AreLoopsEnded}
use Rattle.job_ends.specs.Leaving.{LoopEnds, places_of}
use Rattle.job_ends.specs.Returning.{ReadSame, GaveBack, CameBack, RowCameBack, RowsCameBack}

-- ---- lists that grow

get_front : {A : Type 0} (xs ys : List A) (k : ℕ) (x : A) → slice_get xs k ≡ Some x → slice_get (xs ++ ys) k ≡ Some x
get_front [] ys k x at = absurd (cc)
get_front (z ∷ xs) ys zero x at = at
get_front (z ∷ xs) ys (suc k) x at = get_front xs ys k x at

get_last : {A : Type 0} (xs : List A) (x : A) → slice_get (xs ++ x ∷ []) (length xs) ≡ Some x
get_last [] x = refl
get_last (y ∷ xs) x = get_last xs x

read_same : {I : Type 0} (got : I → Option (List ℕ)) (ended : I → Option Bool) (a b back : I) → a ≡ b → ReadSame got ended a back → ReadSame got ended b back
read_same {I} got ended a b back same is = subst (λ (x : I). ReadSame got ended x back) same is

module _ {O I : Type 0} (got : I → Option (List ℕ)) (ended : I → Option Bool) where
  -- ---- an edge

  -- A wire was given back whose ends tell what those of this one told.
  pub gave_back : (old new : Option (List (Wire O I))) (wire back : Wire O I) → ReadSame got ended wire.data_in back.data_in → ReadSame got ended wire.control_in back.control_in →
      IfSome old (λ had. new ≡ Some (had ++ back ∷ [])) → GaveBack got ended old new wire
  gave_back None new wire back data_same control_same kept = tt
  gave_back (Some had) new wire back data_same control_same kept = (back, kept, data_same, control_same)

  module _ (ends : LoopEnds O I) (back : Wire O I) (data_same : ReadSame got ended ends.items.half back.data_in) (control_same : ReadSame got ended ends.control.half back.control_in) where
    items_came : (i : ℕ) (end : LoopEnd I) → slice_get (places_of ends) i ≡ Some (Ended (ReadItems end)) → ReadSame got ended end.half back.data_in
    items_came zero end at = let is = same_Some _ _ at in absurd (cc)
    items_came (suc zero) end at = let is = same_Some _ _ at in absurd (cc)
    items_came (suc (suc zero)) end at = let is = same_Some _ _ at in read_same got ended ends.items.half end.half back.data_in (cc) data_same
    items_came (suc (suc (suc zero))) end at = let is = same_Some _ _ at in absurd (cc)
    items_came (suc (suc (suc (suc i)))) end at = absurd (cc)

    control_came : (i : ℕ) (end : LoopEnd I) → slice_get (places_of ends) i ≡ Some (Ended (ReadControl end)) → ReadSame got ended end.half back.control_in
    control_came zero end at = let is = same_Some _ _ at in absurd (cc)
    control_came (suc zero) end at = let is = same_Some _ _ at in read_same got ended ends.control.half end.half back.control_in (cc) control_same
    control_came (suc (suc zero)) end at = let is = same_Some _ _ at in absurd (cc)
    control_came (suc (suc (suc zero))) end at = let is = same_Some _ _ at in absurd (cc)
    control_came (suc (suc (suc (suc i)))) end at = absurd (cc)

  pub row_came_back : {belong : O → I → Type 0} {sent : O → Option (List ℕ)} {job : Job} {e : ℕ} {edge : Edge} {row : List (LoopPlace O I)}
      (over : AreLoopsEnded belong sent got job e edge row) (left : EdgeLeft O I) → left ≡ record {
        wire = record { data_out = over.send.half; data_in = over.items.half; control_out = over.announce.half; control_in = over.control.half };
        takers = over.send.passes.subpartitions;
        pushers = over.items.passes.inputs;
      } →
      (old new : Option (List (Wire O I))) → GaveBack got ended old new left.wire → RowCameBack got ended old new row
  row_came_back over left is None new gave = tt
  row_came_back {row = row} over left is (Some had) new gave =
      let ends : LoopEnds O I = record { send = over.send; control = over.control; items = over.items; announce = over.announce } in
      let back = gave.0 in
      let data_same = read_same got ended left.wire.data_in over.items.half back.data_in (ap (λ (l : EdgeLeft O I). l.wire.data_in) is) gave.2 in
      let control_same = read_same got ended left.wire.control_in over.control.half back.control_in (ap (λ (l : EdgeLeft O I). l.wire.control_in) is) gave.3 in (
        back,
        gave.1,
        record {
          items = λ i end at. items_came ends back data_same control_same i end (ap (λ (r : List (LoopPlace O I)). slice_get r i) (sym over.row_is) ∙ at);
          control = λ i end at. control_came ends back data_same control_same i end (ap (λ (r : List (LoopPlace O I)). slice_get r i) (sym over.row_is) ∙ at);
        },
      )

  -- ---- all of them

  pub none_came_back : (old : Option (List (Wire O I))) (loops : List (Items (LoopPlace O I))) → RowsCameBack got ended old old loops 0
  none_came_back None loops = tt
  none_came_back (Some had) loops = ([], ap (λ (l : List (Wire O I)). Some l) (sym (append-nil had)), refl, λ e row low at. absurd (omega (arith, low)))

  if_some : (o : Option (List (Wire O I))) (all : List (Wire O I)) (P : List (Wire O I) → Type 0) → o ≡ Some all → IfSome o P → P all
  if_some o all P is holds = subst (λ (q : Option (List (Wire O I))). IfSome q P) is holds

  pub one_more_came_back : (old mid new : Option (List (Wire O I))) (loops : List (Items (LoopPlace O I))) (many : ℕ) (row : Items (LoopPlace O I)) →
      slice_get loops many ≡ Some row → RowsCameBack got ended old mid loops many → RowCameBack got ended mid new row.items → RowsCameBack got ended old new loops (many + 1)
  one_more_came_back None mid new loops many row at before next = tt
  one_more_came_back (Some had) mid new loops many row at before next =
      let gave = before.0 in
      let one = if_some mid (had ++ gave) (λ all. (back : Wire O I) × (new ≡ Some (all ++ back ∷ [])) × CameBack got ended row.items back) before.1 next in
      let back = one.0 in
      let count = before.2 in
      let longer = length-append gave (back ∷ []) in (
        gave ++ back ∷ [],
        one.1 ∙ ap (λ (l : List (Wire O I)). Some l) (append_assoc had gave (back ∷ [])),
        omega (arith, count, longer),
        λ e other low there. elim (cases_lt e many) [
          | inl below ↦ let it = before.3 e other below there in (it.0, get_front gave (back ∷ []) e it.0 it.1, it.2)
          | inr above ↦
              let e_is : many ≡ e = omega (arith, low, above) in
              let same : row ≡ other = same_Some row other (sym at ∙ ap (λ (k : ℕ). slice_get loops k) e_is ∙ there) in (
                back,
                subst (λ (k : ℕ). slice_get (gave ++ back ∷ []) k ≡ Some back) (count ∙ e_is) (get_last gave back),
                subst (λ (r : Items (LoopPlace O I)). CameBack got ended r.items back) same one.2,
              )
        ],
      )
