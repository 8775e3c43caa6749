-- What entries put, and how it grows.
use Rattle.std.proofs.Common.{◌≡◌, ℕ, true, false, cond, List, [], ◌∷◌, ◌++◌, refl, sym, ap, ◌∙◌, append_assoc, append-nil}
use Rattle.std.specs.Prelude.{map, flat_map}
use Rattle.flow_defs.specs.declared.parcel.Parcel.{Parcel}
use Rattle.flow_defs.specs.declared.parcel.Parcel.TheVariants.{Data}
use Rattle.flow_defs.specs.declared.task.BarrierKind.{BarrierKind}
use Rattle.flow_defs.specs.declared.task.BarrierKind.TheVariants.{Inline}
use Rattle.checkpoint_laws.specs.Puts.{onto_first, stretches}
use Rattle.checkpoint_laws.specs.Growing.{DataGrowStretch}
use Rattle.subpartition.specs.declared.entry.SendEntry.{SendEntry}
use Rattle.subpartition.specs.declared.entry.SendEntry.TheVariants.{Put, PutInline, PutFront, Finish, Take, Size}
use Rattle.subpartition.specs.Sending.{parcels_put, put, barriers_put, is_finished}
use Rattle.subpartition.proofs.Travelling.{parcels_put-append, put-append, barriers_put-append, is_finished-append}

-- all bytes of some buffers
abbrev pub joined : List (List ℕ) → List ℕ
joined buffers = flat_map (λ (bytes : List ℕ). bytes) buffers

-- ---- buffers

put_data : (buffers : List (List ℕ)) → parcels_put (map Put buffers) ≡ map Data buffers
put_data [] = refl
put_data (b ∷ buffers) = ap (λ ps. Data b ∷ ps) (put_data buffers)

put_bytes : (buffers : List (List ℕ)) → put (map Put buffers) ≡ joined buffers
put_bytes [] = refl
put_bytes (b ∷ buffers) = ap (λ l. b ++ l) (put_bytes buffers)

no_barriers : (buffers : List (List ℕ)) → barriers_put (map Put buffers) ≡ []
no_barriers [] = refl
no_barriers (b ∷ buffers) = no_barriers buffers

no_end : (buffers : List (List ℕ)) → is_finished (map Put buffers) ≡ false
no_end [] = refl
no_end (b ∷ buffers) = no_end buffers

-- Behind these entries come these buffers, and then an entry that puts no data.
module _ (own : List SendEntry) (buffers : List (List ℕ)) where
  pub bytes_more : put (own ++ map Put buffers) ≡ put own ++ joined buffers
  bytes_more = put-append own (map Put buffers) ∙ ap (λ l. put own ++ l) (put_bytes buffers)

  pub barriers_same : barriers_put (own ++ map Put buffers) ≡ barriers_put own
  barriers_same = barriers_put-append own (map Put buffers) ∙ ap (λ l. barriers_put own ++ l) (no_barriers buffers) ∙ append-nil (barriers_put own)

  pub bytes_up_to : (last : SendEntry) → put (last ∷ []) ≡ [] → put (own ++ map Put buffers ++ last ∷ []) ≡ put own ++ joined buffers
  bytes_up_to last none =
      put-append (own ++ map Put buffers) (last ∷ []) ∙ ap (λ l. put (own ++ map Put buffers) ++ l) none
      ∙ append-nil (put (own ++ map Put buffers)) ∙ bytes_more

  pub barriers_one : (k : ℕ) → barriers_put (own ++ map Put buffers ++ PutInline k ∷ []) ≡ barriers_put own ++ (k, Inline) ∷ []
  barriers_one k =
      barriers_put-append (own ++ map Put buffers) (PutInline k ∷ [])
      ∙ ap (λ (l : List (ℕ × BarrierKind)). l ++ (k, Inline) ∷ []) barriers_same

  pub still_open : is_finished own ≡ false → is_finished (own ++ map Put buffers) ≡ false
  still_open is_open = is_finished-append own (map Put buffers) ∙ ap (λ b. cond b true (is_finished (map Put buffers))) is_open ∙ no_end buffers

  pub open_at_barrier : (k : ℕ) → is_finished own ≡ false → is_finished (own ++ map Put buffers ++ PutInline k ∷ []) ≡ false
  open_at_barrier k is_open = is_finished-append (own ++ map Put buffers) (PutInline k ∷ []) ∙ ap (λ b. cond b true false) (still_open is_open)

  parcels_more : parcels_put (own ++ map Put buffers) ≡ parcels_put own ++ map Data buffers
  parcels_more = parcels_put-append own (map Put buffers) ∙ ap (λ ps. parcels_put own ++ ps) (put_data buffers)

  pub parcels_up_to : (last : SendEntry) → parcels_put (own ++ map Put buffers ++ last ∷ []) ≡ parcels_put (own ++ map Put buffers) ++ parcels_put (last ∷ [])
  parcels_up_to last = parcels_put-append (own ++ map Put buffers) (last ∷ [])

-- ---- stretches

module _ (grow : DataGrowStretch) where
  stretch_more : (ps : List Parcel) (buffers : List (List ℕ)) (first : List (List ℕ)) (last : List ℕ) → stretches ps ≡ first ++ last ∷ [] →
      stretches (ps ++ map Data buffers) ≡ first ++ (last ++ joined buffers) ∷ []
  stretch_more ps [] first last are = ap stretches (append-nil ps) ∙ are ∙ ap (λ l. first ++ l ∷ []) (sym (append-nil last))
  stretch_more ps (b ∷ buffers) first last are =
      ap stretches (sym (append_assoc ps (Data b ∷ []) (map Data buffers))) ∙ stretch_more (ps ++ Data b ∷ []) buffers first (last ++ b) (grow ps first last b are)
      ∙ ap (λ l. first ++ l ∷ []) (append_assoc last b (joined buffers))

  pub cut_more : (own : List SendEntry) (buffers : List (List ℕ)) (first : List (List ℕ)) (last : List ℕ) → stretches (parcels_put own) ≡ first ++ last ∷ [] →
      stretches (parcels_put (own ++ map Put buffers)) ≡ first ++ (last ++ joined buffers) ∷ []
  cut_more own buffers first last are = ap stretches (parcels_more own buffers) ∙ stretch_more (parcels_put own) buffers first last are

-- all bytes are those of the stretches
joined_onto : (bytes : List ℕ) (xs : List (List ℕ)) → joined (onto_first bytes xs) ≡ bytes ++ joined xs
joined_onto bytes [] = refl
joined_onto bytes (x ∷ xs) = append_assoc bytes x (joined xs)

pub put_joined : (own : List SendEntry) → put own ≡ joined (stretches (parcels_put own))
put_joined [] = refl
put_joined (Put bytes ∷ es) = ap (λ l. bytes ++ l) (put_joined es) ∙ sym (joined_onto bytes (stretches (parcels_put es)))
put_joined (PutInline k ∷ es) = put_joined es
put_joined (PutFront k ∷ es) = put_joined es
put_joined (Finish ∷ es) = put_joined es
put_joined (Take ∷ es) = put_joined es
put_joined (Size n ∷ es) = put_joined es
