-- Parcels behind others.
use Rattle.std.proofs.Common.{◌≡◌, true, false, cond, List, [], ◌∷◌, ◌++◌, refl, sym, ap, ◌∙◌, append_assoc}
use Rattle.flow_defs.specs.declared.parcel.Parcel.{Parcel}
use Rattle.flow_defs.specs.declared.parcel.Parcel.TheVariants.{Data, Barrier, End}
use Rattle.flow_defs.specs.Parcels.{data_of, barriers_of, has_end}

pub data_of-append : (ps qs : List Parcel) → data_of (ps ++ qs) ≡ data_of ps ++ data_of qs
data_of-append [] qs = refl
data_of-append (Data bytes ∷ ps) qs = ap (λ z. bytes ++ z) (data_of-append ps qs) ∙ sym (append_assoc bytes (data_of ps) (data_of qs))
data_of-append (Barrier k kind ∷ ps) qs = data_of-append ps qs
data_of-append (End ∷ ps) qs = data_of-append ps qs

pub barriers_of-append : (ps qs : List Parcel) → barriers_of (ps ++ qs) ≡ barriers_of ps ++ barriers_of qs
barriers_of-append [] qs = refl
barriers_of-append (Data bytes ∷ ps) qs = barriers_of-append ps qs
barriers_of-append (Barrier k kind ∷ ps) qs = ap (λ bs. (k, kind) ∷ bs) (barriers_of-append ps qs)
barriers_of-append (End ∷ ps) qs = barriers_of-append ps qs

pub has_end-append : (ps qs : List Parcel) → has_end (ps ++ qs) ≡ cond (has_end ps) true (has_end qs)
has_end-append [] qs = refl
has_end-append (Data bytes ∷ ps) qs = has_end-append ps qs
has_end-append (Barrier k kind ∷ ps) qs = has_end-append ps qs
has_end-append (End ∷ ps) qs = refl

-- An end that is there stays; where there is none, what comes behind decides.
pub end_stays : (ps qs : List Parcel) → has_end ps ≡ true → has_end (ps ++ qs) ≡ true
end_stays ps qs ended = has_end-append ps qs ∙ ap (λ b. cond b true (has_end qs)) ended

pub end_behind : (ps qs : List Parcel) → has_end ps ≡ false → has_end (ps ++ qs) ≡ has_end qs
end_behind ps qs none = has_end-append ps qs ∙ ap (λ b. cond b true (has_end qs)) none
