-- How the stretches of a channel grow.
use Rattle.std.proofs.Common.{◌≡◌, ℕ, List, [], ◌∷◌, ◌++◌, refl, sym, ap, ◌∙◌, append_assoc, append-nil}
use Rattle.flow_defs.specs.declared.parcel.Parcel.{Parcel}
use Rattle.flow_defs.specs.declared.parcel.Parcel.TheVariants.{Data, Barrier, End}
use Rattle.checkpoint_laws.specs.Puts.{onto_first, stretches}
use Rattle.checkpoint_laws.specs.Growing.{DataGrowStretch, BarrierBeginsStretch, EndAddsNothing}

onto_first-append : (bytes : List ℕ) (xs : List (List ℕ)) (x : List ℕ) (more : List (List ℕ)) → onto_first bytes ((xs ++ x ∷ []) ++ more) ≡ onto_first bytes (xs ++ x ∷ []) ++ more
onto_first-append bytes [] x more = refl
onto_first-append bytes (y ∷ xs) x more = refl

-- There is a last stretch.
record Last (ps : List Parcel) : Type 0 where
  first : List (List ℕ)
  last : List ℕ
  are : stretches ps ≡ first ++ last ∷ []

last_of : (ps : List Parcel) → Last ps
last_of [] = record { first = []; last = []; are = refl }
last_of (Data bytes ∷ ps) = let l = last_of ps in onto l.first l.last l.are
  where
    onto : (first : List (List ℕ)) (last : List ℕ) → stretches ps ≡ first ++ last ∷ [] → Last (Data bytes ∷ ps)
    onto [] last e = record { first = []; last = bytes ++ last; are = ap (onto_first bytes) e }
    onto (x ∷ first) last e = record { first = (bytes ++ x) ∷ first; last = last; are = ap (onto_first bytes) e }
last_of (Barrier k kind ∷ ps) = let l = last_of ps in record { first = [] ∷ l.first; last = l.last; are = ap (λ xs. [] ∷ xs) l.are }
last_of (End ∷ ps) = let l = last_of ps in record { first = l.first; last = l.last; are = l.are }

pub barrier_begins : BarrierBeginsStretch
barrier_begins [] k kind = refl
barrier_begins (Data bytes ∷ ps) k kind =
    let l = last_of ps in
    ap (onto_first bytes) (barrier_begins ps k kind ∙ ap (λ xs. xs ++ [] ∷ []) l.are) ∙ onto_first-append bytes l.first l.last ([] ∷ [])
    ∙ ap (λ xs. onto_first bytes xs ++ [] ∷ []) (sym l.are)
barrier_begins (Barrier j other ∷ ps) k kind = ap (λ xs. [] ∷ xs) (barrier_begins ps k kind)
barrier_begins (End ∷ ps) k kind = barrier_begins ps k kind

pub end_adds_nothing : EndAddsNothing
end_adds_nothing [] = refl
end_adds_nothing (Data bytes ∷ ps) = ap (onto_first bytes) (end_adds_nothing ps)
end_adds_nothing (Barrier j other ∷ ps) = ap (λ xs. [] ∷ xs) (end_adds_nothing ps)
end_adds_nothing (End ∷ ps) = end_adds_nothing ps

-- The stretches with these bytes behind the last one.
onto_last : List (List ℕ) → List ℕ → List (List ℕ)
onto_last [] bytes = []
onto_last (x ∷ []) bytes = (x ++ bytes) ∷ []
onto_last (x ∷ y ∷ xs) bytes = x ∷ onto_last (y ∷ xs) bytes

onto_last-end : (first : List (List ℕ)) (last bytes : List ℕ) → onto_last (first ++ last ∷ []) bytes ≡ first ++ (last ++ bytes) ∷ []
unfolding onto_last
onto_last-end [] last bytes = refl
onto_last-end (x ∷ []) last bytes = refl
onto_last-end (x ∷ y ∷ first) last bytes = ap (λ xs. x ∷ xs) (onto_last-end (y ∷ first) last bytes)

onto_both : (more : List ℕ) (xs : List (List ℕ)) (x bytes : List ℕ) → onto_first more (onto_last (xs ++ x ∷ []) bytes) ≡ onto_last (onto_first more (xs ++ x ∷ [])) bytes
unfolding onto_last
onto_both more [] x bytes = ap (λ z. z ∷ []) (sym (append_assoc more x bytes))
onto_both more (y ∷ []) x bytes = refl
onto_both more (y ∷ z ∷ xs) x bytes = refl

stretches-data : (ps : List Parcel) (bytes : List ℕ) → stretches (ps ++ Data bytes ∷ []) ≡ onto_last (stretches ps) bytes
unfolding onto_last
stretches-data [] bytes = ap (λ z. z ∷ []) (append-nil bytes)
stretches-data (Data more ∷ ps) bytes =
    let l = last_of ps in
    ap (onto_first more) (stretches-data ps bytes ∙ ap (λ xs. onto_last xs bytes) l.are) ∙ onto_both more l.first l.last bytes
    ∙ ap (λ xs. onto_last (onto_first more xs) bytes) (sym l.are)
stretches-data (Barrier k kind ∷ ps) bytes =
    let l = last_of ps in
    ap (λ xs. [] ∷ xs) (stretches-data ps bytes ∙ ap (λ xs. onto_last xs bytes) l.are ∙ onto_last-end l.first l.last bytes)
    ∙ sym (onto_last-end ([] ∷ l.first) l.last bytes) ∙ ap (λ xs. onto_last ([] ∷ xs) bytes) (sym l.are)
stretches-data (End ∷ ps) bytes = stretches-data ps bytes

pub data_grow : DataGrowStretch
data_grow ps first last bytes are = stretches-data ps bytes ∙ ap (λ xs. onto_last xs bytes) are ∙ onto_last-end first last bytes
