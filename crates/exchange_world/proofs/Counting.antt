-- Counts of lists of parcels and of buffers, with one more behind them or one less.
use Rattle.std.proofs.Common.{◌≡◌, ℕ, zero, suc, ◌+◌, ◌-◌, ◌≤◌, eqb, ltb, Bool, true, false, not, cond, List, [], ◌∷◌, ◌++◌, refl, ap, ◌∙◌, arith}
use Rattle.std.specs.Prelude.{count_by}
use Rattle.std.proofs.lemmas.Bool.{lt-ltb}
use Rattle.std.proofs.Math.Dec.{eqb-suc-zero}
use Rattle.flow_defs.specs.declared.parcel.Parcel.{Parcel}
use Rattle.flow_defs.specs.declared.parcel.Parcel.TheVariants.{Data, Barrier, End}
use Rattle.flow_defs.specs.Parcels.{has_end, is_data}
use Rattle.input_channel.specs.Counts.{data_in}
use Rattle.input_channel.specs.Legal.{inline_in}
use Rattle.input_channel.proofs.CountLemmas.{count-cons, count-snoc}
use Rattle.input_channel.proofs.InboxLaws.{inline_in-append}
use Rattle.exchange_world.specs.Lanes.{backlog_in}

data_in-cond : (p : Parcel) → cond (is_data p) 1 0 ≡ data_in p
data_in-cond (Data bytes) = refl
data_in-cond (Barrier k kind) = refl
data_in-cond End = refl

-- the data of one parcel and others
pub backlog-cons : (p : Parcel) (ps : List Parcel) → backlog_in (p ∷ ps) ≡ data_in p + backlog_in ps
backlog-cons p ps = count-cons is_data p ps ∙ ap (λ n. n + backlog_in ps) (data_in-cond p)

pub backlog-snoc : (ps : List Parcel) (p : Parcel) → backlog_in (ps ++ p ∷ []) ≡ backlog_in ps + data_in p
backlog-snoc ps p = count-snoc is_data ps p ∙ ap (λ n. backlog_in ps + n) (data_in-cond p)

-- the inline barriers of one parcel and others
pub inline-cons : (p : Parcel) (ps : List Parcel) → inline_in (p ∷ ps) ≡ inline_in (p ∷ []) + inline_in ps
inline-cons p ps = inline_in-append (p ∷ []) ps

-- the end stands behind parcels that have none
pub end-snoc : (ps : List Parcel) (p : Parcel) → has_end ps ≡ false → has_end (ps ++ p ∷ []) ≡ has_end (p ∷ [])
end-snoc [] p e = refl
end-snoc (Data bytes ∷ ps) p e = end-snoc ps p e
end-snoc (Barrier k kind ∷ ps) p e = end-snoc ps p e
end-snoc (End ∷ ps) p e = absurd (no e)
  where
    no : true ≡ false → ⊥
    no e = cc

both : (a b c d : Bool) (f : Bool → Bool → ℕ) → a ≡ b → c ≡ d → f a c ≡ f b d
both a b c d f e g = cc

-- data take an exclusive buffer or a floating one
pub exclusive_taken : (e f : ℕ) (held : List Bool) → 1 ≤ e + f →
    cond (ltb 0 f) e (e - 1) + count_by (λ x. x) (held ++ eqb f 0 ∷ []) ≡ e + count_by (λ x. x) held
exclusive_taken e zero held some = let more = count-snoc (λ x. x) held true in omega (arith, more)
exclusive_taken e (suc f) held some =
    let more = count-snoc (λ x. x) held false in
    let two : cond (ltb 0 (suc f)) e (e - 1) + count_by (λ x. x) (held ++ eqb (suc f) 0 ∷ []) ≡ e + count_by (λ x. x) (held ++ false ∷ []) =
    both (ltb 0 (suc f)) true (eqb (suc f) 0) false (λ a b. cond a e (e - 1) + count_by (λ x. x) (held ++ b ∷ [])) (lt-ltb 0 (suc f) (omega arith)) (eqb-suc-zero f) in
    omega (arith, more, two)

pub floating_taken : (f : ℕ) (held : List Bool) → (f - 1) + count_by not (held ++ eqb f 0 ∷ []) ≡ f + count_by not held
floating_taken zero held = let more = count-snoc not held true in omega (arith, more)
floating_taken (suc f) held =
    let more = count-snoc not held false in
    let same : count_by not (held ++ eqb (suc f) 0 ∷ []) ≡ count_by not (held ++ false ∷ []) = ap (λ b. count_by not (held ++ b ∷ [])) (eqb-suc-zero f) in
    omega (arith, more, same)

pub free_taken : (e f : ℕ) → 1 ≤ e + f → suc (cond (ltb 0 f) e (e - 1) + (f - 1)) ≡ e + f
free_taken e zero some = omega (arith, some)
free_taken e (suc f) some =
    let same : cond (ltb 0 (suc f)) e (e - 1) ≡ e = ap (λ b. cond b e (e - 1)) (lt-ltb 0 (suc f) (omega arith)) in
    omega (arith, same)
