-- Parts of the loop one after another.
use Rattle.std.proofs.Common.{◌≡◌, ℕ, zero, suc, ◌+◌, ◌≤◌, List, [], ◌∷◌, ◌++◌, take, length, refl, sym, ap, subst, ◌∙◌, append_assoc, append-nil}
use Rattle.std.specs.Prelude.{Option, Result, Ok, Err}
use Rattle.std.proofs.Math.Seq.{take-append-add}
use Rattle.flow_defs.specs.declared.cause.Cause.{Cause}
use Rattle.flow_defs.specs.declared.cause.Cause.TheVariants as causes
use Rattle.outside.specs.Links.{Appended}
use Rattle.outside.proofs.Faults.{risen_before}
use Rattle.conn_parts.specs.Writing.{AppendedFront}
use Rattle.conn_parts.proofs.Telling.{appended_more}
use Rattle.conn_send_control.specs.Going.{LieStill, AreCut, WentOut, GoneOut}

-- ---- fronts

front_within : (n : ℕ) (xs ys : List ℕ) → (m : ℕ) × (take n xs ≡ take m (xs ++ ys))
front_within zero xs ys = (0, refl)
front_within (suc n) [] ys = (0, refl)
front_within (suc n) (x ∷ xs) ys = let r = front_within n xs ys in (suc r.0, ap (λ l. x ∷ l) r.1)

-- A front of some bytes is a front of those and more.
pub front_longer : (a b : Option (List ℕ)) (xs ys : List ℕ) → AppendedFront a b xs → AppendedFront a b (xs ++ ys)
front_longer a b xs ys (n, told) = let r = front_within n xs ys in (r.0, subst (Appended a b) r.1 told)

-- Some bytes and then a front of others is a front of all.
pub front_more : (a b c : Option (List ℕ)) (xs ys : List ℕ) → Appended a b xs → AppendedFront b c ys → AppendedFront a c (xs ++ ys)
front_more a b c xs ys whole (n, told) = (length xs + n, subst (Appended a c) (sym (take-append-add xs ys n)) (appended_more a b c xs (take n ys) whole told))

-- ---- what went out

-- More was laid down behind.
pub lie_more : (a b : Option (List ℕ)) (bytes mid more left : List ℕ) → left ≡ mid ++ more → LieStill a b bytes mid → LieStill a b (bytes ++ more) left
lie_more a b bytes mid more left is (out, told, whole) = (out, told, ap (λ l. l ++ more) whole ∙ append_assoc out mid more ∙ ap (λ l. out ++ l) (sym is))

-- Two parts, one after the other.
pub lie_on : (a b c : Option (List ℕ)) (bytes more mid left : List ℕ) → LieStill a b bytes mid → LieStill b c (mid ++ more) left → LieStill a c (bytes ++ more) left
lie_on a b c bytes more mid left (out, told, whole) (out', told', whole') = (
  out ++ out',
  appended_more a b c out out' told told',
  ap (λ l. l ++ more) whole ∙ append_assoc out mid more ∙ ap (λ l. out ++ l) whole' ∙ sym (append_assoc out out' left),
)

pub cut_on : (a b c : Option (List ℕ)) (f g h : ℕ) (bytes more mid : List ℕ) → f ≤ g → LieStill a b bytes mid → AreCut b c g h (mid ++ more) → AreCut a c f h (bytes ++ more)
cut_on a b c f g h bytes more mid le (out, told, whole) (front, risen) = (
  subst (AppendedFront a c) (sym (ap (λ l. l ++ more) whole ∙ append_assoc out mid more)) (front_more a b c out (mid ++ more) told front),
  risen_before f g h le risen,
)

pub out_on : {T E : Type 0} (a b c : Option (List ℕ)) (f g h : ℕ) (bytes more mid left : List ℕ) (result : Result T E) → f ≤ g →
    LieStill a b bytes mid → WentOut b c g h (mid ++ more) left result → WentOut a c f h (bytes ++ more) left result
out_on a b c f g h bytes more mid left (Ok done) le one two = lie_on a b c bytes more mid left one two
out_on a b c f g h bytes more mid left (Err failed) le one two = cut_on a b c f g h bytes more mid le one two

-- A write that failed, with more behind.
pub cut_longer : (a b : Option (List ℕ)) (f g : ℕ) (bytes more : List ℕ) → AreCut a b f g bytes → AreCut a b f g (bytes ++ more)
cut_longer a b f g bytes more (front, risen) = (front_longer a b bytes more front, risen)

-- All went out.
pub lie_all : (a b : Option (List ℕ)) (bytes : List ℕ) → LieStill a b bytes [] → Appended a b bytes
lie_all a b bytes (out, told, whole) = subst (Appended a b) (sym (whole ∙ append-nil out)) told

-- What went out for a cause, after other bytes that did.
pub gone_on : (a b c : Option (List ℕ)) (f g h : ℕ) (xs ys : List ℕ) (cause : Cause) → f ≤ g → Appended a b xs → GoneOut cause b c g h ys → GoneOut cause a c f h (xs ++ ys)
gone_on a b c f g h xs ys causes.Done le told gone = appended_more a b c xs ys told gone
gone_on a b c f g h xs ys causes.Stopped le told gone = appended_more a b c xs ys told gone
gone_on a b c f g h xs ys causes.Memory le told gone = appended_more a b c xs ys told gone
gone_on a b c f g h xs ys (causes.Input source) le told gone = absurd gone
gone_on a b c f g h xs ys causes.Keeper le told gone = absurd gone
gone_on a b c f g h xs ys causes.Link le told (front, risen) = (front_more a b c xs ys told front, risen_before f g h le risen)
gone_on a b c f g h xs ys (causes.LongLine source) le told gone = absurd gone
gone_on a b c f g h xs ys (causes.BigSource source) le told gone = absurd gone
gone_on a b c f g h xs ys causes.BigImage le told gone = absurd gone
gone_on a b c f g h xs ys (causes.OverCredit channel received announced) le told gone = absurd gone
gone_on a b c f g h xs ys (causes.Peer fault) le told gone = absurd gone
