-- What four loops left, taken from the last to the first.
use Rattle.std.proofs.Common.{◌≡◌, List, [], ◌∷◌, ◌++◌, length, refl, sym, ap, ◌∙◌, arith, length-append}
use Rattle.conn_parts.specs.declared.share.LoopEnd.{LoopEnd}
use Rattle.job_workers.specs.declared.connection.LoopLeft.TheVariants.{SentItems, ReadControl, ReadItems, SentControl}
use Rattle.job_workers.specs.declared.place.Place.{Place}
use Rattle.job_workers.specs.declared.place.Place.TheVariants.{Ended}
use Rattle.job_ends.specs.Ended.{LoopPlace}
use Rattle.job_ends.specs.Leaving.{LoopEnds, left_by, places_of}

-- Lists with a last element are equal only where these are, and what stands before them.
pub last_same : {X : Type 0} (xs ys : List X) (x y : X) → xs ++ x ∷ [] ≡ ys ++ y ∷ [] → (xs ≡ ys) × (x ≡ y)
last_same [] [] x y e = (refl, cc)
last_same [] (b ∷ ys) x y e = absurd (let l = ap length e in let m = length-append ys (y ∷ []) in omega (arith, l, m))
last_same (a ∷ xs) [] x y e = absurd (let l = ap length e in let m = length-append xs (x ∷ []) in omega (arith, l, m))
last_same (a ∷ xs) (b ∷ ys) x y e =
    let head : a ≡ b = cc in
    let tail : xs ++ x ∷ [] ≡ ys ++ y ∷ [] = cc in
    let r = last_same xs ys x y tail in
    (let t : xs ≡ ys = r.0 in cc, r.1)

pub left_same : {W E : Type 0} (front rest : List (Place W E)) (x y : E) (row : List (Place W E)) → row ≡ front ++ Ended x ∷ [] → row ≡ rest ++ Ended y ∷ [] → x ≡ y
left_same front rest x y row a b = let s = (last_same front rest (Ended x) (Ended y) (sym a ∙ b)).1 in cc

module _ {O I : Type 0} (ends : LoopEnds O I) (row one two three four : List (LoopPlace O I)) (announce : LoopEnd O) (items control : LoopEnd I) (send : LoopEnd O) (is : row ≡ places_of ends)
    (first : row ≡ one ++ Ended (SentControl announce) ∷ []) where
  pub rest_one : one ≡ Ended (SentItems ends.send) ∷ Ended (ReadControl ends.control) ∷ Ended (ReadItems ends.items) ∷ []
  rest_one = (last_same one (Ended (SentItems ends.send) ∷ Ended (ReadControl ends.control) ∷ Ended (ReadItems ends.items) ∷ []) (Ended (SentControl announce)) (Ended (SentControl ends.announce)) (sym first ∙ is)).0

  announce_is : announce ≡ ends.announce
  announce_is = let s = (last_same one (Ended (SentItems ends.send) ∷ Ended (ReadControl ends.control) ∷ Ended (ReadItems ends.items) ∷ []) (Ended (SentControl announce)) (Ended (SentControl ends.announce)) (sym first ∙ is)).1 in cc

  module _ (second : one ≡ two ++ Ended (ReadItems items) ∷ []) where
    pub rest_two : two ≡ Ended (SentItems ends.send) ∷ Ended (ReadControl ends.control) ∷ []
    rest_two = (last_same two (Ended (SentItems ends.send) ∷ Ended (ReadControl ends.control) ∷ []) (Ended (ReadItems items)) (Ended (ReadItems ends.items)) (sym second ∙ rest_one)).0

    items_is : items ≡ ends.items
    items_is = let s = (last_same two (Ended (SentItems ends.send) ∷ Ended (ReadControl ends.control) ∷ []) (Ended (ReadItems items)) (Ended (ReadItems ends.items)) (sym second ∙ rest_one)).1 in cc

    module _ (third : two ≡ three ++ Ended (ReadControl control) ∷ []) where
      pub rest_three : three ≡ Ended (SentItems ends.send) ∷ []
      rest_three = (last_same three (Ended (SentItems ends.send) ∷ []) (Ended (ReadControl control)) (Ended (ReadControl ends.control)) (sym third ∙ rest_two)).0

      control_is : control ≡ ends.control
      control_is = let s = (last_same three (Ended (SentItems ends.send) ∷ []) (Ended (ReadControl control)) (Ended (ReadControl ends.control)) (sym third ∙ rest_two)).1 in cc

      pub left_is : three ≡ four ++ Ended (SentItems send) ∷ [] → left_by (record { send = send; control = control; items = items; announce = announce }) ≡ left_by ends
      left_is fourth =
          let s = (last_same four [] (Ended (SentItems send)) (Ended (SentItems ends.send)) (sym fourth ∙ rest_three)).1 in
          let send_is : send ≡ ends.send = cc in
          let a = announce_is in let i = items_is in let c = control_is in
          cc
