-- What ends of links tell, over several calls.
use Rattle.std.proofs.Common.{◌≡◌, ℕ, ◌+◌, ◌-◌, List, [], ◌++◌, take, drop, length, sym, ap, subst, ◌∙◌, append_assoc, append-nil}
use Rattle.std.specs.Prelude.{IfSome, Option, Some, None, Result, Ok, Err, OnErr}
use Rattle.std.proofs.Math.Seq.{take-add}
use Rattle.std.proofs.lemmas.List.{take_rest}
use Rattle.outside.specs.Links.{Appended}
use Rattle.conn_parts.specs.Coming.{Came}

pub appended_none : (a : Option (List ℕ)) → Appended a a []
appended_none None = tt
appended_none (Some had) = ap Some (sym (append-nil had))

pub appended_more : (a b c : Option (List ℕ)) (xs ys : List ℕ) → Appended a b xs → Appended b c ys → Appended a c (xs ++ ys)
appended_more None b c xs ys p q = tt
appended_more (Some had) b c xs ys p q = let r = subst (λ o. IfSome o (λ h. c ≡ Some (h ++ ys))) p q in r ∙ ap Some (append_assoc had xs ys)

pub appended_same : (a b c : Option (List ℕ)) (xs : List ℕ) → Appended a b xs → c ≡ b → Appended a c xs
appended_same a b c xs p e = subst (λ o. Appended a o xs) (sym e) p

pub came_more : (a b c : Option (List ℕ)) (ys : List ℕ) → Came a b → Appended b c ys → Came a c
came_more a b c ys came told = (came.0 ++ ys, appended_more a b c came.0 ys came.1 told)

-- ---- bytes that are sent piece by piece

-- One more front of the rest.
pub sent_on : (a b c : Option (List ℕ)) (bytes : List ℕ) («from» n : ℕ) → Appended a b (take «from» bytes) → Appended b c (take n (take (length bytes - «from») (drop «from» bytes))) → Appended a c (take («from» + n) bytes)
sent_on a b c bytes f n p q = subst (Appended a c) (ap (λ l. take f bytes ++ take n l) (take_rest bytes f) ∙ sym (take-add f n bytes))
    (appended_more a b c (take f bytes) (take n (take (length bytes - f) (drop f bytes))) p q)

-- ---- answers

-- What holds in any case holds of a failed call.
pub on_err : {T E P : Type 0} (result : Result T E) → P → OnErr result P
on_err (Ok x) holds = tt
on_err (Err e) holds = holds
