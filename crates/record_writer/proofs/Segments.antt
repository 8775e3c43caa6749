-- Segments that are lent, given back, put and filled.
use Rattle.std.proofs.Common.{◌≡◌, ℕ, ◌+◌, ◌<◌, Bool, false, cond, Option, Some, None, List, [], ◌∷◌, ◌++◌, length, get_or, set, sym, ap, ◌∙◌, arith}
use Rattle.std.specs.Prelude.{count_by}
use Rattle.std.specs.Option.{option_map_or}
use Rattle.std.proofs.lemmas.List.Sums.{sum_by-append, sum_by-cons, sum_by-set}
use Rattle.turn_cell.specs.Passes.{mine}
use Rattle.local_pool.specs.declared.entry.PoolEntry.{PoolEntry}
use Rattle.local_pool.specs.declared.entry.PoolEntry.TheVariants.{Lent, Returned}
use Rattle.subpartition.specs.declared.entry.SendEntry.{SendEntry}
use Rattle.subpartition.specs.declared.entry.SendEntry.TheVariants.{Put}
use Rattle.record_writer.specs.declared.part.Part.{Part}
use Rattle.record_writer.specs.declared.supply.Supply.{Supply}
use Rattle.record_writer.specs.declared.channels.Channels.{Channels}
use Rattle.record_writer.specs.Writers.{SendPass}
use Rattle.record_writer.specs.Segments.{NoneLost, NoneLostAt, NoneLostOn, all_put, all_held, buffers_put, holds, is_buffer, lending_of}
use Rattle.local_pool.specs.Lending.{is_lent, is_returned, lends, returns}
use Rattle.record_writer.proofs.Lending.{passes_now, parts_now, passes_set, parts_set}

-- An entry more counts or not.
counted : {E : Type 0} (p : E → Bool) (es es' : List E) (e : E) → es' ≡ es ++ e ∷ [] → count_by p es' ≡ count_by p es + cond (p e) 1 0
counted p es es' e is =
    ap (count_by p) is
    ∙ sum_by-append (λ y. cond (p y) 1 0) es (e ∷ [])
    ∙ ap (λ n. count_by p es + n) (sum_by-cons (λ y. cond (p y) 1 0) e [] ∙ (let none : cond (p e) 1 0 + 0 ≡ cond (p e) 1 0 = omega arith in none))

pub one_more : (own own' : List SendEntry) (bytes : List ℕ) → own' ≡ own ++ Put bytes ∷ [] → buffers_put own' ≡ buffers_put own + 1
one_more own own' bytes is = counted is_buffer own own' (Put bytes) is

pub no_more : (own own' : List SendEntry) (e : SendEntry) → is_buffer e ≡ false → own' ≡ own ++ e ∷ [] → buffers_put own' ≡ buffers_put own
no_more own own' e none is = counted is_buffer own own' e is ∙ ap (λ b. buffers_put own + cond b 1 0) none ∙ (let same : buffers_put own + 0 ≡ buffers_put own = omega arith in same)

-- ---- none is lost

pub lent_one : (es es' : List PoolEntry) → es' ≡ es ++ Lent ∷ [] → NoneLost es es' 0 0 0 1
lent_one es es' is =
    let l : lends es' ≡ lends es + 1 = counted is_lent es es' Lent is in
    let r : returns es' ≡ returns es + 0 = counted is_returned es es' Lent is in
    omega (arith, l, r)

pub gave_one : (es es' : List PoolEntry) → es' ≡ es ++ Returned ∷ [] → NoneLost es es' 0 0 1 0
gave_one es es' is =
    let l : lends es' ≡ lends es + 0 = counted is_lent es es' Returned is in
    let r : returns es' ≡ returns es + 1 = counted is_returned es es' Returned is in
    omega (arith, l, r)

-- The pool did nothing, and as many are put or being filled as before.
pub moved : (es es' : List PoolEntry) (put put' held held' : ℕ) → es' ≡ es → put + held ≡ put' + held' → NoneLost es es' put put' held held'
moved es es' put put' held held' is same =
    let l : lends es' ≡ lends es = ap lends is in
    let r : returns es' ≡ returns es = ap returns is in
    omega (arith, l, r, same)

-- One step and then another.
none_lost_on : (es mid es' : List PoolEntry) (a b c h i j : ℕ) → NoneLost es mid a b h i → NoneLost mid es' b c i j → NoneLost es es' a c h j
none_lost_on es mid es' a b c h i j p q = omega (arith, p, q)

-- Besides, others were put.
none_lost_beside : (es es' : List PoolEntry) (put h i : ℕ) → NoneLost es es' 0 0 h i → NoneLost es es' put put h i
none_lost_beside es es' put h i p = omega (arith, p)

module _ (s m s' : Supply) where
  pub lost_none_at : (own mid own' : List SendEntry) (part held part' : Part) → NoneLostAt s m own mid part held → NoneLostAt m s' mid own' held part' → NoneLostAt s s' own own' part part'
  lost_none_at own mid own' part held part' p q =
      none_lost_on (lending_of s) (lending_of m) (lending_of s') (buffers_put own) (buffers_put mid) (buffers_put own') (holds part) (holds held) (holds part') p q

  pub lost_none_filling : (own mid : List SendEntry) (part held part' : Part) → NoneLostAt s m own mid part held → NoneLost (lending_of m) (lending_of s') 0 0 (holds held) (holds part') → NoneLostAt s s' own mid part part'
  lost_none_filling own mid part held part' p q =
      lost_none_at own mid mid part held part' p (none_lost_beside (lending_of m) (lending_of s') (buffers_put mid) (holds held) (holds part') q)

  -- Then an entry was made that is no buffer, or none.
  pub lost_none_then : (own mid own' : List SendEntry) (part part' : Part) → NoneLostAt s m own mid part part' → lending_of s' ≡ lending_of m → buffers_put own' ≡ buffers_put mid → NoneLostAt s s' own own' part part'
  lost_none_then own mid own' part part' p is same =
      lost_none_at own mid own' part part' part' p (moved (lending_of m) (lending_of s') (buffers_put mid) (buffers_put own') (holds part') (holds part') is (ap (λ n. n + holds part') (sym same)))

  pub lost_none_on : (was mid now : Channels) → NoneLostOn s m was mid → NoneLostOn m s' mid now → NoneLostOn s s' was now
  lost_none_on was mid now p q =
      none_lost_on (lending_of s) (lending_of m) (lending_of s') (all_put was.passes.items) (all_put mid.passes.items) (all_put now.passes.items)
      (all_held was.parts.items) (all_held mid.parts.items) (all_held now.parts.items) p q

-- The last of these parts gave its segment back, where it had one.
module _ (es mid es' : List PoolEntry) (first : ℕ) (parts rest : List Part) (part : Part) (before : NoneLost es mid 0 0 first (all_held parts)) (is : parts ≡ rest ++ part ∷ []) where
  last_held : all_held parts ≡ all_held rest + (holds part + 0)
  last_held = ap all_held is ∙ sum_by-append holds rest (part ∷ []) ∙ ap (λ n. all_held rest + n) (sum_by-cons holds part [])

  pub gave_last : (segment : List ℕ) → part.segment ≡ Some segment → es' ≡ mid ++ Returned ∷ [] → NoneLost es es' 0 0 first (all_held rest)
  gave_last segment has back =
      let one : holds part ≡ 1 = ap (λ (x : Option (List ℕ)). option_map_or (λ (bytes : List ℕ). 1) x 0) has in
      let gave = gave_one mid es' back in let last = last_held in
      omega (arith, before, gave, last, one)

  pub had_none : part.segment ≡ None → es' ≡ mid → NoneLost es es' 0 0 first (all_held rest)
  had_none none same =
      let no : holds part ≡ 0 = ap (λ (x : Option (List ℕ)). option_map_or (λ (bytes : List ℕ). 1) x 0) none in
      let l : lends es' ≡ lends mid = ap lends same in
      let r : returns es' ≡ returns mid = ap returns same in
      let last = last_held in
      omega (arith, before, l, r, last, no)

-- ---- one channel of all of them

module _ (passes lent : List SendPass) (parts lent_parts : List Part) (k : ℕ) (was : SendPass) (was_part : Part)
    (is : lent ≡ passes) (is_parts : lent_parts ≡ parts) (within : k < length passes) (within_parts : k < length parts)
    (is_was : was ≡ get_or lent k was) (is_was_part : was_part ≡ get_or lent_parts k was_part) (pass : SendPass) (part : Part) where
  abbrev passes' : List SendPass
  passes' = passes_now passes lent parts lent_parts k was was_part is is_parts within within_parts is_was is_was_part pass part

  abbrev parts' : List Part
  parts' = parts_now passes lent parts lent_parts k was was_part is is_parts within within_parts is_was is_was_part pass part

  put_here : all_put passes' + buffers_put (mine (get_or lent k was)) ≡ all_put passes + buffers_put (mine pass)
  put_here =
      ap (λ (ps : List SendPass). all_put ps + buffers_put (mine (get_or lent k was))) (passes_set passes lent parts lent_parts k was was_part is is_parts within within_parts is_was is_was_part pass part)
      ∙ ap (λ (ps : List SendPass). all_put (set passes k pass) + buffers_put (mine (get_or ps k was))) is
      ∙ sum_by-set (λ (p : SendPass). buffers_put (mine p)) passes k pass was within

  held_here : all_held parts' + holds (get_or lent_parts k was_part) ≡ all_held parts + holds part
  held_here =
      ap (λ (ps : List Part). all_held ps + holds (get_or lent_parts k was_part)) (parts_set passes lent parts lent_parts k was was_part is is_parts within within_parts is_was is_was_part pass part)
      ∙ ap (λ (ps : List Part). all_held (set parts k part) + holds (get_or ps k was_part)) is_parts
      ∙ sum_by-set holds parts k part was_part within_parts

  pub none_lost_here : (es es' : List PoolEntry) → NoneLost es es' (buffers_put (mine (get_or lent k was))) (buffers_put (mine pass)) (holds (get_or lent_parts k was_part)) (holds part) →
      NoneLost es es' (all_put passes) (all_put passes') (all_held parts) (all_held parts')
  none_lost_here es es' p = let a = put_here in let b = held_here in omega (arith, p, a, b)
