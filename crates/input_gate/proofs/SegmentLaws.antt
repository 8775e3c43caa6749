-- What becomes of the segments of a gate's pool, step after step.
use Rattle.std.proofs.Common.{◌≡◌, ℕ, zero, suc, ◌+◌, ◌<◌, false, cond, List, [], ◌∷◌, ◌++◌, length, get_or, Option, Some, None, refl, sym, ap, ◌∙◌, arith, append_assoc, append-nil}
use Rattle.std.specs.Prelude.{sum_by, slice_set, option_to_list}
use Rattle.std.proofs.lemmas.List.Sums.{sum_by-cons, sum_by-append}
use Rattle.turn_cell.specs.Passes.{mine}
use Rattle.local_pool.specs.declared.entry.PoolEntry.{PoolEntry}
use Rattle.local_pool.specs.declared.entry.PoolEntry.TheVariants.{Lent, Returned}
use Rattle.input_channel.specs.declared.entry.ReceiveEntry.{ReceiveEntry}
use Rattle.input_channel.specs.declared.entry.ReceiveEntry.TheVariants.{Added}
use Rattle.input_channel.proofs.CountLemmas.{count-cons, count-snoc}
use Rattle.local_pool.specs.Lending.{is_lent, is_returned, lends, returns}
use Rattle.input_channel.specs.Legal.{is_added, adds}
use Rattle.input_gate.specs.declared.lane.Lane.{Lane}
use Rattle.input_gate.specs.Turning.{InputPass}
use Rattle.input_gate.specs.Channels.{passes_in}
use Rattle.input_gate.specs.Segments.{added_by, freed_by, added_in, freed_in, given_back, LoseNone, StayEven, IsUntouched, AreUntouched}

-- ---- from one moment to a later one

lends-append : (xs ys : List PoolEntry) → lends (xs ++ ys) ≡ lends xs + lends ys
lends-append xs ys = sum_by-append (λ e. cond (is_lent e) 1 0) xs ys

returns-append : (xs ys : List PoolEntry) → returns (xs ++ ys) ≡ returns xs + returns ys
returns-append xs ys = sum_by-append (λ e. cond (is_returned e) 1 0) xs ys

pub even_refl : (own : List PoolEntry) (f a : ℕ) → StayEven own own f a f a
even_refl own f a = record { since = []; told = sym (append-nil own); even = omega arith }

pub even_then : {x y z : List PoolEntry} {f a g b h c : ℕ} → StayEven x y f a g b → StayEven y z g b h c → StayEven x z f a h c
even_then {x} {y} {z} {f} {a} {g} {b} {h} {c} one two = record {
  since = one.since ++ two.since;
  told = two.told ∙ ap (λ l. l ++ two.since) one.told ∙ append_assoc x one.since two.since;
  even = let l = lends-append one.since two.since in let r = returns-append one.since two.since in let e = one.even in let k = two.even in omega (arith, l, r, e, k);
}

-- ---- at one channel

pub adds_other : (e : ReceiveEntry) → is_added e ≡ false → (es now : List ReceiveEntry) → now ≡ es ++ e ∷ [] → adds now ≡ adds es
adds_other e none es now is = ap adds is ∙ count-snoc is_added es e ∙ ap (λ b. adds es + cond b 1 0) none ∙ (let h : adds es + 0 ≡ adds es = omega arith in h)

module _ (p q : InputPass) where
  pub untouched_other : (e : ReceiveEntry) → is_added e ≡ false → mine q ≡ mine p ++ e ∷ [] → freed_by q ≡ freed_by p → IsUntouched p q
  untouched_other e none is same = (same, adds_other e none (mine p) (mine q) is)

  pub untouched_none : mine q ≡ mine p → freed_by q ≡ freed_by p → IsUntouched p q
  untouched_none is same = (same, ap adds is)

  pub untouched_same : q ≡ p → IsUntouched p q
  untouched_same is = (ap freed_by is, ap added_by is)

  -- The pool lent one, which was added, or came back.
  pub even_added : (own now : List PoolEntry) → now ≡ own ++ Lent ∷ [] → mine q ≡ mine p ++ Added ∷ [] → freed_by q ≡ freed_by p → StayEven own now (freed_by p) (added_by p) (freed_by q) (added_by q)
  even_added own now told is same = record {
    since = Lent ∷ [];
    told = told;
    even =
        let l = count-cons is_lent Lent [] in let r = count-cons is_returned Lent [] in
        let a = ap adds is ∙ count-snoc is_added (mine p) Added in
        omega (arith, l, r, a, same);
  }

  pub even_back : (own lent now : List PoolEntry) → lent ≡ own ++ Lent ∷ [] → now ≡ lent ++ Returned ∷ [] → mine q ≡ mine p → freed_by q ≡ freed_by p → StayEven own now (freed_by p) (added_by p) (freed_by q) (added_by q)
  even_back own lent now one two is same = record {
    since = Lent ∷ Returned ∷ [];
    told = two ∙ ap (λ l. l ++ Returned ∷ []) one ∙ append_assoc own (Lent ∷ []) (Returned ∷ []);
    even =
        let l = count-cons is_lent Lent (Returned ∷ []) in let r = count-cons is_returned Lent (Returned ∷ []) in
        let m = count-cons is_lent Returned [] in let s = count-cons is_returned Returned [] in
        let a = ap adds is in
        omega (arith, l, r, m, s, a, same);
  }

  -- A buffer came back, and what it set free went to the pool.
  pub even_returned : {A : Type 0} (free : Option A) (e : ReceiveEntry) → is_added e ≡ false → (own now : List PoolEntry) → now ≡ own ++ given_back free → mine q ≡ mine p ++ e ∷ [] → freed_by q ≡ freed_by p + length (option_to_list free) →
      StayEven own now (freed_by p) (added_by p) (freed_by q) (added_by q)
  even_returned None e none own now told is freed = record {
    since = [];
    told = told;
    even = let a = adds_other e none (mine p) (mine q) is in omega (arith, a, freed);
  }
  even_returned (Some segment) e none own now told is freed = record {
    since = Returned ∷ [];
    told = told;
    even =
        let l = count-cons is_lent Returned [] in let r = count-cons is_returned Returned [] in
        let a = adds_other e none (mine p) (mine q) is in
        omega (arith, l, r, a, freed);
  }

-- ---- at all channels

module _ (f : InputPass → ℕ) where
  set_sum : (ls : List Lane) (i : ℕ) (x y l : Lane) → y ≡ get_or ls i x → i < length ls → sum_by f (passes_in (slice_set ls i l)) + f y.pass ≡ sum_by f (passes_in ls) + f l.pass
  set_sum [] i x y l e low = absurd (omega arith)
  set_sum (z ∷ ls) zero x y l e low =
      let now = sum_by-cons f l.pass (passes_in ls) in
      let old = sum_by-cons f z.pass (passes_in ls) in
      let same = ap (λ (lane : Lane). f lane.pass) e in
      omega (arith, now, old, same)
  set_sum (z ∷ ls) (suc i) x y l e low =
      let rest = set_sum ls i x y l e (omega arith) in
      let now = sum_by-cons f z.pass (passes_in (slice_set ls i l)) in
      let old = sum_by-cons f z.pass (passes_in ls) in
      omega (arith, rest, now, old)

module _ (ls : List Lane) (i : ℕ) (x y l : Lane) (e : y ≡ get_or ls i x) (low : i < length ls) where
  pub even_set : {own now : List PoolEntry} → StayEven own now (freed_by y.pass) (added_by y.pass) (freed_by l.pass) (added_by l.pass) → StayEven own now (freed_in ls) (added_in ls) (freed_in (slice_set ls i l)) (added_in (slice_set ls i l))
  even_set {own} {now} h = record {
    since = h.since;
    told = h.told;
    even =
        let f = set_sum freed_by ls i x y l e low in
        let a = set_sum added_by ls i x y l e low in
        let one = h.even in
        omega (arith, f, a, one);
  }

  pub untouched_set : IsUntouched y.pass l.pass → AreUntouched ls (slice_set ls i l)
  untouched_set h =
      let f = set_sum freed_by ls i x y l e low in
      let a = set_sum added_by ls i x y l e low in
      let freed = h.0 in
      let added = h.1 in
      (omega (arith, f, freed), omega (arith, a, added))

pub untouched_all : (ls : List Lane) → AreUntouched ls ls
untouched_all ls = (refl, refl)

pub untouched_then : (ls ms ns : List Lane) → AreUntouched ls ms → AreUntouched ms ns → AreUntouched ls ns
untouched_then ls ms ns h k = (k.0 ∙ h.0, k.1 ∙ h.1)

pub all_untouched : {own : List PoolEntry} (ls ms : List Lane) → AreUntouched ls ms → StayEven own own (freed_in ls) (added_in ls) (freed_in ms) (added_in ms)
all_untouched {own} ls ms same = record { since = []; told = sym (append-nil own); even = let f = same.0 in let a = same.1 in omega (arith, f, a) }

-- ---- since the gate was made

pub lose_then : (first own now : List PoolEntry) (ls ms : List Lane) → LoseNone first own (passes_in ls) → StayEven own now (freed_in ls) (added_in ls) (freed_in ms) (added_in ms) → LoseNone first now (passes_in ms)
lose_then first own now ls ms one two = record {
  since = one.since ++ two.since;
  told = two.told ∙ ap (λ l. l ++ two.since) one.told ∙ append_assoc first one.since two.since;
  even = let l = lends-append one.since two.since in let r = returns-append one.since two.since in let e = one.even in let k = two.even in omega (arith, l, r, e, k);
}
