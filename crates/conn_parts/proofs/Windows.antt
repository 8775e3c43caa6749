-- The filled part of a buffer.
use Rattle.std.proofs.Common.{◌≡◌, ℕ, ◌+◌, ◌-◌, ◌≤◌, List, Vec, ◌++◌, take, drop, length, arith, sym, ap, ◌∙◌, drop-drop}
use Rattle.std.specs.Prelude.{Option}
use Rattle.std.proofs.Math.Seq.{take-add}
use Rattle.std.specs.Vec.{with_items}
use Rattle.std.proofs.lemmas.List.{drop-take, length-take, length-drop, with_items_is}
use Rattle.outside.specs.Links.{Appended}
use Rattle.conn_parts.specs.Coming.{CameOn, filled}

-- What is left of it when a front is used.
pub consumed : (xs : List ℕ) («from» to n : ℕ) → n ≤ to - «from» → take (to - («from» + n)) (drop («from» + n) xs) ≡ drop n (take (to - «from») (drop «from» xs))
consumed xs f t n le =
    ap (take (t - (f + n))) (ap (λ k. drop k xs) (omega arith) ∙ sym (drop-drop n f xs)) ∙ sym (drop-take n (t - (f + n)) (drop f xs)) ∙ ap (λ k. drop n (take k (drop f xs))) (omega arith)

-- Where the filled part is this list.
pub consumed_of : (xs now : List ℕ) («from» to n : ℕ) → take (to - «from») (drop «from» xs) ≡ now → n ≤ length now → take (to - («from» + n)) (drop («from» + n) xs) ≡ drop n now
consumed_of xs now f t n is le =
    let long = length-take (t - f) (drop f xs) in
    let same : length (take (t - f) (drop f xs)) ≡ length now = ap length is in
    consumed xs f t n (omega arith) ∙ ap (drop n) is

-- Two lists with the same front have the same in it.
pub filled_front : (xs ys : List ℕ) («from» to : ℕ) → «from» ≤ to → take to ys ≡ take to xs → filled «from» to ys ≡ filled «from» to xs
filled_front xs ys f t le same = let there : f + (t - f) ≡ t = omega arith in
    sym (drop-take f (t - f) ys) ∙ ap (λ n. drop f (take n ys)) there ∙ ap (drop f) same ∙ ap (λ n. drop f (take n xs)) (sym there) ∙ drop-take f (t - f) xs

-- With so many more behind it.
pub filled_more : (xs : List ℕ) («from» to n : ℕ) → «from» ≤ to → filled «from» (to + n) xs ≡ filled «from» to xs ++ take n (drop to xs)
filled_more xs f t n le =
    let more : t + n - f ≡ (t - f) + n = omega arith in
    let there : f + (t - f) ≡ t = omega arith in
    ap (λ m. take m (drop f xs)) more ∙ take-add (t - f) n (drop f xs) ∙ ap (λ l. filled f t xs ++ take n l) (drop-drop (t - f) f xs ∙ ap (λ m. drop m xs) there)

-- Bytes that were read behind it came on.
pub came_on : (old new : Option (List ℕ)) (before xs ys : List ℕ) («from» to n : ℕ) → «from» ≤ to → to + n ≤ length ys → filled «from» to xs ≡ before → take to ys ≡ take to xs →
    Appended old new (take n (drop to ys)) → CameOn old new before (filled «from» (to + n) ys) n
came_on old new before xs ys f t n le within is front told = record {
  bytes = take n (drop t ys);
  many = let a = length-take n (drop t ys) in let b = length-drop t ys in omega arith;
  told = told;
  behind = filled_more ys f t n le ∙ ap (λ l. l ++ take n (drop t ys)) (filled_front xs ys f t le front ∙ is);
}

-- A buffer was lent for writing twice: its filled part was moved, and then bytes behind it were read. So the moved part stays.
pub record IsLeft (items now moved read : List ℕ) («from» to : ℕ) : Type 0 where
  pub items_are : items ≡ read
  pub moved_is : filled «from» to moved ≡ now
  pub front : take to read ≡ take to moved

pub is_left : {Z : Type 0} (v : Vec ℕ Z) (now shown moved lent read : List ℕ) (f0 t0 f t : ℕ) → shown ≡ v.items → filled f0 t0 v.items ≡ now → filled f t moved ≡ filled f0 t0 shown →
    length moved ≡ v.len → lent ≡ (with_items v moved).items → length read ≡ length lent → take t read ≡ take t lent →
    IsLeft (with_items (with_items v moved) read).items now moved read f t
is_left v now shown moved lent read f0 t0 f t is_shown is_now is_moved long is_lent same front =
    let one : lent ≡ moved = is_lent ∙ with_items_is v moved long in
    record {
      items_are = with_items_is (with_items v moved) read (same ∙ ap length one ∙ long);
      moved_is = is_moved ∙ ap (filled f0 t0) is_shown ∙ is_now;
      front = front ∙ ap (take t) one;
    }

pub left_is_kept : (items now moved read : List ℕ) («from» to : ℕ) → «from» ≤ to → IsLeft items now moved read «from» to → filled «from» to items ≡ now
left_is_kept items now moved read f t le left = ap (filled f t) left.items_are ∙ filled_front moved read f t le left.front ∙ left.moved_is

pub left_came_on : (old new : Option (List ℕ)) (items now moved read : List ℕ) («from» to n : ℕ) → «from» ≤ to → to + n ≤ length read → IsLeft items now moved read «from» to →
    Appended old new (take n (drop to read)) → CameOn old new now (filled «from» (to + n) items) n
left_came_on old new items now moved read f t n le within left told =
    let on = came_on old new now moved read f t n le within left.moved_is left.front told in
    record { bytes = on.bytes; many = on.many; told = on.told; behind = ap (filled f (t + n)) left.items_are ∙ on.behind }
