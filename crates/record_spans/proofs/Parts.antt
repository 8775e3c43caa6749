-- Parts of lists, laid end to end.
use Rattle.std.proofs.Common.{◌≡◌, ℕ, ◌+◌, ◌-◌, ◌<◌, ◌≤◌, List, [], ◌++◌, length, min, take, drop, arith, rules, ap, ◌∙◌, subst, length-append, append_assoc, append-nil}
use Rattle.std.proofs.lemmas.List.{places, same_lists, take_at, drop_at, drop-drop, drop-append-le, length-drop, length-take-le}
use Rattle.std.proofs.Math.ListN.{drop_of_length-le}
use Rattle.std.proofs.Math.Seq.{take-length, drop-append-add}
use borrow.Rule.Slice.PartMut.{post_of}

-- a slice from k on is all that follows k
pub all_from : (xs : List ℕ) (k : ℕ) → take (length xs - k) (drop k xs) ≡ drop k xs
all_from xs k = subst (λ n. take n (drop k xs) ≡ drop k xs) (length-drop k xs) (take-length (drop k xs))

-- and it is what is left, where it is a slice of the same bytes
pub view_of : (held bytes left : List ℕ) (k : ℕ) → held ≡ bytes → drop k bytes ≡ left → take (length held - k) (drop k held) ≡ left
view_of held bytes left k same left_is = all_from held k ∙ ap (drop k) same ∙ left_is

-- so much of the first list and so much of the second, where the first ends if any of the second is taken
pub take_of_two : (xs ys : List ℕ) (m n : ℕ) → m ≤ length xs → n ≤ length ys → (0 < n → m ≡ length xs) → take (m + n) (xs ++ ys) ≡ take m xs ++ take n ys
take_of_two xs ys m n m_within n_within ends = same_lists _ _ (search (rules, places)) (λ k d h. grind (arith, places))

module _ (head line room : List ℕ) (done first second : ℕ) (done_in : done ≤ length head) (first_is : first ≡ min (length room) (length head - done)) where
  -- the head's part and then the line's part are one part of both together
  pub two_parts : (room2 room3 : List ℕ) → room2 ≡ take first (drop done head) ++ drop first room
      → second ≡ min (length room2 - first) (length line)
      → room3 ≡ take second line ++ drop second (drop first room2)
      → take first room2 ++ (room3 ++ post_of first (length room2 - first) room2) ≡ take (first + second) (drop done (head ++ line)) ++ drop (first + second) room
  two_parts room2 room3 room2_is second_is room3_is =
      let part = take first (drop done head) in
      let part_len : length part ≡ first = length-take-le first (drop done head) (omega (arith, length-drop done head)) in
      let front : take first room2 ≡ part = rw room2_is (take_at part (drop first room) first part_len) in
      let back : drop first room2 ≡ drop first room = rw room2_is (drop_at part (drop first room) first part_len) in
      let len2 : length room2 ≡ length room = rw room2_is (omega (arith, length-append part (drop first room), length-drop first room)) in
      let none : post_of first (length room2 - first) room2 ≡ [] = rw back (drop_of_length-le (drop first room) (omega (arith, length-drop first room))) in
      let joined : take (first + second) (drop done head ++ line) ≡ part ++ take second line = take_of_two (drop done head) line first second (omega (arith, length-drop done head)) (omega arith) (λ more. omega (arith, length-drop done head)) in
      let rest : drop second (drop first room) ≡ drop (first + second) room = drop-drop second first room in
      let tail : room3 ≡ take second line ++ drop (first + second) room = room3_is ∙ ap (λ l. take second line ++ drop second l) back ∙ ap (λ l. take second line ++ l) rest in
      rw (front, none, tail, drop-append-le done head line done_in, joined) (simp (append_assoc, append-nil))

-- what follows the head and some bytes behind it
pub past_head : (head line : List ℕ) (done : ℕ) → length head ≡ 4 → 4 ≤ done → drop done (head ++ line) ≡ drop (done - 4) line
past_head head line done head_len past = subst (λ n. drop n (head ++ line) ≡ drop (done - 4) line) (omega arith) (drop-append-add head line (done - 4))
