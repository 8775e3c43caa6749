-- A field that is read is the field that was written, and what was written is read again.
use Rattle.std.proofs.Common.{◌≡◌, ℕ, zero, suc, ◌+◌, ◌^◌, ◌<◌, ◌≤◌, Bool, true, false, cond, ltb, leb, eqb, List, [], ◌∷◌, ◌++◌, length, get_or, take, drop, Result, Ok, Err, refl, sym, ap, subst, ◌∙◌, append_assoc, arith, inl, inr, nat_eq, length-append}
use Rattle.std.specs.Int.{Width, w32, w64, byte_len, from_be_bytes, to_be_bytes}
use Rattle.std.specs.List.{starts_with}
use Rattle.std.proofs.lemmas.Bool.{cases_lt, ltb-false, le-ltb, eqb-true, cond-true}
use Rattle.std.proofs.lemmas.List.{take_at, drop_at, take-append-drop, length-take, get_or-drop, get_or-take, get_or_past}
use Rattle.std.proofs.lemmas.Nat.{be_bytes_4, be_bytes_8, from_be_bytes-to_be_bytes_4, from_be_bytes-to_be_bytes_8}
use Rattle.job_text.proofs.SpellingLemmas.{same_bytes, bytes_same}
use Rattle.plain_machine.specs.Spelling.{flag_part, sized}
use Rattle.channel_state.specs.Building.{IsBytes, TakesText}
use Rattle.channel_state.specs.Reading.{Reading, Passing, ◌>>=◌, byte, flag, number, front, piece, mark, tested, nothing}

pub IsBytes-drop : (n : ℕ) (bytes : List ℕ) → IsBytes bytes → IsBytes (drop n bytes)
IsBytes-drop n bytes h i = rw get_or-drop (h (n + i))

pub IsBytes-take : (n : ℕ) (bytes : List ℕ) → IsBytes bytes → IsBytes (take n bytes)
IsBytes-take n bytes h i =
    elim (cases_lt i n) [
      | inl lt ↦ rw (get_or-take n bytes i 0 lt) (h i)
      | inr le ↦ rw (get_or_past (take n bytes) i 0 (omega (arith, length-take n bytes))) (omega arith)
    ]

-- the value of a step that did not fail
pub bind_ok : {A B : Type 0} (r : Result A ℕ) (f : A → Result B ℕ) (y : B) → (r >>= f) ≡ Ok y → (x : A) × (r ≡ Ok x) × (f x ≡ Ok y)
bind_ok (Ok x) f y e = (x, refl, e)
bind_ok (Err d) f y e = absurd cc

-- a test that did not fail
pub guard_ok : {A : Type 0} (b : Bool) (d : ℕ) (x y : A) → cond b (Err d) (Ok x) ≡ Ok y → (b ≡ false) × (x ≡ y)
guard_ok true d x y e = absurd cc
guard_ok false d x y e = (refl, cc)

pub pass_ok : {A : Type 0} (b : Bool) (d : ℕ) (x y : A) → cond b (Ok x) (Err d) ≡ Ok y → (b ≡ true) × (x ≡ y)
pass_ok true d x y e = (refl, cc)
pass_ok false d x y e = absurd cc

abbrev done : {A : Type 0} → A → Result A ℕ
done x = Ok x

pub ok_is : {A : Type 0} (x y : A) → done x ≡ done y → x ≡ y
ok_is x y e = cc

-- ---- tests

pub tested_ok : {X : Type 0} (test : X → Bool) (field : List ℕ → Reading X) (bytes : List ℕ) (x : X × List ℕ) → tested test field bytes ≡ Ok x → (field bytes ≡ Ok x) × (test x.0 ≡ true)
unfolding tested
tested_ok {X} test field bytes x e =
    let a = bind_ok (field bytes) (λ y. cond (test y.0) (Ok y) (Err (length bytes))) x e in
    let g = pass_ok (test a.0.0) (length bytes) a.0 x a.2 in
    (a.1 ∙ ap (λ (y : X × List ℕ). done y) g.1, ap (λ (y : X × List ℕ). test y.0) (sym g.1) ∙ g.0)

pub tested_again : {X : Type 0} (test : X → Bool) (field : List ℕ → Reading X) (bytes : List ℕ) (x : X × List ℕ) → field bytes ≡ Ok x → test x.0 ≡ true → tested test field bytes ≡ Ok x
unfolding tested
tested_again test field bytes x e passes =
    ap (λ r. r >>= λ y. cond (test y.0) (Ok y) (Err (length bytes))) e ∙ cond-true (test x.0) (Ok x) (Err (length bytes)) passes

-- ---- numbers

pub record IsWide (w : Width) (limit : ℕ) : Type 0 where
  pub len : (n : ℕ) → length (to_be_bytes w n) ≡ byte_len w
  pub back : (bytes : List ℕ) → length bytes ≡ byte_len w → IsBytes bytes → to_be_bytes w (from_be_bytes w bytes) ≡ bytes
  pub again : (n : ℕ) → n < limit → from_be_bytes w (to_be_bytes w n) ≡ n
  pub below : (bytes : List ℕ) → IsBytes bytes → from_be_bytes w bytes < limit

pub wide32 : IsWide w32 (2 ^ 32)
wide32 = record {
  len = λ n. refl;
  back = λ bytes len fits. be_bytes_4 bytes _ len fits refl;
  again = λ n lt. from_be_bytes-to_be_bytes_4 n lt;
  below = λ bytes fits. omega (arith, fits 0, fits 1, fits 2, fits 3);
}

pub wide64 : IsWide w64 (2 ^ 64)
wide64 = record {
  len = λ n. refl;
  back = λ bytes len fits. be_bytes_8 bytes _ len fits refl;
  again = λ n lt. from_be_bytes-to_be_bytes_8 n lt;
  below = λ bytes fits. omega (arith, fits 0, fits 1, fits 2, fits 3, fits 4, fits 5, fits 6, fits 7);
}

pub number_takes : (w : Width) (limit : ℕ) (wide : IsWide w limit) (bytes : List ℕ) (n : ℕ) (rest : List ℕ) → IsBytes bytes → number w bytes ≡ Ok (n, rest) → TakesText bytes (to_be_bytes w n) rest × (n < limit)
number_takes w limit wide bytes n rest fits e =
    let g = guard_ok (ltb (length bytes) (byte_len w)) (length bytes) (from_be_bytes w (take (byte_len w) bytes), drop (byte_len w) bytes) (n, rest) e in
    let long : byte_len w ≤ length bytes = ltb-false _ _ g.0 in
    let n-is : from_be_bytes w (take (byte_len w) bytes) ≡ n = ap (λ (p : ℕ × List ℕ). p.0) g.1 in
    let rest-is : drop (byte_len w) bytes ≡ rest = ap (λ (p : ℕ × List ℕ). p.1) g.1 in
    let whole : to_be_bytes w n ≡ take (byte_len w) bytes = rw (← n-is) (wide.back (take (byte_len w) bytes) (omega (arith, length-take (byte_len w) bytes)) (IsBytes-take (byte_len w) bytes fits)) in
    (record { parts = rw (whole, ← rest-is) (sym (take-append-drop (byte_len w) bytes)); rest_fits = rw (← rest-is) (IsBytes-drop (byte_len w) bytes fits) }, rw (← n-is) (wide.below (take (byte_len w) bytes) (IsBytes-take (byte_len w) bytes fits)))

pub number_again : (w : Width) (limit : ℕ) (wide : IsWide w limit) (n : ℕ) (rest : List ℕ) → n < limit → number w (to_be_bytes w n ++ rest) ≡ Ok (n, rest)
number_again w limit wide n rest lt =
    let len = wide.len n in
    let long : ltb (length (to_be_bytes w n ++ rest)) (byte_len w) ≡ false = le-ltb _ _ (omega (arith, length-append (to_be_bytes w n) rest)) in
    rw (long, take_at (to_be_bytes w n) rest (byte_len w) len, drop_at (to_be_bytes w n) rest (byte_len w) len, wide.again n lt) refl

-- a number that may be too large is read without its higher bytes
pub number_passed : (w : Width) (limit : ℕ) (wide : IsWide w limit) (n : ℕ) (rest : List ℕ) → number w (to_be_bytes w n ++ rest) ≡ Ok (from_be_bytes w (to_be_bytes w n), rest)
number_passed w limit wide n rest =
    let len = wide.len n in
    let long : ltb (length (to_be_bytes w n ++ rest)) (byte_len w) ≡ false = le-ltb _ _ (omega (arith, length-append (to_be_bytes w n) rest)) in
    rw (long, take_at (to_be_bytes w n) rest (byte_len w) len, drop_at (to_be_bytes w n) rest (byte_len w) len) refl

-- ---- pieces

pub piece_takes : (bytes text rest : List ℕ) → IsBytes bytes → piece bytes ≡ Ok (text, rest) → TakesText bytes (sized text) rest × (length text < 2 ^ 32)
unfolding piece
piece_takes bytes text rest fits e =
    let b = bind_ok (number w32 bytes) (λ n. front (length bytes) n.0 n.1) (text, rest) e in
    let n = b.0 in
    let t = number_takes w32 (2 ^ 32) wide32 bytes n.0 n.1 fits b.1 in
    let g = guard_ok (ltb (length n.1) n.0) (length bytes) (take n.0 n.1, drop n.0 n.1) (text, rest) b.2 in
    let long : n.0 ≤ length n.1 = ltb-false _ _ g.0 in
    let len : length (take n.0 n.1) ≡ n.0 = omega (arith, length-take n.0 n.1) in
    let both : bytes ≡ to_be_bytes w32 n.0 ++ take n.0 n.1 ++ drop n.0 n.1 =
    t.0.parts ∙ ap (λ l. to_be_bytes w32 n.0 ++ l) (sym (take-append-drop n.0 n.1)) ∙ sym (append_assoc (to_be_bytes w32 n.0) (take n.0 n.1) (drop n.0 n.1)) in
    let whole : TakesText bytes (sized (take n.0 n.1)) (drop n.0 n.1) =
    record { parts = both ∙ ap (λ k. to_be_bytes w32 k ++ take n.0 n.1 ++ drop n.0 n.1) (sym len); rest_fits = IsBytes-drop n.0 n.1 t.0.rest_fits } in
    subst (λ (p : List ℕ × List ℕ). TakesText bytes (sized p.0) p.1 × (length p.0 < 2 ^ 32)) g.1 (whole, omega (arith, t.1, len))

pub piece_again : (text rest : List ℕ) → length text < 2 ^ 32 → piece (sized text ++ rest) ≡ Ok (text, rest)
unfolding piece
piece_again text rest lt =
    let all = length (sized text ++ rest) in
    let long : ltb (length (text ++ rest)) (length text) ≡ false = le-ltb _ _ (omega (arith, length-append text rest)) in
    ap (λ (r : Reading ℕ). r >>= λ n. front all n.0 n.1) (ap (number w32) (append_assoc (to_be_bytes w32 (length text)) text rest) ∙ number_again w32 (2 ^ 32) wide32 (length text) (text ++ rest) lt)
    ∙ ap (λ (b : Bool). cond b (Err all) (Ok (take (length text) (text ++ rest), drop (length text) (text ++ rest)))) long
    ∙ ap (λ (l : List ℕ). done (l, drop (length text) (text ++ rest))) (take_at text rest (length text) refl)
    ∙ ap (λ (l : List ℕ). done (text, l)) (drop_at text rest (length text) refl)

-- ---- single bytes

IsBytes-rest : (b : ℕ) (bytes : List ℕ) → IsBytes (b ∷ bytes) → IsBytes bytes
IsBytes-rest b bytes h i = h (suc i)

pub byte_takes : (bytes : List ℕ) (b : ℕ) (rest : List ℕ) → IsBytes bytes → byte bytes ≡ Ok (b, rest) → TakesText bytes (b ∷ []) rest
byte_takes [] b rest fits e = absurd cc
byte_takes (a ∷ bytes) b rest fits e =
    subst (λ (p : ℕ × List ℕ). TakesText (a ∷ bytes) (p.0 ∷ []) p.1) (ok_is (a, bytes) (b, rest) e) (record { parts = refl; rest_fits = IsBytes-rest a bytes fits })

pub flag_takes : (bytes : List ℕ) (f : Bool) (rest : List ℕ) → IsBytes bytes → flag bytes ≡ Ok (f, rest) → TakesText bytes (flag_part f) rest
flag_takes [] f rest fits e = absurd cc
flag_takes (zero ∷ bytes) f rest fits e =
    subst (λ (p : Bool × List ℕ). TakesText (0 ∷ bytes) (flag_part p.0) p.1) (ok_is (false, bytes) (f, rest) e) (record { parts = refl; rest_fits = IsBytes-rest 0 bytes fits })
flag_takes (suc zero ∷ bytes) f rest fits e =
    subst (λ (p : Bool × List ℕ). TakesText (1 ∷ bytes) (flag_part p.0) p.1) (ok_is (true, bytes) (f, rest) e) (record { parts = refl; rest_fits = IsBytes-rest 1 bytes fits })
flag_takes (suc (suc b) ∷ bytes) f rest fits e = absurd cc

pub flag_again : (f : Bool) (rest : List ℕ) → flag (flag_part f ++ rest) ≡ Ok (f, rest)
flag_again true rest = refl
flag_again false rest = refl

-- ---- marks

pub mark_takes : (text bytes rest : List ℕ) → IsBytes bytes → mark text bytes ≡ Ok rest → TakesText bytes text rest
mark_takes text bytes rest fits e =
    let g = pass_ok (starts_with nat_eq bytes text) (length bytes) (drop (length text) bytes) rest e in
    let same : text ≡ take (length text) bytes = same_bytes text (take (length text) bytes) g.0 in
    record {
      parts = sym (take-append-drop (length text) bytes) ∙ ap (λ l. l ++ drop (length text) bytes) (sym same) ∙ ap (λ l. text ++ l) g.1;
      rest_fits = subst IsBytes g.1 (IsBytes-drop (length text) bytes fits);
    }

pub mark_again : (text rest : List ℕ) → mark text (text ++ rest) ≡ Ok rest
mark_again text rest =
    let same : starts_with nat_eq (text ++ rest) text ≡ true = bytes_same text (take (length text) (text ++ rest)) (sym (take_at text rest (length text) refl)) in
    cond-true (starts_with nat_eq (text ++ rest) text) (Ok (drop (length text) (text ++ rest))) (Err (length (text ++ rest))) same
    ∙ ap (λ (l : List ℕ). done l) (drop_at text rest (length text) refl)

pub nothing_takes : (bytes rest : List ℕ) → nothing bytes ≡ Ok rest → bytes ≡ []
nothing_takes [] rest e = refl
nothing_takes (b ∷ bytes) rest e = absurd cc
