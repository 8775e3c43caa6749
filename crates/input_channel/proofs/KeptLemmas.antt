-- Segments of one length, and counts of buffers, with one more or one less.
use Rattle.std.proofs.Common.{◌≡◌, ℕ, ◌+◌, ◌-◌, eqb, eqb-true, ltb, ltb-true, ltb-false, true≢false, ◌<◌, ◌≤◌, List, [], ◌∷◌, ◌++◌, length, drop, Bool, true, false, not, cond, refl, sym, ap, subst, ◌∙◌, arith}
use Rattle.std.specs.Prelude.{count_by, MatchBool}
use Rattle.circular_buffer.specs.Buffer.{Buffer, buffer}
use Rattle.std.proofs.lemmas.List.{map-append}
use Rattle.input_channel.specs.declared.held.HeldBuf.{HeldBuf}
use Rattle.input_channel.specs.Counts.{Counts}
use Rattle.input_channel.specs.Lines.{kinds_of}
use Rattle.input_channel.specs.Kept.{HaveLength, AreOfLength}
use Rattle.input_channel.proofs.CountLemmas.{count-cons}

pub lengths-more : (n : ℕ) (xs : List (List ℕ)) (s : List ℕ) → HaveLength n xs → length s ≡ n → HaveLength n (xs ++ s ∷ [])
lengths-more n [] s h e = (e, tt)
lengths-more n (x ∷ xs) s h e = (h.0, lengths-more n xs s h.1 e)

pub lengths-less : (n : ℕ) (xs : List (List ℕ)) → HaveLength n xs → HaveLength n (drop 1 xs)
lengths-less n [] h = tt
lengths-less n (x ∷ xs) h = h.1

pub lengths-first : (n : ℕ) (xs ys : List (List ℕ)) (s : List ℕ) → xs ≡ s ∷ ys → HaveLength n xs → length s ≡ n
lengths-first n [] ys s e h = absurd (no e)
  where
    no : [] ≡ s ∷ ys → ⊥
    no e = cc
lengths-first n (x ∷ xs) ys s e h = let same : x ≡ s = cc in ap length (sym same) ∙ h.0

pub buffers-more : (n : ℕ) (xs : List HeldBuf) (b : HeldBuf) → AreOfLength n xs → length b.segment ≡ n → AreOfLength n (xs ++ b ∷ [])
buffers-more n [] b h e = (e, tt)
buffers-more n (x ∷ xs) b h e = (h.0, buffers-more n xs b h.1 e)

pub kinds-more : (xs : List HeldBuf) (b : HeldBuf) → kinds_of (xs ++ b ∷ []) ≡ kinds_of xs ++ b.exclusive ∷ []
kinds-more xs b = map-append (λ buf. buf.exclusive) xs (b ∷ [])

-- the exclusive ones and the floating ones are all
pub kinds-all : (xs : List Bool) → count_by (λ x. x) xs + count_by not xs ≡ length xs
kinds-all [] = refl
kinds-all (x ∷ xs) =
    let ex = count-cons (λ y. y) x xs in
    let fl = count-cons not x xs in
    let rest = kinds-all xs in
    let one : cond x 1 0 + cond (not x) 1 0 ≡ 1 = elim x as (λ b. cond b 1 0 + cond (not b) 1 0 ≡ 1) [ true ↦ refl | false ↦ refl ] in
    omega (arith, ex, fl, rest, one)

pub length-kinds : (xs : List HeldBuf) → length (kinds_of xs) ≡ length xs
length-kinds [] = refl
length-kinds (x ∷ xs) = let e = length-kinds xs in omega (arith, e)

pub all_three : {A B C D : Type 0} (f : A → B → C → D) (a a' : A) (b b' : B) (c c' : C) → a ≡ a' → b ≡ b' → c ≡ c' → f a b c ≡ f a' b' c'
all_three f a a' b b' c c' e g h = cc

pub not_lt : (m n : ℕ) → n ≤ m → ltb m n ≡ false
not_lt m n low = elim (ltb m n) as (λ b. ltb m n ≡ b → b ≡ false) [ true ↦ λ e. absurd (let high : m < n = ltb-true m n e in omega (arith, high, low)) | false ↦ λ e. refl ] refl

pub is_lt : (m n : ℕ) → m < n → ltb m n ≡ true
is_lt m n low = elim (ltb m n) as (λ b. ltb m n ≡ b → b ≡ true) [ true ↦ λ e. refl | false ↦ λ e. absurd (let high : n ≤ m = ltb-false m n e in omega (arith, high, low)) ] refl

-- the end does not wait where it has not come
pub no_end : (waits ended : Bool) → (waits ≡ true → ended ≡ true) → ended ≡ false → waits ≡ false
no_end true ended h e = absurd (true≢false (sym (h refl) ∙ e))
no_end false ended h e = refl

pub same_counts : (s : Counts) (a b : ℕ) (c d : ℕ) (h k : List Bool) → a ≡ b → c ≡ d → h ≡ k → ◌≡◌ {A = Counts} (record s { exclusive = a; floating = c; held = h }) (record s { exclusive = b; floating = d; held = k })
same_counts s a b c d h k e f g = cc

-- a free segment was taken, a floating one first
pub record IsTaken (size : ℕ) (x : Bool) (segment : List ℕ) (fl fl' ex ex' : Buffer (List ℕ)) : Type 0 where
  pub floating_places : fl'.capacity ≡ fl.capacity
  pub exclusive_places : ex'.capacity ≡ ex.capacity
  pub floating_less : length fl.items ≡ length fl'.items + cond (not x) 1 0
  pub exclusive_less : length ex.items ≡ length ex'.items + cond x 1 0
  pub floating_sizes : HaveLength size fl'.items
  pub exclusive_sizes : HaveLength size ex'.items
  pub segment_size : length segment ≡ size
  pub exclusive_is : length ex'.items ≡ cond (ltb 0 (length fl.items)) (length ex.items) (length ex.items - 1)
  pub floating_is : length fl'.items ≡ length fl.items - 1

pub free_taken : (size : ℕ) (x : Bool) (segment : List ℕ) (fl fl' ex ex' : Buffer (List ℕ)) → x ≡ eqb (length fl.items) 0 →
    MatchBool x (fl' ≡ fl) (fl ≡ buffer (segment ∷ fl'.items) fl'.capacity) → MatchBool x (ex ≡ buffer (segment ∷ ex'.items) ex'.capacity) (ex' ≡ ex) →
    HaveLength size fl.items → HaveLength size ex.items → IsTaken size x segment fl fl' ex ex'
free_taken size true segment fl fl' ex ex' is f e fs es =
    let none : length fl.items ≡ 0 = eqb-true (length fl.items) 0 (sym is) in
    let items : ex.items ≡ segment ∷ ex'.items = ap (λ (b : Buffer (List ℕ)). b.items) e in
    let same : fl'.items ≡ fl.items = ap (λ (b : Buffer (List ℕ)). b.items) f in
    let sizes : HaveLength size (segment ∷ ex'.items) = subst (HaveLength size) items es in
    let long : length ex.items ≡ length (segment ∷ ex'.items) = ap length items in
    let short : length fl'.items ≡ length fl.items = ap length same in
    record {
      floating_places = ap (λ (b : Buffer (List ℕ)). b.capacity) f;
      exclusive_places = sym (ap (λ (b : Buffer (List ℕ)). b.capacity) e);
      floating_less = omega (arith, short);
      exclusive_less = omega (arith, long);
      floating_sizes = subst (HaveLength size) (sym same) fs;
      exclusive_sizes = sizes.1;
      segment_size = sizes.0;
      exclusive_is = (let less : length ex'.items ≡ length ex.items - 1 = omega (arith, long) in less) ∙ sym (ap (λ n. cond (ltb 0 n) (length ex.items) (length ex.items - 1)) none);
      floating_is = omega (arith, short, none);
    }
free_taken size false segment fl fl' ex ex' is f e fs es =
    let items : fl.items ≡ segment ∷ fl'.items = ap (λ (b : Buffer (List ℕ)). b.items) f in
    let same : ex'.items ≡ ex.items = ap (λ (b : Buffer (List ℕ)). b.items) e in
    let sizes : HaveLength size (segment ∷ fl'.items) = subst (HaveLength size) items fs in
    let long : length fl.items ≡ length (segment ∷ fl'.items) = ap length items in
    let short : length ex'.items ≡ length ex.items = ap length same in
    record {
      floating_places = sym (ap (λ (b : Buffer (List ℕ)). b.capacity) f);
      exclusive_places = ap (λ (b : Buffer (List ℕ)). b.capacity) e;
      floating_less = omega (arith, long);
      exclusive_less = omega (arith, short);
      floating_sizes = sizes.1;
      exclusive_sizes = subst (HaveLength size) (sym same) es;
      segment_size = sizes.0;
      exclusive_is = short ∙ sym (ap (λ b. cond b (length ex.items) (length ex.items - 1)) (is_lt 0 (length fl.items) (omega (arith, long))));
      floating_is = omega (arith, long);
    }
