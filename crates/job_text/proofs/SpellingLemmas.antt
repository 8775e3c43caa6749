-- What words spell, and what is spelled.
use Rattle.std.proofs.Common.{◌≡◌, ℕ, ◌<◌, ◌≤◌, ◌^◌, Bool, true, false, cond, ◌&&◌, leb, List, [], ◌∷◌, ◌++◌, take, drop, refl, sym, ap, ◌∙◌, ◌⊎◌, inl, inr, subst, Option, Some, None, is_none, lit<}
use Rattle.std.specs.Prelude.{codes, bytes_eq, decimal, All}
use Rattle.std.specs.List.{list_all}
use Rattle.std.proofs.lemmas.List.{take-append-drop}
use Rattle.std.proofs.lemmas.List.Elements.{All-nil, All-cons, All-head, All-tail}
use Rattle.std.proofs.lemmas.Slice.Eq.{bytes_eq-Decides}
use Rattle.std.proofs.lemmas.Option.{none-some, same_Some}
use Rattle.std.proofs.lemmas.Bool.{and_parts, and_from, leb-true, le-leb, both_ways, cond-true, cond-false}
use Rattle.flow_defs.specs.Stages.{IsToken, IsNumber, IsArgument}
use Rattle.flow_defs.specs.declared.job.StageKind.{StageKind}
use Rattle.flow_defs.specs.declared.job.StageKind.TheVariants.{Words, Upper, Keep, Field}
use Rattle.flow_defs.specs.declared.job.AggKind.{AggKind}
use Rattle.flow_defs.specs.declared.job.AggKind.TheVariants.{Count, Sum, Max}
use Rattle.flow_defs.specs.declared.job.Exchange.{Exchange}
use Rattle.flow_defs.specs.declared.job.Exchange.TheVariants.{Hash, Rebalance, Forward}
use Rattle.job_text.specs.JobText.{kind_word, exchange_word, agg_word}
use Rattle.job_text.specs.JobFaults.{is_token, number_of, stage_kind_of, exchange_of, agg_of}
use Rattle.job_text.proofs.Numbers.{number_known, number_spelled, spelled_decimal, decimal_spelled}

pub same_bytes : (a b : List ℕ) → bytes_eq a b ≡ true → a ≡ b
same_bytes a b is = (bytes_eq-Decides a b).0 is

pub bytes_same : (a b : List ℕ) → a ≡ b → bytes_eq a b ≡ true
bytes_same a b is = (bytes_eq-Decides a b).1 is

-- ---- tokens

all_visible : (bytes : List ℕ) → list_all (λ b. leb 33 b && leb b 126) bytes ≡ true → All (λ b. (33 ≤ b) × (b ≤ 126)) bytes
all_visible [] is = All-nil (λ b. (33 ≤ b) × (b ≤ 126))
all_visible (b ∷ bytes) is =
    let parts = and_parts _ _ is in
    let here = and_parts _ _ parts.0 in
    All-cons (λ b. (33 ≤ b) × (b ≤ 126)) b bytes (leb-true _ _ here.0, leb-true _ _ here.1) (all_visible bytes parts.1)

visible_all : (bytes : List ℕ) → All (λ b. (33 ≤ b) × (b ≤ 126)) bytes → list_all (λ b. leb 33 b && leb b 126) bytes ≡ true
visible_all [] is = refl
visible_all (b ∷ bytes) is =
    let here = All-head (λ b. (33 ≤ b) × (b ≤ 126)) b bytes is in
    and_from _ _ (and_from _ _ (le-leb _ _ here.0) (le-leb _ _ here.1)) (visible_all bytes (All-tail (λ b. (33 ≤ b) × (b ≤ 126)) b bytes is))

pub token_known : (word : List ℕ) → is_token word ≡ true → IsToken word
token_known word is =
    let parts = and_parts _ _ is in
    let lengths = and_parts _ _ parts.0 in
    record { not_empty = leb-true _ _ lengths.0; not_long = leb-true _ _ lengths.1; visible = all_visible word parts.1 }

pub token_spelled : (word : List ℕ) → IsToken word → is_token word ≡ true
token_spelled word is = and_from _ _ (and_from _ _ (le-leb _ _ is.not_empty) (le-leb _ _ is.not_long)) (visible_all word is.visible)

-- ---- numbers

pub number_decimal : (most n : ℕ) (word : List ℕ) → most < 2 ^ 64 → number_of most word ≡ Some n → (word ≡ decimal n) × (1 ≤ n) × (n ≤ most)
number_decimal most n word small is = let known = number_known most n word is in (spelled_decimal most n word small known, known.low, known.high)

pub decimal_number : (most n : ℕ) → most < 2 ^ 64 → 1 ≤ n → n ≤ most → number_of most (decimal n) ≡ Some n
decimal_number most n small low high = number_spelled most n (decimal n) (decimal_spelled most n small low high)

-- ---- kinds and exchanges

cond_cases : {A : Type 0} (b : Bool) (x y z : A) → cond b x y ≡ z → ((b ≡ true) × (x ≡ z)) ⊎ ((b ≡ false) × (y ≡ z))
cond_cases true x y z is = inl (refl, is)
cond_cases false x y z is = inr (refl, is)

-- the first of three that the word is
agg_at : (word : List ℕ) (kind other : AggKind) → bytes_eq word (agg_word other) ≡ true → Some other ≡ Some kind → word ≡ agg_word kind
agg_at word kind other is same = same_bytes word (agg_word other) is ∙ ap agg_word (same_Some other kind same)

max_known : (word : List ℕ) (kind : AggKind) → cond (bytes_eq word (codes "max")) (Some Max) None ≡ Some kind → word ≡ agg_word kind
max_known word kind is = elim (cond_cases (bytes_eq word (codes "max")) (Some Max) None (Some kind) is) [ inl hit ↦ agg_at word kind Max hit.0 hit.1 | inr miss ↦ absurd (none-some kind miss.1) ]

sum_known : (word : List ℕ) (kind : AggKind) → cond (bytes_eq word (codes "sum")) (Some Sum) (cond (bytes_eq word (codes "max")) (Some Max) None) ≡ Some kind → word ≡ agg_word kind
sum_known word kind is = elim (cond_cases (bytes_eq word (codes "sum")) (Some Sum) (cond (bytes_eq word (codes "max")) (Some Max) None) (Some kind) is) [ inl hit ↦ agg_at word kind Sum hit.0 hit.1 | inr miss ↦ max_known word kind miss.1 ]

pub agg_known : (word : List ℕ) (kind : AggKind) → agg_of word ≡ Some kind → word ≡ agg_word kind
agg_known word kind is = elim (cond_cases (bytes_eq word (codes "count")) (Some Count) (cond (bytes_eq word (codes "sum")) (Some Sum) (cond (bytes_eq word (codes "max")) (Some Max) None)) (Some kind) is) [ inl hit ↦ agg_at word kind Count hit.0 hit.1 | inr miss ↦ sum_known word kind miss.1 ]

pub agg_spelled : (kind : AggKind) → agg_of (agg_word kind) ≡ Some kind
agg_spelled Count = refl
agg_spelled Sum = refl
agg_spelled Max = refl

-- the first of three that the word is
exchange_at : (word : List ℕ) (exchange other : Exchange) → bytes_eq word (exchange_word other) ≡ true → Some other ≡ Some exchange → word ≡ exchange_word exchange
exchange_at word exchange other is same = same_bytes word (exchange_word other) is ∙ ap exchange_word (same_Some other exchange same)

forward_known : (word : List ℕ) (exchange : Exchange) → cond (bytes_eq word (codes "forward")) (Some Forward) None ≡ Some exchange → word ≡ exchange_word exchange
forward_known word exchange is = elim (cond_cases (bytes_eq word (codes "forward")) (Some Forward) None (Some exchange) is) [ inl hit ↦ exchange_at word exchange Forward hit.0 hit.1 | inr miss ↦ absurd (none-some exchange miss.1) ]

rebalance_known : (word : List ℕ) (exchange : Exchange) → cond (bytes_eq word (codes "rebalance")) (Some Rebalance) (cond (bytes_eq word (codes "forward")) (Some Forward) None) ≡ Some exchange → word ≡ exchange_word exchange
rebalance_known word exchange is = elim (cond_cases (bytes_eq word (codes "rebalance")) (Some Rebalance) (cond (bytes_eq word (codes "forward")) (Some Forward) None) (Some exchange) is) [ inl hit ↦ exchange_at word exchange Rebalance hit.0 hit.1 | inr miss ↦ forward_known word exchange miss.1 ]

pub exchange_known : (word : List ℕ) (exchange : Exchange) → exchange_of word ≡ Some exchange → word ≡ exchange_word exchange
exchange_known word exchange is = elim (cond_cases (bytes_eq word (codes "hash")) (Some Hash) (cond (bytes_eq word (codes "rebalance")) (Some Rebalance) (cond (bytes_eq word (codes "forward")) (Some Forward) None)) (Some exchange) is) [ inl hit ↦ exchange_at word exchange Hash hit.0 hit.1 | inr miss ↦ rebalance_known word exchange miss.1 ]

pub exchange_spelled : (exchange : Exchange) → exchange_of (exchange_word exchange) ≡ Some exchange
exchange_spelled Hash = refl
exchange_spelled Rebalance = refl
exchange_spelled Forward = refl

abbrev Kind : Type 0
Kind = StageKind × List ℕ

abbrev some_kind : StageKind → List ℕ → Option Kind
some_kind kind arg = let k : Kind = (kind, arg) in Some k

behind_known : (kind other : StageKind) (word arg rest : List ℕ) → word ≡ kind_word other rest → IsArgument other rest → some_kind other rest ≡ some_kind kind arg → (word ≡ kind_word kind arg) × IsArgument kind arg
behind_known kind other word arg rest is fits same =
    let parts = same_Some {A = Kind} (other, rest) (kind, arg) same in
    subst (λ (k : Kind). (word ≡ kind_word k.0 k.1) × IsArgument k.0 k.1) parts (is, fits)

number_cases : (o : Option ℕ) → (o ≡ None) ⊎ ((n : ℕ) × (o ≡ Some n))
number_cases None = inl refl
number_cases (Some n) = inr (n, refl)

front_back : (n : ℕ) (word front : List ℕ) → bytes_eq (take n word) front ≡ true → word ≡ front ++ drop n word
front_back n word front is = sym (take-append-drop n word) ∙ ap (λ w. w ++ drop n word) (same_bytes (take n word) front is)

number_argument : (word : List ℕ) → is_none (number_of 9999 word) ≡ false → IsNumber 1 9999 word
number_argument word is = elim (number_cases (number_of 9999 word)) [
  | inl none ↦ absurd (both_ways _ is (ap is_none none))
  | inr some ↦ let known = number_decimal 9999 some.0 word (lit< tt) some.1 in (some.0, known.0, known.1, known.2)
]

abbrev field_of : List ℕ → Option Kind
field_of word = cond {A = Option Kind} (bytes_eq (take 6 word) (codes "field:")) (cond {A = Option Kind} (is_none (number_of 9999 (drop 6 word))) None (some_kind Field (drop 6 word))) None

abbrev keep_of : List ℕ → Option Kind
keep_of word = cond {A = Option Kind} (bytes_eq (take 5 word) (codes "keep:")) (cond {A = Option Kind} (is_token (drop 5 word)) (some_kind Keep (drop 5 word)) None) (field_of word)

field_known : (word arg : List ℕ) (kind : StageKind) → cond {A = Option Kind} (bytes_eq (take 6 word) (codes "field:")) (cond {A = Option Kind} (is_none (number_of 9999 (drop 6 word))) None (some_kind Field (drop 6 word))) None ≡ some_kind kind arg → (word ≡ kind_word kind arg) × IsArgument kind arg
field_known word arg kind is = elim (cond_cases {A = Option Kind} (bytes_eq (take 6 word) (codes "field:")) (cond {A = Option Kind} (is_none (number_of 9999 (drop 6 word))) None (some_kind Field (drop 6 word))) None (some_kind kind arg) is) [
  | inl hit ↦ elim (cond_cases {A = Option Kind} (is_none (number_of 9999 (drop 6 word))) None (some_kind Field (drop 6 word)) (some_kind kind arg) hit.1) [
    | inl none ↦ absurd (none-some {A = Kind} (kind, arg) none.1)
    | inr some ↦ behind_known kind Field word arg (drop 6 word) (front_back 6 word (codes "field:") hit.0) (number_argument (drop 6 word) some.0) some.1
  ]
  | inr miss ↦ absurd (none-some {A = Kind} (kind, arg) miss.1)
]

keep_known : (word arg : List ℕ) (kind : StageKind) → keep_of word ≡ some_kind kind arg → (word ≡ kind_word kind arg) × IsArgument kind arg
keep_known word arg kind is = elim (cond_cases {A = Option Kind} (bytes_eq (take 5 word) (codes "keep:")) (cond {A = Option Kind} (is_token (drop 5 word)) (some_kind Keep (drop 5 word)) None) (field_of word) (some_kind kind arg) is) [
  | inl hit ↦ elim (cond_cases {A = Option Kind} (is_token (drop 5 word)) (some_kind Keep (drop 5 word)) None (some_kind kind arg) hit.1) [
    | inl some ↦ behind_known kind Keep word arg (drop 5 word) (front_back 5 word (codes "keep:") hit.0) (token_known (drop 5 word) some.0) some.1
    | inr none ↦ absurd (none-some {A = Kind} (kind, arg) none.1)
  ]
  | inr miss ↦ field_known word arg kind miss.1
]

upper_known : (word arg : List ℕ) (kind : StageKind) → cond {A = Option Kind} (bytes_eq word (codes "upper")) (some_kind Upper []) (keep_of word) ≡ some_kind kind arg → (word ≡ kind_word kind arg) × IsArgument kind arg
upper_known word arg kind is = elim (cond_cases {A = Option Kind} (bytes_eq word (codes "upper")) (some_kind Upper []) (keep_of word) (some_kind kind arg) is) [
  | inl hit ↦ behind_known kind Upper word arg [] (same_bytes word (codes "upper") hit.0) refl hit.1
  | inr miss ↦ keep_known word arg kind miss.1
]

pub kind_known : (word arg : List ℕ) (kind : StageKind) → stage_kind_of word ≡ some_kind kind arg → (word ≡ kind_word kind arg) × IsArgument kind arg
kind_known word arg kind is = elim (cond_cases {A = Option Kind} (bytes_eq word (codes "words")) (some_kind Words []) (cond {A = Option Kind} (bytes_eq word (codes "upper")) (some_kind Upper []) (keep_of word)) (some_kind kind arg) is) [
  | inl hit ↦ behind_known kind Words word arg [] (same_bytes word (codes "words") hit.0) refl hit.1
  | inr miss ↦ upper_known word arg kind miss.1
]

pub kind_spelled : (kind : StageKind) (arg : List ℕ) → IsArgument kind arg → stage_kind_of (kind_word kind arg) ≡ some_kind kind arg
kind_spelled Words arg is = ap (λ a. some_kind Words a) (sym is)
kind_spelled Upper arg is = ap (λ a. some_kind Upper a) (sym is)
kind_spelled Keep arg is = cond-true (is_token arg) (some_kind Keep arg) None (token_spelled arg is)
kind_spelled Field arg is =
    let some : number_of 9999 arg ≡ Some is.0 = ap (number_of 9999) is.1 ∙ decimal_number 9999 is.0 (lit< tt) is.2 is.3 in
    cond-false (is_none (number_of 9999 arg)) None (some_kind Field arg) (ap is_none some)
