-- What lines say, and how it is spelled.
use Rattle.std.proofs.Common.{◌≡◌, ℕ, ◌<◌, ◌≤◌, ◌^◌, ◌-◌, Bool, true, false, cond, ◌&&◌, leb, List, [], ◌∷◌, ◌++◌, refl, sym, ap, ◌∙◌, ◌⊎◌, inl, inr, subst, Option, Some, None, arith}
use Rattle.std.specs.Prelude.{codes, bytes_eq, decimal, All, option_map, option_and_then}
use Rattle.std.specs.List.{list_all}
use Rattle.std.proofs.lemmas.List.Elements.{All-nil, All-cons, All-head, All-tail}
use Rattle.std.proofs.lemmas.Option.{none-some, same_Some}
use Rattle.std.proofs.lemmas.Bool.{and_parts, and_from, leb-true, le-leb, cond-true}
use Rattle.script_text.specs.declared.event.TheConstants.{CHANNELS_MAX, SIZE_MIN, SIZE_MAX, TOTAL_MAX, FILL_MAX}
use Rattle.flow_defs.specs.declared.task.BarrierKind.{BarrierKind}
use Rattle.flow_defs.specs.declared.task.BarrierKind.TheVariants.{Inline, Front}
use Rattle.script_text.specs.declared.event.Event.{Event}
use Rattle.script_text.specs.declared.event.Event.TheVariants.{Emit, Fill, Barrier, Finish, Send, Announce, Deliver, Credit, Resume, Control, Poll, Hold, Save, Saved, Pool}
use Rattle.script_text.specs.declared.lines.Opening.{Opening}
use Rattle.script_text.specs.Scripts.{IsText, IsChannel, IsEvent, IsOpening, open_line, kind_word, event_line, contents}
use Rattle.script_text.specs.Reading.{cut, number_of, is_text, bare_event, channel_event, emit_event, kind_of, barrier_event, long_event, event_behind, event_rest, event_of, opening_by, opening_behind, opening_rest, opening_of}
use Rattle.script_text.proofs.Numbers.{same_bytes, number_known, number_spelled, number_cases}
use Rattle.script_text.proofs.Cuts.{Cut, joined, joined_cut, has_no_space, cut_behind, cut_whole, decimal_no_space}

-- ---- texts

all_printed : (bytes : List ℕ) → list_all (λ b. leb 32 b && leb b 126) bytes ≡ true → All (λ b. (32 ≤ b) × (b ≤ 126)) bytes
all_printed [] is = All-nil (λ b. (32 ≤ b) × (b ≤ 126))
all_printed (b ∷ bytes) is =
    let parts = and_parts _ _ is in
    let here = and_parts _ _ parts.0 in
    All-cons (λ b. (32 ≤ b) × (b ≤ 126)) b bytes (leb-true _ _ here.0, leb-true _ _ here.1) (all_printed bytes parts.1)

printed_all : (bytes : List ℕ) → All (λ b. (32 ≤ b) × (b ≤ 126)) bytes → list_all (λ b. leb 32 b && leb b 126) bytes ≡ true
printed_all [] is = refl
printed_all (b ∷ bytes) is =
    let here = All-head (λ b. (32 ≤ b) × (b ≤ 126)) b bytes is in
    and_from _ _ (and_from _ _ (le-leb _ _ here.0) (le-leb _ _ here.1)) (printed_all bytes (All-tail (λ b. (32 ≤ b) × (b ≤ 126)) b bytes is))

text_known : (bytes : List ℕ) → is_text bytes ≡ true → IsText bytes
text_known bytes is = let parts = and_parts _ _ is in record { not_long = leb-true _ _ parts.0; printed = all_printed bytes parts.1 }

text_spelled : (bytes : List ℕ) → IsText bytes → is_text bytes ≡ true
text_spelled bytes is = and_from _ _ (le-leb _ _ is.not_long) (printed_all bytes is.printed)

-- ---- one of several words

cond_cases : {A : Type 0} (b : Bool) (x y z : A) → cond b x y ≡ z → ((b ≡ true) × (x ≡ z)) ⊎ ((b ≡ false) × (y ≡ z))
cond_cases true x y z is = inl (refl, is)
cond_cases false x y z is = inr (refl, is)

-- the word is this one, or what is known comes of the words behind
module _ (P : Event → Type 0) (word : List ℕ) (e : Event) where
  either : (text : List ℕ) (this other : Option Event) → (word ≡ text → this ≡ Some e → P e) → (other ≡ Some e → P e) → cond (bytes_eq word text) this other ≡ Some e → P e
  either text this other hit miss is = elim (cond_cases (bytes_eq word text) this other (Some e) is) [ inl found ↦ hit (same_bytes word text found.0) found.1 | inr not_found ↦ miss not_found.1 ]

  this_one : (text : List ℕ) (x : Event) → P x → Some x ≡ Some e → P e
  this_one text x fine is = subst P (same_Some x e is) fine

  none_left : None ≡ Some e → P e
  none_left is = absurd (none-some e is)

-- ---- lines of one word

bare_known : (channels : ℕ) (word : List ℕ) (e : Event) → bare_event word ≡ Some e → IsEvent channels e × (word ≡ event_line e)
bare_known channels word e =
    let P : Event → Type 0 = λ x. IsEvent channels x × (word ≡ event_line x) in
    let one : (text : List ℕ) (x : Event) → P x → Some x ≡ Some e → P e = this_one P word e in
    either P word e (codes "send") _ _ (λ is. one (codes "send") Send (tt, is))
    (either P word e (codes "announce") _ _ (λ is. one (codes "announce") Announce (tt, is))
    (either P word e (codes "deliver") _ _ (λ is. one (codes "deliver") Deliver (tt, is))
    (either P word e (codes "control") _ _ (λ is. one (codes "control") Control (tt, is))
    (either P word e (codes "pool") _ _ (λ is. one (codes "pool") Pool (tt, is)) (none_left P word e)))))

-- ---- lines of a word and a channel

module _ (channels : ℕ) (word : List ℕ) (c : ℕ) (e : Event) (channel : IsChannel channels c) where
  channel_known : channel_event word c ≡ Some e → IsEvent channels e × (word ++ 32 ∷ decimal c ≡ event_line e)
  channel_known =
      let P : Event → Type 0 = λ x. IsEvent channels x × (word ++ 32 ∷ decimal c ≡ event_line x) in
      let on : (text : List ℕ) → word ≡ text → word ++ 32 ∷ decimal c ≡ text ++ 32 ∷ decimal c = λ text is. ap (λ w. w ++ 32 ∷ decimal c) is in
      either P word e (codes "finish") _ _ (λ is. this_one P word e (codes "finish") (Finish c) (channel, on (codes "finish") is))
      (either P word e (codes "credit") _ _ (λ is. this_one P word e (codes "credit") (Credit c) (channel, on (codes "credit") is))
      (either P word e (codes "resume") _ _ (λ is. this_one P word e (codes "resume") (Resume c) (channel, on (codes "resume") is))
      (either P word e (codes "poll") _ _ (λ is. this_one P word e (codes "poll") (Poll c) (channel, on (codes "poll") is))
      (either P word e (codes "hold") _ _ (λ is. this_one P word e (codes "hold") (Hold c) (channel, on (codes "hold") is)) (none_left P word e)))))

-- ---- longer lines

kind_known : (word : List ℕ) (kind : BarrierKind) → kind_of word ≡ Some kind → word ≡ kind_word kind
kind_known word kind is = elim (cond_cases (bytes_eq word (codes "inline")) (Some Inline) (cond (bytes_eq word (codes "front")) (Some Front) None) (Some kind) is) [
  | inl found ↦ same_bytes word (codes "inline") found.0 ∙ ap kind_word (same_Some _ _ found.1)
  | inr other ↦ elim (cond_cases (bytes_eq word (codes "front")) (Some Front) None (Some kind) other.1) [
    | inl found ↦ same_bytes word (codes "front") found.0 ∙ ap kind_word (same_Some _ _ found.1)
    | inr none ↦ absurd (none-some kind none.1)
  ]
]

kind_cases : (o : Option BarrierKind) → (o ≡ None) ⊎ ((kind : BarrierKind) × (o ≡ Some kind))
kind_cases None = inl refl
kind_cases (Some kind) = inr (kind, refl)

kind_spelled : (kind : BarrierKind) → kind_of (kind_word kind) ≡ Some kind
kind_spelled Inline = refl
kind_spelled Front = refl

module _ (channels : ℕ) (word : List ℕ) (c : ℕ) (rest : List ℕ) (e : Event) (channel : IsChannel channels c) where
  abbrev Known : Event → Type 0
  Known x = IsEvent channels x × (word ++ 32 ∷ (decimal c ++ 32 ∷ rest) ≡ event_line x)

  on : (text more : List ℕ) → word ≡ text → rest ≡ more → word ++ 32 ∷ (decimal c ++ 32 ∷ rest) ≡ text ++ 32 ∷ (decimal c ++ 32 ∷ more)
  on text more is rest_is = ap (λ w. w ++ 32 ∷ (decimal c ++ 32 ∷ rest)) is ∙ ap (λ r. text ++ 32 ∷ (decimal c ++ 32 ∷ r)) rest_is

  emit_known : word ≡ codes "emit" → emit_event c rest ≡ Some e → Known e
  emit_known is found = elim (cond_cases (is_text rest) (Some (Emit c (record { items = rest; room = 0 }))) None (Some e) found) [
    | inl text ↦ this_one Known word e (codes "emit") (Emit c (record { items = rest; room = 0 })) ((channel, text_known rest text.0), on (codes "emit") rest is refl) text.1
    | inr other ↦ none_left Known word e other.1
  ]

  fill_known : word ≡ codes "fill" → option_map (λ n. Fill c n) (number_of 0 FILL_MAX rest) ≡ Some e → Known e
  fill_known is found = elim (number_cases (number_of 0 FILL_MAX rest)) [
    | inl none ↦ none_left Known word e (ap (option_map (λ n. Fill c n)) (sym none) ∙ found)
    | inr some ↦
        let known = number_known 0 FILL_MAX some.0 rest some.1 in
        this_one Known word e (codes "fill") (Fill c some.0) ((channel, known.2), on (codes "fill") (decimal some.0) is known.0) (ap (option_map (λ n. Fill c n)) (sym some.1) ∙ found)
  ]

  barrier_known : word ≡ codes "barrier" → (number : List ℕ) (kind : Option (List ℕ)) → rest ≡ joined (number, kind) → barrier_event c number kind ≡ Some e → Known e
  barrier_known is number None rest_is found = none_left Known word e found
  barrier_known is number (Some kind) rest_is found = elim (kind_cases (kind_of kind)) [
    | inl none ↦ none_left Known word e (ap (option_and_then (λ b. option_map (λ k. Barrier c k b) (number_of 1 (2 ^ 64 - 1) number))) (sym none) ∙ found)
    | inr some ↦
        let here : option_map (λ k. Barrier c k some.0) (number_of 1 (2 ^ 64 - 1) number) ≡ Some e = ap (option_and_then (λ b. option_map (λ k. Barrier c k b) (number_of 1 (2 ^ 64 - 1) number))) (sym some.1) ∙ found in
        elim (number_cases (number_of 1 (2 ^ 64 - 1) number)) [
          | inl none ↦ none_left Known word e (ap (option_map (λ n. Barrier c n some.0)) (sym none) ∙ here)
          | inr k ↦
              let known = number_known 1 (2 ^ 64 - 1) k.0 number k.1 in
              let high = known.2 in
              this_one Known word e (codes "barrier") (Barrier c k.0 some.0) ((channel, known.1, omega (arith, high)), on (codes "barrier") (decimal k.0 ++ 32 ∷ kind_word some.0) is (rest_is ∙ ap (λ w. w ++ 32 ∷ kind) known.0 ∙ ap (λ w. decimal k.0 ++ 32 ∷ w) (kind_known kind some.0 some.1)))
              (ap (option_map (λ n. Barrier c n some.0)) (sym k.1) ∙ here)
        ]
  ]

  abbrev Spells : List ℕ → (ℕ → Event) → ℕ → Type 0
  Spells text event k = IsEvent channels (event k) × (text ++ 32 ∷ (decimal c ++ 32 ∷ decimal k) ≡ event_line (event k))

  checkpoint_known : (text : List ℕ) (event : ℕ → Event) → ((k : ℕ) → 1 ≤ k → k < 2 ^ 64 → Spells text event k) → word ≡ text → option_map event (number_of 1 (2 ^ 64 - 1) rest) ≡ Some e → Known e
  checkpoint_known text event spells is found = elim (number_cases (number_of 1 (2 ^ 64 - 1) rest)) [
    | inl none ↦ none_left Known word e (ap (option_map event) (sym none) ∙ found)
    | inr some ↦
        let known = number_known 1 (2 ^ 64 - 1) some.0 rest some.1 in
        let high = known.2 in
        let spelled = spells some.0 known.1 (omega (arith, high)) in
        this_one Known word e text (event some.0) (spelled.0, on text (decimal some.0) is known.0 ∙ spelled.1) (ap (option_map event) (sym some.1) ∙ found)
  ]

  long_known : long_event word c rest ≡ Some e → Known e
  long_known =
      either Known word e (codes "emit") _ _ emit_known
      (either Known word e (codes "fill") _ _ fill_known
      (either Known word e (codes "barrier") _ _ (λ is. barrier_known is (cut rest).0 (cut rest).1 (sym (joined_cut rest)))
      (either Known word e (codes "save") _ _ (checkpoint_known (codes "save") (λ k. Save c k) (λ k low high. ((channel, low, high), refl)))
      (either Known word e (codes "saved") _ _ (checkpoint_known (codes "saved") (λ k. Saved c k) (λ k low high. ((channel, low, high), refl))) (none_left Known word e)))))

-- ---- any line

behind_known : (channels : ℕ) (word digits : List ℕ) (number : Option ℕ) (rest : Option (List ℕ)) (e : Event) → ((c : ℕ) → number ≡ Some c → (digits ≡ decimal c) × IsChannel channels c)
    → event_behind word number rest ≡ Some e → IsEvent channels e × (word ++ 32 ∷ joined (digits, rest) ≡ event_line e)
behind_known channels word digits None rest e known is = absurd (none-some e is)
behind_known channels word digits (Some c) None e known is =
    let spelled = known c refl in
    let found = channel_known channels word c e spelled.1 is in
    (found.0, ap (λ w. word ++ 32 ∷ w) spelled.0 ∙ found.1)
behind_known channels word digits (Some c) (Some rest) e known is =
    let spelled = known c refl in
    let found = long_known channels word c rest e spelled.1 is in
    (found.0, ap (λ w. word ++ 32 ∷ (w ++ 32 ∷ rest)) spelled.0 ∙ found.1)

rest_known : (channels : ℕ) (word : List ℕ) (rest : Option (List ℕ)) (e : Event) → event_rest channels word rest ≡ Some e → IsEvent channels e × (joined (word, rest) ≡ event_line e)
rest_known channels word None e is = bare_known channels word e is
rest_known channels word (Some rest) e is =
    let found = behind_known channels word (cut rest).0 (number_of 1 channels (cut rest).0) (cut rest).1 e (λ c some. let known = number_known 1 channels c (cut rest).0 some in (known.0, (known.1, known.2))) is in
    (found.0, ap (λ r. word ++ 32 ∷ r) (sym (joined_cut rest)) ∙ found.1)

pub event_known : (channels : ℕ) (line : List ℕ) (e : Event) → event_of channels line ≡ Some e → IsEvent channels e × (line ≡ event_line e)
event_known channels line e is = let found = rest_known channels (cut line).0 (cut line).1 e is in (found.0, sym (joined_cut line) ∙ found.1)

-- ---- a line that is spelled is read

module _ (channels : ℕ) (few : channels ≤ CHANNELS_MAX) where
  module _ (word : List ℕ) (one_word : has_no_space word ≡ true) (c : ℕ) (channel : IsChannel channels c) where
    small : c < 2 ^ 64
    small = let high = channel.1 in omega (arith, high, few)

    behind_word : (rest : List ℕ) → event_of channels (word ++ 32 ∷ rest) ≡ event_behind word (number_of 1 channels (cut rest).0) (cut rest).1
    behind_word rest = ap (λ (p : Cut). event_rest channels p.0 p.1) (cut_behind word rest one_word)

    number_is : number_of 1 channels (decimal c) ≡ Some c
    number_is = number_spelled 1 channels c small channel.0 channel.1

    with_channel : event_of channels (word ++ 32 ∷ decimal c) ≡ channel_event word c
    with_channel = behind_word (decimal c) ∙ ap (λ (p : Cut). event_behind word (number_of 1 channels p.0) p.1) (cut_whole (decimal c) (decimal_no_space c small)) ∙ ap (λ n. event_behind word n None) number_is

    with_rest : (rest : List ℕ) → event_of channels (word ++ 32 ∷ (decimal c ++ 32 ∷ rest)) ≡ long_event word c rest
    with_rest rest =
        behind_word (decimal c ++ 32 ∷ rest) ∙ ap (λ (p : Cut). event_behind word (number_of 1 channels p.0) p.1) (cut_behind (decimal c) rest (decimal_no_space c small))
        ∙ ap (λ n. event_behind word n (Some rest)) number_is

  pub event_spelled : (e : Event) → IsEvent channels e → event_of channels (event_line e) ≡ Some (contents e)
  event_spelled (Emit c text) is = with_rest (codes "emit") refl c is.0 text.items ∙ cond-true (is_text text.items) (Some (Emit c (record { items = text.items; room = 0 }))) None (text_spelled text.items is.1)
  event_spelled (Fill c n) is = with_rest (codes "fill") refl c is.0 (decimal n) ∙ ap (option_map (λ n. Fill c n)) (number_spelled 0 FILL_MAX n (let high = is.1 in omega (arith, high)) (omega arith) is.1)
  event_spelled (Barrier c k kind) is =
      let fits = is.2 in
      with_rest (codes "barrier") refl c is.0 (decimal k ++ 32 ∷ kind_word kind)
      ∙ ap (λ (p : Cut). barrier_event c p.0 p.1) (cut_behind (decimal k) (kind_word kind) (decimal_no_space k fits))
      ∙ ap (option_and_then (λ b. option_map (λ n. Barrier c n b) (number_of 1 (2 ^ 64 - 1) (decimal k)))) (kind_spelled kind)
      ∙ ap (option_map (λ n. Barrier c n kind)) (number_spelled 1 (2 ^ 64 - 1) k fits is.1 (omega (arith, fits)))
  event_spelled (Finish c) is = with_channel (codes "finish") refl c is
  event_spelled Send is = refl
  event_spelled Announce is = refl
  event_spelled Deliver is = refl
  event_spelled (Credit c) is = with_channel (codes "credit") refl c is
  event_spelled (Resume c) is = with_channel (codes "resume") refl c is
  event_spelled Control is = refl
  event_spelled (Poll c) is = with_channel (codes "poll") refl c is
  event_spelled (Hold c) is = with_channel (codes "hold") refl c is
  event_spelled (Save c k) is = let fits = is.2 in with_rest (codes "save") refl c is.0 (decimal k) ∙ ap (option_map (λ n. Save c n)) (number_spelled 1 (2 ^ 64 - 1) k fits is.1 (omega (arith, fits)))
  event_spelled (Saved c k) is = let fits = is.2 in with_rest (codes "saved") refl c is.0 (decimal k) ∙ ap (option_map (λ n. Saved c n)) (number_spelled 1 (2 ^ 64 - 1) k fits is.1 (omega (arith, fits)))
  event_spelled Pool is = refl

-- ---- the first line

abbrev opening : ℕ → ℕ → ℕ → Opening
opening channels size total = record { channels = channels; size = size; total = total }

abbrev opening_with : Option ℕ → Option ℕ → Option ℕ → Option Opening
opening_with channels size total = option_and_then (λ m. option_and_then (λ b. option_map (λ t. opening m b t) total) size) channels

with_all : (channels size total : Option ℕ) (o : Opening) → opening_with channels size total ≡ Some o → (channels ≡ Some o.channels) × (size ≡ Some o.size) × (total ≡ Some o.total)
with_all None size total o is = absurd (none-some o is)
with_all (Some m) None total o is = absurd (none-some o is)
with_all (Some m) (Some b) None o is = absurd (none-some o is)
with_all (Some m) (Some b) (Some t) o is =
    let same = same_Some (opening m b t) o is in
    (ap (λ (p : Opening). Some p.channels) same, ap (λ (p : Opening). Some p.size) same, ap (λ (p : Opening). Some p.total) same)

abbrev Opens : Opening → List ℕ → Type 0
Opens o line = IsOpening o.channels o.size o.total × (line ≡ open_line o.channels o.size o.total)

by_known : (word channels size : List ℕ) (total : Option (List ℕ)) (o : Opening) → opening_by word channels size total ≡ Some o → Opens o (word ++ 32 ∷ (channels ++ 32 ∷ joined (size, total)))
by_known word channels size None o is = absurd (none-some o is)
by_known word channels size (Some total) o is = elim (cond_cases (bytes_eq word (codes "open")) (opening_with (number_of 1 CHANNELS_MAX channels) (number_of SIZE_MIN SIZE_MAX size) (number_of 1 TOTAL_MAX total)) None (Some o) is) [
  | inl found ↦
      let numbers = with_all _ _ _ o found.1 in
      let m = number_known 1 CHANNELS_MAX o.channels channels numbers.0 in
      let b = number_known SIZE_MIN SIZE_MAX o.size size numbers.1 in
      let t = number_known 1 TOTAL_MAX o.total total numbers.2 in (
        record { some_channels = m.1; few_channels = m.2; low = b.1; high = b.2; some_segments = t.1; few_segments = t.2 },
        ap (λ w. w ++ 32 ∷ (channels ++ 32 ∷ (size ++ 32 ∷ total))) (same_bytes word (codes "open") found.0) ∙ ap (λ w. codes "open" ++ 32 ∷ (w ++ 32 ∷ (size ++ 32 ∷ total))) m.0
            ∙ ap (λ w. codes "open" ++ 32 ∷ (decimal o.channels ++ 32 ∷ (w ++ 32 ∷ total))) b.0 ∙ ap (λ w. codes "open" ++ 32 ∷ (decimal o.channels ++ 32 ∷ (decimal o.size ++ 32 ∷ w))) t.0,
      )
  | inr other ↦ absurd (none-some o other.1)
]

opening_behind_known : (word channels : List ℕ) (rest : Option (List ℕ)) (o : Opening) → opening_behind word channels rest ≡ Some o → Opens o (word ++ 32 ∷ joined (channels, rest))
opening_behind_known word channels None o is = absurd (none-some o is)
opening_behind_known word channels (Some rest) o is =
    let found = by_known word channels (cut rest).0 (cut rest).1 o is in
    (found.0, ap (λ r. word ++ 32 ∷ (channels ++ 32 ∷ r)) (sym (joined_cut rest)) ∙ found.1)

opening_rest_known : (word : List ℕ) (rest : Option (List ℕ)) (o : Opening) → opening_rest word rest ≡ Some o → Opens o (joined (word, rest))
opening_rest_known word None o is = absurd (none-some o is)
opening_rest_known word (Some rest) o is =
    let found = opening_behind_known word (cut rest).0 (cut rest).1 o is in
    (found.0, ap (λ r. word ++ 32 ∷ r) (sym (joined_cut rest)) ∙ found.1)

pub opening_known : (line : List ℕ) (o : Opening) → opening_of line ≡ Some o → IsOpening o.channels o.size o.total × (line ≡ open_line o.channels o.size o.total)
opening_known line o is = let found = opening_rest_known (cut line).0 (cut line).1 o is in (found.0, sym (joined_cut line) ∙ found.1)

module _ (channels size total : ℕ) (is : IsOpening channels size total) where
  m_fits : channels < 2 ^ 64
  m_fits = let high = is.few_channels in omega (arith, high)

  b_fits : size < 2 ^ 64
  b_fits = let high = is.high in omega (arith, high)

  t_fits : total < 2 ^ 64
  t_fits = let high = is.few_segments in omega (arith, high)

  pub opening_spelled : opening_of (open_line channels size total) ≡ Some (opening channels size total)
  opening_spelled =
      ap (λ (p : Cut). opening_behind (codes "open") p.0 p.1) (cut_behind (decimal channels) (decimal size ++ 32 ∷ decimal total) (decimal_no_space channels m_fits))
      ∙ ap (λ (p : Cut). opening_by (codes "open") (decimal channels) p.0 p.1) (cut_behind (decimal size) (decimal total) (decimal_no_space size b_fits))
      ∙ ap (λ n. opening_with n (number_of SIZE_MIN SIZE_MAX (decimal size)) (number_of 1 TOTAL_MAX (decimal total))) (number_spelled 1 CHANNELS_MAX channels m_fits is.some_channels is.few_channels)
      ∙ ap (λ n. opening_with (Some channels) n (number_of 1 TOTAL_MAX (decimal total))) (number_spelled SIZE_MIN SIZE_MAX size b_fits is.low is.high)
      ∙ ap (λ n. opening_with (Some channels) (Some size) n) (number_spelled 1 TOTAL_MAX total t_fits is.some_segments is.few_segments)
