-- What `clap` finds of `run`, whose options may stand in any order, each at most once.
use Rattle.std.proofs.Common.{◌≡◌, ◌⊎◌, inl, inr, ◌∙◌, ◌++◌, ℕ, Bool, true, false, cond, not, ◌&&◌, ◌||◌, leb, List, [], ◌∷◌, map, drop, append-nil, append_assoc, refl, sym, ap, ap₂, subst, Option, Some, None, Result, Ok, Err}
use Rattle.std.specs.Prelude.{bytes_eq, codes, find, fold, is_some, ok_or, option_map, option_and_then, unwrap_or}
use Rattle.std.specs.Result.{result_err}
use Rattle.std.specs.Option.{option_map_or}
use Rattle.std.proofs.lemmas.Bool.{and_from}
use Rattle.clap.specs.Words.{Rule, Text, built, is_simple}
use Rattle.clap.specs.Simple.{Shape}
use Rattle.clap.specs.Takes.{settle_passes, turn_passes, walk_passes}
use Rattle.clap.specs.Walk.{Held, Walk, idle, option, has_row, nothing_held, pushed, settled, walked}
use Rattle.job_text.specs.declared.words.RunOptions.{RunOptions}
use Rattle.job_text.specs.declared.words.UsageKind.{UsageKind}
use Rattle.job_text.specs.declared.words.UsageKind.TheVariants.{MissingOperand, OptionTwice}
use Rattle.job_text.specs.declared.options.RunOption.{RunOption}
use Rattle.job_text.specs.declared.options.RunOption.TheVariants.{Every, Mode, Segment, Pool, Links}
use Rattle.job_text.specs.declared.options.Given.{Given}
use Rattle.job_text.specs.JobFaults.{number_of}
use Rattle.job_text.specs.Words.{is_operand, stray_fault, option_of, number_within, nothing, was_given, with_value, option_behind, and_then, given_from, with_defaults, run_options, run_fault, operand_fault}
use Rattle.job_text.specs.Matches.{Values, value_of, bare, run_app, option_values, run_values, options_by}
use Rattle.job_text.proofs.Numbers.{number_known}
use Rattle.job_text.proofs.NumberWords.{if_none, digits_operand}
use Rattle.job_text.proofs.SpellingLemmas.{same_bytes}
use Rattle.job_text.proofs.OptionLemmas.{TakesOption, taken, no_value}
use Rattle.job_text.proofs.ClapWalks.{Passes, row, used_once, used_row, no_row_yet, no_defaults, between, plain_walked, plain_turn}

-- ---- the options

-- the word of an option
abbrev pub word_of : RunOption → Text
word_of Every = codes "--every"
word_of Mode = codes "--mode"
word_of Segment = codes "--segment"
word_of Pool = codes "--pool"
word_of Links = codes "--links"

-- its name
abbrev pub name_of : RunOption → Text
name_of chosen = drop 2 (word_of chosen)

-- what it reads of a value; of a mode and of links, nothing but that there is one
abbrev pub reading : RunOption → Text → Option ℕ
reading Every value = number_of 1099511627776 value
reading Mode value = cond (bytes_eq value (codes "inline")) (Some 0) None
reading Segment value = number_within 64 65536 value
reading Pool value = number_within 1 16384 value
reading Links value = cond (bytes_eq value (codes "memory")) (Some 0) None

-- what is given of it
abbrev pub part : Given → RunOption → Option ℕ
part given Every = given.every
part given Mode = cond given.mode (Some 0) None
part given Segment = given.segment
part given Pool = given.pool
part given Links = cond given.links (Some 0) None

some_if_given : (b : Bool) → b ≡ is_some {T = ℕ} (cond b (Some 0) None)
some_if_given true = refl
some_if_given false = refl

given_part : (given : Given) (o : RunOption) → was_given given o ≡ is_some (part given o)
given_part given Every = refl
given_part given Mode = some_if_given given.mode
given_part given Segment = refl
given_part given Pool = refl
given_part given Links = some_if_given given.links

-- two options are one, or have other names
same_or_other : (chosen o : RunOption) → (chosen ≡ o) ⊎ (bytes_eq (name_of chosen) (name_of o) ≡ false)
same_or_other Every Every = inl refl
same_or_other Mode Mode = inl refl
same_or_other Segment Segment = inl refl
same_or_other Pool Pool = inl refl
same_or_other Links Links = inl refl
same_or_other Every Mode = inr refl
same_or_other Every Segment = inr refl
same_or_other Every Pool = inr refl
same_or_other Every Links = inr refl
same_or_other Mode Every = inr refl
same_or_other Mode Segment = inr refl
same_or_other Mode Pool = inr refl
same_or_other Mode Links = inr refl
same_or_other Segment Every = inr refl
same_or_other Segment Mode = inr refl
same_or_other Segment Pool = inr refl
same_or_other Segment Links = inr refl
same_or_other Pool Every = inr refl
same_or_other Pool Mode = inr refl
same_or_other Pool Segment = inr refl
same_or_other Pool Links = inr refl
same_or_other Links Every = inr refl
same_or_other Links Mode = inr refl
same_or_other Links Segment = inr refl
same_or_other Links Pool = inr refl

-- ---- one option and its value

-- the word is the option's, which was not given
pub record IsNew (given : Given) (word : Text) (chosen : RunOption) : Type 0 where
  pub word_is : word ≡ word_of chosen
  pub new : was_given given chosen ≡ false

option_named : (word : Text) (chosen : RunOption) → option_of word ≡ Some chosen → word ≡ word_of chosen
option_named word chosen is = by_word (bytes_eq word (codes "--every")) (bytes_eq word (codes "--mode")) (bytes_eq word (codes "--segment")) (bytes_eq word (codes "--pool")) (bytes_eq word (codes "--links")) refl refl refl refl refl is
  where
    by_word : (every mode segment pool links : Bool) → bytes_eq word (codes "--every") ≡ every → bytes_eq word (codes "--mode") ≡ mode → bytes_eq word (codes "--segment") ≡ segment → bytes_eq word (codes "--pool") ≡ pool → bytes_eq word (codes "--links") ≡ links
        → cond every (Some Every) (cond mode (Some Mode) (cond segment (Some Segment) (cond pool (Some Pool) (cond links (Some Links) None)))) ≡ Some chosen → word ≡ word_of chosen
    by_word true mode segment pool links every_is mode_is segment_is pool_is links_is is = same_bytes word (codes "--every") every_is ∙ ap word_of (let same : Every ≡ chosen = cc in same)
    by_word false true segment pool links every_is mode_is segment_is pool_is links_is is = same_bytes word (codes "--mode") mode_is ∙ ap word_of (let same : Mode ≡ chosen = cc in same)
    by_word false false true pool links every_is mode_is segment_is pool_is links_is is = same_bytes word (codes "--segment") segment_is ∙ ap word_of (let same : Segment ≡ chosen = cc in same)
    by_word false false false true links every_is mode_is segment_is pool_is links_is is = same_bytes word (codes "--pool") pool_is ∙ ap word_of (let same : Pool ≡ chosen = cc in same)
    by_word false false false false true every_is mode_is segment_is pool_is links_is is = same_bytes word (codes "--links") links_is ∙ ap word_of (let same : Links ≡ chosen = cc in same)
    by_word false false false false false every_is mode_is segment_is pool_is links_is is = absurd (cc)

new_option : (given : Given) (word : Text) (chosen : RunOption) → option_behind given word ≡ Ok chosen → IsNew given word chosen
new_option given word chosen is = by_option (option_of word) refl is
  where
    by_given : (o : RunOption) (b : Bool) → option_of word ≡ Some o → was_given given o ≡ b → cond b (Err OptionTwice) (Ok o) ≡ Ok chosen → IsNew given word chosen
    by_given o true named given_is is = absurd (cc)
    by_given o false named given_is is =
        let same : o ≡ chosen = cc in record {
          word_is = option_named word o named ∙ ap word_of same;
          new = ap (was_given given) (sym same) ∙ given_is;
        }

    by_option : (o : Option RunOption) → option_of word ≡ o → option_map_or (λ k. cond (was_given given k) (Err OptionTwice) (Ok k)) o (Err (stray_fault word)) ≡ Ok chosen → IsNew given word chosen
    by_option None named is = absurd (cc)
    by_option (Some o) named is = by_given o (was_given given o) named refl is

-- what the value of an option gives
pub record Gives (given next : Given) (chosen : RunOption) (value : Text) : Type 0 where
  pub number : ℕ
  pub reads : reading chosen value ≡ Some number
  pub here : part next chosen ≡ Some number
  pub others : (o : RunOption) → bytes_eq (name_of chosen) (name_of o) ≡ false → part next o ≡ part given o
  pub operand : is_operand value ≡ true

number_operand : (most n : ℕ) (value : Text) → number_of most value ≡ Some n → is_operand value ≡ true
number_operand most n value is =
    let known = number_known most n value is in
    digits_operand value n known.digits known.value known.low

within_number : (least most n : ℕ) (value : Text) → number_within least most value ≡ Some n → (m : ℕ) × (number_of most value ≡ Some m)
within_number least most n value is = by_number (number_of most value) refl is
  where
    by_number : (o : Option ℕ) → number_of most value ≡ o → option_and_then (λ m. cond (leb least m) (Some m) None) o ≡ Some n → (m : ℕ) × (number_of most value ≡ Some m)
    by_number None number is = absurd (cc)
    by_number (Some m) number is = (m, number)

every_gives : (given next : Given) (value : Text) → with_value given Every value ≡ Some next → Gives given next Every value
every_gives given next value is = by_number (number_of 1099511627776 value) refl is
  where
    others : (n : ℕ) (o : RunOption) → bytes_eq (name_of Every) (name_of o) ≡ false → part (record given { every = Some n }) o ≡ part given o
    others n Every other = absurd (cc)
    others n Mode other = refl
    others n Segment other = refl
    others n Pool other = refl
    others n Links other = refl

    by_number : (o : Option ℕ) → number_of 1099511627776 value ≡ o → option_map (λ n. record given { every = Some n }) o ≡ Some next → Gives given next Every value
    by_number None number is = absurd (cc)
    by_number (Some n) number is =
        let same : record given { every = Some n } ≡ next = cc in
        subst (λ (g : Given). Gives given g Every value) same (record { number = n; reads = number; here = refl; others = others n; operand = number_operand 1099511627776 n value number })

segment_gives : (given next : Given) (value : Text) → with_value given Segment value ≡ Some next → Gives given next Segment value
segment_gives given next value is = by_number (number_within 64 65536 value) refl is
  where
    others : (n : ℕ) (o : RunOption) → bytes_eq (name_of Segment) (name_of o) ≡ false → part (record given { segment = Some n }) o ≡ part given o
    others n Every other = refl
    others n Mode other = refl
    others n Segment other = absurd (cc)
    others n Pool other = refl
    others n Links other = refl

    by_number : (o : Option ℕ) → number_within 64 65536 value ≡ o → option_map (λ n. record given { segment = Some n }) o ≡ Some next → Gives given next Segment value
    by_number None number is = absurd (cc)
    by_number (Some n) number is =
        let same : record given { segment = Some n } ≡ next = cc in
        let spelled = within_number 64 65536 n value number in
        subst (λ (g : Given). Gives given g Segment value) same (record { number = n; reads = number; here = refl; others = others n; operand = number_operand 65536 spelled.0 value spelled.1 })

pool_gives : (given next : Given) (value : Text) → with_value given Pool value ≡ Some next → Gives given next Pool value
pool_gives given next value is = by_number (number_within 1 16384 value) refl is
  where
    others : (n : ℕ) (o : RunOption) → bytes_eq (name_of Pool) (name_of o) ≡ false → part (record given { pool = Some n }) o ≡ part given o
    others n Every other = refl
    others n Mode other = refl
    others n Segment other = refl
    others n Pool other = absurd (cc)
    others n Links other = refl

    by_number : (o : Option ℕ) → number_within 1 16384 value ≡ o → option_map (λ n. record given { pool = Some n }) o ≡ Some next → Gives given next Pool value
    by_number None number is = absurd (cc)
    by_number (Some n) number is =
        let same : record given { pool = Some n } ≡ next = cc in
        let spelled = within_number 1 16384 n value number in
        subst (λ (g : Given). Gives given g Pool value) same (record { number = n; reads = number; here = refl; others = others n; operand = number_operand 16384 spelled.0 value spelled.1 })

mode_gives : (given next : Given) (value : Text) → with_value given Mode value ≡ Some next → Gives given next Mode value
mode_gives given next value is = by_word (bytes_eq value (codes "inline")) refl is
  where
    others : (o : RunOption) → bytes_eq (name_of Mode) (name_of o) ≡ false → part (record given { mode = true }) o ≡ part given o
    others Every other = refl
    others Mode other = absurd (cc)
    others Segment other = refl
    others Pool other = refl
    others Links other = refl

    by_word : (b : Bool) → bytes_eq value (codes "inline") ≡ b → cond b (Some (record given { mode = true })) None ≡ Some next → Gives given next Mode value
    by_word false word is = absurd (cc)
    by_word true word is =
        let same : record given { mode = true } ≡ next = cc in
        subst (λ (g : Given). Gives given g Mode value) same (record { number = 0; reads = ap (λ b. cond b (Some 0) None) word; here = refl; others = others; operand = ap is_operand (same_bytes value (codes "inline") word) })

links_gives : (given next : Given) (value : Text) → with_value given Links value ≡ Some next → Gives given next Links value
links_gives given next value is = by_word (bytes_eq value (codes "memory")) refl is
  where
    others : (o : RunOption) → bytes_eq (name_of Links) (name_of o) ≡ false → part (record given { links = true }) o ≡ part given o
    others Every other = refl
    others Mode other = refl
    others Segment other = refl
    others Pool other = refl
    others Links other = absurd (cc)

    by_word : (b : Bool) → bytes_eq value (codes "memory") ≡ b → cond b (Some (record given { links = true })) None ≡ Some next → Gives given next Links value
    by_word false word is = absurd (cc)
    by_word true word is =
        let same : record given { links = true } ≡ next = cc in
        subst (λ (g : Given). Gives given g Links value) same (record { number = 0; reads = ap (λ b. cond b (Some 0) None) word; here = refl; others = others; operand = ap is_operand (same_bytes value (codes "memory") word) })

value_gives : (given next : Given) (chosen : RunOption) (value : Text) → with_value given chosen value ≡ Some next → Gives given next chosen value
value_gives given next Every value is = every_gives given next value is
value_gives given next Mode value is = mode_gives given next value is
value_gives given next Segment value is = segment_gives given next value is
value_gives given next Pool value is = pool_gives given next value is
value_gives given next Links value is = links_gives given next value is

-- ---- what was given, and the values found so far

-- what is given of an option is what its value reads as
abbrev pub IsReadAs : RunOption → Option Text → Option ℕ → Type 0
IsReadAs o None given = given ≡ None
IsReadAs o (Some value) given = (n : ℕ) × (reading o value ≡ Some n) × (given ≡ Some n)

abbrev pub Fits : Given → Values → Type 0
Fits given values = (o : RunOption) → IsReadAs o (value_of values (name_of o)) (part given o)

-- an option that was not given has no value
no_value_yet : (o : RunOption) (found : Option Text) (given : Option ℕ) → IsReadAs o found given → is_some given ≡ false → found ≡ None
no_value_yet o None given fits none = refl
no_value_yet o (Some value) given fits none = absurd (let some : is_some given ≡ true = ap is_some fits.2 in cc)

-- the value of a name behind those of other names
value_pushed : (name : Text) (values : Values) (v : Text × Text) → value_of values name ≡ None → value_of (values ++ v ∷ []) name ≡ value_of (v ∷ []) name
value_pushed name [] v none = refl
value_pushed name (first ∷ values) v none = go (bytes_eq first.0 name) (value_pushed name values v) none
  where
    go : (b : Bool) → (value_of values name ≡ None → value_of (values ++ v ∷ []) name ≡ value_of (v ∷ []) name)
        → option_map (λ (w : Text × Text). w.1) (cond b (Some first) (find (λ w. bytes_eq w.0 name) values)) ≡ None
        → option_map (λ (w : Text × Text). w.1) (cond b (Some first) (find (λ w. bytes_eq w.0 name) (values ++ v ∷ []))) ≡ value_of (v ∷ []) name
    go true rest none = absurd (cc)
    go false rest none = rest none

-- a value of another name changes nothing
value_kept : (name : Text) (values : Values) (v : Text × Text) → bytes_eq v.0 name ≡ false → value_of (values ++ v ∷ []) name ≡ value_of values name
value_kept name [] v other = ap (λ b. option_map (λ (w : Text × Text). w.1) (cond b (Some v) None)) other
value_kept name (first ∷ values) v other = go (bytes_eq first.0 name) (value_kept name values v other)
  where
    go : (b : Bool) → value_of (values ++ v ∷ []) name ≡ value_of values name
        → option_map (λ (w : Text × Text). w.1) (cond b (Some first) (find (λ w. bytes_eq w.0 name) (values ++ v ∷ []))) ≡ option_map (λ (w : Text × Text). w.1) (cond b (Some first) (find (λ w. bytes_eq w.0 name) values))
    go true rest = refl
    go false rest = rest

own_name : (chosen : RunOption) → bytes_eq (name_of chosen) (name_of chosen) ≡ true
own_name Every = refl
own_name Mode = refl
own_name Segment = refl
own_name Pool = refl
own_name Links = refl

fits_more : (given next : Given) (chosen : RunOption) (value : Text) (values : Values) → Fits given values → value_of values (name_of chosen) ≡ None → Gives given next chosen value → Fits next (values ++ (name_of chosen, value) ∷ [])
fits_more given next chosen value values fits none gives = λ o.
    elim (same_or_other chosen o) [
      | inl same ↦ subst (λ (k : RunOption). IsReadAs k (value_of (values ++ (name_of chosen, value) ∷ []) (name_of k)) (part next k)) same here
      | inr other ↦
          let found : value_of values (name_of o) ≡ value_of (values ++ (name_of chosen, value) ∷ []) (name_of o) = sym (value_kept (name_of o) values (name_of chosen, value) other) in
          subst (λ (p : Option ℕ). IsReadAs o (value_of (values ++ (name_of chosen, value) ∷ []) (name_of o)) p) (sym (gives.others o other))
          (subst (λ (v : Option Text). IsReadAs o v (part given o)) found (fits o))
    ]
  where
    here : IsReadAs chosen (value_of (values ++ (name_of chosen, value) ∷ []) (name_of chosen)) (part next chosen)
    here =
        let found : Some value ≡ value_of (values ++ (name_of chosen, value) ∷ []) (name_of chosen) = sym (value_pushed (name_of chosen) values (name_of chosen, value) none ∙ ap (λ b. option_map (λ (w : Text × Text). w.1) (cond b (Some (name_of chosen, value)) None)) (own_name chosen)) in
        subst (λ (v : Option Text). IsReadAs chosen v (part next chosen)) found (gives.number, gives.reads, gives.here)

-- ---- the walk

pub run_simple : is_simple run_app ≡ true
run_simple = refl

abbrev pub run_shape : Shape
run_shape = (built run_app).top

abbrev pub run_rules : List Rule
run_rules = run_shape.rules

-- what is held when the option has its value
abbrev with_option : RunOption → Text → Held → Held
with_option o value h = record (settled run_rules h) { pending = Some (name_of o, value ∷ []) }

-- what is held in front of the value
abbrev wants_value : RunOption → Held → Held
wants_value o h = record (settled run_rules h) { pending = Some (name_of o, []) }

option_walked : (o : RunOption) (h : Held) → walked run_rules [] (between h idle 2) (word_of o) ≡ between (wants_value o h) (option (name_of o)) 2
unfolding walked
option_walked Every h = refl
option_walked Mode h = refl
option_walked Segment h = refl
option_walked Pool h = refl
option_walked Links h = refl

value_walked : (o : RunOption) (value : Text) (h : Held) → is_operand value ≡ true → walked run_rules [] (between (wants_value o h) (option (name_of o)) 2) value ≡ between (with_option o value h) idle 2
value_walked Every value h operand = plain_walked run_rules (wants_value Every h) (option (codes "every")) 2 value operand
value_walked Mode value h operand = plain_walked run_rules (wants_value Mode h) (option (codes "mode")) 2 value operand
value_walked Segment value h operand = plain_walked run_rules (wants_value Segment h) (option (codes "segment")) 2 value operand
value_walked Pool value h operand = plain_walked run_rules (wants_value Pool h) (option (codes "pool")) 2 value operand
value_walked Links value h operand = plain_walked run_rules (wants_value Links h) (option (codes "links")) 2 value operand

-- the rows when the option has its value
option_rows : (o : RunOption) (value : Text) (h : Held) (values : Values) → (settled run_rules h).rows ≡ map row values → value_of values (name_of o) ≡ None
    → (settled run_rules (with_option o value h)).rows ≡ map row (values ++ (name_of o, value) ∷ [])
option_rows Every value h values rows none = ap (used_once (codes "every") value) rows ∙ used_row (codes "every") value values none
option_rows Mode value h values rows none = ap (used_once (codes "mode") value) rows ∙ used_row (codes "mode") value values none
option_rows Segment value h values rows none = ap (used_once (codes "segment") value) rows ∙ used_row (codes "segment") value values none
option_rows Pool value h values rows none = ap (used_once (codes "pool") value) rows ∙ used_row (codes "pool") value values none
option_rows Links value h values rows none = ap (used_once (codes "links") value) rows ∙ used_row (codes "links") value values none

-- the words of an option, and its value, pass
option_turn : (o : RunOption) (h : Held) → settle_passes run_rules false h ≡ true → turn_passes run_shape [] (between h idle 2) (word_of o) ≡ true
option_turn Every h settles = ap (λ b. b && true) settles
option_turn Mode h settles = ap (λ b. b && true) settles
option_turn Segment h settles = ap (λ b. b && true) settles
option_turn Pool h settles = ap (λ b. b && true) settles
option_turn Links h settles = ap (λ b. b && true) settles

value_turn : (o : RunOption) (value : Text) (h : Held) → is_operand value ≡ true → turn_passes run_shape [] (between (wants_value o h) (option (name_of o)) 2) value ≡ true
value_turn Every value h operand = plain_turn run_shape (wants_value Every h) (option (codes "every")) 2 value operand refl
value_turn Mode value h operand = plain_turn run_shape (wants_value Mode h) (option (codes "mode")) 2 value operand refl
value_turn Segment value h operand = plain_turn run_shape (wants_value Segment h) (option (codes "segment")) 2 value operand refl
value_turn Pool value h operand = plain_turn run_shape (wants_value Pool h) (option (codes "pool")) 2 value operand refl
value_turn Links value h operand = plain_turn run_shape (wants_value Links h) (option (codes "links")) 2 value operand refl

option_settles : (o : RunOption) (value : Text) (h : Held) (values : Values) → (settled run_rules h).rows ≡ map row values → value_of values (name_of o) ≡ None → settle_passes run_rules false (with_option o value h) ≡ true
option_settles Every value h values rows none = ap (λ b. (not b || false) && true) (ap (has_row (codes "every")) rows ∙ no_row_yet (codes "every") values none)
option_settles Mode value h values rows none = ap (λ b. (not b || false) && true) (ap (has_row (codes "mode")) rows ∙ no_row_yet (codes "mode") values none)
option_settles Segment value h values rows none = ap (λ b. (not b || false) && true) (ap (has_row (codes "segment")) rows ∙ no_row_yet (codes "segment") values none)
option_settles Pool value h values rows none = ap (λ b. (not b || false) && true) (ap (has_row (codes "pool")) rows ∙ no_row_yet (codes "pool") values none)
option_settles Links value h values rows none = ap (λ b. (not b || false) && true) (ap (has_row (codes "links")) rows ∙ no_row_yet (codes "links") values none)

-- the walk over the options left, and that what is found is what they give
pub record Walks (more : Given) (h : Held) (values : Values) (words : List Text) : Type 0 where
  pub end : Held
  pub walks : fold (walked run_rules []) (between h idle 2) words ≡ between end idle 2
  pub rows : (settled run_rules end).rows ≡ map row (values ++ option_values words)
  pub passes : walk_passes run_shape [] (between h idle 2) words ≡ true
  pub settles : settle_passes run_rules false end ≡ true
  pub fits : Fits more (values ++ option_values words)

options_walked : (given more : Given) (h : Held) (values : Values) (words : List Text) → Fits given values → (settled run_rules h).rows ≡ map row values → settle_passes run_rules false h ≡ true → given_from given words ≡ Ok more → Walks more h values words
unfolding walk_passes
options_walked given more h values [] fits rows settles is =
    let all : values ≡ values ++ [] = sym (append-nil values) in
    let same : given ≡ more = cc in record {
      end = h;
      walks = refl;
      rows = rows ∙ ap (map row) all;
      passes = refl;
      settles = settles;
      fits = subst (λ (vs : Values). Fits more vs) all (subst (λ (g : Given). Fits g values) same fits);
    }
options_walked given more h values (word ∷ []) fits rows settles is = absurd (no_value given more word is)
options_walked given more h values (word ∷ value ∷ words) fits rows settles is =
    let step : TakesOption given more word value words = taken given more word value words is in
    let o : RunOption = step.option in
    let fresh : IsNew given word o = new_option given word o step.option_is in
    let gives : Gives given step.next o value = value_gives given step.next o value step.next_is in
    let none : value_of values (name_of o) ≡ None = no_value_yet o (value_of values (name_of o)) (part given o) (fits o) (sym (given_part given o) ∙ fresh.new) in
    let named : walked run_rules [] (between h idle 2) word ≡ between (wants_value o h) (option (name_of o)) 2 =
    ap (walked run_rules [] (between h idle 2)) fresh.word_is ∙ option_walked o h in
    let read : walked run_rules [] (walked run_rules [] (between h idle 2) word) value ≡ between (with_option o value h) idle 2 =
    ap (λ (w : Walk). walked run_rules [] w value) named ∙ value_walked o value h gives.operand in
    let rest : Walks more (with_option o value h) (values ++ (name_of o, value) ∷ []) words =
    options_walked step.next more (with_option o value h) (values ++ (name_of o, value) ∷ []) words (fits_more given step.next o value values fits none gives)
    (option_rows o value h values rows none) (option_settles o value h values rows none) step.rest in
    let all : (values ++ (name_of o, value) ∷ []) ++ option_values words ≡ values ++ option_values (word ∷ value ∷ words) =
    append_assoc values ((name_of o, value) ∷ []) (option_values words) ∙ ap (λ w. values ++ (drop 2 w, value) ∷ option_values words) (sym fresh.word_is) in record {
      end = rest.end;
      walks = ap (λ (w : Walk). fold (walked run_rules []) w words) read ∙ rest.walks;
      rows = rest.rows ∙ ap (map row) all;
      passes = and_from _ _ (ap (turn_passes run_shape [] (between h idle 2)) fresh.word_is ∙ option_turn o h settles)
          (and_from _ _ (ap (λ (w : Walk). turn_passes run_shape [] w value) named ∙ value_turn o value h gives.operand) (ap (λ (w : Walk). walk_passes run_shape [] w words) read ∙ rest.passes));
      settles = rest.settles;
      fits = subst (λ (vs : Values). Fits more vs) all rest.fits;
    }

-- ---- all the words

first_fits : (job : Text) → Fits nothing ((codes "job", job) ∷ [])
first_fits job Every = refl
first_fits job Mode = refl
first_fits job Segment = refl
first_fits job Pool = refl
first_fits job Links = refl

-- what the options of accepted words give
record GivenBy (behind : List Text) : Type 0 where
  more : Given
  from : given_from nothing behind ≡ Ok more

given_behind : (behind : List Text) → run_fault behind ≡ None → GivenBy behind
given_behind behind none = by_given (given_from nothing behind) refl none
  where
    by_given : (r : Result Given UsageKind) → given_from nothing behind ≡ r → result_err (and_then r (λ given. Ok (with_defaults given))) ≡ None → GivenBy behind
    by_given (Err kind) given_is none = absurd (cc)
    by_given (Ok given) given_is none = record { more = given; from = given_is }

-- what is held of the operand
abbrev job_held : Text → Held
job_held job = pushed (codes "job") job nothing_held

run_walks : (job : Text) (behind : List Text) (more : Given) → given_from nothing behind ≡ Ok more → Walks more (job_held job) ((codes "job", job) ∷ []) behind
run_walks job behind more is = options_walked nothing more (job_held job) ((codes "job", job) ∷ []) behind (first_fits job) refl refl is

job_passes : (job : Text) (behind : List Text) (more : Given) → is_operand job ≡ true → Walks more (job_held job) ((codes "job", job) ∷ []) behind → Passes run_app (job ∷ behind) (run_values (job ∷ behind))
unfolding walk_passes
job_passes job behind more operand is =
    let walks : walked run_rules [] (between nothing_held idle 1) job ≡ between (job_held job) idle 2 = plain_walked run_rules nothing_held idle 1 job operand in record {
      end = is.end;
      position = 2;
      walks = ap (λ (w : Walk). fold (walked run_rules []) w behind) walks ∙ is.walks;
      rows = no_defaults run_rules (settled run_rules is.end).rows (refl, (refl, (refl, (refl, (refl, (refl, tt)))))) ∙ is.rows;
      passes = and_from _ _ (plain_turn run_shape nothing_held idle 1 job operand refl) (ap (λ (w : Walk). walk_passes run_shape [] w behind) walks ∙ is.passes);
      settles = is.settles;
      defaults = refl;
      valid = refl;
    }

pub run_passes : (words : List Text) → operand_fault run_fault words ≡ None → Passes run_app words (run_values words)
run_passes [] none = absurd (cc)
run_passes (job ∷ behind) none =
    let operand = if_none (is_operand job) (run_fault behind) MissingOperand none in
    let given = given_behind behind operand.1 in
    job_passes job behind given.more operand.0 (run_walks job behind given.more given.from)

-- ---- the options of a run

read_as : (o : RunOption) (found : Option Text) (given : Option ℕ) → IsReadAs o found given → given ≡ option_and_then (reading o) found
read_as o None given fits = fits
read_as o (Some value) given fits = fits.2 ∙ sym fits.1

same_options : (more : Given) (values : Values) → Fits more values → with_defaults more ≡ options_by (value_of values)
same_options more values fits =
    let every = read_as Every (value_of values (codes "every")) more.every (fits Every) in
    let segment = read_as Segment (value_of values (codes "segment")) more.segment (fits Segment) in
    let pool = read_as Pool (value_of values (codes "pool")) more.pool (fits Pool) in
    let same : ◌≡◌ {A = RunOptions} (with_defaults more) (options_by (value_of values)) = λ i. record { every = every i; segment = unwrap_or (segment i) 32768; pool = unwrap_or (pool i) 2048 } in
    same

-- the options that accepted words of `run` give are those of their values
pub options_found : (job : Text) (behind : List Text) → run_fault behind ≡ None → run_options behind ≡ Ok (options_by (value_of (run_values (job ∷ behind))))
options_found job behind none =
    let given = given_behind behind none in
    ap (λ r. and_then r (λ more. Ok (with_defaults more))) given.from
    ∙ ap (λ options. Ok options) (same_options given.more (run_values (job ∷ behind)) (run_walks job behind given.more given.from).fits)
