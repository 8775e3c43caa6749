-- The first bad line of a text, and texts that have none.
use Rattle.std.proofs.Common.{◌≡◌, ℕ, suc, ◌+◌, ◌≤◌, cond, List, [], ◌∷◌, ◌++◌, length, map, refl, sym, ap, ◌∙◌, ◌⊎◌, inl, inr, subst, Option, Some, None, Result, Ok, Err, is_none, arith}
use Rattle.std.specs.Prelude.{◌↔◌}
use Rattle.std.specs.List.{AllByRecursion}
use Rattle.std.proofs.lemmas.Option.{none-some, same_Some}
use Rattle.flow_defs.specs.Lines.{lines}
use Rattle.script_text.specs.declared.event.TheConstants.{CHANNELS_MAX}
use Rattle.script_text.specs.declared.event.Event.{Event}
use Rattle.script_text.specs.declared.event.Script.{Script}
use Rattle.script_text.specs.declared.fault.ScriptFault.{ScriptFault}
use Rattle.script_text.specs.declared.fault.ScriptFault.TheVariants.{Line, Memory}
use Rattle.script_text.specs.declared.lines.Opening.{Opening}
use Rattle.script_text.specs.Scripts.{IsEvent, IsOpening, IsScriptText, IsSameScript, open_line, event_line, contents}
use Rattle.script_text.specs.ScriptFaults.{IsOpenLine, IsEventLine, BeginsScript, IsBadBehind, IsFirstBadLine}
use Rattle.script_text.specs.Reading.{event_of, opening_of, bad_from, bad_behind, bad_line, IsTold, Opens}
use Rattle.script_text.proofs.Spellings.{event_known, event_spelled, opening_known, opening_spelled}

-- ---- single lines

cases : {A : Type 0} (o : Option A) → (o ≡ None) ⊎ ((x : A) × (o ≡ Some x))
cases None = inl refl
cases (Some x) = inr (x, refl)

no_both : {A : Type 0} (o : Option A) (x : A) → o ≡ None → o ≡ Some x → ⊥
no_both o x none some = none-some x (sym none ∙ some)

line_read : (channels : ℕ) (line : List ℕ) (e : Event) → event_of channels line ≡ Some e → IsEventLine channels line
line_read channels line e is = let known = event_known channels line e is in record { event = e; is_event = known.0; line_is = known.1 }

event_line_read : (channels : ℕ) (line : List ℕ) → channels ≤ CHANNELS_MAX → (is : IsEventLine channels line) → event_of channels line ≡ Some (contents is.event)
event_line_read channels line few is = ap (event_of channels) is.line_is ∙ event_spelled channels few is.event is.is_event

first_read : (line : List ℕ) (o : Opening) → opening_of line ≡ Some o → IsOpenLine o.channels line
first_read line o is = let known = opening_known line o is in record { size = o.size; total = o.total; opening = known.0; line_is = known.1 }

open_line_read : (channels : ℕ) (line : List ℕ) → (is : IsOpenLine channels line) → let o : Opening = record { channels = channels; size = is.size; total = is.total } in opening_of line ≡ Some o
open_line_read channels line is = ap opening_of is.line_is ∙ opening_spelled channels is.size is.total is.opening

few_of : (channels : ℕ) (line : List ℕ) → IsOpenLine channels line → channels ≤ CHANNELS_MAX
few_of channels line is = is.opening.few_channels

-- ---- the lines of events

module _ {X : Type 0} (P : X → Type 0) where
  pub all_push : (xs : List X) (x : X) → AllByRecursion P xs → P x → AllByRecursion P (xs ++ x ∷ [])
  all_push [] x all last = (last, tt)
  all_push (y ∷ xs) x all last = (all.0, all_push xs x all.1 last)

  all_last : (xs : List X) (x : X) → AllByRecursion P (xs ++ x ∷ []) → P x
  all_last [] x all = all.0
  all_last (y ∷ xs) x all = all_last xs x all.1

-- where the first line that is no event's stands
record Found (channels number n : ℕ) (all : List (List ℕ)) : Type 0 where
  before : List (List ℕ)
  line : List ℕ
  rest : List (List ℕ)
  lines_are : all ≡ before ++ line ∷ rest
  number_is : n ≡ number + length before
  good : AllByRecursion (IsEventLine channels) before
  bad : event_of channels line ≡ None

found_first : (channels number n : ℕ) (line : List ℕ) (rest : List (List ℕ)) → event_of channels line ≡ None → Some number ≡ Some n → Found channels number n (line ∷ rest)
found_first channels number n line rest none is = record {
  before = [];
  line = line;
  rest = rest;
  lines_are = refl;
  number_is = let same = same_Some number n is in omega (arith, same);
  good = tt;
  bad = none;
}

found_behind : (channels number n : ℕ) (line : List ℕ) (rest : List (List ℕ)) → IsEventLine channels line → Found channels (suc number) n rest → Found channels number n (line ∷ rest)
found_behind channels number n line rest is found = record {
  before = line ∷ found.before;
  line = found.line;
  rest = found.rest;
  lines_are = ap (λ l. line ∷ l) found.lines_are;
  number_is = let same = found.number_is in omega (arith, same);
  good = (is, found.good);
  bad = found.bad;
}

bad_found : (channels number n : ℕ) (all : List (List ℕ)) → bad_from channels number all ≡ Some n → Found channels number n all
bad_found channels number n [] is = absurd (none-some n is)
bad_found channels number n (line ∷ rest) is = elim (cases (event_of channels line)) [
  | inl none ↦ found_first channels number n line rest none (sym (ap (λ (o : Option Event). cond (is_none o) (Some number) (bad_from channels (suc number) rest)) none) ∙ is)
  | inr some ↦
      found_behind channels number n line rest (line_read channels line some.0 some.1)
      (bad_found channels (suc number) n rest (sym (ap (λ (o : Option Event). cond (is_none o) (Some number) (bad_from channels (suc number) rest)) some.1) ∙ is))
]

good_passed : (channels number : ℕ) (line : List ℕ) (rest : List (List ℕ)) → channels ≤ CHANNELS_MAX → IsEventLine channels line → bad_from channels number (line ∷ rest) ≡ bad_from channels (suc number) rest
good_passed channels number line rest few is = ap (λ (o : Option Event). cond (is_none o) (Some number) (bad_from channels (suc number) rest)) (event_line_read channels line few is)

bad_is : (channels : ℕ) → channels ≤ CHANNELS_MAX → (number : ℕ) (before : List (List ℕ)) (line : List ℕ) (rest : List (List ℕ)) → AllByRecursion (IsEventLine channels) before → event_of channels line ≡ None → bad_from channels number (before ++ line ∷ rest) ≡ Some (number + length before)
bad_is channels few number [] line rest good none = ap (λ (o : Option Event). cond (is_none o) (Some number) (bad_from channels (suc number) rest)) none ∙ ap (λ n. Some n) (let same : number ≡ number + 0 = omega arith in same)
bad_is channels few number (first ∷ before) line rest good none =
    good_passed channels number first (before ++ line ∷ rest) few good.0 ∙ bad_is channels few (suc number) before line rest good.1 none
    ∙ ap (λ n. Some n) (let same : suc number + length before ≡ number + suc (length before) = omega arith in same)

-- ---- the whole text

module _ (text : List ℕ) (n : ℕ) where
  found_at_first : (all : List (List ℕ)) → lines text ≡ all → IsBadBehind [] all → 1 ≡ n → IsFirstBadLine text n
  found_at_first all lines_are bad is = record { before = []; rest = all; lines_are = lines_are; number_is = sym is; begins = tt; bad = bad }

  no_opening : (first : List ℕ) → opening_of first ≡ None → BeginsScript (first ∷ []) → ⊥
  no_opening first none begins = no_both (opening_of first) _ none (open_line_read begins.0 first begins.1)

  found_event : (first : List ℕ) (events : List (List ℕ)) (o : Opening) → lines text ≡ first ∷ events → opening_of first ≡ Some o → Found o.channels 2 n events → IsFirstBadLine text n
  found_event first events o lines_are is found =
      record {
        before = first ∷ found.before;
        rest = found.line ∷ found.rest;
        lines_are = lines_are ∙ ap (λ l. first ∷ l) found.lines_are;
        number_is = let same = found.number_is in omega (arith, same);
        begins = (o.channels, first_read first o is, found.good);
        bad = λ begins.
            let same : begins.0 ≡ o.channels = ap (λ (p : Opening). p.channels) (same_Some _ o (sym (open_line_read begins.0 first begins.1) ∙ is)) in
            let last : IsEventLine begins.0 found.line = all_last (IsEventLine begins.0) found.before found.line begins.2 in
            no_both (event_of begins.0 found.line) _ (ap (λ m. event_of m found.line) same ∙ found.bad) (event_line_read begins.0 found.line (few_of begins.0 first begins.1) last);
      }

  found_behind_first : (first : List ℕ) (events : List (List ℕ)) → lines text ≡ first ∷ events → bad_line (first ∷ events) ≡ Some n → IsFirstBadLine text n
  found_behind_first first events lines_are is = elim (cases (opening_of first)) [
    | inl none ↦ found_at_first (first ∷ events) lines_are (no_opening first none) (same_Some 1 n (sym (ap (λ (o : Option Opening). bad_behind o events) none) ∙ is))
    | inr some ↦ found_event first events some.0 lines_are some.1 (bad_found some.0.channels 2 n events (sym (ap (λ (o : Option Opening). bad_behind o events) some.1) ∙ is))
  ]

  found_in : (all : List (List ℕ)) → lines text ≡ all → bad_line all ≡ Some n → IsFirstBadLine text n
  found_in [] lines_are is = found_at_first [] lines_are refl (same_Some 1 n is)
  found_in (first ∷ events) lines_are is = found_behind_first first events lines_are is

  -- the number that is found is that of the first bad line
  pub first_bad_found : bad_line (lines text) ≡ Some n → IsFirstBadLine text n
  first_bad_found is = found_in (lines text) refl is

first_bad_is_at : (before rest : List (List ℕ)) → BeginsScript before → IsBadBehind before rest → bad_line (before ++ rest) ≡ Some (suc (length before))
first_bad_is_at [] [] begins bad = refl
first_bad_is_at (first ∷ events) [] begins bad = absurd (cc)
first_bad_is_at [] (line ∷ rest) begins bad = elim (cases (opening_of line)) [
  | inl none ↦ ap (λ (o : Option Opening). bad_behind o rest) none
  | inr some ↦ absurd (bad (some.0.channels, first_read line some.0 some.1, tt))
]
first_bad_is_at (first ∷ events) (line ∷ rest) begins bad = elim (cases (event_of begins.0 line)) [
  | inl none ↦
      ap (λ (o : Option Opening). bad_behind o (events ++ line ∷ rest)) (open_line_read begins.0 first begins.1) ∙ bad_is begins.0 (few_of begins.0 first begins.1) 2 events line rest begins.2 none
      ∙ ap (λ n. Some n) (let same : 2 + length events ≡ suc (suc (length events)) = omega arith in same)
  | inr some ↦ absurd (bad (begins.0, begins.1, all_push (IsEventLine begins.0) events line begins.2 (line_read begins.0 line some.0 some.1)))
]

-- the first bad line is the one that is found
pub first_bad_is : (text : List ℕ) (n : ℕ) → IsFirstBadLine text n → bad_line (lines text) ≡ Some n
first_bad_is text n is = ap bad_line is.lines_are ∙ first_bad_is_at is.before is.rest is.begins is.bad ∙ ap (λ k. Some k) (sym is.number_is)

-- ---- texts of scripts

events_pass : (channels : ℕ) → channels ≤ CHANNELS_MAX → (number : ℕ) (events : List Event) → AllByRecursion (IsEvent channels) events → bad_from channels number (map event_line events) ≡ None
events_pass channels few number [] all = refl
events_pass channels few number (e ∷ events) all =
    good_passed channels number (event_line e) (map event_line events) few (record { event = e; is_event = all.0; line_is = refl })
    ∙ events_pass channels few (suc number) events all.1

pub script_passes : (text : List ℕ) (script : Script) → IsScriptText text script → bad_line (lines text) ≡ None
script_passes text script is =
    ap bad_line is.lines_are
    ∙ ap (λ (o : Option Opening). bad_behind o (map event_line script.events.items)) (opening_spelled script.channels script.size script.total is.opening)
    ∙ events_pass script.channels is.opening.few_channels 2 script.events.items is.events

pub accepted : (text : List ℕ) (script : Script) (n : ℕ) → IsScriptText text script → IsFirstBadLine text n → ⊥
accepted text script n is bad = no_both (bad_line (lines text)) n (script_passes text script is) (first_bad_is text n bad)

-- ---- one script for a text

same_events : (channels : ℕ) → channels ≤ CHANNELS_MAX → (events others : List Event) → AllByRecursion (IsEvent channels) events → AllByRecursion (IsEvent channels) others → map event_line events ≡ map event_line others → map contents events ≡ map contents others
same_events channels few [] [] all rest is = refl
same_events channels few [] (other ∷ others) all rest is = absurd (cc)
same_events channels few (e ∷ events) [] all rest is = absurd (cc)
same_events channels few (e ∷ events) (other ∷ others) all rest is =
    let first : event_line e ≡ event_line other = cc in
    let more : map event_line events ≡ map event_line others = cc in
    let same : contents e ≡ contents other = same_Some _ _ (sym (event_spelled channels few e all.0) ∙ ap (event_of channels) first ∙ event_spelled channels few other rest.0) in
    ap (λ x. x ∷ map contents events) same ∙ ap (λ x. contents other ∷ x) (same_events channels few events others all.1 rest.1 more)

pub one_script : (text : List ℕ) (script other : Script) → IsScriptText text script → IsScriptText text other → IsSameScript script other
one_script text script other is other_is =
    let both : open_line script.channels script.size script.total ∷ map event_line script.events.items ≡ open_line other.channels other.size other.total ∷ map event_line other.events.items = sym is.lines_are ∙ other_is.lines_are in
    let first : open_line script.channels script.size script.total ≡ open_line other.channels other.size other.total = cc in
    let rest : map event_line script.events.items ≡ map event_line other.events.items = cc in
    let same = same_Some _ _ (sym (opening_spelled script.channels script.size script.total is.opening) ∙ ap opening_of first ∙ opening_spelled other.channels other.size other.total other_is.opening) in
    let channels : script.channels ≡ other.channels = ap (λ (p : Opening). p.channels) same in
    record {
      channels = channels;
      size = ap (λ (p : Opening). p.size) same;
      total = ap (λ (p : Opening). p.total) same;
      events = same_events script.channels is.opening.few_channels script.events.items other.events.items is.events (subst (λ m. AllByRecursion (IsEvent m) other.events.items) (sym channels) other_is.events) rest;
    }

-- ---- what is told of a text

pub opened : (text rest : List ℕ) (o : Opening) → Opens text o rest → bad_line (lines text) ≡ bad_from o.channels 2 (lines rest)
opened text rest o opens = ap bad_line opens.lines_are ∙ ap (λ (p : Option Opening). bad_behind p (lines rest)) opens.opening_is

module _ (text : List ℕ) (r : Result Script ScriptFault) where
  pub told_line : (told : ScriptFault) → r ≡ Err told → IsTold told (bad_line (lines text)) → (line : ℕ) → (r ≡ Err (Line line)) ↔ IsFirstBadLine text line
  told_line (Line n) is told line = (
    λ same. first_bad_found text line (let at : n ≡ line = cc in told ∙ ap (λ k. Some k) at),
    λ bad. is ∙ ap (λ k. let e : Result Script ScriptFault = Err (Line k) in e) (same_Some n line (sym told ∙ first_bad_is text line bad)),
  )
  told_line Memory is told line = absurd told

  module _ (none : bad_line (lines text) ≡ None) where
    pub told_memory : r ≡ Err Memory → (line : ℕ) → (r ≡ Err (Line line)) ↔ IsFirstBadLine text line
    told_memory is line = (λ same. absurd (cc), λ bad. absurd (no_both (bad_line (lines text)) line none (first_bad_is text line bad)))

    pub told_script : (script : Script) → r ≡ Ok script → (line : ℕ) → (r ≡ Err (Line line)) ↔ IsFirstBadLine text line
    told_script script is line = (λ same. absurd (cc), λ bad. absurd (no_both (bad_line (lines text)) line none (first_bad_is text line bad)))

-- what was read is a script of the text
pub script_read : (text rest : List ℕ) (o : Opening) (script : Script) → Opens text o rest → script.channels ≡ o.channels → script.size ≡ o.size → script.total ≡ o.total
    → map event_line script.events.items ≡ lines rest → AllByRecursion (IsEvent o.channels) script.events.items → IsScriptText text script
script_read text rest o script opens channels size total events_are all =
    let known = opening_known opens.first o opens.opening_is in
    record {
      lines_are = opens.lines_are ∙ ap (λ l. l ∷ lines rest) (known.1 ∙ ap (λ m. open_line m o.size o.total) (sym channels) ∙ ap (λ b. open_line script.channels b o.total) (sym size) ∙ ap (λ t. open_line script.channels script.size t) (sym total)) ∙ ap (λ l. open_line script.channels script.size script.total ∷ l) (sym events_are);
      opening = subst (λ m. IsOpening m script.size script.total) (sym channels) (subst (λ b. IsOpening o.channels b script.total) (sym size) (subst (λ t. IsOpening o.channels o.size t) (sym total) known.0));
      events = subst (λ m. AllByRecursion (IsEvent m) script.events.items) (sym channels) all;
    }

-- ---- each text is one or the other

pub one_bad_line : (text : List ℕ) (n m : ℕ) → IsFirstBadLine text n → IsFirstBadLine text m → n ≡ m
one_bad_line text n m first second = same_Some n m (sym (first_bad_is text n first) ∙ first_bad_is text m second)

events_of : (channels number : ℕ) (all : List (List ℕ)) → bad_from channels number all ≡ None → (events : List Event) × (map event_line events ≡ all) × AllByRecursion (IsEvent channels) events
events_of channels number [] none = ([], refl, tt)
events_of channels number (line ∷ rest) none = elim (cases (event_of channels line)) [
  | inl bad ↦ absurd (none-some number (sym none ∙ ap (λ (o : Option Event). cond (is_none o) (Some number) (bad_from channels (suc number) rest)) bad))
  | inr some ↦
      let known = event_known channels line some.0 some.1 in
      let more = events_of channels (suc number) rest (sym (ap (λ (o : Option Event). cond (is_none o) (Some number) (bad_from channels (suc number) rest)) some.1) ∙ none) in
      (some.0 ∷ more.0, ap (λ l. l ∷ map event_line more.0) (sym known.1) ∙ ap (λ l. line ∷ l) more.1, (known.0, more.2))
]

abbrev ScriptOf : List ℕ → Type 0
ScriptOf text = (script : Script) × IsScriptText text script

opened_script : (text first : List ℕ) (rest : List (List ℕ)) (o : Opening) → lines text ≡ first ∷ rest → opening_of first ≡ Some o → bad_from o.channels 2 rest ≡ None → ScriptOf text
opened_script text first rest o lines_are is none =
    let known = opening_known first o is in
    let events = events_of o.channels 2 rest none in
    let script : Script = record { channels = o.channels; size = o.size; total = o.total; events = record { items = events.0; room = 0 } } in
    (script, record { lines_are = lines_are ∙ ap (λ l. l ∷ rest) known.1 ∙ ap (λ l. open_line o.channels o.size o.total ∷ l) (sym events.1); opening = known.0; events = events.2 })

script_in : (text : List ℕ) (all : List (List ℕ)) → lines text ≡ all → bad_line all ≡ None → ScriptOf text
script_in text [] lines_are none = absurd (none-some 1 (sym none))
script_in text (first ∷ rest) lines_are none = elim (cases (opening_of first)) [
  | inl bad ↦ absurd (none-some 1 (sym none ∙ ap (λ (o : Option Opening). bad_behind o rest) bad))
  | inr some ↦ opened_script text first rest some.0 lines_are some.1 (sym (ap (λ (o : Option Opening). bad_behind o rest) some.1) ∙ none)
]

pub script_or_bad_line : (text : List ℕ) → ScriptOf text ⊎ ((n : ℕ) × IsFirstBadLine text n)
script_or_bad_line text = elim (cases (bad_line (lines text))) [ inl none ↦ inl (script_in text (lines text) refl none) | inr some ↦ inr (some.0, first_bad_found text some.0 some.1) ]
