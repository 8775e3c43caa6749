-- How `clap` walks over words that are accepted, and which rows it comes to.
use Rattle.std.proofs.Common.{◌≡◌, ◌∙◌, ◌++◌, ℕ, Bool, true, false, cond, not, ◌&&◌, ◌||◌, eqb, List, [], ◌∷◌, map, append-nil, append_assoc, refl, sym, ap, ap₂, subst, Option, Some, None, Result, Ok, Err}
use Rattle.std.specs.Prelude.{bytes_eq, codes, find, is_some, option_map, option_and_then, slice_get, fold, IfOk, IfErr, MatchResult}
use Rattle.std.specs.List.{list_all}
use Rattle.std.specs.Option.{option_map_or}
use Rattle.std.proofs.lemmas.Bool.{and_from}
use Rattle.clap.specs.Words.{App, HasMatchesOf, Row, Rule, Text, built, first_of, first_value, found_of, is_simple, kind_of, matches_of, new_rule, rows_of, takes}
use Rattle.clap.specs.Lexer.{long_of, short_of}
use Rattle.clap.specs.Simple.{Shape, argument_words, entered, filled, names_of}
use Rattle.clap.specs.Takes.{bundle_passes, default_passes, entered_passes, flag_word_passes, is_valid, settle_passes, step_passes, turn_passes, walk_passes}
use Rattle.clap.specs.Walk.{Held, Walk, Waiting, Step, idle, option, positional, value, trailing, after_step, at_row, default_rows, finished, has_row, long_or_other, more_values, nothing_held, plain_word, reading_by, settled, short_or_plain, walk, walk_from, walked, with_default, with_values, without, word_met}
use Rattle.clap.specs.declared.error.Error.{Error}
use Rattle.clap.specs.declared.error.ErrorKind.TheVariants.{OutOfMemory}
use Rattle.clap.specs.declared.parser.ArgMatches.{ArgMatches}
use Rattle.clap.specs.declared.parser.ValueSource.TheVariants.{CommandLine}
use Rattle.clap.proofs.WalkLemmas.{first_value-rows}
use Rattle.job_text.specs.Words.{is_operand}
use Rattle.job_text.specs.Matches.{Values, value_of, HasValues}

-- ---- rows of one value each

-- the row of one value
abbrev pub row : Text × Text → Row
row v = record { id = v.0; values = v.1 ∷ []; count = None; source = Some CommandLine; reading = reading_by (filled (new_rule [])) }

pub row_push : (values : Values) (v : Text × Text) → map row (values ++ v ∷ []) ≡ map row values ++ row v ∷ []
row_push [] v = refl
row_push (first ∷ values) v = ap (λ rows. row first ∷ rows) (row_push values v)

-- what is done to the row of a name that has none
new_row : (name : Text) (change : Row → List Row) (more : List Row) (values : Values) → value_of values name ≡ None → at_row name change more (map row values) ≡ map row values ++ more
new_row name change more [] none = refl
new_row name change more (v ∷ values) none = go (bytes_eq v.0 name) (new_row name change more values) none
  where
    go : (b : Bool) → (value_of values name ≡ None → at_row name change more (map row values) ≡ map row values ++ more)
        → option_map (λ (w : Text × Text). w.1) (cond b (Some v) (find (λ w. bytes_eq w.0 name) values)) ≡ None
        → cond b (change (row v) ++ map row values) (row v ∷ at_row name change more (map row values)) ≡ row v ∷ (map row values ++ more)
    go true rest none = absurd (cc)
    go false rest none = ap (λ rows. row v ∷ rows) (rest none)

-- the rows when an argument of this name is used with a value
abbrev pub used_once : Text → Text → List Row → List Row
used_once name text rows = with_values name (reading_by (filled (new_rule []))) CommandLine (text ∷ []) (without name rows)

-- a value of a name that has none is put behind the others
pub used_row : (name text : Text) (values : Values) → value_of values name ≡ None → used_once name text (map row values) ≡ map row (values ++ (name, text) ∷ [])
used_row name text values none =
    ap (with_values name (reading_by (filled (new_rule []))) CommandLine (text ∷ [])) (new_row name (λ _. []) [] values none ∙ append-nil (map row values))
    ∙ new_row name (more_values CommandLine (text ∷ [])) (row (name, text) ∷ []) values none
    ∙ sym (row_push values (name, text))

-- a name without a value has no row
pub no_row_yet : (name : Text) (values : Values) → value_of values name ≡ None → has_row name (map row values) ≡ false
no_row_yet name [] none = refl
no_row_yet name (v ∷ values) none = go (bytes_eq v.0 name) (no_row_yet name values) none
  where
    go : (b : Bool) → (value_of values name ≡ None → has_row name (map row values) ≡ false) → option_map (λ (w : Text × Text). w.1) (cond b (Some v) (find (λ w. bytes_eq w.0 name) values)) ≡ None → (b || has_row name (map row values)) ≡ false
    go true rest none = absurd (cc)
    go false rest none = rest none

-- ---- rules without defaults

abbrev pub HaveNoDefaults : List Rule → Type 0
HaveNoDefaults [] = Unit {0}
HaveNoDefaults (a ∷ rules) = (a.defaults ≡ []) × HaveNoDefaults rules

no_default : (rows : List Row) (a : Rule) → a.defaults ≡ [] → with_default rows a ≡ rows
no_default rows a none = go (has_row a.id rows)
  where
    go : (b : Bool) → cond b rows (default_rows a.id (reading_by a) a.defaults rows) ≡ rows
    go true = refl
    go false = ap (λ defaults. default_rows a.id (reading_by a) defaults rows) none

pub no_defaults : (rules : List Rule) (rows : List Row) → HaveNoDefaults rules → fold with_default rows rules ≡ rows
no_defaults [] rows none = refl
no_defaults (a ∷ rules) rows none = ap (λ kept. fold with_default kept rules) (no_default rows a none.0) ∙ no_defaults rules rows none.1

-- ---- what the getters read

row_value : (name : Text) (values : Values) → first_of name (map row values) ≡ value_of values name
row_value name [] = refl
row_value name (v ∷ values) = go (bytes_eq v.0 name) (row_value name values)
  where
    go : (b : Bool) → first_of name (map row values) ≡ value_of values name
        → option_and_then (λ (r : Row). slice_get r.values 0) (cond b (Some (row v)) (find (λ r. bytes_eq r.id name) (map row values))) ≡ option_map (λ (w : Text × Text). w.1) (cond b (Some v) (find (λ w. bytes_eq w.0 name) values))
    go true rest = refl
    go false rest = rest

values_found : (app : App) (words : List Text) (found : ArgMatches) (values : Values) → is_simple app ≡ true → HasMatchesOf app words found → matches_of app words ≡ map row values → HasValues values found
values_found app words found values simple matches is = λ name. first_value-rows (found_of found) name ∙ ap (first_of name) ((matches simple).0 ∙ is) ∙ row_value name values

found_in : (app : App) (words : List Text) (r : Result ArgMatches Error) (values : Values) → is_simple app ≡ true → matches_of app words ≡ map row values → takes app words ≡ true
    → IfOk r (HasMatchesOf app words) → IfErr r (λ e. takes app words ≡ true → kind_of e ≡ OutOfMemory) → MatchResult r (HasValues values) (λ e. kind_of e ≡ OutOfMemory)
found_in app words (Ok found) values simple is taken matches passes = values_found app words found values simple matches is
found_in app words (Err e) values simple is taken matches passes = passes taken

-- ---- when words are taken

-- between two words, in front of `--`
abbrev pub between : Held → Waiting → ℕ → Walk
between h waiting position = record { held = h; waiting = waiting; position = position; is_trailing = false; stopped = None }

-- a walk that ends between two words, and passes
pub record Passes (app : App) (words : List Text) (values : Values) : Type 0 where
  pub end : Held
  pub position : ℕ
  pub walks : walk (built app).top.rules (names_of (built app)) nothing_held (argument_words app words) ≡ between end idle position
  pub rows : finished (built app).top.rules end ≡ map row values
  pub passes : walk_passes (built app).top (names_of (built app)) (walk_from nothing_held) (argument_words app words) ≡ true
  pub settles : settle_passes (built app).top.rules (built app).top.args_override_self end ≡ true
  pub defaults : list_all default_passes (built app).top.rules ≡ true
  pub valid : is_valid (built app).top (map row values) false ≡ true

rows_found : (app : App) (words : List Text) (values : Values) → Passes app words values → matches_of app words ≡ map row values
rows_found app words values is = ap (λ (w : Walk). finished (built app).top.rules w.held) is.walks ∙ is.rows

words_taken : (app : App) (words : List Text) (values : Values) → is_simple app ≡ true → Passes app words values → takes app words ≡ true
words_taken app words values simple is =
    let rules = (built app).top.rules in
    let stop : (walk rules (names_of (built app)) nothing_held (argument_words app words)).stopped ≡ None = ap (λ (w : Walk). w.stopped) is.walks in
    let held : (walk rules (names_of (built app)) nothing_held (argument_words app words)).held ≡ is.end = ap (λ (w : Walk). w.held) is.walks in
    let valid : is_valid (built app).top (finished rules is.end) false ≡ true = ap (λ rows. is_valid (built app).top rows false) is.rows ∙ is.valid in
    and_from _ _ simple (and_from _ _ (ap (entered_passes (built app)) stop)
    (and_from _ _ is.passes
    (and_from _ _ (ap (settle_passes rules (built app).top.args_override_self) held ∙ is.settles)
    (and_from _ _ is.defaults (ap₂ (λ (h : Held) (s : Option (Text × List Text)). is_valid (built app).top (finished rules h) (is_some (entered (built app) s))) held stop ∙ valid)))))

-- what is made of the words by a command that is made as clap is told of it
pub found_by : (made app : App) (words : List Text) (r : Result ArgMatches Error) (values : Values) → made ≡ app → is_simple app ≡ true → Passes app words values
    → IfOk r (HasMatchesOf made words) → IfErr r (λ e. takes made words ≡ true → kind_of e ≡ OutOfMemory) → MatchResult r (HasValues values) (λ e. kind_of e ≡ OutOfMemory)
found_by made app words r values same simple passes matches refuses =
    found_in app words r values simple (rows_found app words values passes) (words_taken app words values simple passes)
    (subst (λ (a : App). IfOk r (HasMatchesOf a words)) same matches) (subst (λ (a : App). IfErr r (λ e. takes a words ≡ true → kind_of e ≡ OutOfMemory)) same refuses)

-- ---- words that are no option

not_dash : (b : Bool) → not b ≡ true → b ≡ false
not_dash true is = absurd (cc)
not_dash false is = refl

no_dashes : (word : Text) → is_operand word ≡ true → bytes_eq word (45 ∷ 45 ∷ []) ≡ false
no_dashes [] operand = refl
no_dashes (b ∷ word) operand = let dash : eqb b 45 ≡ false = not_dash (eqb b 45) operand in rw dash refl

no_long : (word : Text) → is_operand word ≡ true → long_of word ≡ None
no_long [] operand = refl
no_long (b ∷ word) operand = let dash : eqb b 45 ≡ false = not_dash (eqb b 45) operand in rw dash refl

no_short : (word : Text) → is_operand word ≡ true → short_of word ≡ None
no_short [] operand = refl
no_short (b ∷ word) operand = let dash : eqb b 45 ≡ false = not_dash (eqb b 45) operand in rw dash refl

module _ (rules : List Rule) where
  other_met : (waiting : Waiting) (position : ℕ) (word : Text) (h : Held) → is_operand word ≡ true
      → cond (bytes_eq word (45 ∷ 45 ∷ [])) (h, trailing position) (long_or_other rules waiting word (long_of word) h) ≡ plain_word rules waiting word h
  other_met waiting position word h operand =
      ap (λ b. cond b (h, trailing position) (long_or_other rules waiting word (long_of word) h)) (no_dashes word operand)
      ∙ ap (λ o. long_or_other rules waiting word o h) (no_long word operand)
      ∙ ap (λ o. short_or_plain rules waiting word o h) (no_short word operand)

  word_is_plain : (waiting : Waiting) (position : ℕ) (word : Text) (h : Held) → is_operand word ≡ true → word_met rules [] false waiting position word h ≡ plain_word rules waiting word h
  word_is_plain idle position word h operand = other_met idle position word h operand
  word_is_plain (option id) position word h operand = other_met (option id) position word h operand
  word_is_plain positional position word h operand = other_met positional position word h operand

  pub plain_walked : (h : Held) (waiting : Waiting) (position : ℕ) (word : Text) → is_operand word ≡ true
      → walked rules [] (between h waiting position) word ≡ after_step rules word (between h waiting position) (plain_word rules waiting word h).0 (plain_word rules waiting word h).1
  unfolding walked
  plain_walked h waiting position word operand = ap (λ (met : Held × Step). after_step rules word (between h waiting position) met.0 met.1) (word_is_plain waiting position word h operand)

  dashes_pass : (again : Bool) (word : Text) (h : Held) → is_operand word ≡ true → (bytes_eq word (45 ∷ 45 ∷ []) || flag_word_passes rules again (long_of word) word h) ≡ true
  dashes_pass again word h operand =
      ap (λ b. b || flag_word_passes rules again (long_of word) word h) (no_dashes word operand)
      ∙ ap (λ o. flag_word_passes rules again o word h) (no_long word operand)
      ∙ ap (λ o. option_map_or (λ flags. bundle_passes rules again flags h) o true) (no_short word operand)

module _ (s : Shape) where
  pub plain_turn : (h : Held) (waiting : Waiting) (position : ℕ) (word : Text) → is_operand word ≡ true
      → step_passes s position (plain_word s.rules waiting word h).0 (plain_word s.rules waiting word h).1 ≡ true → turn_passes s [] (between h waiting position) word ≡ true
  plain_turn h idle position word operand steps = and_from _ _ (dashes_pass s.rules s.args_override_self word h operand) (ap (λ (met : Held × Step). step_passes s position met.0 met.1) (word_is_plain s.rules idle position word h operand) ∙ steps)
  plain_turn h (option id) position word operand steps = and_from _ _ (dashes_pass s.rules s.args_override_self word h operand) (ap (λ (met : Held × Step). step_passes s position met.0 met.1) (word_is_plain s.rules (option id) position word h operand) ∙ steps)
  plain_turn h positional position word operand steps = and_from _ _ (dashes_pass s.rules s.args_override_self word h operand) (ap (λ (met : Held × Step). step_passes s position met.0 met.1) (word_is_plain s.rules positional position word h operand) ∙ steps)
