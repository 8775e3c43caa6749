-- What `clap` finds of the commands without options.
use Rattle.std.proofs.Common.{◌≡◌, ◌∙◌, ℕ, Bool, true, false, cond, List, [], ◌∷◌, map, refl, sym, ap, ap₂, Option, Some, None}
use Rattle.std.specs.Prelude.{codes, is_some}
use Rattle.std.proofs.lemmas.Bool.{and_from}
use Rattle.clap.specs.Words.{App, Rule, Text, built, is_simple}
use Rattle.clap.specs.Simple.{Shape}
use Rattle.clap.specs.Takes.{turn_passes, walk_passes}
use Rattle.clap.specs.Walk.{Held, Walk, idle, nothing_held, pushed, settled, walked}
use Rattle.job_text.specs.declared.words.UsageKind.{UsageKind}
use Rattle.job_text.specs.declared.words.UsageKind.TheVariants.{MissingOperand, BadValue}
use Rattle.job_text.specs.Words.{is_operand, whole_number, no_options_fault, operand_fault, number_fault, lines_fault}
use Rattle.job_text.specs.Matches.{bare, script_app, lines_app, script_values, lines_values}
use Rattle.job_text.proofs.NumberWords.{if_none}
use Rattle.job_text.proofs.ClapWalks.{Passes, between, plain_walked, plain_turn}

-- ---- `inspect`

pub inspect_simple : (name : Text) → is_simple (bare name) ≡ true
inspect_simple name = refl

pub inspect_passes : (name : Text) (words : List Text) → no_options_fault words ≡ None → Passes (bare name) words []
unfolding walk_passes
inspect_passes name [] none = record { end = nothing_held; position = 1; walks = refl; rows = refl; passes = refl; settles = refl; defaults = refl; valid = refl }
inspect_passes name (word ∷ words) none = absurd (cc)

-- ---- `script`

pub script_simple : is_simple script_app ≡ true
script_simple = refl

abbrev script_shape : Shape
script_shape = (built script_app).top

-- what is held of the one word
abbrev file_held : Text → Held
file_held file = pushed (codes "file") file nothing_held

file_passes : (file : Text) → is_operand file ≡ true → Passes script_app (file ∷ []) (script_values (file ∷ []))
unfolding walk_passes
file_passes file operand = record {
  end = file_held file;
  position = 2;
  walks = plain_walked script_shape.rules nothing_held idle 1 file operand;
  rows = refl;
  passes = and_from _ _ (plain_turn script_shape nothing_held idle 1 file operand refl) refl;
  settles = refl;
  defaults = refl;
  valid = refl;
}

pub script_passes : (words : List Text) → operand_fault no_options_fault words ≡ None → Passes script_app words (script_values words)
script_passes [] none = absurd (cc)
script_passes (file ∷ []) none = file_passes file (if_none (is_operand file) None MissingOperand none).0
script_passes (file ∷ word ∷ words) none =
    let operand = if_none (is_operand file) (no_options_fault (word ∷ words)) MissingOperand none in
    absurd (cc (operand.1))

-- ---- `gen` and `selfrun`

pub lines_simple : (name : Text) → is_simple (lines_app name) ≡ true
lines_simple name = refl

abbrev lines_shape : Text → Shape
lines_shape name = (built (lines_app name)).top

abbrev first_held : Text → Held
first_held lines = pushed (codes "lines") lines nothing_held

abbrev both_held : Text → Text → Text → Held
both_held name lines seed = pushed (codes "seed") seed (settled (lines_shape name).rules (first_held lines))

two_pass : (name lines seed : Text) → is_operand lines ≡ true → is_operand seed ≡ true → Passes (lines_app name) (lines ∷ seed ∷ []) (lines_values (lines ∷ seed ∷ []))
unfolding walk_passes
two_pass name lines seed first second =
    let shape = lines_shape name in
    let walks : walked shape.rules [] (between nothing_held idle 1) lines ≡ between (first_held lines) idle 2 = plain_walked shape.rules nothing_held idle 1 lines first in
    record {
      end = both_held name lines seed;
      position = 3;
      walks = ap (λ (w : Walk). walked shape.rules [] w seed) walks ∙ plain_walked shape.rules (first_held lines) idle 2 seed second;
      rows = refl;
      passes = and_from _ _ (plain_turn shape nothing_held idle 1 lines first refl)
          (and_from _ _ (ap (λ (w : Walk). turn_passes shape [] w seed) walks ∙ plain_turn shape (first_held lines) idle 2 seed second refl) refl);
      settles = refl;
      defaults = refl;
      valid = refl;
    }

operand_there : (most : ℕ) (fault : List Text → Option UsageKind) (word : Text) (words : List Text) → number_fault most fault (word ∷ words) ≡ None → (is_operand word ≡ true) × (fault words ≡ None)
operand_there most fault word words none =
    let operand = if_none (is_operand word) (cond (is_some (whole_number most word)) (fault words) (Some BadValue)) MissingOperand none in
    (operand.0, (if_none (is_some (whole_number most word)) (fault words) BadValue operand.1).1)

pub lines_passes : (name : Text) (words : List Text) → lines_fault words ≡ None → Passes (lines_app name) words (lines_values words)
lines_passes name [] none = absurd (cc)
lines_passes name (lines ∷ []) none =
    let first = operand_there 2000000 (number_fault 18446744073709551615 no_options_fault) lines [] none in
    absurd (cc (first.1))
lines_passes name (lines ∷ seed ∷ []) none =
    let first = operand_there 2000000 (number_fault 18446744073709551615 no_options_fault) lines (seed ∷ []) none in
    let second = operand_there 18446744073709551615 no_options_fault seed [] first.1 in
    two_pass name lines seed first.0 second.0
lines_passes name (lines ∷ seed ∷ word ∷ words) none =
    let first = operand_there 2000000 (number_fault 18446744073709551615 no_options_fault) lines (seed ∷ word ∷ words) none in
    let second = operand_there 18446744073709551615 no_options_fault seed (word ∷ words) first.1 in
    absurd (cc (second.1))
