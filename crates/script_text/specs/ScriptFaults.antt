-- What is wrong with a text that should be a script's: its first bad line. What is told of a faulty
-- text is this project's own choice.
-- A bad line is the first with which the lines begin no script, so nothing is said of how lines are read.
use Rattle.std.specs.Prelude.{◌≡◌, ℕ, suc, List, [], ◌∷◌, ◌++◌, length}
use Rattle.std.specs.List.{AllByRecursion}
use Rattle.flow_defs.specs.Lines.{lines}
use Rattle.script_text.specs.declared.event.Event.{Event}
use Rattle.script_text.specs.Scripts.{open_line, event_line, IsOpening, IsEvent}

-- The line opens an exchange of so many channels.
pub record IsOpenLine (channels : ℕ) (line : List ℕ) : Type 0 where
  pub size : ℕ
  pub total : ℕ
  pub opening : IsOpening channels size total
  pub line_is : line ≡ open_line channels size total

-- The line is that of some event in an exchange of so many channels.
pub record IsEventLine (channels : ℕ) (line : List ℕ) : Type 0 where
  pub event : Event
  pub is_event : IsEvent channels event
  pub line_is : line ≡ event_line event

-- The lines begin a script: there are none, or the first opens an exchange and each other is an event's.
abbrev pub BeginsScript : List (List ℕ) → Type 0
BeginsScript [] = Unit {0}
BeginsScript (first ∷ events) = (channels : ℕ) × IsOpenLine channels first × AllByRecursion (IsEventLine channels) events

-- What stands behind lines that begin a script begins with a bad line: with that line they begin none.
-- A text that has no line lacks its first.
abbrev pub IsBadBehind : List (List ℕ) → List (List ℕ) → Type 0
IsBadBehind before [] = before ≡ []
IsBadBehind before (line ∷ rest) = BeginsScript (before ++ line ∷ []) → ⊥

-- The line with this number, counted from 1, is the first bad one: the lines before it begin a script,
-- and with it they don't.
pub record IsFirstBadLine (text : List ℕ) (number : ℕ) : Type 0 where
  pub before : List (List ℕ)
  pub rest : List (List ℕ)
  pub lines_are : lines text ≡ before ++ rest
  pub number_is : number ≡ suc (length before)
  pub begins : BeginsScript before
  pub bad : IsBadBehind before rest
