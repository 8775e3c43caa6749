-- What holds of every text of a script.
use Rattle.std.specs.Prelude.{◌≡◌, ◌⊎◌, ℕ, List}
use Rattle.script_text.specs.declared.event.Script.{Script}
use Rattle.script_text.specs.Scripts.{IsScriptText, IsSameScript}
use Rattle.script_text.specs.ScriptFaults.{IsFirstBadLine}

-- A text of a script has no bad line.
abbrev pub ScriptTextHasNoBadLine : Type 0
ScriptTextHasNoBadLine = (text : List ℕ) (script : Script) (number : ℕ) → IsScriptText text script → IsFirstBadLine text number → ⊥

-- All scripts of a text are the same.
abbrev pub ScriptTextIsOfOneScript : Type 0
ScriptTextIsOfOneScript = (text : List ℕ) (script other : Script) → IsScriptText text script → IsScriptText text other → IsSameScript script other

-- A text has one first bad line at most.
abbrev pub FirstBadLineIsOne : Type 0
FirstBadLineIsOne = (text : List ℕ) (number other : ℕ) → IsFirstBadLine text number → IsFirstBadLine text other → number ≡ other

-- Each text is a script's or has a bad line.
abbrev pub TextIsScriptOrHasBadLine : Type 0
TextIsScriptOrHasBadLine = (text : List ℕ) → ((script : Script) × IsScriptText text script) ⊎ ((number : ℕ) × IsFirstBadLine text number)
