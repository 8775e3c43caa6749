-- Which fault the parts of a script have: its file, its text, and the pool that it opens a connection with.
use Rattle.std.specs.Prelude.{⊤, ℕ, ◌<◌, List, length, Option, IfSome}
use Rattle.script_text.specs.declared.event.Script.{Script}
use Rattle.script_text.specs.ScriptFaults.{IsFirstBadLine}
use Rattle.script_command.specs.Limits.{script_max}
use Rattle.command_parts.specs.declared.fault.Fault.{Fault}
use Rattle.command_parts.specs.declared.fault.Fault.TheVariants.{ScriptLine, ScriptInput, LongScript, TooFewSegments, Memory}
use Rattle.script_command.specs.Scripts.{HasTooFew}

-- The file has this fault: its bytes, where they are told, are too many, or it is another one.
abbrev pub IsScriptFileFault : Option (List ℕ) → Fault → Type 0
IsScriptFileFault contents LongScript = IfSome contents (λ text. script_max < length text)
IsScriptFileFault contents ScriptInput = ⊤
IsScriptFileFault contents Memory = ⊤
IsScriptFileFault contents fault = ⊥

-- The text has this fault.
abbrev pub IsLineFault : List ℕ → Fault → Type 0
IsLineFault text (ScriptLine line) = IsFirstBadLine text line
IsLineFault text Memory = ⊤
IsLineFault text fault = ⊥

-- The script has this fault.
abbrev pub IsPoolFault : Script → Fault → Type 0
IsPoolFault script (TooFewSegments have need) = HasTooFew script have need
IsPoolFault script Memory = ⊤
IsPoolFault script fault = ⊥
