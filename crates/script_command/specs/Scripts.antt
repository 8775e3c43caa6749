-- What is done with a script, and why it is refused. The command, its limit and its faults are this
-- project's own choice; what the events do is Flink's credit-based flow control.
use Rattle.std.specs.Prelude.{◌≡◌, ◌⊎◌, ⊤, ℕ, ◌*◌, ◌<◌, ◌≤◌, length, List, Option, Some, IfSome}
use Rattle.job_text.specs.Words.{IsScript}
use Rattle.script_text.specs.declared.event.Script.{Script}
use Rattle.script_text.specs.Scripts.{IsScriptText}
use Rattle.script_text.specs.ScriptFaults.{IsFirstBadLine}
use Rattle.script_text.specs.Replies.{replies_text}
use Rattle.exchange_world.specs.Worlds.{opened}
use Rattle.exchange_world.specs.Steps.{replies_to}
use Rattle.script_command.specs.Limits.{script_max}
use Rattle.command_parts.specs.declared.fault.Fault.{Fault}
use Rattle.command_parts.specs.declared.fault.Fault.TheVariants.{ScriptLine, ScriptInput, LongScript, TooFewSegments, Memory}

-- What is replied to a script's events, as it is printed: the connection is opened, and they happen in order.
abbrev pub printed_replies : Script → List ℕ
printed_replies script = replies_text (replies_to (opened script.channels script.size script.total) script.events.items)

-- There are four segments for each channel of the script's connection.
abbrev pub HasEnough : Script → Type 0
HasEnough script = 4 * script.channels ≤ script.total

-- There are fewer: so many, where so many are needed.
pub record HasTooFew (script : Script) (have need : ℕ) : Type 0 where
  pub have_is : have ≡ script.total
  pub need_is : need ≡ 4 * script.channels
  pub few : have < need

-- The text is within its limit and of a script that has P.
abbrev pub IsScriptWith : (Script → Type 0) → List ℕ → Type 0
IsScriptWith P text = (length text ≤ script_max) × ((script : Script) × IsScriptText text script × P script)

-- The text is within its limit, and the line with this number is its first bad one.
abbrev pub HasBadLine : ℕ → List ℕ → Type 0
HasBadLine line text = (length text ≤ script_max) × IsFirstBadLine text line

-- The words are `script` and a file, and its bytes, where they are told, have P.
abbrev pub NamesScript : List (List ℕ) → (List ℕ → Option (List ℕ)) → (List ℕ → Type 0) → Type 0
NamesScript words contents P = (file : List ℕ) × IsScript words file × IfSome (contents file) P

-- The bytes are those of a script that has enough segments, and P holds of what is replied to it.
abbrev pub Replies : (List ℕ → Type 0) → List ℕ → Type 0
Replies P text = IsScriptWith (λ script. HasEnough script × P (printed_replies script)) text

-- The words name a script that has enough segments, and P holds of what is replied to it.
abbrev pub ScriptRunsTo : List (List ℕ) → (List ℕ → Option (List ℕ)) → (List ℕ → Type 0) → Type 0
ScriptRunsTo words contents P = NamesScript words contents (Replies P)

-- A file with these bytes, where they are told, has this fault as a script.
abbrev pub IsScriptFault : Option (List ℕ) → Fault → Type 0
IsScriptFault contents ScriptInput = ⊤
IsScriptFault contents LongScript = IfSome contents (λ text. script_max < length text)
IsScriptFault contents (ScriptLine line) = IfSome contents (HasBadLine line)
IsScriptFault contents (TooFewSegments have need) = IfSome contents (IsScriptWith (λ script. HasTooFew script have need))
IsScriptFault contents Memory = ⊤
IsScriptFault contents fault = ⊥

-- The words name a script, and these are told to be its bytes.
pub record TellsScript (words : List (List ℕ)) (contents : List ℕ → Option (List ℕ)) (text : List ℕ) : Type 0 where
  pub file : List ℕ
  pub is_script : IsScript words file
  pub told : contents file ≡ Some text

-- The bytes are within their limit, and have a first bad line.
abbrev pub IsNoScript : List ℕ → Type 0
IsNoScript text = (line : ℕ) × HasBadLine line text

-- The bytes are over their limit, or those of a script that has too few segments.
abbrev pub PassesScriptLimit : List ℕ → Type 0
PassesScriptLimit text = (script_max < length text) ⊎ IsScriptWith (λ script. script.total < 4 * script.channels) text
