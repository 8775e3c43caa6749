-- Events under way: what a text's lines so far have made.
use Rattle.std.proofs.Common.{◌≡◌, ℕ, List, [], ◌∷◌, ◌++◌, map, refl, sym, ap, ◌∙◌, subst, None, append_assoc, append-nil}
use Rattle.std.specs.List.{AllByRecursion}
use Rattle.std.proofs.lemmas.List.{map-append}
use Rattle.flow_defs.specs.Lines.{lines}
use Rattle.script_text.specs.declared.event.Event.{Event}
use Rattle.script_text.specs.declared.event.Event.TheVariants.{Emit}
use Rattle.script_text.specs.declared.lines.EventLine.{EventLine}
use Rattle.script_text.specs.declared.reader.EventLines.{EventLines}
use Rattle.script_text.specs.Scripts.{IsEvent, event_line, contents}
use Rattle.script_text.specs.Reading.{lines_left, bad_left, told_event, event_of, TakesEvent}
use Rattle.script_text.proofs.Spellings.{event_known}
use Rattle.script_text.proofs.Faults.{all_push}

-- The events are those of the lines read so far, and no bad line is left.
pub record IsDraft (channels : ℕ) (text : List ℕ) (events : List Event) (reader : EventLines) : Type 0 where
  pub lines_are : lines text ≡ map event_line events ++ lines_left reader
  pub no_bad : bad_left reader ≡ None
  pub channels_are : reader.channels ≡ channels
  pub are_events : AllByRecursion (IsEvent channels) events

pub draft_end : (channels : ℕ) (text : List ℕ) (events : List Event) (reader : EventLines) → IsDraft channels text events reader → lines_left reader ≡ [] → map event_line events ≡ lines text
draft_end channels text events reader draft ended = sym (draft.lines_are ∙ ap (λ l. map event_line events ++ l) ended ∙ append-nil (map event_line events))

-- ---- one more event

line_of_contents : (e : Event) → event_line (contents e) ≡ event_line e
line_of_contents (Emit c text) = refl
line_of_contents e = refl

contents_are_event : (channels : ℕ) (e : Event) → IsEvent channels (contents e) → IsEvent channels e
contents_are_event channels (Emit c text) is = is
contents_are_event channels e is = is

event_contents : (channels : ℕ) (e : Event) → IsEvent channels e → IsEvent channels (contents e)
event_contents channels (Emit c text) is = is
event_contents channels e is = is

-- an event whose text is the one that the line tells
pub draft_more : (channels : ℕ) (text : List ℕ) (events : List Event) (old new : EventLines) (line : EventLine) (e : Event) → IsDraft channels text events old → TakesEvent old new line → contents e ≡ contents (told_event line) → IsDraft channels text (events ++ e ∷ []) new
draft_more channels text events old new line e draft takes same =
    let known = event_known channels takes.text (told_event line) (ap (λ m. event_of m takes.text) (sym draft.channels_are) ∙ takes.event_is) in
    let spelled : takes.text ≡ event_line e = known.1 ∙ sym (line_of_contents (told_event line)) ∙ ap event_line (sym same) ∙ line_of_contents e in
    record {
      lines_are = draft.lines_are ∙ ap (λ l. map event_line events ++ l) takes.lines_are ∙ ap (λ t. map event_line events ++ t ∷ lines_left new) spelled ∙ sym (append_assoc (map event_line events) (event_line e ∷ []) (lines_left new)) ∙ ap (λ l. l ++ lines_left new) (sym (map-append event_line events (e ∷ [])));
      no_bad = sym takes.bad ∙ draft.no_bad;
      channels_are = takes.channels ∙ draft.channels_are;
      are_events = all_push (IsEvent channels) events e draft.are_events (contents_are_event channels e (subst (IsEvent channels) (sym same) (event_contents channels (told_event line) known.0)));
    }
