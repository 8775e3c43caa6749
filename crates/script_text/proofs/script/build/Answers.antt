use Rattle.std.proofs.Common.{◌≡◌, ap, sym, ◌∙◌, subst, rules}
use Rattle.script_text.specs.declared.event.Event.TheVariants.{Emit}
use Rattle.script_text.specs.declared.lines.EventLine.{EventLine}
use Rattle.script_text.specs.Scripts.{contents}
use Rattle.script_text.specs.Reading.{told_event, TakesEvent}
use Rattle.script_text.proofs.Drafts.{IsDraft, draft_more}
use Rattle.script_text.proofs.script.build.Goals as goal
use Rattle.script_text.proofs.script.build.Goals.{in-Emit+in_ok-of-in-Emit, in-Other}

pub lines-preserved : goal.lines-preserved
lines-preserved c =
    let same : contents c.match-line.event ≡ contents (told_event c.in-Some.line) = elim c.match-line.branch [
      | in-Emit+in_ok-of-in-Emit w ↦ ap contents w.event-is ∙ ap (λ bytes. Emit w.in-Emit.c (record { items = bytes; room = 0 })) w.in_ok-of-in-Emit.ensures ∙ ap (λ (l : EventLine). contents (told_event l)) (sym w.in-Emit.is)
      | in-Other w ↦ ap contents w.event-is ∙ ap (λ (l : EventLine). contents (told_event l)) (sym w.in-Other.is)
    ] in
    let takes : TakesEvent c.lines.lines c.next.new.self c.in-Some.line = search rules in
    subst (λ events. IsDraft c.args.channels c.args.rest.now events c.next.new.self) (sym c.in_ok-push.ensures.ok)
    (draft_more c.args.channels c.args.rest.now c.lines.events.items c.lines.lines c.next.new.self c.in-Some.line c.match-line.event c.lines.invariant takes same)
