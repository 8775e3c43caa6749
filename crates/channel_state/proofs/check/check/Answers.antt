use Rattle.std.proofs.Common.{[], subst}
use Rattle.channel_state.specs.Outcomes.{Passes}
use Rattle.channel_state.proofs.TextLemmas.{image_passed, no_shape}
use Rattle.channel_state.proofs.check.check.Goals as goal

pub returns-in-Ok : goal.returns-in-Ok
returns-in-Ok c =
    subst (Passes [] c.check_body.result)
    (image_passed c.args.bytes.now c.mark.new.self.rest.now c.version.new.self.rest.now c.some.new.self.rest.now c.flag.new.self.rest.now c.text.new.self.rest.now c.in_ok-version.field-0 c.in_ok-some.field-0 c.in_ok-last.last c.in_ok-text.text.now
    c.in-Ok.shape c.in_ok-mark.ensures c.in_ok-version.ensures c.in_ok-some.ensures c.in_ok-last.ensures c.in_ok-text.ensures c.in-Ok.ensures.ok)
    c.check_body.ensures

pub returns-in-Err : goal.returns-in-Err
returns-in-Err c = absurd (no_shape c.flag.new.self.rest.now c.text.new.self.rest.now c.in_ok-text.text.now c.in-Err.field-0 c.in_ok-text.ensures c.in-Err.ensures.err)
