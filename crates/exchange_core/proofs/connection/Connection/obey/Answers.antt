use Rattle.std.proofs.Common.{length, refl, ap, ◌∙◌}
use Rattle.credit_reader.specs.Readers as readers
use Rattle.credit_reader.specs.Senders.{reader_of, happened}
use Rattle.credit_reader.specs.Answers.{credit_answer, resume_answer}
use Rattle.script_text.specs.declared.event.Event.TheVariants as events
use Rattle.exchange_world.specs.Lanes.{channel_id}
use Rattle.exchange_core.specs.Exchanges.{world_of}
use Rattle.exchange_core.proofs.SameLanes.{no_error, credit_low, credit_taken, resumption_taken, grant_acted, resume_acted}
use Rattle.exchange_core.proofs.connection.Connection.obey.Goals as goal

pub add_credit-requires-clause-fits : goal.add_credit-requires-clause-fits
add_credit-requires-clause-fits c =
    let self = c.args.self.now in
    let arm = c.in-Some-AddCredit in
    let obeyed = (c.sound_takes_and_lends.ensures.takes (length self.lanes.items) (world_of self) c.requires.sound).obeyed in
    let answer = credit_taken self arm.field-0 c.pop_front.new.self.items arm.ensures.items arm.c arm.n arm.field-0-is obeyed in
    credit_low arm.n (reader_of (channel_id arm.c) self.readers.readers) answer

pub unreachable-requires : goal.unreachable-requires
unreachable-requires c =
    let self = c.args.self.now in
    let arm = c.in-Some-AddCredit in
    let obeyed = (c.sound_takes_and_lends.ensures.takes (length self.lanes.items) (world_of self) c.requires.sound).obeyed in
    let answer = credit_taken self arm.field-0 c.pop_front.new.self.items arm.ensures.items arm.c arm.n arm.field-0-is obeyed in
    no_error c.in_default.field-0 c.add_credit.result c.in_default.is
    (c.add_credit.ensures.answer ∙ ap (λ i. credit_answer arm.n (reader_of i self.readers.readers)) c.channel_id.ensures ∙ answer)

pub unreachable-requires-in_default-resume : goal.unreachable-requires-in_default-resume
unreachable-requires-in_default-resume c =
    let self = c.args.self.now in
    let arm = c.in-Some-Resumption in
    let obeyed = (c.sound_takes_and_lends.ensures.takes (length self.lanes.items) (world_of self) c.requires.sound).obeyed in
    let answer = resumption_taken self arm.field-0 c.pop_front.new.self.items arm.ensures.items arm.c arm.field-0-is obeyed in
    no_error c.in_default-resume.field-0 c.resume.result c.in_default-resume.is
    (c.resume.ensures.answer ∙ ap (λ i. resume_answer (reader_of i self.readers.readers)) c.channel_id-in-Some-Resumption.ensures ∙ answer)

pub returns-in-Ok : goal.returns-in-Ok
returns-in-Ok c =
    let self = c.args.self.now in
    let arm = c.in-Some-AddCredit in
    grant_acted self arm.field-0 c.pop_front.new.self.items arm.ensures.items _ c.requires (record { pool = refl; gate = refl; size = refl; total = refl; limit = refl }) refl refl refl
    (c.connections_stay_sound.ensures.steps (length self.lanes.items) (world_of self) events.Control c.requires.sound tt)
    arm.c arm.n arm.field-0-is (c.in-Ok.ensures.ok ∙ ap (λ i. happened i (readers.Granted arm.n) self.readers) c.channel_id.ensures)

pub returns-in-Ok-resume : goal.returns-in-Ok-resume
returns-in-Ok-resume c =
    let self = c.args.self.now in
    let arm = c.in-Some-Resumption in
    resume_acted self arm.field-0 c.pop_front.new.self.items arm.ensures.items _ c.requires (record { pool = refl; gate = refl; size = refl; total = refl; limit = refl }) refl refl refl
    (c.connections_stay_sound.ensures.steps (length self.lanes.items) (world_of self) events.Control c.requires.sound tt)
    arm.c arm.field-0-is (c.in-Ok-resume.ensures.ok ∙ ap (λ i. happened i readers.Resumed self.readers) c.channel_id-in-Some-Resumption.ensures)
