use Rattle.std.proofs.Common.{◌≡◌, ◌+◌, length, refl, sym, ap, ◌∙◌, arith}
use Rattle.credit_reader.specs.declared.reader.Told.{Told}
use Rattle.credit_reader.specs.Answers.{due_first}
use Rattle.script_text.specs.declared.event.Event.TheVariants as events
use Rattle.exchange_world.specs.Steps.{number_of}
use Rattle.exchange_core.specs.Exchanges.{world_of}
use Rattle.exchange_core.proofs.SameLanes.{told_by, announce_acted}
use Rattle.exchange_core.proofs.connection.Connection.announce.Goals as goal

pub overflow_add-c : goal.overflow_add-c
overflow_add-c c =
    let self = c.args.self.now in
    let told = told_by (due_first self.readers) c.in-Some.field-0 (sym c.announce.ensures.answer ∙ c.in-Some.is) in
    let of = c.sound_has_turns.ensures.numbers (length self.lanes.items) (world_of self) told.0 c.requires.sound told.1 in
    let is : number_of told.0.channel ≡ number_of c.in-Some.field-0.channel = ap (λ (t : Told). number_of t.channel) told.2 in
    omega (arith, of.1, is, c.requires.sound.opening.opening.few_channels)

pub returns : goal.returns
returns c =
    let self = c.args.self.now in
    let told = told_by (due_first self.readers) c.in-Some.field-0 (sym c.announce.ensures.answer ∙ c.in-Some.is) in
    announce_acted self _ c.in-Some.field-0 (c.in-Some.field-0.channel.from + 1) c.requires (record { pool = refl; gate = refl; size = refl; total = refl; limit = refl }) refl told.0 told.1 told.2 (omega arith)
    c.announce.ensures.told c.in_ok-push_back.ensures.items refl (c.connections_stay_sound.ensures.steps (length self.lanes.items) (world_of self) events.Announce c.requires.sound tt)
