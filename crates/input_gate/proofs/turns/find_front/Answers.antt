use Rattle.std.proofs.Common.{rules, ◌≡◌, ◌++◌, ◌∷◌, ◌∙◌, [], length, suc, false, ap, subst}
use Rattle.std.specs.Prelude.{MatchOption, IfSome, IfNone}
use Rattle.turn_cell.specs.History.{entries_of}
use Rattle.turn_cell.specs.Passes.{mine}
use Rattle.flow_defs.specs.declared.parcel.Parcel.TheVariants as parcels
use Rattle.flow_defs.specs.declared.task.BarrierKind.TheVariants.{Front}
use Rattle.flow_defs.specs.Parcels.{barriers_of}
use Rattle.input_channel.specs.declared.entry.Gave.TheVariants.{NoBuffer}
use Rattle.input_channel.specs.declared.entry.ReceiveEntry.TheVariants.{Poll}
use Rattle.input_channel.specs.Counts.{freed}
use Rattle.input_gate.specs.Turning.{Looked, looks_of, given_to, given_in}
use Rattle.input_gate.proofs.TurnLaws.{later_then, later_once, later_same, looks_once, looks_same, when_true, when_false}
use Rattle.input_gate.proofs.turns.find_front.Goals as goal

pub returns-then-is_current-clause-later : goal.returns-then-is_current-clause-later
returns-then-is_current-clause-later g c = later_once c.args.pass.now c.is_current.new.pass c.is_current.ensures.pass.2 (when_true c.args.pass.now c.is_current.new.pass c.is_current.result c.if-is_current.true c.is_current.ensures.looked)

pub returns-then-is_current-clause-given : goal.returns-then-is_current-clause-given
returns-then-is_current-clause-given g c = ap given_in c.is_current.ensures.pass.2

pub returns-then-is_current-clause-looked : goal.returns-then-is_current-clause-looked
returns-then-is_current-clause-looked g c = looks_once c.args.pass.now c.is_current.new.pass c.is_current.ensures.pass.2 (when_true c.args.pass.now c.is_current.new.pass c.is_current.result c.if-is_current.true c.is_current.ensures.looked) (c.requires.clear (search rules))

pub returns-clause-later : goal.returns-clause-later
returns-clause-later g c = later_then c.args.pass.now c.is_current.new.pass c.take_front-2.new.pass (later_same c.args.pass.now c.is_current.new.pass c.is_current.ensures.pass.2 (when_false c.args.pass.now c.is_current.new.pass c.is_current.result c.if-is_current.false c.is_current.ensures.looked)) c.take_front-2.ensures.later

pub returns-clause-given : goal.returns-clause-given
returns-clause-given g c = subst (λ z. MatchOption c.take_front-2.result (given_to c.take_front-2.new.pass ≡ z) (λ k. given_to c.take_front-2.new.pass ≡ z ++ parcels.Barrier k Front ∷ [])) (ap given_in c.is_current.ensures.pass.2) c.take_front-2.ensures.given

pub returns-clause-entered : goal.returns-clause-entered
returns-clause-entered g c = subst (λ z. MatchOption c.take_front-2.result (mine c.take_front-2.new.pass ≡ z) (λ k. mine c.take_front-2.new.pass ≡ z ++ Poll false NoBuffer ∷ [])) c.is_current.ensures.pass.1.1 c.take_front-2.ensures.entered

pub returns-clause-numbered : goal.returns-clause-numbered
returns-clause-numbered g c = subst (λ z. IfSome c.take_front-2.result (λ k. k ≡ suc (length (barriers_of z)))) (ap given_in c.is_current.ensures.pass.2) c.take_front-2.ensures.numbered

pub returns-clause-looked : goal.returns-clause-looked
returns-clause-looked g c = subst (λ z. IfNone c.take_front-2.result (Looked z (looks_of c.take_front-2.new.pass))) (looks_same c.args.pass.now c.is_current.new.pass c.is_current.ensures.pass.2 (when_false c.args.pass.now c.is_current.new.pass c.is_current.result c.if-is_current.false c.is_current.ensures.looked)) c.take_front-2.ensures.looked

pub returns-then-is_current-clause-freed : goal.returns-then-is_current-clause-freed
returns-then-is_current-clause-freed g c = ap (λ s. freed (entries_of s)) c.is_current.ensures.pass.2

pub returns-clause-freed : goal.returns-clause-freed
returns-clause-freed g c = c.take_front-2.ensures.freed ∙ ap (λ s. freed (entries_of s)) c.is_current.ensures.pass.2
