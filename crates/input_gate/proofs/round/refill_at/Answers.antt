use Rattle.std.proofs.Common.{◌≡◌, ◌∙◌, ap, refl, Bool, true, true≢false, not, Option, Some, None}
use Rattle.std.specs.Option.{is_some}
use Rattle.input_gate.specs.declared.lane.Lane.{Lane}
use Rattle.input_gate.proofs.RoundLaws.{quiet_all, quiet_set, at_get, at_there, here_given}
use Rattle.input_gate.proofs.SegmentLaws.{even_refl, even_set}
use Rattle.input_gate.proofs.round.refill_at.Goals as goal

none_of : {A : Type 0} (x : Option A) (is_none : Bool) → is_some x ≡ not is_none → is_none ≡ true → x ≡ None
none_of None is_none e is = refl
none_of (Some a) is_none e is = absurd (true≢false (e ∙ ap not is))

pub returns-then-is_none-clause-quiet : goal.returns-then-is_none-clause-quiet
returns-then-is_none-clause-quiet g c = quiet_all c.args.lanes.now.items

pub returns-then-is_none-clause-here : goal.returns-then-is_none-clause-here
returns-then-is_none-clause-here g c =
    at_get (λ (lane : Lane). lane.spare) None c.args.lanes.now.items c.args.at _ c.index.result.now c.index.ensures c.requires.within
    ∙ none_of c.index.result.now.spare c.is_none.result c.is_none.ensures c.if-is_none.true

pub returns-clause-quiet : goal.returns-clause-quiet
returns-clause-quiet g c = quiet_set c.args.lanes.now.items c.args.at _ c.index_mut.result.now c.refill.new.lane c.index_mut.ensures.value c.requires.within c.refill.ensures.quiet

pub returns-clause-here : goal.returns-clause-here
returns-clause-here g c = here_given _ c.args.lanes.now.items c.args.at _ c.index_mut.result.now c.refill.new.lane c.index_mut.ensures.value c.requires.within c.requires.lanes c.refill.result c.refill.ensures.spare

pub returns-clause-others : goal.returns-clause-others
returns-clause-others g c d ne = at_there (λ (lane : Lane). lane.spare) None c.args.lanes.now.items c.args.at d c.refill.new.lane ne

pub returns-then-is_none-clause-segments : goal.returns-then-is_none-clause-segments
returns-then-is_none-clause-segments g c = even_refl _ _ _

pub returns-clause-segments : goal.returns-clause-segments
returns-clause-segments g c = even_set c.args.lanes.now.items c.args.at _ c.index_mut.result.now c.refill.new.lane c.index_mut.ensures.value c.requires.within c.refill.ensures.segments
