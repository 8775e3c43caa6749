use Rattle.std.proofs.Common.{rules, tests, ◌==◌, not, ◌++◌, length, filter, ap, ◌∙◌}
use Rattle.std.proofs.lemmas.Iterator.Splits.{YieldsList-from_slice_split}
use Rattle.stage_fns.specs.Meets.{records}
use Rattle.stage_fns.proofs.Pieces.{all_yielded}
use Rattle.stage_fns.proofs.stages.words.Goals as goal

pub returns : goal.returns
returns c =
    let all = all_yielded c.into_iter-piece-iterator.ensures.into_iter_gives c.loop-piece.yielded _ c.loop-piece.yielded_by _ _ c.in-None.is c.next.ensures.steps
    (YieldsList-from_slice_split _ (λ b. b == 32) c.args.record.now c.split-piece-items.ensures.rest c.split-piece-items.ensures.done c.split-piece-items.ensures.closure (λ x r q k. search (rules, tests))) in
    c.loop-piece.invariant ∙ ap (λ pieces. records c.args.list.now ++ filter (λ piece. not (length piece == 0)) pieces) all
