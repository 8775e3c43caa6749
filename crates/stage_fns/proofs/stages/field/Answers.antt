use Rattle.std.proofs.Common.{rules, tests, ◌==◌, ◌-◌, ◌++◌, sym, ap, ◌∙◌}
use Rattle.std.specs.List.{slice_get}
use Rattle.std.specs.Option.{option_map, option_to_list}
use Rattle.std.proofs.lemmas.Iterator.Consumers.{nth_from_yields_List}
use Rattle.std.proofs.lemmas.Iterator.Splits.{YieldsList-from_slice_split}
use Rattle.flow_defs.specs.Stages.{pieces}
use Rattle.stage_fns.specs.Meets.{records}
use Rattle.stage_fns.proofs.Pieces.{records_pushed}
use Rattle.stage_fns.proofs.stages.field.Goals as goal

pub returns-in_ok-push : goal.returns-in_ok-push
returns-in_ok-push c =
    let nth = nth_from_yields_List _ _ _ c.nth.ensures.ran (YieldsList-from_slice_split _ (λ b. b == 44) c.args.record.now c.split.ensures.rest c.split.ensures.done c.split.ensures.closure (λ x r q k. search (rules, tests))) in
    let here = ap (λ place. slice_get (pieces 44 c.args.record.now) (place - 1)) (sym c.place_of.ensures.value) ∙ sym nth ∙ ap (option_map (λ piece. piece.now)) c.in-Some.is in
    records_pushed c.args.list.now c.push.new.self c.in_ok-of.field-0 c.in-Some.piece.now c.in_ok-push.ensures.ok c.in_ok-of.ensures
    ∙ ap (λ more. records c.args.list.now ++ option_to_list more) (sym here)

pub returns-in_default : goal.returns-in_default
returns-in_default c =
    let nth = nth_from_yields_List _ _ _ c.nth.ensures.ran (YieldsList-from_slice_split _ (λ b. b == 44) c.args.record.now c.split.ensures.rest c.split.ensures.done c.split.ensures.closure (λ x r q k. search (rules, tests))) in
    let here = ap (λ place. slice_get (pieces 44 c.args.record.now) (place - 1)) (sym c.place_of.ensures.value) ∙ sym nth ∙ ap (option_map (λ piece. piece.now)) c.in_default.is in
    rw here (search rules)
