use Rattle.std.proofs.Common.{suc, length, List, [], ◌∷◌, sym, ap, subst, ◌∙◌}
use Rattle.std.specs.Prelude.{Bool, All}
use Rattle.std.proofs.lemmas.List.Elements.{All-from_recursion}
use Rattle.flow_defs.specs.declared.job.Stage.{Stage}
use Rattle.flow_defs.specs.Jobs.{tasks}
use Rattle.flow_defs.specs.Tables.{Values}
use Rattle.plain_machine.specs.Images.{HasShortKeys}
use Rattle.tasks_tests.proofs.aggregate_task_tests.start_of.Goals as goal

pub returns : goal.returns
returns c =
    let first = c.in_ok-start.ensures.for_job in
    let counting = c.requires.counting in
    let one_stage = ap (λ n. tasks c.args.job.now (suc n)) (ap (λ (l : List Stage). length l) counting.0) in record {
      offsets = first.offsets;
      ended = ap (λ (l : List Bool). length l) c.in_ok-start-2.ensures ∙ sym counting.1;
      emitted = first.emitted;
      tables = ap (λ (l : List Values). length l) c.in_ok-start-3.ensures ∙ sym counting.2 ∙ sym one_stage;
      keys = subst (All HasShortKeys) (sym c.in_ok-start-3.ensures) (All-from_recursion HasShortKeys (c.in_ok-table.table ∷ []) (c.in_ok-table.ensures, tt));
    }
