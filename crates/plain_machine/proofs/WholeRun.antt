-- A run that leaves nothing has the tally in its tables.
use Rattle.std.proofs.Common.{◌≡◌, ℕ, suc, true, false, cond, [], ◌∷◌, length, refl, sym, ap, ◌∙◌, arith}
use Rattle.flow_defs.specs.Jobs.{last_edge, tasks, is_channel}
use Rattle.flow_defs.specs.Tables.{join, table_of}
use Rattle.plain_machine.specs.Cuts.{start}
use Rattle.plain_machine.specs.Steps.{next, left}
use Rattle.plain_machine.specs.Histories.{IsStepOf}
use Rattle.plain_machine.specs.Theorems.{WholeRunGivesTally}
use Rattle.plain_machine.proofs.WorthLemmas.{nothing_below, successor_keeps_worth, start_is_worth_tally}
use Rattle.plain_machine.proofs.Channels.{ends_of}
use Rattle.plain_machine.proofs.PlaceLemmas.{concat_below-ext}
use Rattle.plain_machine.proofs.HistoryLemmas.{is_step_of}
use Rattle.plain_machine.proofs.LastLemmas.{drop_all, all_in_tables}

pub whole_run_gives_tally : WholeRunGivesTally
whole_run_gives_tally job lines takes took put is ran =
    let step = is_step_of job lines start takes (λ a. length (lines a)) took put (λ e a b. []) ran in
    let last = next job lines start takes (λ a. length (lines a)) in
    ap (join job.agg) (concat_below-ext (tasks job (suc (last_edge job))) _ _ (λ b here. ap (λ records. table_of job.agg records ∷ []) (sym (step.taken_is (last_edge job) b (omega arith) here))))
    ∙ all_in_tables job lines last
    (λ e. nothing_below (tasks job e) _ (λ a. nothing_below (tasks job (suc e)) _ (λ b. on_none e a b step)))
    (λ a _. drop_all (lines a) (length (lines a)) refl)
    ∙ successor_keeps_worth job lines start takes (λ a. length (lines a)) is ran.rise
    ∙ start_is_worth_tally job lines
  where
    on_none : (e a b : ℕ) → IsStepOf job lines start takes (λ a. length (lines a)) took put (λ e a b. []) → cond (is_channel job e a b) (left job lines start takes (λ a. length (lines a)) e a b) [] ≡ []
    on_none e a b step = elim (is_channel job e a b) as (λ t. is_channel job e a b ≡ t → cond t (left job lines start takes (λ a. length (lines a)) e a b) [] ≡ []) [
      | true ↦ λ on. let ends = ends_of job e a b on in step.left_is e a b ends.edge ends.receiver
      | false ↦ λ on. refl
    ] refl
