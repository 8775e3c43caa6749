use Rattle.std.proofs.Common.{◌≡◌, ℕ, Some, None, length, sym, ap, subst, ◌∙◌}
use Rattle.std.proofs.lemmas.List.{length-map}
use Rattle.stage_fns.specs.Kinds.{kinds}
use Rattle.line_generator.specs.Generated.{generated}
use Rattle.outside.specs.Keepers.{image_of}
use Rattle.outside.specs.MemoryFiles.{contents_in}
use Rattle.outside.specs.MemoryKeepers.{KeeperState}
use Rattle.job_text.specs.JobText.{IsJobText}
use Rattle.job_text.specs.JobFaults.{first_fault}
use Rattle.std.specs.FinMap.{entries}
use Rattle.commands.specs.SelfRuns.{IsSelfFault, counted_in, self_text, summary_of}
use Rattle.commands.proofs.SelfLemmas.{few_sources, of_self_run, self_enough, self_has_text, self_ran, self_tells}
use Rattle.commands.proofs.selfrun.selfrun_text.Goals as goal

pub table_by_exchange-requires-clause-few : goal.table_by_exchange-requires-clause-few
table_by_exchange-requires-clause-few g c κs within =
    few_sources (kinds c.args.functions.now) c.in_ok-job.job (subst (λ t. IsJobText (kinds c.args.functions.now) t c.in_ok-job.job) c.self_text.ensures c.in_ok-job.ensures.job)

pub table_by_exchange-requires-clause-enough : goal.table_by_exchange-requires-clause-enough
table_by_exchange-requires-clause-enough g c κs within =
    self_enough (kinds c.args.functions.now) c.in_ok-job.job (subst (λ t. IsJobText (kinds c.args.functions.now) t c.in_ok-job.job) c.self_text.ensures c.in_ok-job.ensures.job)

pub table_by_exchange-requires-clause-text : goal.table_by_exchange-requires-clause-text
table_by_exchange-requires-clause-text g c κs within =
    self_has_text (kinds c.args.functions.now) c.in_ok-job.job (subst (λ t. IsJobText (kinds c.args.functions.now) t c.in_ok-job.job) c.self_text.ensures c.in_ok-job.ensures.job)

pub returns-in-Ok-clause-done : goal.returns-in-Ok-clause-done
returns-in-Ok-clause-done g c =
    let functions = kinds c.args.functions.now in
    let job = c.in_ok-job.job in
    let many = c.args.lines in
    let seed = c.args.seed in
    let is : IsJobText functions self_text job = subst (λ t. IsJobText functions t job) c.self_text.ensures c.in_ok-job.ensures.job in
    let contents = contents_in c.in_ok-files.files.files in
    let tells = self_tells functions job is c.job_texts_are_clear.ensures.files contents (generated seed many) c.in_ok-files.ensures in
    let kept = c.images.result.now in
    let after = c.table_by_exchange.new.keeper.images in
    let stored : length kept ≡ length after = sym (length-map kept image_of) ∙ ap length c.images.ensures.images in
    self_ran c.start_exists.ensures.exists c.finished_chain_is_counted.ensures.count c.tally_counts_records.ensures.sum c.lines_are_of_two_words.ensures.count c.lines_are_of_two_words.ensures.words
    c.job_texts_are_clear.ensures.tasks c.job_texts_are_clear.ensures.work functions job is many seed c.empty_keeper-keeper.result.images after c.in-Ok.table c.in_ok-summary-in-Ok.field-0.items
    (ap (λ (k : KeeperState). k.images) c.empty_keeper-keeper.ensures)
    (c.in-Ok.ensures.told (λ a. generated seed many) tells).1
    (c.in-Ok.ensures.last (λ a. generated seed many) tells)
    (c.in_ok-summary-in-Ok.ensures ∙ ap (λ (n : ℕ). summary_of many (counted_in c.in-Ok.table) (length (entries c.in-Ok.table)) n) stored)

pub returns-clause-fault : goal.returns-clause-fault
returns-clause-fault g c =
    let functions = kinds c.args.functions.now in
    let clear : first_fault functions self_text ≡ None = subst (λ t. first_fault functions t ≡ None) c.self_text.ensures c.in_ok-job.ensures.clear in
    subst (IsSelfFault functions) (sym c.own_fault.ensures)
    (of_self_run functions c.in_ok-job.job (Some 100000) (contents_in c.in_ok-files.files.files) (Some c.empty_keeper-keeper.result.images) (Some c.table_by_exchange.new.keeper.images) c.in-Err.fault clear c.in-Err.ensures.fault)
