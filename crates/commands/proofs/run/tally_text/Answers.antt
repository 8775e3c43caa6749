use Rattle.std.proofs.Common.{◌≡◌, ℕ, List, Option, None, refl, ap, sym, subst, ◌∙◌, IfErr}
use Rattle.std.proofs.lemmas.Result.{err_from_is_err_and}
use Rattle.std.specs.Prelude.{⊤}
use Rattle.flow_defs.specs.declared.job.Job.{Job}
use Rattle.flow_defs.specs.Lines.{lines}
use Rattle.flow_defs.specs.Tables.{table_text}
use Rattle.plain_machine.specs.Worth.{tally}
use Rattle.stage_fns.specs.Kinds.{kinds}
use Rattle.job_text.specs.JobText.{IsJobText}
use Rattle.job_text.specs.JobFaults.{first_fault}
use Rattle.job_text.specs.Words.{IsRun}
use Rattle.flow_defs.specs.declared.image.Image.{Image}
use Rattle.outside.specs.Faults.{HasRisen}
use Rattle.outside.specs.Keepers.{KeptImage}
use Rattle.outside.proofs.Faults.{risen_before}
use Rattle.job_outcome.specs.Storing.{HasKept}
use Rattle.command_parts.specs.Causes.{status_of}
use Rattle.command_parts.specs.declared.fault.Fault.{Fault}
use Rattle.command_parts.specs.Held.{IsHeldFault}
use Rattle.command_parts.specs.Sources.{TellsSources}
use Rattle.job_command.specs.RunFaults.{IsRunFault}
use Rattle.commands.specs.TextFaults.{IsSmallPoolFault}
use Rattle.command_parts.specs.Sources.{AreWithinLimits}
use Rattle.commands.specs.Run.{IsFaultOf}
use Rattle.commands.proofs.RunLemmas.{of_enough, of_pool, of_held, of_ready, of_run}
use Rattle.job_command.proofs.StoringLemmas.{none_stored, kept_still}
use Rattle.commands.proofs.TextJobs.{has_text, stored_of_ran, ends_of_ran}
use Rattle.commands.proofs.run.tally_text.Goals as goal

pub returns-clause-done : goal.returns-clause-done
returns-clause-done g c = λ words is_run.
    let functions = kinds c.args.functions.now in
    let contents = g.F.Files.contents c.args.files.now in
    let job = c.in_ok-job.job in (
      c.in_ok-refuse_held.ensures.none,
      of_enough words functions contents (g.K.Keeper.images c.args.keeper.now) c.args.name.now c.args.options is_run c.in_ok-text.text.items job
          (λ (j : Job). (bytes : ℕ → List ℕ) → TellsSources j contents bytes → AreWithinLimits j bytes × (c.in_ok-table_text.field-0.items ≡ table_text (tally j (λ a. lines (bytes a)))))
          c.in_ok-text.ensures.told c.in_ok-text.ensures.fits (subst (λ text. first_fault functions text ≡ None) c.as_slice.ensures c.in_ok-job.ensures.clear) (subst (λ text. IsJobText functions text job) c.as_slice.ensures c.in_ok-job.ensures.job) c.in_ok-check_pool.ensures.enough (
          λ bytes told.
          let found = c.in_ok-table.ensures.told bytes (subst (λ (f : List ℕ → Option (List ℕ)). TellsSources job f bytes) (sym c.read_job_text.ensures.same) told) in
          (found.0, c.in_ok-table_text.ensures ∙ ap table_text found.1)
          ),
    )

pub returns-in_err-check_pool-clause-fault : goal.returns-in_err-check_pool-clause-fault
returns-in_err-check_pool-clause-fault g c =
    let functions = kinds c.args.functions.now in
    let contents = g.F.Files.contents c.args.files.now in
    let held = g.K.Keeper.images c.args.keeper.now in
    let job = c.in_ok-job.job in
    let options = c.args.options in
    let passed = err_from_is_err_and c.from_residual-in_err-check_pool.result c.from_residual-in_err-check_pool.ensures.1 in
    let same : c.in_err-check_pool.field-0.0 ≡ passed.0 = (let gives = passed.2 in cc) in
    subst (λ r. IfErr r (λ (f : Fault). (words : List (List ℕ)) → IsRun words c.args.name.now options → IsFaultOf words functions contents held f)) (sym passed.1)
    (λ words is_run. of_pool words functions contents held c.args.name.now options is_run c.in_ok-text.text.items job passed.0
    c.in_ok-text.ensures.told c.in_ok-text.ensures.fits (subst (λ text. first_fault functions text ≡ None) c.as_slice.ensures c.in_ok-job.ensures.clear) (subst (λ text. IsJobText functions text job) c.as_slice.ensures c.in_ok-job.ensures.job)
    (subst (IsSmallPoolFault options job) same c.in_err-check_pool.ensures.fault))

pub returns-in_err-refuse_held-clause-fault : goal.returns-in_err-refuse_held-clause-fault
returns-in_err-refuse_held-clause-fault g c =
    let functions = kinds c.args.functions.now in
    let contents = g.F.Files.contents c.args.files.now in
    let held = g.K.Keeper.images c.args.keeper.now in
    let job = c.in_ok-job.job in
    let options = c.args.options in
    let passed = err_from_is_err_and c.from_residual-in_err-refuse_held.result c.from_residual-in_err-refuse_held.ensures.1 in
    let same : c.in_err-refuse_held.field-0.0 ≡ passed.0 = (let gives = passed.2 in cc) in
    subst (λ r. IfErr r (λ (f : Fault). (words : List (List ℕ)) → IsRun words c.args.name.now options → IsFaultOf words functions contents held f)) (sym passed.1)
    (λ words is_run. of_held words functions contents held c.args.name.now options is_run passed.0
    (of_enough words functions contents held c.args.name.now options is_run c.in_ok-text.text.items job (λ j. ⊤)
    c.in_ok-text.ensures.told c.in_ok-text.ensures.fits (subst (λ text. first_fault functions text ≡ None) c.as_slice.ensures c.in_ok-job.ensures.clear) (subst (λ text. IsJobText functions text job) c.as_slice.ensures c.in_ok-job.ensures.job) c.in_ok-check_pool.ensures.enough tt)
    (subst (IsHeldFault held) same c.in_err-refuse_held.ensures.fault))

pub returns-in_err-table-clause-fault : goal.returns-in_err-table-clause-fault
returns-in_err-table-clause-fault g c =
    let functions = kinds c.args.functions.now in
    let contents = g.F.Files.contents c.args.files.now in
    let held = g.K.Keeper.images c.args.keeper.now in
    let job = c.in_ok-job.job in
    let options = c.args.options in
    let passed = err_from_is_err_and c.from_residual-in_err-table.result c.from_residual-in_err-table.ensures.1 in
    let same : c.in_err-table.field-0.0 ≡ passed.0 = (let gives = passed.2 in cc) in
    let kept = g.K.Keeper.images c.refuse_held.new.keeper in
    let after = g.K.Keeper.images c.table_by_exchange.new.keeper in
    let fault : IsRunFault job options.every contents held after passed.0 =
    subst (IsRunFault job options.every contents held after) same
    (subst (λ (o : Option (List KeptImage)). IsRunFault job options.every contents o after c.in_err-table.field-0.0) c.refuse_held.ensures.same
    (subst (λ (f : List ℕ → Option (List ℕ)). IsRunFault job options.every f kept after c.in_err-table.field-0.0) c.read_job_text.ensures.same c.in_err-table.ensures.fault)) in
    subst (λ r. IfErr r (λ (f : Fault). (words : List (List ℕ)) → IsRun words c.args.name.now options → IsFaultOf words functions contents held f)) (sym passed.1)
    (λ words is_run. of_run words functions contents held c.args.name.now options is_run c.in_ok-text.text.items job after passed.0 c.in_ok-refuse_held.ensures.none
    (λ P. of_ready words functions contents held c.args.name.now options is_run c.in_ok-text.text.items job P
    c.in_ok-text.ensures.told c.in_ok-text.ensures.fits (subst (λ text. first_fault functions text ≡ None) c.as_slice.ensures c.in_ok-job.ensures.clear) (subst (λ text. IsJobText functions text job) c.as_slice.ensures c.in_ok-job.ensures.job) c.in_ok-check_pool.ensures.enough)
    fault)

-- ---- what the keeper got

pub table_by_exchange-requires-clause-text : goal.table_by_exchange-requires-clause-text
table_by_exchange-requires-clause-text g c = λ κs lives.
    has_text (kinds c.args.functions.now) c.in_ok-text.text.items c.in_ok-job.job (subst (λ text. IsJobText (kinds c.args.functions.now) text c.in_ok-job.job) c.as_slice.ensures c.in_ok-job.ensures.job) c.in_ok-text.ensures.fits

pub returns-in_err-text-clause-chain : goal.returns-in_err-text-clause-chain
returns-in_err-text-clause-chain g c = λ text job bytes told is tells. none_stored job (λ a. lines (bytes a)) c.args.options.every (g.K.Keeper.images c.args.keeper.now) (g.K.Keeper.images c.args.keeper.now) refl

pub returns-in_err-text-clause-kept : goal.returns-in_err-text-clause-kept
returns-in_err-text-clause-kept g c = kept_still (g.K.Keeper.images c.args.keeper.now) (g.K.Keeper.images c.args.keeper.now) refl

pub returns-in_err-job-clause-chain : goal.returns-in_err-job-clause-chain
returns-in_err-job-clause-chain g c = λ text job bytes told is tells. none_stored job (λ a. lines (bytes a)) c.args.options.every (g.K.Keeper.images c.args.keeper.now) (g.K.Keeper.images c.args.keeper.now) refl

pub returns-in_err-job-clause-kept : goal.returns-in_err-job-clause-kept
returns-in_err-job-clause-kept g c = kept_still (g.K.Keeper.images c.args.keeper.now) (g.K.Keeper.images c.args.keeper.now) refl

pub returns-in_err-check_pool-clause-chain : goal.returns-in_err-check_pool-clause-chain
returns-in_err-check_pool-clause-chain g c = λ text job bytes told is tells. none_stored job (λ a. lines (bytes a)) c.args.options.every (g.K.Keeper.images c.args.keeper.now) (g.K.Keeper.images c.args.keeper.now) refl

pub returns-in_err-check_pool-clause-kept : goal.returns-in_err-check_pool-clause-kept
returns-in_err-check_pool-clause-kept g c = kept_still (g.K.Keeper.images c.args.keeper.now) (g.K.Keeper.images c.args.keeper.now) refl

pub returns-in_err-refuse_held-clause-chain : goal.returns-in_err-refuse_held-clause-chain
returns-in_err-refuse_held-clause-chain g c = λ text job bytes told is tells. none_stored job (λ a. lines (bytes a)) c.args.options.every (g.K.Keeper.images c.args.keeper.now) (g.K.Keeper.images c.refuse_held.new.keeper) c.refuse_held.ensures.same

pub returns-in_err-refuse_held-clause-kept : goal.returns-in_err-refuse_held-clause-kept
returns-in_err-refuse_held-clause-kept g c = kept_still (g.K.Keeper.images c.args.keeper.now) (g.K.Keeper.images c.refuse_held.new.keeper) c.refuse_held.ensures.same

pub returns-in_err-table-clause-chain : goal.returns-in_err-table-clause-chain
returns-in_err-table-clause-chain g c = λ text job bytes told is tells.
    stored_of_ran c.job_texts_are_clear.ensures.tasks c.job_texts_are_clear.ensures.work c.job_texts_are_clear.ensures.files (kinds c.args.functions.now) (g.F.Files.contents c.args.files.now) c.args.name.now c.in_ok-text.text.items text c.in_ok-job.job job
    c.in_ok-text.ensures.told told (subst (λ t. IsJobText (kinds c.args.functions.now) t c.in_ok-job.job) c.as_slice.ensures c.in_ok-job.ensures.job) is
    bytes tells (g.F.Files.contents c.read_job_text.new.files) c.read_job_text.ensures.same
    c.args.options.every (g.K.Keeper.images c.args.keeper.now) (g.K.Keeper.images c.refuse_held.new.keeper) (g.K.Keeper.images c.table_by_exchange.new.keeper) c.refuse_held.ensures.same
    c.table_by_exchange.ensures.chain

pub returns-in_err-table-clause-kept : goal.returns-in_err-table-clause-kept
returns-in_err-table-clause-kept g c = subst (λ (o : Option (List KeptImage)). (images : List Image) × HasKept o (g.K.Keeper.images c.table_by_exchange.new.keeper) images) c.refuse_held.ensures.same c.table_by_exchange.ensures.kept

pub returns-in_err-table_text-clause-chain : goal.returns-in_err-table_text-clause-chain
returns-in_err-table_text-clause-chain g c = λ text job bytes told is tells.
    stored_of_ran c.job_texts_are_clear.ensures.tasks c.job_texts_are_clear.ensures.work c.job_texts_are_clear.ensures.files (kinds c.args.functions.now) (g.F.Files.contents c.args.files.now) c.args.name.now c.in_ok-text.text.items text c.in_ok-job.job job
    c.in_ok-text.ensures.told told (subst (λ t. IsJobText (kinds c.args.functions.now) t c.in_ok-job.job) c.as_slice.ensures c.in_ok-job.ensures.job) is
    bytes tells (g.F.Files.contents c.read_job_text.new.files) c.read_job_text.ensures.same
    c.args.options.every (g.K.Keeper.images c.args.keeper.now) (g.K.Keeper.images c.refuse_held.new.keeper) (g.K.Keeper.images c.table_by_exchange.new.keeper) c.refuse_held.ensures.same
    c.table_by_exchange.ensures.chain

pub returns-in_err-table_text-clause-kept : goal.returns-in_err-table_text-clause-kept
returns-in_err-table_text-clause-kept g c = subst (λ (o : Option (List KeptImage)). (images : List Image) × HasKept o (g.K.Keeper.images c.table_by_exchange.new.keeper) images) c.refuse_held.ensures.same c.table_by_exchange.ensures.kept

pub returns-clause-chain : goal.returns-clause-chain
returns-clause-chain g c = λ text job bytes told is tells.
    stored_of_ran c.job_texts_are_clear.ensures.tasks c.job_texts_are_clear.ensures.work c.job_texts_are_clear.ensures.files (kinds c.args.functions.now) (g.F.Files.contents c.args.files.now) c.args.name.now c.in_ok-text.text.items text c.in_ok-job.job job
    c.in_ok-text.ensures.told told (subst (λ t. IsJobText (kinds c.args.functions.now) t c.in_ok-job.job) c.as_slice.ensures c.in_ok-job.ensures.job) is
    bytes tells (g.F.Files.contents c.read_job_text.new.files) c.read_job_text.ensures.same
    c.args.options.every (g.K.Keeper.images c.args.keeper.now) (g.K.Keeper.images c.refuse_held.new.keeper) (g.K.Keeper.images c.table_by_exchange.new.keeper) c.refuse_held.ensures.same
    c.table_by_exchange.ensures.chain

pub returns-clause-kept : goal.returns-clause-kept
returns-clause-kept g c = subst (λ (o : Option (List KeptImage)). (images : List Image) × HasKept o (g.K.Keeper.images c.table_by_exchange.new.keeper) images) c.refuse_held.ensures.same c.table_by_exchange.ensures.kept

pub returns-clause-last : goal.returns-clause-last
returns-clause-last g c = λ text job bytes told is tells. (
  c.in_ok-table.table,
  ends_of_ran c.job_texts_are_clear.ensures.tasks c.job_texts_are_clear.ensures.work c.job_texts_are_clear.ensures.files (kinds c.args.functions.now) (g.F.Files.contents c.args.files.now) c.args.name.now c.in_ok-text.text.items text c.in_ok-job.job job
      c.in_ok-text.ensures.told told (subst (λ t. IsJobText (kinds c.args.functions.now) t c.in_ok-job.job) c.as_slice.ensures c.in_ok-job.ensures.job) is
      bytes tells (g.F.Files.contents c.read_job_text.new.files) c.read_job_text.ensures.same
      c.args.options.every (g.K.Keeper.images c.args.keeper.now) (g.K.Keeper.images c.refuse_held.new.keeper) (g.K.Keeper.images c.table_by_exchange.new.keeper) c.refuse_held.ensures.same
      c.in_ok-table.table c.in_ok-table.ensures.last,
  c.in_ok-table_text.ensures,
)

pub returns-in_err-table-clause-keeper : goal.returns-in_err-table-clause-keeper
returns-in_err-table-clause-keeper g c =
    let passed = err_from_is_err_and c.from_residual-in_err-table.result c.from_residual-in_err-table.ensures.1 in
    let same : c.in_err-table.field-0.0 ≡ passed.0 = (let gives = passed.2 in cc) in
    let risen : status_of passed.0 ≡ 5 → HasRisen (g.K.Keeper.faults c.args.keeper.now) (g.K.Keeper.faults c.table_by_exchange.new.keeper) =
    λ five. risen_before (g.K.Keeper.faults c.args.keeper.now) (g.K.Keeper.faults c.refuse_held.new.keeper) (g.K.Keeper.faults c.table_by_exchange.new.keeper) c.refuse_held.ensures.never_falls (c.in_err-table.ensures.keeper (ap status_of same ∙ five)) in
    subst (λ r. IfErr r (λ (f : Fault). status_of f ≡ 5 → HasRisen (g.K.Keeper.faults c.args.keeper.now) (g.K.Keeper.faults c.table_by_exchange.new.keeper))) (sym passed.1) risen

pub returns-in_err-table-clause-kept_else : goal.returns-in_err-table-clause-kept_else
returns-in_err-table-clause-kept_else g c = λ words is_run none.
    let functions = kinds c.args.functions.now in
    let contents = g.F.Files.contents c.args.files.now in
    let held = g.K.Keeper.images c.args.keeper.now in
    let job = c.in_ok-job.job in
    absurd (none (
      c.in_ok-refuse_held.ensures.none,
      of_enough words functions contents held c.args.name.now c.args.options is_run c.in_ok-text.text.items job (λ j. ⊤)
          c.in_ok-text.ensures.told c.in_ok-text.ensures.fits (subst (λ text. first_fault functions text ≡ None) c.as_slice.ensures c.in_ok-job.ensures.clear) (subst (λ text. IsJobText functions text job) c.as_slice.ensures c.in_ok-job.ensures.job) c.in_ok-check_pool.ensures.enough tt,
    ))

pub returns-in_err-table_text-clause-kept_else : goal.returns-in_err-table_text-clause-kept_else
returns-in_err-table_text-clause-kept_else g c = λ words is_run none.
    let functions = kinds c.args.functions.now in
    let contents = g.F.Files.contents c.args.files.now in
    let held = g.K.Keeper.images c.args.keeper.now in
    let job = c.in_ok-job.job in
    absurd (none (
      c.in_ok-refuse_held.ensures.none,
      of_enough words functions contents held c.args.name.now c.args.options is_run c.in_ok-text.text.items job (λ j. ⊤)
          c.in_ok-text.ensures.told c.in_ok-text.ensures.fits (subst (λ text. first_fault functions text ≡ None) c.as_slice.ensures c.in_ok-job.ensures.clear) (subst (λ text. IsJobText functions text job) c.as_slice.ensures c.in_ok-job.ensures.job) c.in_ok-check_pool.ensures.enough tt,
    ))

pub returns-clause-kept_else : goal.returns-clause-kept_else
returns-clause-kept_else g c = λ words is_run none.
    let functions = kinds c.args.functions.now in
    let contents = g.F.Files.contents c.args.files.now in
    let held = g.K.Keeper.images c.args.keeper.now in
    let job = c.in_ok-job.job in
    absurd (none (
      c.in_ok-refuse_held.ensures.none,
      of_enough words functions contents held c.args.name.now c.args.options is_run c.in_ok-text.text.items job (λ j. ⊤)
          c.in_ok-text.ensures.told c.in_ok-text.ensures.fits (subst (λ text. first_fault functions text ≡ None) c.as_slice.ensures c.in_ok-job.ensures.clear) (subst (λ text. IsJobText functions text job) c.as_slice.ensures c.in_ok-job.ensures.job) c.in_ok-check_pool.ensures.enough tt,
    ))
