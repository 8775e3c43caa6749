use Rattle.std.proofs.Common.{ℕ, List, ◌≡◌, IfErr, refl, sym, subst, ◌∙◌, ap, inr}
use Rattle.flow_defs.specs.Lines.{lines}
use Rattle.outside.specs.Faults.{HasRisen}
use Rattle.job_outcome.specs.Outcomes.{AreTold}
use Rattle.job_outcome.specs.Storing.{IsTooLarge}
use Rattle.command_parts.specs.Causes.{status_of}
use Rattle.job_command.specs.RunFaults.{IsRunFault}
use Rattle.command_parts.specs.Sources.{IsSourceFault}
use Rattle.job_command.proofs.ExchangeLemmas.{tells_inputs, fault_of_run, faulty_input, keeper_failed, no_output, of_sources}
use Rattle.std.proofs.lemmas.Result.{err_from_is_err_and}
use Rattle.job_command.proofs.StoringLemmas.{none_stored, kept_still}
use Rattle.job_command.proofs.exchange.table_of_found.Goals as goal

pub returns-in-Ok-clause-told : goal.returns-in-Ok-clause-told
returns-in-Ok-clause-told g c = λ bytes tells.
    c.in-Ok.ensures.told bytes
    (tells_inputs g.F.Input.Source.left g.F.Input.Source.faults c.find_inputs.new.inputs.items c.table_of_inputs.new.inputs.items c.args.job.now (g.F.Files.contents c.args.files.now)
    c.find_inputs.ensures.told c.in_ok-find_inputs.ensures.found bytes tells)

pub returns-in-Err-clause-fault : goal.returns-in-Err-clause-fault
returns-in-Err-clause-fault g c =
    subst (IsRunFault c.args.job.now c.args.options.every (g.F.Files.contents c.args.files.now) (g.K.Keeper.images c.args.keeper.now) (g.K.Keeper.images c.table_of_inputs.new.keeper)) (sym c.fault_of.ensures)
    (fault_of_run g.F.Input.Source.left g.F.Input.Source.faults c.find_inputs.new.inputs.items c.table_of_inputs.new.inputs.items c.args.job.now (g.F.Files.contents c.args.files.now)
    c.find_inputs.ensures.told c.in_ok-find_inputs.ensures.found c.args.options.every (g.K.Keeper.images c.args.keeper.now) (g.K.Keeper.images c.table_of_inputs.new.keeper) (HasRisen (g.K.Keeper.faults c.args.keeper.now) (g.K.Keeper.faults c.table_of_inputs.new.keeper)) c.in-Err.cause c.in-Err.ensures.cause)

pub returns-in-Err-clause-input : goal.returns-in-Err-clause-input
returns-in-Err-clause-input g c = λ four.
    inr (faulty_input g.F.Input.Source.left g.F.Input.Source.faults c.find_inputs.new.inputs.items c.table_of_inputs.new.inputs.items c.args.job.now (g.F.Files.contents c.args.files.now)
    c.find_inputs.ensures.told c.in_ok-find_inputs.ensures.found (HasRisen (g.K.Keeper.faults c.args.keeper.now) (g.K.Keeper.faults c.table_of_inputs.new.keeper)) ((bytes : ℕ → List ℕ) → AreTold g.F.Input.Source.left c.find_inputs.new.inputs.items bytes → IsTooLarge c.args.job.now (λ a. lines (bytes a)) c.args.options.every (g.K.Keeper.images c.args.keeper.now) (g.K.Keeper.images c.table_of_inputs.new.keeper))
    c.in-Err.cause c.in-Err.ensures.cause (ap status_of (sym c.fault_of.ensures) ∙ four))

pub returns-in-Err-clause-no_output : goal.returns-in-Err-clause-no_output
returns-in-Err-clause-no_output g c = λ seven. no_output c.in-Err.cause (ap status_of (sym c.fault_of.ensures) ∙ seven)

pub returns-in-Ok-clause-last : goal.returns-in-Ok-clause-last
returns-in-Ok-clause-last g c = λ bytes tells.
    c.in-Ok.ensures.last bytes
    (tells_inputs g.F.Input.Source.left g.F.Input.Source.faults c.find_inputs.new.inputs.items c.table_of_inputs.new.inputs.items c.args.job.now (g.F.Files.contents c.args.files.now)
    c.find_inputs.ensures.told c.in_ok-find_inputs.ensures.found bytes tells)

pub returns-in-Ok-clause-chain : goal.returns-in-Ok-clause-chain
returns-in-Ok-clause-chain g c = λ bytes tells.
    c.in-Ok.ensures.chain bytes
    (tells_inputs g.F.Input.Source.left g.F.Input.Source.faults c.find_inputs.new.inputs.items c.table_of_inputs.new.inputs.items c.args.job.now (g.F.Files.contents c.args.files.now)
    c.find_inputs.ensures.told c.in_ok-find_inputs.ensures.found bytes tells)

pub returns-in-Err-clause-chain : goal.returns-in-Err-clause-chain
returns-in-Err-clause-chain g c = λ bytes tells.
    c.in-Err.ensures.chain bytes
    (tells_inputs g.F.Input.Source.left g.F.Input.Source.faults c.find_inputs.new.inputs.items c.table_of_inputs.new.inputs.items c.args.job.now (g.F.Files.contents c.args.files.now)
    c.find_inputs.ensures.told c.in_ok-find_inputs.ensures.found bytes tells)

pub returns-in_err-find_inputs-clause-chain : goal.returns-in_err-find_inputs-clause-chain
returns-in_err-find_inputs-clause-chain g c = λ bytes tells. none_stored c.args.job.now (λ a. lines (bytes a)) c.args.options.every (g.K.Keeper.images c.args.keeper.now) (g.K.Keeper.images c.args.keeper.now) refl

pub returns-in_err-find_inputs-clause-kept : goal.returns-in_err-find_inputs-clause-kept
returns-in_err-find_inputs-clause-kept g c = kept_still (g.K.Keeper.images c.args.keeper.now) (g.K.Keeper.images c.args.keeper.now) refl

pub returns-in-Err-clause-keeper : goal.returns-in-Err-clause-keeper
returns-in-Err-clause-keeper g c = λ five.
    keeper_failed g.F.Input.Source.left g.F.Input.Source.faults c.find_inputs.new.inputs.items c.table_of_inputs.new.inputs.items
    (HasRisen (g.K.Keeper.faults c.args.keeper.now) (g.K.Keeper.faults c.table_of_inputs.new.keeper)) ((bytes : ℕ → List ℕ) → AreTold g.F.Input.Source.left c.find_inputs.new.inputs.items bytes → IsTooLarge c.args.job.now (λ a. lines (bytes a)) c.args.options.every (g.K.Keeper.images c.args.keeper.now) (g.K.Keeper.images c.table_of_inputs.new.keeper))
    c.in-Err.cause c.in-Err.ensures.cause (ap status_of (sym c.fault_of.ensures) ∙ five)

pub returns-in_err-find_inputs-clause-fault : goal.returns-in_err-find_inputs-clause-fault
returns-in_err-find_inputs-clause-fault g c =
    let job = c.args.job.now in
    let contents = g.F.Files.contents c.args.files.now in
    let every = c.args.options.every in
    let held = g.K.Keeper.images c.args.keeper.now in
    let passed = err_from_is_err_and c.from_residual.result c.from_residual.ensures.1 in
    let same : c.in_err-find_inputs.field-0.0 ≡ passed.0 = (let gives = passed.2 in cc) in
    subst (λ r. IfErr r (IsRunFault job every contents held held)) (sym passed.1)
    (of_sources job every contents held held passed.0 (subst (IsSourceFault job contents) same c.in_err-find_inputs.ensures.fault))
