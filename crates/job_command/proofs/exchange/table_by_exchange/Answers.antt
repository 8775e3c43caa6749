use Rattle.std.proofs.Common.{◌≡◌, inl, inr, ◌⊎◌, refl}
use Rattle.flow_defs.specs.Lines.{lines}
use Rattle.job_command.proofs.StoringLemmas.{none_stored, kept_still}
use Rattle.std.proofs.lemmas.Result.{IfErr-weaker}
use Rattle.outside.specs.Faults.{HasRisen}
use Rattle.outside.proofs.Faults.{risen_before, risen_after}
use Rattle.command_parts.specs.declared.fault.Fault.{Fault}
use Rattle.command_parts.specs.Causes.{status_of}
use Rattle.command_parts.specs.Sources.{HasFaulty}
use Rattle.job_command.proofs.exchange.table_by_exchange.Goals as goal

pub returns-clause-input : goal.returns-clause-input
returns-clause-input g c = IfErr-weaker c.table_of_found-table.result
    (λ (fault : Fault). status_of fault ≡ 4 → HasRisen (g.F.Files.faults c.args.files.now) (g.F.Files.faults c.table_of_found-table.new.files) ⊎ HasFaulty g.F.Input.Source.faults c.table_of_found-table.new.inputs.items)
    (λ (fault : Fault). status_of fault ≡ 4 → HasRisen (g.F.Files.faults c.args.files.now) (g.F.Files.faults c.give_back.new.files))
    (λ fault is four. elim (is four) [
      | inl risen ↦ risen_after (g.F.Files.faults c.args.files.now) (g.F.Files.faults c.table_of_found-table.new.files) (g.F.Files.faults c.give_back.new.files) risen c.give_back.ensures.never_falls
      | inr faulty ↦ risen_before (g.F.Files.faults c.args.files.now) (g.F.Files.faults c.table_of_found-table.new.files) (g.F.Files.faults c.give_back.new.files) c.table_of_found-table.ensures.never_falls (c.give_back.ensures.rises faulty)
    ]) c.table_of_found-table.ensures.input

pub returns-in_err-reserve-clause-chain : goal.returns-in_err-reserve-clause-chain
returns-in_err-reserve-clause-chain g c = λ bytes tells. none_stored c.args.job.now (λ a. lines (bytes a)) c.args.options.every (g.K.Keeper.images c.args.keeper.now) (g.K.Keeper.images c.args.keeper.now) refl

pub returns-in_err-reserve-clause-kept : goal.returns-in_err-reserve-clause-kept
returns-in_err-reserve-clause-kept g c = kept_still (g.K.Keeper.images c.args.keeper.now) (g.K.Keeper.images c.args.keeper.now) refl

pub returns-in_err-network-clause-chain : goal.returns-in_err-network-clause-chain
returns-in_err-network-clause-chain g c = λ bytes tells. none_stored c.args.job.now (λ a. lines (bytes a)) c.args.options.every (g.K.Keeper.images c.args.keeper.now) (g.K.Keeper.images c.args.keeper.now) refl
