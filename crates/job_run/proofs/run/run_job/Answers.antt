use Rattle.std.proofs.Common.{[], refl}
use Rattle.flow_defs.specs.Lines.{lines}
use Rattle.plain_machine.specs.Images.{IsStart}
use Rattle.plain_machine.specs.Theorems.{ChainIsWorthTally, StartExists, StartIsStart}
use Rattle.job_chain.specs.Ran.{StartIsRunBase}
use Rattle.job_run.proofs.Beginnings.{Laws, tally_of, cause_of, stored_of, ends_of}
use Rattle.job_run.proofs.RunLaws.{none_kept, none_stored, stay_back}
use Rattle.job_run.proofs.run.run_job.Goals as goal

laws_of : StartExists → StartIsStart → ChainIsWorthTally → StartIsRunBase → Laws
laws_of exists cut worth_tally run_base = record { exists = exists; cut = cut; worth_tally = worth_tally; run_base = run_base }

pub returns-in_default-clause-inputs : goal.returns-in_default-clause-inputs
returns-in_default-clause-inputs g c = stay_back g.S.Source.faults c.args.inputs.now.items c.args.inputs.now.items refl

pub returns-in_default-clause-chain : goal.returns-in_default-clause-chain
returns-in_default-clause-chain g c = λ tell bytes told. none_stored (IsStart c.args.job.now) c.args.job.now (λ a. lines (bytes a)) c.args.options.every (g.K.Keeper.images c.args.keeper.now)

pub returns-in_default-clause-kept : goal.returns-in_default-clause-kept
returns-in_default-clause-kept g c = ([], none_kept (g.K.Keeper.images c.args.keeper.now))

pub returns-clause-tally : goal.returns-clause-tally
returns-clause-tally g c =
    tally_of (laws_of c.start_exists.ensures.exists c.start_exists.ensures.cut c.chain_keeps_worth.ensures.tally c.runs_are_chains.ensures.start) _ c.in-Ok.ensures.beginning c.requires.is_job.0 c.run_in_pool.result c.run_in_pool.ensures.run

pub returns-clause-cause : goal.returns-clause-cause
returns-clause-cause g c =
    cause_of (laws_of c.start_exists.ensures.exists c.start_exists.ensures.cut c.chain_keeps_worth.ensures.tally c.runs_are_chains.ensures.start) _ c.in-Ok.ensures.beginning c.run_in_pool.result c.run_in_pool.ensures.run

pub returns-clause-chain : goal.returns-clause-chain
returns-clause-chain g c =
    stored_of (laws_of c.start_exists.ensures.exists c.start_exists.ensures.cut c.chain_keeps_worth.ensures.tally c.runs_are_chains.ensures.start) _ c.in-Ok.ensures.beginning c.run_in_pool.result c.run_in_pool.ensures.run

pub returns-clause-last : goal.returns-clause-last
returns-clause-last g c =
    ends_of (laws_of c.start_exists.ensures.exists c.start_exists.ensures.cut c.chain_keeps_worth.ensures.tally c.runs_are_chains.ensures.start) _ c.in-Ok.ensures.beginning c.run_in_pool.result c.run_in_pool.ensures.run
