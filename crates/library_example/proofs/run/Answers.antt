use Rattle.std.proofs.Common.{◌≡◌, ℕ, zero, List, Some, arith}
use Rattle.std.proofs.lemmas.Result.{IfOk-weaker}
use Rattle.flow_defs.specs.declared.job.Job.{Job}
use Rattle.flow_defs.specs.Lines.{lines}
use Rattle.flow_defs.specs.Tables.{Values}
use Rattle.job_ends.specs.Ended.{LinksTell}
use Rattle.job_outcome.specs.Outcomes.{AreTold, AreWithin}
use Rattle.job_text.specs.JobText.{IsJobText}
use Rattle.outside.specs.MemoryLinks.{OutState, InState}
use Rattle.plain_machine.specs.Worth.{tally}
use Rattle.stage_fns.specs.Kinds.{kinds}
use Rattle.library_example.specs.declared.lines.HeldInput.{HeldInput}
use Rattle.commands.proofs.TextJobs.{has_text}
use Rattle.library_example.proofs.Told.{links_tell, inputs_tell}
use Rattle.library_example.proofs.run.Goals as goal

pub find_inputs-requires-clause-few : goal.find_inputs-requires-clause-few
find_inputs-requires-clause-few g c = λ κs lives. (c.in_ok-job.ensures.job.is_job.counts zero (omega arith)).1

pub run_job-ran-requires-clause-text : goal.run_job-ran-requires-clause-text
run_job-ran-requires-clause-text g c = λ κs lives. has_text (kinds c.args.functions.now) c.args.text.now c.in_ok-job.job c.in_ok-job.ensures.job c.requires.fits

pub returns : goal.returns
returns g c =
    let job = c.in_ok-job.job in
    let text = c.args.file.now.text.now in
    let inputs = c.find_inputs.new.inputs.items in record {
      table = IfOk-weaker c.run_job-ran.result
          (λ (table : Values). LinksTell (λ (s : OutState). Some s.sent) (λ (s : InState). Some s.got) → (bytes : ℕ → List ℕ) → AreTold (λ (s : HeldInput). Some s.left.now) inputs bytes →
          AreWithin job bytes × (table ≡ tally job (λ a. lines (bytes a))))
          (λ (table : Values). (x : Job) × IsJobText (kinds c.args.functions.now) c.args.text.now x × (table ≡ tally x (λ a. lines text)))
          (λ table told. (job, c.in_ok-job.ensures.job, (told links_tell (λ a. text) (inputs_tell c.args.file.now job inputs c.find_inputs.ensures.told)).1))
          c.run_job-ran.ensures.tally;
    }
