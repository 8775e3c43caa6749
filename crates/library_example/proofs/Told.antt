-- From what links and the file tell to what a run asks of them.
use Rattle.std.proofs.Common.{◌≡◌, ℕ, Bool, true, false, List, Option, Some, None, refl}
use Rattle.std.specs.Prelude.{nat_eq, if◌then◌else◌}
use Rattle.std.specs.Cmp.Lexicographic.{pointwise}
use Rattle.flow_defs.specs.declared.job.Job.{Job}
use Rattle.command_parts.specs.Sources.{AreInputsOf, source_name}
use Rattle.job_ends.specs.Ended.{LinksTell}
use Rattle.job_outcome.specs.Outcomes.{AreTold}
use Rattle.outside.specs.MemoryLinks.{OutState, InState}
use Rattle.library_example.specs.declared.lines.HeldFile.{HeldFile}
use Rattle.library_example.specs.declared.lines.HeldInput.{HeldInput}

-- links in memory tell their bytes
pub links_tell : LinksTell (λ (s : OutState). Some s.sent) (λ (s : InState). Some s.got)
links_tell = record { out = λ s. (s.sent, refl); input = λ s. (s.got, refl) }

of_file : (b : Bool) (text left : List ℕ) → Some left ≡ (if b then Some text else None) → Some left ≡ Some text
of_file true text left is = is
of_file false text left is = absurd (cc)

-- each input that was found has the text of the file
pub inputs_tell : (file : HeldFile) (job : Job) (inputs : List HeldInput) → AreInputsOf (λ (s : HeldInput). Some s.left.now) (λ s. 0) job (λ name. if pointwise nat_eq name file.name.now then Some file.text.now else None) inputs → AreTold (λ (s : HeldInput). Some s.left.now) inputs (λ a. file.text.now)
inputs_tell file job inputs told a input is = of_file (pointwise nat_eq (source_name job a) file.name.now) file.text.now input.left.now (told a input is).0
