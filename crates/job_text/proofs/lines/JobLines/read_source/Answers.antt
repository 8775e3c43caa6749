use Rattle.std.proofs.Common.{◌≡◌, ◌<◌, true, arith}
use Rattle.std.specs.Prelude.{codes, bytes_eq}
use Rattle.flow_defs.specs.declared.job.TheConstants.{SOURCES_MAX}
use Rattle.job_text.specs.JobFaults.{is_token}
use Rattle.job_text.specs.Reading.{place_of}
use Rattle.job_text.proofs.ReadLemmas.{source_is}
use Rattle.job_text.proofs.lines.JobLines.read_source.Goals as goal

pub returns-clause-ok : goal.returns-clause-ok
returns-clause-ok c =
    let place = place_of c.args.self.now in
    let word : bytes_eq c.args.first.now (codes "source") ≡ true = grind arith in
    let token : is_token c.args.file.now ≡ true = grind arith in
    let none : c.args.self.now.stages ≡ 0 = omega arith in
    let few : c.args.self.now.sources < SOURCES_MAX = omega arith in
    λ functions. source_is place c.args.first.now c.args.file.now word none token few
