use Rattle.std.proofs.Common.{◌≡◌, ◌≤◌, length, take}
use Rattle.flow_defs.specs.declared.job.TheConstants.{STAGES_MAX}
use Rattle.job_text.proofs.ShapeLemmas.{IsTextUnderWay}
use Rattle.job_text.proofs.shape.build.Given as goal

abbrev pub invariant-lines : goal.invariant-lines
invariant-lines l = record {
  way : IsTextUnderWay l.bytes l.sources (take l.stage_count l.stages) l.lines;
  few : l.stage_count ≤ STAGES_MAX;
  many : length l.stages ≡ STAGES_MAX;
}

abbrev pub decreases-lines : goal.decreases-lines
decreases-lines l = length l.lines.rest.now
