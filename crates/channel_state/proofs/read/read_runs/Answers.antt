use Rattle.std.proofs.Common.{◌≡◌, ◌≤◌, true, subst, arith}
use Rattle.std.specs.Prelude.{nat_le}
use Rattle.std.specs.Int.{w32, w64}
use Rattle.std.proofs.lemmas.Bool.{leb-true}
use Rattle.flow_defs.specs.declared.image.TakeRun.{TakeRun}
use Rattle.job_text.specs.Shapes.{job_of}
use Rattle.channel_state.specs.Reading.{number}
use Rattle.channel_state.specs.ImageFaults.{is_sender}
use Rattle.channel_state.specs.Building.{AreRunsSoFar}
use Rattle.channel_state.proofs.FieldLemmas.{tested_ok}
use Rattle.channel_state.proofs.BuildLemmas.{first_runs, first_next, next_run, next_next}
use Rattle.channel_state.proofs.read.read_runs.Goals as goal

pub loop-i-init : goal.loop-i-init
loop-i-init c =
    let job = job_of c.args.shape.now in
    let none = c.new-runs.ensures in
    record {
      read = λ fits. first_runs job c.args.edge c.args.to c.args.cursor.now.rest.now c.new-runs.result.items none fits;
      next = λ run may some. first_next job c.args.edge c.args.to c.new-runs.result.items run none may some;
    }

pub loop-i-preserved : goal.loop-i-preserved
loop-i-preserved c =
    let job = job_of c.args.shape.now in
    let e = c.args.edge in
    let b = c.args.to in
    let inv = c.loop-i.invariant in
    let rest = c.loop-i.cursor.rest.now in
    let mid = c.sender.new.self.rest.now in
    let after = c.some.new.self.rest.now in
    let before = c.loop-i.before in
    let run : TakeRun = record { from = c.in_ok-from.from; count = c.in_ok-count.count } in
    let runs = c.loop-i.runs.items in
    let more = c.push.new.self.items in
    let pushed = c.in_ok-push.ensures.ok in
    let may : is_sender job e b before run.from ≡ true = (tested_ok (is_sender job e b before) (number w32) rest (run.from, mid) c.in_ok-from.ensures).1 in
    let some : 1 ≤ run.count = leb-true _ _ (tested_ok (nat_le 1) (number w64) mid (run.count, after) c.in_ok-count.ensures).1 in
    record {
      read = λ fits. next_run job e b runs more before run pushed inv.next c.loop-i._i c.args.cursor.now.rest.now rest mid after (inv.read fits) c.in_ok-from.ensures c.in_ok-count.ensures;
      next = next_next job e b runs more before run pushed inv.next may some;
    }

pub returns : goal.returns
returns c = λ fits.
    let all : c.loop-i._i ≡ c.args.many = omega arith in
    subst (λ k. AreRunsSoFar (job_of c.args.shape.now) c.args.edge c.args.to k c.args.cursor.now.rest.now c.loop-i.cursor.rest.now c.loop-i.runs.items) all (c.loop-i.invariant.read fits)
