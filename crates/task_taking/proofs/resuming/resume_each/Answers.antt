use Rattle.std.proofs.Common.{◌<◌, suc, sym, ap, subst, ◌∙◌, arith}
use mathlib.Core.Logic.{dite}
use native.Mathlib.Decide.{ℕ_discrete}
use Rattle.gate_account.specs.Accounts.{inlines}
use Rattle.gate_account.proofs.Takings.{keeps_on}
use Rattle.task_taking.proofs.resuming.resume_each.Goals as goal

pub resume-requires-clause-within : goal.resume-requires-clause-within
resume-requires-clause-within g c = subst (λ n. c.loop-channel.channel < n) (c.requires.channels ∙ sym c.loop-channel.invariant.channels) c.loop-channel-test.true

pub resume-requires-clause-stopped : goal.resume-requires-clause-stopped
resume-requires-clause-stopped g c =
    let i = c.loop-channel.channel in
    ap inlines (c.loop-channel.invariant.barriers i) ∙ c.requires.stopped i c.loop-channel-test.true ∙ ap suc (sym (c.loop-channel.invariant.rest i (omega arith)))

pub loop-channel-preserved : goal.loop-channel-preserved
loop-channel-preserved g c =
    let i = c.loop-channel.channel in
    let v = c.loop-channel.invariant in
    let was = g.G.Gate.account c.args.gate.now in
    let now = g.G.Gate.account c.resume.new.self in
    let r = c.resume.ensures.resumed in
    record {
      ends = c.resume.ensures.same.0 ∙ v.ends;
      channels = c.resume.ensures.same.1 ∙ v.channels;
      lines = λ x. r.lines x ∙ v.lines x;
      barriers = λ x. r.barriers x ∙ v.barriers x;
      done = λ x low. dite (ℕ_discrete x i)
          (λ here. ap (λ y. now.resumed y) here ∙ r.here ∙ ap suc (v.rest i (omega arith)) ∙ ap (λ y. suc (was.resumed y)) (sym here))
          (λ other. r.elsewhere x other ∙ v.done x (omega (arith, low, other)));
      rest = λ x high. r.elsewhere x (λ here. omega (arith, high, here)) ∙ v.rest x (omega (arith, high));
      ended = λ x. r.ended x ∙ v.ended x;
      left = λ x. r.left x ∙ v.left x;
      kept = keeps_on _ _ _ v.kept c.resume.ensures.kept;
    }

pub returns-clause-resumed : goal.returns-clause-resumed
returns-clause-resumed g c =
    let v = c.loop-channel.invariant in
    record {
      lines = v.lines;
      barriers = v.barriers;
      resumed = λ x low. (let many = c.requires.channels in let over = c.loop-channel-test.false in v.done x (omega (arith, low, many, over)));
      ended = v.ended;
      left = v.left;
    }

pub returns-clause-kept : goal.returns-clause-kept
returns-clause-kept g c = c.loop-channel.invariant.kept
