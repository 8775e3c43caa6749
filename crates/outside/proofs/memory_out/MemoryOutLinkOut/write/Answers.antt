use Rattle.std.proofs.Common.{rules, ◌++◌, take, ap, subst, ◌∙◌}
use Rattle.turn_cell.specs.Passes.{IsPassOf, mine}
use Rattle.outside.specs.MemoryLinks.{OutState}
use Rattle.outside.proofs.Rings.{sent_more, finished_still, ends_still}
use Rattle.outside.proofs.memory_out.MemoryOutLinkOut.write.Goals as goal

pub invariant_of-self-2 : goal.invariant_of-self-2
invariant_of-self-2 g c = (
  subst (λ cell. IsPassOf cell c.write_some.new.pass) c.deref.ensures c.write_some.ensures.pass.0,
  c.write_some.ensures.pass.1,
  ends_still (mine c.self.inside.pass) (mine c.write_some.new.pass) (take c.write_some.result c.args.bytes.now) c.write_some.ensures.wrote
      (ap (λ (s : OutState). s.finished) c.self.view_is ∙ c.requires.unfinished) c.self.invariant.2,
)

pub returns-clause-told : goal.returns-clause-told
returns-clause-told g c =
    let bytes = take c.write_some.result c.args.bytes.now in
    sent_more (mine c.self.inside.pass) (mine c.write_some.new.pass) bytes c.write_some.ensures.wrote ∙ ap (λ (s : OutState). s.sent ++ bytes) c.self.view_is

pub returns-clause-unfinished : goal.returns-clause-unfinished
returns-clause-unfinished g c =
    finished_still (mine c.self.inside.pass) (mine c.write_some.new.pass) (take c.write_some.result c.args.bytes.now) c.write_some.ensures.wrote
    ∙ ap (λ (s : OutState). s.finished) c.self.view_is

pub returns-clause-step : goal.returns-clause-step
returns-clause-step g c =
    let still = finished_still (mine c.self.inside.pass) (mine c.write_some.new.pass) (take c.write_some.result c.args.bytes.now) c.write_some.ensures.wrote
    ∙ ap (λ (s : OutState). s.finished) c.self.view_is in
    search (rules, still)
