use Rattle.std.proofs.Common.{ap, subst, ◌∙◌}
use Rattle.turn_cell.specs.Passes.{IsPassOf, mine}
use Rattle.outside.specs.MemoryLinks.{OutState}
use Rattle.outside.proofs.Rings.{sent_same, finished_now, ends_now}
use Rattle.outside.proofs.memory_out.MemoryOutLinkOut.finish.Goals as goal

pub invariant_of-self : goal.invariant_of-self
invariant_of-self g c = (
  subst (λ cell. IsPassOf cell c.finish_ring.new.pass) c.deref.ensures c.finish_ring.ensures.pass.0,
  c.finish_ring.ensures.pass.1,
  ends_now (mine c.self.inside.pass) (mine c.finish_ring.new.pass) c.finish_ring.ensures.finished c.self.invariant.2,
)

pub returns-clause-sent : goal.returns-clause-sent
returns-clause-sent g c =
    sent_same (mine c.self.inside.pass) (mine c.finish_ring.new.pass) c.finish_ring.ensures.finished ∙ ap (λ (s : OutState). s.sent) c.self.view_is

pub returns-clause-finished : goal.returns-clause-finished
returns-clause-finished g c = finished_now (mine c.self.inside.pass) (mine c.finish_ring.new.pass) c.finish_ring.ensures.finished
