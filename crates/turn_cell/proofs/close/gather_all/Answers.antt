use Rattle.std.proofs.Common.{rules, ◌≡◌, ◌∷◌, [], length, refl, ap, ◌∙◌, subst, arith, length-append}
use lib.ListN.{get_elem?}
use Rattle.atomic_table.proofs.Lists.{at_last, at_longer}
use Rattle.turn_cell.specs.Rule.{Has}
use Rattle.turn_cell.specs.Steps.{gathered}
use Rattle.turn_cell.proofs.Closing.{none_left, takes_more}
use Rattle.turn_cell.proofs.close.gather_all.Goals as goal

pub gather-requires : goal.gather-requires
gather-requires g c = let q = c.loop-other.invariant in let rest = c.pop.new.self.items in let other = c.in-Some.other in
    (q.pass, q.others (length rest) other (ap (λ l. get_elem? l (length rest)) c.in-Some.ensures.items ∙ at_last rest other (length rest) refl))

pub loop-other-smaller : goal.loop-other-smaller
loop-other-smaller g c = let e = ap length c.in-Some.ensures.items in let l = length-append c.pop.new.self.items (c.in-Some.other ∷ []) in omega arith

pub loop-other-preserved : goal.loop-other-preserved
loop-other-preserved g c = let q = c.loop-other.invariant in let s = c.gather.ensures.pass.1 in let rest = c.pop.new.self.items in let other = c.in-Some.other in record {
  pass = c.gather.ensures.pass.0;
  same = ((s.0.0 ∙ q.same.0.0, s.0.1 ∙ q.same.0.1), s.1 ∙ q.same.1, s.2 ∙ q.same.2);
  others = λ k p at. q.others k p (ap (λ l. get_elem? l k) c.in-Some.ensures.items ∙ at_longer rest (other ∷ []) k p at);
  taken = takes_more c.args.others.items c.loop-other.others.items rest other (gathered c.loop-other.pass) (gathered c.gather.new.pass) c.in-Some.ensures.items c.gather.ensures.other q.taken;
}

pub returns-clause-all : goal.returns-clause-all
returns-clause-all g c = let q = c.loop-other.invariant.taken in let none : length c.loop-other.others.items ≡ 0 = search rules in
    λ p has. q.2 p (subst (Has p) (none_left c.args.others.items c.loop-other.others.items q.0 q.1 none) has)
