use Rattle.std.proofs.Common.{◌≡◌, ℕ, List, sym, ap, subst, ◌∙◌}
use Rattle.turn_cell.specs.History.{StartsWith, by}
use Rattle.turn_cell.specs.Passes.{number, seen}
use Rattle.turn_cell.proofs.Lists.{starts_on}
use Rattle.job_ends.proofs.Histories.{by_between}
use Rattle.job_ends.proofs.settling.settle.Goals as goal

pub returns-clause-settled : goal.returns-clause-settled
returns-clause-settled g c =
    let m = c.meet.ensures in
    let l = c.look.ensures in
    let n = c.meet-2.ensures in
    let own = c.requires.1.0.5 in
    let numbered : number c.meet-2.new.b ≡ number c.args.b.now = n.same.1.0 ∙ m.same.1.0 in
    let last : by (number c.args.b.now) (seen c.meet-2.new.b) ≡ by (number c.args.b.now) (seen c.args.b.now) =
    ap (λ (k : ℕ). by k (seen c.meet-2.new.b)) (sym numbered) ∙ n.passes.1.0.5 ∙ n.same.1.1 ∙ m.same.1.1 ∙ sym own in
    record {
      state = l.stands.0;
      history = seen c.look.new.pass;
      stands_for = l.stands.1;
      later_a = starts_on _ _ _ l.later m.begins.0;
      later_b = starts_on _ _ _ l.later m.begins.1;
      of_a = ap (λ (k : ℕ). by k (seen c.look.new.pass)) (sym (l.pass.1.0 ∙ m.same.0.0)) ∙ l.pass.0.0.5 ∙ l.pass.1.1 ∙ m.same.0.1;
      of_b = by_between (number c.args.b.now) (seen c.args.b.now) (seen c.look.new.pass) (seen c.meet-2.new.b)
          (starts_on _ _ _ l.later m.begins.1)
          (subst (λ (h : List _). StartsWith h (seen c.look.new.pass)) (sym n.one) n.begins.0)
          last ∙ own;
    }
