use Rattle.std.proofs.Common.{◌≡◌, ℕ, List, ◌++◌, ◌∷◌, [], inl, refl, sym, ap, ◌∙◌, subst, Option}
use Rattle.atomic_table.specs.Table.{Me}
use Rattle.turn_cell.specs.declared.rule.View.{View}
use Rattle.turn_cell.specs.declared.rule.Opening.{Opening}
use Rattle.turn_cell.specs.History.{by}
use Rattle.turn_cell.specs.Rule.{Has, released, Counts}
use Rattle.turn_cell.specs.Steps.{past_of}
use Rattle.turn_cell.proofs.cell.TurnCell.meet.Goals as goal

pub returns-clause-passes : goal.returns-clause-passes
returns-clause-passes g c =
    let l = c.learn.ensures.history in let took = c.gather.ensures in let other = c.lay_off-other.result in let view = c.learn.new.pass.seat.me.0 in
    let kept = c.release-other.ensures.pass in let idle = kept.0 in let same = kept.1 in
    let heard = l.2 (past_of other) (subst (Has (past_of other)) (sym took.other) (inl refl)) in
    let a = c.release-other.ensures.entries in
    let counts : (n : ℕ) (h : List (ℕ × g.row.S-Entry.Denot)) → n ≡ c.learn.new.pass.entries → h ≡ view.seen → Counts n h = λ n h e f. subst (λ (z : ℕ × List (ℕ × g.row.S-Entry.Denot)). Counts z.0 z.1) (λ i. (sym e i, sym f i)) c.learn.ensures.counted.0 in
    let one = c.learn.ensures.pass.2 ∙ (took.other ∙ ap (λ z. past_of other ∷ z) c.requires.0.0.3) in
    let is = c.release-other.ensures.other.1 ∙ ap (λ z. (released view.about view.seen z, [])) one in (
      ((idle.0, idle.1, idle.2, kept.2, idle.3, (λ i. by (same.0.0 i) (same.1 i)) ∙ (l.1 ∙ sym same.0.1)), idle.4, counts _ _ a.0 same.1),
      (
        (
          c.release-other.ensures.other.0,
          ap (λ m. m.1) is,
          ap (λ m. m.0.live) is,
          ap (λ m. m.0.gathered) is,
          ap (λ m. m.0.about) is ∙ c.learn.ensures.pass.0.3,
          subst (λ (m : Me (Option g.row.S.Denot) (View (Opening g.row.S.Denot) g.row.S-Entry.Denot)). by m.0.number m.0.seen ≡ m.0.mine) (sym is) heard.1,
        ),
        ap (λ m. m.0.stage) is,
        counts _ _ a.1 (ap (λ m. m.0.seen) is),
      ),
    )

pub returns-clause-begins : goal.returns-clause-begins
returns-clause-begins g c = let l = c.learn.ensures.history in let seen_now = c.release-other.ensures.pass.1.1 in let took = c.gather.ensures in
    let other = c.lay_off-other.result in let heard = l.2 (past_of other) (subst (Has (past_of other)) (sym took.other) (inl refl)) in (
      (l.0.0, seen_now ∙ (l.0.1 ∙ ap (λ z. z ++ l.0.0) took.pass.1.1)),
      (heard.0.0, seen_now ∙ (heard.0.1 ∙ ap (λ z. z ++ heard.0.0) c.lay_off-other.ensures.1.1)),
    )
