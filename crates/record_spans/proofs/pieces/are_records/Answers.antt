use Rattle.std.proofs.Common.{◌≡◌, true, false, ◌+◌, ◌++◌, drop, sym, subst, arith, length-append, length-drop}
use Rattle.std.proofs.lemmas.List.{drop-drop}
use Rattle.record_spans.proofs.PieceLemmas.{AreSpanned, none_span, one_less}
use Rattle.record_spans.proofs.pieces.are_records.Goals as goal

pub records-preserved : goal.records-preserved
records-preserved c =
    let bytes = c.args.first.now ++ c.args.second.now in
    let place = c.records.place in
    let len = c.in-Record.len in
    let here = c.in-Record.ensures in
    let step = one_less (drop place bytes) _ (drop (4 + len) (drop place bytes)) here.0 in
    let moved : drop (4 + len) (drop place bytes) ≡ drop (place + (4 + len)) bytes = drop-drop (4 + len) place bytes in
    let many = length-drop place bytes in
    let both = length-append c.args.first.now c.args.second.now in
    record {
      within = omega (arith, many, both, here.1, c.records.invariant.within);
      same = ((λ spans. subst AreSpanned moved (step.0 (c.records.invariant.same.0 spans))), (λ spans. c.records.invariant.same.1 (step.1 (subst AreSpanned (sym moved) spans))));
    }

pub returns-in_default : goal.returns-in_default
returns-in_default c =
    let bytes = c.args.first.now ++ c.args.second.now in
    let rest = drop c.records.place bytes in
    let many = length-drop c.records.place bytes in
    let both = length-append c.args.first.now c.args.second.now in
    let none : AreSpanned rest → ⊥ = none_span rest c.front_at.result (omega (arith, many, both, c.records-test.true)) c.front_at.ensures c.in_default.not-Record in (
      (λ no. absurd (let e : false ≡ true = no in let never : ⊥ = cc in never)),
      (λ spans. absurd (none (c.records.invariant.same.0 spans))),
    )
