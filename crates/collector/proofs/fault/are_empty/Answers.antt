use Rattle.std.proofs.Common.{◌≡◌, ℕ, ◌++◌, ◌<◌, true, false, List, [], length, sym, ap, ◌∙◌, subst, arith, below_more}
use Rattle.plain_machine.specs.Images.{items_at}
use Rattle.collector.proofs.FaultLemmas.{item_read, both_read}
use Rattle.collector.proofs.fault.are_empty.Goals as goal

pub returns-then-not-has_none : goal.returns-then-not-has_none
returns-then-not-has_none c =
    let ins = c.args.pieces_in.now in
    let outs = c.args.pieces_out.now in
    let i = c.loop-i.i in
    let low : i < length ins = omega arith in
    let both = both_read ins outs i c.as_slice.result.now c.as_slice-in-loop-i.result.now
    (item_read ins i c.index-pieces_in-i.result c.as_slice.result.now low c.index-pieces_in-i.is c.as_slice.ensures)
    (item_read outs i c.index-pieces_out-i.result c.as_slice-in-loop-i.result.now (omega (arith, low, c.requires)) c.index-pieces_out-i.is c.as_slice-in-loop-i.ensures) in (
      (λ no place within. absurd (let e : false ≡ true = no in let never : ⊥ = cc in never)),
      (λ all. sym c.if-not-has_none.true ∙ c.has_none.ensures.1 (subst (λ (bytes : List ℕ). bytes ≡ []) both (all i low))),
    )

pub loop-i-preserved : goal.loop-i-preserved
loop-i-preserved c =
    let ins = c.args.pieces_in.now in
    let outs = c.args.pieces_out.now in
    let i = c.loop-i.i in
    let low : i < length ins = omega arith in
    let both = both_read ins outs i c.as_slice.result.now c.as_slice-in-loop-i.result.now
    (item_read ins i c.index-pieces_in-i.result c.as_slice.result.now low c.index-pieces_in-i.is c.as_slice.ensures)
    (item_read outs i c.index-pieces_out-i.result c.as_slice-in-loop-i.result.now (omega (arith, low, c.requires)) c.index-pieces_out-i.is c.as_slice-in-loop-i.ensures) in
    let P : List ℕ → Type 0 = (λ (bytes : List ℕ). bytes ≡ []) in
    below_more (λ place. P (items_at ins place ++ items_at outs place)) i c.loop-i.invariant (subst P (sym both) (c.has_none.ensures.0 c.if-not-has_none.false))
