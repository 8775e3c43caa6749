use Rattle.std.proofs.Common.{◌≡◌, [], ◌∷◌, length, sym, ap, subst, ◌∙◌, refl, arith}
use Rattle.std.specs.Prelude.{slice_get}
use Rattle.std.proofs.lemmas.List.{length_push}
use Rattle.job_cells.proofs.Lists.{in_front, at_last}
use Rattle.job_deploy.specs.Sharing.{HasRoom, IsRowOver}
use Rattle.job_deploy.proofs.Orders.{front_all, in_order, length_turned, none_left, turned_none, turned_push}
use Rattle.job_deploy.proofs.Popping.{none_rest}
use Rattle.job_deploy.proofs.loops.loop_rows.Goals as goal

pub wires-init : goal.wires-init
wires-init g c = record {
  shares_many = c.requires.shares;
  shares = λ a x at. at;
  empty = c.requires.empty;
  wires = λ a x at. at;
  rows_many = (let none = ap length c.requires.rows.0 in omega (arith, none));
  rows = turned_none (IsRowOver c.args.shares.items c.args.wires.now.items) (length c.args.wires.now.items) c.args.rows.items c.requires.rows.0;
  room = c.requires.rows.1;
}

pub wires-smaller : goal.wires-smaller
wires-smaller g c = let l = ap length c.in-Some.ensures.items ∙ length_push c.pop.new.self.items c.in-Some.wire in omega (arith, l)

pub wires-preserved : goal.wires-preserved
wires-preserved g c =
    let before = c.wires.invariant in
    let rest = c.pop.new.self.items in let wire = c.in-Some.wire in let share = c.take_last-share.result in let left = c.take_last-share.new.self.items in let row = c.loops_over.result in
    let wires = c.args.wires.now.items in let shares = c.args.shares.items in
    let shorter = ap length c.in-Some.ensures.items ∙ length_push rest wire in
    let fewer = ap length c.take_last-share.ensures.items ∙ length_push left share in
    let many = before.shares_many in
    let pair : length left ≡ length rest = omega (arith, shorter, fewer, many) in
    record {
      shares_many = pair;
      shares = λ a x at. before.shares a x (ap (λ l. slice_get l a) c.take_last-share.ensures.items ∙ in_front left (share ∷ []) a x at);
      empty = front_all (λ s. HasRoom s) left share c.wires.shares.items c.take_last-share.ensures.items before.empty;
      wires = λ a x at. before.wires a x (ap (λ l. slice_get l a) c.in-Some.ensures.items ∙ in_front rest (wire ∷ []) a x at);
      rows_many = (let p = ap length c.put.ensures.items ∙ length_push c.wires.rows.items row in let r = before.rows_many in omega (arith, p, r, shorter));
      rows = turned_push (IsRowOver shares wires) (length wires) c.wires.rows.items c.put.new.list.items row c.put.ensures.items before.rows
          (λ k sum.
          let place : length rest ≡ k = (let r = before.rows_many in omega (arith, r, sum, shorter)) in
          subst (λ a. IsRowOver shares wires a row) place (record {
            share = share;
            lent = before.shares (length rest) share (ap (λ l. slice_get l (length rest)) c.take_last-share.ensures.items ∙ at_last left share (length rest) (sym pair));
            wire = wire;
            over = before.wires (length rest) wire (ap (λ l. slice_get l (length rest)) c.in-Some.ensures.items ∙ at_last rest wire (length rest) refl);
            are = c.loops_over.ensures;
          }));
      room = (let r = before.room in let s = c.put.ensures.room in omega (arith, r, s, shorter));
    }

pub returns-clause-rows : goal.returns-clause-rows
returns-clause-rows g c =
    let i = c.wires.invariant in let wires = c.args.wires.now.items in
    let none = none_left c.wires.wires.items c.in_default.ensures.some in
    let all : length c.wires.rows.items ≡ length wires = (let m = i.rows_many in omega (arith, m, none)) in
    record {
      many = length_turned c.wires.rows.items c.turned.result.items c.turned.ensures ∙ all;
      each = in_order (IsRowOver c.args.shares.items wires) (length wires) c.wires.rows.items c.turned.result.items c.turned.ensures all i.rows;
    }

pub returns-clause-taken : goal.returns-clause-taken
returns-clause-taken g c = none_rest c.wires.wires.items c.pop.new.self.items c.in_default.ensures.items (none_left c.wires.wires.items c.in_default.ensures.some)
