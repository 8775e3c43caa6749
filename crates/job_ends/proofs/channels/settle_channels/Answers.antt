use Rattle.std.proofs.Common.{◌<◌, ◌+◌, ◌*◌, length, List, [], ◌∷◌, sym, ap, subst, ◌∙◌, append-nil, length-append, arith}
use Rattle.turn_cell.specs.Passes.{seen, mine}
use Rattle.conn_parts.specs.Shares.{mine_at, seen_at}
use Rattle.record_writer.specs.Writers.{place_of}
use Rattle.job_ends.specs.Settling.{IsTaskAt, SettledAt}
use Rattle.job_ends.proofs.Loops.{go_on_nothing, go_on_again, front_now, task_there, place_within, settled_more, none_left}
use Rattle.job_ends.proofs.channels.settle_channels.Goals as goal

pub channels-init : goal.channels-init
channels-init g c = record {
  loops = c.requires.loops;
  go_on = go_on_nothing c.args.loops.now.items;
  front = ([], sym (append-nil c.args.own.items));
  settled = λ k low high. absurd (omega (arith, low, high));
}

pub overflow_mul-place : goal.overflow_mul-place
overflow_mul-place g c =
    let low : c.args.first + length c.as_slice.result.now * c.args.stride < length c.args.cells.now =
    subst (λ (l : List _). c.args.first + length l * c.args.stride < length c.args.cells.now) (sym c.as_slice.ensures) (place_within c.args.cells.now c.args.first c.args.stride c.args.own.items c.channels.rest.items c.pop.new.self.items c.channels.invariant.front.0 c.in-Some.pass c.requires.own c.channels.invariant.front.1 c.in-Some.ensures.items) in
    omega (arith, low, c.requires.few)

pub overflow_add-place : goal.overflow_add-place
overflow_add-place g c =
    let low : c.args.first + length c.as_slice.result.now * c.args.stride < length c.args.cells.now =
    subst (λ (l : List _). c.args.first + length l * c.args.stride < length c.args.cells.now) (sym c.as_slice.ensures) (place_within c.args.cells.now c.args.first c.args.stride c.args.own.items c.channels.rest.items c.pop.new.self.items c.channels.invariant.front.0 c.in-Some.pass c.requires.own c.channels.invariant.front.1 c.in-Some.ensures.items) in
    omega (arith, low, c.requires.few)

pub settle_at-requires-clause-within : goal.settle_at-requires-clause-within
settle_at-requires-clause-within g c =
    subst (λ (l : List _). c.args.first + length l * c.args.stride < length c.args.cells.now) (sym c.as_slice.ensures) (place_within c.args.cells.now c.args.first c.args.stride c.args.own.items c.channels.rest.items c.pop.new.self.items c.channels.invariant.front.0 c.in-Some.pass c.requires.own c.channels.invariant.front.1 c.in-Some.ensures.items)

pub settle_at-requires-clause-pass : goal.settle_at-requires-clause-pass
settle_at-requires-clause-pass g c =
    subst (λ (l : List _). IsTaskAt c.args.cells.now (c.args.first + length l * c.args.stride) c.in-Some.pass) (sym c.as_slice.ensures)
    (task_there c.args.cells.now c.args.first c.args.stride c.args.own.items c.channels.rest.items c.pop.new.self.items c.channels.invariant.front.0 c.in-Some.pass c.requires.own c.channels.invariant.front.1 c.in-Some.ensures.items)

pub settle_at-requires-clause-loops : goal.settle_at-requires-clause-loops
settle_at-requires-clause-loops g c = c.channels.invariant.loops

pub channels-smaller : goal.channels-smaller
channels-smaller g c = let l = ap length c.in-Some.ensures.items ∙ length-append c.pop.new.self.items (c.in-Some.pass ∷ []) in omega (arith, l)

pub channels-preserved : goal.channels-preserved
channels-preserved g c =
    let i = c.channels.invariant in
    record {
      loops = c.settle_at.ensures.loops;
      go_on = go_on_again c.args.loops.now.items c.channels.loops.items c.settle_at.new.loops.items i.go_on c.settle_at.ensures.go_on;
      front = (c.in-Some.pass ∷ i.front.0, front_now c.args.cells.now c.args.first c.args.stride c.args.own.items c.channels.rest.items c.pop.new.self.items i.front.0 c.in-Some.pass c.requires.own i.front.1 c.in-Some.ensures.items);
      settled = settled_more c.args.cells.now c.args.first c.args.stride c.args.own.items c.channels.rest.items c.pop.new.self.items i.front.0 c.in-Some.pass c.requires.own i.front.1 c.in-Some.ensures.items
          g.S.Turned.stands c.args.loops.now.items c.channels.loops.items i.go_on
          (subst (λ (l : List _). SettledAt g.S.Turned.stands (mine c.in-Some.pass) (seen c.in-Some.pass) (mine_at (place_of c.args.first c.args.stride (length l)) c.channels.loops.items) (seen_at (place_of c.args.first c.args.stride (length l)) c.channels.loops.items))
          c.as_slice.ensures c.settle_at.ensures.settled)
          i.settled;
    }

pub returns-clause-loops : goal.returns-clause-loops
returns-clause-loops g c = c.channels.invariant.loops

pub returns-clause-go_on : goal.returns-clause-go_on
returns-clause-go_on g c = c.channels.invariant.go_on

pub returns-clause-settled : goal.returns-clause-settled
returns-clause-settled g c = λ k high. c.channels.invariant.settled k (let low = none_left c.channels.rest.items c.in_default.ensures.some in omega (arith, low)) high
