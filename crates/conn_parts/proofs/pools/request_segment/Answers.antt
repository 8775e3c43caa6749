use Rattle.std.proofs.Common.{◌≡◌, ◌∙◌, sym, ap, subst, arith, length, ℕ}
use Rattle.conn_parts.proofs.Passes.{pass_out, are_of_back, grew_back, numbers_back, lent_size}
use Rattle.conn_parts.proofs.pools.request_segment.Goals as goal

pub request_in_turn-pass-requires : goal.request_in_turn-pass-requires
request_in_turn-pass-requires g c =
    pass_out c.args.cells.now c.args.passes.now.items c.args.place c.index-cells-place.result c.take_out-pass.result
    c.requires.passes c.requires.within c.index-cells-place.is c.take_out-pass.ensures.item

pub returns-clause-passes : goal.returns-clause-passes
returns-clause-passes g c =
    are_of_back c.args.cells.now c.args.passes.now.items c.take_out-pass.new.list.items c.put_back.new.list.items c.args.place
    c.index-cells-place.result c.request_in_turn-pass.result.0
    c.requires.passes c.requires.within c.index-cells-place.is c.request_in_turn-pass.ensures.pass.0 c.take_out-pass.ensures.rest c.put_back.ensures

pub returns-clause-numbers : goal.returns-clause-numbers
returns-clause-numbers g c =
    numbers_back c.args.passes.now.items c.take_out-pass.new.list.items c.put_back.new.list.items c.args.place c.take_out-pass.result c.request_in_turn-pass.result.0
    c.take_out-pass.ensures.item c.take_out-pass.ensures.rest c.put_back.ensures c.request_in_turn-pass.ensures.pass.1

pub returns-clause-lent : goal.returns-clause-lent
returns-clause-lent g c =
    grew_back c.args.passes.now.items c.take_out-pass.new.list.items c.put_back.new.list.items c.args.place c.take_out-pass.result c.request_in_turn-pass.result.0 _
    (omega (arith, c.requires.within, c.requires.passes.many)) c.take_out-pass.ensures.item c.take_out-pass.ensures.rest c.put_back.ensures c.request_in_turn-pass.ensures.lent

pub returns-clause-size : goal.returns-clause-size
returns-clause-size g c = λ size sizes.
    lent_size c.args.cells.now c.args.place c.index-cells-place.result size c.request_in_turn-pass.result.1 c.requires.within c.index-cells-place.is sizes c.request_in_turn-pass.ensures.size
