use Rattle.std.proofs.Common.{◌∙◌, sym, ap, subst, arith}
use Rattle.conn_parts.proofs.Passes.{pass_out, are_of_back, grew_back, numbers_back, pool_size}
use Rattle.conn_parts.proofs.pools.give_segment.Goals as goal

pub give_in_turn-pass-requires-clause-pass : goal.give_in_turn-pass-requires-clause-pass
give_in_turn-pass-requires-clause-pass g c =
    pass_out c.args.cells.now c.args.passes.now.items c.args.place c.index-cells-place.result c.take_out-pass.result
    c.requires.passes c.requires.within c.index-cells-place.is c.take_out-pass.ensures.item

pub returns-clause-passes : goal.returns-clause-passes
returns-clause-passes g c =
    are_of_back c.args.cells.now c.args.passes.now.items c.take_out-pass.new.list.items c.put_back.new.list.items c.args.place
    c.index-cells-place.result c.give_in_turn-pass.result
    c.requires.passes c.requires.within c.index-cells-place.is c.give_in_turn-pass.ensures.pass.0 c.take_out-pass.ensures.rest c.put_back.ensures

pub returns-clause-numbers : goal.returns-clause-numbers
returns-clause-numbers g c =
    numbers_back c.args.passes.now.items c.take_out-pass.new.list.items c.put_back.new.list.items c.args.place c.take_out-pass.result c.give_in_turn-pass.result
    c.take_out-pass.ensures.item c.take_out-pass.ensures.rest c.put_back.ensures c.give_in_turn-pass.ensures.pass.1

pub returns-clause-returned : goal.returns-clause-returned
returns-clause-returned g c =
    grew_back c.args.passes.now.items c.take_out-pass.new.list.items c.put_back.new.list.items c.args.place c.take_out-pass.result c.give_in_turn-pass.result _
    (omega (arith, c.requires.within, c.requires.passes.many)) c.take_out-pass.ensures.item c.take_out-pass.ensures.rest c.put_back.ensures c.give_in_turn-pass.ensures.returned

pub give_in_turn-pass-requires-clause-size : goal.give_in_turn-pass-requires-clause-size
give_in_turn-pass-requires-clause-size g c =
    sym (pool_size c.args.cells.now c.args.place c.index-cells-place.result _ c.requires.within c.index-cells-place.is c.requires.size)
