use Rattle.std.proofs.Common.{◌≡◌, [], ◌∷◌, ◌++◌, refl, sym, ap, subst, ◌∙◌, arith}
use Rattle.std.proofs.lemmas.List.Elements.{All-push, All-same}
use Rattle.segment_pool.specs.Pools.{size_of}
use Rattle.turn_cell.specs.Passes.{opened_with}
use Rattle.input_channel.specs.States.{ChannelState, ChannelStandsFor}
use Rattle.input_channel.specs.States.{opening}
use Rattle.job_cells.specs.Edges.{buffers_room}
use Rattle.job_cells.specs.Ends.{InputCell}
use Rattle.job_cells.proofs.EndLaws.{gate_none, gate_more}
use Rattle.job_cells.proofs.gates.add_inputs.Goals as goal

pub loop-way-init : goal.loop-way-init
loop-way-init g c = record {
  local = c.requires.local.0;
  limit = refl;
  lent = c.requires.local.1;
  dealt = c.requires.dealt;
  opened = c.requires.opened;
  gate = gate_none c.args.group.now.cells.items c.new-own.result.items c.new-own.ensures;
}

pub add-requires-clause-new : goal.add-requires-clause-new
add-requires-clause-new g c =
    subst (λ (input : ChannelState). ChannelStandsFor input []) (sym c.in_ok-input.ensures.opened) (c.channels_stand_for_histories.ensures.opening (size_of c.args.pool.now) buffers_room)

pub loop-way-preserved : goal.loop-way-preserved
loop-way-preserved g c =
    let before = c.loop-way.invariant in let more = c.in_ok-add.ensures.more in let local = c.in_ok-input.ensures.local in
    let size = size_of c.args.pool.now in let cells = c.loop-way.group.cells.items in
    record {
      local = local.0;
      limit = local.1 ∙ before.limit;
      lent = (let l = local.2 in let b = before.lent in omega (arith, l, b));
      dealt = c.in_ok-add.ensures.dealt;
      opened = All-same (λ (cell : InputCell). opened_with cell ≡ opening size buffers_room) c.add.new.self.cells.items (cells ++ more.cell ∷ []) more.is
          (All-push (λ (cell : InputCell). opened_with cell ≡ opening size buffers_room) cells more.cell before.opened (more.opened ∙ c.in_ok-input.ensures.opened));
      gate = gate_more c.loop-way._way c.args.group.now.cells.items cells c.add.new.self.cells.items c.loop-way.own.items c.push.new.self.items more.cell c.in_ok-add.field-0
          before.gate more.is more.made c.in_ok-push.ensures.ok;
    }
