use Rattle.std.proofs.Common.{◌≡◌, [], List, slice_index_or, sym, ap, ◌∙◌, arith}
use Rattle.std.specs.List.{flat_map}
use Rattle.std.proofs.lemmas.List.{take_all}
use Rattle.std.proofs.lemmas.List.Elements.{All-same}
use Rattle.flow_defs.specs.Jobs.{tasks}
use Rattle.snapshot_channel.specs.Passes.{IsPassOf, IsReceivedOf, opening_of, received_by}
use Rattle.job_ends.specs.Leaving.{RowWithoutSnapshots, acknowledged_by}
use Rattle.job_ends.proofs.Acknowledging.{all_passes, are_received, are_settled, channels_stay, joined_more, row_fits, row_has, sum_more}
use Rattle.job_ends.proofs.Rows.{read_there, stood, up_to_more, up_to_none}
use Rattle.job_ends.proofs.acknowledged.settle_snapshots.Goals as goal

pub loop-stage-init : goal.loop-stage-init
loop-stage-init g c = record {
  rows = up_to_none RowWithoutSnapshots c.args.rows.now;
  passes = c.requires.room.0;
  room = (let enough = c.requires.room.1 in omega (arith, enough));
}

pub take_row-requires-clause-have : goal.take_row-requires-clause-have
take_row-requires-clause-have g c =
    let i = c.loop-stage.invariant in
    let many = i.rows.many in
    let row = slice_index_or c.loop-stage.rows c.loop-stage.stage c.index-rows-stage.result in
    let at = read_there c.loop-stage.rows c.loop-stage.stage c.index-rows-stage.result (omega (arith, many)) c.index-rows-stage.is in
    row_has c.requires.passes c.loop-stage.stage row (stood RowWithoutSnapshots c.loop-stage.stage c.args.rows.now c.loop-stage.rows row i.rows at)

pub take_row-requires-clause-room : goal.take_row-requires-clause-room
take_row-requires-clause-room g c =
    let i = c.loop-stage.invariant in
    let many = i.rows.many in
    let row = slice_index_or c.loop-stage.rows c.loop-stage.stage c.index-rows-stage.result in
    let at = read_there c.loop-stage.rows c.loop-stage.stage c.index-rows-stage.result (omega (arith, many)) c.index-rows-stage.is in
    row_fits c.requires.passes c.loop-stage.stage row (stood RowWithoutSnapshots c.loop-stage.stage c.args.rows.now c.loop-stage.rows row i.rows at) c.loop-stage.passes.room i.room

pub loop-stage-preserved : goal.loop-stage-preserved
loop-stage-preserved g c =
    let i = c.loop-stage.invariant in
    let many = i.rows.many in
    let row = slice_index_or c.loop-stage.rows c.loop-stage.stage c.index-rows-stage.result in
    let at = read_there c.loop-stage.rows c.loop-stage.stage c.index-rows-stage.result (omega (arith, many)) c.index-rows-stage.is in
    let before = stood RowWithoutSnapshots c.loop-stage.stage c.args.rows.now c.loop-stage.rows row i.rows at in
    let here = c.requires.passes.row_many c.loop-stage.stage row before in
    let sum = sum_more c.loop-stage.stage (tasks c.args.job.now) in
    record {
      rows = up_to_more RowWithoutSnapshots c.loop-stage.stage c.args.rows.now c.loop-stage.rows row c.take_row.new.row i.rows at c.take_row.ensures.row;
      passes = joined_more acknowledged_by [] c.loop-stage.passes.items c.take_row.new.passes.items c.args.rows.now c.loop-stage.stage row before i.passes c.take_row.ensures.passes;
      room = (let enough = i.room in let left = c.take_row.ensures.room in omega (arith, enough, left, here, sum));
    }

pub close-requires-clause-passes : goal.close-requires-clause-passes
close-requires-clause-passes g c =
    let many = c.loop-stage.invariant.rows.many in
    let all : c.loop-stage.passes.items ≡ flat_map acknowledged_by c.args.rows.now =
    c.loop-stage.invariant.passes ∙ ap (λ (l : List _). flat_map acknowledged_by l) (take_all c.loop-stage.stage c.args.rows.now (omega (arith, many))) in
    All-same (IsPassOf c.args.channel.now) c.loop-stage.passes.items (flat_map acknowledged_by c.args.rows.now) all (all_passes c.requires.passes)

pub returns-clause-received : goal.returns-clause-received
returns-clause-received g c =
    let many = c.loop-stage.invariant.rows.many in
    let all : c.loop-stage.passes.items ≡ flat_map acknowledged_by c.args.rows.now =
    c.loop-stage.invariant.passes ∙ ap (λ (l : List _). flat_map acknowledged_by l) (take_all c.loop-stage.stage c.args.rows.now (omega (arith, many))) in
    are_received c.requires.passes (opening_of c.args.channel.now) (received_by c.args.collecting)
    (All-same (IsReceivedOf (opening_of c.args.channel.now) (received_by c.args.collecting)) (flat_map acknowledged_by c.args.rows.now) c.loop-stage.passes.items (sym all) c.close.ensures)

pub returns-clause-rest : goal.returns-clause-rest
returns-clause-rest g c = let many = c.loop-stage.invariant.rows.many in are_settled c.loop-stage.stage c.args.rows.now c.loop-stage.rows c.loop-stage.invariant.rows (omega (arith, many))

pub returns-clause-channels : goal.returns-clause-channels
returns-clause-channels g c = let many = c.loop-stage.invariant.rows.many in channels_stay c.loop-stage.stage c.args.rows.now c.loop-stage.rows c.loop-stage.invariant.rows (omega (arith, many))
