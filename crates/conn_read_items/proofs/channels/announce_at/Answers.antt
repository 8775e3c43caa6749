use Rattle.std.proofs.Common.{◌<◌, refl, [], ◌∷◌, length}
use Rattle.turn_cell.specs.Passes.{mine}
use Rattle.input_channel.specs.declared.entry.ReceiveEntry.TheVariants.{Backlog}
use Rattle.conn_read_items.proofs.Asking.{asked_then, none_added}
use Rattle.conn_read_items.proofs.EntryLaws.{one_more, more_again}
use Rattle.conn_read_items.proofs.PlaceLaws.{pass_of_cell, many_passes, gave_at, asked_at, lent_still}
use Rattle.conn_read_items.proofs.channels.announce_at.Goals as goal

pub obey_backlog-wanted-requires-clause-pass : goal.obey_backlog-wanted-requires-clause-pass
obey_backlog-wanted-requires-clause-pass g c =
    pass_of_cell c.args.cells.now c.args.passes.now c.as_mut_slice.result.now c.args.place c.index-cells-place.result c.index-as_mut_slice-place.result
    c.requires.lent c.as_mut_slice.ensures.value c.requires.place c.index-cells-place.is c.index-as_mut_slice-place.is

pub returns-clause-lent : goal.returns-clause-lent
returns-clause-lent g c =
    lent_still c.args.cells.now c.args.passes.now _ c.as_mut_slice.result.now c.args.place c.index-cells-place.result c.ask_floating.new.pass
    c.requires.lent c.as_mut_slice.ensures.value c.requires.place c.index-cells-place.is c.ask_floating.ensures.pass.0 c.ask_floating.ensures.pass.1 refl c.ask_floating.ensures.pools refl

pub returns-clause-gave : goal.returns-clause-gave
returns-clause-gave g c =
    let within : c.args.place < length c.args.passes.now.inputs.items = many_passes c.args.cells.now c.args.passes.now c.args.place c.requires.lent c.requires.place in
    gave_at c.args.passes.now.inputs.items c.as_mut_slice.result.now c.args.place c.index-as_mut_slice-place.result c.ask_floating.new.pass
    c.as_mut_slice.ensures.value within c.index-as_mut_slice-place.is (Backlog c.args.n ∷ [])
    (more_again _ (mine c.obey_backlog-wanted.new.pass) (mine c.ask_floating.new.pass) (Backlog c.args.n ∷ []) [] (one_more _ _ (Backlog c.args.n) refl c.obey_backlog-wanted.ensures.entered) c.ask_floating.ensures.noted)

pub returns-clause-asked : goal.returns-clause-asked
returns-clause-asked g c =
    let within : c.args.place < length c.args.passes.now.inputs.items = many_passes c.args.cells.now c.args.passes.now c.args.place c.requires.lent c.requires.place in
    asked_at c.args.passes.now.inputs.items c.as_mut_slice.result.now c.args.place c.index-as_mut_slice-place.result c.ask_floating.new.pass
    c.as_mut_slice.ensures.value within c.index-as_mut_slice-place.is c.args.passes.now _ c.args.to refl refl
    (asked_then c.args.to _ (mine c.obey_backlog-wanted.new.pass) (mine c.ask_floating.new.pass) _ _ (none_added _ _ (Backlog c.args.n) refl c.obey_backlog-wanted.ensures.entered) c.ask_floating.ensures.asked)
