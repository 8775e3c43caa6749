use Rattle.std.proofs.Common.{◌<◌, refl, [], ◌∷◌, length}
use Rattle.turn_cell.specs.Passes.{mine}
use Rattle.input_channel.specs.declared.entry.ReceiveEntry.TheVariants.{Push}
use Rattle.input_channel.specs.Answers.{parcel_in}
use Rattle.conn_read_items.proofs.Asking.{asked_none, asked_then, none_added, refused_none}
use Rattle.conn_read_items.proofs.EntryLaws.{one_more, more_again}
use Rattle.conn_read_items.proofs.PlaceLaws.{pass_of_cell, many_passes, gave_at, refused_at, asked_at, lent_still}
use Rattle.conn_read_items.proofs.channels.give_at.Goals as goal

pub accept-requires-clause-pass : goal.accept-requires-clause-pass
accept-requires-clause-pass g c =
    pass_of_cell c.args.cells.now c.args.passes.now c.as_mut_slice.result.now c.args.place c.index-cells-place.result c.index-as_mut_slice-place.result
    c.requires.lent c.as_mut_slice.ensures.value c.requires.place c.index-cells-place.is c.index-as_mut_slice-place.is

pub returns-in-Ok-clause-lent : goal.returns-in-Ok-clause-lent
returns-in-Ok-clause-lent g c =
    lent_still c.args.cells.now c.args.passes.now _ c.as_mut_slice.result.now c.args.place c.index-cells-place.result c.ask_floating.new.pass
    c.requires.lent c.as_mut_slice.ensures.value c.requires.place c.index-cells-place.is c.ask_floating.ensures.pass.0 c.ask_floating.ensures.pass.1 refl c.ask_floating.ensures.pools refl

pub returns-in-Ok-clause-gave : goal.returns-in-Ok-clause-gave
returns-in-Ok-clause-gave g c =
    let within : c.args.place < length c.args.passes.now.inputs.items = many_passes c.args.cells.now c.args.passes.now c.args.place c.requires.lent c.requires.place in
    let note = Push (parcel_in c.args.a.what c.args.bytes.now) c.args.a.backlog in
    gave_at c.args.passes.now.inputs.items c.as_mut_slice.result.now c.args.place c.index-as_mut_slice-place.result c.ask_floating.new.pass
    c.as_mut_slice.ensures.value within c.index-as_mut_slice-place.is (note ∷ [])
    (more_again _ (mine c.accept.new.pass) (mine c.ask_floating.new.pass) (note ∷ []) [] (one_more _ _ note refl c.in-Ok.ensures.accepted) c.ask_floating.ensures.noted)

pub returns-in-Err-clause-lent : goal.returns-in-Err-clause-lent
returns-in-Err-clause-lent g c =
    lent_still c.args.cells.now c.args.passes.now _ c.as_mut_slice.result.now c.args.place c.index-cells-place.result c.accept.new.pass
    c.requires.lent c.as_mut_slice.ensures.value c.requires.place c.index-cells-place.is c.accept.ensures.pass.0 c.accept.ensures.pass.1 refl c.requires.lent.pools refl

pub returns-in-Err-clause-refused : goal.returns-in-Err-clause-refused
returns-in-Err-clause-refused g c =
    let within : c.args.place < length c.args.passes.now.inputs.items = many_passes c.args.cells.now c.args.passes.now c.args.place c.requires.lent c.requires.place in
    refused_at c.args.passes.now.inputs.items c.as_mut_slice.result.now c.args.place c.index-as_mut_slice-place.result c.accept.new.pass
    c.as_mut_slice.ensures.value within c.index-as_mut_slice-place.is c.args.a c.args.bytes.now c.in-Err.fault c.in-Err.ensures.refused

pub returns-in-Ok-clause-asked : goal.returns-in-Ok-clause-asked
returns-in-Ok-clause-asked g c =
    let within : c.args.place < length c.args.passes.now.inputs.items = many_passes c.args.cells.now c.args.passes.now c.args.place c.requires.lent c.requires.place in
    asked_at c.args.passes.now.inputs.items c.as_mut_slice.result.now c.args.place c.index-as_mut_slice-place.result c.ask_floating.new.pass
    c.as_mut_slice.ensures.value within c.index-as_mut_slice-place.is c.args.passes.now _ c.args.to refl refl
    (asked_then c.args.to _ (mine c.accept.new.pass) (mine c.ask_floating.new.pass) _ _ (none_added _ _ (Push (parcel_in c.args.a.what c.args.bytes.now) c.args.a.backlog) refl c.in-Ok.ensures.accepted) c.ask_floating.ensures.asked)

pub returns-in-Err-clause-asked : goal.returns-in-Err-clause-asked
returns-in-Err-clause-asked g c =
    let within : c.args.place < length c.args.passes.now.inputs.items = many_passes c.args.cells.now c.args.passes.now c.args.place c.requires.lent c.requires.place in
    asked_at c.args.passes.now.inputs.items c.as_mut_slice.result.now c.args.place c.index-as_mut_slice-place.result c.accept.new.pass
    c.as_mut_slice.ensures.value within c.index-as_mut_slice-place.is c.args.passes.now _ c.args.to refl refl
    (asked_none c.args.to _ (mine c.accept.new.pass) c.args.passes.now.pools.items c.args.passes.now.pools.items (refused_none _ _ _ c.args.a c.args.bytes.now c.in-Err.fault c.in-Err.ensures.refused) refl)
