use Rattle.std.proofs.Common.{◌≡◌, ℕ, true, false, List, [], sym, ◌∙◌}
use Rattle.plain_machine.specs.Images.{AreSpans}
use Rattle.collector.specs.Faults.{AreAllRecords, IsNothingSaved}
use Rattle.collector.proofs.FaultLemmas.{same_places, at_places, at_channels}
use Rattle.collector.proofs.fault.find_fault.Goals as goal

pub returns-then-not-are_all_records : goal.returns-then-not-are_all_records
returns-then-not-are_all_records c = λ all.
    let job = c.args.job.now in
    let image = c.args.image.now in
    let yes : c.are_all_records.result ≡ true = c.are_all_records.ensures.1
    (same_places AreSpans image.saved_in.items c.as_slice-pieces_in.result.now image.saved_out.items c.as_slice-pieces_out.result.now c.as_slice-pieces_in.ensures c.as_slice-pieces_out.ensures
    (at_channels AreSpans job image.saved_in.items image.saved_out.items c.requires.job c.places_are_in_order.ensures.width c.requires.saved_in all)) in
    let no : true ≡ false = sym yes ∙ c.if-not-are_all_records.true in
    cc

pub returns-then-not-image : goal.returns-then-not-image
returns-then-not-image c =
    let job = c.args.job.now in
    let image = c.args.image.now in
    let records : AreAllRecords job image =
    at_places AreSpans job image.saved_in.items image.saved_out.items c.requires.job c.places_are_in_order.ensures.channels c.requires.saved_in
    (same_places AreSpans c.as_slice-pieces_in.result.now image.saved_in.items c.as_slice-pieces_out.result.now image.saved_out.items (sym c.as_slice-pieces_in.ensures) (sym c.as_slice-pieces_out.ensures)
    (c.are_all_records.ensures.0 c.if-not-are_all_records.false)) in
    (records, λ last e a b on. absurd (let no : true ≡ false = sym last ∙ c.if-not-image.true in let never : ⊥ = cc in never))

pub returns-then-are_empty : goal.returns-then-are_empty
returns-then-are_empty c =
    let job = c.args.job.now in
    let image = c.args.image.now in
    let records : AreAllRecords job image =
    at_places AreSpans job image.saved_in.items image.saved_out.items c.requires.job c.places_are_in_order.ensures.channels c.requires.saved_in
    (same_places AreSpans c.as_slice-pieces_in.result.now image.saved_in.items c.as_slice-pieces_out.result.now image.saved_out.items (sym c.as_slice-pieces_in.ensures) (sym c.as_slice-pieces_out.ensures)
    (c.are_all_records.ensures.0 c.if-not-are_all_records.false)) in
    let IsEmpty : List ℕ → Type 0 = λ bytes. bytes ≡ [] in
    let nothing : IsNothingSaved job image =
    at_places IsEmpty job image.saved_in.items image.saved_out.items c.requires.job c.places_are_in_order.ensures.channels c.requires.saved_in
    (same_places IsEmpty c.as_slice-pieces_in.result.now image.saved_in.items c.as_slice-pieces_out.result.now image.saved_out.items (sym c.as_slice-pieces_in.ensures) (sym c.as_slice-pieces_out.ensures)
    (c.are_empty.ensures.0 c.if-are_empty.true)) in
    (records, λ last. nothing)

pub returns : goal.returns
returns c =
    let job = c.args.job.now in
    let image = c.args.image.now in
    let records : AreAllRecords job image =
    at_places AreSpans job image.saved_in.items image.saved_out.items c.requires.job c.places_are_in_order.ensures.channels c.requires.saved_in
    (same_places AreSpans c.as_slice-pieces_in.result.now image.saved_in.items c.as_slice-pieces_out.result.now image.saved_out.items (sym c.as_slice-pieces_in.ensures) (sym c.as_slice-pieces_out.ensures)
    (c.are_all_records.ensures.0 c.if-not-are_all_records.false)) in
    let IsEmpty : List ℕ → Type 0 = λ bytes. bytes ≡ [] in (
      records,
      c.if-not-image.false,
      λ nothing.
          let yes : c.are_empty.result ≡ true = c.are_empty.ensures.1
          (same_places IsEmpty image.saved_in.items c.as_slice-pieces_in.result.now image.saved_out.items c.as_slice-pieces_out.result.now c.as_slice-pieces_in.ensures c.as_slice-pieces_out.ensures
          (at_channels IsEmpty job image.saved_in.items image.saved_out.items c.requires.job c.places_are_in_order.ensures.width c.requires.saved_in nothing)) in
          let no : true ≡ false = sym yes ∙ c.if-are_empty.false in
          cc,
    )
