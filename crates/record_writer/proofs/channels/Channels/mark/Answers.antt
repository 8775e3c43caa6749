use Rattle.std.proofs.Common.{◌<◌, refl, ◌∙◌, arith, length, get_or}
use Rattle.std.proofs.lemmas.Result.{on_ok_weaker, on_err_weaker}
use Rattle.subpartition.specs.declared.entry.SendEntry.TheVariants.{PutInline}
use Rattle.record_writer.specs.Writers.{place_of}
use Rattle.record_writer.specs.Channels.{WasMarkedAt, WasStoppedAt}
use Rattle.record_writer.proofs.Lending.{said_there, own_was, own_now, held_now, laid_was, own_else, held_elsewhere, parts_many, parts_fit, own_lent, cell_there}
use Rattle.record_writer.specs.Segments.{lending_of}
use Rattle.record_writer.proofs.Segments.{none_lost_here}
use Rattle.record_writer.proofs.channels.Channels.mark.Goals as goal

pub returns-clause-channels : goal.returns-clause-channels
returns-clause-channels g c =
    let old = c.args.self.now in let v = c.requires.channels in
    let many : c.args.number < length old.parts.items = omega (arith, v.parts_are, c.requires.within) in
    let cell = get_or old.subpartitions.now (place_of old.first old.stride c.args.number) c.index-self-self.result in (
      record {
        own =
            own_lent old.passes.items c.as_mut_slice.result.now old.parts.items c.as_mut_slice-2.result.now c.args.number c.index-as_mut_slice-number.result c.index-as_mut_slice-number-2.result c.as_mut_slice.ensures.value c.as_mut_slice-2.ensures.value c.requires.within many c.index-as_mut_slice-number.is c.index-as_mut_slice-number-2.is c.mark.new.pass c.mark.new.part
            old.subpartitions.now old.first old.stride (length old.passes.items) cell v.own
            (cell_there old.subpartitions.now old.first old.stride (length old.passes.items) old.passes.items c.args.number c.index-self-self.result v.own c.requires.within) c.mark.ensures.pass;
        parts_are = parts_many old.passes.items c.as_mut_slice.result.now old.parts.items c.as_mut_slice-2.result.now c.args.number c.index-as_mut_slice-number.result c.index-as_mut_slice-number-2.result c.as_mut_slice.ensures.value c.as_mut_slice-2.ensures.value c.requires.within many c.index-as_mut_slice-number.is c.index-as_mut_slice-number-2.is c.mark.new.pass c.mark.new.part ∙ v.parts_are;
        parts = parts_fit old.passes.items c.as_mut_slice.result.now old.parts.items c.as_mut_slice-2.result.now c.args.number c.index-as_mut_slice-number.result c.index-as_mut_slice-number-2.result c.as_mut_slice.ensures.value c.as_mut_slice-2.ensures.value c.requires.within many c.index-as_mut_slice-number.is c.index-as_mut_slice-number-2.is c.mark.new.pass c.mark.new.part c.args.supply.now.size v.parts c.mark.ensures.part;
        sizes = v.sizes;
      },
      record { cells = refl; first = refl; stride = refl },
    )

pub returns-clause-others : goal.returns-clause-others
returns-clause-others g c = λ d ne.
    let old = c.args.self.now in
    let many : c.args.number < length old.parts.items = omega (arith, c.requires.channels.parts_are, c.requires.within) in record {
      own = own_else old.passes.items c.as_mut_slice.result.now old.parts.items c.as_mut_slice-2.result.now c.args.number c.index-as_mut_slice-number.result c.index-as_mut_slice-number-2.result c.as_mut_slice.ensures.value c.as_mut_slice-2.ensures.value c.requires.within many c.index-as_mut_slice-number.is c.index-as_mut_slice-number-2.is c.mark.new.pass c.mark.new.part d ne;
      held = held_elsewhere old.passes.items c.as_mut_slice.result.now old.parts.items c.as_mut_slice-2.result.now c.args.number c.index-as_mut_slice-number.result c.index-as_mut_slice-number-2.result c.as_mut_slice.ensures.value c.as_mut_slice-2.ensures.value c.requires.within many c.index-as_mut_slice-number.is c.index-as_mut_slice-number-2.is c.mark.new.pass c.mark.new.part d ne;
    }

pub returns-clause-marked : goal.returns-clause-marked
returns-clause-marked g c =
    let old = c.args.self.now in
    let many : c.args.number < length old.parts.items = omega (arith, c.requires.channels.parts_are, c.requires.within) in
    let was = own_was old.passes.items c.as_mut_slice.result.now old.parts.items c.as_mut_slice-2.result.now c.args.number c.index-as_mut_slice-number.result c.index-as_mut_slice-number-2.result c.as_mut_slice.ensures.value c.as_mut_slice-2.ensures.value c.requires.within many c.index-as_mut_slice-number.is c.index-as_mut_slice-number-2.is in
    let now = own_now old.passes.items c.as_mut_slice.result.now old.parts.items c.as_mut_slice-2.result.now c.args.number c.index-as_mut_slice-number.result c.index-as_mut_slice-number-2.result c.as_mut_slice.ensures.value c.as_mut_slice-2.ensures.value c.requires.within many c.index-as_mut_slice-number.is c.index-as_mut_slice-number-2.is c.mark.new.pass c.mark.new.part in
    let laid = laid_was old.passes.items c.as_mut_slice.result.now old.parts.items c.as_mut_slice-2.result.now c.args.number c.index-as_mut_slice-number.result c.index-as_mut_slice-number-2.result c.as_mut_slice.ensures.value c.as_mut_slice-2.ensures.value c.requires.within many c.index-as_mut_slice-number.is c.index-as_mut_slice-number-2.is in
    on_ok_weaker c.mark.result (λ h. (said_there (WasMarkedAt c.args.supply.now.size c.args.k) _ _ _ _ _ _ was now laid h.0, held_now old.passes.items c.as_mut_slice.result.now old.parts.items c.as_mut_slice-2.result.now c.args.number c.index-as_mut_slice-number.result c.index-as_mut_slice-number-2.result c.as_mut_slice.ensures.value c.as_mut_slice-2.ensures.value c.requires.within many c.index-as_mut_slice-number.is c.index-as_mut_slice-number-2.is c.mark.new.pass c.mark.new.part ∙ h.1)) c.mark.ensures.marked

pub returns-clause-stopped : goal.returns-clause-stopped
returns-clause-stopped g c =
    let old = c.args.self.now in
    let many : c.args.number < length old.parts.items = omega (arith, c.requires.channels.parts_are, c.requires.within) in
    let was = own_was old.passes.items c.as_mut_slice.result.now old.parts.items c.as_mut_slice-2.result.now c.args.number c.index-as_mut_slice-number.result c.index-as_mut_slice-number-2.result c.as_mut_slice.ensures.value c.as_mut_slice-2.ensures.value c.requires.within many c.index-as_mut_slice-number.is c.index-as_mut_slice-number-2.is in
    let now = own_now old.passes.items c.as_mut_slice.result.now old.parts.items c.as_mut_slice-2.result.now c.args.number c.index-as_mut_slice-number.result c.index-as_mut_slice-number-2.result c.as_mut_slice.ensures.value c.as_mut_slice-2.ensures.value c.requires.within many c.index-as_mut_slice-number.is c.index-as_mut_slice-number-2.is c.mark.new.pass c.mark.new.part in
    let laid = laid_was old.passes.items c.as_mut_slice.result.now old.parts.items c.as_mut_slice-2.result.now c.args.number c.index-as_mut_slice-number.result c.index-as_mut_slice-number-2.result c.as_mut_slice.ensures.value c.as_mut_slice-2.ensures.value c.requires.within many c.index-as_mut_slice-number.is c.index-as_mut_slice-number-2.is in
    on_err_weaker c.mark.result (λ h. (said_there (WasStoppedAt c.args.supply.now.size (PutInline c.args.k)) _ _ _ _ _ _ was now laid h.0, h.1)) c.mark.ensures.stopped

pub returns-clause-none_lost : goal.returns-clause-none_lost
returns-clause-none_lost g c =
    let old = c.args.self.now in
    let many : c.args.number < length old.parts.items = omega (arith, c.requires.channels.parts_are, c.requires.within) in
    none_lost_here old.passes.items c.as_mut_slice.result.now old.parts.items c.as_mut_slice-2.result.now c.args.number c.index-as_mut_slice-number.result c.index-as_mut_slice-number-2.result c.as_mut_slice.ensures.value c.as_mut_slice-2.ensures.value c.requires.within many c.index-as_mut_slice-number.is c.index-as_mut_slice-number-2.is c.mark.new.pass c.mark.new.part (lending_of c.args.supply.now) (lending_of c.mark.new.supply) c.mark.ensures.none_lost
