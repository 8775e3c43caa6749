use Rattle.std.proofs.Common.{◌<◌, ◌++◌, sym, refl, ap, subst, ◌∙◌, arith, length, get_or}
use Rattle.std.proofs.lemmas.Result.{on_ok_weaker, on_err_weaker}
use Rattle.flow_defs.specs.Records.{encoded}
use Rattle.turn_cell.specs.Passes.{mine}
use Rattle.record_writer.specs.Lists.{own_of}
use Rattle.record_writer.specs.Channels.{IsOpenAt}
use Rattle.record_writer.specs.Writers.{place_of, GrewByData}
use Rattle.record_writer.proofs.Lending.{some_there, own_was, own_now, laid_was, laid_now, own_else, held_elsewhere, parts_many, parts_fit, own_lent, cell_there}
use Rattle.record_writer.specs.Segments.{lending_of}
use Rattle.record_writer.proofs.Segments.{none_lost_here}
use Rattle.record_writer.proofs.channels.Channels.lay_down.Goals as goal

pub returns-clause-channels : goal.returns-clause-channels
returns-clause-channels g c =
    let old = c.args.self.now in let v = c.requires.channels in
    let many : c.args.number < length old.parts.items = omega (arith, v.parts_are, c.requires.within) in
    let cell = get_or old.subpartitions.now (place_of old.first old.stride c.args.number) c.index-self-self.result in (
      record {
        own =
            own_lent old.passes.items c.as_mut_slice.result.now old.parts.items c.as_mut_slice-2.result.now c.args.number c.index-as_mut_slice-number.result c.index-as_mut_slice-number-2.result c.as_mut_slice.ensures.value c.as_mut_slice-2.ensures.value c.requires.within many c.index-as_mut_slice-number.is c.index-as_mut_slice-number-2.is c.lay_down.new.pass c.lay_down.new.part
            old.subpartitions.now old.first old.stride (length old.passes.items) cell v.own
            (cell_there old.subpartitions.now old.first old.stride (length old.passes.items) old.passes.items c.args.number c.index-self-self.result v.own c.requires.within) c.lay_down.ensures.pass;
        parts_are = parts_many old.passes.items c.as_mut_slice.result.now old.parts.items c.as_mut_slice-2.result.now c.args.number c.index-as_mut_slice-number.result c.index-as_mut_slice-number-2.result c.as_mut_slice.ensures.value c.as_mut_slice-2.ensures.value c.requires.within many c.index-as_mut_slice-number.is c.index-as_mut_slice-number-2.is c.lay_down.new.pass c.lay_down.new.part ∙ v.parts_are;
        parts = parts_fit old.passes.items c.as_mut_slice.result.now old.parts.items c.as_mut_slice-2.result.now c.args.number c.index-as_mut_slice-number.result c.index-as_mut_slice-number-2.result c.as_mut_slice.ensures.value c.as_mut_slice-2.ensures.value c.requires.within many c.index-as_mut_slice-number.is c.index-as_mut_slice-number-2.is c.lay_down.new.pass c.lay_down.new.part c.args.supply.now.size v.parts c.lay_down.ensures.part;
        sizes = v.sizes;
      },
      record { cells = refl; first = refl; stride = refl },
    )

pub returns-clause-others : goal.returns-clause-others
returns-clause-others g c = λ d ne.
    let old = c.args.self.now in
    let many : c.args.number < length old.parts.items = omega (arith, c.requires.channels.parts_are, c.requires.within) in record {
      own = own_else old.passes.items c.as_mut_slice.result.now old.parts.items c.as_mut_slice-2.result.now c.args.number c.index-as_mut_slice-number.result c.index-as_mut_slice-number-2.result c.as_mut_slice.ensures.value c.as_mut_slice-2.ensures.value c.requires.within many c.index-as_mut_slice-number.is c.index-as_mut_slice-number-2.is c.lay_down.new.pass c.lay_down.new.part d ne;
      held = held_elsewhere old.passes.items c.as_mut_slice.result.now old.parts.items c.as_mut_slice-2.result.now c.args.number c.index-as_mut_slice-number.result c.index-as_mut_slice-number-2.result c.as_mut_slice.ensures.value c.as_mut_slice-2.ensures.value c.requires.within many c.index-as_mut_slice-number.is c.index-as_mut_slice-number-2.is c.lay_down.new.pass c.lay_down.new.part d ne;
    }

pub returns-clause-is_open : goal.returns-clause-is_open
returns-clause-is_open g c =
    let old = c.args.self.now in
    let many : c.args.number < length old.parts.items = omega (arith, c.requires.channels.parts_are, c.requires.within) in
    subst (IsOpenAt c.args.supply.now.size) (sym (own_now old.passes.items c.as_mut_slice.result.now old.parts.items c.as_mut_slice-2.result.now c.args.number c.index-as_mut_slice-number.result c.index-as_mut_slice-number-2.result c.as_mut_slice.ensures.value c.as_mut_slice-2.ensures.value c.requires.within many c.index-as_mut_slice-number.is c.index-as_mut_slice-number-2.is c.lay_down.new.pass c.lay_down.new.part)) c.lay_down.ensures.is_open

pub returns-clause-laid : goal.returns-clause-laid
returns-clause-laid g c =
    let old = c.args.self.now in
    let many : c.args.number < length old.parts.items = omega (arith, c.requires.channels.parts_are, c.requires.within) in
    let was = laid_was old.passes.items c.as_mut_slice.result.now old.parts.items c.as_mut_slice-2.result.now c.args.number c.index-as_mut_slice-number.result c.index-as_mut_slice-number-2.result c.as_mut_slice.ensures.value c.as_mut_slice-2.ensures.value c.requires.within many c.index-as_mut_slice-number.is c.index-as_mut_slice-number-2.is in
    let now = laid_now old.passes.items c.as_mut_slice.result.now old.parts.items c.as_mut_slice-2.result.now c.args.number c.index-as_mut_slice-number.result c.index-as_mut_slice-number-2.result c.as_mut_slice.ensures.value c.as_mut_slice-2.ensures.value c.requires.within many c.index-as_mut_slice-number.is c.index-as_mut_slice-number-2.is c.lay_down.new.pass c.lay_down.new.part in
    on_ok_weaker c.lay_down.result (λ h. now ∙ h ∙ ap (λ l. l ++ encoded c.args.line.now) (sym was)) c.lay_down.ensures.laid

pub returns-clause-stopped : goal.returns-clause-stopped
returns-clause-stopped g c =
    let old = c.args.self.now in
    let many : c.args.number < length old.parts.items = omega (arith, c.requires.channels.parts_are, c.requires.within) in
    let was = laid_was old.passes.items c.as_mut_slice.result.now old.parts.items c.as_mut_slice-2.result.now c.args.number c.index-as_mut_slice-number.result c.index-as_mut_slice-number-2.result c.as_mut_slice.ensures.value c.as_mut_slice-2.ensures.value c.requires.within many c.index-as_mut_slice-number.is c.index-as_mut_slice-number-2.is in
    let now = laid_now old.passes.items c.as_mut_slice.result.now old.parts.items c.as_mut_slice-2.result.now c.args.number c.index-as_mut_slice-number.result c.index-as_mut_slice-number-2.result c.as_mut_slice.ensures.value c.as_mut_slice-2.ensures.value c.requires.within many c.index-as_mut_slice-number.is c.index-as_mut_slice-number-2.is c.lay_down.new.pass c.lay_down.new.part in
    on_err_weaker c.lay_down.result (λ h. (some_there (ap (λ l. l ++ encoded c.args.line.now) was) now h.0, h.1)) c.lay_down.ensures.stopped

pub returns-clause-entries : goal.returns-clause-entries
returns-clause-entries g c =
    let old = c.args.self.now in
    let many : c.args.number < length old.parts.items = omega (arith, c.requires.channels.parts_are, c.requires.within) in
    let was = own_was old.passes.items c.as_mut_slice.result.now old.parts.items c.as_mut_slice-2.result.now c.args.number c.index-as_mut_slice-number.result c.index-as_mut_slice-number-2.result c.as_mut_slice.ensures.value c.as_mut_slice-2.ensures.value c.requires.within many c.index-as_mut_slice-number.is c.index-as_mut_slice-number-2.is in
    let now = own_now old.passes.items c.as_mut_slice.result.now old.parts.items c.as_mut_slice-2.result.now c.args.number c.index-as_mut_slice-number.result c.index-as_mut_slice-number-2.result c.as_mut_slice.ensures.value c.as_mut_slice-2.ensures.value c.requires.within many c.index-as_mut_slice-number.is c.index-as_mut_slice-number-2.is c.lay_down.new.pass c.lay_down.new.part in
    subst (λ es. GrewByData (own_of old c.args.number) es) (sym now) (subst (λ es. GrewByData es (mine c.lay_down.new.pass)) (sym was) c.lay_down.ensures.entries)

pub returns-clause-none_lost : goal.returns-clause-none_lost
returns-clause-none_lost g c =
    let old = c.args.self.now in
    let many : c.args.number < length old.parts.items = omega (arith, c.requires.channels.parts_are, c.requires.within) in
    none_lost_here old.passes.items c.as_mut_slice.result.now old.parts.items c.as_mut_slice-2.result.now c.args.number c.index-as_mut_slice-number.result c.index-as_mut_slice-number-2.result c.as_mut_slice.ensures.value c.as_mut_slice-2.ensures.value c.requires.within many c.index-as_mut_slice-number.is c.index-as_mut_slice-number-2.is c.lay_down.new.pass c.lay_down.new.part (lending_of c.args.supply.now) (lending_of c.lay_down.new.supply) c.lay_down.ensures.none_lost
