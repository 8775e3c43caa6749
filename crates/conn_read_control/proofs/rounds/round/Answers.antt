use Rattle.std.proofs.Common.{refl, sym, ap, ◌∙◌}
use Rattle.turn_cell.specs.Passes.{seen}
use Rattle.conn_parts.specs.Stopping.{StopPass}
use Rattle.conn_read_control.specs.declared.cells.ControlPasses.{ControlPasses}
use Rattle.conn_read_control.proofs.Ending.{met_some, met_none, round_handled, round_read, round_stopped, round_bad, cannot_begin}
use Rattle.conn_read_control.proofs.rounds.round.Goals as goal

with_stop : ControlPasses → StopPass → ControlPasses
with_stop passes stop = record { readers = passes.readers; subpartitions = passes.subpartitions; stop = stop }

pub returns-in-Some-clause-went : goal.returns-in-Some-clause-went
unfolding with_stop
returns-in-Some-clause-went g c =
    let first = c.args.passes.now in let a = with_stop first c.look.new.pass in
    round_stopped c.args.cells.now first a refl refl (g.I.LinkIn.got c.args.input.now) (g.I.LinkIn.ended c.args.input.now) (g.I.LinkIn.faults c.args.input.now)
    c.args.incoming.now c.args.incoming.now (met_some (seen c.look.new.pass) c.in-Some.field-0 (sym c.in-Some.is ∙ c.look.ensures.answer))

pub returns-in-Ok-clause-went : goal.returns-in-Ok-clause-went
unfolding with_stop
returns-in-Ok-clause-went g c =
    let first = c.args.passes.now in let a = with_stop first c.look.new.pass in let b = c.handle.new.passes in
    round_handled c.args.cells.now first a refl refl b (g.I.LinkIn.got c.args.input.now) (g.I.LinkIn.ended c.args.input.now) (g.I.LinkIn.faults c.args.input.now)
    c.args.incoming.now c.handle.new.incoming c.handle.result
    (ap (λ (p : StopPass). seen p) c.handle.ensures.stop ∙ met_none (seen c.look.new.pass) (sym c.in_default.is ∙ c.look.ensures.answer))
    c.handle.ensures.handled

pub returns-in-Err-NeedMore-clause-went : goal.returns-in-Err-NeedMore-clause-went
unfolding with_stop
returns-in-Err-NeedMore-clause-went g c =
    let first = c.args.passes.now in let a = with_stop first c.look.new.pass in let old = c.args.input.now in let new = c.read_more.new.input in
    round_read c.args.cells.now first a refl refl (g.I.LinkIn.got old) (g.I.LinkIn.got new) (g.I.LinkIn.ended old) (g.I.LinkIn.ended new)
    (g.I.LinkIn.faults old) (g.I.LinkIn.faults new) c.args.incoming.now c.read_more.new.incoming c.read_more.result c.read_more.ensures.read

pub returns-in-Err-BadLength-clause-went : goal.returns-in-Err-BadLength-clause-went
unfolding with_stop
returns-in-Err-BadLength-clause-went g c =
    let first = c.args.passes.now in let a = with_stop first c.look.new.pass in let old = c.args.input.now in let incoming = c.args.incoming.now in
    round_bad c.args.cells.now first a refl refl (g.I.LinkIn.got old) (g.I.LinkIn.ended old) (g.I.LinkIn.faults old) incoming incoming
    (cannot_begin c.bytes.result.now incoming c.in-Err-BadLength.field-0 _ c.bytes.ensures c.in-Err-BadLength.field-0-is (λ e. absurd (cc)) c.in-Err-BadLength.ensures.stays)

pub returns-in-Err-BadMagic-clause-went : goal.returns-in-Err-BadMagic-clause-went
unfolding with_stop
returns-in-Err-BadMagic-clause-went g c =
    let first = c.args.passes.now in let a = with_stop first c.look.new.pass in let old = c.args.input.now in let incoming = c.args.incoming.now in
    round_bad c.args.cells.now first a refl refl (g.I.LinkIn.got old) (g.I.LinkIn.ended old) (g.I.LinkIn.faults old) incoming incoming
    (cannot_begin c.bytes.result.now incoming c.in-Err-BadMagic.field-0 _ c.bytes.ensures c.in-Err-BadMagic.field-0-is (λ e. absurd (cc)) c.in-Err-BadMagic.ensures.stays)

pub returns-in-Err-BadId-clause-went : goal.returns-in-Err-BadId-clause-went
unfolding with_stop
returns-in-Err-BadId-clause-went g c =
    let first = c.args.passes.now in let a = with_stop first c.look.new.pass in let old = c.args.input.now in let incoming = c.args.incoming.now in
    round_bad c.args.cells.now first a refl refl (g.I.LinkIn.got old) (g.I.LinkIn.ended old) (g.I.LinkIn.faults old) incoming incoming
    (cannot_begin c.bytes.result.now incoming c.in-Err-BadId.field-0 _ c.bytes.ensures c.in-Err-BadId.field-0-is (λ e. absurd (cc)) c.in-Err-BadId.ensures.stays)

pub returns-in-Err-BadBody-clause-went : goal.returns-in-Err-BadBody-clause-went
unfolding with_stop
returns-in-Err-BadBody-clause-went g c =
    let first = c.args.passes.now in let a = with_stop first c.look.new.pass in let old = c.args.input.now in let incoming = c.args.incoming.now in
    round_bad c.args.cells.now first a refl refl (g.I.LinkIn.got old) (g.I.LinkIn.ended old) (g.I.LinkIn.faults old) incoming incoming
    (cannot_begin c.bytes.result.now incoming c.in-Err-BadBody.field-0 _ c.bytes.ensures c.in-Err-BadBody.field-0-is (λ e. absurd (cc)) c.in-Err-BadBody.ensures.stays)
