use Rattle.std.proofs.Common.{drop, sym, subst}
use Rattle.std.specs.Prelude.{None}
use Rattle.net_frames.specs.Faults.{in_span}
use Rattle.conn_read_control.specs.Rounds.{HasHandled}
use Rattle.conn_read_control.proofs.Rounding.{handled_closing, handled_one, handled_fault}
use Rattle.conn_read_control.proofs.rounds.handle.Goals as goal

pub returns-in-Close-clause-handled : goal.returns-in-Close-clause-handled
returns-in-Close-clause-handled g c =
    let bytes = c.args.incoming.now in let found = c.args.found in let content = in_span bytes found.content in
    handled_closing c.args.cells.now c.args.passes.now c.take_frame.new.passes bytes found.frame content (drop found.used bytes) c.requires.found.begins
    bytes c.in-Close.is (c.in-Ok.ensures.took content)

pub returns-in_default-clause-handled : goal.returns-in_default-clause-handled
returns-in_default-clause-handled g c =
    let bytes = c.args.incoming.now in let found = c.args.found in let content = in_span bytes found.content in
    subst (λ l. HasHandled c.args.cells.now c.args.passes.now c.take_frame.new.passes bytes l None) (sym c.consume.ensures)
    (handled_one c.args.cells.now c.args.passes.now c.take_frame.new.passes bytes found.frame content (drop found.used bytes) c.requires.found.begins
    c.in_default.not-Close (c.in-Ok.ensures.took content))

pub returns-in-Err-clause-handled : goal.returns-in-Err-clause-handled
returns-in-Err-clause-handled g c =
    let bytes = c.args.incoming.now in let found = c.args.found in let content = in_span bytes found.content in
    handled_fault c.args.cells.now c.args.passes.now c.take_frame.new.passes bytes bytes found.frame content (drop found.used bytes) c.in-Err.fault c.requires.found.begins
    (c.in-Err.ensures.took content)
