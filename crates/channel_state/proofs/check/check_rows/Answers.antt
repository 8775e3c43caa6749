use Rattle.std.proofs.Common.{◌≡◌, None, arith}
use Rattle.std.specs.Prelude.{option_map}
use Rattle.std.proofs.lemmas.Result.{err_from_is_err_and}
use Rattle.channel_state.specs.ImageFaults.{rows}
use Rattle.channel_state.proofs.PartLemmas.{row_passed, key_fails, value_fails, rows_done}
use Rattle.channel_state.proofs.check.check_rows.Goals as goal

pub returns-in_err-key : goal.returns-in_err-key
returns-in_err-key c =
    let p = err_from_is_err_and c.from_residual.result c.from_residual.ensures.1 in
    rw (p.1, p.2) (key_fails c.loop-i._i c.args.many (option_map (λ key. key.now) c.loop-i.before) c.loop-i.cursor.rest.now (rows c.args.many None c.args.cursor.now.rest.now) c.loop-i.invariant (omega arith)
    c.in_err-key.field-0.0.left c.in_err-key.ensures)

pub returns-in_err-u64 : goal.returns-in_err-u64
returns-in_err-u64 c =
    let p = err_from_is_err_and c.from_residual-in_err-u64.result c.from_residual-in_err-u64.ensures.1 in
    rw (p.1, p.2) (value_fails c.loop-i._i c.args.many (option_map (λ key. key.now) c.loop-i.before) c.loop-i.cursor.rest.now (rows c.args.many None c.args.cursor.now.rest.now) c.loop-i.invariant (omega arith)
    c.in_ok-key.key.now c.key.new.self.rest.now c.in_err-u64.field-0.0.left c.in_ok-key.ensures c.in_err-u64.ensures)

pub loop-i-preserved : goal.loop-i-preserved
loop-i-preserved c =
    row_passed c.loop-i._i c.args.many (option_map (λ key. key.now) c.loop-i.before) c.loop-i.cursor.rest.now (rows c.args.many None c.args.cursor.now.rest.now) c.loop-i.invariant (omega arith)
    c.in_ok-key.key.now c.key.new.self.rest.now c.in_ok-u64.field-0 c.u64.new.self.rest.now c.in_ok-key.ensures c.in_ok-u64.ensures

pub returns : goal.returns
returns c = rows_done c.loop-i._i c.args.many (option_map (λ key. key.now) c.loop-i.before) c.loop-i.cursor.rest.now (rows c.args.many None c.args.cursor.now.rest.now) c.loop-i.invariant (omega arith)
