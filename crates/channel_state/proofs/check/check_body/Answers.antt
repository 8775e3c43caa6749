use Rattle.std.proofs.Common.{◌≡◌, ◌+◌, [], suc, Ok, Err, sym, ap, subst, ◌∙◌, arith}
use Rattle.std.proofs.lemmas.Result.{err_from_is_err_and}
use Rattle.flow_defs.specs.Jobs.{last_edge, tasks}
use Rattle.job_text.specs.Shapes.{job_of}
use Rattle.channel_state.specs.Outcomes.{Passes}
use Rattle.channel_state.proofs.BodyLemmas.{IsPassed, from_counts, from_tables, from_takes, from_saved, from_end, at_sources, at_counts, at_tables, at_takes, at_saved, at_end}
use Rattle.channel_state.proofs.check.check_body.Goals.{In_ok-check_parts, In_ok-check_parts-2, After-tasks-2, In_ok-check_parts-3, In_ok-check_takes, In_ok-check_parts-4}
use Rattle.channel_state.proofs.check.check_body.Goals as goal

-- ---- what is passed behind each part

past_sources : (c : In_ok-check_parts) → IsPassed (job_of c.args.shape.now) c.args.last c.args.cursor.now.rest.now from_counts c.check_parts.new.cursor.rest.now
past_sources c = record { is = at_sources (job_of c.args.shape.now) c.args.last c.args.cursor.now.rest.now (Ok c.check_parts.new.cursor.rest.now) c.tasks.ensures c.in_ok-check_parts.ensures }

past_counts : (c : In_ok-check_parts-2) → IsPassed (job_of c.args.shape.now) c.args.last c.args.cursor.now.rest.now from_tables c.check_parts-2.new.cursor.rest.now
past_counts c = record { is = at_counts (Ok c.check_parts-2.new.cursor.rest.now) (past_sources (goal.at.In_ok-check_parts-2 c).In_ok-check_parts) c.sending_tasks.ensures c.in_ok-check_parts-2.ensures }

-- there is a table for each task behind the last edge
many_tables : (c : After-tasks-2) → c.tasks-2.result ≡ tasks (job_of c.args.shape.now) (suc (last_edge (job_of c.args.shape.now)))
many_tables c =
    let behind : c.last_edge.result + 1 ≡ suc (last_edge (job_of c.args.shape.now)) = omega (arith, c.last_edge.ensures) in
    c.tasks-2.ensures ∙ ap (tasks (job_of c.args.shape.now)) behind

past_tables : (c : In_ok-check_parts-3) → IsPassed (job_of c.args.shape.now) c.args.last c.args.cursor.now.rest.now from_takes c.check_parts-3.new.cursor.rest.now
past_tables c =
    let at = goal.at.In_ok-check_parts-3 c in
    record { is = at_tables (Ok c.check_parts-3.new.cursor.rest.now) (past_counts at.In_ok-check_parts-2) (many_tables at.After-tasks-2) c.in_ok-check_parts-3.ensures }

past_takes : (c : In_ok-check_takes) → IsPassed (job_of c.args.shape.now) c.args.last c.args.cursor.now.rest.now from_saved c.check_takes.new.cursor.rest.now
past_takes c = record { is = at_takes (Ok c.check_takes.new.cursor.rest.now) (past_tables (goal.at.In_ok-check_takes c).In_ok-check_parts-3) c.in_ok-check_takes.ensures }

past_saved : (c : In_ok-check_parts-4) → IsPassed (job_of c.args.shape.now) c.args.last c.args.cursor.now.rest.now from_end c.check_parts-4.new.cursor.rest.now
past_saved c = record { is = at_saved (Ok c.check_parts-4.new.cursor.rest.now) (past_takes (goal.at.In_ok-check_parts-4 c).In_ok-check_takes) c.channels.ensures c.in_ok-check_parts-4.ensures }

-- ---- where it answers

pub returns-in_err-check_parts-2 : goal.returns-in_err-check_parts-2
returns-in_err-check_parts-2 c =
    let p = err_from_is_err_and c.from_residual-in_err-check_parts-2.result c.from_residual-in_err-check_parts-2.ensures.1 in
    let passed = past_sources (goal.at.returns-in_err-check_parts-2 c).In_ok-check_parts in
    rw (p.1, p.2) (at_counts (Err c.in_err-check_parts-2.field-0.0.left) passed c.sending_tasks.ensures c.in_err-check_parts-2.ensures)

pub returns-in_err-check_parts-3 : goal.returns-in_err-check_parts-3
returns-in_err-check_parts-3 c =
    let p = err_from_is_err_and c.from_residual-in_err-check_parts-3.result c.from_residual-in_err-check_parts-3.ensures.1 in
    let at = goal.at.returns-in_err-check_parts-3 c in
    rw (p.1, p.2) (at_tables (Err c.in_err-check_parts-3.field-0.0.left) (past_counts at.In_ok-check_parts-2) (many_tables at.After-tasks-2) c.in_err-check_parts-3.ensures)

pub returns-in_err-check_takes : goal.returns-in_err-check_takes
returns-in_err-check_takes c =
    let p = err_from_is_err_and c.from_residual-in_err-check_takes.result c.from_residual-in_err-check_takes.ensures.1 in
    let passed = past_tables (goal.at.returns-in_err-check_takes c).In_ok-check_parts-3 in
    rw (p.1, p.2) (at_takes (Err c.in_err-check_takes.field-0.0.left) passed c.in_err-check_takes.ensures)

pub returns-in_err-check_parts-4 : goal.returns-in_err-check_parts-4
returns-in_err-check_parts-4 c =
    let p = err_from_is_err_and c.from_residual-in_err-check_parts-4.result c.from_residual-in_err-check_parts-4.ensures.1 in
    let passed = past_takes (goal.at.returns-in_err-check_parts-4 c).In_ok-check_takes in
    rw (p.1, p.2) (at_saved (Err c.in_err-check_parts-4.field-0.0.left) passed c.channels.ensures c.in_err-check_parts-4.ensures)

pub returns-in_err-mark : goal.returns-in_err-mark
returns-in_err-mark c =
    let p = err_from_is_err_and c.from_residual-in_err-mark.result c.from_residual-in_err-mark.ensures.1 in
    let passed = past_saved (goal.at.returns-in_err-mark c).In_ok-check_parts-4 in
    rw (p.1, p.2) (at_end (Err c.in_err-mark.field-0.0.left) passed c.in_err-mark.ensures)

pub returns : goal.returns
returns c =
    let passed = past_saved (goal.at.returns c).In_ok-check_parts-4 in
    subst (Passes [] c.end.result) (sym (at_end (Ok c.mark.new.self.rest.now) passed c.in_ok-mark.ensures)) c.end.ensures
