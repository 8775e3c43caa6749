use Rattle.std.proofs.Common.{◌∙◌}
use Rattle.conn_parts.proofs.Telling.{on_err}
use Rattle.conn_parts.proofs.Windows.{is_left, left_is_kept, left_came_on}
use Rattle.conn_parts.proofs.incoming.Incoming.read_from.Goals as goal

pub returns-in_err-count-clause-kept : goal.returns-in_err-count-clause-kept
returns-in_err-count-clause-kept g c =
    let moved = c.make_room-from in
    let read = c.read_behind in
    let left = is_left c.self.inside.bytes c.args.self.now c.deref_mut.result.now moved.new.bytes c.deref_mut-2.result.now read.new.bytes
    c.self.inside.from c.self.inside.to moved.result.0 moved.result.1 c.deref_mut.ensures.value c.self.view_is moved.ensures.filled
    (moved.ensures.same_len ∙ c.deref_mut.ensures.len) c.deref_mut-2.ensures.value read.ensures.same_len read.ensures.stay in
    on_err c.from_residual.result (left_is_kept _ _ _ _ _ _ moved.ensures.within.0 left, c.in_err-count.ensures.kept)

pub returns-clause-came : goal.returns-clause-came
returns-clause-came g c =
    let moved = c.make_room-from in
    let read = c.read_behind in
    let left = is_left c.self.inside.bytes c.args.self.now c.deref_mut.result.now moved.new.bytes c.deref_mut-2.result.now read.new.bytes
    c.self.inside.from c.self.inside.to moved.result.0 moved.result.1 c.deref_mut.ensures.value c.self.view_is moved.ensures.filled
    (moved.ensures.same_len ∙ c.deref_mut.ensures.len) c.deref_mut-2.ensures.value read.ensures.same_len read.ensures.stay in
    left_came_on _ _ _ _ _ _ _ _ c.in_ok-count.count moved.ensures.within.0 c.in_ok-count.ensures.count left c.in_ok-count.ensures.told
