use Rattle.std.proofs.Common.{◌≡◌, ◌+◌, ◌<◌, ◌≤◌, not, false, length, [], ◌∷◌, drop, sym, ap, ◌∙◌, subst, rules, arith}
use Rattle.std.specs.Prelude.{count_by, MatchOption}
use mir.Val.{bool_byte}
use Rattle.circular_buffer.specs.Buffer.{Buffer}
use Rattle.input_channel.specs.declared.held.HeldBuf.{HeldBuf}
use Rattle.input_channel.specs.Inboxes.{due, is_barrier}
use Rattle.input_channel.specs.Lines.{Line, parcels, first_gap, before_last, kinds_of, one_less, merged, GivesFirst}
use Rattle.input_channel.proofs.LineLemmas.{same_line, get-cons, get-nil, none-nil, starts_merged, floats-cons, some_ahead, less_before, data_first, nothing_stands}
use Rattle.input_channel.proofs.queue.Queue.pop_data.Goals as goal

pub overflow_sub-self : goal.overflow_sub-self
overflow_sub-self c =
    let f = c.self.inside in
    let buf = c.in_ok-buf.buf in
    let rest = drop 1 f.buffers.items in
    let split : f.buffers.items ≡ buf ∷ rest = get-cons _ _ (sym c.in_ok-buf.ensures.value) in
    let count : f.floats ≡ bool_byte (not buf.exclusive) + count_by not (kinds_of rest) =
    c.self.invariant.floating ∙ ap (λ bs. count_by not (kinds_of bs)) split ∙ floats-cons buf rest in
    omega (arith, count)

pub go_ahead-requires : goal.go_ahead-requires
go_ahead-requires c =
    let f = c.self.inside in
    let some : 0 < length f.barriers.items = search rules in
    let calm : is_barrier (due (Rattle.input_channel.specs.Inboxes.waiting (merged f.polled f.barriers.items f.buffers.items))) ≡ false = ap (λ (l : Line). is_barrier (due (parcels l))) c.self.view_is ∙ c.requires in
    some_ahead f.polled f.barriers.items f.buffers.items some c.self.invariant.ahead calm

pub invariant_of-self-2 : goal.invariant_of-self-2
invariant_of-self-2 c =
    let f = c.self.inside in
    let is = c.self.invariant in
    let buf = c.in_ok-buf.buf in
    let rest = drop 1 f.buffers.items in
    let left : c.pop_front.new.self.items ≡ rest = ap (λ (b : Buffer HeldBuf). b.items) c.in_ok-buf.ensures.items in
    let room : c.pop_front.new.self.capacity ≡ f.buffers.capacity = ap (λ (b : Buffer HeldBuf). b.capacity) c.in_ok-buf.ensures.items in
    let split : f.buffers.items ≡ buf ∷ rest = get-cons _ _ (sym c.in_ok-buf.ensures.value) in
    let some : 0 < length f.barriers.items = search rules in
    let calm : is_barrier (due (Rattle.input_channel.specs.Inboxes.waiting (merged f.polled f.barriers.items f.buffers.items))) ≡ false = ap (λ (l : Line). is_barrier (due (parcels l))) c.self.view_is ∙ c.requires in
    let ahead = some_ahead f.polled f.barriers.items f.buffers.items some is.ahead calm in
    let gone = c.take_polled-left.ensures in
    let counted = gone.counted ∙ ap before_last c.go_ahead.ensures in
    let before = less_before f.barriers.items ahead in
    let count : f.floats ≡ bool_byte (not buf.exclusive) + count_by not (kinds_of rest) = is.floating ∙ ap (λ bs. count_by not (kinds_of bs)) split ∙ floats-cons buf rest in
    let shorter : length f.buffers.items ≡ length rest + 1 = ap length split ∙ (let e : length (buf ∷ rest) ≡ length rest + 1 = omega arith in e) in
    let same : length c.pop_front.new.self.items ≡ length rest = ap length left in
    let kinds : count_by not (kinds_of c.pop_front.new.self.items) ≡ count_by not (kinds_of rest) = ap (λ bs. count_by not (kinds_of bs)) left in
    record {
      counted = omega (arith, counted, before, shorter, same, is.counted);
      few_polled = gone.few_polled;
      ahead = gone.ahead;
      within = omega (arith, room, shorter, same, is.within);
      few = omega (arith, room, is.few);
      floating = omega (arith, count, kinds);
    }

pub returns : goal.returns
returns c =
    let f = c.self.inside in
    let is = c.self.invariant in
    let buf = c.in_ok-buf.buf in
    let rest = drop 1 f.buffers.items in
    let left : c.pop_front.new.self.items ≡ rest = ap (λ (b : Buffer HeldBuf). b.items) c.in_ok-buf.ensures.items in
    let room : c.pop_front.new.self.capacity ≡ f.buffers.capacity = ap (λ (b : Buffer HeldBuf). b.capacity) c.in_ok-buf.ensures.items in
    let split : f.buffers.items ≡ buf ∷ rest = get-cons _ _ (sym c.in_ok-buf.ensures.value) in
    let some : 0 < length f.barriers.items = search rules in
    let calm : is_barrier (due (Rattle.input_channel.specs.Inboxes.waiting (merged f.polled f.barriers.items f.buffers.items))) ≡ false = ap (λ (l : Line). is_barrier (due (parcels l))) c.self.view_is ∙ c.requires in
    let ahead = some_ahead f.polled f.barriers.items f.buffers.items some is.ahead calm in
    let gone = c.take_polled-left.ensures in
    let less = c.go_ahead.ensures in
    let before = less_before f.barriers.items ahead in
    let shorter : length f.buffers.items ≡ length rest + 1 = ap length split ∙ (let e : length (buf ∷ rest) ≡ length rest + 1 = omega arith in e) in
    let low = ap before_last less in
    record {
      rest = merged f.polled (one_less f.barriers.items) rest;
      first = ap (λ (l : Line). l.arrived) (sym c.self.view_is) ∙ ap (merged f.polled f.barriers.items) split ∙ data_first f.polled f.barriers.items buf rest ahead;
      arrived =
          ap (merged c.take_polled-left.result c.take_polled-left.new.barriers.items) left
          ∙ gone.line rest (omega (arith, low, before, shorter, is.counted))
          ∙ ap (λ ms. Rattle.input_channel.specs.States.from_waiting (merged f.polled ms rest)) less;
      buffers = ap (λ (l : Line). l.buffers) (sym c.self.view_is) ∙ split ∙ ap (λ bs. buf ∷ bs) (sym left);
      room = room ∙ ap (λ (l : Line). l.room) c.self.view_is;
    }

pub returns-then-is_empty : goal.returns-then-is_empty
returns-then-is_empty c =
    let f = c.self.inside in
    let buf = c.in_ok-buf.buf in
    let rest = drop 1 f.buffers.items in
    let left : c.pop_front.new.self.items ≡ rest = ap (λ (b : Buffer HeldBuf). b.items) c.in_ok-buf.ensures.items in
    let room : c.pop_front.new.self.capacity ≡ f.buffers.capacity = ap (λ (b : Buffer HeldBuf). b.capacity) c.in_ok-buf.ensures.items in
    let split : f.buffers.items ≡ buf ∷ rest = get-cons _ _ (sym c.in_ok-buf.ensures.value) in
    let none : f.barriers.items ≡ [] = search (rules, none-nil) in
    let ahead : 0 < f.polled → 0 < first_gap [] = subst (λ ms. 0 < f.polled → 0 < first_gap ms) none c.self.invariant.ahead in
    record {
      rest = merged f.polled [] rest;
      first = ap (λ (l : Line). l.arrived) (sym c.self.view_is) ∙ ap (merged f.polled f.barriers.items) split ∙ ap (λ ms. merged f.polled ms (buf ∷ rest)) none;
      arrived = ap (merged f.polled f.barriers.items) left ∙ ap (λ ms. merged f.polled ms rest) none ∙ sym (starts_merged f.polled [] rest ahead (omega arith));
      buffers = ap (λ (l : Line). l.buffers) (sym c.self.view_is) ∙ split ∙ ap (λ bs. buf ∷ bs) (sym left);
      room = room ∙ ap (λ (l : Line). l.room) c.self.view_is;
    }

pub returns-in_err-buf : goal.returns-in_err-buf
returns-in_err-buf c =
    let f = c.self.inside in
    let empty : f.buffers.items ≡ [] = get-nil _ (sym c.in_err-buf.ensures.value) in
    let left : c.pop_front.new.self.items ≡ f.buffers.items = ap (λ (b : Buffer HeldBuf). b.items) c.in_err-buf.ensures.items ∙ ap (drop 1) empty ∙ sym empty in
    let room : c.pop_front.new.self.capacity ≡ f.buffers.capacity = ap (λ (b : Buffer HeldBuf). b.capacity) c.in_err-buf.ensures.items in
    let low : before_last f.barriers.items ≤ length f.buffers.items = omega (arith, c.self.invariant.counted) in
    let calm = ap (λ (l : Line). is_barrier (due (parcels l))) c.self.view_is ∙ c.requires in
    let after : Line = record { arrived = merged f.polled f.barriers.items c.pop_front.new.self.items; buffers = c.pop_front.new.self.items; room = c.pop_front.new.self.capacity } in
    subst (λ r. MatchOption r ((c.args.self.now.arrived ≡ []) × (after ≡ c.args.self.now)) (λ buf. GivesFirst c.args.self.now buf after)) (sym c.from_residual.ensures) (
      ap (λ (l : Line). l.arrived) (sym c.self.view_is) ∙ nothing_stands f.polled f.barriers.items f.buffers.items empty c.self.invariant.ahead low calm,
      same_line _ _ _ _ _ _ (ap (merged f.polled f.barriers.items) left ∙ ap (λ (l : Line). l.arrived) c.self.view_is) (left ∙ ap (λ (l : Line). l.buffers) c.self.view_is) (room ∙ ap (λ (l : Line). l.room) c.self.view_is),
    )
