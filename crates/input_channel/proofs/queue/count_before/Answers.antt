use Rattle.std.proofs.Common.{◌≡◌, ◌+◌, ◌<◌, List, [], length, drop, sym, ap, subst, arith, rules, eq-eqb, ne_eqb}
use Rattle.input_channel.specs.declared.queue.Mark.{Mark}
use Rattle.input_channel.specs.Lines.{before_last}
use Rattle.input_channel.proofs.LineLemmas.{place-cons, place-nil, IsLooked, looks_at_first, looks_on, looks_here, looks_at_all}
use Rattle.input_channel.proofs.queue.count_before.Goals as goal

pub marks-init : goal.marks-init
marks-init c = λ buffers. looks_at_first c.args.k c.args.barriers.now.items buffers

pub overflow_add-count : goal.overflow_add-count
overflow_add-count c =
    let marks = c.args.barriers.now.items in
    let some : c.marks.i < length marks = search rules in
    let split = place-cons c.marks.i marks c.in-Some.mark.now some c.in-Some.ensures.lookup in
    let counted = (c.marks.invariant []).counted in
    let here = ap before_last split in
    omega (arith, counted, here, c.requires.0, c.requires.1)

pub marks-preserved : goal.marks-preserved
marks-preserved c = λ buffers.
    let marks = c.args.barriers.now.items in
    let m = c.in-Some.mark.now in
    let some : c.marks.i < length marks = search rules in
    let split = place-cons c.marks.i marks m some c.in-Some.ensures.lookup in
    looks_on c.args.k c.marks.count m (drop (c.marks.i + 1) marks) marks buffers
    (subst (λ (ms : List Mark). IsLooked c.args.k c.marks.count ms marks buffers) split (c.marks.invariant buffers)) (ne_eqb m.k c.args.k (search rules))

pub returns-then-mark-k : goal.returns-then-mark-k
returns-then-mark-k c = λ buffers long.
    let marks = c.args.barriers.now.items in
    let m = c.in-Some.mark.now in
    let some : c.marks.i < length marks = search rules in
    let split = place-cons c.marks.i marks m some c.in-Some.ensures.lookup in
    looks_here c.args.k c.marks.count m (drop (c.marks.i + 1) marks) marks buffers
    (subst (λ (ms : List Mark). IsLooked c.args.k c.marks.count ms marks buffers) split (c.marks.invariant buffers)) (eq-eqb m.k c.args.k (search rules))

pub returns : goal.returns
returns c = λ buffers long.
    let marks = c.args.barriers.now.items in
    let none : drop c.marks.i marks ≡ [] = search (rules, place-nil) in
    looks_at_all c.args.k c.marks.count c.args.buffers marks buffers (subst (λ (ms : List Mark). IsLooked c.args.k c.marks.count ms marks buffers) none (c.marks.invariant buffers)) (sym long)
