use Rattle.std.proofs.Common.{◌≡◌, ◌-◌, ◌<◌, List, refl, sym, subst, arith}
use Rattle.input_channel.specs.declared.queue.Mark.{Mark}
use Rattle.input_channel.specs.Lines.{first_gap, HaveGone}
use Rattle.input_channel.proofs.LineLemmas.{AreGoing, going_on, going_ends}
use Rattle.input_channel.proofs.queue.take_polled.Goals as goal

pub marks-init : goal.marks-init
marks-init c = record { counted = refl; few = c.requires; line = λ buffers low. refl }

pub marks-preserved : goal.marks-preserved
marks-preserved c =
    let now = c.marks.barriers.items in
    let none : first_gap now ≡ 0 = omega arith in
    subst (λ (ms : List Mark). AreGoing c.args.barriers.now.items c.args.polled ms (c.marks.left - 1)) (sym c.pop_front.ensures.rest)
    (going_on c.args.barriers.now.items c.args.polled now c.marks.left c.marks.invariant c.marks-test.true none)

pub returns-then-ahead-gt0 : goal.returns-then-ahead-gt0
returns-then-ahead-gt0 c =
    let now = c.marks.barriers.items in
    let some : 0 < first_gap now = omega arith in
    going_ends c.args.barriers.now.items c.args.polled now c.marks.left c.marks.invariant (λ any. some)

pub returns : goal.returns
returns c =
    let now = c.marks.barriers.items in
    let none : c.marks.left ≡ 0 = omega arith in
    subst (λ n. HaveGone c.args.barriers.now.items c.args.polled now n) none
    (going_ends c.args.barriers.now.items c.args.polled now c.marks.left c.marks.invariant (λ some. absurd (omega (arith, some, none))))
