use Rattle.std.proofs.Common.{◌≡◌, ◌≢◌, ◌++◌, [], ◌∷◌, ◌+◌, List, length, IsTrue, refl, sym, ap, subst, ◌∙◌, arith}
use Rattle.flow_defs.specs.declared.cause.Cause.{Cause}
use Rattle.flow_defs.specs.declared.cause.Cause.TheVariants as causes
use Rattle.flow_defs.specs.declared.image.TakeRun.{TakeRun}
use Rattle.flow_defs.specs.declared.task.BarrierKind.TheVariants.{Inline}
use Rattle.flow_defs.specs.Jobs.{exchange, is_channel}
use Rattle.plain_machine.specs.Histories.{run_senders}
use Rattle.plain_machine.specs.Images.{AreRuns}
use Rattle.barriers.specs.Alignments.{Alignment, Answers, barrier}
use Rattle.record_writer.specs.Writers.{sender_at}
use Rattle.gate_account.specs.Accounts.{GaveBarrier}
use Rattle.gate_account.proofs.Takings.{blocks_others, snapshots_at_last}
use Rattle.input_gate.specs.Gates.{GaveItem}
use Rattle.task_taking.specs.Takings.{Taking, IsInStep, HasTaken, start_of}
use Rattle.task_taking.specs.Steps.{GoesOnFrom, TookItem, IsTakerCause}
use Rattle.task_taking.proofs.InStep.{may_give, step_line, step_block, all_blocked}
use Rattle.task_taking.proofs.Groups.{had_taken, taken_same, taken_line, taken_block, at_barrier, end_cause}
use Rattle.task_taking.proofs.taking.TaskTaking.take_item.Goals as goal
use Rattle.task_taking.proofs.taking.TaskTaking.take_item.Goals.{in-Block, in-SnapshotInline}

pub returns-in-Ok-Line-clause-goes_on : goal.returns-in-Ok-Line-clause-goes_on
returns-in-Ok-Line-clause-goes_on g c =
    let before = g.G.Gate.account c.args.gate.now in
    let after = g.G.Gate.account c.next.new.self in
    let s = c.self.inside in
    let t : Taking = record { exchange = s.exchange; index = s.index; channels = s.channels; runs = s.runs.items; alignment = s.aligner } in
    let t' : Taking = record { exchange = s.exchange; index = s.index; channels = s.channels; runs = c.note_take.new.runs.items; alignment = s.aligner } in
    let gave = subst (GaveItem before after (g.G.Gate.shows c.next.new.self) c.is_open-hold.result) c.in-Ok-Line.field-0-is c.in-Ok-Line.ensures.gave in (
      step_line before after t t' c.next.ensures.same.1 (record { exchange = refl; index = refl; channels = refl }) c.in-Ok-Line.channel c.in-Ok-Line.line.items gave.1 refl (subst (IsInStep before) (sym c.self.view_is) c.requires),
      ap (λ (x : Taking). x.alignment.closed) c.self.view_is,
    )

pub returns-in-Ok-Line-clause-took : goal.returns-in-Ok-Line-clause-took
returns-in-Ok-Line-clause-took g c = λ job e b groups took has.
    let before = g.G.Gate.account c.args.gate.now in
    let after = g.G.Gate.account c.next.new.self in
    let shows = g.G.Gate.shows c.args.gate.now in
    let shown = g.G.Gate.shows c.next.new.self in
    let s = c.self.inside in
    let t : Taking = record { exchange = s.exchange; index = s.index; channels = s.channels; runs = s.runs.items; alignment = s.aligner } in
    let t' : Taking = record { exchange = s.exchange; index = s.index; channels = s.channels; runs = c.note_take.new.runs.items; alignment = s.aligner } in
    let was = subst (λ (x : Taking). HasTaken job e b before shows x groups took) (sym c.self.view_is) has in
    let gave = subst (GaveItem before after shown c.is_open-hold.result) c.in-Ok-Line.field-0-is c.in-Ok-Line.ensures.gave in
    let i = c.in-Ok-Line.channel in
    let from_is : c.sender_of.result ≡ start_of job e b i = c.sender_of.ensures ∙ ap (λ x. sender_at x s.index i) was.takes_for.exchange_is ∙ ap (λ n. sender_at (exchange job e) n i) was.takes_for.index_is in
    let roomy : c.make_room.new.runs.items ≡ s.runs.items = c.make_room.ensures.same in
    let noted : run_senders c.note_take.new.runs.items ≡ run_senders s.runs.items ++ start_of job e b i ∷ [] =
    c.note_take.ensures.senders ∙ ap (λ (runs : List TakeRun). run_senders runs ++ c.sender_of.result ∷ []) roomy ∙ ap (λ a. run_senders s.runs.items ++ a ∷ []) from_is in (
      gave.0,
      (
        start_of job e b i,
        taken_line job e b before after shows shown c.next.ensures.kept t t' groups took c.next.ensures.same.1 (record { exchange = refl; index = refl; channels = refl }) was i c.in-Ok-Line.line.items gave.1 refl
            c.chapters_grow.ensures.taken gave.0 noted
            (λ joined are. c.note_take.ensures.are_runs job e b (subst (λ a. IsTrue (is_channel job e a b)) (sym from_is) joined) (subst (AreRuns job e b) (sym roomy) are)),
      ),
    )

pub on_barrier-requires : goal.on_barrier-requires
on_barrier-requires g c =
    let before = g.G.Gate.account c.args.gate.now in
    let after = g.G.Gate.account c.next.new.self in
    let shown = g.G.Gate.shows c.next.new.self in
    let s = c.self.inside in
    let t : Taking = record { exchange = s.exchange; index = s.index; channels = s.channels; runs = s.runs.items; alignment = s.aligner } in
    let i = c.in-Ok-Barrier.channel in
    let k = c.in-Ok-Barrier.k in
    let gave = subst (λ hold. GaveBarrier before after shown hold i k Inline) c.is_open-hold.ensures (subst (GaveBarrier before after shown c.is_open-hold.result i k) c.in-Inline.is (subst (GaveItem before after shown c.is_open-hold.result) c.in-Ok-Barrier.field-0-is c.in-Ok-Barrier.ensures.gave)) in
    may_give before after t (subst (IsInStep before) (sym c.self.view_is) c.requires) i k gave.1.within gave.0

pub returns-after-on_barrier-clause-goes_on : goal.returns-after-on_barrier-clause-goes_on
returns-after-on_barrier-clause-goes_on g c =
    let before = g.G.Gate.account c.args.gate.now in
    let after = g.G.Gate.account c.next.new.self in
    let shown = g.G.Gate.shows c.next.new.self in
    let s = c.self.inside in
    let t : Taking = record { exchange = s.exchange; index = s.index; channels = s.channels; runs = s.runs.items; alignment = s.aligner } in
    let t' : Taking = record { exchange = s.exchange; index = s.index; channels = s.channels; runs = c.make_room.new.runs.items; alignment = c.on_barrier.new.self } in
    let i = c.in-Ok-Barrier.channel in
    let k = c.in-Ok-Barrier.k in
    let in_step = subst (IsInStep before) (sym c.self.view_is) c.requires in
    let gave = subst (λ hold. GaveBarrier before after shown hold i k Inline) c.is_open-hold.ensures (subst (GaveBarrier before after shown c.is_open-hold.result i k) c.in-Inline.is (subst (GaveItem before after shown c.is_open-hold.result) c.in-Ok-Barrier.field-0-is c.in-Ok-Barrier.ensures.gave)) in
    let may = may_give before after t in_step i k gave.1.within gave.0 in
    let closed_is : s.aligner.closed ≡ c.args.self.now.alignment.closed = ap (λ (x : Taking). x.alignment.closed) c.self.view_is in
    elim c.match-on_barrier.branch [
      | in-Block w ↦
          let answers = subst (λ action. Answers (barrier i k Inline) s.aligner action c.on_barrier.new.self) w.in-Block.is c.on_barrier.ensures.answers in
          subst (GoesOnFrom after c.args.self.now t') (sym w.result-is)
          (step_block before after t t' c.next.ensures.same.1 (record { exchange = refl; index = refl; channels = refl }) in_step i k gave.0 gave.1 c.on_barrier.ensures.after (blocks_others s.aligner i k (sym c.on_barrier.ensures.action ∙ w.in-Block.is)), ap (λ (a : Alignment). a.closed) answers.1 ∙ closed_is)
      | in-SnapshotInline w ↦
          let answers = subst (λ action. Answers (barrier i k Inline) s.aligner action c.on_barrier.new.self) w.in-SnapshotInline.is c.on_barrier.ensures.answers in
          let n = w.in-SnapshotInline.k in
          let told : n ≡ k = answers.1 in
          let number : k ≡ s.aligner.closed + 1 = may.number in
          subst (GoesOnFrom after c.args.self.now t') (sym w.result-is)
          (all_blocked before after t t' c.next.ensures.same.1 (record { exchange = refl; index = refl; channels = refl }) in_step i k gave.0 gave.1 c.on_barrier.ensures.after (snapshots_at_last s.aligner i k n (sym c.on_barrier.ensures.action ∙ w.in-SnapshotInline.is)) answers.3, ap (λ (a : Alignment). a.closed) answers.2, omega (arith, told, number, closed_is))
    ]

pub returns-after-on_barrier-clause-took : goal.returns-after-on_barrier-clause-took
returns-after-on_barrier-clause-took g c = λ job e b groups took has.
    let before = g.G.Gate.account c.args.gate.now in
    let after = g.G.Gate.account c.next.new.self in
    let shows = g.G.Gate.shows c.args.gate.now in
    let shown = g.G.Gate.shows c.next.new.self in
    let s = c.self.inside in
    let t : Taking = record { exchange = s.exchange; index = s.index; channels = s.channels; runs = s.runs.items; alignment = s.aligner } in
    let t' : Taking = record { exchange = s.exchange; index = s.index; channels = s.channels; runs = c.make_room.new.runs.items; alignment = c.on_barrier.new.self } in
    let i = c.in-Ok-Barrier.channel in
    let k = c.in-Ok-Barrier.k in
    let was = subst (λ (x : Taking). HasTaken job e b before shows x groups took) (sym c.self.view_is) has in
    let gave = subst (λ hold. GaveBarrier before after shown hold i k Inline) c.is_open-hold.ensures (subst (GaveBarrier before after shown c.is_open-hold.result i k) c.in-Inline.is (subst (GaveItem before after shown c.is_open-hold.result) c.in-Ok-Barrier.field-0-is c.in-Ok-Barrier.ensures.gave)) in
    let may = may_give before after t (subst (IsInStep before) (sym c.self.view_is) c.requires) i k gave.1.within gave.0 in
    elim c.match-on_barrier.branch [
      | in-Block w ↦
          subst (TookItem job e b after shown t' groups took) (sym w.result-is)
          (taken_block job e b before after shows shown c.next.ensures.kept t t' groups took c.next.ensures.same.1 (record { exchange = refl; index = refl; channels = refl }) was i k gave c.on_barrier.ensures.after c.make_room.ensures.same
          (blocks_others s.aligner i k (sym c.on_barrier.ensures.action ∙ w.in-Block.is)))
      | in-SnapshotInline w ↦
          let answers = subst (λ action. Answers (barrier i k Inline) s.aligner action c.on_barrier.new.self) w.in-SnapshotInline.is c.on_barrier.ensures.answers in
          let n = w.in-SnapshotInline.k in
          let told : n ≡ k = answers.1 in
          let number : k ≡ s.aligner.closed + 1 = may.number in
          let closed : length groups ≡ s.aligner.closed = was.taking.counted in
          subst (TookItem job e b after shown t' groups took) (sym w.result-is) (
            at_barrier job e b before after shows shown c.next.ensures.kept t t' groups took c.next.ensures.same.1 (record { exchange = refl; index = refl; channels = refl }) was i k gave c.on_barrier.ensures.after c.make_room.ensures.same
                (snapshots_at_last s.aligner i k n (sym c.on_barrier.ensures.action ∙ w.in-SnapshotInline.is)),
            omega (arith, told, number, closed),
          )
    ]

pub returns-in-Ok-AllEnded-clause-took : goal.returns-in-Ok-AllEnded-clause-took
returns-in-Ok-AllEnded-clause-took g c = λ job e b groups took has.
    let before = g.G.Gate.account c.args.gate.now in
    let after = g.G.Gate.account c.next.new.self in
    let shows = g.G.Gate.shows c.args.gate.now in
    let shown = g.G.Gate.shows c.next.new.self in
    let s = c.self.inside in
    let t : Taking = record { exchange = s.exchange; index = s.index; channels = s.channels; runs = s.runs.items; alignment = s.aligner } in
    let t' : Taking = record { exchange = s.exchange; index = s.index; channels = s.channels; runs = c.make_room.new.runs.items; alignment = s.aligner } in
    let was = subst (λ (x : Taking). HasTaken job e b before shows x groups took) (sym c.self.view_is) has in
    let gave = subst (GaveItem before after shown c.is_open-hold.result) c.in-Ok-AllEnded.field-0-is c.in-Ok-AllEnded.ensures.gave in (
      taken_same job e b before after shows shown c.next.ensures.kept t t' groups took c.next.ensures.same.1 (record { exchange = refl; index = refl; channels = refl }) was gave.0 refl c.make_room.ensures.same,
      gave.1,
    )

pub returns-in-Err-clause-took : goal.returns-in-Err-clause-took
returns-in-Err-clause-took g c = λ job e b groups took has.
    let before = g.G.Gate.account c.args.gate.now in
    let after = g.G.Gate.account c.next.new.self in
    let shows = g.G.Gate.shows c.args.gate.now in
    let shown = g.G.Gate.shows c.next.new.self in
    let s = c.self.inside in
    let t : Taking = record { exchange = s.exchange; index = s.index; channels = s.channels; runs = s.runs.items; alignment = s.aligner } in
    let t' : Taking = record { exchange = s.exchange; index = s.index; channels = s.channels; runs = c.make_room.new.runs.items; alignment = s.aligner } in
    let was = subst (λ (x : Taking). HasTaken job e b before shows x groups took) (sym c.self.view_is) has in
    let gave = c.in-Err.ensures.gave in
    let cause = subst (λ (cause : Cause). IsTakerCause after cause × (cause ≢ causes.Done)) (sym c.cause_of_end.ensures) (end_cause before after c.in-Err.end c.next.ensures.same.1 gave.1) in (
      had_taken job e b after shown t' groups took (taken_same job e b before after shows shown c.next.ensures.kept t t' groups took c.next.ensures.same.1 (record { exchange = refl; index = refl; channels = refl }) was gave.0 refl c.make_room.ensures.same),
      cause.0,
      cause.1,
    )
