-- What a task leaves, from what its gate's passes show.
use Rattle.std.proofs.Common.{◌≡◌, ℕ, zero, suc, List, [], ◌∷◌, Option, Some, refl, sym, ap, subst}
use Rattle.turn_cell.specs.History.{entries_of}
use Rattle.flow_defs.specs.declared.cause.Cause.{Cause}
use Rattle.flow_defs.specs.declared.image.Snapshot.{Snapshot}
use Rattle.flow_defs.specs.declared.image.TakeRun.{TakeRun}
use Rattle.flow_defs.specs.declared.job.Job.{Job}
use Rattle.flow_defs.specs.Jobs.{last_edge}
use Rattle.job_start.specs.declared.start.Start.{Start}
use Rattle.outside.specs.declared.last_image.Stored.{Stored}
use Rattle.conn_parts.specs.Shares.{AreOwn, seen_at}
use Rattle.record_writer.specs.Writers.{SendPass}
use Rattle.input_channel.specs.declared.entry.ReceiveEntry.{ReceiveEntry}
use Rattle.channel_cut.specs.Cuts.{Cut, Shows}
use Rattle.channel_cut.proofs.Taking.{taken_stays}
use Rattle.gate_account.specs.Accounts.{Account, Keeps}
use Rattle.input_gate.specs.declared.lane.Lane.{Lane}
use Rattle.input_gate.specs.declared.passes.GateEnds.{GateEnds}
use Rattle.input_gate.specs.declared.passes.GatePasses.{GatePasses}
use Rattle.input_gate.specs.Channels.{cells_in, looks_in, passes_in}
use Rattle.input_gate.specs.States.{GateState, ends_of, passes_of, shows_at, shows_of}
use Rattle.input_gate.specs.Turning.{InputPass}
use Rattle.task_taking.specs.Takings.{Gave, start_of}
use Rattle.stage_task.specs.Stages.{StageAccount}
use Rattle.aggregate_task.specs.Aggregates.{AggregateAccount}
use Rattle.job_workers.specs.Tasks.{HasGatePasses, gate_in}

-- What a gate has seen of a channel is what its pass has seen.
seen_in : (lanes : List Lane) (c : ℕ) → (looks_in lanes c).0 ≡ seen_at c (passes_in lanes)
seen_in [] c = refl
seen_in (lane ∷ lanes) zero = refl
seen_in (lane ∷ lanes) (suc c) = seen_in lanes c

-- So its passes show the cuts that the gate shows.
pub shown_by : (gate : GateState) (passes : GatePasses) → passes.cells.items ≡ passes_of gate → Keeps (shows_of gate) (shows_at (gate_in (Some passes)))
shown_by gate passes same c cut shown =
    subst (λ (l : List InputPass). shows_at l c cut) (sym same) (subst (λ (history : List (ℕ × ReceiveEntry)). Shows [] (entries_of history) cut) (seen_in gate.lanes c) shown)

gave_shown : (job : Job) (e b : ℕ) (gate : Account) (shows shown : ℕ → Cut → Type 0) (groups : List (List (ℕ × List ℕ))) (rest : List (ℕ × List ℕ)) → Keeps shows shown → Gave job e b gate shows groups rest → Gave job e b gate shown groups rest
gave_shown job e b gate shows shown groups rest kept gave c inside =
    let here = gave c inside in
    (here.0, taken_stays (shows c) (shown c) (kept c) (gate.lines c) (start_of job e b c) groups rest here.0 here.1)

-- An account by what the gate shows is one by what its passes show.
pub stage_shown : (job : Job) (e b size : ℕ) (start : Start) (every : Option ℕ) (gate : Account) (shows shown : ℕ → Cut → Type 0) (own : List SendPass) (sent : List Snapshot) (history : List (ℕ × Stored)) (takes : List TakeRun) (cause : Cause) →
    Keeps shows shown → StageAccount job e b size start every gate shows own sent history takes cause → StageAccount job e b size start every gate shown own sent history takes cause
stage_shown job e b size start every gate shows shown own sent history takes cause kept was = record {
  groups = was.groups;
  rest = was.rest;
  more = was.more;
  given = gave_shown job e b gate shows shown was.groups was.rest kept was.given;
  snapshots = was.snapshots;
  takes_are = was.takes_are;
  front = was.front;
  put = was.put;
  done = was.done;
  cause_is = was.cause_is;
}

pub aggregate_shown : (job : Job) (b : ℕ) (start : Start) (every : Option ℕ) (gate : Account) (shows shown : ℕ → Cut → Type 0) (sent : List Snapshot) (history : List (ℕ × Stored)) (takes : List TakeRun) (cause : Cause) →
    Keeps shows shown → AggregateAccount job b start every gate shows sent history takes cause → AggregateAccount job b start every gate shown sent history takes cause
aggregate_shown job b start every gate shows shown sent history takes cause kept was = record {
  groups = was.groups;
  rest = was.rest;
  given = gave_shown job (last_edge job) b gate shows shown was.groups was.rest kept was.given;
  snapshots = was.snapshots;
  takes_are = was.takes_are;
  waited = was.waited;
  cause_is = was.cause_is;
}

-- The passes of a gate are those of the gate that it was.
pub gate_passes : (before gate : GateState) (passes : GatePasses) → ends_of gate ≡ ends_of before → AreOwn 0 (cells_in gate.lanes) passes.cells.items → HasGatePasses (cells_in before.lanes) (Some passes)
gate_passes before gate passes same own = record {
  passes = passes;
  are_there = refl;
  own = subst (λ cells. AreOwn 0 cells passes.cells.items) (ap (λ (ends : GateEnds). ends.cells) same) own;
}
