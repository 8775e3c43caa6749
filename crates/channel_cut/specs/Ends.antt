-- The two ends of a channel once its cells were closed. This is this project's own choice.
use Rattle.std.specs.Prelude.{◌≡◌, ℕ, suc, List, ◌++◌}
use Rattle.turn_cell.specs.History.{by, entries_of, IsHistory, StartsWith}
use Rattle.flow_defs.specs.Records.{all_encoded}
use Rattle.plain_machine.specs.Images.{AreSpans}
use Rattle.checkpoint_laws.specs.Puts as puts
use Rattle.subpartition.specs.declared.entry.SendEntry.{SendEntry}
use Rattle.subpartition.specs.Sending.{MaySendAs, parcels_put, taken}
use Rattle.input_channel.specs.declared.entry.ReceiveEntry.{ReceiveEntry}
use Rattle.input_channel.specs.Inboxes.{pushed}
use Rattle.input_channel.specs.Legal.{ReceivedByPasses}
use Rattle.channel_cut.specs.Cuts.{InLine, Shows}

-- A cell after the joins: a history for which a state stood begins with what the pass of the task and that of the loop had seen, and has
-- their entries and no others of theirs.
pub record HaveSettled {E : Type 0} (legal : List (ℕ × E) → Type 0) (task loop : List (ℕ × E)) : Type 0 where
  pub history : List (ℕ × E)
  pub is_legal : legal history
  pub later_task : StartsWith history task
  pub of_task : by 0 history ≡ by 0 task
  pub later_loop : StartsWith history loop
  pub of_loop : by 1 history ≡ by 1 loop

-- The two cells of a channel with data of so many bytes at most were closed, and these are their histories. They begin with what the passes of its two tasks had seen, and
-- nothing more was put. What came begins what was taken.
pub record AreEnds (sends : List (ℕ × SendEntry)) (takes : List (ℕ × ReceiveEntry)) (sent : List (ℕ × SendEntry)) (received : List (ℕ × ReceiveEntry)) : Type 0 where
  pub size : ℕ
  pub legal : IsHistory (MaySendAs size) sent
  pub sender : StartsWith sent sends
  pub all_put : by 0 sent ≡ by 0 sends
  pub receiver : StartsWith received takes
  pub begins : StartsWith (taken (entries_of sent)) (pushed (entries_of received))

-- So it is where both cells have settled, and what the loop pushed begins what the other loop took.
abbrev pub SettledAreEnds : Type 0
SettledAreEnds =
    (size : ℕ) (sends takers : List (ℕ × SendEntry)) (takes pushers : List (ℕ × ReceiveEntry)) →
    HaveSettled (IsHistory (MaySendAs size)) sends takers → HaveSettled ReceivedByPasses takes pushers →
    StartsWith (taken (entries_of takers)) (pushed (by 1 pushers)) →
    (sent : List (ℕ × SendEntry)) × (received : List (ℕ × ReceiveEntry)) × AreEnds sends takes sent received

-- At the k-th barrier that a task put, the channel is cut by what its own pass had put and the pass of the gate had seen.
abbrev pub EndsAreCut : Type 0
EndsAreCut =
    (sends : List (ℕ × SendEntry)) (takes : List (ℕ × ReceiveEntry)) (sent : List (ℕ × SendEntry)) (received : List (ℕ × ReceiveEntry))
    (flight : List ℕ) (k : ℕ) (lines : List (List ℕ)) →
    AreEnds sends takes sent received → AreSpans flight → AreSpans (puts.put_before (suc k) (parcels_put (by 0 sends))) →
    Shows flight (entries_of takes) (InLine (suc k) lines) →
    flight ++ puts.put_before (suc k) (parcels_put (by 0 sends)) ≡ all_encoded lines
