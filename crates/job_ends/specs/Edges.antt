-- An edge whose channels were settled at both ends. This is this project's own choice.
use Rattle.std.specs.Prelude.{◌≡◌, ℕ, suc, ◌*◌, ◌<◌, true, List, length, slice_get, Some}
use Rattle.turn_cell.specs.History.{StartsWith, entries_of}
use Rattle.flow_defs.specs.declared.job.Job.{Job}
use Rattle.flow_defs.specs.declared.task.ChannelId.{ChannelId}
use Rattle.flow_defs.specs.Jobs.{tasks, is_channel, IsJob}
use Rattle.subpartition.specs.Sending.{taken}
use Rattle.subpartition.specs.Standing as sending
use Rattle.input_channel.specs.States as receiving
use Rattle.input_channel.specs.Inboxes.{pushed}
use Rattle.conn_parts.specs.Shares.{AreOwn, mine_at, seen_at}
use Rattle.record_writer.specs.Writers.{SendCell, SendPass, ways_on, ways_into}
use Rattle.job_cells.specs.Edges.{channels_on}
use Rattle.input_gate.specs.Turning.{InputCell, InputPass}
use Rattle.job_chain.specs.Ran.{EndsAt}
use Rattle.job_ends.specs.Settling.{AreTaskAt, AllSettled}

-- The channels of each sending task are settled with the loop that takes from all, those of each gate with the loop that pushes to all, and
-- on each channel what arrived begins what was taken.
pub record IsSettled (job : Job) (e : ℕ) (senders : List SendCell) (inputs : List InputCell) (own : ℕ → List SendPass) (gate : ℕ → List InputPass) (takers : List SendPass) (pushers : List InputPass) : Type 0 where
  pub cells : length senders ≡ length (channels_on job e)
  pub inputs_many : length inputs ≡ length (channels_on job e)
  pub takers_are : AreOwn 1 senders takers
  pub pushers_are : AreOwn 1 inputs pushers
  pub own_many : (a : ℕ) → a < tasks job e → length (own a) ≡ ways_on job e
  pub own_are : (a : ℕ) → a < tasks job e → AreTaskAt senders a (tasks job e) (own a)
  pub sent : (a : ℕ) → a < tasks job e → AllSettled sending.QueueStandsFor a (tasks job e) (own a) takers
  pub gate_many : (b : ℕ) → b < tasks job (suc e) → length (gate b) ≡ ways_into job e
  pub gate_are : (b : ℕ) → b < tasks job (suc e) → AreTaskAt inputs (b * ways_into job e) 1 (gate b)
  pub came : (b : ℕ) → b < tasks job (suc e) → AllSettled receiving.ChannelStandsFor (b * ways_into job e) 1 (gate b) pushers
  pub arrived : (k : ℕ) (c : ChannelId) → slice_get (channels_on job e) k ≡ Some c → StartsWith (taken (entries_of (seen_at k takers))) (pushed (mine_at k pushers))

-- The two cells of each channel of the edge were closed, which is told by the passes of the task that sends and of the gate.
abbrev pub EdgeCarries : Job → ℕ → (ℕ → List SendPass) → (ℕ → List InputPass) → Type 0
EdgeCarries job e own gate = (a b : ℕ) → is_channel job e a b ≡ true → EndsAt job e a b (own a) (gate b)

-- An edge that is settled carries.
abbrev pub EdgesCarry : Type 0
EdgesCarry =
    (job : Job) (e : ℕ) (senders : List SendCell) (inputs : List InputCell) (own : ℕ → List SendPass) (gate : ℕ → List InputPass) (takers : List SendPass) (pushers : List InputPass) →
    IsJob job → IsSettled job e senders inputs own gate takers pushers → EdgeCarries job e own gate
