-- A channel stands at one place of its edge, which its sending task and its gate count each from their own end. This is this project's
-- own choice.
use Rattle.std.specs.Prelude.{◌≡◌, ℕ, suc, ◌<◌, ◌≤◌, true, slice_get, Some}
use Rattle.flow_defs.specs.declared.job.Job.{Job}
use Rattle.flow_defs.specs.Jobs.{IsJob, last_edge, tasks, exchange, is_channel}
use Rattle.record_writer.specs.Writers.{ways_on, receiver_at, place_of, sender_at, ways_into}
use Rattle.job_cells.specs.Edges.{channels_on, place_into}

-- The channel from task a to task b: it is channel c of the one and channel i of the gate of the other, both name one place, and there it
-- stands.
pub record PlaceOf (job : Job) (e a b : ℕ) : Type 0 where
  pub c : ℕ
  pub i : ℕ
  pub way_out : c < ways_on job e
  pub way_in : i < ways_into job e
  pub receiver : receiver_at (exchange job e) a c ≡ b
  pub sender : sender_at (exchange job e) b i ≡ a
  pub one : place_of a (tasks job e) c ≡ place_into job e b i
  pub stands : slice_get (channels_on job e) (place_into job e b i) ≡ Some (record { edge = e; «from» = a; to = b })

-- Each channel of a job has a place.
abbrev pub ChannelsHavePlaces : Type 0
ChannelsHavePlaces = (job : Job) (e a b : ℕ) → IsJob job → is_channel job e a b ≡ true → PlaceOf job e a b

-- Channel i of a gate is a channel of the job, and has its place as channel i.
abbrev pub GatesHaveChannels : Type 0
GatesHaveChannels = (job : Job) (e b i : ℕ) → IsJob job → e ≤ last_edge job → b < tasks job (suc e) → i < ways_into job e →
    (is_channel job e (sender_at (exchange job e) b i) b ≡ true) × ((place : PlaceOf job e (sender_at (exchange job e) b i) b) × (place.i ≡ i))
