-- What stands behind the text of a job, part by part.
use Rattle.std.proofs.Common.{◌≡◌, ℕ, suc, Bool, List, length, Result, Ok, Err, refl, sym, ap, ◌∙◌}
use Rattle.std.specs.Prelude.{codes}
use Rattle.flow_defs.specs.declared.job.Job.{Job}
use Rattle.flow_defs.specs.Jobs.{last_edge, tasks}
use Rattle.plain_machine.specs.Places.{sending_tasks, channels}
use Rattle.channel_state.specs.Reading.{Passing, ◌>>=◌, mark, parts, nothing}
use Rattle.channel_state.specs.ImageFaults.{source, emitted, table, takes, channel, body}

-- ---- what is left behind each part

module _ (job : Job) (last : Bool) where
  abbrev pub from_end : List ℕ → Passing
  from_end bytes = mark (codes "IWLF") bytes >>= nothing

  abbrev pub from_saved : List ℕ → Passing
  from_saved bytes = parts (length (channels job)) (λ i. channel last) bytes >>= from_end

  abbrev pub from_takes : List ℕ → Passing
  from_takes bytes = parts (suc (last_edge job)) (λ e. parts (tasks job (suc e)) (takes job e)) bytes >>= from_saved

  abbrev pub from_tables : List ℕ → Passing
  from_tables bytes = parts (tasks job (suc (last_edge job))) (λ i. table) bytes >>= from_takes

  abbrev pub from_counts : List ℕ → Passing
  from_counts bytes = parts (length (sending_tasks job)) (λ i. emitted) bytes >>= from_tables

-- Some parts of a body are passed: these bytes are behind them, and are passed so.
pub record IsPassed (job : Job) (last : Bool) (bytes : List ℕ) (left : Job → Bool → List ℕ → Passing) (rest : List ℕ) : Type 0 where
  pub is : body job last bytes ≡ left job last rest

-- ---- one part more

pub at_sources : (job : Job) (last : Bool) (bytes : List ℕ) {n : ℕ} (s : Passing) → n ≡ tasks job 0 → parts n (λ i. source last) bytes ≡ s → body job last bytes ≡ (s >>= from_counts job last)
unfolding body
at_sources job last bytes s many is = ap (λ (k : ℕ). parts k (λ i. source last) bytes >>= from_counts job last) (sym many) ∙ ap (λ (r : Passing). r >>= from_counts job last) is

module _ {job : Job} {last : Bool} {bytes rest : List ℕ} where
  pub at_counts : {n : ℕ} (s : Passing) → IsPassed job last bytes from_counts rest → n ≡ length (sending_tasks job) → parts n (λ i. emitted) rest ≡ s → body job last bytes ≡ (s >>= from_tables job last)
  at_counts s passed many is = passed.is ∙ ap (λ (k : ℕ). parts k (λ i. emitted) rest >>= from_tables job last) (sym many) ∙ ap (λ (r : Passing). r >>= from_tables job last) is

  pub at_tables : {n : ℕ} (s : Passing) → IsPassed job last bytes from_tables rest → n ≡ tasks job (suc (last_edge job)) → parts n (λ i. table) rest ≡ s → body job last bytes ≡ (s >>= from_takes job last)
  at_tables s passed many is = passed.is ∙ ap (λ (k : ℕ). parts k (λ i. table) rest >>= from_takes job last) (sym many) ∙ ap (λ (r : Passing). r >>= from_takes job last) is

  pub at_takes : (s : Passing) → IsPassed job last bytes from_takes rest → parts (suc (last_edge job)) (λ e. parts (tasks job (suc e)) (takes job e)) rest ≡ s → body job last bytes ≡ (s >>= from_saved job last)
  at_takes s passed is = passed.is ∙ ap (λ (r : Passing). r >>= from_saved job last) is

  pub at_saved : {n : ℕ} (s : Passing) → IsPassed job last bytes from_saved rest → n ≡ length (channels job) → parts n (λ i. channel last) rest ≡ s → body job last bytes ≡ (s >>= from_end job last)
  at_saved s passed many is = passed.is ∙ ap (λ (k : ℕ). parts k (λ i. channel last) rest >>= from_end job last) (sym many) ∙ ap (λ (r : Passing). r >>= from_end job last) is

  pub at_end : (s : Passing) → IsPassed job last bytes from_end rest → mark (codes "IWLF") rest ≡ s → body job last bytes ≡ (s >>= nothing)
  at_end s passed is = passed.is ∙ ap (λ (r : Passing). r >>= nothing) is
