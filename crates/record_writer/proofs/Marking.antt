-- A barrier or the end that a writer puts, told of all its channels.
use Rattle.std.proofs.Common.{◌≡◌, ◌≢◌, ℕ, suc, ◌+◌, ◌<◌, None, [], ◌++◌, refl, sym, ap, subst, ◌∙◌, append-nil, length}
use Rattle.std.specs.Prelude.{IfSome}
use Rattle.turn_cell.specs.Passes.{seen}
use Rattle.flow_defs.specs.declared.job.Job.{Job}
use Rattle.subpartition.specs.declared.entry.SendEntry.{SendEntry}
use Rattle.subpartition.specs.Sending.{put, barriers_put}
use Rattle.record_writer.specs.declared.channels.Channels.{Channels}
use Rattle.record_writer.specs.declared.supply.Supply.{Supply}
use Rattle.record_writer.specs.Writers.{Writer, ways_on, AreCut, last_put, PutSome, IsSame, IsNew, IsOpen, IsNextBarrier, HasPutData, HasPutTowards, WasStopped, HasFinished, HasMarked}
use Rattle.record_writer.specs.Channels.{WasEndedAt, WasMarkedAt, WasStoppedAt}
use Rattle.record_writer.specs.Lists.{own_of, held_of, laid_of}
use Rattle.record_writer.proofs.Emitting.{writer_of}
use Rattle.record_writer.proofs.Entries.{data_keeps_next, mark_is_next}

module _ (job : Job) (e a : ℕ) (channels channels' : Channels) (supply supply' : Supply) (n : ℕ) (many : length channels.passes.items ≡ ways_on job e) where
  abbrev w : Writer
  w = writer_of job e a channels supply n

  abbrev w' : Writer
  w' = writer_of job e a channels' supply' n

  there : (c : ℕ) → c < ways_on job e → c < length channels.passes.items
  there c low = subst (λ m. c < m) (sym many) low

  pub has_marked : (k : ℕ) → supply'.size ≡ supply.size
      → ((c : ℕ) → c < length channels.passes.items → WasMarkedAt supply.size k (own_of channels c) (own_of channels' c) (laid_of channels c) × (held_of channels' c ≡ [])) → IsOpen w' × HasMarked w w' k
  has_marked k same_size each = (
    record {
      each = λ c low. let o = (each c (there c low)).0.is_open in (o.unfinished, subst (λ s. AreCut s (own_of channels' c)) (sym same_size) o.buffers);
      full = λ c low. subst (λ s. IfSome (last_put None (own_of channels' c)) (λ m. m ≡ s)) (sym same_size) (each c (there c low)).0.is_open.full;
    },
    record {
      count = refl;
      whole = λ c low. (each c (there c low)).0.whole;
      none_filled = λ c low. ap (λ l. put (own_of channels' c) ++ l) (each c (there c low)).1 ∙ append-nil (put (own_of channels' c));
      entries = λ c low. (each c (there c low)).0.entries;
    },
  )

  pub has_finished : ((c : ℕ) → c < length channels.passes.items → WasEndedAt supply.size (own_of channels c) (own_of channels' c) (laid_of channels c)) → HasFinished w w'
  has_finished each = record {
    each = λ c low. (each c (there c low)).all;
    entries = λ c low. (each c (there c low)).entries;
  }

  pub has_stopped : (last : SendEntry) → ((c : ℕ) → c < length channels.passes.items → WasStoppedAt supply.size last (own_of channels c) (own_of channels' c) (laid_of channels c))
      → seen supply'.stop_pass ≢ [] → WasStopped w w' [] × HasPutTowards last w w'
  has_stopped last each fault = (
    record {
      fault = fault;
      each = λ c low. subst (PutSome supply.size (own_of channels' c)) (sym (append-nil (laid_of channels c))) (each c (there c low)).some;
    },
    λ c low. (each c (there c low)).entries,
  )

-- ---- the number of the next barrier

pub next_of_new : (w : Writer) → IsNew w → IsNextBarrier w 1
next_of_new w new = λ c low. ap (λ es. suc (length (barriers_put es))) (sym (new.own c))

module _ (w w' : Writer) (k : ℕ) (same : IsSame w w') (next : IsNextBarrier w k) where
  within : (c : ℕ) → c < ways_on w'.job w'.edge → c < ways_on w.job w.edge
  within c low = subst (λ m. c < m) (ap (λ j. ways_on j w'.edge) same.job ∙ ap (ways_on w.job) same.edge) low

  pub next_after_data : HasPutData w w' → IsNextBarrier w' k
  next_after_data grew = λ c low. data_keeps_next k _ _ (grew c (within c low)) (next c (within c low))

  pub next_after_mark : HasMarked w w' k → IsNextBarrier w' (k + 1)
  next_after_mark marked = λ c low. mark_is_next k _ _ (marked.entries c (within c low)) (next c (within c low))
