-- How the worker ends.
use Rattle.std.proofs.Common.{◌≡◌, ◌≢◌, ◌⊎◌, ⊎_elim, inl, inr, ℕ, List, [], ◌++◌, Option, None, refl, sym, ap, ◌∙◌, subst, arith}
use Rattle.turn_cell.specs.Passes.{mine, number, seen}
use Rattle.flow_defs.specs.declared.cause.Cause.{Cause}
use Rattle.flow_defs.specs.declared.cause.Cause.TheVariants as causes
use Rattle.flow_defs.specs.declared.job.Job.{Job}
use Rattle.flow_defs.specs.declared.image.Image.{Image}
use Rattle.flow_defs.specs.declared.image.Snapshot.{Snapshot}
use Rattle.job_start.specs.declared.start.Start.{Start}
use Rattle.outside.specs.Keepers.{KeptImage}
use Rattle.outside.specs.Stops.{told_of}
use Rattle.outside.specs.declared.last_image.Stored.{Stored}
use Rattle.outside.specs.declared.stop.StopEntry.{StopEntry}
use Rattle.conn_parts.specs.Stopping.{StopCell, StopPass, ToldStop}
use Rattle.collecting_worker.specs.Accounts.{CollectAccount, IsCollectCause}
use Rattle.collecting_worker.specs.Steps.{BreaksFor, EndsAs}
use Rattle.collector.specs.declared.collector.Checkpoint.{Checkpoint}
use Rattle.collecting_worker.proofs.Going.{none_stored}

pub stopped_seen : (job : Job) (received : List Snapshot) (cp : Checkpoint) (fell rose : ℕ) (met : List (ℕ × StopEntry)) (cause : Cause) → BreaksFor job received cp fell rose met cause → cause ≡ causes.Stopped → met ≢ []
stopped_seen job received cp fell rose met cause h is = let some = subst (BreaksFor job received cp fell rose met) is h in some

by_done : (cause : Cause) → (cause ≡ causes.Done) ⊎ (cause ≢ causes.Done)
by_done causes.Done = inl refl
by_done causes.Stopped = inr (λ is. cc)
by_done (causes.Input source) = inr (λ is. cc)
by_done causes.Keeper = inr (λ is. cc)
by_done causes.Link = inr (λ is. cc)
by_done (causes.LongLine source) = inr (λ is. cc)
by_done (causes.BigSource source) = inr (λ is. cc)
by_done causes.BigImage = inr (λ is. cc)
by_done (causes.OverCredit channel received announced) = inr (λ is. cc)
by_done (causes.Peer fault) = inr (λ is. cc)
by_done causes.Memory = inr (λ is. cc)

stopped_not_done : causes.Stopped ≢ causes.Done
stopped_not_done = λ is. cc

-- nothing was told where it had done its work
pub told_at_end : (cell : StopCell) (cause told_cause : Cause) (before mid after : StopPass) → mine before ≡ [] → number mid ≡ number before → mine mid ≡ told_of cause → (cause ≡ causes.Stopped → seen mid ≢ []) → EndsAs cell cause told_cause mid after
    → ToldStop cell told_cause before after
told_at_end cell cause told_cause before mid after none same told stopped ends = ⊎_elim
    (λ (done : cause ≡ causes.Done). ⊎_elim
    (λ (calm : (told_cause ≡ causes.Done) × (seen after ≡ [])). record {
      pass = ends.pass;
      number = ends.same.0 ∙ same;
      told = ends.same.1 ∙ told ∙ ap told_of (done ∙ sym calm.0) ∙ ap (λ l. l ++ told_of told_cause) (sym none);
      stopped = λ is. absurd (stopped_not_done (sym is ∙ calm.0));
      done = λ _. calm.1;
    })
    (λ (met : (told_cause ≡ causes.Stopped) × (seen after ≢ [])). record {
      pass = ends.pass;
      number = ends.same.0 ∙ same;
      told = ends.same.1 ∙ told ∙ ap told_of done ∙ ap told_of (sym met.0) ∙ ap (λ l. l ++ told_of told_cause) (sym none);
      stopped = λ _. met.1;
      done = λ is. absurd (stopped_not_done (sym met.0 ∙ is));
    })
    (ends.done done))
    (λ (else : cause ≢ causes.Done). let still = ends.else else in record {
      pass = ends.pass;
      number = ends.same.0 ∙ same;
      told = ends.same.1 ∙ told ∙ ap told_of (sym still.0) ∙ ap (λ l. l ++ told_of told_cause) (sym none);
      stopped = λ is. subst (λ (p : StopPass). seen p ≢ []) (sym still.1) (stopped (sym still.0 ∙ is));
      done = λ is. absurd (else (sym still.0 ∙ is));
    })
    (by_done cause)

-- the account is the same by its other cause
pub account_ended : (job : Job) (start : Start) (every : Option ℕ) (received : List Snapshot) (before after : Option (List KeptImage)) (told : List Stored) (last : Option Image) (fell rose : ℕ) (cell : StopCell) (cause told_cause : Cause) (old new : StopPass)
    → EndsAs cell cause told_cause old new → CollectAccount job start every received before after told last fell rose (seen old) cause → CollectAccount job start every received before after told last fell rose (seen new) told_cause
account_ended job start every received before after told last fell rose cell cause told_cause old new ends was = ⊎_elim
    (λ (done : cause ≡ causes.Done). record {
      images = was.images;
      stored = was.stored;
      last_is = was.last_is;
      done = λ _. was.done done;
      never_falls = was.never_falls;
      cause_is = ⊎_elim
          (λ (calm : (told_cause ≡ causes.Done) × (seen new ≡ [])). subst (IsCollectCause job start every received was.images fell rose (seen new)) (sym calm.0) tt)
          (λ (met : (told_cause ≡ causes.Stopped) × (seen new ≢ [])). subst (IsCollectCause job start every received was.images fell rose (seen new)) (sym met.0) tt)
          (ends.done done);
    })
    (λ (else : cause ≢ causes.Done). let still = ends.else else in
    subst (λ (p : StopPass). CollectAccount job start every received before after told last fell rose (seen p) told_cause) (sym still.1)
    (subst (CollectAccount job start every received before after told last fell rose (seen old)) (sym still.0) was))
    (by_done cause)

-- it found no memory to begin
pub account_unbegun : (job : Job) (start : Start) (every : Option ℕ) (received : List Snapshot) (before : Option (List KeptImage)) (told : List Stored) (fell : ℕ) (met : List (ℕ × StopEntry)) → told ≡ [] → CollectAccount job start every received before before told None fell fell met causes.Memory
account_unbegun job start every received before told fell met none = record {
  images = [];
  stored = none_stored job start every received before told none;
  last_is = refl;
  done = λ is. absurd (memory_not_done is);
  never_falls = omega arith;
  cause_is = tt;
}
  where
    memory_not_done : causes.Memory ≢ causes.Done
    memory_not_done = λ is. cc
