-- Why the worker breaks off.
use Rattle.std.proofs.Common.{◌≡◌, ⊎_elim, inl, inr, ℕ, ◌<◌, ◌≤◌, Bool, false, List, [], ◌∷◌, ◌++◌, Option, None, Result, Ok, Err, refl, sym, ap, ◌∙◌, subst, arith}
use Rattle.std.specs.Prelude.{IfOk}
use Rattle.flow_defs.specs.Items.{Items}
use Rattle.flow_defs.specs.declared.cause.Cause.{Cause}
use Rattle.flow_defs.specs.declared.cause.Cause.TheVariants as causes
use Rattle.flow_defs.specs.declared.job.Job.{Job}
use Rattle.flow_defs.specs.declared.image.Image.{Image}
use Rattle.flow_defs.specs.declared.image.Snapshot.{Snapshot}
use Rattle.turn_cell.specs.Passes.{mine}
use Rattle.job_start.specs.declared.start.Start.{Start}
use Rattle.collector.specs.declared.collector.Checkpoint.{Checkpoint}
use Rattle.snapshot_channel.specs.Passes.{received_by}
use Rattle.outside.specs.Faults.{HasRisen}
use Rattle.outside.specs.Keepers.{KeptImage}
use Rattle.outside.specs.Stops.{is_fault}
use Rattle.outside.specs.declared.stop.StopEntry.{StopEntry}
use Rattle.collector.specs.Faults.{IsFaultOf}
use Rattle.collecting_worker.specs.declared.gathering.Gathering.{Gathering}
use Rattle.collecting_worker.specs.declared.worker.Worker.{Worker}
use Rattle.collecting_worker.specs.Accounts.{IsCollectCause}
use Rattle.collecting_worker.specs.Images.{IsNext, stored_of}
use Rattle.collecting_worker.specs.Gathering.{IsComplete}
use Rattle.collecting_worker.specs.Steps.{BreaksFor, HasKept, IsImageReady}

not_risen : HasRisen 0 0 → ⊥
not_risen risen = ⊎_elim (λ (low : 0 < 0). omega (arith, low)) (λ (low : 18446744073709551615 ≤ 0). omega (arith, low)) risen

-- it told the stop cell what it had met outside of a turn of the keeper
pub breaks_told : (job : Job) (received : List Snapshot) (cp : Checkpoint) (met met' : List (ℕ × StopEntry)) (cause : Cause) → ((fell rose : ℕ) → BreaksFor job received cp fell rose met cause) → (is_fault cause ≡ false → met' ≡ met)
    → (fell rose : ℕ) → BreaksFor job received cp fell rose met' cause
breaks_told job received cp met met' causes.Done h calm fell rose = h 0 0
breaks_told job received cp met met' causes.Stopped h calm fell rose = λ none. h 0 0 (sym (calm refl) ∙ none)
breaks_told job received cp met met' (causes.Input source) h calm fell rose = h 0 0
breaks_told job received cp met met' causes.Keeper h calm fell rose = absurd (not_risen (h 0 0).0)
breaks_told job received cp met met' causes.Link h calm fell rose = h 0 0
breaks_told job received cp met met' (causes.LongLine source) h calm fell rose = h 0 0
breaks_told job received cp met met' (causes.BigSource source) h calm fell rose = h 0 0
breaks_told job received cp met met' causes.BigImage h calm fell rose = h 0 0
breaks_told job received cp met met' (causes.OverCredit channel number announced) h calm fell rose = h 0 0
breaks_told job received cp met met' (causes.Peer fault) h calm fell rose = h 0 0
breaks_told job received cp met met' causes.Memory h calm fell rose = tt

pub breaks_at : (job job' : Job) (received : List Snapshot) (cp : Checkpoint) (fell rose : ℕ) (met : List (ℕ × StopEntry)) (cause : Cause) → job ≡ job' → BreaksFor job received cp fell rose met cause → BreaksFor job' received cp fell rose met cause
breaks_at job job' received cp fell rose met cause same h = subst (λ j. BreaksFor j received cp fell rose met cause) same h

pub complete_at : (job job' : Job) (received : List Snapshot) (cp : Checkpoint) (image : Image) → job ≡ job' → IsComplete job received cp image → IsComplete job' received cp image
complete_at job job' received cp image same h = subst (λ j. IsComplete j received cp image) same h

-- ---- an image is stored

ready_still : (mid new : Worker) (cp : Checkpoint) (image : Image) (bytes : Items ℕ) → new.gathering ≡ mid.gathering → new.job ≡ mid.job → IsImageReady mid cp image bytes → IsImageReady new cp image bytes
ready_still mid new cp image bytes gathering job h = record {
  complete = subst (λ (g : Gathering). IsComplete new.job.now (received_by g.pass) cp image) (sym gathering) (subst (λ j. IsComplete j (received_by mid.gathering.pass) cp image) (ap (λ j. j.now) (sym job)) h.complete);
  sound = subst (λ j. IsFaultOf j image None) (ap (λ j. j.now) (sym job)) h.sound;
  can = h.can;
  readable = h.readable;
  bytes_are = h.bytes_are;
}

pub stored_by : (old mid new : Worker) (cp : Checkpoint) (image : Image) (bytes : Items ℕ) (before after : Option (List KeptImage)) (r : Result Bool Cause) → IsImageReady mid cp image bytes → new.gathering ≡ mid.gathering → new.job ≡ mid.job
    → mid.last_pass ≡ old.last_pass → mine mid.stop_pass ≡ mine old.stop_pass → IfOk r (HasKept mid new before after image)
    → IfOk r (λ all_ended. (x : Image) × (x' : Items ℕ) × IsImageReady new cp x x' × HasKept old new before after x all_ended)
stored_by old mid new cp image bytes before after (Err cause) ready gathering job last stop h = tt
stored_by old mid new cp image bytes before after (Ok all_ended) ready gathering job last stop h = (
  image,
  bytes,
  ready_still mid new cp image bytes gathering job ready,
  record {
    kept = h.kept;
    told = h.told ∙ ap (λ p. mine p ++ stored_of image ∷ []) last;
    last_is = h.last_is;
    all_ended_is = h.all_ended_is;
    stop = h.stop ∙ stop;
  },
)

-- ---- the account

pub cause_of : (job : Job) (start : Start) (every : Option ℕ) (received : List Snapshot) (images : List Image) (cp : Checkpoint) (fell mid rose : ℕ) (met : List (ℕ × StopEntry)) (cause : Cause) → ((image : Image) → IsComplete job received cp image → IsNext job start every received images image)
    → fell ≤ mid → BreaksFor job received cp mid rose met cause → IsCollectCause job start every received images fell rose met cause
cause_of job start every received images cp fell mid rose met causes.Done next low h = tt
cause_of job start every received images cp fell mid rose met causes.Stopped next low h = tt
cause_of job start every received images cp fell mid rose met (causes.Input source) next low h = h
cause_of job start every received images cp fell mid rose met causes.Keeper next low h = (⊎_elim (λ (more : mid < rose). inl (omega (arith, low, more))) (λ (full : 18446744073709551615 ≤ rose). inr full) h.0, h.1)
cause_of job start every received images cp fell mid rose met causes.Link next low h = h
cause_of job start every received images cp fell mid rose met (causes.LongLine source) next low h = h
cause_of job start every received images cp fell mid rose met (causes.BigSource source) next low h = h
cause_of job start every received images cp fell mid rose met causes.BigImage next low h = (h.0, next h.0 h.1, h.2)
cause_of job start every received images cp fell mid rose met (causes.OverCredit channel number announced) next low h = h
cause_of job start every received images cp fell mid rose met (causes.Peer fault) next low h = (h.0, next h.0 h.1, h.2)
cause_of job start every received images cp fell mid rose met causes.Memory next low h = tt
