-- The whole run of the worker.
use Rattle.std.proofs.Common.{◌≡◌, ◌≢◌, ℕ, suc, ◌≤◌, Bool, true, false, List, [], ◌∷◌, ◌++◌, Option, None, sym, ◌∙◌, subst, arith}
use Rattle.std.specs.Prelude.{IsSomeAnd}
use Rattle.turn_cell.specs.History.{StartsWith}
use Rattle.turn_cell.specs.Passes.{mine}
use Rattle.flow_defs.specs.Items.{Items}
use Rattle.flow_defs.specs.declared.cause.Cause.{Cause}
use Rattle.flow_defs.specs.declared.cause.Cause.TheVariants as causes
use Rattle.flow_defs.specs.declared.job.Job.{Job}
use Rattle.flow_defs.specs.declared.image.Image.{Image}
use Rattle.flow_defs.specs.declared.image.Snapshot.{Snapshot}
use Rattle.job_start.specs.declared.start.Start.{Start}
use Rattle.collector.specs.declared.collector.Checkpoint.{Checkpoint}
use Rattle.collector.specs.Faults.{IsFaultOf}
use Rattle.collector.specs.Images.{SnapshotsMakeFitting}
use Rattle.snapshot_channel.specs.Passes.{received_by}
use Rattle.outside.specs.Keepers.{KeptImage}
use Rattle.outside.specs.declared.last_image.Stored.{Stored}
use Rattle.outside.specs.declared.stop.StopEntry.{StopEntry}
use Rattle.collecting_worker.specs.declared.worker.Worker.{Worker}
use Rattle.collecting_worker.specs.Accounts.{CollectAccount}
use Rattle.collecting_worker.specs.Images.{AreStored}
use Rattle.collecting_worker.specs.Gathering.{IsComplete}
use Rattle.collecting_worker.specs.Steps.{BreaksFor, HasBroken, HasKept, IsImageReady}
use Rattle.collecting_worker.proofs.Breaks.{cause_of, complete_at}
use Rattle.collecting_worker.proofs.Going.{IsGoing, goes_on, last_is_it, next_image, one_more, still_stored}

module _ (law : SnapshotsMakeFitting) (job : Job) (start : Start) (every : Option ℕ) (old new : Worker) (before mid after : Option (List KeptImage)) (cp : Checkpoint) (starts : StartsWith (received_by new.gathering.pass) (received_by old.gathering.pass))
    (going : IsGoing job start every (received_by old.gathering.pass) before mid (mine old.last_pass) old.last cp.number cp.final_one) (job_is : new.job.now ≡ job) where
  abbrev received : List Snapshot
  received = received_by new.gathering.pass

  not_done : (fell rose : ℕ) (met : List (ℕ × StopEntry)) (cause : Cause) → BreaksFor new.job.now received cp fell rose met cause → cause ≢ causes.Done
  not_done fell rose met cause h is = let no = subst (BreaksFor new.job.now received cp fell rose met) is h in no

  pub broken_account : (fell count rose : ℕ) (met : List (ℕ × StopEntry)) (cause : Cause) → fell ≤ count → count ≤ rose → HasBroken old new mid after cause → BreaksFor new.job.now received cp count rose met cause
      → CollectAccount job start every received before after (mine new.last_pass) new.last fell rose met cause
  broken_account fell count rose met cause low high broken why =
      let was = still_stored job start every (received_by old.gathering.pass) received before mid (mine old.last_pass) going.images starts going.stored in
      record {
        images = going.images;
        stored = subst (λ k. AreStored job start every received before k (mine new.last_pass) going.images) (sym broken.kept) (subst (λ t. AreStored job start every received before mid t going.images) (sym broken.told) was);
        last_is = broken.last_is ∙ going.last_is;
        done = λ is. absurd (not_done count rose met cause why is);
        never_falls = omega (arith, low, high);
        cause_is = cause_of job start every received going.images cp fell count rose met cause
            (λ image complete. next_image law job start every (received_by old.gathering.pass) received starts before mid after (mine old.last_pass) (mine new.last_pass) old.last new.last cp going image complete)
            low (subst (λ j. BreaksFor j received cp count rose met cause) job_is why);
      }

  module _ (image : Image) (bytes : Items ℕ) (all_ended : Bool) (ready : IsImageReady new cp image bytes) (kept : HasKept old new mid after image all_ended) where
    complete : IsComplete job received cp image
    complete = complete_at new.job.now job received cp image job_is ready.complete

    sound : IsFaultOf job image None
    sound = subst (λ j. IsFaultOf j image None) job_is ready.sound

    pub done_account : (fell rose : ℕ) (met : List (ℕ × StopEntry)) → fell ≤ rose → cp.final_one ≡ true → CollectAccount job start every received before after (mine new.last_pass) new.last fell rose met causes.Done
    done_account fell rose met low final = record {
      images = going.images ++ image ∷ [];
      stored = one_more law job start every (received_by old.gathering.pass) received starts before mid after (mine old.last_pass) (mine new.last_pass) old.last new.last cp going image complete sound ready.can ready.readable kept.kept kept.told kept.last_is;
      last_is = last_is_it law job start every (received_by old.gathering.pass) received starts before mid after (mine old.last_pass) (mine new.last_pass) old.last new.last cp going image complete sound ready.can ready.readable kept.kept kept.told kept.last_is;
      done = λ _. subst (λ o. IsSomeAnd o (λ (x : Image). x.final_one ≡ true)) (sym kept.last_is) (complete.image_is.last ∙ final);
      never_falls = low;
      cause_is = tt;
    }

    pub going_on : (number : ℕ) → number ≡ suc cp.number → cp.final_one ≡ false → IsGoing job start every received before after (mine new.last_pass) new.last number all_ended
    going_on number next not_last =
        goes_on law job start every (received_by old.gathering.pass) received starts before mid after (mine old.last_pass) (mine new.last_pass) old.last new.last cp going image complete sound ready.can ready.readable kept.kept kept.told kept.last_is
        number all_ended next not_last kept.all_ended_is

-- there is no number for one more
pub full_account : (job : Job) (start : Start) (every : Option ℕ) (received : List Snapshot) (before after : Option (List KeptImage)) (told : List Stored) (last : Option Image) (number : ℕ) (final_one : Bool) (fell rose : ℕ) (met : List (ℕ × StopEntry))
    → IsGoing job start every received before after told last number final_one → fell ≤ rose → CollectAccount job start every received before after told last fell rose met causes.Memory
full_account job start every received before after told last number final_one fell rose met going low = record {
  images = going.images;
  stored = going.stored;
  last_is = going.last_is;
  done = λ is. absurd (memory_not_done is);
  never_falls = low;
  cause_is = tt;
}
  where
    memory_not_done : causes.Memory ≢ causes.Done
    memory_not_done = λ is. cc
