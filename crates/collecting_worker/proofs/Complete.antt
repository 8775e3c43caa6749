-- What an image that is complete comes to.
use Rattle.std.proofs.Common.{◌≡◌, inr, ℕ, zero, suc, ◌+◌, ◌<◌, ◌≤◌, Bool, true, false, cond, List, [], ◌∷◌, length, Option, Some, None, refl, sym, ap, ◌∙◌, subst, arith}
use Rattle.std.specs.Prelude.{slice_get, slice_index_or, unwrap_or}
use Rattle.std.specs.FinMap.{empty}
use Rattle.std.proofs.lemmas.List.Sums.{AllPass-from_list_all, list_all-from_AllPass}
use Rattle.flow_defs.specs.declared.job.Job.{Job}
use Rattle.flow_defs.specs.declared.image.Image.{Image}
use Rattle.flow_defs.specs.declared.image.Saved.{Saved}
use Rattle.flow_defs.specs.declared.image.Snapshot.{Snapshot}
use Rattle.flow_defs.specs.Tables.{Values}
use Rattle.plain_machine.specs.Images.{AllEnded, Fits}
use Rattle.job_text.specs.JobText.{IsJobText}
use Rattle.job_text.specs.KnownKinds.{every_kind}
use Rattle.channel_state.specs.Contents.{FitsItsText}
use Rattle.job_start.specs.declared.start.Start.{Start}
use Rattle.checkpoint_laws.specs.Collecting as laws
use Rattle.checkpoint_laws.specs.Collecting.{Collected, IsLast, IsMadeOf}
use Rattle.collector.specs.declared.collector.Checkpoint.{Checkpoint}
use Rattle.collector.specs.Faults.{IsFaultOf, IsNothingSaved}
use Rattle.collector.specs.Images.{IsImageOf, SnapshotsMakeFitting}
use Rattle.collector.specs.Pieces.{is_of, piece}
use Rattle.collecting_worker.specs.Images.{IsMadeFrom, IsSnapshotFor, has_all_ended}
use Rattle.collecting_worker.specs.Accounts.{HasText}
use Rattle.collecting_worker.specs.Gathering.{IsComplete, MayBeLast}

same_piece : (e a b : ℕ) (pieces : List Saved) → piece e a b pieces ≡ laws.piece e a b pieces
same_piece e a b [] = refl
same_piece e a b (s ∷ pieces) = ap (λ rest. cond (is_of e a b s.channel) s.bytes.items rest) (same_piece e a b pieces)

made_of : (job : Job) (number : ℕ) (final_one : Bool) (snapshot : ℕ → ℕ → Snapshot) (image : Image) → IsImageOf job number final_one snapshot image → IsMadeOf job image snapshot
made_of job number final_one snapshot image h = record {
  offsets = h.offset_at;
  ended = h.ended_at;
  emitted = h.emitted_at;
  tables = λ b low. ap (λ (o : Option Values). unwrap_or o empty) (h.table_at b low);
  takes = h.takes_at;
  saved_in = λ e a b is. h.saved_in_at e a b is ∙ same_piece e a b (snapshot (suc e) b).saved_in.items;
  saved_out = λ e a b is. h.saved_out_at e a b is ∙ same_piece e a b (snapshot e a).saved_out.items;
}

pub made_from : (job : Job) (received : List Snapshot) (cp : Checkpoint) (image : Image) → IsComplete job received cp image → IsMadeFrom job received image
made_from job received cp image h = record {
  snapshot = h.snapshot;
  made = made_of job cp.number cp.final_one h.snapshot image h.image_is;
  each = λ i a stage index. subst (λ k. IsSnapshotFor received i a k (h.snapshot i a)) (sym h.image_is.number_is) (h.each i a (stage, index));
}

pub complete_fits : SnapshotsMakeFitting → (job : Job) (received : List Snapshot) (cp : Checkpoint) (image : Image) → IsComplete job received cp image → IsFaultOf job image None → Fits job image
complete_fits law job received cp image h sound =
    law job cp.number cp.final_one h.snapshot image h.image_is h.fit sound.0 (λ final. sound.1 (h.image_is.last ∙ final))

pub fits_its_text : SnapshotsMakeFitting → (job : Job) (received : List Snapshot) (cp : Checkpoint) (image : Image) → HasText job → IsComplete job received cp image → IsFaultOf job image None → FitsItsText image
fits_its_text law job received cp image has h sound = record {
  job = job;
  job_text = subst (λ t. IsJobText every_kind t job) (sym h.image_is.text) has.text;
  fits = complete_fits law job received cp image h sound;
  short = subst (λ (t : List ℕ). length t ≤ 65536) (sym h.image_is.text) has.short;
}

pub collected : (job : Job) (every : Option ℕ) (received : List Snapshot) (cp : Checkpoint) (old image : Image) → IsComplete job received cp image → (image.final_one ≡ true → IsNothingSaved job image)
    → old.number + 1 ≡ cp.number → old.final_one ≡ false → IsLast every old image → Collected job every old image
collected job every received cp old image h still next not_last last =
    let is = h.image_is in
    record {
      number = is.number_is ∙ sym next;
      text = is.text;
      not_last = not_last;
      last = last;
      offsets = is.offsets;
      ended = is.ended;
      emitted = is.emitted;
      tables = is.tables;
      takes = is.takes;
      saved_in = is.saved_in;
      saved_out = is.saved_out;
      last_is_empty = still;
    }

-- ---- whether all are ended

pub all_ended : (image : Image) → has_all_ended image ≡ true → AllEnded image
all_ended image e = AllPass-from_list_all (λ (ended : Bool). ended) image.ended.items e

pub ended_all : (image : Image) → AllEnded image → has_all_ended image ≡ true
ended_all image h = list_all-from_AllPass (λ (ended : Bool). ended) image.ended.items h

pub last_next : (job : Job) (start : Start) (every : Option ℕ) (received : List Snapshot) (cp : Checkpoint) (image : Image) → IsComplete job received cp image → has_all_ended image ≡ true → MayBeLast job start every received (suc cp.number)
last_next job start None received cp image h ended = tt
last_next job start (Some n) received cp image h ended = λ a low.
    let is = h.image_is in
    let snap = h.each 0 a (omega arith, low) in
    let all : AllEnded image = all_ended image ended in
    let inside : a < length image.ended.items = omega (arith, low, is.ended) in
    let at : slice_index_or image.ended.items a true ≡ true = all a true inside in
    let there = is.ended_at a low in
    inr (record {
      snapshot = h.snapshot 0 a;
      received_it = snap.received_it;
      task_is = snap.task_is;
      before = omega (arith, snap.number_is);
      ended = ended_there image.ended.items a (h.snapshot 0 a).ended there at;
    })
  where
    ended_there : (list : List Bool) (a : ℕ) (b : Bool) → slice_get list a ≡ Some b → slice_index_or list a true ≡ true → b ≡ true
    ended_there [] a b get at = absurd (cc)
    ended_there (x ∷ list) zero b get at = cc
    ended_there (x ∷ list) (suc a) b get at = ended_there list a b get at
