-- The images that were stored are collected.
use Rattle.std.proofs.Common.{ℕ, zero, suc, ◌<◌, ◌≤◌, List, [], ◌∷◌, length, Option, subst, arith}
use Rattle.std.specs.Prelude.{Contains, slice_index_or}
use Rattle.std.specs.List.{AllByRecursion}
use Rattle.std.proofs.lemmas.List.Elements.{Contains-append_left}
use Rattle.flow_defs.specs.declared.job.Job.{Job}
use Rattle.flow_defs.specs.declared.image.Image.{Image}
use Rattle.flow_defs.specs.declared.image.Snapshot.{Snapshot}
use Rattle.flow_defs.specs.Jobs.{last_edge, tasks}
use Rattle.checkpoint_laws.specs.Chapters.{Linked, shown, task_at}
use Rattle.checkpoint_laws.specs.Collecting.{IsMadeOf, Collected}
use Rattle.snapshot_channel.specs.Snapshots.{IsBeginning, same_task, snapshots_of}
use Rattle.collecting_worker.specs.Images.{IsMadeFrom, IsSnapshotFor}
use Rattle.collecting_worker.specs.Laws.{AreCollected, StoredAreCollected}
use Rattle.collecting_worker.proofs.Members.{contains_in, in_contained, in_filter}
use Rattle.collecting_worker.proofs.Receipts.{same_same}

linked_at : (R : Image → Image → Type 0) (x d : Image) (images : List Image) → Linked R x images → (k : ℕ) → k < length images → R (slice_index_or (x ∷ images) k d) (slice_index_or images k d)
linked_at R x d [] h k low = absurd (omega (arith, low))
linked_at R x d (y ∷ images) h zero low = h.0
linked_at R x d (y ∷ images) h (suc k) low = linked_at R y d images h.1 k (omega (arith, low))

module _ (job : Job) (base : Image) (received : List Snapshot) where
  snapshot_of : (images : List Image) → AllByRecursion (IsMadeFrom job received) images → ℕ → ℕ → ℕ → Snapshot
  snapshot_of [] h k i a = shown job base i a
  snapshot_of (x ∷ images) h zero i a = h.0.snapshot i a
  snapshot_of (x ∷ images) h (suc k) i a = snapshot_of images h.1 k i a

  made_at : (images : List Image) (h : AllByRecursion (IsMadeFrom job received) images) (k : ℕ) → k < length images → IsMadeOf job (slice_index_or images k base) (snapshot_of images h k)
  unfolding snapshot_of
  made_at [] h k low = absurd (omega (arith, low))
  made_at (x ∷ images) h zero low = h.0.made
  made_at (x ∷ images) h (suc k) low = made_at images h.1 k (omega (arith, low))

  each_at : (images : List Image) (h : AllByRecursion (IsMadeFrom job received) images) (k i a : ℕ) → k < length images → i ≤ suc (last_edge job) → a < tasks job i → IsSnapshotFor received i a (slice_index_or images k base).number (snapshot_of images h k i a)
  unfolding snapshot_of
  each_at [] h k i a low stage index = absurd (omega (arith, low))
  each_at (x ∷ images) h zero i a low stage index = h.0.each i a stage index
  each_at (x ∷ images) h (suc k) i a low stage index = each_at images h.1 k i a (omega (arith, low)) stage index

pub sent_it : (received sent : List Snapshot) (i a k : ℕ) (x : Snapshot) → IsBeginning (snapshots_of (task_at i a) received) sent → IsSnapshotFor received i a k x → Contains sent x
sent_it received sent i a k x beginning h =
    let inside = contains_in (snapshots_of (task_at i a) received) x (in_filter (λ (y : Snapshot). same_task y.task (task_at i a)) received x (in_contained received x h.received_it) (same_same x.task (task_at i a) h.task_is)) in
    subst (λ l. Contains l x) beginning.1 (Contains-append_left (snapshots_of (task_at i a) received) beginning.0 x inside)

-- Images that were made of what was received, one collected behind the other, are collected, whether they were stored or not.
pub made_are_collected : (job : Job) (every : Option ℕ) (base : Image) (received : List Snapshot) (images : List Image) (sent : ℕ → ℕ → List Snapshot) →
    AllByRecursion (IsMadeFrom job received) images → Linked (Collected job every) base images →
    ((i a : ℕ) → i ≤ suc (last_edge job) → a < tasks job i → IsBeginning (snapshots_of (task_at i a) received) (sent i a)) →
    (snapshot : ℕ → ℕ → ℕ → Snapshot) × AreCollected job every base images sent snapshot
made_are_collected job every base received images sent made linked beginnings = (
  snapshot_of job base received images made,
  record {
    acknowledged = λ k i a low stage index.
        let h = each_at job base received images made k i a low stage index in
        (sent_it received (sent i a) i a (slice_index_or images k base).number (snapshot_of job base received images made k i a) (beginnings i a stage index) h, h.number_is);
    made = λ k low. made_at job base received images made k low;
    collected = λ k low. linked_at (Collected job every) base base images linked k low;
  },
)

pub stored_are_collected : StoredAreCollected
stored_are_collected job start every base received before after told images sent is stored beginnings =
    made_are_collected job every base received images sent stored.made (stored.collected base is) beginnings
