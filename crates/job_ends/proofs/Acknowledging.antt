-- The passes of the channel of snapshots, taken out of rows of places one after another, and what was received of them.
use Rattle.std.proofs.Common.{◌≡◌, ℕ, zero, suc, ◌+◌, ◌<◌, ◌≤◌, Option, Some, None, List, [], ◌∷◌, ◌++◌, length, take, refl, sym, ap, subst, ◌∙◌, arith}
use Rattle.std.specs.Prelude.{slice_get}
use Rattle.std.specs.List.{All, AllByRecursion, flat_map}
use Rattle.std.specs.Option.{option_map_or, option_to_list}
use Rattle.std.proofs.lemmas.List.{flat_map_more, take_more}
use Rattle.std.proofs.lemmas.List.Elements.{All-append, All-cons, All-from_recursion, All-head, All-nil, All-same, recursion_from_All}
use Rattle.std.proofs.lemmas.Option.{get_or_from_slice_get, same_Some, slice_get_within}
use Rattle.flow_defs.specs.Items.{Items}
use Rattle.flow_defs.specs.declared.image.Snapshot.{Snapshot}
use Rattle.flow_defs.specs.declared.job.Job.{Job}
use Rattle.flow_defs.specs.declared.task.TaskId.{TaskId}
use Rattle.flow_defs.specs.Jobs.{last_edge, tasks, sum_below}
use Rattle.plain_machine.specs.Worth.{concat_below}
use Rattle.plain_machine.proofs.PlaceLemmas.{length-concat_below, sum_same, sum_below-within}
use Rattle.snapshot_channel.specs.declared.opened.SnapshotChannel.{SnapshotChannel}
use Rattle.snapshot_channel.specs.declared.opened.TaskPass.{TaskPass}
use Rattle.snapshot_channel.specs.declared.views.Opening.{Opening}
use Rattle.snapshot_channel.specs.Passes.{IsPassOf, IsReceivedOf, sent_by, task_of}
use Rattle.snapshot_channel.specs.Snapshots.{IsBeginning, all_tasks, snapshots_of, task}
use Rattle.job_workers.specs.declared.task.TaskLeft.{TaskLeft}
use Rattle.job_workers.specs.Places.{Each}
use Rattle.job_workers.specs.Tasks.{snapshots_in}
use Rattle.job_ends.specs.Ended.{TaskPlace, AreReceived, AreSettled, ChannelsStay, HasAcknowledged, HaveAcknowledged, left_at, left_in, snapshots_at}
use Rattle.job_ends.specs.Leaving.{HasSnapshots, RowWithoutSnapshots, TookSnapshots, acknowledged_by, acknowledged_in}
use Rattle.job_ends.proofs.Rows.{UpTo, place_is, stands, stands_at, up_to_all}

-- ---- lists end to end

module _ {A : Type 0} (P : A → Type 0) where
  left_of : (xs ys : List A) → AllByRecursion P (xs ++ ys) → AllByRecursion P xs
  left_of [] ys all = tt
  left_of (x ∷ xs) ys all = (all.0, left_of xs ys all.1)

  right_of : (xs ys : List A) → AllByRecursion P (xs ++ ys) → AllByRecursion P ys
  right_of [] ys all = all
  right_of (x ∷ xs) ys all = right_of xs ys all.1

  all_left : (xs ys : List A) → All P (xs ++ ys) → All P xs
  all_left xs ys all = All-from_recursion P xs (left_of xs ys (recursion_from_All P (xs ++ ys) all))

  all_right : (xs ys : List A) → All P (xs ++ ys) → All P ys
  all_right xs ys all = All-from_recursion P ys (right_of xs ys (recursion_from_All P (xs ++ ys) all))

  -- It holds of all where it holds of what comes of each, and the other way round.
  pub all_joined : {X : Type 0} (f : X → List A) (xs : List X) → ((k : ℕ) (x : X) → slice_get xs k ≡ Some x → All P (f x)) → All P (flat_map f xs)
  all_joined f [] each = All-nil P
  all_joined f (x ∷ xs) each = All-append P (f x) (flat_map f xs) (each 0 x refl) (all_joined f xs (λ k y at. each (suc k) y at))

  pub all_apart : {X : Type 0} (f : X → List A) (xs : List X) (k : ℕ) (x : X) → All P (flat_map f xs) → slice_get xs k ≡ Some x → All P (f x)
  all_apart f [] k x all at = absurd (cc)
  all_apart f (y ∷ xs) zero x all at = subst (λ z. All P (f z)) (same_Some y x at) (all_left (f y) (flat_map f xs) all)
  all_apart f (y ∷ xs) (suc k) x all at = all_apart f xs k x (all_right (f y) (flat_map f xs) all) at

-- What comes of one more.
pub joined_more : {X A : Type 0} (f : X → List A) (start now new : List A) (xs : List X) (n : ℕ) (x : X) → slice_get xs n ≡ Some x →
    now ≡ start ++ flat_map f (take n xs) → new ≡ now ++ f x → new ≡ start ++ flat_map f (take (n + 1) xs)
joined_more f start now new xs n x at is more =
    let longer : take (n + 1) xs ≡ take n xs ++ x ∷ [] = take_more xs n x (slice_get_within xs n x at) ∙ ap (λ y. take n xs ++ y ∷ []) (get_or_from_slice_get xs n x x at) in
    more ∙ ap (λ l. l ++ f x) is ∙ flat_map_more f start (take n xs) x ∙ ap (λ l. start ++ flat_map f l) (sym longer)

-- ---- how many tasks there are

stage_many : (job : Job) (i : ℕ) → length (concat_below (tasks job i) (λ a. task i a ∷ [])) ≡ tasks job i
stage_many job i =
    let one = length-concat_below (tasks job i) (λ a. task i a ∷ []) (λ a. 1) (λ a below. refl) in
    let sum = sum_same (tasks job i) 1 in
    omega (arith, one, sum)

all_many : (job : Job) → length (all_tasks job) ≡ sum_below (suc (suc (last_edge job))) (tasks job)
all_many job =
    length-concat_below (suc (suc (last_edge job))) (λ i. concat_below (tasks job i) (λ a. task i a ∷ [])) (tasks job)
    (λ i low. stage_many job i)

-- There is room for the passes of a stage.
pub room_left : (job : Job) (s room : ℕ) → s < suc (suc (last_edge job)) → length (all_tasks job) ≤ room + sum_below s (tasks job) → tasks job s ≤ room
room_left job s room low enough =
    let all = all_many job in
    let within = sum_below-within (suc (suc (last_edge job))) (tasks job) s low in
    omega (arith, enough, all, within)

pub sum_more : (n : ℕ) (f : ℕ → ℕ) → sum_below (n + 1) f ≡ sum_below n f + f n
sum_more n f = let next : n + 1 ≡ suc n = omega arith in ap (λ k. sum_below k f) next

module _ {S : Type 0} where
  -- ---- the pass of a task

  acknowledged_there : (place : TaskPlace S) (left : TaskLeft S) (pass : TaskPass) → left_in place ≡ Some left → left.snapshots ≡ Some pass →
      acknowledged_in place ≡ pass ∷ []
  acknowledged_there place left pass is there =
      ap (λ (o : Option (TaskLeft S)). option_map_or (λ (left : TaskLeft S). option_to_list left.snapshots) o []) is ∙ ap option_to_list there

  pub acknowledged_is : (before after : TaskPlace S) (pass : TaskPass) → TookSnapshots before after pass → acknowledged_in before ≡ pass ∷ []
  acknowledged_is before after pass took = acknowledged_there before took.without.left pass took.without.was took.had

  snapshots_are : (rows : List (Items (TaskPlace S))) (s i : ℕ) (left : TaskLeft S) → left_at rows s i ≡ Some left →
      snapshots_at rows s i ≡ snapshots_in left.snapshots
  snapshots_are rows s i left at =
      ap (λ (o : Option (TaskLeft S)). option_map_or (λ (left : TaskLeft S). snapshots_in left.snapshots) o []) at

  -- ---- those of all tasks

  module _ {job : Job} {channel : SnapshotChannel} {rows : List (Items (TaskPlace S))} (have : HaveAcknowledged job channel rows) where
    module _ (s : ℕ) (row : Items (TaskPlace S)) (at : slice_get rows s ≡ Some row) where
      pub stage_low : s < suc (suc (last_edge job))
      stage_low = let low = slice_get_within rows s row at in let many = have.rows_many in omega (arith, low, many)

      left_here : (i : ℕ) (place : TaskPlace S) → slice_get row.items i ≡ Some place →
          (left : TaskLeft S) × (left_in place ≡ Some left) × HasAcknowledged channel s i left
      left_here i place there =
          let many = have.row_many s row at in
          let low = slice_get_within row.items i place there in
          let e = have.each s i stage_low (omega (arith, low, many)) in
          (e.0, sym (ap (λ (p : TaskPlace S). left_in p) (place_is rows s i row place at there)) ∙ e.1, e.2)

      pub row_has : Each HasSnapshots row.items
      row_has i place there =
          let e = left_here i place there in
          record { left = e.0; is_left = e.1; pass = e.2.pass; is_there = e.2.is_there }

      task_pass : (i : ℕ) (place : TaskPlace S) → slice_get row.items i ≡ Some place → All (IsPassOf channel) (acknowledged_in place)
      task_pass i place there =
          let e = left_here i place there in
          let pass = e.2.pass in
          All-same (IsPassOf channel) (acknowledged_in place) (pass ∷ []) (acknowledged_there place e.0 pass e.1 e.2.is_there)
          (All-cons (IsPassOf channel) pass [] e.2.of_channel (All-nil (IsPassOf channel)))

      stage_passes : All (IsPassOf channel) (acknowledged_by row)
      stage_passes = all_joined (IsPassOf channel) acknowledged_in row.items task_pass

      pub row_fits : (room : ℕ) → length (all_tasks job) ≤ room + sum_below s (tasks job) → length row.items ≤ room
      row_fits room enough = let fits = room_left job s room stage_low enough in let many = have.row_many s row at in omega (arith, fits, many)

    pub all_passes : All (IsPassOf channel) (flat_map acknowledged_by rows)
    all_passes = all_joined (IsPassOf channel) acknowledged_by rows stage_passes

    pub are_received : (o : Opening) (received : List Snapshot) → All (IsReceivedOf o received) (flat_map acknowledged_by rows) → AreReceived job received rows
    are_received o received all s i low inside =
        let e = have.each s i low inside in
        let st = stands_at rows s i e.0 e.1 in
        let of_row = all_apart (IsReceivedOf o received) acknowledged_by rows s st.row all st.has_row in
        let of_place = all_apart (IsReceivedOf o received) acknowledged_in st.row.items i st.place of_row st.has_place in
        let one : All (IsReceivedOf o received) (e.2.pass ∷ []) =
        All-same (IsReceivedOf o received) (e.2.pass ∷ []) (acknowledged_in st.place) (sym (acknowledged_there st.place e.0 e.2.pass st.is_left e.2.is_there)) of_place in
        let got = All-head (IsReceivedOf o received) e.2.pass [] one in
        let sent : snapshots_at rows s i ≡ sent_by e.2.pass = snapshots_are rows s i e.0 e.1 ∙ ap snapshots_in e.2.is_there in
        subst (λ (t : TaskId). IsBeginning (snapshots_of t received) (snapshots_at rows s i)) e.2.task
        (subst (λ (l : List Snapshot). IsBeginning (snapshots_of (task_of e.2.pass) received) l) (sym sent) got.beginning)

  -- ---- all rows without them

  module _ (n : ℕ) (old new : List (Items (TaskPlace S))) (up : UpTo RowWithoutSnapshots n old new) (all : length old ≤ n) where
    left_without : (s i : ℕ) (left : TaskLeft S) → left_at old s i ≡ Some left →
        left_at new s i ≡ Some (record left { snapshots = None })
    left_without s i left at =
        let st = stands_at old s i left at in
        let after = stands new s (let low = slice_get_within old s st.row st.has_row in let many = up.many in omega (arith, low, many)) in
        let w = up_to_all RowWithoutSnapshots n old new up all s st.row after.0 st.has_row after.1 in
        let place = stands after.0.items i (let low = slice_get_within st.row.items i st.place st.has_place in let many = w.many in omega (arith, low, many)) in
        let without = w.each i st.place place.0 st.has_place place.1 in
        let same : without.left ≡ left = same_Some without.left left (sym without.was ∙ st.is_left) in
        ap (λ (p : TaskPlace S). left_in p) (place_is new s i after.0 place.0 after.1 place.1) ∙ without.now ∙ ap (λ (l : TaskLeft S). Some (record l { snapshots = None })) same

    pub are_settled : AreSettled old new
    are_settled = record {
      many = up.many;
      row_many = λ s before after at then. (up_to_all RowWithoutSnapshots n old new up all s before after at then).many;
      each = λ s i left at. (record left { snapshots = None }, left_without s i left at, record { input = refl; cause = refl });
    }

    pub channels_stay : ChannelsStay old new
    channels_stay s i left at = (record left { snapshots = None }, left_without s i left at, refl, refl)
