-- How the snapshots of a source grow by one.
use Rattle.std.proofs.Common.{◌≡◌, ℕ, suc, ◌+◌, Bool, true, false, List, [], ◌∷◌, ◌++◌, length, Option, refl, ap, ◌∙◌, append_assoc, append-nil, arith}
use Rattle.std.specs.Prelude.{◌||◌}
use Rattle.std.proofs.lemmas.Grind.{flat_map-append}
use Rattle.std.proofs.lemmas.List.{length-append}
use Rattle.flow_defs.specs.declared.image.Snapshot.{Snapshot}
use Rattle.plain_machine.specs.Emitting.{count_after}
use Rattle.plain_machine.specs.Theorems.{CountedInParts}
use Rattle.task_output.specs.Outputs.{all_of}
use Rattle.snapshot_channel.specs.Snapshots.{has_ended}
use Rattle.source_task.specs.Emitting.{IsSnapshotAt, IsInterval, AreSnapshots}

pub all_more : (groups : List (List (List ℕ))) (group : List (List ℕ)) → all_of (groups ++ group ∷ []) ≡ all_of groups ++ group
all_more groups group = flat_map-append (λ (g : List (List ℕ)). g) groups (group ∷ []) ∙ ap (λ l. all_of groups ++ l) (append-nil group)

-- as many snapshots as groups
pub as_many : (a : ℕ) (every : Option ℕ) (k offset emitted : ℕ) (groups : List (List (List ℕ))) (xs : List Snapshot) → AreSnapshots a every k offset emitted groups xs → length xs ≡ length groups
as_many a every k offset emitted [] [] are = refl
as_many a every k offset emitted [] (x ∷ xs) are = absurd are
as_many a every k offset emitted (g ∷ groups) [] are = absurd are
as_many a every k offset emitted (g ∷ groups) (x ∷ xs) are = ap suc (as_many a every (suc k) (offset + length g) (count_after emitted g) groups xs are.3)

at_same : (a k k' offset offset' emitted emitted' : ℕ) (x : Snapshot) → k ≡ k' → offset ≡ offset' → emitted ≡ emitted' → IsSnapshotAt a k offset emitted x → IsSnapshotAt a k' offset' emitted' x
at_same a k k' offset offset' emitted emitted' x first second third at = record {
  task = at.task;
  number = at.number ∙ first;
  offset_is = at.offset_is ∙ second;
  emitted_is = at.emitted_is ∙ third;
  no_table = at.no_table;
  no_takes = at.no_takes;
  none_in = at.none_in;
  none_out = at.none_out;
}

pub or_second : (b c : Bool) → c ≡ true → (b || c) ≡ true
or_second true c is = refl
or_second false c is = is

pub or_first : (b c : Bool) → b ≡ true → (b || c) ≡ true
or_first true c is = refl
or_first false c is = absurd (cc)

module _ (count : CountedInParts) (a : ℕ) (every : Option ℕ) (group : List (List ℕ)) (x : Snapshot) (interval : IsInterval every (length group) x.ended) where
  pub snapshots_more : (k offset emitted : ℕ) (groups : List (List (List ℕ))) (xs : List Snapshot) → AreSnapshots a every k offset emitted groups xs
      → IsSnapshotAt a (suc (k + length groups)) (offset + length (all_of groups ++ group)) (count_after emitted (all_of groups ++ group)) x → (has_ended false xs ≡ true → group ≡ [])
      → AreSnapshots a every k offset emitted (groups ++ group ∷ []) (xs ++ x ∷ [])
  snapshots_more k offset emitted [] [] are at none = (at_same a (suc (k + 0)) (suc k) (offset + length group) (offset + length group) (count_after emitted group) (count_after emitted group) x (omega arith) refl refl at, interval, λ _. refl, tt)
  snapshots_more k offset emitted [] (y ∷ ys) are at none = absurd are
  snapshots_more k offset emitted (g ∷ groups) [] are at none = absurd are
  snapshots_more k offset emitted (g ∷ groups) (y ∷ ys) are at none = (
    are.0,
    are.1,
    λ is. all_more groups group ∙ ap (λ l. l ++ group) (are.2 is) ∙ none (or_first y.ended (has_ended false ys) is),
    snapshots_more (suc k) (offset + length g) (count_after emitted g) groups ys are.3
        (at_same a (suc (k + suc (length groups))) (suc (suc k + length groups)) (offset + length ((g ++ all_of groups) ++ group)) (offset + length g + length (all_of groups ++ group)) (count_after emitted ((g ++ all_of groups) ++ group)) (count_after (count_after emitted g) (all_of groups ++ group)) x
        (omega arith)
        (ap (λ l. offset + length l) (append_assoc g (all_of groups) group) ∙ omega (arith, length-append g (all_of groups ++ group)))
        (ap (count_after emitted) (append_assoc g (all_of groups) group) ∙ count emitted g (all_of groups ++ group))
        at)
        (λ is. none (or_second y.ended (has_ended false ys) is)),
  )

pub ended_more : (was : Bool) (xs : List Snapshot) (x : Snapshot) → x.ended ≡ true → has_ended was (xs ++ x ∷ []) ≡ true
ended_more true xs x is = refl
ended_more false [] x is = or_first x.ended false is
ended_more false (y ∷ ys) x is = or_second y.ended (has_ended false (ys ++ x ∷ [])) (ended_more false ys x is)

pub ended_same : (was : Bool) (xs : List Snapshot) (x : Snapshot) → x.ended ≡ false → has_ended was (xs ++ x ∷ []) ≡ has_ended was xs
ended_same true xs x is = refl
ended_same false [] x is = ap (λ b. b || false) is
ended_same false (y ∷ ys) x is = ap (λ b. y.ended || b) (ended_same false ys x is)
