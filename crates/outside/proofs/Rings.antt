-- What one more turn makes of a link in memory, and what its two ends tell together.
use Rattle.std.proofs.Common.{◌≡◌, ◌<◌, ◌≤◌, ℕ, zero, suc, Bool, true, false, List, [], ◌∷◌, ◌++◌, Some, length, take, drop, refl, sym, ap, ◌∙◌, subst, append_assoc, append-nil, arith, take-append-drop}
use Rattle.std.specs.Prelude.{min}
use Rattle.std.proofs.lemmas.List.{take-append-le, length-take-le, nil_from_length}
use Rattle.std.proofs.Math.Nat.{min-le_right}
use Rattle.std.proofs.lemmas.Option.{same_Some}
use Rattle.turn_cell.specs.declared.pass.Pass.{Pass}
use Rattle.turn_cell.specs.Passes.{IsPassOf, mine, number, seen}
use Rattle.outside.specs.MemoryLinks.{LinkCell}
use Rattle.turn_cell.specs.History.{by, StartsWith}
use Rattle.turn_cell.proofs.Lists.{by-append}
use Rattle.outside.specs.declared.ring.LinkEntry.{LinkEntry}
use Rattle.outside.specs.declared.ring.LinkEntry.TheVariants.{Wrote, Read, Finished}
use Rattle.outside.specs.declared.ring.Ring.{Ring}
use Rattle.outside.specs.Links.{HasMet}
use Rattle.outside.specs.Rings.{bytes_written, bytes_read, has_finished, EndsThere, Carries, IsFront, IsAll}

pub written-append : (xs ys : List LinkEntry) → bytes_written (xs ++ ys) ≡ bytes_written xs ++ bytes_written ys
written-append [] ys = refl
written-append (Wrote bytes ∷ xs) ys = ap (λ l. bytes ++ l) (written-append xs ys) ∙ sym (append_assoc bytes (bytes_written xs) (bytes_written ys))
written-append (Read bytes ∷ xs) ys = written-append xs ys
written-append (Finished ∷ xs) ys = written-append xs ys

pub read-append : (xs ys : List LinkEntry) → bytes_read (xs ++ ys) ≡ bytes_read xs ++ bytes_read ys
read-append [] ys = refl
read-append (Wrote bytes ∷ xs) ys = read-append xs ys
read-append (Read bytes ∷ xs) ys = ap (λ l. bytes ++ l) (read-append xs ys) ∙ sym (append_assoc bytes (bytes_read xs) (bytes_read ys))
read-append (Finished ∷ xs) ys = read-append xs ys

pub finished_wrote : (xs : List LinkEntry) (bytes : List ℕ) → has_finished (xs ++ Wrote bytes ∷ []) ≡ has_finished xs
finished_wrote [] bytes = refl
finished_wrote (Wrote more ∷ xs) bytes = finished_wrote xs bytes
finished_wrote (Read more ∷ xs) bytes = finished_wrote xs bytes
finished_wrote (Finished ∷ xs) bytes = refl

pub finished_at_end : (xs : List LinkEntry) → has_finished (xs ++ Finished ∷ []) ≡ true
finished_at_end [] = refl
finished_at_end (Wrote more ∷ xs) = finished_at_end xs
finished_at_end (Read more ∷ xs) = finished_at_end xs
finished_at_end (Finished ∷ xs) = refl

ends_wrote : (xs : List LinkEntry) (bytes : List ℕ) → has_finished xs ≡ false → EndsThere xs → EndsThere (xs ++ Wrote bytes ∷ [])
ends_wrote [] bytes unfinished ends = tt
ends_wrote (Wrote more ∷ xs) bytes unfinished ends = ends_wrote xs bytes unfinished ends
ends_wrote (Read more ∷ xs) bytes unfinished ends = ends_wrote xs bytes unfinished ends
ends_wrote (Finished ∷ xs) bytes unfinished ends = absurd (cc)

ends_finished : (xs : List LinkEntry) → EndsThere xs → EndsThere (xs ++ Finished ∷ [])
ends_finished [] ends = refl
ends_finished (Wrote more ∷ xs) ends = ends_finished xs ends
ends_finished (Read more ∷ xs) ends = ends_finished xs ends
ends_finished (Finished ∷ xs) ends = written-append xs (Finished ∷ []) ∙ append-nil (bytes_written xs) ∙ ends

-- the entries of the pass that wrote, and of the one that read
pub wrote : (old new : Ring) (bytes : List ℕ) (history : List (ℕ × LinkEntry)) → new.bytes ≡ old.bytes ++ bytes → new.finished ≡ old.finished →
    Carries old history → Carries new (history ++ (0, Wrote bytes) ∷ [])
wrote old new bytes history items finished c =
    let more = (0, Wrote bytes) ∷ [] in
    let own : by 0 (history ++ more) ≡ by 0 history ++ Wrote bytes ∷ [] = by-append 0 history more in
    let other : by 1 (history ++ more) ≡ by 1 history = by-append 1 history more ∙ append-nil (by 1 history) in
    record {
      carried = ap bytes_written own ∙ written-append (by 0 history) (Wrote bytes ∷ [])
          ∙ ap (λ l. l ++ (bytes ++ [])) c.carried ∙ ap (λ l. (bytes_read (by 1 history) ++ old.bytes) ++ l) (append-nil bytes)
          ∙ append_assoc (bytes_read (by 1 history)) old.bytes bytes
          ∙ ap (λ l. bytes_read (by 1 history) ++ l) (sym items)
          ∙ ap (λ es. bytes_read es ++ new.bytes) (sym other);
      finished = finished ∙ c.finished ∙ sym (ap has_finished own ∙ finished_wrote (by 0 history) bytes);
    }

pub was_read : (old new : Ring) (bytes : List ℕ) (history : List (ℕ × LinkEntry)) → old.bytes ≡ bytes ++ new.bytes → new.finished ≡ old.finished →
    Carries old history → Carries new (history ++ (1, Read bytes) ∷ [])
was_read old new bytes history items finished c =
    let more = (1, Read bytes) ∷ [] in
    let own : by 1 (history ++ more) ≡ by 1 history ++ Read bytes ∷ [] = by-append 1 history more in
    let other : by 0 (history ++ more) ≡ by 0 history = by-append 0 history more ∙ append-nil (by 0 history) in
    let read : bytes_read (by 1 (history ++ more)) ≡ bytes_read (by 1 history) ++ bytes =
    ap bytes_read own ∙ read-append (by 1 history) (Read bytes ∷ []) ∙ ap (λ l. bytes_read (by 1 history) ++ l) (append-nil bytes) in
    record {
      carried = ap bytes_written other ∙ c.carried ∙ ap (λ l. bytes_read (by 1 history) ++ l) items
          ∙ sym (append_assoc (bytes_read (by 1 history)) bytes new.bytes)
          ∙ ap (λ l. l ++ new.bytes) (sym read);
      finished = finished ∙ c.finished ∙ ap has_finished (sym other);
    }

pub has_ended : (old new : Ring) (history : List (ℕ × LinkEntry)) → new.bytes ≡ old.bytes → new.finished ≡ true →
    Carries old history → Carries new (history ++ (0, Finished) ∷ [])
has_ended old new history bytes finished c =
    let more = (0, Finished) ∷ [] in
    let own : by 0 (history ++ more) ≡ by 0 history ++ Finished ∷ [] = by-append 0 history more in
    let other : by 1 (history ++ more) ≡ by 1 history = by-append 1 history more ∙ append-nil (by 1 history) in
    record {
      carried = ap bytes_written own ∙ written-append (by 0 history) (Finished ∷ []) ∙ append-nil (bytes_written (by 0 history)) ∙ c.carried
          ∙ ap (λ b. bytes_read (by 1 history) ++ b) (sym bytes)
          ∙ ap (λ es. bytes_read es ++ new.bytes) (sym other);
      finished = finished ∙ sym (ap has_finished own ∙ finished_at_end (by 0 history));
    }

-- the front of a room that bytes were moved into
pub taken_front : (n : ℕ) (room items new : List ℕ) → n ≡ min (length room) (length items) → new ≡ take n items ++ drop n room → take n new ≡ take n items
taken_front n room items new is moved =
    let within : n ≤ length (take n items) = subst (λ k. n ≤ k) (sym (length-take-le n items (subst (λ k. k ≤ length items) (sym is) (min-le_right (length room) (length items))))) (omega arith) in
    ap (take n) moved ∙ take-append-le n (take n items) (drop n room) within ∙ sym (take-append-le n (take n items) (drop n items) within) ∙ ap (take n) (take-append-drop n items)

-- a history that is longer than another goes on after it
by_on : (k : ℕ) (before now : List (ℕ × LinkEntry)) (longer : StartsWith now before) → by k now ≡ by k before ++ by k longer.0
by_on k before now longer = ap (by k) longer.1 ∙ by-append k before longer.0

pub front_of : (ring : Ring) (history : List (ℕ × LinkEntry)) → Carries ring history → IsFront history
front_of ring history c = (ring.bytes, c.carried)

pub all_of : (ring : Ring) (history : List (ℕ × LinkEntry)) → Carries ring history → length ring.bytes ≡ 0 → ring.finished ≡ true → IsAll history
all_of ring history c none is = (
  sym (c.carried ∙ ap (λ l. bytes_read (by 1 history) ++ l) (nil_from_length ring.bytes none) ∙ append-nil (bytes_read (by 1 history))),
  sym c.finished ∙ is,
)

-- what one more entry of an end makes of its own
module _ (before now : List LinkEntry) where
  pub sent_more : (bytes : List ℕ) → now ≡ before ++ Wrote bytes ∷ [] → bytes_written now ≡ bytes_written before ++ bytes
  sent_more bytes is = ap bytes_written is ∙ written-append before (Wrote bytes ∷ []) ∙ ap (λ l. bytes_written before ++ l) (append-nil bytes)

  pub finished_still : (bytes : List ℕ) → now ≡ before ++ Wrote bytes ∷ [] → has_finished now ≡ has_finished before
  finished_still bytes is = ap has_finished is ∙ finished_wrote before bytes

  pub ends_still : (bytes : List ℕ) → now ≡ before ++ Wrote bytes ∷ [] → has_finished before ≡ false → EndsThere before → EndsThere now
  ends_still bytes is unfinished ends = subst EndsThere (sym is) (ends_wrote before bytes unfinished ends)

  pub sent_same : now ≡ before ++ Finished ∷ [] → bytes_written now ≡ bytes_written before
  sent_same is = ap bytes_written is ∙ written-append before (Finished ∷ []) ∙ append-nil (bytes_written before)

  pub finished_now : now ≡ before ++ Finished ∷ [] → has_finished now ≡ true
  finished_now is = ap has_finished is ∙ finished_at_end before

  pub ends_now : now ≡ before ++ Finished ∷ [] → EndsThere before → EndsThere now
  ends_now is ends = subst EndsThere (sym is) (ends_finished before ends)

  pub got_more : (bytes : List ℕ) → now ≡ before ++ Read bytes ∷ [] → bytes_read now ≡ bytes_read before ++ bytes
  got_more bytes is = ap bytes_read is ∙ read-append before (Read bytes ∷ []) ∙ ap (λ l. bytes_read before ++ l) (append-nil bytes)

  pub got_told : {All : Type 0} (n : ℕ) (room : List ℕ) → (0 < n → now ≡ before ++ Read (take n room) ∷ []) → (n ≡ 0 → All × (now ≡ before)) → bytes_read now ≡ bytes_read before ++ take n room
  got_told zero room read end = ap bytes_read (end refl).1 ∙ sym (append-nil (bytes_read before))
  got_told (suc n) room read end = got_more (take (suc n) room) (read (omega arith))

none_behind : (xs ys : List ℕ) → xs ++ ys ≡ [] → ys ≡ []
none_behind [] ys is = is
none_behind (x ∷ xs) ys is = absurd (cc)

nothing_more : (xs ys : List LinkEntry) → has_finished xs ≡ true → EndsThere (xs ++ ys) → bytes_written ys ≡ []
nothing_more [] ys is ends = absurd (cc)
nothing_more (Wrote bytes ∷ xs) ys is ends = nothing_more xs ys is ends
nothing_more (Read bytes ∷ xs) ys is ends = nothing_more xs ys is ends
nothing_more (Finished ∷ xs) ys is ends = none_behind (bytes_written xs) (bytes_written ys) (sym (written-append xs ys) ∙ ends)

finished_on : (xs ys : List LinkEntry) → has_finished xs ≡ true → has_finished (xs ++ ys) ≡ true
finished_on [] ys is = absurd (cc)
finished_on (Wrote bytes ∷ xs) ys is = finished_on xs ys is
finished_on (Read bytes ∷ xs) ys is = finished_on xs ys is
finished_on (Finished ∷ xs) ys is = refl

-- a later history, of which pass 1 had seen all its own entries
module _ (before now : List (ℕ × LinkEntry)) (longer : StartsWith now before) (own : by 1 now ≡ by 1 before) where
  written_on : bytes_written (by 0 now) ≡ bytes_written (by 0 before) ++ bytes_written (by 0 longer.0)
  written_on = ap bytes_written (by_on 0 before now longer) ∙ written-append (by 0 before) (by 0 longer.0)

  front_still : IsFront before → IsFront now
  front_still front = (
    front.0 ++ bytes_written (by 0 longer.0),
    written_on ∙ ap (λ l. l ++ bytes_written (by 0 longer.0)) front.1 ∙ append_assoc (bytes_read (by 1 before)) front.0 (bytes_written (by 0 longer.0))
        ∙ ap (λ es. bytes_read es ++ (front.0 ++ bytes_written (by 0 longer.0))) (sym own),
  )

  all_still : EndsThere (by 0 now) → IsAll before → IsAll now
  all_still ends all =
      let on = (by_on 0 before now longer) in
      let none = nothing_more (by 0 before) (by 0 longer.0) all.1 (subst EndsThere on ends) in (
        ap bytes_read own ∙ all.0 ∙ sym (written_on ∙ ap (λ l. bytes_written (by 0 before) ++ l) none ∙ append-nil (bytes_written (by 0 before))),
        ap has_finished on ∙ finished_on (by 0 before) (by 0 longer.0) all.1,
      )

-- what a pass of a number has made
pub own_of : (cell : LinkCell) (pass : Pass Ring LinkEntry (Unit {0})) (n : ℕ) → IsPassOf cell pass → number pass ≡ n → by n (seen pass) ≡ mine pass
own_of cell pass n of is = ap (λ k. by k (seen pass)) (sym is) ∙ of.0.5

-- what the end that reads keeps, once it has seen a longer history: that one's entries of pass 0 are the other end's
pub keeps_front : (before now : List (ℕ × LinkEntry)) (own : List LinkEntry) (ended : Bool) → StartsWith now before → by 0 now ≡ own → by 1 now ≡ by 1 before → EndsThere own →
    IsFront before × (ended ≡ true → IsAll before) → IsFront now × (ended ≡ true → IsAll now)
keeps_front before now own ended longer is_own is_other ends kept =
    (front_still before now longer is_other kept.0, λ e. all_still before now longer is_other (subst EndsThere (sym is_own) ends) (kept.1 e))

-- what both ends of a link tell together, once they have seen one history
pub met : (history : List (ℕ × LinkEntry)) (own other : List LinkEntry) (ended : Bool) → by 0 history ≡ own → by 1 history ≡ other →
    IsFront history × (ended ≡ true → IsAll history) → HasMet (Some (bytes_written own)) (Some (has_finished own)) (Some (bytes_read other)) (Some ended)
met history own other ended is_own is_other kept = record {
  begins = (kept.0.0, ap bytes_written (sym is_own) ∙ kept.0.1 ∙ ap (λ es. bytes_read es ++ kept.0.0) is_other);
  whole = λ e. ap bytes_read (sym is_other) ∙ (kept.1 (same_Some ended true e)).0 ∙ ap bytes_written is_own;
  was_finished = λ e. ap has_finished (sym is_own) ∙ (kept.1 (same_Some ended true e)).1;
}
