-- One channel of a list, lent for a call: the task's pass and the buffer that is being filled.
use Rattle.std.proofs.Common.{◌≡◌, ◌≢◌, inl, inr, ℕ, ◌<◌, List, [], ◌++◌, length, map, get_or, set, refl, sym, ap, subst, ◌∙◌, arith}
use Rattle.std.specs.Prelude.{slice_get, Some}
use Rattle.std.specs.List.{All, refill}
use Rattle.std.specs.Option.{option_map, option_map_or}
use Rattle.std.proofs.lemmas.List.{length-set}
use Rattle.std.proofs.lemmas.List.Elements.{All-set}
use Rattle.std.proofs.lemmas.Option.{slice_get-map, slice_get_read, slice_get_within, slice_get_cases, slice_get-get_or}
use Rattle.turn_cell.specs.Passes.{IsPassOf, mine, number}
use Rattle.subpartition.specs.declared.entry.SendEntry.{SendEntry}
use Rattle.subpartition.specs.Sending.{put}
use Rattle.conn_parts.specs.Shares.{mine_at}
use Rattle.conn_parts.proofs.Lists.{get_set, get_set_else, set_cases}
use Rattle.conn_parts.proofs.Passes.{mine_here, mine_set, mine_set_else}
use Rattle.record_writer.specs.declared.part.Part.{Part}
use Rattle.record_writer.specs.Writers.{SendCell, SendPass, AreOwnAt, place_of, bytes_in}
use Rattle.record_writer.specs.Channels.{IsTaskPass, IsPart, LaidSome, laid}
use Rattle.flow_defs.proofs.Lists.{refilled_set}

-- What is in the buffer of a place.
abbrev pub held_in : List Part → ℕ → List ℕ
held_in parts c = option_map_or (λ (bytes : List ℕ). bytes) (slice_get (map bytes_in parts) c) []

held_is : (parts : List Part) (c : ℕ) (part : Part) → slice_get parts c ≡ Some part → held_in parts c ≡ bytes_in part
held_is parts c part is = ap (λ x. option_map_or (λ (bytes : List ℕ). bytes) x []) (slice_get-map bytes_in parts c ∙ ap (option_map bytes_in) is)

held_else : (parts : List Part) (k d : ℕ) (part : Part) → d ≢ k → held_in (set parts k part) d ≡ held_in parts d
held_else parts k d part ne = ap (λ x. option_map_or (λ (bytes : List ℕ). bytes) x [])
    (slice_get-map bytes_in (set parts k part) d ∙ ap (option_map bytes_in) (get_set_else parts k d part ne) ∙ sym (slice_get-map bytes_in parts d))

-- The passes of all channels, after one of them was lent.
own_set : (cells : List SendCell) (first stride many : ℕ) (passes : List SendPass) (k : ℕ) (cell : SendCell) (pass : SendPass) →
    AreOwnAt cells first stride many passes → slice_get cells (place_of first stride k) ≡ Some cell → IsTaskPass cell pass → AreOwnAt cells first stride many (set passes k pass)
own_set cells first stride many passes k cell pass own is task = record {
  many_are = length-set passes k pass ∙ own.many_are;
  each = λ c p at. elim (set_cases passes k c pass) [
    | inl here ↦
        let same : p ≡ pass = let e : Some p ≡ Some pass = sym at ∙ here.2 in cc in
        (cell, ap (λ n. slice_get cells (place_of first stride n)) here.0 ∙ is, subst (IsPassOf cell) (sym same) task.pass_of, ap (λ (x : SendPass). number x) same ∙ task.task)
    | inr else ↦ own.each c p (sym else ∙ at)
  ];
}

module _ (passes lent : List SendPass) (parts lent_parts : List Part) (k : ℕ) (was : SendPass) (was_part : Part)
    (is : lent ≡ passes) (is_parts : lent_parts ≡ parts) (within : k < length passes) (within_parts : k < length parts)
    (is_was : was ≡ get_or lent k was) (is_was_part : was_part ≡ get_or lent_parts k was_part) where
  pub own_was : mine_at k passes ≡ mine (get_or lent k was)
  own_was = mine_here passes k was within (subst (λ l. was ≡ get_or l k was) is is_was) ∙ ap (λ (p : SendPass). mine p) is_was

  pub held_was : held_in parts k ≡ bytes_in (get_or lent_parts k was_part)
  held_was = held_is parts k was_part (slice_get_read parts (length parts) k was_part refl within_parts (subst (λ l. was_part ≡ get_or l k was_part) is_parts is_was_part)) ∙ ap bytes_in is_was_part

  pub laid_was : put (mine_at k passes) ++ held_in parts k ≡ laid (mine (get_or lent k was)) (get_or lent_parts k was_part)
  laid_was = ap (λ es. put es ++ held_in parts k) own_was ∙ ap (λ l. put (mine (get_or lent k was)) ++ l) held_was

  module _ (pass : SendPass) (part : Part) where
    abbrev pub passes_now : List SendPass
    passes_now = refill (length passes) passes (set lent k pass)

    abbrev pub parts_now : List Part
    parts_now = refill (length parts) parts (set lent_parts k part)

    pub passes_set : passes_now ≡ set passes k pass
    passes_set = refilled_set passes lent k pass is

    pub parts_set : parts_now ≡ set parts k part
    parts_set = refilled_set parts lent_parts k part is_parts

    pub own_now : mine_at k passes_now ≡ mine pass
    own_now = ap (λ (ps : List SendPass). mine_at k ps) passes_set ∙ mine_set passes k pass within

    pub held_now : held_in parts_now k ≡ bytes_in part
    held_now = ap (λ ps. held_in ps k) parts_set ∙ held_is (set parts k part) k part (get_set parts k part within_parts)

    pub laid_now : put (mine_at k passes_now) ++ held_in parts_now k ≡ laid (mine pass) part
    laid_now = ap (λ es. put es ++ held_in parts_now k) own_now ∙ ap (λ l. put (mine pass) ++ l) held_now

    pub own_else : (d : ℕ) → d ≢ k → mine_at d passes_now ≡ mine_at d passes
    own_else d ne = ap (λ (ps : List SendPass). mine_at d ps) passes_set ∙ mine_set_else passes k d pass ne

    pub held_elsewhere : (d : ℕ) → d ≢ k → held_in parts_now d ≡ held_in parts d
    held_elsewhere d ne = ap (λ ps. held_in ps d) parts_set ∙ held_else parts k d part ne

    pub parts_many : length parts_now ≡ length parts
    parts_many = ap length parts_set ∙ length-set parts k part

    pub parts_fit : (size : ℕ) → All (IsPart size) parts → IsPart size part → All (IsPart size) parts_now
    parts_fit size all one = subst (All (IsPart size)) (sym parts_set) (All-set (IsPart size) parts k part one all)

    pub own_lent : (cells : List SendCell) (first stride many : ℕ) (cell : SendCell) → AreOwnAt cells first stride many passes →
        slice_get cells (place_of first stride k) ≡ Some cell → IsTaskPass cell pass → AreOwnAt cells first stride many passes_now
    own_lent cells first stride many cell own at task = subst (AreOwnAt cells first stride many) (sym passes_set) (own_set cells first stride many passes k cell pass own at task)

-- Where the pass of a channel is there, so is its cell.
pub cell_there : (cells : List SendCell) (first stride many : ℕ) (passes : List SendPass) (k : ℕ) (cell : SendCell) → AreOwnAt cells first stride many passes → k < length passes →
    slice_get cells (place_of first stride k) ≡ Some (get_or cells (place_of first stride k) cell)
cell_there cells first stride many passes k cell own within =
    let pass = got passes k within in
    let there = own.each k pass.0 pass.1 in
    slice_get-get_or cells (place_of first stride k) cell (slice_get_within cells (place_of first stride k) there.0 there.1)
  where
    got : (passes : List SendPass) (k : ℕ) → k < length passes → (pass : SendPass) × (slice_get passes k ≡ Some pass)
    got passes k within = elim (slice_get_cases passes k).1 [
      | inl there ↦ (there.0, there.2)
      | inr past ↦ absurd (omega (arith, past.0))
    ]

-- What was laid down in part, said of other lists that are the same.
pub some_there : {bytes bytes' now now' : List ℕ} → bytes' ≡ bytes → now' ≡ now → LaidSome bytes now → LaidSome bytes' now'
some_there is is_now some = record { rest = some.rest; begins = ap (λ l. l ++ some.rest) is_now ∙ some.begins ∙ sym is }

-- What is said of the entries before and after, and of bytes, said of others that are the same.
pub said_there : (P : List SendEntry → List SendEntry → List ℕ → Type 0) (own own' mid mid' : List SendEntry) (bytes bytes' : List ℕ) → mid ≡ own → mid' ≡ own' → bytes' ≡ bytes → P own own' bytes → P mid mid' bytes'
said_there P own own' mid mid' bytes bytes' was now laid p = subst (λ es. P es mid' bytes') (sym was) (subst (λ es. P own es bytes') (sym now) (subst (P own own') (sym laid) p))
