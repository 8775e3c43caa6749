-- How an item is taken out of a list and put back; this project's own choice. It serves private functions alone.
use Rattle.std.specs.Prelude.{◌≡◌, ℕ, suc, List, [], ◌∷◌, ◌++◌, length, slice_set}
use Rattle.std.specs.List.{swap}

-- The list without the item at a place, in which the last one stands. With an item put back there it is the list with that item.
pub record IsWithout {T : Type 0} (list : List T) (place : ℕ) (rest : List T) : Type 0 where
  pub many : length list ≡ suc (length rest)
  pub whole : (item : T) → swap (rest ++ item ∷ []) place (length rest) ≡ slice_set list place item
