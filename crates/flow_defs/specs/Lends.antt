-- What a list is once a `&mut` to its items has been returned and written through.
use Rattle.std.specs.Prelude.{ℕ, List, length}
use Rattle.std.specs.List.{refill}
use Rattle.std.specs.Borrow.{Lends, Fml, RattleType, MutBor, Array, u8 as byte}
use Rattle.flow_defs.specs.Items.{Items}
use Rattle.flow_defs.specs.contracts.bytes.Bytes.{the_row as bytes_row}
use Rattle.flow_defs.specs.contracts.list_of.ListOf.{the_row}

-- the list with other items, of which there are as many
abbrev pub with_items : {T : Type 0} → Items T → List T → Items T
with_items l items = record l { items = refill (length l.items) l.items items }

module _ (T : RattleType) (l : MutBor (Items T.Denot)) where
  -- once the borrow r ends, the items of l are those that r showed last
  abbrev pub lends_items : MutBor (List T.Denot) → Fml
  lends_items r = Lends (the_row T) (Array T 0) l r (with_items l.now)

-- the same of bytes
abbrev pub lends_bytes : MutBor (Items ℕ) → MutBor (List ℕ) → Fml
lends_bytes b r = Lends bytes_row (Array byte 0) b r (with_items b.now)
