-- Lists and jobs to compute with.
use Rattle.std.proofs.Common.{List}
use Rattle.flow_defs.specs.Items.{Items}

-- a list with no room to spare
abbrev pub full : {X : Type 0} → List X → Items X
full list = record { items = list; room = 0 }
