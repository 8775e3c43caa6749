-- The definitions on a small history: two buffers, a barrier and the end are put, and the first is taken.
use Rattle.std.proofs.Common.{◌≡◌, true, List, [], ◌∷◌, refl}
use Rattle.flow_defs.specs.declared.task.BarrierKind.TheVariants.{Inline}
use Rattle.flow_defs.specs.declared.parcel.Parcel.TheVariants.{Data, Barrier, End}
use Rattle.subpartition.specs.declared.entry.SendEntry.{SendEntry}
use Rattle.subpartition.specs.declared.entry.SendEntry.TheVariants.{Put, PutInline, Finish, Take, Size}
use Rattle.subpartition.specs.Sending.{outbox, taken, put, barriers_put, is_finished, filled_to}

abbrev some_history : List SendEntry
some_history = Take ∷ Put (1 ∷ 2 ∷ []) ∷ Size 64 ∷ Put (3 ∷ []) ∷ PutInline 1 ∷ Take ∷ Finish ∷ []

pub first_is_taken : taken some_history ≡ Data (1 ∷ 2 ∷ []) ∷ []
first_is_taken = refl

pub others_are_left : (outbox some_history).items ≡ Data (3 ∷ []) ∷ Barrier 1 Inline ∷ End ∷ []
others_are_left = refl

pub bytes_put : put some_history ≡ 1 ∷ 2 ∷ 3 ∷ []
bytes_put = refl

pub barrier_put : barriers_put some_history ≡ (1, Inline) ∷ []
barrier_put = refl

pub end_put : is_finished some_history ≡ true
end_put = refl

pub size_told : filled_to 128 some_history ≡ 64
size_told = refl
