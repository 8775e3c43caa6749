-- The definitions on a small channel: a record in flight, one put before the first barrier and one behind it.
use Rattle.std.proofs.Common.{◌≡◌, ℕ, false, List, [], ◌∷◌, ◌++◌, refl, arith}
use Rattle.flow_defs.specs.declared.task.BarrierKind.TheVariants.{Inline}
use Rattle.flow_defs.specs.declared.parcel.Parcel.TheVariants.{Data, Barrier}
use Rattle.flow_defs.specs.Records.{all_encoded, length_bytes}
use Rattle.plain_machine.specs.Images.{AreSpans}
use Rattle.subpartition.specs.declared.entry.SendEntry.{SendEntry}
use Rattle.subpartition.specs.declared.entry.SendEntry.TheVariants.{Put, PutInline, Take}
use Rattle.input_channel.specs.declared.entry.Gave.TheVariants.{Exclusive, NoBuffer}
use Rattle.input_channel.specs.declared.entry.ReceiveEntry.{ReceiveEntry}
use Rattle.input_channel.specs.declared.entry.ReceiveEntry.TheVariants.{Push, Poll}
use Rattle.subpartition.specs.Sending.{put_before}
use Rattle.channel_cut.specs.Cuts.{CameInLine}
use Rattle.channel_cut.proofs.Cutting.{cut_of_channel}

abbrev flight : List ℕ
flight = 0 ∷ 0 ∷ 0 ∷ 1 ∷ 7 ∷ []

abbrev first_put : List ℕ
first_put = 0 ∷ 0 ∷ 0 ∷ 1 ∷ 8 ∷ []

abbrev sent : List SendEntry
sent = Put first_put ∷ PutInline 1 ∷ Take ∷ Put (0 ∷ 0 ∷ 0 ∷ 1 ∷ 9 ∷ []) ∷ Take ∷ []

abbrev received : List ReceiveEntry
received = Push (Data first_put) 1 ∷ Poll false Exclusive ∷ Push (Barrier 1 Inline) 0 ∷ Poll false NoBuffer ∷ []

pub before_the_barrier : put_before 1 sent ≡ first_put
before_the_barrier = refl

pub shown : CameInLine flight received 1 ((7 ∷ []) ∷ (8 ∷ []) ∷ [])
unfolding length_bytes
shown = record {
  before = Push (Data first_put) 1 ∷ Poll false Exclusive ∷ Push (Barrier 1 Inline) 0 ∷ [];
  hold = false;
  gave = NoBuffer;
  after = [];
  whole = refl;
  in_line = record { gives = refl; once = refl };
  left = [];
  read = record { is = refl; short = (omega arith, (omega arith, tt)) };
  none_whole = refl;
}

flight_is : AreSpans flight
unfolding length_bytes
flight_is = ((7 ∷ []) ∷ [], record { whole = refl; short = (omega arith, tt) })

put_is : AreSpans (put_before 1 sent)
unfolding length_bytes
put_is = ((8 ∷ []) ∷ [], record { whole = refl; short = (omega arith, tt) })

pub is_cut : flight ++ put_before 1 sent ≡ all_encoded ((7 ∷ []) ∷ (8 ∷ []) ∷ [])
is_cut = cut_of_channel sent received flight 1 ((7 ∷ []) ∷ (8 ∷ []) ∷ []) ([], refl) flight_is put_is shown
