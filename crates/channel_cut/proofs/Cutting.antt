-- What was put before a barrier is what was given before it.
use Rattle.std.proofs.Common.{◌≡◌, ◌||◌, ℕ, zero, suc, true, false, true≢false, cond, eqb, List, [], ◌∷◌, ◌++◌, None, Some, length, map, refl, sym, ap, ◌∙◌, append_assoc, append-nil}
use Rattle.std.specs.List.{AllByRecursion}
use Rattle.std.specs.Option.{option_map_or}
use Rattle.std.proofs.lemmas.List.Concat.{flat_map-append}
use Rattle.turn_cell.specs.History.{StartsWith}
use Rattle.flow_defs.specs.declared.parcel.Parcel.{Parcel}
use Rattle.flow_defs.specs.declared.parcel.Parcel.TheVariants.{Data, Barrier, End}
use Rattle.flow_defs.specs.declared.task.BarrierKind.TheVariants.{Inline}
use Rattle.flow_defs.specs.Parcels.{barriers_of}
use Rattle.flow_defs.proofs.ParcelLemmas.{barriers_of-append}
use Rattle.flow_defs.specs.Records.{IsShort, encoded, all_encoded, first_record, spans_within, spans}
use Rattle.plain_machine.proofs.SpanLemmas.{rest_of, spans_of}
use Rattle.checkpoint_laws.proofs.Lists.{short_both}
use Rattle.subpartition.specs.declared.entry.SendEntry.{SendEntry}
use Rattle.subpartition.specs.Sending.{outbox, taken, travelled, barriers_put, put_before, overtaken}
use Rattle.flow_defs.proofs.BarrierLemmas.{has_barrier-append, data_before-within}
use Rattle.subpartition.proofs.Travelling.{barriers_travel_in_order, barrier_splits_data, inline_overtakes_nothing}
use Rattle.input_channel.specs.declared.entry.ReceiveEntry.{ReceiveEntry}
use Rattle.input_channel.specs.declared.entry.ReceiveEntry.TheVariants.{Poll, Save}
use Rattle.input_channel.specs.Inboxes.{Waits, empty_inbox, inbox, polled_bytes, pushed, saved, waiting_before, has_save}
use Rattle.input_channel.proofs.InboxLaws.{pushed-append}
use Rattle.input_channel.proofs.DataLaws.{at_moment}
use Rattle.input_channel.proofs.SaveLaws.{saved_from-append, has_save-there, saved_stays}
use Rattle.flow_defs.specs.Barriers.{data_before, has_barrier, kind_of}
use Rattle.channel_cut.specs.Cuts.{CameInLine, InLine, WasSaved, CutsStay, CutOfChannel, SavesStay, CutAtSave}
use Rattle.channel_cut.proofs.Receiving.{in_line_came, in_line_has_all_before, kind_in_line, kind_of-append}

-- ---- what was shown stays

pub cuts_stay : CutsStay
cuts_stay flight es more (InLine k lines) came = record {
  before = came.before;
  hold = came.hold;
  gave = came.gave;
  after = came.after ++ more;
  whole = ap (λ z. z ++ more) came.whole ∙ append_assoc came.before (Poll came.hold came.gave ∷ came.after) more;
  in_line = came.in_line;
  left = came.left;
  read = came.read;
  none_whole = came.none_whole;
}

was_saved-more : (flight : List ℕ) (es more : List ReceiveEntry) (k : ℕ) (lines : List (List ℕ)) (left : List ℕ) → WasSaved flight es k lines left → WasSaved flight (es ++ more) k lines left
was_saved-more flight es more k lines left was = record {
  before = was.before;
  rest = was.rest;
  after = was.after ++ more;
  save = record { whole = ap (λ z. z ++ more) was.save.whole ∙ append_assoc was.before (Save k was.rest ∷ was.after) more; once = was.save.once; in_time = was.save.in_time };
  read = was.read;
}

pub saves_stay : SavesStay
saves_stay flight es more k lines piece is = record {
  left = is.left;
  was = was_saved-more flight es more k lines is.left is.was;
  came = ap (has_barrier k) (pushed-append es more) ∙ has_barrier-append k (pushed es) (pushed more) ∙ ap (λ b. b || has_barrier k (pushed more)) is.came;
  piece_is =
      is.piece_is
      ∙ ap (λ z. is.left ++ z) (sym (saved_stays es more k (ap (has_save k) is.was.save.whole ∙ has_save-there k is.was.before is.was.after is.was.rest) is.came));
}

-- ---- the two ends

-- all that travelled, behind what came
travelled_behind : (sent : List SendEntry) (ps : List Parcel) (begins : StartsWith (taken sent) ps) → travelled sent ≡ ps ++ (begins.0 ++ (outbox sent).items)
travelled_behind sent ps begins = ap (λ l. l ++ (outbox sent).items) begins.1 ∙ append_assoc ps begins.0 (outbox sent).items

-- once barrier k has come, the data before it are the same at both ends
same_before : (sent : List SendEntry) (ps : List Parcel) (k : ℕ) → StartsWith (taken sent) ps → has_barrier k ps ≡ true → data_before k (travelled sent) ≡ data_before k ps
same_before sent ps k begins came = ap (data_before k) (travelled_behind sent ps begins) ∙ data_before-within k ps (begins.0 ++ (outbox sent).items) came

-- and where it came in line, it overtook nothing
put_in_line : (sent : List SendEntry) (ps : List Parcel) (k : ℕ) → StartsWith (taken sent) ps → has_barrier k ps ≡ true → kind_of k (barriers_of ps) ≡ Some Inline → put_before k sent ≡ data_before k ps
put_in_line sent ps k begins came in_line =
    let more = begins.0 ++ (outbox sent).items in
    let kind : kind_of k (barriers_put sent) ≡ Some Inline =
    ap (kind_of k) (sym (barriers_travel_in_order sent) ∙ ap barriers_of (travelled_behind sent ps begins) ∙ barriers_of-append ps more) ∙ kind_of-append k Inline (barriers_of ps) (barriers_of more) in_line in
    sym (barrier_splits_data sent k) ∙ ap (λ z. data_before k (travelled sent) ++ z) (inline_overtakes_nothing sent k kind) ∙ append-nil (data_before k (travelled sent))
    ∙ same_before sent ps k begins came

all_polled : (sent : List SendEntry) (es : List ReceiveEntry) (flight : List ℕ) (k : ℕ) (lines : List (List ℕ)) →
    StartsWith (taken sent) (pushed es) → (came : CameInLine flight es k lines) → put_before k sent ≡ polled_bytes came.before
all_polled sent es flight k lines begins came =
    let before = came.before in
    let more = Poll came.hold came.gave ∷ came.after in
    let parts : pushed es ≡ pushed before ++ pushed more = ap pushed came.whole ∙ pushed-append before more in
    let arrived : has_barrier k (pushed es) ≡ true = ap (has_barrier k) parts ∙ has_barrier-append k (pushed before) (pushed more) ∙ ap (λ b. b || has_barrier k (pushed more)) (in_line_came before came.hold k came.in_line) in
    let kind : kind_of k (barriers_of (pushed es)) ≡ Some Inline =
    ap (λ ps. kind_of k (barriers_of ps)) parts ∙ ap (kind_of k) (barriers_of-append (pushed before) (pushed more))
    ∙ kind_of-append k Inline (barriers_of (pushed before)) (barriers_of (pushed more)) (kind_in_line before came.hold k came.in_line) in
    put_in_line sent (pushed es) k begins arrived kind ∙ ap (λ z. data_before k (pushed z)) came.whole ∙ sym (in_line_has_all_before before more came.hold k came.in_line)

-- ---- a barrier in line

none_spans : (most : ℕ) (bytes : List ℕ) → first_record bytes ≡ None → spans_within most bytes ≡ []
none_spans zero bytes none = refl
none_spans (suc most) bytes none = ap (λ o. option_map_or (λ found. found.0 ∷ spans_within most found.1) o []) none

none_spanned : (bytes : List ℕ) → first_record bytes ≡ None → spans bytes ≡ []
unfolding spans
none_spanned bytes none = none_spans (length bytes) bytes none

-- what is left of whole records, where no whole one is, is nothing
none_left : (all lines : List (List ℕ)) (left : List ℕ) → AllByRecursion IsShort all → AllByRecursion IsShort lines → all_encoded all ≡ all_encoded lines ++ left → first_record left ≡ None → left ≡ []
none_left all lines left short short' is none =
    let r = rest_of all lines left short short' is in
    r.bytes_are ∙ ap all_encoded (sym (spans_of left r.rest (record { whole = sym r.bytes_are; short = r.short })) ∙ none_spanned left none)

pub cut_of_channel : CutOfChannel
cut_of_channel sent es flight k lines begins held put came =
    let is : flight ++ put_before k sent ≡ all_encoded lines ++ came.left = ap (λ z. flight ++ z) (all_polled sent es flight k lines begins came) ∙ came.read.is in
    let whole : all_encoded (held.0 ++ put.0) ≡ all_encoded lines ++ came.left =
    flat_map-append encoded held.0 put.0 ∙ ap (λ z. z ++ all_encoded put.0) held.1.whole ∙ ap (λ z. flight ++ z) put.1.whole ∙ is in
    let nothing : came.left ≡ [] = none_left (held.0 ++ put.0) lines came.left (short_both held.0 put.0 held.1.short put.1.short) came.read.short whole came.none_whole in
    is ∙ ap (λ z. all_encoded lines ++ z) nothing ∙ append-nil (all_encoded lines)

-- ---- a save

pub cut_at_save : CutAtSave
cut_at_save sent es flight k lines piece begins is =
    let was = is.was in
    let before = was.before in
    let after = was.after in
    let late = waiting_before k ((inbox before).arrivals ++ map Waits (pushed after)) in
    let over = overtaken k sent in
    let saved_is : saved k es ≡ was.rest ++ late = ap (saved k) was.save.whole ∙ saved_from-append empty_inbox k before after was.rest was.save.once in
    let came : polled_bytes before ++ late ≡ data_before k (travelled sent) =
    at_moment before after k was.save.in_time
    ∙ ap (data_before k) (sym (ap pushed was.save.whole ∙ pushed-append before (Save k was.rest ∷ after)))
    ∙ sym (same_before sent (pushed es) k begins is.came) in
    let piece_is : (is.left ++ was.rest) ++ late ≡ piece = append_assoc is.left was.rest late ∙ ap (λ z. is.left ++ z) (sym saved_is) ∙ sym is.piece_is in
    ap (λ z. flight ++ z) (sym (barrier_splits_data sent k) ∙ ap (λ z. z ++ over) (sym came))
    ∙ sym (append_assoc flight (polled_bytes before ++ late) over)
    ∙ ap (λ z. z ++ over) (
    sym (append_assoc flight (polled_bytes before) late) ∙ ap (λ z. z ++ late) was.read.is
    ∙ append_assoc (all_encoded lines) (is.left ++ was.rest) late
    ∙ ap (λ z. all_encoded lines ++ z) piece_is)
    ∙ append_assoc (all_encoded lines) piece over
