-- One channel of a gate.
use Rattle.std.proofs.Common.{◌≡◌, inl, inr, ◌-◌, List, [], ◌∷◌, ◌++◌, length, length-append, take, refl, sym, ap, ◌∙◌, append_assoc, append-nil, arith}
use Rattle.std.proofs.lemmas.List.{take_at}
use Rattle.std.proofs.lemmas.List.Concat.{flat_map-append}
use Rattle.flow_defs.specs.declared.parcel.Parcel.{Parcel}
use Rattle.flow_defs.specs.Parcels.{data_of}
use Rattle.flow_defs.specs.Records.{encoded, all_encoded, spans}
use Rattle.flow_defs.proofs.ParcelLemmas.{data_of-append}
use Rattle.plain_machine.proofs.SpanLemmas.{spans-encoded}
use Rattle.checkpoint_laws.proofs.Lists.{short_both}
use Rattle.input_channel.specs.Inboxes.{inbox, polled_bytes}
use Rattle.channel_cut.specs.Lanes.{ReadBegins, PolledIsLeft, LineIsGiven, LinesAreTold, PartsAreRead, InLineCuts}

pub read_begins : ReadBegins
read_begins flight es none = record { is = ap (λ (ps : List Parcel). flight ++ data_of ps) none ∙ append-nil flight; short = tt }

pub polled_is_left : PolledIsLeft
polled_is_left flight es more lines left given is read = record {
  is =
      ap (λ (ps : List Parcel). flight ++ data_of ps) is ∙ ap (λ z. flight ++ z) (data_of-append (inbox es).given given)
      ∙ sym (append_assoc flight (polled_bytes es) (data_of given)) ∙ ap (λ z. z ++ data_of given) read.is ∙ append_assoc (all_encoded lines) left (data_of given);
  short = read.short;
}

pub line_is_given : LineIsGiven
line_is_given flight es lines line left short read = record {
  is =
      read.is ∙ sym (append_assoc (all_encoded lines) (encoded line) left)
      ∙ ap (λ z. z ++ left) (ap (λ z. all_encoded lines ++ z) (sym (append-nil (encoded line))) ∙ sym (flat_map-append encoded lines (line ∷ [])));
  short = short_both lines (line ∷ []) read.short (short, tt);
}

pub lines_are_told : LinesAreTold
lines_are_told flight es lines left read =
    let bytes = flight ++ polled_bytes es in
    let front = all_encoded lines in
    sym (
    ap (λ z. spans (take (length z - length left) z)) read.is
    ∙ ap spans (take_at front left (length (front ++ left) - length left) (let e : length front ≡ length (front ++ left) - length left = omega (arith, length-append front left) in e))
    ∙ spans-encoded lines read.short)

-- ---- the cut

pub in_line_cuts : InLineCuts
in_line_cuts flight es hold gave k lines left in_line read none = record {
  before = es;
  hold = hold;
  gave = gave;
  after = [];
  whole = refl;
  in_line = in_line;
  left = left;
  read = read;
  none_whole = none;
}

-- ---- the flight and the channel

pub parts_are_read : PartsAreRead
parts_are_read flight es lines left rest parts = record {
  read = record {
    is =
        ap (λ z. z ++ polled_bytes es) parts.flight_is ∙ ap (λ z. (all_encoded parts.front ++ left) ++ z) parts.polled_is
        ∙ append_assoc (all_encoded parts.front) left (all_encoded parts.more ++ rest)
        ∙ ap (λ z. all_encoded parts.front ++ z) turned
        ∙ sym (append_assoc (all_encoded parts.front) (all_encoded parts.more) (left ++ rest))
        ∙ ap (λ z. z ++ (left ++ rest)) (sym (ap all_encoded parts.lines_are ∙ flat_map-append encoded parts.front parts.more));
    short = parts.short;
  };
  is_rest = (all_encoded parts.more, parts.polled_is);
}
  where
    turned : left ++ (all_encoded parts.more ++ rest) ≡ all_encoded parts.more ++ (left ++ rest)
    turned =
        elim parts.first as (λ b. left ++ (all_encoded parts.more ++ rest) ≡ all_encoded parts.more ++ (left ++ rest)) [
          | inl none ↦ ap (λ z. z ++ (all_encoded parts.more ++ rest)) none ∙ ap (λ z. all_encoded parts.more ++ (z ++ rest)) (sym none)
          | inr none ↦ ap (λ ls. left ++ (all_encoded ls ++ rest)) none ∙ ap (λ ls. all_encoded ls ++ (left ++ rest)) (sym none)
        ]
