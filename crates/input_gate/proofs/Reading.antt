-- What a gate has given of a channel, and what is left there, as it polls.
use Rattle.std.proofs.Common.{true, cond, ◌≡◌, ℕ, ◌-◌, ◌<◌, ◌≤◌, ◌^◌, List, [], ◌∷◌, ◌++◌, length, take, drop, Some, None, refl, sym, ap, subst, ◌∙◌, arith, append_assoc}
use Rattle.std.specs.Prelude.{◌||◌, nat_lt}
use Rattle.std.specs.Int.{w32, from_be_bytes}
use Rattle.std.proofs.lemmas.Nat.{from_be_bytes-to_be_bytes_4}
use Rattle.std.proofs.lemmas.Bool.{cond-true}
use Rattle.std.proofs.lemmas.List.{length-take-le, length-drop, take-append-drop}
use Rattle.turn_cell.specs.History.{StartsWith, entries_of}
use Rattle.turn_cell.specs.Passes.{seen}
use Rattle.turn_cell.proofs.Histories.{entries_of-append}
use Rattle.flow_defs.proofs.ParcelLemmas.{end_stays}
use Rattle.flow_defs.specs.declared.TheConstants.{RECORD_MAX}
use Rattle.flow_defs.specs.Records.{length_bytes, first_record}
use Rattle.flow_defs.specs.declared.parcel.Parcel.{Parcel}
use Rattle.flow_defs.specs.declared.parcel.Parcel.TheVariants.{Data, Barrier, End}
use Rattle.flow_defs.specs.declared.task.BarrierKind.TheVariants.{Inline, Front}
use Rattle.flow_defs.specs.Parcels.{barriers_of, data_of, has_end}
use Rattle.record_spans.specs.Spans.{BeginsWith, BeginsTooLong}
use Rattle.input_channel.specs.declared.entry.ReceiveEntry.{ReceiveEntry}
use Rattle.input_channel.specs.Inboxes.{inbox}
use Rattle.input_channel.specs.Legal.{inline_in}
use Rattle.channel_cut.specs.Cuts.{IsRead}
use Rattle.channel_cut.specs.Lanes.{lines_told}
use Rattle.channel_cut.proofs.Reading.{polled_is_left, lines_are_told}
use Rattle.gate_account.specs.Accounts.{inlines}
use Rattle.input_gate.specs.Turning.{InputPass, given_to}

-- ---- what is left

-- What was polled since then is left too.
pub read_polled : (p q : InputPass) (ps : List Parcel) (lines : List (List ℕ)) (left : List ℕ) → StartsWith (seen q) (seen p) → given_to q ≡ given_to p ++ ps →
    IsRead [] (entries_of (seen p)) lines left → IsRead [] (entries_of (seen q)) lines (left ++ data_of ps)
read_polled p q ps lines left later given read =
    let is : entries_of (seen q) ≡ entries_of (seen p) ++ entries_of later.0 = ap entries_of later.1 ∙ entries_of-append (seen p) later.0 in
    subst (λ (es : List ReceiveEntry). IsRead [] es lines (left ++ data_of ps)) (sym is)
    (polled_is_left [] (entries_of (seen p)) (entries_of later.0) lines left ps (sym (ap (λ (es : List ReceiveEntry). (inbox es).given) is) ∙ given) read)

-- The lines are told by what is left.
pub read_told : (es : List ReceiveEntry) (lines : List (List ℕ)) (left : List ℕ) → IsRead [] es lines left → IsRead [] es (lines_told [] es left) left
read_told es lines left read = subst (λ (ls : List (List ℕ)). IsRead [] es ls left) (lines_are_told [] es lines left read) read

pub told_still : (es : List ReceiveEntry) (lines : List (List ℕ)) (left : List ℕ) → IsRead [] es lines left → lines_told [] es left ≡ lines
told_still es lines left read = sym (lines_are_told [] es lines left read)

-- As many inline barriers are among the parcels as among their barriers.
pub inlines_of : (ps : List Parcel) → inlines (barriers_of ps) ≡ inline_in ps
inlines_of [] = refl
inlines_of (Data bytes ∷ ps) = inlines_of ps
inlines_of (Barrier k Inline ∷ ps) = let rest = inlines_of ps in omega (arith, rest)
inlines_of (Barrier k Front ∷ ps) = let rest = inlines_of ps in omega (arith, rest)
inlines_of (End ∷ ps) = inlines_of ps

-- ---- bytes that hold no whole record

pub none_of_few : (bytes : List ℕ) → length bytes < 4 → first_record bytes ≡ None
none_of_few bytes few =
    let len = from_be_bytes w32 (take 4 bytes) in let behind = drop 4 bytes in
    cond-true (nat_lt (length bytes) 4 || nat_lt RECORD_MAX len || nat_lt (length behind) len) None (Some (take len behind, drop len behind)) (grind (arith, few))

read_length : (bytes : List ℕ) (len : ℕ) → len < 2 ^ 32 → length_bytes len ≡ take 4 bytes → from_be_bytes w32 (take 4 bytes) ≡ len
unfolding length_bytes
read_length bytes len fits front = ap (from_be_bytes w32) (sym front) ∙ from_be_bytes-to_be_bytes_4 len fits

pub none_of_cut : (bytes : List ℕ) (len : ℕ) → len < 2 ^ 32 → length_bytes len ≡ take 4 bytes → length bytes - 4 < len → first_record bytes ≡ None
none_of_cut bytes len fits front cut =
    let behind = drop 4 bytes in
    ap (λ (k : ℕ). cond (nat_lt (length bytes) 4 || nat_lt RECORD_MAX k || nat_lt (length behind) k) None (Some (take k behind, drop k behind))) (read_length bytes len fits front)
    ∙ cond-true (nat_lt (length bytes) 4 || nat_lt RECORD_MAX len || nat_lt (length behind) len) None (Some (take len behind, drop len behind))
    (let short : length behind < len = omega (arith, cut, length-drop 4 bytes) in grind (arith, short))

pub begins_too_long : (bytes : List ℕ) (len : ℕ) → len < 2 ^ 32 → RECORD_MAX < len → length_bytes len ≡ take 4 bytes → BeginsTooLong bytes len
begins_too_long bytes len fits long front = record {
  more = drop 4 bytes;
  bytes_are = sym (take-append-drop 4 bytes) ∙ ap (λ l. l ++ drop 4 bytes) (sym front);
  in_range = fits;
  above = long;
}

pub begins_with : (bytes : List ℕ) (len : ℕ) → len ≤ RECORD_MAX → len ≤ length bytes - 4 → length_bytes len ≡ take 4 bytes → BeginsWith bytes (take len (drop 4 bytes)) (drop len (drop 4 bytes))
begins_with bytes len short within front =
    let behind = drop 4 bytes in
    let l : length (take len behind) ≡ len = length-take-le len behind (omega (arith, within, length-drop 4 bytes)) in
    record {
      bytes_are = sym (take-append-drop 4 bytes) ∙ ap (λ l. l ++ behind) (sym front ∙ ap length_bytes (sym l)) ∙ ap (λ z. length_bytes (length (take len behind)) ++ z) (sym (take-append-drop len behind))
          ∙ sym (append_assoc (length_bytes (length (take len behind))) (take len behind) (drop len behind));
      short = omega (arith, l, short);
    }

-- ---- the end

has_end-end : (ps : List Parcel) → has_end (ps ++ End ∷ []) ≡ true
has_end-end [] = refl
has_end-end (Data b ∷ ps) = has_end-end ps
has_end-end (Barrier k kind ∷ ps) = has_end-end ps
has_end-end (End ∷ ps) = refl

pub ends_at : (ps ps' : List Parcel) → ps' ≡ ps ++ End ∷ [] → has_end ps' ≡ true
ends_at ps ps' e = ap has_end e ∙ has_end-end ps

pub ends_still : (ps ps' qs : List Parcel) → ps' ≡ ps ++ qs → has_end ps ≡ true → has_end ps' ≡ true
ends_still ps ps' qs e h = ap has_end e ∙ end_stays ps qs h
