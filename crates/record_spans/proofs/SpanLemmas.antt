-- What the front of bytes says of the records that span them.
use Rattle.std.proofs.Common.{◌≡◌, ℕ, ◌+◌, ◌≤◌, List, [], ◌∷◌, ◌++◌, length, arith, refl, sym, ap, ◌∙◌, length-append, append_assoc}
use Rattle.std.proofs.lemmas.Grind.{flat_map-append}
use Rattle.std.proofs.lemmas.List.{append-nil}
use Rattle.flow_defs.specs.Records.{length_bytes, encoded, all_encoded, IsSpans}
use Rattle.record_spans.specs.Spans.{BeginsWith, BeginsTooLong, HasNoRecord, IsFirstSpan, IsSpannedByNone, HasGiven}
use Rattle.record_spans.proofs.Lengths.{length-length_bytes, same_record, not_both}

-- no bytes are spanned by no records, but none
not_empty : (bytes coming : List ℕ) → 4 ≤ length bytes → [] ≡ bytes ++ coming → ⊥
not_empty bytes coming some none = let l : 0 ≡ length bytes + length coming = ap length none ∙ length-append bytes coming in omega arith

record_some : (bytes r more : List ℕ) → BeginsWith bytes r more → 4 ≤ length bytes
record_some bytes r more begins =
    let l : length bytes ≡ 4 + length r + length more = rw begins.bytes_are (omega (arith, length-append (encoded r) more, length-append (length_bytes (length r)) r, length-length_bytes (length r))) in omega arith

length_some : (bytes : List ℕ) (len : ℕ) → BeginsTooLong bytes len → 4 ≤ length bytes
length_some bytes len long = let l : length bytes ≡ 4 + length long.more = rw long.bytes_are (omega (arith, length-append (length_bytes len) long.more, length-length_bytes len)) in omega arith

-- the record at the front is the first that spans the bytes
pub first_span : (bytes r more : List ℕ) → BeginsWith bytes r more → IsFirstSpan bytes r more
first_span bytes r more begins [] coming spans = absurd (not_empty bytes coming (record_some bytes r more begins) spans.whole)
first_span bytes r more begins (s ∷ later) coming spans =
    let same = same_record s r (all_encoded later) (more ++ coming) spans.short.0 begins.short (spans.whole ∙ ap (λ l. l ++ coming) begins.bytes_are ∙ append_assoc (encoded r) more coming) in
    (later, ap (λ l. l ∷ later) same.0, record { whole = same.1; short = spans.short.1 })

-- where no record stands at the front none spans the bytes
pub none_spans : (bytes : List ℕ) → HasNoRecord bytes → IsSpannedByNone bytes
none_spans bytes none [] spans = refl
none_spans bytes none (r ∷ later) spans = absurd (none.no_record r (all_encoded later) (record { bytes_are = sym spans.whole; short = spans.short.0 }))

-- with a length at the front that is no record's none spans them, whatever is to come
pub too_long_spans : (bytes : List ℕ) (len : ℕ) → BeginsTooLong bytes len → (records : List (List ℕ)) (coming : List ℕ) → IsSpans (bytes ++ coming) records → ⊥
too_long_spans bytes len long [] coming spans = not_empty bytes coming (length_some bytes len long) spans.whole
too_long_spans bytes len long (r ∷ later) coming spans =
    not_both (bytes ++ coming) r (all_encoded later) len (record { bytes_are = sym spans.whole; short = spans.short.0 })
    (record { more = long.more ++ coming; bytes_are = ap (λ l. l ++ coming) long.bytes_are ∙ append_assoc (length_bytes len) long.more coming; in_range = long.in_range; above = long.above })

-- ---- the account of what was fed

pub more_fed : (fed : List ℕ) (given : List (List ℕ)) (old piece new : List ℕ) → new ≡ old ++ piece → HasGiven fed given old → HasGiven (fed ++ piece) given new
more_fed fed given old piece new new_is account = ap (λ l. l ++ piece) account ∙ append_assoc (all_encoded given) old piece ∙ ap (λ l. all_encoded given ++ l) (sym new_is)

pub more_given : (fed : List ℕ) (given : List (List ℕ)) (old r new : List ℕ) → BeginsWith old r new → HasGiven fed given old → HasGiven fed (given ++ r ∷ []) new
more_given fed given old r new begins account =
    account ∙ ap (λ l. all_encoded given ++ l) begins.bytes_are ∙ sym (append_assoc (all_encoded given) (encoded r) new)
    ∙ ap (λ l. l ++ new) (sym (flat_map-append encoded given (r ∷ []) ∙ ap (λ l. all_encoded given ++ l) (append-nil (encoded r))))
