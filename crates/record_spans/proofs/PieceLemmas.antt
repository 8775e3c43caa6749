-- Records that span bytes, one after the other.
use Rattle.std.proofs.Common.{◌≡◌, ◌≢◌, ℕ, ◌<◌, List, [], ◌∷◌, ◌++◌, length, take, drop, ◌↔◌, refl, sym, ap, ◌∙◌, subst, arith, append-nil}
use Rattle.std.proofs.lemmas.List.{take-append-drop}
use Rattle.flow_defs.specs.Records.{length_bytes, encoded, all_encoded, IsSpans}
use Rattle.record_spans.specs.declared.reader.Front.{Front}
use Rattle.record_spans.specs.declared.reader.Front.TheVariants.{Cut, TooLong, Record}
use Rattle.record_spans.specs.Fronts.{IsFront}
use Rattle.record_spans.specs.Spans.{BeginsWith}
use Rattle.record_spans.proofs.SpanLemmas.{first_span, none_spans, too_long_spans}

-- Records span the bytes.
abbrev pub AreSpanned : List ℕ → Type 0
AreSpanned bytes = (records : List (List ℕ)) × IsSpans bytes records

-- bytes that begin with a length encode it and then the rest
pub begins : (rest : List ℕ) (len : ℕ) → length_bytes len ≡ take 4 rest → rest ≡ length_bytes len ++ drop 4 rest
begins rest len is = sym (take-append-drop 4 rest) ∙ ap (λ head. head ++ drop 4 rest) (sym is)

-- where bytes begin with no record none span them
pub none_span : (rest : List ℕ) (front : Front) → 0 < length rest → IsFront rest front → ((len : ℕ) → front ≢ Record len) → AreSpanned rest → ⊥
none_span rest Cut some none never (records, is) =
    let nil = none_spans rest none records is in
    let empty : [] ≡ rest = ap all_encoded (sym nil) ∙ is.whole in
    let e = ap length empty in
    omega (arith, e, some)
none_span rest (TooLong len) some long never (records, is) = too_long_spans rest len long records [] (subst (λ bytes. IsSpans bytes records) (sym (append-nil rest)) is)
none_span rest (Record len) some is never spans = absurd (never len refl)

-- records span bytes that begin with one exactly where they span what follows it
pub one_less : (rest r more : List ℕ) → BeginsWith rest r more → AreSpanned rest ↔ AreSpanned more
one_less rest r more is = (
  (λ (records, spans).
      let later = first_span rest r more is records [] (subst (λ bytes. IsSpans bytes records) (sym (append-nil rest)) spans) in
      (later.0, subst (λ bytes. IsSpans bytes later.0) (append-nil more) later.2)),
  (λ (records, spans). (r ∷ records, record { whole = ap (λ bytes. encoded r ++ bytes) spans.whole ∙ sym is.bytes_are; short = (is.short, spans.short) })),
)
