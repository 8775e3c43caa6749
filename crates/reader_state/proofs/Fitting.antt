-- What fits of early credit, by the answers of `add_credit`.
use Rattle.std.proofs.Common.{◌≡◌, ℕ, ◌+◌, ◌-◌, ◌<◌, ◌≤◌, Bool, true, false, cond, ltb, List, Option, Some, None, refl, sym, ap, subst, ◌∙◌, arith}
use Rattle.std.specs.Prelude.{Result, Ok, Err, All, min, find}
use Rattle.std.specs.Option.{option_map_or}
use Rattle.std.proofs.lemmas.Bool.{ltb-true, ltb-false}
use Rattle.std.proofs.lemmas.Option.{slice_get_within, get_or_from_slice_get}
use Rattle.flow_defs.specs.declared.task.ChannelId.{ChannelId}
use Rattle.credit_reader.specs.declared.reader.Reader.{Reader}
use Rattle.credit_reader.specs.declared.reader.TheConstants.{CREDIT_MAX}
use Rattle.credit_reader.specs.declared.fault.CreditFault.{CreditFault}
use Rattle.credit_reader.specs.declared.fault.CreditFault.TheVariants as credit
use Rattle.credit_reader.specs.declared.fault.ResumeFault.{ResumeFault}
use Rattle.credit_reader.specs.declared.fault.ResumeFault.TheVariants as resume
use Rattle.credit_reader.specs.Readers.{KeepsRanges}
use Rattle.credit_reader.specs.Senders.{is_same, reader_of}
use Rattle.credit_reader.specs.Answers.{credit_answer, resume_answer}
use Rattle.reader_state.proofs.Channels.{found_there}

abbrev pub is_asked : Option Reader → Bool
is_asked o = option_map_or (λ r. r.requested) o false

abbrev pub credit_of : Option Reader → ℕ
credit_of o = option_map_or (λ r. r.credit) o CREDIT_MAX

abbrev Answer : Type 0
Answer = Result (Unit {0}) CreditFault

abbrev pub given : Answer
given = Ok tt

abbrev pub unknown : Answer
unknown = Err credit.UnknownChannel

abbrev pub too_much : ℕ → Answer
too_much sum = Err (credit.CreditOver sum)

-- the answer where the channel is known, by its reader's two tests
abbrev answer_by : Bool → Bool → ℕ → Answer
answer_by asked less sum = cond asked (cond less (too_much sum) given) unknown

over_by : (asked less : Bool) (sum all : ℕ) → too_much sum ≡ answer_by asked less all → (asked ≡ true) × (less ≡ true) × (sum ≡ all)
over_by true true sum all is = let same : sum ≡ all = cc in (refl, refl, same)
over_by true false sum all is = absurd (apart sum is)
  where
    apart : (sum : ℕ) → too_much sum ≡ given → ⊥
    apart sum is = cc
over_by false less sum all is = absurd (apart sum is)
  where
    apart : (sum : ℕ) → too_much sum ≡ unknown → ⊥
    apart sum is = cc

given_by : (asked less : Bool) (all : ℕ) → given ≡ answer_by asked less all → (asked ≡ true) × (less ≡ false)
given_by true true all is = absurd (apart all is)
  where
    apart : (sum : ℕ) → given ≡ too_much sum → ⊥
    apart sum is = cc
given_by true false all is = (refl, refl)
given_by false less all is = absurd (apart is)
  where
    apart : given ≡ unknown → ⊥
    apart is = cc

unknown_by : (asked less : Bool) (all : ℕ) → unknown ≡ answer_by asked less all → asked ≡ false
unknown_by true true all is = absurd (apart all is)
  where
    apart : (sum : ℕ) → unknown ≡ too_much sum → ⊥
    apart sum is = cc
unknown_by true false all is = absurd (apart is)
  where
    apart : unknown ≡ given → ⊥
    apart is = cc
unknown_by false less all is = refl

no_over : (sum : ℕ) → too_much sum ≡ unknown → ⊥
no_over sum is = cc

no_given : given ≡ unknown → ⊥
no_given is = cc

pub over : (o : Option Reader) (n sum : ℕ) → too_much sum ≡ credit_answer n o → (is_asked o ≡ true) × (sum ≡ credit_of o + n) × (CREDIT_MAX < sum)
over None n sum is = absurd (no_over sum is)
over (Some r) n sum is =
    let parts = over_by r.requested (ltb CREDIT_MAX (r.credit + n)) sum (r.credit + n) is in let less = ltb-true CREDIT_MAX (r.credit + n) parts.1 in let same = parts.2 in
    (parts.0, parts.2, omega (arith, less, same))

pub fits_all : (o : Option Reader) (n : ℕ) → given ≡ credit_answer n o → (is_asked o ≡ true) × (credit_of o + n ≤ CREDIT_MAX)
fits_all None n is = absurd (no_given is)
fits_all (Some r) n is = let parts = given_by r.requested (ltb CREDIT_MAX (r.credit + n)) (r.credit + n) is in (parts.0, ltb-false CREDIT_MAX (r.credit + n) parts.1)

pub not_asked : (o : Option Reader) (n : ℕ) → unknown ≡ credit_answer n o → is_asked o ≡ false
not_asked None n is = refl
not_asked (Some r) n is = unknown_by r.requested (ltb CREDIT_MAX (r.credit + n)) (r.credit + n) is

-- the credit of a reader is in the range
pub in_range : (c : ChannelId) (rs : List Reader) → All KeepsRanges rs → credit_of (reader_of c rs) ≤ CREDIT_MAX
in_range c rs all =
    elim (reader_of c rs) as (λ o. reader_of c rs ≡ o → credit_of o ≤ CREDIT_MAX) [
      | None ↦ λ is. omega arith
      | Some r ↦ λ is.
          let there = found_there (λ (r : Reader). r.channel) c rs r is in
          (subst KeepsRanges (get_or_from_slice_get rs there.0 r r there.1) (all there.0 r (slice_get_within rs there.0 r there.1))).credit_fits
    ] refl
