-- Data that a channel refused as over its credit.
use Rattle.std.proofs.Common.{◌≡◌, ℕ, suc, ◌+◌, ◌≤◌, ◌%◌, ◌^◌, true, false, not, cond, eqb, eqb-true, ltb, List, [], ◌∷◌, length, Option, Some, None, refl, ◌∙◌, arith}
use Rattle.turn_cell.specs.History.{entries_of}
use Rattle.input_channel.specs.declared.arrival.Arrival.{Arrival}
use Rattle.input_channel.specs.declared.arrival.ArrivalKind.{ArrivalKind}
use Rattle.input_channel.specs.declared.arrival.ArrivalKind.TheVariants as kinds
use Rattle.input_channel.specs.declared.entry.ReceiveEntry.{ReceiveEntry}
use Rattle.input_channel.specs.declared.entry.ReceiveEntry.TheVariants.{Push, Poll, Returned, Added, Backlog, Credit, Shut, Ask, Resume, Save, Saved}
use Rattle.input_channel.specs.declared.fault.AcceptFault.{AcceptFault}
use Rattle.input_channel.specs.declared.fault.AcceptFault.TheVariants.{WrongSequence, AfterEnd, OverCredit, OverSize, WrongBarrier}
use Rattle.input_channel.specs.Answers.{kind_refused, refused}
use Rattle.input_channel.specs.Counts.{Numbers, at_opening, numbers, numbers_from, numbers_one}
use Rattle.input_channel.specs.States.{ChannelState, ChannelStandsFor}
use Rattle.job_outcome.specs.Grounds.{IsOverByOne}

-- What the refusal tells of the channel: no credit was open there, and these were its numbers.
record Told (c : ChannelState) (received announced : ℕ) : Type 0 where
  spent : c.credit ≡ 0
  received_is : received ≡ (c.received + 1) % 2 ^ 64
  announced_is : announced ≡ c.announced

no_sequence : (a b r n : ℕ) → ◌≡◌ {A = Option AcceptFault} (Some (WrongSequence a b)) (Some (OverCredit r n)) → ⊥
no_sequence a b r n e = cc

no_end : (r n : ℕ) → ◌≡◌ {A = Option AcceptFault} (Some AfterEnd) (Some (OverCredit r n)) → ⊥
no_end r n e = cc

no_size : (a b r n : ℕ) → ◌≡◌ {A = Option AcceptFault} (Some (OverSize a b)) (Some (OverCredit r n)) → ⊥
no_size a b r n e = cc

no_barrier : (a b r n : ℕ) → ◌≡◌ {A = Option AcceptFault} (Some (WrongBarrier a b)) (Some (OverCredit r n)) → ⊥
no_barrier a b r n e = cc

no_fault : (r n : ℕ) → ◌≡◌ {A = Option AcceptFault} None (Some (OverCredit r n)) → ⊥
no_fault r n e = cc

same_numbers : (a b r n : ℕ) → ◌≡◌ {A = Option AcceptFault} (Some (OverCredit a b)) (Some (OverCredit r n)) → (r ≡ a) × (n ≡ b)
same_numbers a b r n e = ((cc), (cc))

told_by_kind : (c : ChannelState) (kind : ArrivalKind) (bytes : List ℕ) (r n : ℕ) → kind_refused c kind bytes ≡ Some (OverCredit r n) → Told c r n
told_by_kind c kinds.Buffer bytes r n =
    elim (eqb c.credit 0) as (λ b. eqb c.credit 0 ≡ b → cond b (Some (OverCredit ((c.received + 1) % 2 ^ 64) c.announced)) (cond (ltb c.size (length bytes)) (Some (OverSize (length bytes) c.size)) None) ≡ Some (OverCredit r n) → Told c r n) [
      | true ↦ λ is e.
          let same = same_numbers ((c.received + 1) % 2 ^ 64) c.announced r n e in
          record { spent = eqb-true c.credit 0 is; received_is = same.0; announced_is = same.1 }
      | false ↦ λ is. elim (ltb c.size (length bytes)) as (λ b. cond b (Some (OverSize (length bytes) c.size)) None ≡ Some (OverCredit r n) → Told c r n) [
        | true ↦ λ e. absurd (no_size (length bytes) c.size r n e)
        | false ↦ λ e. absurd (no_fault r n e)
      ]
    ] refl
told_by_kind c (kinds.Barrier k kind) bytes r n =
    elim (eqb k (suc c.last)) as (λ b. cond b None (Some (WrongBarrier (suc c.last % 2 ^ 64) k)) ≡ Some (OverCredit r n) → Told c r n) [
      | true ↦ λ e. absurd (no_fault r n e)
      | false ↦ λ e. absurd (no_barrier (suc c.last % 2 ^ 64) k r n e)
    ]
told_by_kind c kinds.End bytes r n = λ e. absurd (no_fault r n e)

told : (c : ChannelState) (a : Arrival) (bytes : List ℕ) (r n : ℕ) → refused c a bytes ≡ Some (OverCredit r n) → Told c r n
told c a bytes r n =
    elim (not (eqb a.sequence c.next)) as (λ b. cond b (Some (WrongSequence c.next a.sequence)) (cond c.ended (Some AfterEnd) (kind_refused c a.what bytes)) ≡ Some (OverCredit r n) → Told c r n) [
      | true ↦ λ e. absurd (no_sequence c.next a.sequence r n e)
      | false ↦ elim c.ended as (λ b. cond b (Some AfterEnd) (kind_refused c a.what bytes) ≡ Some (OverCredit r n) → Told c r n) [
        | true ↦ λ e. absurd (no_end r n e)
        | false ↦ λ e. told_by_kind c a.what bytes r n e
      ]
    ]

-- What was announced never falls.
one_more : (n : Numbers) (e : ReceiveEntry) → n.announced ≤ (numbers_one n e).announced
one_more n (Push p backlog) = omega arith
one_more n (Poll hold gave) = omega arith
one_more n (Returned exclusive) = omega arith
one_more n Added = omega arith
one_more n (Backlog backlog) = omega arith
one_more n (Credit given) = omega arith
one_more n Shut = omega arith
one_more n Ask = omega arith
one_more n Resume = omega arith
one_more n (Save k rest) = omega arith
one_more n (Saved k) = omega arith

grows : (n : Numbers) (es : List ReceiveEntry) → n.announced ≤ (numbers_from n es).announced
grows n [] = omega arith
grows n (e ∷ es) =
    let first = one_more n e in
    let rest = grows (numbers_one n e) es in
    omega (arith, first, rest)

pub is_over_by_one : (c : ChannelState) (history : List (ℕ × ReceiveEntry)) (a : Arrival) (bytes : List ℕ) (received announced : ℕ) →
    ChannelStandsFor c history → refused c a bytes ≡ Some (OverCredit received announced) → IsOverByOne received announced
is_over_by_one c history a bytes received announced stands is =
    let t = told c a bytes received announced is in
    let keeps = stands.keeps in
    let count = (numbers (entries_of history)).announced in
    let credit = keeps.credit in
    let spent = t.spent in
    let all : (numbers (entries_of history)).received ≡ count = omega (arith, credit, spent) in
    let kept = keeps.received in
    let received_is = t.received_is in
    record {
      count = count;
      enough = grows at_opening (entries_of history);
      announced_is = t.announced_is ∙ keeps.announced;
      received_is = omega (arith, all, kept, received_is);
    }
