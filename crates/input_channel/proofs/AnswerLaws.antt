-- What refusals and answers tell.
use Rattle.std.proofs.Common.{◌≡◌, ℕ, suc, ◌+◌, ◌<◌, ◌%◌, ◌^◌, Bool, true, false, not, cond, eqb, eqb-true, ltb, inl, inr, List, [], ◌∷◌, length, Option, Some, None, refl, sym, ap, ◌∙◌, arith}
use Rattle.input_channel.specs.declared.arrival.Arrival.{Arrival}
use Rattle.input_channel.specs.declared.arrival.ArrivalKind.{ArrivalKind}
use Rattle.input_channel.specs.declared.arrival.ArrivalKind.TheVariants as kinds
use Rattle.input_channel.specs.declared.fault.AcceptFault.{AcceptFault}
use Rattle.input_channel.specs.declared.fault.AcceptFault.TheVariants.{WrongSequence, AfterEnd, OverCredit, OverSize, WrongBarrier, Memory}
use Rattle.input_channel.specs.States.{ChannelState}
use Rattle.input_channel.specs.Answers.{kind_refused, refused}
use Rattle.input_channel.specs.Theorems.{OverCreditIsSpent, AcceptedIsAllowed, PolledIsAllowed, AnswerIsGiven}
use Rattle.std.proofs.lemmas.Bool.{eqb-false}
use Rattle.std.specs.Prelude.{◌&&◌}
use Rattle.flow_defs.specs.declared.parcel.Parcel.TheVariants as parcels
use Rattle.input_channel.specs.declared.polled.Polled.{Polled}
use Rattle.input_channel.specs.declared.polled.Polled.TheVariants as answers
use Rattle.input_channel.specs.declared.entry.Gave.TheVariants.{Exclusive, Floating}
use Rattle.input_channel.specs.Contents.{content}
use Rattle.input_channel.specs.Inboxes.{poll_gives}
use Rattle.input_channel.specs.Counts.{gave_by}
use Rattle.input_channel.specs.States.{AllowsPush}
use Rattle.input_channel.specs.Answers.{parcel_in, gave_of, given_by, IsAnswer}
use Rattle.input_channel.proofs.PollLemmas.{gives_due, holds_back}

no_sequence : (a b r n : ℕ) → ◌≡◌ {A = Option AcceptFault} (Some (WrongSequence a b)) (Some (OverCredit r n)) → ⊥
no_sequence a b r n e = cc

no_end : (r n : ℕ) → ◌≡◌ {A = Option AcceptFault} (Some AfterEnd) (Some (OverCredit r n)) → ⊥
no_end r n e = cc

no_size : (a b r n : ℕ) → ◌≡◌ {A = Option AcceptFault} (Some (OverSize a b)) (Some (OverCredit r n)) → ⊥
no_size a b r n e = cc

no_barrier : (a b r n : ℕ) → ◌≡◌ {A = Option AcceptFault} (Some (WrongBarrier a b)) (Some (OverCredit r n)) → ⊥
no_barrier a b r n e = cc

no_fault : (r n : ℕ) → ◌≡◌ {A = Option AcceptFault} None (Some (OverCredit r n)) → ⊥
no_fault r n e = cc

no_memory : (r n : ℕ) → ◌≡◌ {A = AcceptFault} (OverCredit r n) Memory → ⊥
no_memory r n e = cc

spent_by_kind : (c : ChannelState) (kind : ArrivalKind) (bytes : List ℕ) (r n : ℕ) → kind_refused c kind bytes ≡ Some (OverCredit r n) → c.credit ≡ 0
spent_by_kind c kinds.Buffer bytes r n =
    elim (eqb c.credit 0) as (λ b. eqb c.credit 0 ≡ b → cond b (Some (OverCredit ((c.received + 1) % 2 ^ 64) c.announced)) (cond (ltb c.size (length bytes)) (Some (OverSize (length bytes) c.size)) None) ≡ Some (OverCredit r n) → c.credit ≡ 0) [
      | true ↦ λ is e. eqb-true c.credit 0 is
      | false ↦ λ is. elim (ltb c.size (length bytes)) as (λ b. cond b (Some (OverSize (length bytes) c.size)) None ≡ Some (OverCredit r n) → c.credit ≡ 0) [
        | true ↦ λ e. absurd (no_size (length bytes) c.size r n e)
        | false ↦ λ e. absurd (no_fault r n e)
      ]
    ] refl
spent_by_kind c (kinds.Barrier k kind) bytes r n =
    elim (eqb k (suc c.last)) as (λ b. cond b None (Some (WrongBarrier (suc c.last % 2 ^ 64) k)) ≡ Some (OverCredit r n) → c.credit ≡ 0) [
      | true ↦ λ e. absurd (no_fault r n e)
      | false ↦ λ e. absurd (no_barrier (suc c.last % 2 ^ 64) k r n e)
    ]
spent_by_kind c kinds.End bytes r n = λ e. absurd (no_fault r n e)

spent : (c : ChannelState) (a : Arrival) (bytes : List ℕ) (r n : ℕ) → refused c a bytes ≡ Some (OverCredit r n) → c.credit ≡ 0
spent c a bytes r n =
    elim (not (eqb a.sequence c.next)) as (λ b. cond b (Some (WrongSequence c.next a.sequence)) (cond c.ended (Some AfterEnd) (kind_refused c a.what bytes)) ≡ Some (OverCredit r n) → c.credit ≡ 0) [
      | true ↦ λ e. absurd (no_sequence c.next a.sequence r n e)
      | false ↦ elim c.ended as (λ b. cond b (Some AfterEnd) (kind_refused c a.what bytes) ≡ Some (OverCredit r n) → c.credit ≡ 0) [
        | true ↦ λ e. absurd (no_end r n e)
        | false ↦ λ e. spent_by_kind c a.what bytes r n e
      ]
    ]

pub over_credit_is_spent : OverCreditIsSpent
over_credit_is_spent c a bytes r n (inl e) = spent c a bytes r n e
over_credit_is_spent c a bytes r n (inr e) = absurd (no_memory r n e.1)

-- ---- what is accepted

no_answer : (f : AcceptFault) → ◌≡◌ {A = Option AcceptFault} (Some f) None → ⊥
no_answer f e = cc

accepted_by_kind : (c : ChannelState) (kind : ArrivalKind) (bytes : List ℕ) → kind_refused c kind bytes ≡ None → AllowsPush c (parcel_in kind bytes)
accepted_by_kind c kinds.Buffer bytes =
    elim (eqb c.credit 0) as (λ b. eqb c.credit 0 ≡ b → cond b (Some (OverCredit ((c.received + 1) % 2 ^ 64) c.announced)) (cond (ltb c.size (length bytes)) (Some (OverSize (length bytes) c.size)) None) ≡ None → 0 < c.credit) [
      | true ↦ λ is e. absurd (no_answer (OverCredit ((c.received + 1) % 2 ^ 64) c.announced) e)
      | false ↦ λ is e. let apart = eqb-false c.credit 0 is in grind (arith, apart)
    ] refl
accepted_by_kind c (kinds.Barrier k kind) bytes =
    elim (eqb k (suc c.last)) as (λ b. eqb k (suc c.last) ≡ b → cond b None (Some (WrongBarrier (suc c.last % 2 ^ 64) k)) ≡ None → k ≡ suc c.last) [
      | true ↦ λ is e. eqb-true k (suc c.last) is
      | false ↦ λ is e. absurd (no_answer (WrongBarrier (suc c.last % 2 ^ 64) k) e)
    ] refl
accepted_by_kind c kinds.End bytes = λ e. tt

pub accepted_is_allowed : AcceptedIsAllowed
accepted_is_allowed c es a bytes =
    elim (not (eqb a.sequence c.next)) as (λ b. cond b (Some (WrongSequence c.next a.sequence)) (cond c.ended (Some AfterEnd) (kind_refused c a.what bytes)) ≡ None → (c.ended ≡ false) × AllowsPush c (parcel_in a.what bytes)) [
      | true ↦ λ e. absurd (no_answer (WrongSequence c.next a.sequence) e)
      | false ↦ elim c.ended as (λ b. cond b (Some AfterEnd) (kind_refused c a.what bytes) ≡ None → (b ≡ false) × AllowsPush c (parcel_in a.what bytes)) [
        | true ↦ λ e. absurd (no_answer AfterEnd e)
        | false ↦ λ e. (refl, accepted_by_kind c a.what bytes e)
      ]
    ]

-- ---- what a poll answers

no_barrier_held : (hold : Bool) → (hold && false) ≡ false
no_barrier_held true = refl
no_barrier_held false = refl

gives_nothing : (hold : Bool) → poll_gives hold [] ≡ None
gives_nothing true = refl
gives_nothing false = refl

gives : (c : ChannelState) (hold : Bool) (polled : Polled) → IsAnswer hold c polled → poll_gives hold c.queue ≡ given_by polled
gives c hold (answers.Buffer buf) is = (gives_due hold c.queue (parcels.Data (content buf)) is.due (no_barrier_held hold)).0
gives c hold (answers.Barrier k kind) is = (gives_due hold c.queue (parcels.Barrier k kind) is.0 (ap (λ h. h && true) is.1)).0
gives c hold answers.End is = (gives_due hold c.queue parcels.End is (no_barrier_held hold)).0
gives c hold answers.Empty is = ap (poll_gives hold) is ∙ gives_nothing hold
gives c hold answers.Held is = ap (λ h. poll_gives h c.queue) is.1 ∙ (holds_back c.queue is.0).0

pub answer_is_given : AnswerIsGiven
answer_is_given c hold polled is = sym (gives c hold polled is)

first_kind : (x : Bool) (bytes : List ℕ) (rest : List Bool) → gave_by (Some (parcels.Data bytes)) (x ∷ rest) ≡ cond x Exclusive Floating
first_kind true bytes rest = refl
first_kind false bytes rest = refl

gave : (c : ChannelState) (hold : Bool) (polled : Polled) → IsAnswer hold c polled → gave_by (given_by polled) c.counts.held ≡ gave_of polled
gave c hold (answers.Buffer buf) is = ap (gave_by (Some (parcels.Data (content buf)))) is.kind ∙ first_kind buf.exclusive (content buf) is.rest
gave c hold (answers.Barrier k kind) is = refl
gave c hold answers.End is = refl
gave c hold answers.Empty is = refl
gave c hold answers.Held is = refl

pub polled_is_allowed : PolledIsAllowed
polled_is_allowed c es hold polled is = sym (ap (λ p. gave_by p c.counts.held) (gives c hold polled is) ∙ gave c hold polled is)
