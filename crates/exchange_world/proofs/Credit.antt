-- No more data is sent on a channel than credit came, and no more credit came than was announced, whatever
-- the events.
use Rattle.std.proofs.Common.{◌≡◌, ℕ, ◌+◌, ◌≤◌, true, false, List, [], ◌∷◌, replicate, ap, arith}
use Rattle.script_text.specs.declared.event.Event.{Event}
use Rattle.script_text.specs.declared.event.Event.TheVariants as events
use Rattle.exchange_world.specs.Lanes.{Lane}
use Rattle.exchange_world.specs.Worlds.{World, opened, lane_of}
use Rattle.exchange_world.specs.Steps.{step}
use Rattle.exchange_world.specs.Theorems.{CanOpen, AreEvents, data_sent, credit_granted, credit_announced, DataHaveCredit}
use Rattle.exchange_world.specs.Sound.{IsSound, credit_coming}
use Rattle.exchange_world.proofs.OpenedLemmas.{opened_is_sound}
use Rattle.exchange_world.proofs.Keeping.{steps_keep_sound}
use Rattle.exchange_world.proofs.Order.{opened_lane}
use Rattle.exchange_world.proofs.CreditMoves.{credit_in, credit_of, IsPaid, emits_paid, barrier_paid, finish_paid, announce_paid, deliver_paid, credit_paid, resume_paid, polls_paid, save_paid, saved_paid, pool_paid, control_paid, send_paid}

module _ (m c : ℕ) (low : 1 ≤ c) (high : c ≤ m) where
  step_paid : (w : World) (e : Event) → IsSound m w → IsPaid c w (step w e)
  step_paid w (events.Emit d text) sound = emits_paid w c d text.items
  step_paid w (events.Fill d n) sound = emits_paid w c d (replicate n 97)
  step_paid w (events.Barrier d k kind) sound = barrier_paid w c d k kind
  step_paid w (events.Finish d) sound = finish_paid w c d
  step_paid w events.Send sound = send_paid m w sound c low high
  step_paid w events.Announce sound = announce_paid w c
  step_paid w events.Deliver sound = deliver_paid w c
  step_paid w (events.Credit d) sound = credit_paid w c d
  step_paid w (events.Resume d) sound = resume_paid w c d
  step_paid w events.Control sound = control_paid m w sound c low high
  step_paid w (events.Poll d) sound = polls_paid w c d false
  step_paid w (events.Hold d) sound = polls_paid w c d true
  step_paid w (events.Save d k) sound = save_paid w c d k
  step_paid w (events.Saved d k) sound = saved_paid w c d k
  step_paid w events.Pool sound = pool_paid w c

  -- The counts of the world's lists begin with the credit of the request, which the sender has already.
  all_sent : (w : World) (es : List Event) → IsSound m w → AreEvents m es → data_sent c w es + 2 ≤ credit_granted c w es + credit_of c w
  all_sent w [] sound are = omega arith
  all_sent w (e ∷ es) sound are =
      let paid = (step_paid w e sound).sender in
      let later = all_sent (step w e).0 es (steps_keep_sound m w e sound are.0) are.1 in
      omega (arith, paid, later)

  all_granted : (w : World) (es : List Event) → IsSound m w → AreEvents m es → credit_granted c w es ≤ credit_announced c w es + credit_coming c w.controls
  all_granted w [] sound are = omega arith
  all_granted w (e ∷ es) sound are =
      let paid = (step_paid w e sound).controls in
      let later = all_granted (step w e).0 es (steps_keep_sound m w e sound are.0) are.1 in
      omega (arith, paid, later)

-- the sender has the credit of the request once a connection is opened
opened_credit : (m size total c : ℕ) → CanOpen m size total → 1 ≤ c → c ≤ m → credit_of c (opened m size total) ≡ 2
opened_credit m size total c can low high =
    let s = (opened_is_sound m size total can).each c low high in
    let here : credit_of c (opened m size total) ≡ s.reader.credit = ap credit_in s.found in
    let all : s.reader.credit + 0 + 0 ≡ (lane_of (opened m size total) c).inbox.credit = s.agree.credit in
    let two : (lane_of (opened m size total) c).inbox.credit ≡ 2 = ap (λ (l : Lane). l.inbox.credit) (opened_lane m size total c low high) in
    omega (arith, here, all, two)

pub data_have_credit : DataHaveCredit
data_have_credit m size total c es can are low high =
    let w = opened m size total in
    let sound = opened_is_sound m size total can in
    let sent = all_sent m c low high w es sound are in
    let granted = all_granted m c low high w es sound are in
    let two = opened_credit m size total c can low high in
    record { sent = omega (arith, sent, two); granted = omega (arith, granted) }
