-- The records polled on a channel are the first of those emitted, and so are the bytes, whatever the events.
use Rattle.std.proofs.Common.{◌≡◌, ℕ, ◌-◌, ◌≤◌, true, false, List, [], ◌∷◌, ◌++◌, length, replicate, refl, sym, ap, subst, ◌∙◌, append_assoc, append-nil, arith}
use Rattle.std.specs.List.{AllByRecursion}
use Rattle.std.proofs.lemmas.List.{length-replicate, get_or-replicate}
use Rattle.flow_defs.specs.Records.{IsShort, all_encoded}
use Rattle.turn_cell.specs.History.{StartsWith}
use Rattle.script_text.specs.declared.event.Event.{Event}
use Rattle.script_text.specs.declared.event.Event.TheVariants as events
use Rattle.script_text.specs.Scripts.{IsEvent}
use Rattle.exchange_world.specs.Lanes.{Lane, new_lane}
use Rattle.exchange_world.specs.Worlds.{World, opened, lane_of}
use Rattle.exchange_world.specs.Steps.{step, after_events}
use Rattle.exchange_world.specs.Theorems.{AreEvents, emitted_by, polled_in, bytes_polled_by, emitted, polled, bytes_polled, RecordsComeInOrder}
use Rattle.exchange_world.specs.Sound.{IsSound, coming}
use Rattle.exchange_world.proofs.OpenedLemmas.{opened_is_sound}
use Rattle.exchange_world.proofs.Keeping.{steps_keep_sound}
use Rattle.exchange_world.proofs.Bytes.{encoded-append, short-append, short_later}
use Rattle.exchange_world.proofs.OrderMoves.{waits, waits_of, Moves, quiet, moves_none}
use Rattle.exchange_world.proofs.OrderSending.{emits_moves, barrier_moves, finish_moves, send_moves, announce_moves, control_moves}
use Rattle.exchange_world.proofs.OrderReceiving.{deliver_moves, credit_moves, resume_moves, polls_moves, save_moves, saved_moves}

-- ---- one event

step_moves : (m : ℕ) (w : World) (c : ℕ) (e : Event) → IsSound m w → IsEvent m e → 1 ≤ c → c ≤ length w.lanes → 1 ≤ w.size
    → Moves c w (step w e).0 (emitted_by c w e) (bytes_polled_by c w e) (polled_in c (step w e).1)
step_moves m w c (events.Emit d text) sound is low high some = emits_moves w c low high d is.0.0 text.items some (let short = is.1.not_long in omega (arith, short))
step_moves m w c (events.Fill d n) sound is low high some = emits_moves w c low high d is.0.0 (replicate n 97) some (let fits = is.1 in omega (arith, fits, length-replicate {A = ℕ} n 97))
step_moves m w c (events.Barrier d k kind) sound is low high some = barrier_moves w c low high d is.0.0 k kind
step_moves m w c (events.Finish d) sound is low high some = finish_moves w c low high d is.0
step_moves m w c events.Send sound is low high some = send_moves w c low high
step_moves m w c events.Announce sound is low high some = announce_moves w c
step_moves m w c events.Deliver sound is low high some = deliver_moves m w c low high sound.frames
step_moves m w c (events.Credit d) sound is low high some = credit_moves w c low high d is.0
step_moves m w c (events.Resume d) sound is low high some = resume_moves w c low high d is.0
step_moves m w c events.Control sound is low high some = control_moves w c
step_moves m w c (events.Poll d) sound is low high some = polls_moves w c low high d is.0 false
step_moves m w c (events.Hold d) sound is low high some = polls_moves w c low high d is.0 true
step_moves m w c (events.Save d k) sound is low high some = save_moves w c low high d is.0.0 k
step_moves m w c (events.Saved d k) sound is low high some = saved_moves w c low high d is.0.0 k
step_moves m w c events.Pool sound is low high some = moves_none c w w (quiet c w)

-- ---- all events

-- one step and then the others
joined : {A : Type 0} (before put out now more outs last : List A) → before ++ put ≡ out ++ now → now ++ more ≡ outs ++ last → before ++ (put ++ more) ≡ (out ++ outs) ++ last
joined before put out now more outs last first later =
    sym (append_assoc before put more) ∙ ap (λ xs. xs ++ more) first ∙ append_assoc out now more ∙ ap (λ xs. out ++ xs) later ∙ sym (append_assoc out outs last)

-- with the rest in front
pub with_rest : (rest before put out now all : List ℕ) → before ++ put ≡ out ++ now → rest ++ before ≡ all → (rest ++ out) ++ now ≡ all ++ put
with_rest rest before put out now all moves same =
    append_assoc rest out now ∙ ap (λ bs. rest ++ bs) (sym moves) ∙ sym (append_assoc rest before put) ∙ ap (λ bs. bs ++ put) same

module _ (m c : ℕ) (low : 1 ≤ c) (high : c ≤ m) where
  pub moves_at : (w : World) (e : Event) → IsSound m w → IsEvent m e → Moves c w (step w e).0 (emitted_by c w e) (bytes_polled_by c w e) (polled_in c (step w e).1)
  moves_at w e sound is =
      let number = sound.lanes in
      let least = sound.opening.opening.low in
      step_moves m w c e sound is low (omega (arith, number, high)) (omega (arith, least))

  -- what waits and what is emitted is what is polled and what waits then
  all_account : (w : World) (es : List Event) → IsSound m w → AreEvents m es → waits_of c w ++ all_encoded (emitted c w es) ≡ bytes_polled c w es ++ waits_of c (after_events w es)
  all_account w [] sound are = append-nil (waits_of c w)
  all_account w (e ∷ es) sound are =
      let v = (step w e).0 in
      let move = moves_at w e sound are.0 in
      ap (λ xs. waits_of c w ++ xs) (encoded-append (emitted_by c w e) (emitted c v es))
      ∙ joined (waits_of c w) (all_encoded (emitted_by c w e)) (bytes_polled_by c w e) (waits_of c v) (all_encoded (emitted c v es)) (bytes_polled c v es) (waits_of c (after_events v es))
      move.account (all_account v es (steps_keep_sound m w e sound are.0) are.1)

  -- where the rest and what waits encode these records, those polled are the first of these and of those emitted
  all_ordered : (w : World) (es : List Event) (xs : List (List ℕ)) → IsSound m w → AreEvents m es → AllByRecursion IsShort xs → (lane_of w c).rest ++ waits_of c w ≡ all_encoded xs
      → StartsWith (xs ++ emitted c w es) (polled c w es)
  all_ordered w [] xs sound are short same = (xs ++ [], refl)
  all_ordered w (e ∷ es) xs sound are short same =
      let v = (step w e).0 in
      let move = moves_at w e sound are.0 in
      let put = emitted_by c w e in
      let out = bytes_polled_by c w e in
      let records = polled_in c (step w e).1 in
      let rest = (lane_of w c).rest in
      let all_short = short-append xs put short move.short in
      let read = move.reads (waits_of c v) (xs ++ put) all_short (with_rest rest (waits_of c w) (all_encoded put) out (waits_of c v) (all_encoded xs) move.account same ∙ sym (encoded-append xs put)) in
      let later = all_ordered v es read.later (steps_keep_sound m w e sound are.0) are.1 (short_later records read.later (subst (AllByRecursion IsShort) read.records_are all_short)) read.behind_are in
      (later.0, joined xs put records read.later (emitted c v es) (polled c v es) later.0 read.records_are later.1)

-- nothing waits once a connection is opened, and there is no rest
pub opened_lane : (m size total c : ℕ) → 1 ≤ c → c ≤ m → lane_of (opened m size total) c ≡ new_lane size
opened_lane m size total c low high = get_or-replicate m (c - 1) (new_lane size) (new_lane size) (omega arith)

pub records_come_in_order : RecordsComeInOrder
records_come_in_order m size total c es can are low high =
    let w = opened m size total in
    let sound = opened_is_sound m size total can in
    let fresh = opened_lane m size total c low high in
    let none : waits_of c w ≡ [] = ap (λ (l : Lane). waits l (coming c w)) fresh in
    let no_rest : (lane_of w c).rest ≡ [] = ap (λ (l : Lane). l.rest) fresh in
    record {
      records = all_ordered m c low high w es [] sound are tt (ap (λ r. r ++ waits_of c w) no_rest ∙ none);
      bytes = (waits_of c (after_events w es), ap (λ bs. bs ++ all_encoded (emitted c w es)) (sym none) ∙ all_account m c low high w es sound are);
    }
