-- A connection whose channels stayed as they were: a backlog was announced, or a control frame obeyed.
use Rattle.std.proofs.Common.{◌≡◌, ℕ, ◌+◌, ◌≤◌, cond, ltb, true, false, List, [], ◌∷◌, ◌++◌, length, map, Option, Some, None, refl, sym, ap, subst, ◌∙◌, arith, inl, inr}
use Rattle.std.specs.Prelude.{Result, Ok, Err, is_ok}
use Rattle.std.specs.List.{All}
use Rattle.std.specs.Option.{option_map}
use Rattle.std.proofs.lemmas.Bool.{false≢true, cases_Bool, ltb-false}
use Rattle.std.proofs.lemmas.List.{map-append}
use Rattle.std.proofs.lemmas.Option.{none-some, same_Some}
use Rattle.credit_reader.specs.declared.reader.Reader.{Reader}
use Rattle.credit_reader.specs.declared.reader.Told.{Told}
use Rattle.credit_reader.specs.declared.reader.TheConstants.{CREDIT_MAX}
use Rattle.credit_reader.specs.declared.fault.CreditFault.TheVariants as credit
use Rattle.credit_reader.specs.Readers as readers
use Rattle.credit_reader.specs.Senders.{reader_of, happened}
use Rattle.credit_reader.specs.Answers.{credit_answer, resume_answer, due_first, told_of, announced}
use Rattle.script_text.specs.declared.reply.Reply.{Reply}
use Rattle.script_text.specs.declared.reply.Reply.TheVariants as replies
use Rattle.exchange_world.specs.Lanes.{channel_id}
use Rattle.exchange_world.specs.Worlds as worlds
use Rattle.exchange_world.specs.Worlds.{World, gate_lent}
use Rattle.exchange_world.specs.Steps.{bare, number_of, announces, obeys}
use Rattle.exchange_world.specs.Sound.{IsSound}
use Rattle.exchange_world.specs.Theorems.{IsObeyed}
use Rattle.exchange_core.specs.declared.connection.Connection.{Connection}
use Rattle.exchange_core.specs.declared.frames.DataFrame.TheVariants as data_frames
use Rattle.exchange_core.specs.declared.frames.ControlFrame.{ControlFrame}
use Rattle.exchange_core.specs.declared.frames.ControlFrame.TheVariants as control_frames
use Rattle.exchange_core.specs.Exchanges.{world_lane, world_frame, world_control, world_of, IsWhole, IsLaneOf, HasActed}
use Rattle.exchange_core.proofs.Connections.{IsSameBase, whole_after}
use Rattle.exchange_core.proofs.SentItems.{world_by_parts}

pub kept_acted : (c d : Connection) (reply : Reply) (done : World × Reply) → IsWhole c → IsSameBase c d → d.lanes.items ≡ c.lanes.items → world_of d ≡ done.0 → bare reply ≡ done.1
    → IsSound (length c.lanes.items) done.0 → HasActed c d reply done
kept_acted c d reply done whole base same is replied sound = record {
  whole = whole_after c d whole base (ap length same) (subst (IsSound (length c.lanes.items)) (sym is) sound) (subst (All (IsLaneOf c.pool c.partition_limit)) (sym same) whole.lanes)
      (ap (λ xs. gate_lent (record (world_of c) { lanes = map world_lane xs })) same);
  world = is;
  replied = replied;
}

-- ---- a backlog announced

pub told_by : (o : Option Reader) (t : Told) → option_map told_of o ≡ Some t → (r : Reader) × (o ≡ Some r) × (told_of r ≡ t)
told_by None t is = absurd (none-some _ is)
told_by (Some r) t is = (r, refl, same_Some _ _ is)

module _ (c d : Connection) (t : Told) (k : ℕ) (whole : IsWhole c) (base : IsSameBase c d) (same : d.lanes.items ≡ c.lanes.items) (r : Reader) (found : due_first c.readers ≡ Some r) (told : told_of r ≡ t) (k_is : k ≡ number_of t.channel)
    (sender : d.readers ≡ announced c.readers) (frames : d.frames.items ≡ c.frames.items ++ data_frames.Announcement k t.backlog ∷ []) (controls : d.controls.items ≡ c.controls.items)
    (sound : IsSound (length c.lanes.items) (announces (world_of c) (due_first c.readers)).0) where
  channel_is : t.channel ≡ r.channel
  channel_is = sym (ap (λ (x : Told). x.channel) told)

  number_is : k ≡ number_of r.channel
  number_is = k_is ∙ ap number_of channel_is

  backlog_is : t.backlog ≡ r.backlog
  backlog_is = sym (ap (λ (x : Told). x.backlog) told)

  done_is : announces (world_of c) (due_first c.readers) ≡ announces (world_of c) (Some r)
  done_is = ap (announces (world_of c)) found

  frames_are : map world_frame d.frames.items ≡ (world_of c).frames ++ worlds.Announcement (number_of r.channel) r.backlog ∷ []
  frames_are = ap (map world_frame) frames ∙ map-append world_frame c.frames.items (data_frames.Announcement k t.backlog ∷ [])
      ∙ ap (λ n. (world_of c).frames ++ worlds.Announcement n t.backlog ∷ []) number_is ∙ ap (λ n. (world_of c).frames ++ worlds.Announcement (number_of r.channel) n ∷ []) backlog_is

  pub announce_acted : HasActed c d (replies.Announced k t.backlog) (announces (world_of c) (due_first c.readers))
  announce_acted = kept_acted c d (replies.Announced k t.backlog) (announces (world_of c) (due_first c.readers)) whole base same
      (world_by_parts d (announces (world_of c) (Some r)).0 base.size base.total (ap (map world_lane) same) sender frames_are (ap (map world_control) controls) ∙ sym (ap (λ (p : World × Reply). p.0) done_is))
      (ap (λ n. replies.Announced n t.backlog) number_is ∙ ap (λ n. replies.Announced (number_of r.channel) n) backlog_is ∙ sym (ap (λ (p : World × Reply). p.1) done_is))
      sound

-- ---- a control frame obeyed

pub no_error : {E : Type 0} (f : E) (answer : Result (Unit {0}) E) → answer ≡ Err f → answer ≡ Ok tt → ⊥
no_error f answer err ok = false≢true (ap is_ok (sym err ∙ ok))

-- credit that is taken is no more than a frame can carry
pub credit_low : (n : ℕ) (o : Option Reader) → credit_answer n o ≡ Ok tt → n ≤ CREDIT_MAX
credit_low n None is = absurd (no_error credit.UnknownChannel (credit_answer n None) refl is)
credit_low n (Some r) is =
    elim r.requested as (λ b. cond b (cond (ltb CREDIT_MAX (r.credit + n)) (Err (credit.CreditOver (r.credit + n))) (Ok tt)) (Err credit.UnknownChannel) ≡ Ok tt → n ≤ CREDIT_MAX) [
      | true ↦ λ e. elim (cases_Bool (ltb CREDIT_MAX (r.credit + n))) [
        | inl over ↦ absurd (no_error (credit.CreditOver (r.credit + n)) _ (ap (λ b. cond b (Err (credit.CreditOver (r.credit + n))) (Ok tt)) over) e)
        | inr low ↦ let within : r.credit + n ≤ CREDIT_MAX = ltb-false _ _ low in omega (arith, within)
      ]
      | false ↦ λ e. absurd (no_error credit.UnknownChannel _ refl e)
    ] is

module _ (c : Connection) (first : ControlFrame) (rest : List ControlFrame) (controls : c.controls.items ≡ first ∷ rest) where
  pub controls_are : (world_of c).controls ≡ world_control first ∷ map world_control rest
  controls_are = ap (map world_control) controls

  is_obeyed : (f : worlds.ControlFrame) → world_control first ≡ f → IsObeyed (world_of c) (world_of c).controls → IsObeyed (world_of c) (f ∷ map world_control rest)
  is_obeyed f is obeyed = subst (IsObeyed (world_of c)) (controls_are ∙ ap (λ x. x ∷ map world_control rest) is) obeyed

  pub credit_taken : (n k : ℕ) → first ≡ control_frames.AddCredit n k → IsObeyed (world_of c) (world_of c).controls → credit_answer k (reader_of (channel_id n) c.readers.readers) ≡ Ok tt
  credit_taken n k is obeyed = is_obeyed (worlds.AddCredit n k) (ap world_control is) obeyed

  pub resumption_taken : (n : ℕ) → first ≡ control_frames.Resumption n → IsObeyed (world_of c) (world_of c).controls → resume_answer (reader_of (channel_id n) c.readers.readers) ≡ Ok tt
  resumption_taken n is obeyed = is_obeyed (worlds.Resumption n) (ap world_control is) obeyed

  module _ (d : Connection) (whole : IsWhole c) (base : IsSameBase c d) (same : d.lanes.items ≡ c.lanes.items) (left : d.controls.items ≡ rest) (frames : d.frames.items ≡ c.frames.items)
      (sound : IsSound (length c.lanes.items) (obeys (world_of c) (world_of c).controls).0) where
    pub grant_acted : (n k : ℕ) → first ≡ control_frames.AddCredit n k → d.readers ≡ happened (channel_id n) (readers.Granted k) c.readers → HasActed c d (replies.Granted n k) (obeys (world_of c) (world_of c).controls)
    grant_acted n k is sender =
        let done : obeys (world_of c) (world_of c).controls ≡ obeys (world_of c) (worlds.AddCredit n k ∷ map world_control rest) = ap (obeys (world_of c)) (controls_are ∙ ap (λ f. world_control f ∷ map world_control rest) is) in
        kept_acted c d (replies.Granted n k) (obeys (world_of c) (world_of c).controls) whole base same
        (world_by_parts d (obeys (world_of c) (worlds.AddCredit n k ∷ map world_control rest)).0 base.size base.total (ap (map world_lane) same) sender (ap (map world_frame) frames) (ap (map world_control) left)
        ∙ sym (ap (λ (p : World × Reply). p.0) done)) (sym (ap (λ (p : World × Reply). p.1) done)) sound

    pub resume_acted : (n : ℕ) → first ≡ control_frames.Resumption n → d.readers ≡ happened (channel_id n) readers.Resumed c.readers → HasActed c d (replies.Resumed n) (obeys (world_of c) (world_of c).controls)
    resume_acted n is sender =
        let done : obeys (world_of c) (world_of c).controls ≡ obeys (world_of c) (worlds.Resumption n ∷ map world_control rest) = ap (obeys (world_of c)) (controls_are ∙ ap (λ f. world_control f ∷ map world_control rest) is) in
        kept_acted c d (replies.Resumed n) (obeys (world_of c) (world_of c).controls) whole base same
        (world_by_parts d (obeys (world_of c) (worlds.Resumption n ∷ map world_control rest)).0 base.size base.total (ap (map world_lane) same) sender (ap (map world_frame) frames) (ap (map world_control) left)
        ∙ sym (ap (λ (p : World × Reply). p.0) done)) (sym (ap (λ (p : World × Reply). p.1) done)) sound
