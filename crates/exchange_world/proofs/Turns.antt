-- In a sound connection the channel whose turn it is has an item, and its credit.
use Rattle.std.proofs.Common.{◌≡◌, ℕ, zero, suc, ◌+◌, ◌<◌, ◌≤◌, true, false, cond, List, [], ◌∷◌, map, Some, refl, sym, ap, subst, ◌∙◌, arith}
use Rattle.std.specs.Prelude.{find}
use Rattle.std.specs.List.{range_with_len}
use Rattle.std.specs.Option.{IsSomeAnd}
use Rattle.std.proofs.lemmas.Bool.{false≢true}
use Rattle.std.proofs.lemmas.Option.{none-some, same_Some}
use Rattle.flow_defs.specs.declared.task.Head.{Head}
use Rattle.flow_defs.specs.declared.parcel.Parcel.{Parcel}
use Rattle.flow_defs.proofs.Lists.{no_cons}
use Rattle.credit_reader.specs.declared.reader.Reader.{Reader}
use Rattle.credit_reader.specs.Readers.{Sent, May, may_go, cost, is_due}
use Rattle.credit_reader.specs.Senders.{reader_of}
use Rattle.exchange_world.specs.Lanes.{channel_id, head_in, backlog_in}
use Rattle.exchange_world.specs.Worlds.{lane_of}
use Rattle.exchange_world.specs.Steps.{number_of, sent_kind}
use Rattle.exchange_world.specs.Laws.{SoundHasTurns, SoundNumbersReaders}
use Rattle.exchange_world.proofs.QueueLemmas.{has_first, number_found, same_cons}
use Rattle.exchange_world.proofs.SendingLemmas.{can_send_parts, costs}

-- where something may go there is an item
some_item : (items : List Parcel) (head : Head) (credit : ℕ) → head ≡ head_in items → may_go head credit ≡ true → (first : Parcel) × (rest : List Parcel) × (items ≡ first ∷ rest)
some_item [] head credit is may = absurd (false≢true (ap (λ h. may_go h credit) (sym is) ∙ may))
some_item (p ∷ items) head credit is may = (p, items, refl)

pub sound_has_turns : SoundHasTurns
sound_has_turns m w id sound turn =
    let found = has_first w.sender sound.queue id turn in
    let r = found.0 in
    let of = number_found 1 m w.sender.readers id r (omega arith) sound.channels found.1 in
    let c = of.0 in
    let c_low : 1 ≤ c = of.1 in
    let number : number_of id ≡ c = ap number_of of.3 ∙ (omega (arith, c_low)) in
    let low : 1 ≤ number_of id = omega (arith, number, c_low) in
    let high : number_of id ≤ m = omega (arith, number, of.2) in
    let id_is : channel_id (number_of id) ≡ id = ap channel_id number ∙ sym of.3 in
    let s = sound.each (number_of id) low high in
    let same : s.reader ≡ r = same_Some _ _ (sym s.found ∙ ap (λ i. reader_of i w.sender.readers) id_is ∙ found.1) in
    let goes : may_go s.reader.head s.reader.credit ≡ true = subst (λ t. may_go t.head t.credit ≡ true) (sym same) (can_send_parts r found.2.can).goes in
    let item = some_item (lane_of w (number_of id)).items s.reader.head s.reader.credit s.sender.head_is goes in
    let pays : cost (sent_kind item.0) ≤ s.reader.credit = costs item.0 item.1 s.reader.head s.reader.credit (s.sender.head_is ∙ ap head_in item.2) goes in
    record {
      low = low;
      high = high;
      id_is = id_is;
      first = item.0;
      rest = item.1;
      items = item.2;
      may = subst (λ o. IsSomeAnd o (λ (t : Reader). May t (Sent (sent_kind item.0) (head_in item.1) (backlog_in item.1)))) (sym found.1) (subst (λ (t : Reader). cost (sent_kind item.0) ≤ t.credit) same pays);
    }

-- a reader that is found by a test has a number
numbered : (a n : ℕ) (rs : List Reader) (r : Reader) → 1 ≤ a → map (λ (r : Reader). r.channel) rs ≡ map channel_id (range_with_len a n) → find is_due rs ≡ Some r
    → (a ≤ number_of r.channel) × (number_of r.channel < a + n)
numbered a n [] r low channels found = absurd (none-some _ found)
numbered a zero (s ∷ rs) r low channels found = absurd (no_cons s.channel (map (λ (r : Reader). r.channel) rs) channels)
numbered a (suc n) (s ∷ rs) r low channels found =
    let parts = same_cons s.channel (channel_id a) (map (λ (r : Reader). r.channel) rs) (map channel_id (range_with_len (a + 1) n)) channels in
    elim (is_due s) as (λ b. cond b (Some s) (find is_due rs) ≡ Some r → (a ≤ number_of r.channel) × (number_of r.channel < a + suc n)) [
      | true ↦ λ e. let is : number_of r.channel ≡ number_of (channel_id a) = ap (λ (t : Reader). number_of t.channel) (sym (same_Some _ _ e)) ∙ ap number_of parts.0 in
          let number : number_of (channel_id a) ≡ a = omega arith in (omega (arith, is, number), omega (arith, is, number))
      | false ↦ λ e. let later = numbered (a + 1) n rs r (omega arith) parts.1 e in (omega (arith, later.0), omega (arith, later.1))
    ] found

pub sound_numbers_readers : SoundNumbersReaders
sound_numbers_readers m w r sound found =
    let in' = numbered 1 m w.sender.readers r (omega arith) sound.channels found in (in'.0, omega (arith, in'.1))
