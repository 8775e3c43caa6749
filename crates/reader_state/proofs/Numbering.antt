-- The next sequence number of a channel counts the items that were sent on it.
use Rattle.std.proofs.Common.{◌≡◌, ℕ, ◌+◌, ◌%◌, ◌^◌, Bool, true, false, cond, zero, suc, List, [], ◌∷◌, length, map, Option, Some, None, refl, sym, ap, subst, ◌∙◌, arith}
use Rattle.std.specs.Prelude.{slice_get}
use Rattle.std.specs.Option.{option_map}
use Rattle.std.proofs.lemmas.Bool.{cond-true}
use Rattle.std.proofs.lemmas.Option.{none-some, same_Some}
use Rattle.flow_defs.specs.declared.task.ChannelId.{ChannelId}
use Rattle.credit_reader.specs.declared.reader.Reader.{Reader}
use Rattle.credit_reader.specs.declared.reader.SentKind.{SentKind}
use Rattle.credit_reader.specs.Readers.{fresh, Happening, Asked, Granted, Resumed, Ready, Sent, Announced, reader_next}
use Rattle.credit_reader.specs.Senders.{is_same, reader_of, after_at}
use Rattle.credit_reader.proofs.Channels.{is_same_of, same_channel, is_other, reader_after}
use Rattle.reader_state.specs.declared.entry.ReaderEntry.{ReaderEntry}
use Rattle.reader_state.specs.declared.entry.ReaderEntry.TheVariants as entry
use Rattle.reader_state.specs.Ledgers as ledgers
use Rattle.reader_state.specs.Ledgers.{Ledger, opened, after_all, replayed, settled}
use Rattle.reader_state.specs.Standing.{sent_on}
use Rattle.reader_state.specs.Turning.{IsOneOf}
use Rattle.reader_state.proofs.Ledgers.{told, told_stays, told_other, settled_keeps}

abbrev pub numbered : ChannelId → Ledger → Option ℕ
numbered c l = told (λ r. r.sequence) c l.sender.readers

settled_number : (c d : ChannelId) (l : Ledger) → numbered c (settled d l) ≡ numbered c l
settled_number c d l = settled_keeps (told (λ r. r.sequence) c) (λ a m rs. told_stays (λ r. r.sequence) (Granted m) (λ r. refl) c a rs) (λ a rs. told_stays (λ r. r.sequence) Resumed (λ r. refl) c a rs) d l

sent_number : (c d : ChannelId) (what : SentKind) (rest : List SentKind) (h : Happening) (rs : List Reader) (n : ℕ) → ((r : Reader) → (reader_next r h).sequence ≡ (r.sequence + 1) % 2 ^ 32) → told (λ r. r.sequence) c rs ≡ Some (n % 2 ^ 32) →
    (m : ℕ) × (told (λ r. r.sequence) c (after_at d h rs) ≡ Some (m % 2 ^ 32)) × (m + length rest ≡ n + length (cond (is_same d c) (what ∷ rest) rest))
sent_number c d what rest h rs n next is =
    elim (is_same d c) as (λ b. is_same d c ≡ b → (m : ℕ) × (told (λ r. r.sequence) c (after_at d h rs) ≡ Some (m % 2 ^ 32)) × (m + length rest ≡ n + length (cond b (what ∷ rest) rest))) [
      | true ↦ λ same.
          let here : is_same c d ≡ true = is_same_of c d (sym (same_channel d c same)) in
          (n + 1, ap (option_map (λ (r : Reader). r.sequence)) (reader_after d h c rs ∙ ap (λ b. option_map (λ r. cond b (reader_next r h) r) (reader_of c rs)) here) ∙ next_of (reader_of c rs) is, omega arith)
      | false ↦ λ other. (n, told_other (λ r. r.sequence) h c d rs (is_other c d (λ e. absurd (not_same other (sym e)))) ∙ is, refl)
    ] refl
  where
    not_same : is_same d c ≡ false → d ≡ c → ⊥
    not_same other e = let t : is_same d c ≡ true = is_same_of d c e in cc

    next_of : (o : Option Reader) → option_map (λ (r : Reader). r.sequence) o ≡ Some (n % 2 ^ 32) → option_map (λ (r : Reader). r.sequence) (option_map (λ r. reader_next r h) o) ≡ Some ((n + 1) % 2 ^ 32)
    next_of None was = absurd (none-some _ was)
    next_of (Some r) was = let number : r.sequence ≡ n % 2 ^ 32 = same_Some _ _ was in ap Some (next r ∙ (let e : (r.sequence + 1) % 2 ^ 32 ≡ (n + 1) % 2 ^ 32 = omega (arith, number) in e))

pub numbers_count : (c : ChannelId) (es : List ReaderEntry) (l : Ledger) (n : ℕ) → numbered c l ≡ Some (n % 2 ^ 32) → numbered c (after_all l es) ≡ Some ((n + length (sent_on c es)) % 2 ^ 32)
numbers_count c [] l n is = is ∙ ap (λ k. Some (k % 2 ^ 32)) (let e : n ≡ n + 0 = omega arith in e)
numbers_count c (entry.Ready d head backlog ∷ es) l n is = numbers_count c es (ledgers.ledger_next l (entry.Ready d head backlog)) n (told_stays (λ r. r.sequence) (Ready head backlog) (λ r. refl) c d l.sender.readers ∙ is)
numbers_count c (entry.Sent d what head backlog ∷ es) l n is =
    let next = sent_number c d what (sent_on c es) (Sent what head backlog) l.sender.readers n (λ r. refl) is in
    numbers_count c es (ledgers.ledger_next l (entry.Sent d what head backlog)) next.0 (settled_number c d _ ∙ next.1) ∙ ap (λ k. Some (k % 2 ^ 32)) next.2
numbers_count c (entry.Told d ∷ es) l n is = numbers_count c es (ledgers.ledger_next l (entry.Told d)) n (told_stays (λ r. r.sequence) Announced (λ r. refl) c d l.sender.readers ∙ is)
numbers_count c (entry.Asked d k ∷ es) l n is = numbers_count c es (ledgers.ledger_next l (entry.Asked d k)) n (told_stays (λ r. r.sequence) (Asked k) (λ r. refl) c d l.sender.readers ∙ is)
numbers_count c (entry.Granted d k ∷ es) l n is = numbers_count c es (ledgers.ledger_next l (entry.Granted d k)) n (settled_number c d _ ∙ is)
numbers_count c (entry.Resumed d ∷ es) l n is = numbers_count c es (ledgers.ledger_next l (entry.Resumed d)) n (settled_number c d _ ∙ is)

pub fresh_there : (c : ChannelId) (channels : List ChannelId) (k : ℕ) → slice_get channels k ≡ Some c → reader_of c (map fresh channels) ≡ Some (fresh c)
fresh_there c [] k is = absurd (cc)
fresh_there c (d ∷ channels) zero is = let same : d ≡ c = cc in cond-true _ _ _ (is_same_of d c same) ∙ ap (λ e. Some (fresh e)) same
fresh_there c (d ∷ channels) (suc k) is =
    elim (is_same d c) as (λ b. is_same d c ≡ b → cond b (Some (fresh d)) (reader_of c (map fresh channels)) ≡ Some (fresh c)) [
      | true ↦ λ same. ap (λ e. Some (fresh e)) (same_channel d c same)
      | false ↦ λ other. fresh_there c channels k is
    ] refl

pub replayed_number : (c : ChannelId) (channels : List ChannelId) (es : List ReaderEntry) → IsOneOf c channels → numbered c (replayed channels es) ≡ Some (length (sent_on c es) % 2 ^ 32)
replayed_number c channels es one =
    numbers_count c es (opened channels) 0 (ap (option_map (λ r. r.sequence)) (fresh_there c channels one.0 one.1)) ∙ ap (λ k. Some (k % 2 ^ 32)) (let e : 0 + length (sent_on c es) ≡ length (sent_on c es) = omega arith in e)
