-- The backlog of a reader is what it was told last, and an announcement tells it.
use Rattle.std.proofs.Common.{◌≡◌, ℕ, Bool, true, false, cond, eqb, List, [], ◌∷◌, ◌++◌, map, Option, Some, None, refl, sym, ap, ◌∙◌, ◌&&◌}
use Rattle.std.specs.Prelude.{IfSome}
use Rattle.std.specs.Option.{option_map}
use Rattle.std.proofs.lemmas.Option.{none-some, same_Some}
use Rattle.flow_defs.specs.declared.task.ChannelId.{ChannelId}
use Rattle.flow_defs.proofs.NumberLemmas.{eqb_comm}
use Rattle.turn_cell.specs.History.{entries_of}
use Rattle.turn_cell.specs.Passes.{HasEntered, HasRested, number, seen, mine}
use Rattle.credit_reader.specs.declared.reader.Reader.{Reader}
use Rattle.credit_reader.specs.declared.reader.Told.{Told}
use Rattle.credit_reader.specs.Answers.{due_first, told_of}
use Rattle.credit_reader.specs.Readers.{Happening, Asked, Granted, Resumed, Ready, Sent, Announced, reader_next, is_due}
use Rattle.credit_reader.specs.Senders.{Sender, AreDistinct, is_same, reader_of, after_at}
use Rattle.credit_reader.proofs.Channels.{reader_after}
use Rattle.reader_state.specs.declared.entry.ReaderEntry.{ReaderEntry}
use Rattle.reader_state.specs.declared.entry.ReaderEntry.TheVariants as entry
use Rattle.reader_state.specs.Ledgers as ledgers
use Rattle.reader_state.specs.Ledgers.{Ledger, opened, after_all, replayed, settled}
use Rattle.reader_state.specs.Standing.{told_last_from, told_last}
use Rattle.reader_state.specs.Turning.{ReaderCell, ReaderPass, channels_in, ledger_after, IsOneOf, AnnouncedFirst, AnnouncesDue}
use Rattle.reader_state.proofs.Channels.{find_there, found_here}
use Rattle.reader_state.proofs.Ledgers.{told, told_stays, settled_keeps}
use Rattle.reader_state.proofs.Numbering.{fresh_there}
use Rattle.reader_state.proofs.Telling.{backlog_by}
use Rattle.reader_state.proofs.Standing.{Entered, own_is, entered_ledger, due_is_one, legal_is}

abbrev pub backlog_in : ChannelId → Ledger → Option ℕ
backlog_in c l = told (λ r. r.backlog) c l.sender.readers

settled_backlog : (c d : ChannelId) (l : Ledger) → backlog_in c (settled d l) ≡ backlog_in c l
settled_backlog c d l = settled_keeps (told (λ r. r.backlog) c) (λ a m rs. told_stays (λ r. r.backlog) (Granted m) (λ r. refl) c a rs) (λ a rs. told_stays (λ r. r.backlog) Resumed (λ r. refl) c a rs) d l

is_same_comm : (c d : ChannelId) → is_same c d ≡ is_same d c
is_same_comm c d =
    ap (λ b. b && eqb c.from d.from && eqb c.to d.to) (eqb_comm c.edge d.edge) ∙ ap (λ b. eqb d.edge c.edge && b && eqb c.to d.to) (eqb_comm c.from d.from)
    ∙ ap (λ b. eqb d.edge c.edge && eqb d.from c.from && b) (eqb_comm c.to d.to)

-- A reader is told a number.
told_anew : (c d : ChannelId) (h : Happening) (rs : List Reader) (m n : ℕ) → ((r : Reader) → (reader_next r h).backlog ≡ m) → told (λ r. r.backlog) c rs ≡ Some n →
    told (λ r. r.backlog) c (after_at d h rs) ≡ Some (cond (is_same d c) m n)
told_anew c d h rs m n new is =
    ap (option_map (λ (r : Reader). r.backlog)) (reader_after d h c rs)
    ∙ ap (λ b. option_map (λ (r : Reader). r.backlog) (option_map (λ r. cond b (reader_next r h) r) (reader_of c rs))) (is_same_comm c d)
    ∙ of_reader (is_same d c) (reader_of c rs) is
  where
    of_reader : (b : Bool) (o : Option Reader) → option_map (λ (r : Reader). r.backlog) o ≡ Some n → option_map (λ (r : Reader). r.backlog) (option_map (λ r. cond b (reader_next r h) r) o) ≡ Some (cond b m n)
    of_reader b None was = absurd (none-some _ was)
    of_reader true (Some r) was = ap Some (new r)
    of_reader false (Some r) was = was

pub backlogs_told : (c : ChannelId) (es : List ReaderEntry) (l : Ledger) (n : ℕ) → backlog_in c l ≡ Some n → backlog_in c (after_all l es) ≡ Some (told_last_from c n es)
backlogs_told c [] l n is = is
backlogs_told c (entry.Ready d head backlog ∷ es) l n is =
    backlogs_told c es (ledgers.ledger_next l (entry.Ready d head backlog)) (cond (is_same d c) backlog n) (told_anew c d (Ready head backlog) l.sender.readers backlog n (λ r. refl) is)
backlogs_told c (entry.Sent d what head backlog ∷ es) l n is =
    backlogs_told c es (ledgers.ledger_next l (entry.Sent d what head backlog)) (cond (is_same d c) backlog n)
    (settled_backlog c d _ ∙ told_anew c d (Sent what head backlog) l.sender.readers backlog n (λ r. refl) is)
backlogs_told c (entry.Told d ∷ es) l n is = backlogs_told c es (ledgers.ledger_next l (entry.Told d)) n (told_stays (λ r. r.backlog) Announced (λ r. refl) c d l.sender.readers ∙ is)
backlogs_told c (entry.Asked d k ∷ es) l n is = backlogs_told c es (ledgers.ledger_next l (entry.Asked d k)) n (told_stays (λ r. r.backlog) (Asked k) (λ r. refl) c d l.sender.readers ∙ is)
backlogs_told c (entry.Granted d k ∷ es) l n is = backlogs_told c es (ledgers.ledger_next l (entry.Granted d k)) n (settled_backlog c d _ ∙ is)
backlogs_told c (entry.Resumed d ∷ es) l n is = backlogs_told c es (ledgers.ledger_next l (entry.Resumed d)) n (settled_backlog c d _ ∙ is)

pub replayed_backlog : (c : ChannelId) (channels : List ChannelId) (es : List ReaderEntry) → IsOneOf c channels → backlog_in c (replayed channels es) ≡ Some (told_last c es)
replayed_backlog c channels es one = backlogs_told c es (opened channels) 0 (ap (option_map (λ (r : Reader). r.backlog)) (fresh_there c channels one.0 one.1))

-- ---- an announcement

-- What is due first is of the reader of its channel.
pub due_own : (s : Sender) → AreDistinct (map (λ (r : Reader). r.channel) s.readers) → (o : Option Told) → o ≡ option_map told_of (due_first s) → IfSome o (λ t. option_map told_of (reader_of t.channel s.readers) ≡ Some t)
due_own s distinct None is = tt
due_own s distinct (Some t) is = elim (due_first s) as (λ d. due_first s ≡ d → Some t ≡ option_map told_of d → option_map told_of (reader_of t.channel s.readers) ≡ Some t) [
  | None ↦ λ due is. absurd (none-some _ (sym is))
  | Some r ↦ λ due is.
      let there = find_there is_due s.readers r due in
      let same : t ≡ told_of r = same_Some _ _ is in
      ap (λ (u : Told). option_map told_of (reader_of u.channel s.readers)) same ∙ ap (option_map told_of) (found_here (λ (r : Reader). r.channel) s.readers distinct there.0 r there.1) ∙ ap Some (sym same)
] refl is

backlog_of : (o : Option Reader) (t : Told) → option_map told_of o ≡ Some t → option_map (λ (r : Reader). r.backlog) o ≡ Some t.backlog
backlog_of None t is = absurd (none-some _ is)
backlog_of (Some r) t is = ap (λ (u : Told). Some u.backlog) (same_Some _ _ is)

none_due : (o : Option Reader) → None ≡ option_map told_of o → o ≡ None
none_due None is = refl
none_due (Some r) is = absurd (none-some _ is)

module _ (cell : ReaderCell) (before now : ReaderPass) (l : Ledger) (e : Entered cell before now l) where
  pub announced_first : (t : Told) (then : ReaderPass) → Some t ≡ option_map told_of (due_first l.sender) → option_map told_of (reader_of t.channel l.sender.readers) ≡ Some t → HasEntered (entry.Told t.channel) now then →
      AnnouncedFirst (channels_in cell) before then t
  announced_first t then due own has =
      let ledger = entered_ledger cell before now l e in
      let one = due_is_one cell before now l e t due in
      record {
        history = seen now;
        entered = has.1 ∙ ap (λ n. seen now ++ (n, entry.Told t.channel) ∷ []) (e.same.0 ∙ e.was.1);
        due = ap (λ (k : Ledger). option_map told_of (due_first k.sender)) (sym ledger) ∙ sym due;
        backlog = ap (told_last t.channel) (sym (own_is cell before now l e)) ∙ sym (backlog_by (channels_in cell) (seen now) t.channel (legal_is l (channels_in cell) (seen now) e.stands e.fixed))
            ∙ same_Some _ _ (sym (replayed_backlog t.channel (channels_in cell) (entries_of (seen now)) one) ∙ ap (λ (k : Ledger). option_map (λ (r : Reader). r.backlog) (reader_of t.channel k.sender.readers)) (sym ledger)
            ∙ backlog_of (reader_of t.channel l.sender.readers) t own);
      }

  pub announced_none : (then : ReaderPass) → None ≡ option_map told_of (due_first l.sender) → HasRested now then → AnnouncesDue (channels_in cell) before then None
  announced_none then due has =
      ap (λ h. due_first (ledger_after (channels_in cell) h).sender) has.1 ∙ ap (λ (k : Ledger). due_first k.sender) (sym (entered_ledger cell before now l e)) ∙ none_due (due_first l.sender) due
