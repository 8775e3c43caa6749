-- What entries leave as it was: the channels, and what was told to a reader.
use Rattle.std.proofs.Common.{◌≡◌, ℕ, ◌-◌, Bool, true, false, cond, eqb, List, [], ◌∷◌, ◌++◌, map, Option, Some, None, refl, sym, ap, ◌∙◌}
use Rattle.std.specs.Prelude.{Result, Ok, Err, OnOk, OnErr}
use Rattle.std.specs.Option.{option_map, option_map_or}
use Rattle.flow_defs.specs.declared.task.ChannelId.{ChannelId}
use Rattle.flow_defs.specs.declared.task.Head.{Head}
use Rattle.credit_reader.specs.declared.reader.Reader.{Reader}
use Rattle.credit_reader.specs.declared.reader.SentKind.{SentKind}
use Rattle.credit_reader.specs.Readers.{Happening, Asked, Granted, Resumed, Ready, Sent, Announced, reader_next}
use Rattle.credit_reader.specs.Senders.{Sender, is_same, reader_of, after_at, happened, has_sent}
use Rattle.credit_reader.specs.Answers.{due_first, announced}
use Rattle.credit_reader.proofs.Channels.{reader_after, channels_after}
use Rattle.reader_state.specs.declared.state.Early.{Early}
use Rattle.reader_state.specs.declared.entry.ReaderEntry.{ReaderEntry}
use Rattle.reader_state.specs.declared.entry.ReaderEntry.TheVariants as entry
use Rattle.reader_state.specs.Ledgers as ledgers
use Rattle.reader_state.specs.Ledgers.{Ledger, channels_of, early_of, with_early, with_reader, fitting, credit_given, may_resume, resumption_given, settled, is_requested}

-- the channels of readers
abbrev pub names_of : Sender → List ChannelId
names_of s = map (λ r. r.channel) s.readers

pub names_happened : (c : ChannelId) (h : Happening) (s t : Sender) → t ≡ happened c h s → names_of t ≡ names_of s
names_happened c h s t is = ap names_of is ∙ channels_after c h s.readers

-- a call that makes something happen, or is refused
pub names_called : {E : Type 0} (c : ChannelId) (h : Happening) (s t : Sender) (result : Result (Unit {0}) E) → OnOk result (t ≡ happened c h s) → OnErr result (t ≡ s) → names_of t ≡ names_of s
names_called c h s t (Ok done) ok err = names_happened c h s t ok
names_called c h s t (Err fault) ok err = ap names_of err

pub names_announced : (s t : Sender) → t ≡ announced s → names_of t ≡ names_of s
names_announced s t is =
    ap names_of is ∙ (elim (due_first s) as (λ o. names_of (option_map_or (λ r. happened r.channel Announced s) o s) ≡ names_of s) [
      | None ↦ refl
      | Some r ↦ channels_after r.channel Announced s.readers
    ])

-- ---- what giving leaves as it was

module _ {X : Type 0} (P : List Reader → X) (granted : (c : ChannelId) (n : ℕ) (rs : List Reader) → P (after_at c (Granted n) rs) ≡ P rs) (resumed : (c : ChannelId) (rs : List Reader) → P (after_at c Resumed rs) ≡ P rs) where
  credit_keeps : (c : ChannelId) (n : ℕ) (l : Ledger) → P (credit_given c n l).sender.readers ≡ P l.sender.readers
  credit_keeps c n l =
      elim (eqb n 0) as (λ b. P (cond b l (with_early c (λ e. record e { credit = e.credit - n }) (with_reader c (Granted n) l))).sender.readers ≡ P l.sender.readers) [ true ↦ refl | false ↦ granted c n l.sender.readers ]

  resumption_keeps : (c : ChannelId) (l : Ledger) → P (resumption_given c l).sender.readers ≡ P l.sender.readers
  resumption_keeps c l =
      elim (may_resume c l) as (λ b. P (cond b (with_early c (λ e. record e { resumptions = e.resumptions - 1 }) (with_reader c Resumed l)) l).sender.readers ≡ P l.sender.readers) [ true ↦ resumed c l.sender.readers | false ↦ refl ]

  pub settled_keeps : (c : ChannelId) (l : Ledger) → P (settled c l).sender.readers ≡ P l.sender.readers
  settled_keeps c l = resumption_keeps c (credit_given c (fitting c l) l) ∙ credit_keeps c (fitting c l) l

-- ---- the channels

pub channels_stay : (l : Ledger) (e : ReaderEntry) → channels_of (ledgers.ledger_next l e) ≡ channels_of l
channels_stay l (entry.Ready c head backlog) = channels_after c (Ready head backlog) l.sender.readers
channels_stay l (entry.Sent c what head backlog) =
    settled_keeps (map (λ (r : Reader). r.channel)) (λ d n rs. channels_after d (Granted n) rs) (λ d rs. channels_after d Resumed rs) c _
    ∙ channels_after c (Sent what head backlog) l.sender.readers
channels_stay l (entry.Told c) = channels_after c Announced l.sender.readers
channels_stay l (entry.Asked c n) = channels_after c (Asked n) l.sender.readers
channels_stay l (entry.Granted c n) = settled_keeps (map (λ (r : Reader). r.channel)) (λ d n rs. channels_after d (Granted n) rs) (λ d rs. channels_after d Resumed rs) c _
channels_stay l (entry.Resumed c) = settled_keeps (map (λ (r : Reader). r.channel)) (λ d n rs. channels_after d (Granted n) rs) (λ d rs. channels_after d Resumed rs) c _

-- ---- what is known of the reader of a channel

module _ {X : Type 0} (f : Reader → X) where
  -- what f tells of the reader of a channel
  abbrev pub told : ChannelId → List Reader → Option X
  told c rs = option_map f (reader_of c rs)

  told_some : (b : Bool) (g : Reader → Reader) → ((r : Reader) → f (g r) ≡ f r) → (o : Option Reader) → option_map f (option_map (λ r. cond b (g r) r) o) ≡ option_map f o
  told_some true g same None = refl
  told_some true g same (Some r) = ap Some (same r)
  told_some false g same None = refl
  told_some false g same (Some r) = refl

  -- a happening that f doesn't see
  pub told_stays : (h : Happening) → ((r : Reader) → f (reader_next r h) ≡ f r) → (c d : ChannelId) (rs : List Reader) → told c (after_at d h rs) ≡ told c rs
  told_stays h same c d rs = ap (option_map f) (reader_after d h c rs) ∙ told_some (is_same c d) (λ r. reader_next r h) same (reader_of c rs)

  -- what happens to another reader
  pub told_other : (h : Happening) (c d : ChannelId) (rs : List Reader) → is_same c d ≡ false → told c (after_at d h rs) ≡ told c rs
  told_other h c d rs other = ap (option_map f) (reader_after d h c rs ∙ ap (λ b. option_map (λ r. cond b (reader_next r h) r) (reader_of c rs)) other) ∙ told_some false (λ r. r) (λ r. refl) (reader_of c rs)

pub names_sent : (c : ChannelId) (what : SentKind) (head : Head) (backlog : ℕ) (s t : Sender) → t ≡ has_sent c what head backlog s → names_of t ≡ names_of s
names_sent c what head backlog s t is = ap names_of is ∙ channels_after c (Sent what head backlog) s.readers

pub names_settled : (c : ChannelId) (l : Ledger) → names_of (settled c l).sender ≡ names_of l.sender
names_settled c l = settled_keeps (map (λ (r : Reader). r.channel)) (λ d n rs. channels_after d (Granted n) rs) (λ d rs. channels_after d Resumed rs) c l

-- ---- who was requested

asked_as_told : (o : Option Reader) → option_map_or (λ r. r.requested) o false ≡ option_map_or (λ b. b) (option_map (λ (r : Reader). r.requested) o) false
asked_as_told None = refl
asked_as_told (Some r) = refl

-- who was requested is requested still, where readers tell the same of it
pub asked_same : (c : ChannelId) (rs qs : List Reader) → told (λ r. r.requested) c qs ≡ told (λ r. r.requested) c rs → option_map_or (λ r. r.requested) (reader_of c qs) false ≡ option_map_or (λ r. r.requested) (reader_of c rs) false
asked_same c rs qs same = asked_as_told (reader_of c qs) ∙ ap (λ o. option_map_or (λ b. b) o false) same ∙ sym (asked_as_told (reader_of c rs))

pub asked_credit : (c : ChannelId) (n : ℕ) (l : Ledger) → is_requested c (credit_given c n l) ≡ is_requested c l
asked_credit c n l = asked_same c l.sender.readers (credit_given c n l).sender.readers (
    credit_keeps (told (λ r. r.requested) c) (λ d m rs. told_stays (λ r. r.requested) (Granted m) (λ r. refl) c d rs) (λ d rs. told_stays (λ r. r.requested) Resumed (λ r. refl) c d rs) c n l)

pub asked_sent : (c : ChannelId) (what : SentKind) (head : Head) (backlog : ℕ) (s t : Sender) → t ≡ has_sent c what head backlog s → option_map_or (λ r. r.requested) (reader_of c t.readers) false ≡ option_map_or (λ r. r.requested) (reader_of c s.readers) false
asked_sent c what head backlog s t is = ap (λ (u : Sender). option_map_or (λ r. r.requested) (reader_of c u.readers) false) is ∙ asked_same c s.readers _ (told_stays (λ r. r.requested) (Sent what head backlog) (λ r. refl) c c s.readers)
