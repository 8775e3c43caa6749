-- The histories of a channel's two ends, as the events of a connection make them: what stands in the world is
-- what they come to.
use Rattle.std.proofs.Common.{◌≡◌, ℕ, zero, suc, ◌+◌, ◌≤◌, Bool, true, false, cond, eqb, ◌||◌, List, [], ◌∷◌, ◌++◌, map, refl, sym, ap, subst, ◌∙◌, append_assoc, append-nil, arith}
use Rattle.std.specs.List.{range_with_len}
use Rattle.std.proofs.lemmas.List.{map-append}
use Rattle.flow_defs.specs.declared.task.BarrierKind.{BarrierKind}
use Rattle.flow_defs.specs.declared.parcel.Parcel.{Parcel}
use Rattle.flow_defs.specs.Parcels.{data_of, barriers_of}
use Rattle.flow_defs.specs.Records.{all_encoded}
use Rattle.turn_cell.specs.History.{StartsWith, entries_of}
use Rattle.turn_cell.proofs.Histories.{entries_of-append}
use Rattle.subpartition.specs.declared.entry.SendEntry.{SendEntry}
use Rattle.subpartition.specs.Sending.{Outbox, sent_from, outbox, taken, put, barriers_put, numbers_of}
use Rattle.subpartition.proofs.Travelling.{empty_outbox, sent_from-append, put-append, barriers_put-append}
use Rattle.input_channel.specs.declared.entry.ReceiveEntry.{ReceiveEntry}
use Rattle.input_channel.specs.declared.entry.ReceiveEntry.TheVariants as entries
use Rattle.input_channel.specs.Inboxes.{Inbox, inbox, received_one, pushed, polled_bytes, has_save}
use Rattle.input_channel.specs.Legal.{returned, polled_with, returns_kind, gives_kind, may_receive}
use Rattle.input_channel.specs.States.{ChannelState, channel_next, ChannelStandsFor, Allows}
use Rattle.input_channel.proofs.CountLemmas.{count-snoc}
use Rattle.input_channel.proofs.InboxLaws.{inbox-more, pushed-append}
use Rattle.input_channel.proofs.StateLaws.{calls_are_legal, calls_add_entries}
use Rattle.exchange_world.specs.Lanes.{Lane, has_number}
use Rattle.exchange_world.specs.Worlds.{World, lane_of}
use Rattle.exchange_world.specs.Sound.{coming}

-- What the entries of the receiving end tell: each buffer is back, these saves were opened, and these bytes were
-- polled and read but for the rest.
pub record Tells (es : List ReceiveEntry) (saves rest read : List ℕ) : Type 0 where
  pub back : (x : Bool) → returned x es ≡ polled_with x es
  pub opened : (j : ℕ) → has_save j es ≡ has_number j saves
  pub bytes : polled_bytes es ≡ read ++ rest

pub record IsReceiving (inbox : ChannelState) (saves rest read : List ℕ) (pairs : List (ℕ × ReceiveEntry)) : Type 0 where
  pub stands : ChannelStandsFor inbox pairs
  pub tells : Tells (entries_of pairs) saves rest read

abbrev pub Receives : Lane → List ℕ → List (ℕ × ReceiveEntry) → Type 0
Receives lane read pairs = IsReceiving lane.inbox lane.saves lane.rest read pairs

-- The entries of the two ends of a channel, with the bytes that were put, and those that were read.
pub record AreEnds (c : ℕ) (w : World) (xs : List SendEntry) (pairs : List (ℕ × ReceiveEntry)) (bytes read : List ℕ) : Type 0 where
  pub items : (outbox xs).items ≡ (lane_of w c).items
  pub taken_are : taken xs ≡ pushed (entries_of pairs) ++ coming c w
  pub put_are : put xs ≡ bytes
  pub numbers : numbers_of (barriers_put xs) ≡ range_with_len 1 (lane_of w c).barriers
  pub receives : Receives (lane_of w c) read pairs

-- There are more entries, of these records put and these read. No save was opened but for the barriers that pass the
-- test.
pub record StepsWith (opens : ℕ → Bool) (c : ℕ) (xs : List SendEntry) (pairs : List (ℕ × ReceiveEntry)) (bytes read : List ℕ) (put_now read_now : List (List ℕ)) (v : World) : Type 0 where
  pub sends : List SendEntry
  pub starts : StartsWith sends xs
  pub receives : List (ℕ × ReceiveEntry)
  pub begins : StartsWith receives pairs
  pub all_bytes : List ℕ
  pub bytes_are : all_bytes ≡ bytes ++ all_encoded put_now
  pub all_read : List ℕ
  pub read_are : all_read ≡ read ++ all_encoded read_now
  pub kept : (j : ℕ) → opens j ≡ false → has_save j (entries_of receives) ≡ has_save j (entries_of pairs)
  pub next : AreEnds c v sends receives all_bytes all_read

abbrev pub no_saves : ℕ → Bool
no_saves j = false

abbrev pub Steps : ℕ → List SendEntry → List (ℕ × ReceiveEntry) → List ℕ → List ℕ → List (List ℕ) → List (List ℕ) → World → Type 0
Steps = StepsWith no_saves

pub same_start : {A : Type 0} (xs : List A) → StartsWith xs xs
same_start xs = ([], sym (append-nil xs))

pub start_twice : {A : Type 0} (xs ys zs : List A) → StartsWith ys xs → StartsWith zs ys → StartsWith zs xs
start_twice xs ys zs first second = (first.0 ++ second.0, second.1 ∙ ap (λ l. l ++ second.0) first.1 ∙ append_assoc xs first.0 second.0)

-- ---- a channel that stays

module _ (c : ℕ) (w : World) (xs : List SendEntry) (pairs : List (ℕ × ReceiveEntry)) (bytes read : List ℕ) where
  same_ends : (v : World) → lane_of v c ≡ lane_of w c → coming c v ≡ coming c w → AreEnds c w xs pairs bytes read → AreEnds c v xs pairs bytes read
  same_ends v lane way ends = record {
    items = ends.items ∙ ap (λ (l : Lane). l.items) (sym lane);
    taken_are = ends.taken_are ∙ ap (λ ps. pushed (entries_of pairs) ++ ps) (sym way);
    put_are = ends.put_are;
    numbers = ends.numbers ∙ ap (λ (l : Lane). range_with_len 1 l.barriers) (sym lane);
    receives = subst (λ (l : Lane). Receives l read pairs) (sym lane) ends.receives;
  }

  -- the entries are these, and no record was put or read
  pub no_records : AreEnds c w xs pairs bytes read → (v : World) (sends : List SendEntry) (receives : List (ℕ × ReceiveEntry)) → StartsWith sends xs → StartsWith receives pairs → (lane_of v c).saves ≡ (lane_of w c).saves → AreEnds c v sends receives bytes read → Steps c xs pairs bytes read [] [] v
  no_records ends v sends receives starts begins saves next = record {
    sends = sends;
    starts = starts;
    receives = receives;
    begins = begins;
    all_bytes = bytes;
    bytes_are = sym (append-nil bytes);
    all_read = read;
    read_are = sym (append-nil read);
    kept = λ j is_not. next.receives.tells.opened j ∙ ap (has_number j) saves ∙ sym (ends.receives.tells.opened j);
    next = next;
  }

  pub nothing : (v : World) → lane_of v c ≡ lane_of w c → coming c v ≡ coming c w → AreEnds c w xs pairs bytes read → Steps c xs pairs bytes read [] [] v
  nothing v lane way ends = no_records ends v xs pairs (same_start xs) (same_start pairs) (ap (λ (l : Lane). l.saves) lane) (same_ends v lane way ends)

-- one step and then one with no records
pub steps_then : (c : ℕ) (xs : List SendEntry) (pairs : List (ℕ × ReceiveEntry)) (bytes read : List ℕ) (put_now read_now : List (List ℕ)) (u v : World) (first : Steps c xs pairs bytes read put_now read_now u)
    → Steps c first.sends first.receives first.all_bytes first.all_read [] [] v → Steps c xs pairs bytes read put_now read_now v
steps_then c xs pairs bytes read put_now read_now u v first second = record {
  sends = second.sends;
  starts = start_twice xs first.sends second.sends first.starts second.starts;
  receives = second.receives;
  begins = start_twice pairs first.receives second.receives first.begins second.begins;
  all_bytes = second.all_bytes;
  bytes_are = second.bytes_are ∙ append-nil first.all_bytes ∙ first.bytes_are;
  all_read = second.all_read;
  read_are = second.read_are ∙ append-nil first.all_read ∙ first.read_are;
  kept = λ j is_not. second.kept j refl ∙ first.kept j is_not;
  next = second.next;
}

-- ---- the sending end goes on

module _ (c : ℕ) (w : World) (xs : List SendEntry) (pairs : List (ℕ × ReceiveEntry)) (bytes read : List ℕ) (ends : AreEnds c w xs pairs bytes read) where
  pub sent_ends : (v : World) (more : List SendEntry) (items : List Parcel) (barriers : ℕ) (finished : Bool) (moved : List Parcel) (added : List ℕ)
      → lane_of v c ≡ record (lane_of w c) { items = items; barriers = barriers; finished = finished } → coming c v ≡ coming c w ++ moved
      → ((before : List Parcel) → let o : Outbox = record { taken = before; items = (lane_of w c).items } in let n : Outbox = record { taken = before ++ moved; items = items } in sent_from o more ≡ n)
      → put more ≡ added → range_with_len 1 (lane_of w c).barriers ++ numbers_of (barriers_put more) ≡ range_with_len 1 barriers
      → AreEnds c v (xs ++ more) pairs (bytes ++ added) read
  sent_ends v more items barriers finished moved added lane way goes put_is numbers =
      let now : outbox (xs ++ more) ≡ (let n : Outbox = record { taken = taken xs ++ moved; items = items } in n) =
      sent_from-append empty_outbox xs more ∙ ap (λ is. let o : Outbox = record { taken = taken xs; items = is } in sent_from o more) ends.items ∙ goes (taken xs) in
      record {
        items = ap (λ (o : Outbox). o.items) now ∙ ap (λ (l : Lane). l.items) (sym lane);
        taken_are = ap (λ (o : Outbox). o.taken) now ∙ ap (λ ps. ps ++ moved) ends.taken_are
            ∙ append_assoc (pushed (entries_of pairs)) (coming c w) moved ∙ ap (λ ps. pushed (entries_of pairs) ++ ps) (sym way);
        put_are = put-append xs more ∙ ap (λ bs. bs ++ put more) ends.put_are ∙ ap (λ bs. bytes ++ bs) put_is;
        numbers = ap numbers_of (barriers_put-append xs more) ∙ map-append (λ (b : ℕ × BarrierKind). b.0) (barriers_put xs) (barriers_put more)
            ∙ ap (λ ns. ns ++ numbers_of (barriers_put more)) ends.numbers ∙ numbers ∙ ap (λ (l : Lane). range_with_len 1 l.barriers) (sym lane);
        receives = subst (λ (l : Lane). Receives l read pairs) (sym lane) ends.receives;
      }

-- ---- the receiving end takes an entry

abbrev pub one_if : Bool → ℕ
one_if b = cond b 1 0

or_false : (b : Bool) → (b || false) ≡ b
or_false true = refl
or_false false = refl

or_assoc : (a b d : Bool) → (a || (b || d)) ≡ ((a || b) || d)
or_assoc true b d = refl
or_assoc false b d = refl

pub has_save-append : (j : ℕ) (xs ys : List ReceiveEntry) → has_save j (xs ++ ys) ≡ (has_save j xs || has_save j ys)
has_save-append j [] ys = refl
has_save-append j (entries.Save k rest ∷ xs) ys = ap (λ b. eqb k j || b) (has_save-append j xs ys) ∙ or_assoc (eqb k j) (has_save j xs) (has_save j ys)
has_save-append j (e ∷ xs) ys = has_save-append j xs ys

-- An entry that polls nothing, gives no buffer back and opens no save.
pub record IsQuietEntry (e : ReceiveEntry) : Type 0 where
  pub returns : (x : Bool) → returns_kind x e ≡ false
  pub gives : (x : Bool) → gives_kind x e ≡ false
  pub saves : (j : ℕ) → has_save j (e ∷ []) ≡ false
  pub given : (i : Inbox) → (received_one i e).given ≡ i.given

pub tells_quiet : (es : List ReceiveEntry) (e : ReceiveEntry) (saves rest read : List ℕ) → IsQuietEntry e → Tells es saves rest read → Tells (es ++ e ∷ []) saves rest read
tells_quiet es e saves rest read quiet tells = record {
  back = λ x.
      let one = count-snoc (returns_kind x) es e in
      let two = count-snoc (gives_kind x) es e in
      let none : one_if (returns_kind x e) ≡ 0 = ap (λ b. cond b 1 0) (quiet.returns x) in
      let no_more : one_if (gives_kind x e) ≡ 0 = ap (λ b. cond b 1 0) (quiet.gives x) in
      let before = tells.back x in
      omega (arith, one, two, none, no_more, before);
  opened = λ j. has_save-append j es (e ∷ []) ∙ ap (λ b. has_save j es || b) (quiet.saves j) ∙ or_false (has_save j es) ∙ tells.opened j;
  bytes = ap (λ (i : Inbox). data_of i.given) (inbox-more es e) ∙ ap data_of (quiet.given (inbox es)) ∙ tells.bytes;
}

pub stands_more : (s : ChannelState) (pairs : List (ℕ × ReceiveEntry)) (n : ℕ) (e : ReceiveEntry) → ChannelStandsFor s pairs → may_receive n e ≡ true → Allows s (entries_of pairs) e
    → ChannelStandsFor (channel_next s e) (pairs ++ (n, e) ∷ [])
stands_more s pairs n e stands pass allows = calls_add_entries s pairs n e stands (pass, calls_are_legal s pairs e stands allows)

pub receiving_more : (s : ChannelState) (saves rest read : List ℕ) (pairs : List (ℕ × ReceiveEntry)) (n : ℕ) (e : ReceiveEntry) (saves_now rest_now read_now : List ℕ) → IsReceiving s saves rest read pairs
    → may_receive n e ≡ true → Allows s (entries_of pairs) e → Tells (entries_of pairs ++ e ∷ []) saves_now rest_now read_now → IsReceiving (channel_next s e) saves_now rest_now read_now (pairs ++ (n, e) ∷ [])
receiving_more s saves rest read pairs n e saves_now rest_now read_now r pass allows tells = record {
  stands = stands_more s pairs n e r.stands pass allows;
  tells = subst (λ es. Tells es saves_now rest_now read_now) (sym (entries_of-append pairs ((n, e) ∷ []))) tells;
}

module _ (c : ℕ) (w : World) (xs : List SendEntry) (pairs : List (ℕ × ReceiveEntry)) (bytes read : List ℕ) (ends : AreEnds c w xs pairs bytes read) where
  pub received_ends : (v : World) (more : List (ℕ × ReceiveEntry)) (s : ChannelState) (saves rest read_now : List ℕ)
      → lane_of v c ≡ record (lane_of w c) { inbox = s; rest = rest; saves = saves } → coming c w ≡ pushed (entries_of more) ++ coming c v
      → IsReceiving s saves rest read_now (pairs ++ more) → AreEnds c v xs (pairs ++ more) bytes read_now
  received_ends v more s saves rest read_now lane way receives = record {
    items = ends.items ∙ ap (λ (l : Lane). l.items) (sym lane);
    taken_are = ends.taken_are ∙ ap (λ ps. pushed (entries_of pairs) ++ ps) way ∙ sym (append_assoc (pushed (entries_of pairs)) (pushed (entries_of more)) (coming c v))
        ∙ ap (λ ps. ps ++ coming c v) (sym (ap pushed (entries_of-append pairs more) ∙ pushed-append (entries_of pairs) (entries_of more)));
    put_are = ends.put_are;
    numbers = ends.numbers ∙ ap (λ (l : Lane). range_with_len 1 l.barriers) (sym lane);
    receives = subst (λ (l : Lane). Receives l read_now (pairs ++ more)) (sym lane) receives;
  }

  -- a quiet entry
  pub quiet_steps : (v : World) (n : ℕ) (e : ReceiveEntry) → lane_of v c ≡ record (lane_of w c) { inbox = channel_next (lane_of w c).inbox e } → coming c w ≡ pushed (e ∷ []) ++ coming c v
      → IsQuietEntry e → may_receive n e ≡ true → Allows (lane_of w c).inbox (entries_of pairs) e → Steps c xs pairs bytes read [] [] v
  quiet_steps v n e lane way quiet pass allows =
      let l = lane_of w c in
      let receives = receiving_more l.inbox l.saves l.rest read pairs n e l.saves l.rest read ends.receives pass allows (tells_quiet (entries_of pairs) e l.saves l.rest read quiet ends.receives.tells) in
      no_records c w xs pairs bytes read ends v xs (pairs ++ (n, e) ∷ []) (same_start xs) ((n, e) ∷ [], refl) (ap (λ (l : Lane). l.saves) lane)
      (received_ends v ((n, e) ∷ []) (channel_next l.inbox e) l.saves l.rest read lane way receives)
