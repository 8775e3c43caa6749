-- What was written when a loop ends.
use Rattle.std.proofs.Common.{◌≡◌, ◌≢◌, inl, inr, ℕ, zero, suc, ◌+◌, ◌<◌, ◌≤◌, Bool, true, List, [], ◌∷◌, ◌++◌, take, length, refl, sym, ap, subst, arith}
use Rattle.std.specs.Prelude.{slice_get, Option, Some, Ok, Err}
use Rattle.std.proofs.Math.Seq.{take-append-add}
use Rattle.flow_defs.specs.declared.task.ChannelId.{ChannelId}
use Rattle.flow_defs.specs.declared.cause.Cause.{Cause}
use Rattle.flow_defs.specs.declared.cause.Cause.TheVariants.{Done, Stopped, Input, Keeper, Link, LongLine, BigSource, BigImage, OverCredit, Peer, Memory}
use Rattle.net_frames.specs.Frames.{AreFrames, all_spelled}
use Rattle.outside.specs.Faults.{HasRisen}
use Rattle.outside.specs.Links.{Appended}
use Rattle.outside.proofs.Faults.{risen_before, risen_after}
use Rattle.reader_state.specs.declared.entry.ReaderEntry.{ReaderEntry}
use Rattle.reader_state.specs.Standing.{told_last}
use Rattle.conn_parts.specs.Shares.{seen_at}
use Rattle.conn_parts.specs.Messages.{Message, AreFrom, is_from_sender, closing}
use Rattle.conn_parts.specs.Writing.{AppendedFront, Wrote}
use Rattle.conn_parts.proofs.Appends.{spelled-append}
use Rattle.conn_parts.proofs.Telling.{appended_none, appended_more}
use Rattle.conn_send_items.specs.Fronts.{SendPass, backlog_after}
use Rattle.conn_send_items.specs.Sending.{IsSendCause}
use Rattle.conn_send_items.specs.Steps.{Sends, Writes, WritesUntil, WrittenUntil, HasWritten, SendsUntil, ClosedAs}
use Rattle.conn_send_items.proofs.Standing.{there}
use Rattle.conn_send_items.proofs.Saying.{sends_more, says_quiet, says_more, sends_none}

-- ---- fronts

-- A front behind bytes that were added whole.
pub front_behind : (a b c : Option (List ℕ)) (xs ys : List ℕ) → Appended a b xs → AppendedFront b c ys → AppendedFront a c (xs ++ ys)
front_behind a b c xs ys whole front =
    (length xs + front.0, subst (Appended a c) (sym (take-append-add xs ys front.0)) (appended_more a b c xs (take front.0 ys) whole front.1))

take_within : (n : ℕ) (xs ys : List ℕ) → (m : ℕ) × (take n xs ≡ take m (xs ++ ys))
take_within zero xs ys = (0, refl)
take_within (suc n) [] ys = (0, refl)
take_within (suc n) (x ∷ xs) ys = let r = take_within n xs ys in (suc r.0, ap (λ l. x ∷ l) r.1)

-- A front of bytes is one of more bytes.
pub front_of_more : (a b : Option (List ℕ)) (xs ys : List ℕ) → AppendedFront a b xs → AppendedFront a b (xs ++ ys)
front_of_more a b xs ys front = let r = take_within front.0 xs ys in (r.0, subst (Appended a b) r.1 front.1)

-- ---- rounds

module _ (channels : List ChannelId) where
  pub written_none : (a : List SendPass) (l : List ReaderEntry) (f : List Bool) (old : Option (List ℕ)) → HasWritten channels a a l l f f old old
  written_none a l f old = record { added = []; says = says_quiet channels a a l l f (sends_none channels a l); written = appended_none old }

  module _ (a b c : List SendPass) (l m n : List ReaderEntry) (f g h : List Bool) (o p q : Option (List ℕ)) (k r s : ℕ) (had : HasWritten channels a b l m f g o p) where
    pub written_more : {T E : Type 0} (x : T) → Writes channels b c m n g h p q r s {T = T} {E = E} (Ok x) → HasWritten channels a c l n f h o q
    written_more x more = record {
      added = had.added ++ more.added;
      says = says_more channels a b c l m n f g h had.added more.added had.says more.says;
      written = subst (Appended o q) (sym (spelled-append had.added more.added)) (appended_more o p q (all_spelled had.added) (all_spelled more.added) had.written more.written);
    }

    pub until_link : {T E : Type 0} (e : E) → k ≤ r → Writes channels b c m n g h p q r s {T = T} {E = E} (Err e) → WritesUntil channels a c l n f h o q k s Link
    until_link e le more = record {
      added = had.added ++ more.added;
      says = says_more channels a b c l m n f g h had.added more.added had.says more.says;
      cause_is = tt;
      written = (
        subst (AppendedFront o q) (sym (spelled-append had.added more.added)) (front_behind o p q (all_spelled had.added) (all_spelled more.added) had.written more.written.0),
        risen_before k r s le more.written.1,
      );
      all_ended = λ is. absurd (cc);
    }

  module _ (a b : List SendPass) (l m : List ReaderEntry) (f g : List Bool) (o p : Option (List ℕ)) (k r : ℕ) (had : HasWritten channels a b l m f g o p) where
    pub until_stopped : WritesUntil channels a b l m f g o p k r Stopped
    until_stopped = record { added = had.added; says = had.says; cause_is = tt; written = had.written; all_ended = λ is. absurd (cc) }

    pub until_done : ((i : ℕ) → i < length channels → slice_get g i ≡ Some true) → WritesUntil channels a b l m f g o p k r Done
    until_done all = record { added = had.added; says = had.says; cause_is = tt; written = had.written; all_ended = λ is. all }

  -- ---- from the first turn on

  pub until_all : (a b c : List SendPass) (l m n : List ReaderEntry) (f g : List Bool) (o p : Option (List ℕ)) (k r : ℕ) (cause : Cause) → l ≡ [] → ((i : ℕ) → slice_get f i ≢ Some true) →
      Sends channels a b l m [] → WritesUntil channels b c m n f g o p k r cause → ((i : ℕ) (d : ChannelId) → slice_get channels i ≡ Some d → told_last d n ≡ backlog_after (seen_at i c)) →
      SendsUntil channels a c n o p k r cause
  until_all a b c l m n f g o p k r cause new none quiet until last = record {
    added = until.added;
    frames = until.says.frames;
    direction = until.says.direction;
    sends = subst (λ own. Sends channels a c own n until.added) new (sends_more channels a b c l m n [] until.added quiet until.says.sends);
    written = until.written;
    ends = λ is i d at. elim (until.says.ends i d at (until.all_ended is i (there channels i d at).0)) [
      | inl was ↦ absurd (none i was)
      | inr end ↦ end
    ];
    last = λ _. last;
    cause_is = until.cause_is;
  }

  pub until_memory : (a : List SendPass) (l : List ReaderEntry) (o : Option (List ℕ)) (k : ℕ) → l ≡ [] → SendsUntil channels a a l o o k k Memory
  until_memory a l o k new = record {
    added = [];
    frames = tt;
    direction = tt;
    sends = subst (λ own. Sends channels a a own l []) new (sends_none channels a l);
    written = appended_none o;
    ends = λ is. absurd (cc);
    last = λ ne. absurd (ne refl);
    cause_is = tt;
  }

-- ---- the closing frame

-- What the closing frame makes of what was written before.
pub record Closes (messages : List Message) (old new : Option (List ℕ)) (fell rose : ℕ) (before after : Cause) : Type 0 where
  pub wrote : Wrote is_from_sender old new fell rose messages after
  pub cause_is : IsSendCause after
  pub was_done : after ≡ Done → before ≡ Done

module _ (messages : List Message) (frames : AreFrames messages) (direction : AreFrom is_from_sender messages) (o p q : Option (List ℕ)) (k l m : ℕ) (le : k ≤ l) (le' : l ≤ m) where
  wrote_whole : (cause : Cause) → (cause ≡ Link → ⊥) → Appended o p (all_spelled messages) → Appended p q closing → Wrote is_from_sender o q k m messages cause
  wrote_whole cause other before behind = let whole = appended_more o p q (all_spelled messages) closing before behind in record {
    frames = frames;
    direction = direction;
    bytes = inl whole;
    done = λ is. whole;
    stopped = λ is. whole;
    link = λ is. absurd (other is);
    never_falls = omega arith;
  }

  wrote_front : (cause : Cause) → (cause ≡ Done → ⊥) → (cause ≡ Stopped → ⊥) → Appended o p (all_spelled messages) → AppendedFront p q closing → HasRisen l m → Wrote is_from_sender o q k m messages cause
  wrote_front cause not_done not_stopped before behind rose = record {
    frames = frames;
    direction = direction;
    bytes = inr (front_behind o p q (all_spelled messages) closing before behind, risen_before k l m le rose);
    done = λ is. absurd (not_done is);
    stopped = λ is. absurd (not_stopped is);
    link = λ is. risen_before k l m le rose;
    never_falls = omega arith;
  }

  wrote_link : AppendedFront o p (all_spelled messages) → HasRisen k l → q ≡ p → Wrote is_from_sender o q k m messages Link
  wrote_link before rose same = record {
    frames = frames;
    direction = direction;
    bytes = inr (subst (λ r. AppendedFront o r (all_spelled messages ++ closing)) (sym same) (front_of_more o p (all_spelled messages) closing before), risen_after k l m rose le');
    done = λ is. absurd (cc);
    stopped = λ is. absurd (cc);
    link = λ is. risen_after k l m rose le';
    never_falls = omega arith;
  }

  failed_closing : (before : Cause) → Appended o p (all_spelled messages) → (after : Cause) → (after ≡ Link) × AppendedFront p q closing × HasRisen l m → Closes messages o q k m before after
  failed_closing before whole after (is, front, rose) = subst (Closes messages o q k m before) (sym is) (record {
    wrote = wrote_front Link (λ e. cc) (λ e. cc) whole front rose;
    cause_is = tt;
    was_done = λ e. absurd (cc);
  })

  pub closes : (before after : Cause) → IsSendCause before → WrittenUntil o p k l (all_spelled messages) before → ClosedAs p q l m before after → Closes messages o q k m before after
  closes Link after is written closed = subst (Closes messages o q k m Link) (sym closed.0) (record {
    wrote = wrote_link written.0 written.1 closed.1;
    cause_is = tt;
    was_done = λ e. absurd (cc);
  })
  closes Memory after is written closed = subst (Closes messages o q k m Memory) (sym closed.0) (record {
    wrote = elim closed.1 [
      | inl whole ↦ wrote_whole Memory (λ e. cc) written whole
      | inr front ↦ wrote_front Memory (λ e. cc) (λ e. cc) written front.0 front.1
    ];
    cause_is = tt;
    was_done = λ e. absurd (cc);
  })
  closes (Input s) after is written closed = absurd is
  closes Keeper after is written closed = absurd is
  closes (LongLine s) after is written closed = absurd is
  closes (BigSource s) after is written closed = absurd is
  closes BigImage after is written closed = absurd is
  closes (OverCredit c n a) after is written closed = absurd is
  closes (Peer fault) after is written closed = absurd is
  closes Done Done is written closed = record { wrote = wrote_whole Done (λ e. cc) written closed; cause_is = tt; was_done = λ e. refl }
  closes Done Stopped is written closed = failed_closing Done written Stopped closed
  closes Done (Input s) is written closed = failed_closing Done written (Input s) closed
  closes Done Keeper is written closed = failed_closing Done written Keeper closed
  closes Done Link is written closed = failed_closing Done written Link closed
  closes Done (LongLine s) is written closed = failed_closing Done written (LongLine s) closed
  closes Done (BigSource s) is written closed = failed_closing Done written (BigSource s) closed
  closes Done BigImage is written closed = failed_closing Done written BigImage closed
  closes Done Memory is written closed = failed_closing Done written Memory closed
  closes Done (OverCredit c n a) is written closed = failed_closing Done written (OverCredit c n a) closed
  closes Done (Peer fault) is written closed = failed_closing Done written (Peer fault) closed
  closes Stopped Stopped is written closed = record { wrote = wrote_whole Stopped (λ e. cc) written closed; cause_is = tt; was_done = λ e. absurd (cc) }
  closes Stopped Done is written closed = failed_closing Stopped written Done closed
  closes Stopped (Input s) is written closed = failed_closing Stopped written (Input s) closed
  closes Stopped Keeper is written closed = failed_closing Stopped written Keeper closed
  closes Stopped Link is written closed = failed_closing Stopped written Link closed
  closes Stopped (LongLine s) is written closed = failed_closing Stopped written (LongLine s) closed
  closes Stopped (BigSource s) is written closed = failed_closing Stopped written (BigSource s) closed
  closes Stopped BigImage is written closed = failed_closing Stopped written BigImage closed
  closes Stopped Memory is written closed = failed_closing Stopped written Memory closed
  closes Stopped (OverCredit c n a) is written closed = failed_closing Stopped written (OverCredit c n a) closed
  closes Stopped (Peer fault) is written closed = failed_closing Stopped written (Peer fault) closed

-- Where there was no memory that stays the cause.
pub memory_stays : (o p : Option (List ℕ)) (k l : ℕ) (before after : Cause) → ClosedAs o p k l before after → before ≡ Memory → after ≡ Memory
memory_stays o p k l before after closed is = let h = subst (λ b. ClosedAs o p k l b after) is closed in h.0
