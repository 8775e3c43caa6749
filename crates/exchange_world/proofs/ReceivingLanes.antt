-- A channel stays sound when its receiving end takes an entry.
use Rattle.std.proofs.Common.{◌≡◌, ℕ, suc, ◌+◌, ◌-◌, ◌≤◌, ◌⊎◌, inl, inr, Bool, true, false, cond, true≢false, List, [], ◌∷◌, ◌++◌, map, length, Option, refl, sym, ap, subst, ◌∙◌, arith, Some}
use Rattle.std.specs.Prelude.{option_to_list}
use Rattle.std.specs.List.{range_with_len}
use Rattle.flow_defs.specs.declared.parcel.Parcel.{Parcel}
use Rattle.flow_defs.specs.declared.parcel.Parcel.TheVariants.{Data, Barrier, End}
use Rattle.flow_defs.specs.Parcels.{barriers_of, has_end}
use Rattle.flow_defs.proofs.Lists.{no_cons, tail_same}
use Rattle.credit_reader.specs.declared.reader.Reader.{Reader}
use Rattle.input_channel.specs.declared.entry.Gave.TheVariants.{NoBuffer}
use Rattle.input_channel.specs.declared.entry.ReceiveEntry.TheVariants.{Push, Poll, Backlog, Added, Credit, Ask, Resume}
use Rattle.input_channel.specs.Inboxes.{Arrived, poll_gives, poll_leaves}
use Rattle.input_channel.specs.Counts.{Counts, data_in, told}
use Rattle.input_channel.specs.States.{OpenSave, line_leaves, reached_by, gained, channel_next}
use Rattle.input_channel.specs.Legal.{inline_in}
use Rattle.input_channel.proofs.InboxLaws.{inline_in-append}
use Rattle.exchange_world.specs.Lanes.{Lane, BUFFERS_MAX, floating_here}
use Rattle.exchange_world.specs.Sound.{AreFit, IsSoundInbox}
use Rattle.exchange_world.proofs.LaneLemmas.{AgreesOn, SoundOn}
use Rattle.exchange_world.proofs.Counting.{backlog-cons, inline-cons}
use Rattle.exchange_world.proofs.ReceivingInbox.{fit_first, fit_rest, inbox_pushed, inbox_told, inbox_added, inbox_saved}
use Rattle.exchange_world.proofs.ReceivingPolls.{Takes, inbox_polled, inline_polled, read_inbox, is_read}

-- ---- the first that is on the way arrives

-- the end has not come where something is to come
pub not_ended : (ended : Bool) (p : Parcel) (ps : List Parcel) → (ended ≡ true → p ∷ ps ≡ []) → ended ≡ false
not_ended true p ps h = absurd (no_cons p ps (h refl))
not_ended false p ps h = refl

ended_last : (size : ℕ) (p : Parcel) (ps : List Parcel) → AreFit size (p ∷ ps) → has_end (p ∷ []) ≡ true → ps ≡ []
ended_last size (Data bytes) ps fit e = absurd (true≢false (sym e))
ended_last size (Barrier k kind) ps fit e = absurd (true≢false (sym e))
ended_last size End ps fit e = fit

end_is : (p : Parcel) (ps : List Parcel) → has_end (p ∷ ps) ≡ true → (has_end (p ∷ []) ≡ true) ⊎ (has_end ps ≡ true)
end_is (Data bytes) ps e = inr e
end_is (Barrier k kind) ps e = inr e
end_is End ps e = inl refl

no_end_in : (p : Parcel) (ps : List Parcel) → has_end (p ∷ ps) ≡ false → (has_end (p ∷ []) ≡ false) × (has_end ps ≡ false)
no_end_in (Data bytes) ps e = (refl, e)
no_end_in (Barrier k kind) ps e = (refl, e)
no_end_in End ps e = absurd (true≢false e)

abbrev numbers_of : List Parcel → List ℕ
numbers_of ps = map (λ b. b.0) (barriers_of ps)

barriers_rest : (p : Parcel) (ps : List Parcel) (last : ℕ) → numbers_of (p ∷ ps) ≡ range_with_len (suc last) (length (barriers_of (p ∷ ps))) →
    numbers_of ps ≡ range_with_len (suc (last + length (barriers_of (p ∷ [])))) (length (barriers_of ps))
barriers_rest (Data bytes) ps last e = subst (λ n. numbers_of ps ≡ range_with_len (suc n) (length (barriers_of ps))) (let z : last ≡ last + 0 = omega arith in z) e
barriers_rest (Barrier k kind) ps last e =
    subst (λ n. numbers_of ps ≡ range_with_len n (length (barriers_of ps))) (let z : suc last + 1 ≡ suc (last + 1) = omega arith in z)
    (tail_same k (suc last) (numbers_of ps) (range_with_len (suc last + 1) (length (barriers_of ps))) e)
barriers_rest End ps last e = subst (λ n. numbers_of ps ≡ range_with_len (suc n) (length (barriers_of ps))) (let z : last ≡ last + 0 = omega arith in z) e

barriers_count : (p : Parcel) (ps : List Parcel) → length (barriers_of (p ∷ ps)) ≡ length (barriers_of (p ∷ [])) + length (barriers_of ps)
barriers_count (Data bytes) ps = omega arith
barriers_count (Barrier k kind) ps = omega arith
barriers_count End ps = omega arith

finished_then : (ended : Bool) (p : Parcel) (ps : List Parcel) → ended ≡ false → (ended ≡ true) ⊎ (has_end (p ∷ ps) ≡ true) → (has_end (p ∷ []) ≡ true) ⊎ (has_end ps ≡ true)
finished_then ended p ps not (inl e) = absurd (true≢false (sym e ∙ not))
finished_then ended p ps not (inr e) = end_is p ps e

module _ (size : ℕ) (lane : Lane) (r : Reader) (number : ℕ) (p : Parcel) (way : List (ℕ × Parcel)) (credit resumptions backlog : ℕ) where
  agree_pushed : AgreesOn size lane r ((number, p) ∷ way) credit resumptions → AgreesOn size (record lane { inbox = channel_next lane.inbox (Push p backlog) }) r way credit resumptions
  agree_pushed agree =
      let coming = map (λ (r : ℕ × Parcel). r.1) way in
      let behind = coming ++ lane.items in
      let no_end = not_ended lane.inbox.ended p behind agree.ended in
      record {
        numbered = agree.numbered.1;
        next = agree.next;
        credit_is = omega (arith, agree.credit_is, backlog-cons p coming);
        fit = fit_rest size p behind agree.fit;
        barriers = barriers_rest p behind lane.inbox.last agree.barriers;
        last = omega (arith, agree.last, barriers_count p behind);
        ended = ended_last size p behind agree.fit;
        finished = λ e. finished_then lane.inbox.ended p behind no_end (agree.finished e);
        unfinished = λ e. no_end_in p behind (agree.unfinished e).1;
        blocked = (let e : inline_in coming + inline_in (lane.inbox.queue ++ p ∷ []) + lane.inbox.owed + resumptions ≡ inline_in (p ∷ coming) + inline_in lane.inbox.queue + lane.inbox.owed + resumptions = omega (arith, inline-cons p coming, inline_in-append lane.inbox.queue (p ∷ [])) in e) ∙ agree.blocked;
      }

  pub pushed_on : (limit : ℕ) → SoundOn size limit lane r ((number, p) ∷ way) credit resumptions → SoundOn size limit (record lane { inbox = channel_next lane.inbox (Push p backlog) }) r way credit resumptions
  pushed_on limit sound =
      let coming = map (λ (r : ℕ × Parcel). r.1) way in
      let behind = coming ++ lane.items in
      let agree = sound.agree in
      record {
        sender = sound.sender;
        inbox = inbox_pushed size backlog lane.inbox p sound.inbox (not_ended lane.inbox.ended p behind agree.ended) (fit_first size p behind agree.fit) (omega (arith, agree.credit_is, backlog-cons p coming));
        agree = agree_pushed agree;
        room = sound.room;
        lent = sound.lent;
      }

-- ---- what changes buffers, and what waits, alone

module _ (size : ℕ) (lane : Lane) (r : Reader) (way : List (ℕ × Parcel)) (credit resumptions : ℕ) where
  pub agree_inbox : (queue : List Parcel) (line : List Arrived) (reached : ℕ) (save : Option OpenSave) (counts : Counts) (owed : ℕ) (rest : List ℕ) → inline_in queue + owed ≡ inline_in lane.inbox.queue + lane.inbox.owed → AgreesOn size lane r way credit resumptions →
      AgreesOn size (record lane { inbox = record lane.inbox { queue = queue; line = line; reached = reached; save = save; counts = counts; owed = owed }; rest = rest }) r way credit resumptions
  agree_inbox queue line reached save counts owed rest same agree = record {
    numbered = agree.numbered;
    next = agree.next;
    credit_is = agree.credit_is;
    fit = agree.fit;
    barriers = agree.barriers;
    last = agree.last;
    ended = agree.ended;
    finished = agree.finished;
    unfinished = agree.unfinished;
    blocked = (let coming = map (λ (r : ℕ × Parcel). r.1) way in let e : inline_in coming + inline_in queue + owed + resumptions ≡ inline_in coming + inline_in lane.inbox.queue + lane.inbox.owed + resumptions = omega (arith, same) in e) ∙ agree.blocked;
  }

  pub sound_inbox : (limit : ℕ) (queue : List Parcel) (line : List Arrived) (reached : ℕ) (save : Option OpenSave) (counts : Counts) (owed : ℕ) (rest : List ℕ) → inline_in queue + owed ≡ inline_in lane.inbox.queue + lane.inbox.owed → SoundOn size limit lane r way credit resumptions →
      IsSoundInbox size (record lane.inbox { queue = queue; line = line; reached = reached; save = save; counts = counts; owed = owed }) →
      SoundOn size limit (record lane { inbox = record lane.inbox { queue = queue; line = line; reached = reached; save = save; counts = counts; owed = owed }; rest = rest }) r way credit resumptions
  sound_inbox limit queue line reached save counts owed rest same sound inbox = record {
    sender = sound.sender;
    inbox = inbox;
    agree = agree_inbox queue line reached save counts owed rest same sound.agree;
    room = sound.room;
    lent = sound.lent;
  }

  pub told_on : (limit backlog : ℕ) → SoundOn size limit lane r way credit resumptions → SoundOn size limit (record lane { inbox = channel_next lane.inbox (Backlog backlog) }) r way credit resumptions
  told_on limit backlog sound = sound_inbox limit lane.inbox.queue lane.inbox.line lane.inbox.reached lane.inbox.save _ lane.inbox.owed lane.rest refl sound (inbox_told size backlog lane.inbox sound.inbox)

  pub added_on : (limit : ℕ) → SoundOn size limit lane r way credit resumptions → 3 + floating_here lane.inbox ≤ BUFFERS_MAX → SoundOn size limit (record lane { inbox = channel_next lane.inbox Added }) r way credit resumptions
  added_on limit sound few = sound_inbox limit lane.inbox.queue lane.inbox.line lane.inbox.reached lane.inbox.save _ lane.inbox.owed lane.rest refl sound (inbox_added size lane.inbox sound.inbox few)

  -- ---- what waits is polled

  pub polled_on : (limit : ℕ) (hold : Bool) (p : Parcel) → SoundOn size limit lane r way credit resumptions → Takes lane.inbox.queue p (poll_leaves hold lane.inbox.queue) → poll_gives hold lane.inbox.queue ≡ Some p → data_in p ≡ 0 →
      SoundOn size limit (record lane { inbox = channel_next lane.inbox (Poll hold NoBuffer) }) r way credit resumptions
  polled_on limit hold p sound takes gives none =
      sound_inbox limit (poll_leaves hold lane.inbox.queue) (line_leaves hold lane.inbox.line) (reached_by lane.inbox (poll_gives hold lane.inbox.queue)) (gained lane.inbox (poll_gives hold lane.inbox.queue) lane.inbox.save) lane.inbox.counts (lane.inbox.owed + inline_in (option_to_list (poll_gives hold lane.inbox.queue))) lane.rest
      (inline_polled hold lane.inbox.queue p lane.inbox.owed takes gives) sound (inbox_polled size hold lane.inbox p sound.inbox takes none)

  pub read_on : (limit : ℕ) (hold : Bool) (bytes rest : List ℕ) → SoundOn size limit lane r way credit resumptions → Takes lane.inbox.queue (Data bytes) (poll_leaves hold lane.inbox.queue) → poll_gives hold lane.inbox.queue ≡ Some (Data bytes) →
      SoundOn size limit (record lane { inbox = read_inbox lane.inbox hold bytes lane.inbox.counts.held; rest = rest }) r way credit resumptions
  read_on limit hold bytes rest sound takes gives =
      let now = read_inbox lane.inbox hold bytes lane.inbox.counts.held in
      sound_inbox limit (poll_leaves hold lane.inbox.queue) now.line now.reached now.save now.counts (lane.inbox.owed + inline_in (option_to_list (poll_gives hold lane.inbox.queue))) rest
      (inline_polled hold lane.inbox.queue (Data bytes) lane.inbox.owed takes gives) sound (is_read size hold lane.inbox bytes lane.inbox.counts.held sound.inbox takes refl).sound

  -- ---- a save is opened or closed

  pub saved_on : (limit : ℕ) (save : Option OpenSave) (saves : List ℕ) → SoundOn size limit lane r way credit resumptions → SoundOn size limit (record lane { inbox = record lane.inbox { save = save }; saves = saves }) r way credit resumptions
  saved_on limit save saves sound =
      let agree = sound.agree in
      record {
        sender = sound.sender;
        inbox = inbox_saved size lane.inbox save sound.inbox;
        agree = record {
          numbered = agree.numbered;
          next = agree.next;
          credit_is = agree.credit_is;
          fit = agree.fit;
          barriers = agree.barriers;
          last = agree.last;
          ended = agree.ended;
          finished = agree.finished;
          unfinished = agree.unfinished;
          blocked = agree.blocked;
        };
        room = sound.room;
        lent = sound.lent;
      }

  -- ---- credit and resumptions leave

  pub credited_on : (limit : ℕ) → SoundOn size limit lane r way credit resumptions → SoundOn size limit (record lane { inbox = channel_next lane.inbox (Credit (told lane.inbox.counts)) }) r way (credit + told lane.inbox.counts) resumptions
  credited_on limit sound =
      let agree = sound.agree in
      let inbox = sound.inbox in
      let all : told lane.inbox.counts ≡ lane.inbox.counts.pending = ap (λ b. cond b 0 lane.inbox.counts.pending) inbox.announces in
      record {
        sender = sound.sender;
        inbox = record {
          size_is = inbox.size_is;
          room_is = inbox.room_is;
          announces = inbox.announces;
          exclusive = inbox.exclusive;
          floating = inbox.floating;
          free_is = omega (arith, inbox.free_is, all);
          line = inbox.line;
          first = inbox.first;
          held = inbox.held;
          fit = inbox.fit;
          end = inbox.end;
          resumed = inbox.resumed;
        };
        agree = record {
          numbered = agree.numbered;
          next = agree.next;
          credit_is = omega (arith, agree.credit_is);
          fit = agree.fit;
          barriers = agree.barriers;
          last = agree.last;
          ended = agree.ended;
          finished = agree.finished;
          unfinished = agree.unfinished;
          blocked = agree.blocked;
        };
        room = sound.room;
        lent = sound.lent;
      }

  pub resumed_on : (limit : ℕ) → SoundOn size limit lane r way credit resumptions → 1 ≤ lane.inbox.owed → SoundOn size limit (record lane { inbox = channel_next (channel_next lane.inbox Ask) Resume }) r way credit (resumptions + 1)
  resumed_on limit sound some =
      let agree = sound.agree in
      let inbox = sound.inbox in
      let coming = map (λ (r : ℕ × Parcel). r.1) way in
      record {
        sender = sound.sender;
        inbox = record {
          size_is = inbox.size_is;
          room_is = inbox.room_is;
          announces = inbox.announces;
          exclusive = inbox.exclusive;
          floating = inbox.floating;
          free_is = inbox.free_is;
          line = inbox.line;
          first = inbox.first;
          held = inbox.held;
          fit = inbox.fit;
          end = inbox.end;
          resumed = omega (arith, inbox.resumed);
        };
        agree = record {
          numbered = agree.numbered;
          next = agree.next;
          credit_is = agree.credit_is;
          fit = agree.fit;
          barriers = agree.barriers;
          last = agree.last;
          ended = agree.ended;
          finished = agree.finished;
          unfinished = agree.unfinished;
          blocked = (let e : inline_in coming + inline_in lane.inbox.queue + (lane.inbox.owed - 1) + (resumptions + 1) ≡ inline_in coming + inline_in lane.inbox.queue + lane.inbox.owed + resumptions = omega (arith, some) in e) ∙ agree.blocked;
        };
        room = sound.room;
        lent = sound.lent;
      }
