-- A channel keeps what its history tells.
use Rattle.std.proofs.Common.{◌≡◌, ℕ, suc, ◌+◌, ◌-◌, ◌<◌, ◌≤◌, ◌%◌, ◌^◌, Bool, true, false, cond, List, [], ◌∷◌, ◌++◌, map, length, Option, Some, None, refl, sym, ap, subst, ◌∙◌, append-nil, length-append, arith}
use Rattle.std.specs.Prelude.{◌&&◌, option_to_list, option_map}
use Rattle.std.specs.List.{range_with_len}
use Rattle.flow_defs.specs.declared.task.BarrierKind.{BarrierKind}
use Rattle.flow_defs.specs.declared.parcel.Parcel.{Parcel}
use Rattle.flow_defs.specs.declared.parcel.Parcel.TheVariants.{Data, Barrier, End}
use Rattle.flow_defs.specs.Parcels.{barriers_of, has_end}
use Rattle.input_channel.specs.declared.entry.Gave.{Gave}
use Rattle.input_channel.specs.declared.entry.ReceiveEntry.{ReceiveEntry}
use Rattle.input_channel.specs.declared.entry.ReceiveEntry.TheVariants.{Push, Poll, Returned, Added, Backlog, Credit, Shut, Ask, Resume, Save, Saved}
use Rattle.input_channel.specs.Inboxes.{Arrived, Waits, parcel_of, waiting, due, is_barrier, poll_due, Inbox, inbox, received_one, pushed, poll_gives, poll_leaves, polled_bytes, waiting_before, has_save}
use Rattle.input_channel.specs.Counts.{Counts, counts_one, told, wants, gave_by, data_in, exclusive_held, Numbers, numbers, numbers_one}
use Rattle.turn_cell.specs.History.{IsHistory, entries_of}
use Rattle.turn_cell.proofs.Histories.{history_nil, history_more, history_keeps, entries_of-append}
use Rattle.input_channel.specs.Legal.{MayArrive, MayPush, MaySave, MayClose, MayReceive, MayReceiveAs, inline_in, is_ask, is_resume, asks, resumes, open_from, open_save, ReceivedByPasses}
use Rattle.input_channel.specs.States.{OpenSave, ChannelState, from_waiting, line_leaves, polled_barriers, reached_by, gain, gained, channel_next, IsLine, barriers_reached, SaveIs, Keeps, AllowsPush, AllowsSave, IsOpen, Allows}
use Rattle.input_channel.specs.Theorems.{OpensEmpty, CallsAreLegal, CallsAddEntries, PollTells, SavedTells, OpenSaveIsTold, ReturnFits, PassesAreKept, EntriesAreLegal}
use Rattle.input_channel.proofs.CountLemmas.{count-snoc}
use Rattle.flow_defs.proofs.ParcelLemmas.{barriers_of-append, end_behind}
use Rattle.input_channel.proofs.InboxLaws.{arrivals_are_pushed, barriers_come_in_order, inbox-more, pushed-append, waiting-append, polled-waiting, polled-given, inline_in-append}
use Rattle.input_channel.proofs.LegalLaws.{numbers-more, AreTwo, two_always, arrivals_are_numbered}
use Rattle.input_channel.proofs.DataLaws.{always_kept, IsInOrder}
use Rattle.input_channel.proofs.LineLaws.{AreNumbered, past-waiting, past-poll_due, line_more, line_polled, passed_are, is_passed, gains, waiting_before-gone}
use Rattle.input_channel.proofs.ReachLaws.{later-reached, poll_reaches, in_time}
use Rattle.input_channel.proofs.SavingLaws.{still_saves, push_saves, poll_saves, save_saves, close_saves, has_come, is_in_turn}

-- ---- sums that are reduced

mod_64 : (a d : ℕ) → (a % 2 ^ 64 + d) % 2 ^ 64 ≡ (a + d) % 2 ^ 64
mod_64 a d = omega arith

mod_32 : (a d : ℕ) → (a % 2 ^ 32 + d) % 2 ^ 32 ≡ (a + d) % 2 ^ 32
mod_32 a d = omega arith

-- ---- what an entry adds

record Adds (es : List ReceiveEntry) (e : ReceiveEntry) : Type 0 where
  inboxes : inbox (es ++ e ∷ []) ≡ received_one (inbox es) e
  numbers : numbers (es ++ e ∷ []) ≡ numbers_one (numbers es) e
  pushes : pushed (es ++ e ∷ []) ≡ pushed es ++ pushed (e ∷ [])
  asked : asks (es ++ e ∷ []) ≡ asks es + cond (is_ask e) 1 0
  resumed : resumes (es ++ e ∷ []) ≡ resumes es + cond (is_resume e) 1 0

adds : (es : List ReceiveEntry) (e : ReceiveEntry) → Adds es e
adds es e = record { inboxes = inbox-more es e; numbers = numbers-more es e; pushes = pushed-append es (e ∷ []); asked = count-snoc is_ask es e; resumed = count-snoc is_resume es e }

-- what the parcels are told by does not change where none is pushed
record SamePushes (es : List ReceiveEntry) (e : ReceiveEntry) : Type 0 where
  next : length (pushed (es ++ e ∷ [])) ≡ length (pushed es)
  last : length (barriers_of (pushed (es ++ e ∷ []))) ≡ length (barriers_of (pushed es))
  ended : has_end (pushed (es ++ e ∷ [])) ≡ has_end (pushed es)

same_pushes : (es : List ReceiveEntry) (e : ReceiveEntry) → pushed (e ∷ []) ≡ [] → SamePushes es e
same_pushes es e none =
    let same : pushed (es ++ e ∷ []) ≡ pushed es = pushed-append es (e ∷ []) ∙ ap (λ ps. pushed es ++ ps) none ∙ append-nil (pushed es) in
    record { next = ap length same; last = ap (λ ps. length (barriers_of ps)) same; ended = ap has_end same }

-- ---- the entries that leave the queue, the credit and the resumptions

quiet : (c : ChannelState) (es : List ReceiveEntry) (e : ReceiveEntry) → Keeps c es → pushed (e ∷ []) ≡ [] → received_one (inbox es) e ≡ inbox es → open_from (open_save es) (e ∷ []) ≡ open_save es →
    numbers_one (numbers es) e ≡ record { counts = counts_one (numbers es).counts e; announced = (numbers es).announced; received = (numbers es).received } →
    is_ask e ≡ false → is_resume e ≡ false → Keeps (record c { counts = counts_one c.counts e }) (es ++ e ∷ [])
quiet c es e k none still stays same no_ask no_resume =
    let a = adds es e in
    let s = same_pushes es e none in
    let at : inbox (es ++ e ∷ []) ≡ inbox es = a.inboxes ∙ still in
    let now = a.numbers ∙ same in
    let asked = a.asked ∙ ap (λ b. asks es + cond b 1 0) no_ask in
    let resumed = a.resumed ∙ ap (λ b. resumes es + cond b 1 0) no_resume in
    let owed = k.owed in
    let mine = k.asked in
    let given : inline_in (inbox (es ++ e ∷ [])).given ≡ inline_in (inbox es).given = ap (λ (i : Inbox). inline_in i.given) at in
    record {
      queue = k.queue ∙ ap (λ (i : Inbox). waiting i.arrivals) (sym at);
      line = subst (λ (i : Inbox). IsLine c.line i.arrivals) (sym at) k.line;
      reached = k.reached ∙ ap (λ (i : Inbox). barriers_reached i.arrivals) (sym at);
      save = still_saves es e c.save stays none at k.save;
      counts = ap (λ d. counts_one d e) k.counts ∙ ap (λ (n : Numbers). n.counts) (sym now);
      credit = ap (λ (n : Numbers). c.credit + n.received) now ∙ k.credit ∙ ap (λ (n : Numbers). n.announced) (sym now);
      announced = k.announced ∙ ap (λ (n : Numbers). n.announced % 2 ^ 64) (sym now);
      received = k.received ∙ ap (λ (n : Numbers). n.received % 2 ^ 64) (sym now);
      next = k.next ∙ ap (λ n. n % 2 ^ 32) (sym s.next);
      last = k.last ∙ sym s.last;
      ended = k.ended ∙ sym s.ended;
      owed = omega (arith, owed, asked, given);
      asked = omega (arith, mine, asked, resumed);
    }

-- ---- a push

fits_credit : (es : List ReceiveEntry) (p : Parcel) (credit : ℕ) → MayArrive es p → credit + (numbers es).received ≡ (numbers es).announced → data_in p ≤ credit
fits_credit es (Data bytes) credit may e = omega (arith, may, e)
fits_credit es (Barrier k kind) credit may e = omega arith
fits_credit es End credit may e = omega arith

push_keeps : (c : ChannelState) (es : List ReceiveEntry) (p : Parcel) (backlog : ℕ) → Keeps c es → MayPush es p → Keeps (channel_next c (Push p backlog)) (es ++ Push p backlog ∷ [])
push_keeps c es p backlog k may =
    let e : ReceiveEntry = Push p backlog in
    let a = adds es e in
    let low = fits_credit es p c.credit may.fits k.credit in
    let owed = k.owed in
    let mine = k.asked in
    let asked = a.asked in
    let resumed = a.resumed in
    let credit = k.credit in
    let given : inline_in (inbox (es ++ e ∷ [])).given ≡ inline_in (inbox es).given = ap (λ (i : Inbox). inline_in i.given) a.inboxes in
    let longer : length (pushed (es ++ e ∷ [])) ≡ length (pushed es) + 1 = ap length a.pushes ∙ length-append (pushed es) (p ∷ []) in
    record {
      queue = ap (λ ps. ps ++ p ∷ []) k.queue ∙ sym (ap (λ (i : Inbox). waiting i.arrivals) a.inboxes ∙ waiting-append (inbox es).arrivals (Waits p ∷ []));
      line = subst (λ (i : Inbox). IsLine (c.line ++ Waits p ∷ []) i.arrivals) (sym a.inboxes) (line_more c.line (inbox es).arrivals p k.line);
      reached = k.reached ∙ sym (ap (λ (i : Inbox). barriers_reached i.arrivals) a.inboxes ∙ later-reached (inbox es).arrivals p);
      save = push_saves es p backlog c.save k.save;
      counts = ap (λ d. counts_one d e) k.counts ∙ ap (λ (n : Numbers). n.counts) (sym a.numbers);
      credit =
          ap (λ (n : Numbers). (c.credit - data_in p) + n.received) a.numbers
          ∙ (let sum : (c.credit - data_in p) + ((numbers es).received + data_in p) ≡ (numbers es).announced = omega (arith, low, credit) in sum)
          ∙ ap (λ (n : Numbers). n.announced) (sym a.numbers);
      announced = k.announced ∙ ap (λ (n : Numbers). n.announced % 2 ^ 64) (sym a.numbers);
      received = ap (λ n. (n + data_in p) % 2 ^ 64) k.received ∙ mod_64 (numbers es).received (data_in p) ∙ ap (λ (n : Numbers). n.received % 2 ^ 64) (sym a.numbers);
      next = ap (λ n. (n + 1) % 2 ^ 32) k.next ∙ mod_32 (length (pushed es)) 1 ∙ ap (λ n. n % 2 ^ 32) (sym longer);
      last = ap (λ n. n + length (barriers_of (p ∷ []))) k.last
          ∙ sym (ap (λ ps. length (barriers_of ps)) a.pushes ∙ ap length (barriers_of-append (pushed es) (p ∷ [])) ∙ length-append (barriers_of (pushed es)) (barriers_of (p ∷ [])));
      ended = sym (ap has_end a.pushes ∙ end_behind (pushed es) (p ∷ []) may.before_end);
      owed = omega (arith, owed, asked, given);
      asked = omega (arith, mine, asked, resumed);
    }

-- ---- a poll

-- the barriers that came are numbered
abbrev Numbered : List ReceiveEntry → Type 0
Numbered es = AreNumbered (barriers_of (pushed es))

-- what a poll leaves of the line, what it reaches and what an open save gains
record PollKeeps (c : ChannelState) (es : List ReceiveEntry) (line : List Arrived) (given : Option Parcel) : Type 0 where
  line_is : IsLine line (inbox es).arrivals
  reaches : reached_by c given ≡ barriers_reached (inbox es).arrivals
  saves : SaveIs es (gained c given c.save)

nothing_polled : (c : ChannelState) (es : List ReceiveEntry) (e : ReceiveEntry) → Keeps c es → open_from (open_save es) (e ∷ []) ≡ open_save es → pushed (e ∷ []) ≡ [] → inbox (es ++ e ∷ []) ≡ inbox es → PollKeeps c (es ++ e ∷ []) c.line None
nothing_polled c es e k stays none at = record {
  line_is = subst (λ (i : Inbox). IsLine c.line i.arrivals) (sym at) k.line;
  reaches = k.reached ∙ ap (λ (i : Inbox). barriers_reached i.arrivals) (sym at);
  saves = poll_saves es e c None c.save stays none (λ j one. ap (λ (i : Inbox). waiting_before j i.arrivals) (sym at)) k.save;
}

due_polled : (c : ChannelState) (es : List ReceiveEntry) (e : ReceiveEntry) → Keeps c es → Numbered es → open_from (open_save es) (e ∷ []) ≡ open_save es → pushed (e ∷ []) ≡ [] →
    (inbox (es ++ e ∷ [])).arrivals ≡ poll_due (inbox es).arrivals → PollKeeps c (es ++ e ∷ []) (from_waiting (poll_due c.line)) (due (waiting c.line))
due_polled c es e k numbered stays none at =
    let l = k.line in
    let arrived : (inbox (es ++ e ∷ [])).arrivals ≡ l.gone ++ poll_due c.line = at ∙ ap poll_due l.whole ∙ past-poll_due l.gone c.line l.polled in
    record {
      line_is = subst (IsLine (from_waiting (poll_due c.line))) (sym at) (line_polled c.line (inbox es).arrivals l);
      reaches =
          poll_reaches c l.gone c.line (due (waiting c.line)) l.polled l.first (subst IsInOrder l.whole (always_kept es).ordered) (passed_are c es l k.last) (k.reached ∙ ap barriers_reached l.whole) refl
          ∙ ap (λ xs. barriers_reached (poll_due xs)) (sym l.whole) ∙ ap barriers_reached (sym at);
      saves = poll_saves es e c (due (waiting c.line)) c.save stays none
          (λ j one. ap (waiting_before j) l.whole ∙ gains c j l.gone c.line l.polled (is_passed c es l k.last numbered j one) l.first ∙ ap (λ xs. gain c j (due (waiting c.line)) ++ waiting_before j xs) (sym arrived)) k.save;
    }

poll_kept : (c : ChannelState) (es : List ReceiveEntry) (hold : Bool) (gave : Gave) → Keeps c es → Numbered es → PollKeeps c (es ++ Poll hold gave ∷ []) (line_leaves hold c.line) (poll_gives hold c.queue)
poll_kept c es hold gave k numbered =
    let e : ReceiveEntry = Poll hold gave in
    let i = inbox es in
    let same : waiting c.line ≡ waiting i.arrivals = sym (ap waiting k.line.whole ∙ past-waiting k.line.gone c.line k.line.polled) in
    let at : inbox (es ++ e ∷ []) ≡ cond (hold && is_barrier (due (waiting c.line))) i (record { arrivals = poll_due i.arrivals; given = i.given ++ option_to_list (due (waiting i.arrivals)) }) =
    inbox-more es e ∙ ap (λ ps. cond (hold && is_barrier (due ps)) i (record { arrivals = poll_due i.arrivals; given = i.given ++ option_to_list (due (waiting i.arrivals)) })) (sym same) in
    subst (λ ps. PollKeeps c (es ++ e ∷ []) (line_leaves hold c.line) (poll_gives hold ps)) (same ∙ sym k.queue)
    (elim (hold && is_barrier (due (waiting c.line))) as (λ b. inbox (es ++ e ∷ []) ≡ cond b i (record { arrivals = poll_due i.arrivals; given = i.given ++ option_to_list (due (waiting i.arrivals)) }) →
    PollKeeps c (es ++ e ∷ []) (cond b c.line (from_waiting (poll_due c.line))) (cond b None (due (waiting c.line)))) [
      | true ↦ λ is. nothing_polled c es e k refl refl is
      | false ↦ λ is. due_polled c es e k numbered refl refl (ap (λ (j : Inbox). j.arrivals) is)
    ] at)

poll_keeps : (c : ChannelState) (es : List ReceiveEntry) (hold : Bool) (gave : Gave) → Keeps c es → Numbered es → Keeps (channel_next c (Poll hold gave)) (es ++ Poll hold gave ∷ [])
poll_keeps c es hold gave k numbered =
    let kept = poll_kept c es hold gave k numbered in
    let e : ReceiveEntry = Poll hold gave in
    let a = adds es e in
    let s = same_pushes es e refl in
    let owed = k.owed in
    let mine = k.asked in
    let asked = a.asked in
    let resumed = a.resumed in
    let given : inline_in (inbox (es ++ e ∷ [])).given ≡ inline_in (inbox es).given + inline_in (option_to_list (poll_gives hold c.queue)) =
    ap (λ (i : Inbox). inline_in i.given) a.inboxes ∙ ap inline_in (polled-given hold (inbox es))
    ∙ inline_in-append (inbox es).given (option_to_list (poll_gives hold (waiting (inbox es).arrivals)))
    ∙ ap (λ ps. inline_in (inbox es).given + inline_in (option_to_list (poll_gives hold ps))) (sym k.queue) in
    record {
      queue = ap (poll_leaves hold) k.queue ∙ sym (ap (λ (i : Inbox). waiting i.arrivals) a.inboxes ∙ polled-waiting hold (inbox es));
      line = kept.line_is;
      reached = kept.reaches;
      save = kept.saves;
      counts = ap (λ d. counts_one d e) k.counts ∙ ap (λ (n : Numbers). n.counts) (sym a.numbers);
      credit = ap (λ (n : Numbers). c.credit + n.received) a.numbers ∙ k.credit ∙ ap (λ (n : Numbers). n.announced) (sym a.numbers);
      announced = k.announced ∙ ap (λ (n : Numbers). n.announced % 2 ^ 64) (sym a.numbers);
      received = k.received ∙ ap (λ (n : Numbers). n.received % 2 ^ 64) (sym a.numbers);
      next = k.next ∙ ap (λ n. n % 2 ^ 32) (sym s.next);
      last = k.last ∙ sym s.last;
      ended = k.ended ∙ sym s.ended;
      owed = omega (arith, owed, asked, given);
      asked = omega (arith, mine, asked, resumed);
    }

-- ---- credit, and resumptions

credit_keeps : (c : ChannelState) (es : List ReceiveEntry) (told_now : ℕ) → Keeps c es → Keeps (channel_next c (Credit told_now)) (es ++ Credit told_now ∷ [])
credit_keeps c es told_now k =
    let e : ReceiveEntry = Credit told_now in
    let a = adds es e in
    let s = same_pushes es e refl in
    let owed = k.owed in
    let mine = k.asked in
    let asked = a.asked in
    let resumed = a.resumed in
    let credit = k.credit in
    let same : told c.counts ≡ told (numbers es).counts = ap told k.counts in
    let given : inline_in (inbox (es ++ e ∷ [])).given ≡ inline_in (inbox es).given = ap (λ (i : Inbox). inline_in i.given) a.inboxes in
    record {
      queue = k.queue ∙ ap (λ (i : Inbox). waiting i.arrivals) (sym a.inboxes);
      line = subst (λ (i : Inbox). IsLine c.line i.arrivals) (sym a.inboxes) k.line;
      reached = k.reached ∙ ap (λ (i : Inbox). barriers_reached i.arrivals) (sym a.inboxes);
      save = still_saves es e c.save refl refl a.inboxes k.save;
      counts = ap (λ d. counts_one d e) k.counts ∙ ap (λ (n : Numbers). n.counts) (sym a.numbers);
      credit =
          ap (λ (n : Numbers). (c.credit + told c.counts) + n.received) a.numbers
          ∙ (let sum : (c.credit + told c.counts) + (numbers es).received ≡ (numbers es).announced + told (numbers es).counts = omega (arith, credit, same) in sum)
          ∙ ap (λ (n : Numbers). n.announced) (sym a.numbers);
      announced = ap (λ n. (n + told c.counts) % 2 ^ 64) k.announced ∙ mod_64 (numbers es).announced (told c.counts) ∙ ap (λ n. ((numbers es).announced + n) % 2 ^ 64) same
          ∙ ap (λ (n : Numbers). n.announced % 2 ^ 64) (sym a.numbers);
      received = k.received ∙ ap (λ (n : Numbers). n.received % 2 ^ 64) (sym a.numbers);
      next = k.next ∙ ap (λ n. n % 2 ^ 32) (sym s.next);
      last = k.last ∙ sym s.last;
      ended = k.ended ∙ sym s.ended;
      owed = omega (arith, owed, asked, given);
      asked = omega (arith, mine, asked, resumed);
    }

-- what neither a push nor a poll nor credit changes
record Steady (c : ChannelState) (es : List ReceiveEntry) (e : ReceiveEntry) : Type 0 where
  queue : c.queue ≡ waiting (inbox (es ++ e ∷ [])).arrivals
  line : IsLine c.line (inbox (es ++ e ∷ [])).arrivals
  reached : c.reached ≡ barriers_reached (inbox (es ++ e ∷ [])).arrivals
  still : inbox (es ++ e ∷ []) ≡ inbox es
  counts : c.counts ≡ (numbers (es ++ e ∷ [])).counts
  credit : c.credit + (numbers (es ++ e ∷ [])).received ≡ (numbers (es ++ e ∷ [])).announced
  announced : c.announced ≡ (numbers (es ++ e ∷ [])).announced % 2 ^ 64
  received : c.received ≡ (numbers (es ++ e ∷ [])).received % 2 ^ 64
  next : c.next ≡ length (pushed (es ++ e ∷ [])) % 2 ^ 32
  last : c.last ≡ length (barriers_of (pushed (es ++ e ∷ [])))
  ended : c.ended ≡ has_end (pushed (es ++ e ∷ []))
  given : inline_in (inbox (es ++ e ∷ [])).given ≡ inline_in (inbox es).given

steady : (c : ChannelState) (es : List ReceiveEntry) (e : ReceiveEntry) → Keeps c es → pushed (e ∷ []) ≡ [] → received_one (inbox es) e ≡ inbox es → numbers_one (numbers es) e ≡ numbers es → Steady c es e
steady c es e k none still same =
    let a = adds es e in
    let s = same_pushes es e none in
    let at : inbox (es ++ e ∷ []) ≡ inbox es = a.inboxes ∙ still in
    let now : numbers (es ++ e ∷ []) ≡ numbers es = a.numbers ∙ same in
    record {
      queue = k.queue ∙ ap (λ (i : Inbox). waiting i.arrivals) (sym at);
      line = subst (λ (i : Inbox). IsLine c.line i.arrivals) (sym at) k.line;
      reached = k.reached ∙ ap (λ (i : Inbox). barriers_reached i.arrivals) (sym at);
      still = at;
      counts = k.counts ∙ ap (λ (n : Numbers). n.counts) (sym now);
      credit = ap (λ (n : Numbers). c.credit + n.received) now ∙ k.credit ∙ ap (λ (n : Numbers). n.announced) (sym now);
      announced = k.announced ∙ ap (λ (n : Numbers). n.announced % 2 ^ 64) (sym now);
      received = k.received ∙ ap (λ (n : Numbers). n.received % 2 ^ 64) (sym now);
      next = k.next ∙ ap (λ n. n % 2 ^ 32) (sym s.next);
      last = k.last ∙ sym s.last;
      ended = k.ended ∙ sym s.ended;
      given = ap (λ (i : Inbox). inline_in i.given) at;
    }

ask_keeps : (c : ChannelState) (es : List ReceiveEntry) → Keeps c es → asks es < inline_in (inbox es).given → Keeps (channel_next c Ask) (es ++ Ask ∷ [])
ask_keeps c es k may =
    let a = adds es Ask in
    let s = steady c es Ask k refl refl refl in
    let owed = k.owed in
    let mine = k.asked in
    let asked = a.asked in
    let resumed = a.resumed in
    let given = s.given in
    record {
      queue = s.queue;
      line = s.line;
      reached = s.reached;
      save = still_saves es Ask c.save refl refl s.still k.save;
      counts = s.counts;
      credit = s.credit;
      announced = s.announced;
      received = s.received;
      next = s.next;
      last = s.last;
      ended = s.ended;
      owed = omega (arith, owed, asked, given, may);
      asked = omega (arith, mine, asked, resumed);
    }

resume_keeps : (c : ChannelState) (es : List ReceiveEntry) → Keeps c es → resumes es < asks es → Keeps (channel_next c Resume) (es ++ Resume ∷ [])
resume_keeps c es k may =
    let a = adds es Resume in
    let s = steady c es Resume k refl refl refl in
    let owed = k.owed in
    let mine = k.asked in
    let asked = a.asked in
    let resumed = a.resumed in
    let given = s.given in
    record {
      queue = s.queue;
      line = s.line;
      reached = s.reached;
      save = still_saves es Resume c.save refl refl s.still k.save;
      counts = s.counts;
      credit = s.credit;
      announced = s.announced;
      received = s.received;
      next = s.next;
      last = s.last;
      ended = s.ended;
      owed = omega (arith, owed, asked, given);
      asked = omega (arith, mine, asked, resumed, may);
    }

-- ---- saves

save_keeps : (c : ChannelState) (es : List ReceiveEntry) (n : ℕ) (rest : List ℕ) → Keeps c es → MaySave es n rest → Keeps (channel_next c (Save n rest)) (es ++ Save n rest ∷ [])
save_keeps c es n rest k may =
    let a = adds es (Save n rest) in
    let s = steady c es (Save n rest) k refl refl refl in
    let owed = k.owed in
    let mine = k.asked in
    let asked = a.asked in
    let resumed = a.resumed in
    let given = s.given in
    record {
      queue = s.queue;
      line = s.line;
      reached = s.reached;
      save = save_saves es n rest may;
      counts = s.counts;
      credit = s.credit;
      announced = s.announced;
      received = s.received;
      next = s.next;
      last = s.last;
      ended = s.ended;
      owed = omega (arith, owed, asked, given);
      asked = omega (arith, mine, asked, resumed);
    }

saved_keeps : (c : ChannelState) (es : List ReceiveEntry) (n : ℕ) → Keeps c es → Keeps (channel_next c (Saved n)) (es ++ Saved n ∷ [])
saved_keeps c es n k =
    let a = adds es (Saved n) in
    let s = steady c es (Saved n) k refl refl refl in
    let owed = k.owed in
    let mine = k.asked in
    let asked = a.asked in
    let resumed = a.resumed in
    let given = s.given in
    record {
      queue = s.queue;
      line = s.line;
      reached = s.reached;
      save = close_saves es n;
      counts = s.counts;
      credit = s.credit;
      announced = s.announced;
      received = s.received;
      next = s.next;
      last = s.last;
      ended = s.ended;
      owed = omega (arith, owed, asked, given);
      asked = omega (arith, mine, asked, resumed);
    }

step_keeps : (room : ℕ) (c : ChannelState) (es : List ReceiveEntry) (e : ReceiveEntry) → Keeps c es → Numbered es → MayReceive room es e → Keeps (channel_next c e) (es ++ e ∷ [])
step_keeps room c es (Push p backlog) k numbered may = push_keeps c es p backlog k may
step_keeps room c es (Poll hold gave) k numbered may = poll_keeps c es hold gave k numbered
step_keeps room c es (Returned exclusive) k numbered may = quiet c es (Returned exclusive) k refl refl refl refl refl refl
step_keeps room c es Added k numbered may = quiet c es Added k refl refl refl refl refl refl
step_keeps room c es (Backlog n) k numbered may = quiet c es (Backlog n) k refl refl refl refl refl refl
step_keeps room c es (Credit n) k numbered may = credit_keeps c es n k
step_keeps room c es Shut k numbered may = quiet c es Shut k refl refl refl refl refl refl
step_keeps room c es Ask k numbered may = ask_keeps c es k may
step_keeps room c es Resume k numbered may = resume_keeps c es k may
step_keeps room c es (Save n rest) k numbered may = save_keeps c es n rest k may
step_keeps room c es (Saved n) k numbered may = saved_keeps c es n k

same_room : (c : ChannelState) (e : ReceiveEntry) → (channel_next c e).room ≡ c.room
same_room c (Push p backlog) = refl
same_room c (Poll hold gave) = refl
same_room c (Returned exclusive) = refl
same_room c Added = refl
same_room c (Backlog n) = refl
same_room c (Credit n) = refl
same_room c Shut = refl
same_room c Ask = refl
same_room c Resume = refl
same_room c (Save n rest) = refl
same_room c (Saved n) = refl

-- ---- the laws

pub opens_empty : OpensEmpty
opens_empty size room = record {
  legal = history_nil (MayReceiveAs room);
  keeps = record { queue = refl; line = record { gone = []; polled = refl; whole = refl; first = refl }; reached = refl; save = refl; counts = refl; credit = refl; announced = refl; received = refl; next = refl; last = refl; ended = refl; owed = refl; asked = refl };
}

entries_legal : (room : ℕ) (pairs : List (ℕ × ReceiveEntry)) → IsHistory (MayReceiveAs room) pairs → IsHistory (MayReceive room) (entries_of pairs)
entries_legal room pairs history =
    history_keeps (MayReceiveAs room) (λ xs. IsHistory (MayReceive room) (entries_of xs)) (history_nil (MayReceive room))
    (λ xs x before may. subst (IsHistory (MayReceive room)) (sym (entries_of-append xs (x ∷ []))) (history_more (MayReceive room) (entries_of xs) x.1 before may.1)) pairs history

always_numbered : (c : ChannelState) (pairs : List (ℕ × ReceiveEntry)) → IsHistory (MayReceiveAs c.room) pairs → Numbered (entries_of pairs)
always_numbered c pairs history = arrivals_are_numbered c.room (entries_of pairs) (entries_legal c.room pairs history)

pub calls_add_entries : CallsAddEntries
calls_add_entries c pairs n e stands may = record {
  legal = subst (λ r. IsHistory (MayReceiveAs r) (pairs ++ (n, e) ∷ [])) (sym (same_room c e)) (history_more (MayReceiveAs c.room) pairs (n, e) stands.legal may);
  keeps = subst (Keeps (channel_next c e)) (sym (entries_of-append pairs ((n, e) ∷ []))) (step_keeps c.room c (entries_of pairs) e stands.keeps (always_numbered c pairs stands.legal) may.1);
}

push_is_legal : (c : ChannelState) (es : List ReceiveEntry) (p : Parcel) → Keeps c es → AllowsPush c p → MayArrive es p
push_is_legal c es (Data bytes) k low = let credit = k.credit in omega (arith, low, credit)
push_is_legal c es (Barrier j kind) k next = next ∙ ap suc k.last
push_is_legal c es End k open_end = tt

save_is_legal : (c : ChannelState) (es : List ReceiveEntry) (n : ℕ) (rest : List ℕ) → Keeps c es → Numbered es → AllowsSave c n → has_save n es ≡ false → (given : List ℕ) × (polled_bytes es ≡ given ++ rest) → MaySave es n rest
save_is_legal c es n rest k numbered allows once is_rest =
    let reached = k.reached in
    let low = allows.in_time in
    let next = allows.next in
    let last = k.last in
    let came : map parcel_of (inbox es).arrivals ≡ pushed es = arrivals_are_pushed es in
    let left : length (barriers_of c.queue) ≡ length (barriers_of (waiting (inbox es).arrivals)) = ap (λ ps. length (barriers_of ps)) k.queue in
    let all : length (barriers_of (inbox es).given) + length (barriers_of (waiting (inbox es).arrivals)) ≡ length (barriers_of (pushed es)) =
    sym (length-append (barriers_of (inbox es).given) (barriers_of (waiting (inbox es).arrivals))) ∙ ap length (barriers_come_in_order es) in
    record {
      none_open = subst (SaveIs es) allows.none_open k.save;
      once = once;
      in_turn = is_in_turn es (polled_barriers c) n numbered (omega (arith, left, all, last)) (omega (arith, low)) next;
      in_time = in_time 0 n (inbox es).arrivals (subst (λ ps. map (λ (b : ℕ × BarrierKind). b.0) (barriers_of ps) ≡ range_with_len 1 (length (barriers_of ps))) (sym came) numbered) (omega (arith, low, reached));
      is_rest = is_rest;
    }

close_is_legal : (c : ChannelState) (es : List ReceiveEntry) (n : ℕ) → Keeps c es → Numbered es → IsOpen c n → n ≤ c.last → MayClose es n
close_is_legal c es n k numbered opened low =
    let save = opened.0 in
    let is : SaveIs es (Some save) = subst (SaveIs es) opened.1 k.save in
    let last = k.last in
    let same = opened.2 in
    let one = is.2 in
    record {
      opened = is.0 ∙ ap Some same;
      came = has_come (pushed es) n numbered (omega (arith, one, same)) (omega (arith, low, last));
    }

call_is_legal : (c : ChannelState) (es : List ReceiveEntry) (e : ReceiveEntry) → Keeps c es → Numbered es → Allows c es e → MayReceive c.room es e
call_is_legal c es (Push p backlog) k numbered allows = record { before_end = sym k.ended ∙ allows.0; fits = push_is_legal c es p k allows.1 }
call_is_legal c es (Poll hold gave) k numbered allows = allows ∙ ap (λ ps. gave_by (poll_gives hold ps) c.counts.held) k.queue ∙ ap (λ (d : Counts). gave_by (poll_gives hold (waiting (inbox es).arrivals)) d.held) k.counts
call_is_legal c es (Returned exclusive) k numbered allows = allows
call_is_legal c es Added k numbered allows = subst (λ (d : Counts). 0 < wants c.room d) k.counts allows
call_is_legal c es (Backlog n) k numbered allows = tt
call_is_legal c es (Credit n) k numbered allows = allows ∙ ap told k.counts
call_is_legal c es Shut k numbered allows = let credit = k.credit in omega (arith, allows, credit)
call_is_legal c es Ask k numbered allows = let owed = k.owed in omega (arith, allows, owed)
call_is_legal c es Resume k numbered allows = let asked = k.asked in omega (arith, allows, asked)
call_is_legal c es (Save n rest) k numbered allows = save_is_legal c es n rest k numbered allows.0 allows.1 (allows.2, allows.3)
call_is_legal c es (Saved n) k numbered allows = close_is_legal c es n k numbered allows.0 allows.1

pub calls_are_legal : CallsAreLegal
calls_are_legal c pairs e stands allows = call_is_legal c (entries_of pairs) e stands.keeps (always_numbered c pairs stands.legal) allows

pub poll_tells : PollTells
poll_tells c pairs hold gave stands =
    let es = entries_of pairs in
    ap (λ (i : Inbox). i.given) (inbox-more es (Poll hold gave)) ∙ polled-given hold (inbox es)
    ∙ ap (λ ps. (inbox es).given ++ option_to_list (poll_gives hold ps)) (sym stands.keeps.queue)

by_passes-append : (xs ys : List (ℕ × ReceiveEntry)) → ReceivedByPasses xs → ReceivedByPasses ys → ReceivedByPasses (xs ++ ys)
by_passes-append [] ys h g = g
by_passes-append (x ∷ xs) ys h g = (h.0, by_passes-append xs ys h.1 g)

pub passes_are_kept : PassesAreKept
passes_are_kept c pairs stands =
    history_keeps (MayReceiveAs c.room) ReceivedByPasses tt (λ xs x before may. by_passes-append xs (x ∷ []) before (may.0, tt)) pairs stands.legal

pub entries_are_legal : EntriesAreLegal
entries_are_legal c pairs stands = entries_legal c.room pairs stands.legal

pub saved_tells : SavedTells
saved_tells c pairs save stands now_open =
    let es = entries_of pairs in
    let k = stands.keeps in
    let l = k.line in
    let is : SaveIs es (Some save) = subst (SaveIs es) now_open k.save in
    let n = save.number in
    sym (is.3 ∙ ap (λ z. save.bytes ++ z)
    (ap (waiting_before n) l.whole ∙ waiting_before-gone n l.gone c.line l.polled
    ∙ ap (λ b. cond b [] (waiting_before n c.line)) (is_passed c es l k.last (always_numbered c pairs stands.legal) n is.2)))

open_is : (es : List ReceiveEntry) (save : Option OpenSave) → SaveIs es save → open_save es ≡ option_map (λ (s : OpenSave). s.number) save
open_is es None is = is
open_is es (Some save) is = is.0

pub open_save_is_told : OpenSaveIsTold
open_save_is_told c pairs stands = open_is (entries_of pairs) c.save stands.keeps.save

pub return_fits : ReturnFits
return_fits c pairs stands out =
    let es = entries_of pairs in
    let two : AreTwo es = two_always c.room es (entries_legal c.room pairs stands.legal) in
    let low : (numbers es).counts.exclusive + exclusive_held (numbers es).counts < 2 = omega (arith, two, out) in
    subst (λ (d : Counts). d.exclusive + exclusive_held d < 2) (sym stands.keeps.counts) low
