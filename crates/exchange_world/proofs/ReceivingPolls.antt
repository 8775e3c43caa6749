-- A poll takes what is due of an inbox, the first or a front barrier; the inbox stays sound.
use Rattle.std.proofs.Common.{◌≡◌, ℕ, suc, ◌+◌, ◌-◌, ◌≤◌, ◌<◌, Bool, true, false, not, ◌&&◌, cond, List, [], ◌∷◌, ◌++◌, length, drop, Option, refl, sym, ap, subst, ◌∙◌, arith, Some, None}
use Rattle.std.specs.Prelude.{count_by, option_to_list}
use Rattle.std.proofs.lemmas.Bool.{ltb-true, and_parts}
use Rattle.std.proofs.lemmas.Option.{none-some, same_Some}
use Rattle.flow_defs.specs.declared.parcel.Parcel.{Parcel}
use Rattle.flow_defs.specs.declared.parcel.Parcel.TheVariants.{Data, Barrier, End}
use Rattle.flow_defs.specs.Parcels.{data_of, has_end}
use Rattle.flow_defs.proofs.Lists.{no_cons}
use Rattle.flow_defs.proofs.ParcelLemmas.{data_of-append}
use Rattle.input_channel.specs.declared.entry.Gave.TheVariants.{NoBuffer}
use Rattle.input_channel.specs.declared.entry.ReceiveEntry.TheVariants.{Poll, Returned}
use Rattle.input_channel.specs.Inboxes.{Arrived, waiting, front_waits, first_parcel, first_barrier, without_barrier, due, undue, is_barrier, poll_gives, poll_leaves}
use Rattle.input_channel.specs.Counts.{Counts, data_in, gave_by, lets_go}
use Rattle.input_channel.specs.States.{ChannelState, OpenSave, starts_waiting, line_leaves, reached_by, gained, channel_next}
use Rattle.input_channel.specs.Legal.{inline_in}
use Rattle.input_channel.proofs.CountLemmas.{count-cons}
use Rattle.input_channel.proofs.InboxLaws.{inline_in-append}
use Rattle.exchange_world.specs.Lanes.{backlog_in, floating_here}
use Rattle.exchange_world.specs.Steps.{is_exclusive}
use Rattle.exchange_world.specs.Sound.{IsSoundInbox, AreFit}
use Rattle.exchange_world.proofs.Counting.{backlog-cons, inline-cons}
use Rattle.exchange_world.proofs.Lines.{waiting-leaves, first-leaves}
use Rattle.exchange_world.proofs.PuttingLemmas.{backlog_in-append}
use Rattle.exchange_world.proofs.ReceivingInbox.{fit_rest}

-- ---- what is due

-- This one is taken out of a queue, and these are left. No data wait before it if it has data itself.
pub record Takes (queue : List Parcel) (p : Parcel) (left : List Parcel) : Type 0 where
  pub before : List Parcel
  pub behind : List Parcel
  pub queue_is : queue ≡ before ++ p ∷ behind
  pub left_is : left ≡ before ++ behind
  pub data_are : data_of queue ≡ data_of (p ∷ []) ++ data_of left

first_takes : (ps : List Parcel) (p : Parcel) → first_parcel ps ≡ Some p → Takes ps p (drop 1 ps)
first_takes [] p e = absurd (none-some _ e)
first_takes (q ∷ ps) p e = subst (λ (x : Parcel). Takes (q ∷ ps) x ps) (same_Some _ _ e) (record { before = []; behind = ps; queue_is = refl; left_is = refl; data_are = data_of-append (q ∷ []) ps })

barrier_takes : (ps : List Parcel) (p : Parcel) → first_barrier ps ≡ Some p → (data_of (p ∷ []) ≡ []) × Takes ps p (without_barrier ps)
barrier_takes [] p e = absurd (none-some _ e)
barrier_takes (Data bytes ∷ ps) p e =
    let later = barrier_takes ps p e in
    let t = later.1 in
    let left = data_of (without_barrier ps) in (
      later.0,
      record {
        before = Data bytes ∷ t.before;
        behind = t.behind;
        queue_is = ap (λ l. Data bytes ∷ l) t.queue_is;
        left_is = ap (λ l. Data bytes ∷ l) t.left_is;
        data_are = ap (λ l. bytes ++ l) (t.data_are ∙ ap (λ l. l ++ left) later.0) ∙ ap (λ l. l ++ (bytes ++ left)) (sym later.0);
      },
    )
barrier_takes (Barrier k kind ∷ ps) p e =
    subst (λ (x : Parcel). (data_of (x ∷ []) ≡ []) × Takes (Barrier k kind ∷ ps) x ps) (same_Some _ _ e) (refl, record { before = []; behind = ps; queue_is = refl; left_is = refl; data_are = refl })
barrier_takes (End ∷ ps) p e =
    let later = barrier_takes ps p e in
    let t = later.1 in
    (later.0, record { before = End ∷ t.before; behind = t.behind; queue_is = ap (λ l. End ∷ l) t.queue_is; left_is = ap (λ l. End ∷ l) t.left_is; data_are = t.data_are })

due_takes : (ps : List Parcel) (p : Parcel) → due ps ≡ Some p → Takes ps p (undue ps)
due_takes ps p =
    elim (front_waits ps) as (λ b. cond b (first_barrier ps) (first_parcel ps) ≡ Some p → Takes ps p (cond b (without_barrier ps) (drop 1 ps))) [
      | true ↦ λ e. (barrier_takes ps p e).1
      | false ↦ first_takes ps p
    ]

-- a poll that gives something takes it
pub takes : (hold : Bool) (queue : List Parcel) (p : Parcel) → poll_gives hold queue ≡ Some p → Takes queue p (poll_leaves hold queue)
takes hold queue p =
    elim (hold && is_barrier (due queue)) as (λ b. cond b None (due queue) ≡ Some p → Takes queue p (cond b queue (undue queue))) [
      | true ↦ λ e. absurd (none-some _ e)
      | false ↦ due_takes queue p
    ]

-- ---- the inbox after a poll

fit_without : (size : ℕ) (before : List Parcel) (p : Parcel) (behind : List Parcel) → AreFit size (before ++ p ∷ behind) → AreFit size (before ++ behind)
fit_without size [] p behind fit = fit_rest size p behind fit
fit_without size (Data bytes ∷ before) p behind fit = (fit.0, fit.1, fit_without size before p behind fit.2)
fit_without size (Barrier k kind ∷ before) p behind fit = fit_without size before p behind fit
fit_without size (End ∷ []) p behind fit = absurd (no_cons p behind fit)
fit_without size (End ∷ q ∷ before) p behind fit = absurd (no_cons q (before ++ p ∷ behind) fit)

end_with : (before : List Parcel) (p : Parcel) (behind : List Parcel) → has_end (before ++ behind) ≡ true → has_end (before ++ p ∷ behind) ≡ true
end_with [] (Data bytes) behind e = e
end_with [] (Barrier k kind) behind e = e
end_with [] End behind e = refl
end_with (Data bytes ∷ before) p behind e = end_with before p behind e
end_with (Barrier k kind ∷ before) p behind e = end_with before p behind e
end_with (End ∷ before) p behind e = refl

-- what holds of the queue that is left
record IsRest (size : ℕ) (inbox : ChannelState) (p : Parcel) (left : List Parcel) : Type 0 where
  pub data_is : backlog_in inbox.queue ≡ data_in p + backlog_in left
  pub fit : AreFit size left
  pub end : has_end left ≡ true → inbox.ended ≡ true

is_rest : (size : ℕ) (inbox : ChannelState) (p : Parcel) (left : List Parcel) → IsSoundInbox size inbox → Takes inbox.queue p left → IsRest size inbox p left
is_rest size inbox p left sound t = record {
  data_is =
      let all = ap backlog_in t.queue_is ∙ backlog_in-append t.before (p ∷ t.behind) in
      let rest = ap backlog_in t.left_is ∙ backlog_in-append t.before t.behind in
      omega (arith, all, rest, backlog-cons p t.behind);
  fit = subst (AreFit size) (sym t.left_is) (fit_without size t.before p t.behind (subst (AreFit size) t.queue_is sound.fit));
  end = λ e. sound.end (ap has_end t.queue_is ∙ end_with t.before p t.behind (ap has_end (sym t.left_is) ∙ e));
}

pub inbox_polled : (size : ℕ) (hold : Bool) (inbox : ChannelState) (p : Parcel) → IsSoundInbox size inbox → Takes inbox.queue p (poll_leaves hold inbox.queue) → data_in p ≡ 0 → IsSoundInbox size (channel_next inbox (Poll hold NoBuffer))
inbox_polled size hold inbox p sound t none =
    let rest = is_rest size inbox p (poll_leaves hold inbox.queue) sound t in
    record {
      size_is = sound.size_is;
      room_is = sound.room_is;
      announces = sound.announces;
      exclusive = sound.exclusive;
      floating = sound.floating;
      free_is = sound.free_is;
      line = waiting-leaves hold inbox.line inbox.queue sound.line;
      first = first-leaves hold inbox.line sound.first;
      held = omega (arith, sound.held, rest.data_is, none);
      fit = rest.fit;
      end = rest.end;
      resumed = sound.resumed;
    }

-- an exclusive buffer that comes back, where it lets a floating one go or not
exclusive_back : (size : ℕ) (inbox : ChannelState) (left : List Parcel) (line : List Arrived) (reached : ℕ) (save : Option OpenSave) (owed : ℕ) (rest : List Bool) (b : Bool) → IsSoundInbox size inbox → waiting line ≡ left → starts_waiting line ≡ true → inbox.counts.held ≡ true ∷ rest → suc (backlog_in left) ≡ backlog_in inbox.queue → AreFit size left → (has_end left ≡ true → inbox.ended ≡ true) → (b ≡ true → 0 < inbox.counts.floating) →
    IsSoundInbox size (record inbox { queue = left; line = line; reached = reached; save = save; owed = owed; counts = cond b (record inbox.counts { held = rest; exclusive = inbox.counts.exclusive + 1; floating = inbox.counts.floating - 1 }) (record inbox.counts { held = rest; exclusive = inbox.counts.exclusive + 1; pending = inbox.counts.pending + 1 }) })
exclusive_back size inbox left line reached save owed rest true sound waits first is fewer fit end goes =
    let some = goes refl in
    let ex = ap (count_by (λ x. x)) is ∙ count-cons (λ x. x) true rest in
    let fl = ap (count_by not) is ∙ count-cons not true rest in
    let len : length inbox.counts.held ≡ suc (length rest) = ap length is in
    record {
      size_is = sound.size_is;
      room_is = sound.room_is;
      announces = sound.announces;
      exclusive = omega (arith, sound.exclusive, ex);
      floating = omega (arith, sound.floating, fl);
      free_is = omega (arith, sound.free_is, some);
      line = waits;
      first = first;
      held = omega (arith, sound.held, fewer, len);
      fit = fit;
      end = end;
      resumed = sound.resumed;
    }
exclusive_back size inbox left line reached save owed rest false sound waits first is fewer fit end goes =
    let ex = ap (count_by (λ x. x)) is ∙ count-cons (λ x. x) true rest in
    let fl = ap (count_by not) is ∙ count-cons not true rest in
    let len : length inbox.counts.held ≡ suc (length rest) = ap length is in
    record {
      size_is = sound.size_is;
      room_is = sound.room_is;
      announces = sound.announces;
      exclusive = omega (arith, sound.exclusive, ex);
      floating = omega (arith, sound.floating, fl);
      free_is = omega (arith, sound.free_is);
      line = waits;
      first = first;
      held = omega (arith, sound.held, fewer, len);
      fit = fit;
      end = end;
      resumed = sound.resumed;
    }

floating_back : (size : ℕ) (inbox : ChannelState) (left : List Parcel) (line : List Arrived) (reached : ℕ) (save : Option OpenSave) (owed : ℕ) (rest : List Bool) → IsSoundInbox size inbox → waiting line ≡ left → starts_waiting line ≡ true → inbox.counts.held ≡ false ∷ rest → suc (backlog_in left) ≡ backlog_in inbox.queue → AreFit size left → (has_end left ≡ true → inbox.ended ≡ true) →
    IsSoundInbox size (record inbox { queue = left; line = line; reached = reached; save = save; owed = owed; counts = record inbox.counts { held = rest } })
floating_back size inbox left line reached save owed rest sound waits first is fewer fit end =
    let ex = ap (count_by (λ x. x)) is ∙ count-cons (λ x. x) false rest in
    let fl = ap (count_by not) is ∙ count-cons not false rest in
    let len : length inbox.counts.held ≡ suc (length rest) = ap length is in
    record {
      size_is = sound.size_is;
      room_is = sound.room_is;
      announces = sound.announces;
      exclusive = omega (arith, sound.exclusive, ex);
      floating = omega (arith, sound.floating, fl);
      free_is = omega (arith, sound.free_is);
      line = waits;
      first = first;
      held = omega (arith, sound.held, fewer, len);
      fit = fit;
      end = end;
      resumed = sound.resumed;
    }

-- ---- a buffer that is read comes back

-- The inbox once a buffer was polled and is back, where these waited with data.
abbrev pub read_inbox : ChannelState → Bool → List ℕ → List Bool → ChannelState
read_inbox inbox hold bytes held = channel_next (channel_next inbox (Poll hold (gave_by (Some (Data bytes)) held))) (Returned (is_exclusive (gave_by (Some (Data bytes)) held)))

pub record IsRead (size : ℕ) (inbox now : ChannelState) : Type 0 where
  pub sound : IsSoundInbox size now
  pub fewer : floating_here now ≤ floating_here inbox

head_held : (x : Bool) (rest held : List Bool) → held ≡ x ∷ rest → held ≡ x ∷ drop 1 held
head_held x rest held e = e ∙ ap (λ l. x ∷ drop 1 l) (sym e)

none_held : (p n : ℕ) (held : List Bool) → length held ≡ n → n ≡ suc p → held ≡ [] → ⊥
none_held p n held len some e = let z : length held ≡ 0 = ap length e in omega (arith, len, some, z)

exclusive_fewer : (inbox : ChannelState) (left : List Parcel) (owed : ℕ) (rest : List Bool) (b : Bool) → inbox.counts.held ≡ true ∷ rest →
    floating_here (record inbox { queue = left; owed = owed; counts = cond b (record inbox.counts { held = rest; exclusive = inbox.counts.exclusive + 1; floating = inbox.counts.floating - 1 }) (record inbox.counts { held = rest; exclusive = inbox.counts.exclusive + 1; pending = inbox.counts.pending + 1 }) }) ≤ floating_here inbox
exclusive_fewer inbox left owed rest true is = let fl = ap (count_by not) is ∙ count-cons not true rest in omega (arith, fl)
exclusive_fewer inbox left owed rest false is = let fl = ap (count_by not) is ∙ count-cons not true rest in omega (arith, fl)

goes_floating : (c : Counts) → lets_go c ≡ true → 0 < c.floating
goes_floating c e = ltb-true 0 c.floating (and_parts _ _ e).1

pub is_read : (size : ℕ) (hold : Bool) (inbox : ChannelState) (bytes : List ℕ) (held : List Bool) → IsSoundInbox size inbox → Takes inbox.queue (Data bytes) (poll_leaves hold inbox.queue) → inbox.counts.held ≡ held → IsRead size inbox (read_inbox inbox hold bytes held)
is_read size hold inbox bytes [] sound t is =
    let rest = is_rest size inbox (Data bytes) (poll_leaves hold inbox.queue) sound t in
    absurd (none_held (backlog_in (poll_leaves hold inbox.queue)) (backlog_in inbox.queue) inbox.counts.held sound.held (let e : backlog_in inbox.queue ≡ suc (backlog_in (poll_leaves hold inbox.queue)) = omega (arith, rest.data_is) in e) is)
is_read size hold inbox bytes (true ∷ held) sound t is =
    let rest = is_rest size inbox (Data bytes) (poll_leaves hold inbox.queue) sound t in
    let left = poll_leaves hold inbox.queue in
    let owed = inbox.owed + inline_in (option_to_list (poll_gives hold inbox.queue)) in
    let first = head_held true held inbox.counts.held is in
    let polled : Counts = record inbox.counts { held = drop 1 inbox.counts.held } in
    record {
      sound = exclusive_back size inbox left (line_leaves hold inbox.line) (reached_by inbox (poll_gives hold inbox.queue)) (gained inbox (poll_gives hold inbox.queue) inbox.save) owed (drop 1 inbox.counts.held) (lets_go polled) sound (waiting-leaves hold inbox.line inbox.queue sound.line) (first-leaves hold inbox.line sound.first) first (let e : suc (backlog_in left) ≡ backlog_in inbox.queue = omega (arith, rest.data_is) in e) rest.fit rest.end (goes_floating polled);
      fewer = exclusive_fewer inbox left owed (drop 1 inbox.counts.held) (lets_go polled) first;
    }
is_read size hold inbox bytes (false ∷ held) sound t is =
    let rest = is_rest size inbox (Data bytes) (poll_leaves hold inbox.queue) sound t in
    let left = poll_leaves hold inbox.queue in
    let owed = inbox.owed + inline_in (option_to_list (poll_gives hold inbox.queue)) in
    let first = head_held false held inbox.counts.held is in
    let fl = ap (count_by not) first ∙ count-cons not false (drop 1 inbox.counts.held) in
    record {
      sound = floating_back size inbox left (line_leaves hold inbox.line) (reached_by inbox (poll_gives hold inbox.queue)) (gained inbox (poll_gives hold inbox.queue) inbox.save) owed (drop 1 inbox.counts.held) sound (waiting-leaves hold inbox.line inbox.queue sound.line) (first-leaves hold inbox.line sound.first) first (let e : suc (backlog_in left) ≡ backlog_in inbox.queue = omega (arith, rest.data_is) in e) rest.fit rest.end;
      fewer = omega (arith, fl);
    }

-- a buffer with data waits where one is taken
pub held_some : (size : ℕ) (hold : Bool) (inbox : ChannelState) (bytes : List ℕ) → IsSoundInbox size inbox → Takes inbox.queue (Data bytes) (poll_leaves hold inbox.queue) → (x : Bool) × (rest : List Bool) × (inbox.counts.held ≡ x ∷ rest)
held_some size hold inbox bytes sound t = at inbox.counts.held refl
  where
    at : (held : List Bool) → inbox.counts.held ≡ held → (x : Bool) × (rest : List Bool) × (inbox.counts.held ≡ x ∷ rest)
    at [] is =
        let rest = is_rest size inbox (Data bytes) (poll_leaves hold inbox.queue) sound t in
        absurd (none_held (backlog_in (poll_leaves hold inbox.queue)) (backlog_in inbox.queue) inbox.counts.held sound.held (let e : backlog_in inbox.queue ≡ suc (backlog_in (poll_leaves hold inbox.queue)) = omega (arith, rest.data_is) in e) is)
    at (x ∷ rest) is = (x, rest, is)

-- the inline barriers that wait and those that are owed are as many as before
pub inline_polled : (hold : Bool) (queue : List Parcel) (p : Parcel) (owed : ℕ) → Takes queue p (poll_leaves hold queue) → poll_gives hold queue ≡ Some p →
    inline_in (poll_leaves hold queue) + (owed + inline_in (option_to_list (poll_gives hold queue))) ≡ inline_in queue + owed
inline_polled hold queue p owed t gives =
    let left = ap inline_in t.left_is ∙ inline_in-append t.before t.behind in
    let given : inline_in (option_to_list (poll_gives hold queue)) ≡ inline_in (p ∷ []) = ap (λ o. inline_in (option_to_list o)) gives in
    let all = ap inline_in t.queue_is ∙ inline_in-append t.before (p ∷ t.behind) in
    omega (arith, left, given, all, inline-cons p t.behind)
