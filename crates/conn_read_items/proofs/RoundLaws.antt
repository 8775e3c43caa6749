-- What rounds of the loop did, one after another.
use Rattle.std.proofs.Common.{◌≡◌, inl, inr, ℕ, ◌≤◌, true, false, Bool, List, [], ◌∷◌, ◌++◌, drop, Option, Some, None, refl, sym, ap, subst, ◌∙◌, append_assoc, append-nil}
use Rattle.std.specs.Prelude.{◌≢◌, IfSome}
use Rattle.std.proofs.lemmas.List.Elements.{All-nil, All-cons, All-append}
use Rattle.turn_cell.specs.Passes.{IsPassOf, number, seen, mine}
use Rattle.flow_defs.specs.declared.task.ChannelId.{ChannelId}
use Rattle.flow_defs.specs.declared.cause.Cause.{Cause}
use Rattle.flow_defs.specs.declared.cause.Cause.TheVariants as causes
use Rattle.net_frames.specs.Frames.{spelling, all_spelled}
use Rattle.outside.specs.declared.stop.StopEntry.{StopEntry}
use Rattle.outside.specs.declared.stop.StopEntry.TheVariants.{Met}
use Rattle.outside.specs.Links.{Appended}
use Rattle.outside.specs.Stops.{first_met, is_fault, told_of}
use Rattle.outside.proofs.Faults.{risen_before}
use Rattle.conn_parts.specs.declared.share.SharePasses.{SharePasses}
use Rattle.conn_parts.specs.Coming.{CameOn}
use Rattle.conn_parts.specs.Messages.{is_from_sender}
use Rattle.conn_parts.specs.Shares.{mine_at}
use Rattle.conn_parts.specs.Stopping.{StopCell, StopPass, ToldStop}
use Rattle.conn_parts.proofs.Appends.{spelled-append, frames-append, from-append}
use Rattle.conn_parts.proofs.Telling.{appended_none, appended_more}
use Rattle.conn_read_items.specs.declared.cells.Cells.{Cells}
use Rattle.conn_read_items.specs.Receiving.{noted, notes_on, IsKnown}
use Rattle.conn_read_items.specs.Turning.{InputPass}
use Rattle.conn_read_items.specs.Taking.{Gave, GaveNothing, TookMessage, EndsBy, WhyEnded, WentOn, ReadToEnd}
use Rattle.conn_read_items.proofs.EntryLaws.{notes-append, pushes_of}

-- ---- one round

gave_no_more : (channels : List ChannelId) (passes : List InputPass) → Gave channels passes passes (λ c. notes_on c [])
gave_no_more channels passes = record { each = λ k c at. sym (append-nil (noted (mine_at k passes))); open_still = λ k. refl }

-- Some bytes came behind those that were there.
pub went_on_read : (channels : List ChannelId) (before after : List InputPass) (old new : Option (List ℕ)) (pending left : List ℕ) (count : ℕ) →
    after ≡ before → CameOn old new pending left count → WentOn channels before after old new pending left
went_on_read channels before after old new pending left count same came = record {
  messages = [];
  frames = tt;
  direction = tt;
  known = All-nil (IsKnown channels);
  added = came.bytes;
  told = came.told;
  spelled = sym came.behind;
  gave = subst (λ (l : List InputPass). Gave channels before l (λ c. notes_on c [])) (sym same) (gave_no_more channels before);
}

-- The first message was taken.
pub went_on_took : (channels : List ChannelId) (before after : List InputPass) (got : Option (List ℕ)) (pending left : List ℕ) (count : ℕ) →
    left ≡ drop count pending → TookMessage channels before after pending count → WentOn channels before after got got pending left
went_on_took channels before after got pending left count rest took = record {
  messages = (took.frame, took.content) ∷ [];
  frames = (took.begins.is_frame, tt);
  direction = (took.took.direction, tt);
  known = All-cons (IsKnown channels) (took.frame, took.content) [] took.took.known (All-nil (IsKnown channels));
  added = [];
  told = appended_none got;
  spelled = append-nil pending ∙ took.begins.bytes_are ∙ ap (λ l. l ++ drop count pending) (sym (append-nil (spelling took.frame took.content)))
      ∙ ap (λ l. all_spelled ((took.frame, took.content) ∷ []) ++ l) (sym rest);
  gave = took.took.gave;
}

-- ---- several rounds

pub went_nowhere : (channels : List ChannelId) (passes : List InputPass) (got : Option (List ℕ)) (pending : List ℕ) → pending ≡ [] → WentOn channels passes passes got got [] pending
went_nowhere channels passes got pending fresh = record {
  messages = [];
  frames = tt;
  direction = tt;
  known = All-nil (IsKnown channels);
  added = [];
  told = appended_none got;
  spelled = sym fresh;
  gave = gave_no_more channels passes;
}

pub went_further : (channels : List ChannelId) (a b c : List InputPass) (o p q : Option (List ℕ)) (x y z : List ℕ) → WentOn channels a b o p x y → WentOn channels b c p q y z → WentOn channels a c o q x z
went_further channels a b c o p q x y z u v = record {
  messages = u.messages ++ v.messages;
  frames = frames-append u.messages v.messages u.frames v.frames;
  direction = from-append is_from_sender u.messages v.messages u.direction v.direction;
  known = All-append (IsKnown channels) u.messages v.messages u.known v.known;
  added = u.added ++ v.added;
  told = appended_more o p q u.added v.added u.told v.told;
  spelled = sym (append_assoc x u.added v.added) ∙ ap (λ l. l ++ v.added) u.spelled ∙ append_assoc (all_spelled u.messages) y v.added ∙ ap (λ l. all_spelled u.messages ++ l) v.spelled
      ∙ sym (append_assoc (all_spelled u.messages) (all_spelled v.messages) z) ∙ ap (λ l. l ++ z) (sym (spelled-append u.messages v.messages));
  gave = record {
    each = λ k d at. v.gave.each k d at ∙ ap (λ l. l ++ notes_on d v.messages) (u.gave.each k d at)
        ∙ append_assoc (noted (mine_at k a)) (notes_on d u.messages) (notes_on d v.messages)
        ∙ ap (λ l. noted (mine_at k a) ++ l) (sym (notes-append d u.messages v.messages));
    open_still = λ k. v.gave.open_still k ∙ u.gave.open_still k;
  };
}

-- ---- the end

-- What was known before some rounds is still known.
why_still : (channels : List ChannelId) (after : SharePasses) (was now ended : Option Bool) (left : List ℕ) (fell mid rose : ℕ) (cause : Cause) → now ≡ was → fell ≤ mid →
    WhyEnded channels after now ended left mid rose cause → WhyEnded channels after was ended left fell rose cause
why_still channels after was now ended left fell mid rose cause same le (inl by) = inl by
why_still channels after was now ended left fell mid rose cause same le (inr (inl stopped)) = inr (inl stopped)
why_still channels after was now ended left fell mid rose cause same le (inr (inr (inl link))) = inr (inr (inl (link.0, risen_before fell mid rose le link.1)))
why_still channels after was now ended left fell mid rose cause same le (inr (inr (inr cut))) = inr (inr (inr (cut.0, subst (λ (o : Option Bool). IfSome o (λ _. ended ≡ Some true)) same cut.1, cut.2)))

-- The rounds before, and the one that ended the loop.
pub read_to_end : (cells : Cells) (a b c : SharePasses) (o p q : Option (List ℕ)) (was now ended : Option Bool) (left : List ℕ) (fell mid rose : ℕ) (cause : Cause) →
    WentOn cells.channels.now a.inputs.items b.inputs.items o p [] left → now ≡ was → fell ≤ mid → Appended p q [] → GaveNothing b.inputs.items c.inputs.items cause →
    WhyEnded cells.channels.now c now ended left mid rose cause → ReadToEnd cells a c o q was ended fell rose cause
read_to_end cells a b c o p q was now ended left fell mid rose cause went same le came nothing why = record {
  messages = went.messages;
  left = left;
  read = record {
    frames = went.frames;
    direction = went.direction;
    bytes = subst (Appended o q) (append-nil went.added ∙ went.spelled) (appended_more o p q went.added [] went.told came);
  };
  known = went.known;
  pushed = record {
    pushes = λ k d at. pushes_of (mine_at k a.inputs.items) (mine_at k c.inputs.items) d went.messages (nothing.none k ∙ went.gave.each k d at);
    notes = λ k d at. nothing.none k ∙ went.gave.each k d at;
    open_still = λ calm k. nothing.open_still calm k ∙ went.gave.open_still k;
  };
  why = why_still cells.channels.now c was now ended left fell mid rose cause same le why;
}

-- ---- the stop cell

pub none_seen : (history : List (ℕ × StopEntry)) → first_met history ≡ None → history ≡ []
none_seen [] is = refl
none_seen ((n, Met cause) ∷ history) is = absurd (cc)

pub some_seen : (history : List (ℕ × StopEntry)) → first_met history ≢ None → history ≢ []
some_seen history ne = λ e. ne (ap first_met e)

pub never_stopped : (channels : List ChannelId) (after : List InputPass) (bytes : List ℕ) (cause : Cause) → EndsBy channels after bytes cause → cause ≢ causes.Stopped
never_stopped channels after bytes cause by = λ is. let h = subst (EndsBy channels after bytes) is by in h

-- A cause of the loop's own was told, where no entry had been seen.
pub told_own : (cell : StopCell) (before after : StopPass) (cause : Cause) → seen before ≡ [] → cause ≢ causes.Stopped → IsPassOf cell after → number after ≡ number before →
    mine after ≡ mine before ++ told_of cause → (is_fault cause ≡ false → seen after ≡ seen before) → ToldStop cell cause before after
told_own cell before after cause calm ne is same told still = record {
  pass = is;
  number = same;
  told = told;
  stopped = λ e. absurd (ne e);
  done = λ e. still (ap is_fault e) ∙ calm;
}

-- Another's fault had been met, and nothing was told.
pub told_none : (cell : StopCell) (before after : StopPass) → IsPassOf cell after → number after ≡ number before → mine after ≡ mine before → first_met (seen after) ≢ None → ToldStop cell causes.Stopped before after
told_none cell before after is same told met = record {
  pass = is;
  number = same;
  told = told ∙ sym (append-nil (mine before));
  stopped = λ _. some_seen (seen after) met;
  done = λ e. absurd (cc);
}

-- Nothing was told in between.
pub told_since : (cell : StopCell) (before mid after : StopPass) (cause : Cause) → number mid ≡ number before → mine mid ≡ mine before → ToldStop cell cause mid after → ToldStop cell cause before after
told_since cell before mid after cause same none told = record {
  pass = told.pass;
  number = told.number ∙ same;
  told = told.told ∙ ap (λ l. l ++ told_of cause) none;
  stopped = told.stopped;
  done = told.done;
}
