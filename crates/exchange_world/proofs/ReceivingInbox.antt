-- A channel's receiving end stays sound: with what arrives, and with what is polled and comes back.
use Rattle.std.proofs.Common.{◌≡◌, ℕ, ◌+◌, ◌≤◌, eqb, Bool, true, false, true≢false, List, [], ◌∷◌, ◌++◌, Option, refl, sym, ◌∙◌, arith, length-append}
use Rattle.flow_defs.specs.declared.parcel.Parcel.{Parcel}
use Rattle.flow_defs.specs.declared.parcel.Parcel.TheVariants.{Data, Barrier, End}
use Rattle.flow_defs.specs.Parcels.{has_end}
use Rattle.input_channel.specs.declared.entry.ReceiveEntry.TheVariants.{Push, Backlog, Added}
use Rattle.input_channel.specs.Counts.{data_in}
use Rattle.input_channel.specs.States.{ChannelState, OpenSave, channel_next}
use Rattle.exchange_world.specs.Lanes.{BUFFERS_MAX, floating_here}
use Rattle.exchange_world.specs.Sound.{IsSoundInbox, AreFit}
use Rattle.exchange_world.proofs.Counting.{backlog-snoc, end-snoc, exclusive_taken, floating_taken, free_taken}
use Rattle.exchange_world.proofs.Lines.{waiting-snoc, first-snoc}

-- ---- what arrives

-- what is fit alone is fit behind others that have no end
pub fit-snoc : (size : ℕ) (ps : List Parcel) (p : Parcel) → AreFit size ps → has_end ps ≡ false → AreFit size (p ∷ []) → AreFit size (ps ++ p ∷ [])
fit-snoc size [] p fit more own = own
fit-snoc size (Data bytes ∷ ps) p fit more own = (fit.0, fit.1, fit-snoc size ps p fit.2 more own)
fit-snoc size (Barrier k kind ∷ ps) p fit more own = fit-snoc size ps p fit more own
fit-snoc size (End ∷ ps) p fit more own = absurd (true≢false more)

-- the first of these alone is fit, and so are the others
pub fit_first : (size : ℕ) (p : Parcel) (ps : List Parcel) → AreFit size (p ∷ ps) → AreFit size (p ∷ [])
fit_first size (Data bytes) ps fit = (fit.0, fit.1, tt)
fit_first size (Barrier k kind) ps fit = tt
fit_first size End ps fit = refl

pub fit_rest : (size : ℕ) (p : Parcel) (ps : List Parcel) → AreFit size (p ∷ ps) → AreFit size ps
fit_rest size (Data bytes) ps fit = fit.2
fit_rest size (Barrier k kind) ps fit = fit
fit_rest size End [] fit = tt
fit_rest size End (q ∷ qs) fit = absurd (no fit)
  where
    no : q ∷ qs ≡ [] → ⊥
    no e = cc

-- the end has not come where the inbox says so
no_end : (waits ended : Bool) → (waits ≡ true → ended ≡ true) → ended ≡ false → waits ≡ false
no_end true ended h e = absurd (true≢false (sym (h refl) ∙ e))
no_end false ended h e = refl

pub inbox_pushed : (size backlog : ℕ) (inbox : ChannelState) (p : Parcel) → IsSoundInbox size inbox → inbox.ended ≡ false → AreFit size (p ∷ []) → data_in p ≤ inbox.credit →
    IsSoundInbox size (channel_next inbox (Push p backlog))
inbox_pushed size backlog inbox (Data bytes) sound more own paid =
    let c = inbox.counts in
    let queue = no_end (has_end inbox.queue) inbox.ended sound.end more in
    let some : 1 ≤ c.exclusive + c.floating = omega (arith, sound.free_is, paid) in
    let exclusive = exclusive_taken c.exclusive c.floating c.held some in
    let floating = floating_taken c.floating c.held in
    let less = free_taken c.exclusive c.floating some in
    let held = length-append c.held (eqb c.floating 0 ∷ []) in
    let waits = backlog-snoc inbox.queue (Data bytes) in
    record {
      size_is = sound.size_is;
      room_is = sound.room_is;
      announces = sound.announces;
      exclusive = exclusive ∙ sound.exclusive;
      floating = omega (arith, floating, sound.floating);
      free_is = omega (arith, less, sound.free_is, paid);
      line = waiting-snoc inbox.line inbox.queue (Data bytes) sound.line;
      first = first-snoc inbox.line (Data bytes) sound.first;
      held = omega (arith, held, waits, sound.held);
      fit = fit-snoc size inbox.queue (Data bytes) sound.fit queue own;
      end = λ e. absurd (true≢false (sym e ∙ end-snoc inbox.queue (Data bytes) queue));
      resumed = sound.resumed;
    }
inbox_pushed size backlog inbox (Barrier k kind) sound more own paid =
    let queue = no_end (has_end inbox.queue) inbox.ended sound.end more in
    let waits = backlog-snoc inbox.queue (Barrier k kind) in
    record {
      size_is = sound.size_is;
      room_is = sound.room_is;
      announces = sound.announces;
      exclusive = sound.exclusive;
      floating = sound.floating;
      free_is = omega (arith, sound.free_is);
      line = waiting-snoc inbox.line inbox.queue (Barrier k kind) sound.line;
      first = first-snoc inbox.line (Barrier k kind) sound.first;
      held = omega (arith, waits, sound.held);
      fit = fit-snoc size inbox.queue (Barrier k kind) sound.fit queue own;
      end = λ e. absurd (true≢false (sym e ∙ end-snoc inbox.queue (Barrier k kind) queue));
      resumed = sound.resumed;
    }
inbox_pushed size backlog inbox End sound more own paid =
    let queue = no_end (has_end inbox.queue) inbox.ended sound.end more in
    let waits = backlog-snoc inbox.queue End in
    record {
      size_is = sound.size_is;
      room_is = sound.room_is;
      announces = sound.announces;
      exclusive = sound.exclusive;
      floating = sound.floating;
      free_is = omega (arith, sound.free_is);
      line = waiting-snoc inbox.line inbox.queue End sound.line;
      first = first-snoc inbox.line End sound.first;
      held = omega (arith, waits, sound.held);
      fit = fit-snoc size inbox.queue End sound.fit queue own;
      end = λ e. refl;
      resumed = sound.resumed;
    }

pub inbox_told : (size backlog : ℕ) (inbox : ChannelState) → IsSoundInbox size inbox → IsSoundInbox size (channel_next inbox (Backlog backlog))
inbox_told size backlog inbox sound = record {
  size_is = sound.size_is;
  room_is = sound.room_is;
  announces = sound.announces;
  exclusive = sound.exclusive;
  floating = sound.floating;
  free_is = sound.free_is;
  line = sound.line;
  first = sound.first;
  held = sound.held;
  fit = sound.fit;
  end = sound.end;
  resumed = sound.resumed;
}

-- ---- a floating buffer comes

pub inbox_added : (size : ℕ) (inbox : ChannelState) → IsSoundInbox size inbox → 3 + floating_here inbox ≤ BUFFERS_MAX → IsSoundInbox size (channel_next inbox Added)
inbox_added size inbox sound few = record {
  size_is = sound.size_is;
  room_is = sound.room_is;
  announces = sound.announces;
  exclusive = sound.exclusive;
  floating = omega (arith, few);
  free_is = omega (arith, sound.free_is);
  line = sound.line;
  first = sound.first;
  held = sound.held;
  fit = sound.fit;
  end = sound.end;
  resumed = sound.resumed;
}

-- ---- a save is opened or closed

pub inbox_saved : (size : ℕ) (inbox : ChannelState) (save : Option OpenSave) → IsSoundInbox size inbox → IsSoundInbox size (record inbox { save = save })
inbox_saved size inbox save sound = record {
  size_is = sound.size_is;
  room_is = sound.room_is;
  announces = sound.announces;
  exclusive = sound.exclusive;
  floating = sound.floating;
  free_is = sound.free_is;
  line = sound.line;
  first = sound.first;
  held = sound.held;
  fit = sound.fit;
  end = sound.end;
  resumed = sound.resumed;
}
