-- A channel and the floating buffers that it gets.
use Rattle.std.proofs.Common.{◌≡◌, ℕ, zero, suc, ◌+◌, ◌-◌, replicate, sym, ap, ◌∙◌, arith}
use Rattle.input_channel.specs.declared.entry.ReceiveEntry.TheVariants as entries
use Rattle.input_channel.specs.Counts.{wants}
use Rattle.input_channel.specs.States.{ChannelState, channel_next}
use Rattle.exchange_world.specs.Lanes.{floating_here}
use Rattle.exchange_world.specs.Steps.{after_all}
use Rattle.exchange_core.specs.Inlets.{floats, with_floats}

-- the channel with so many more floating buffers, and so much more credit to announce
abbrev pub added : ℕ → ChannelState → ChannelState
added n inbox = record inbox { counts = record inbox.counts { floating = inbox.counts.floating + n; pending = inbox.counts.pending + n } }

abbrev counted : ChannelState → ℕ → ℕ → ChannelState
counted inbox floating pending = record inbox { counts = record inbox.counts { floating = floating; pending = pending } }

counted_same : (inbox : ChannelState) (a b c d : ℕ) → a ≡ b → c ≡ d → counted inbox a c ≡ counted inbox b d
counted_same inbox a b c d one two = ap (λ x. counted inbox x c) one ∙ ap (λ y. counted inbox b y) two

pub added_none : (inbox : ChannelState) → inbox ≡ added 0 inbox
added_none inbox = counted_same inbox _ _ _ _ (omega arith) (omega arith)

-- one more
pub added_more : (n : ℕ) (inbox : ChannelState) → channel_next (added n inbox) entries.Added ≡ added (n + 1) inbox
added_more n inbox = counted_same inbox _ _ _ _ (omega arith) (omega arith)

pub after_added : (n : ℕ) (inbox : ChannelState) → after_all inbox (replicate n entries.Added) ≡ added n inbox
after_added zero inbox = added_none inbox
after_added (suc n) inbox = after_added n (channel_next inbox entries.Added) ∙ counted_same inbox _ _ _ _ (omega arith) (omega arith)

pub wants_less : (n : ℕ) (inbox : ChannelState) → wants (added n inbox).room (added n inbox).counts ≡ wants inbox.room inbox.counts - n
wants_less n inbox = omega arith

pub floating_more : (n : ℕ) (inbox : ChannelState) → floating_here (added n inbox) ≡ floating_here inbox + n
floating_more n inbox = omega arith

-- what it has once it has got them
pub floating_with : (limit lent : ℕ) (inbox : ChannelState) → floating_here (with_floats limit lent inbox) ≡ floating_here inbox + floats limit lent inbox
floating_with limit lent inbox = ap floating_here (after_added (floats limit lent inbox) inbox) ∙ floating_more (floats limit lent inbox) inbox

pub owed_with : (limit lent : ℕ) (inbox : ChannelState) → (with_floats limit lent inbox).owed ≡ inbox.owed
owed_with limit lent inbox = ap (λ (i : ChannelState). i.owed) (after_added (floats limit lent inbox) inbox)

-- it has got all where it wants no more, or where the pool lends no more
pub got_all : (limit lent n : ℕ) (old inbox : ChannelState) → inbox ≡ added n old → n ≡ floats limit lent old → inbox ≡ with_floats limit lent old
got_all limit lent n old inbox is all = is ∙ ap (λ k. added k old) all ∙ sym (after_added (floats limit lent old) old)

pub wants_of_got : (n : ℕ) (old inbox : ChannelState) → inbox ≡ added n old → wants inbox.room inbox.counts ≡ wants old.room old.counts - n
wants_of_got n old inbox is = ap (λ (i : ChannelState). wants i.room i.counts) is ∙ wants_less n old
