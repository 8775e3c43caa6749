-- What a gate gives, and why it gives nothing more. As in Flink's input gates a task takes from many channels by one gate, and a channel that
-- gave an aligned barrier gives nothing more until it is resumed. Which causes it tells is this project's own choice.
use Rattle.std.specs.Prelude.{◌≡◌, ℕ, ◌<◌, true, Bool, [], ◌∷◌, length, Result, Ok, Err}
use Rattle.flow_defs.specs.Records.{IsShort}
use Rattle.record_spans.specs.Spans.{HasNoRecord, BeginsTooLong}
use Rattle.channel_cut.specs.Cuts.{Cut}
use Rattle.gate_account.specs.Accounts.{Account, AllOver, GaveNothing, GaveOf, GaveBarrier}
use Rattle.input_gate.specs.declared.gate.GateItem.{GateItem}
use Rattle.input_gate.specs.declared.gate.GateItem.TheVariants as items
use Rattle.input_gate.specs.declared.gate.GateEnd.{GateEnd}
use Rattle.input_gate.specs.declared.gate.GateEnd.TheVariants as ends

module _ (before after : Account) where
  -- What an item adds, behind which the gate shows these cuts of its channels.
  abbrev pub GaveItem : (ℕ → Cut → Type 0) → Bool → GateItem → Type 0
  GaveItem shows hold (items.Line c line) = IsShort line.items × GaveOf before after c (line.items ∷ []) []
  GaveItem shows hold (items.Barrier c k kind) = GaveBarrier before after shows hold c k kind
  GaveItem shows hold items.AllEnded = GaveNothing before after × AllOver after

  -- Why it gave nothing: a length that is no record's, or the end of a channel in the middle of a record.
  abbrev pub Ended : GateEnd → Type 0
  Ended ends.Stopped = Unit {0}
  Ended ends.Memory = Unit {0}
  Ended (ends.TooLong c len) = (c < before.channels) × BeginsTooLong (after.left c) len
  Ended (ends.Left c len) = (c < before.channels) × (after.ended c ≡ true) × (length (after.left c) ≡ len) × (0 < len) × HasNoRecord (after.left c)

  -- What a call of `next` gave.
  abbrev pub Gave : (ℕ → Cut → Type 0) → Bool → Result GateItem GateEnd → Type 0
  Gave shows hold (Ok item) = GaveItem shows hold item
  Gave shows hold (Err cause) = GaveNothing before after × Ended cause
