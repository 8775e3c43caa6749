-- What the bytes of a link begin with where a loop met a fault of its other end.
use Rattle.std.proofs.Common.{◌≡◌, ℕ, true, Bool, List, [], ◌++◌, Option, Some, None, refl, subst}
use Rattle.std.specs.Prelude.{IfSome}
use Rattle.flow_defs.specs.declared.task.ChannelId.{ChannelId}
use Rattle.flow_defs.specs.declared.cause.PeerFault.{PeerFault}
use Rattle.flow_defs.specs.declared.cause.PeerFault.TheVariants as peers
use Rattle.net_frames.specs.declared.frame.Frame.TheVariants as frames
use Rattle.input_channel.specs.declared.entry.ReceiveEntry.{ReceiveEntry}
use Rattle.input_channel.specs.declared.fault.AcceptFault.{AcceptFault}
use Rattle.outside.specs.Links.{Appended}
use Rattle.conn_parts.specs.declared.share.ConnShare.{ConnShare}
use Rattle.conn_parts.specs.declared.share.SharePasses.{SharePasses}
use Rattle.conn_parts.specs.Messages.{Message, is_from_receiver}
use Rattle.conn_parts.specs.Reading.{BeginsWith}
use Rattle.conn_read_items.specs.Receiving.{WasRefused, MetPeer as MetAtItems}
use Rattle.conn_read_control.specs.Controlling.{IsWrong, IsTooLarge, seen_readers, MetPeer as MetAtControl}
use Rattle.reader_state.specs.declared.entry.ReaderEntry.{ReaderEntry}
use Rattle.job_outcome.specs.Grounds.{BeginsWithItem, ItemsBegin, ControlBegins}

-- What was refused begins with an item on one of the channels.
item_begins : (channels : List ChannelId) (left : List ℕ) (k : ℕ) (history : List (ℕ × ReceiveEntry)) (fault : AcceptFault) →
    WasRefused channels left k history fault → BeginsWithItem channels left
item_begins channels left k history fault w = (k, w.channel, w.sequence, w.backlog, w.what, w.content, w.place, w.begins)

module _ (share : ConnShare) (passes : SharePasses) (was_ended ended : Option Bool) (left : List ℕ) where
  items_begin_here : (fault : PeerFault) → MetAtItems share passes was_ended ended left fault → ItemsBegin share.channels.now fault left
  items_begin_here peers.BadFrame met = met
  items_begin_here peers.Refused met = met
  items_begin_here peers.Channel met = met
  items_begin_here peers.Sequence met = item_begins share.channels.now left met.2.0 _ _ met.2.1
  items_begin_here peers.AfterEnd met = item_begins share.channels.now left met.0 _ _ met.1
  items_begin_here peers.Size met = item_begins share.channels.now left met.2.0 _ _ met.2.1
  items_begin_here peers.Barrier met = item_begins share.channels.now left met.2.0 _ _ met.2.1
  items_begin_here peers.Cut met = tt
  items_begin_here other met = absurd met

  pub items_begin : {channels : List ChannelId} → share.channels.now ≡ channels → (fault : PeerFault) → MetAtItems share passes was_ended ended left fault →
      ItemsBegin channels fault left
  items_begin same fault met = subst (λ (cs : List ChannelId). ItemsBegin cs fault left) same (items_begin_here fault met)

  wrong_is_control : (channels : List ChannelId) (history : List (ℕ × ReaderEntry)) (m : Message) → IsWrong channels history m → is_from_receiver m.0 ≡ true
  wrong_is_control channels history (frames.PartitionRequest channel credit, content) wrong = refl
  wrong_is_control channels history (frames.AddCredit channel credit, content) wrong = refl
  wrong_is_control channels history (frames.ResumeConsumption channel, content) wrong = refl
  wrong_is_control channels history (frames.NewBufferSize channel size, content) wrong = refl
  wrong_is_control channels history (other, content) wrong = absurd wrong

  size_begins : (size : ℕ) (m : Message) → BeginsWith m left → IsTooLarge size m → ControlBegins peers.Size left
  size_begins size (frames.NewBufferSize channel n, content) begins large = (channel, n, content, begins)
  size_begins size (other, content) begins large = absurd large

  pub control_begins : (fault : PeerFault) → MetAtControl share passes was_ended ended left fault → ControlBegins fault left
  control_begins peers.BadFrame met = met
  control_begins peers.Channel met = (met.0, met.1, wrong_is_control share.channels.now (seen_readers passes) met.0 met.2)
  control_begins peers.Size met = size_begins share.size met.0 met.1 met.2
  control_begins peers.Credit met = tt
  control_begins peers.Resume met = tt
  control_begins peers.Cut met = tt
  control_begins other met = absurd met

-- Bytes that were added to none.
pub all_came : (old new : Option (List ℕ)) (had bytes : List ℕ) → old ≡ Some had → IfSome old (λ b. b ≡ []) → Appended old new bytes → new ≡ Some bytes
all_came (Some b) new had bytes told none more = subst (λ (x : List ℕ). new ≡ Some (x ++ bytes)) none more
all_came None new had bytes told none more = absurd (cc)

pub has_ended : (old new : Option Bool) (b : Bool) → old ≡ Some b → IfSome old (λ _. new ≡ Some true) → new ≡ Some true
has_ended (Some b) new c told is = is
has_ended None new c told is = absurd (cc)
