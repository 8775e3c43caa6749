-- The account of the loop, from what its rounds came to and what came behind them.
use Rattle.std.proofs.Common.{◌≡◌, inl, inr, ℕ, ◌≤◌, Bool, true, List, [], ◌++◌, refl, sym, ap, subst, ◌∙◌, arith, append_assoc}
use Rattle.std.specs.Prelude.{flat_map, Option, Some, IfSome}
use Rattle.turn_cell.specs.Passes.{mine, seen}
use Rattle.flow_defs.specs.declared.cause.Cause.{Cause}
use Rattle.flow_defs.specs.declared.cause.Cause.TheVariants as causes
use Rattle.flow_defs.specs.declared.cause.PeerFault.{PeerFault}
use Rattle.flow_defs.specs.declared.cause.PeerFault.TheVariants as peers
use Rattle.net_frames.specs.declared.frame.Frame.{Frame}
use Rattle.net_frames.specs.Frames.{Begins, spelling, all_spelled}
use Rattle.net_frames.specs.Faults.{CannotBegin}
use Rattle.reader_state.specs.Turning.{ReaderPass}
use Rattle.outside.specs.Stops.{first_met}
use Rattle.outside.specs.Links.{Appended}
use Rattle.outside.proofs.Faults.{risen_after}
use Rattle.conn_parts.specs.declared.share.ConnShare.{ConnShare}
use Rattle.conn_parts.specs.declared.share.SharePasses.{SharePasses}
use Rattle.conn_parts.specs.Coming.{Came}
use Rattle.conn_parts.specs.Messages.{Message, closing}
use Rattle.conn_parts.specs.Reading.{BeginsBadly, BeginsWith}
use Rattle.conn_parts.specs.Stopping.{StopPass}
use Rattle.conn_parts.proofs.Telling.{appended_more}
use Rattle.conn_read_control.specs.declared.cells.ControlCells.{ControlCells}
use Rattle.conn_read_control.specs.declared.cells.ControlPasses.{ControlPasses}
use Rattle.conn_read_control.specs.Controlling.{entries_in, reads_control, seen_readers, MetPeer, EndedBy, ControlAccount}
use Rattle.conn_read_control.specs.Rounds.{MeetsPeer, EndsBy, HasEnded, HasFinished}

-- ---- with more bytes behind

begins_more : (bytes : List ℕ) (frame : Frame) (content rest more : List ℕ) → Begins bytes frame content rest → Begins (bytes ++ more) frame content (rest ++ more)
begins_more bytes frame content rest more begins = record {
  is_frame = begins.is_frame;
  bytes_are = ap (λ l. l ++ more) begins.bytes_are ∙ append_assoc (spelling frame content) rest more;
}

cannot_more : (bytes more : List ℕ) → CannotBegin bytes → CannotBegin (bytes ++ more)
cannot_more bytes more bad = λ further frame content rest begins.
    bad (more ++ further) frame content rest (subst (λ l. Begins l frame content rest) (append_assoc bytes more further) begins)

badly_more : (reads : Frame → Bool) (bytes more : List ℕ) → BeginsBadly reads bytes → BeginsBadly reads (bytes ++ more)
badly_more reads bytes more (inl bad) = inl (cannot_more bytes more bad)
badly_more reads bytes more (inr h) = inr (h.0, h.1, h.2 ++ more, begins_more bytes h.0 h.1 h.2 more h.3, h.4)

with_more : (m : Message) (bytes more : List ℕ) → BeginsWith m bytes → BeginsWith m (bytes ++ more)
with_more m bytes more h = (h.0 ++ more, begins_more bytes m.0 m.1 h.0 more h.1)

-- ---- the cause

module _ (share : ConnShare) (after : SharePasses) (w e f : Option Bool) (left more : List ℕ) where
  met_peer : (fault : PeerFault) → MeetsPeer share.channels.now share.size (seen_readers after) w e left fault →
      (causes.Peer fault ≡ causes.Peer peers.Cut → (f ≡ e) × (first_met (seen after.stop) ≡ Some (causes.Peer peers.Cut))) → MetPeer share after w f (left ++ more) fault
  met_peer peers.BadFrame h cut = badly_more reads_control left more h
  met_peer peers.Sequence h cut = absurd h
  met_peer peers.Barrier h cut = absurd h
  met_peer peers.Size h cut = (h.0, with_more h.0 left more h.1, h.2)
  met_peer peers.AfterEnd h cut = absurd h
  met_peer peers.Channel h cut = (h.0, with_more h.0 left more h.1, h.2)
  met_peer peers.Credit h cut = h
  met_peer peers.Resume h cut = h
  met_peer peers.Left h cut = absurd h
  met_peer peers.Cut h cut = let told = cut refl in (subst (λ v. IfSome w (λ _. v ≡ Some true)) (sym told.0) h, told.1)
  met_peer peers.Refused h cut = absurd h

  ended_by : (k l m : ℕ) (met : Cause) → l ≤ m → EndsBy share.channels.now share.size (seen_readers after) w e left k l met →
      (met ≡ causes.Peer peers.Cut → (f ≡ e) × (first_met (seen after.stop) ≡ Some (causes.Peer peers.Cut))) → EndedBy share after w f (left ++ more) k m met
  ended_by k l m causes.Done le h cut = ((h.0.0 ++ more, ap (λ l. l ++ more) h.0.1 ∙ append_assoc closing h.0.0 more), h.1)
  ended_by k l m causes.Stopped le h cut = tt
  ended_by k l m (causes.Input source) le h cut = absurd h
  ended_by k l m causes.Keeper le h cut = absurd h
  ended_by k l m causes.Link le h cut = risen_after k l m h le
  ended_by k l m (causes.LongLine source) le h cut = absurd h
  ended_by k l m (causes.BigSource source) le h cut = absurd h
  ended_by k l m causes.BigImage le h cut = absurd h
  ended_by k l m (causes.OverCredit channel received announced) le h cut = absurd h
  ended_by k l m (causes.Peer fault) le h cut = met_peer fault h cut
  ended_by k l m causes.Memory le h cut = tt

  counts : (k l m : ℕ) (met cause : Cause) → l ≤ m → EndsBy share.channels.now share.size (seen_readers after) w e left k l met →
      HasFinished (seen after.stop) e f met cause → EndedBy share after w f (left ++ more) k m cause
  counts k l m met cause le h (inl told) = subst (EndedBy share after w f (left ++ more) k m) (sym told.0) (ended_by k l m met le h told.1)
  counts k l m met cause le h (inr stopped) = subst (EndedBy share after w f (left ++ more) k m) (sym stopped) tt

-- ---- the account

abbrev pub cells_of : ConnShare → ControlCells
cells_of share = record { channels = share.channels; size = share.size; readers = share.readers; subpartitions = share.subpartitions; stop = share.stop }

abbrev pub begun : ConnShare → ReaderPass → ControlPasses
begun share readers = record { readers = readers; subpartitions = share.passes.subpartitions; stop = share.passes.stop }

abbrev pub handed_back : ConnShare → ControlPasses → StopPass → SharePasses
handed_back share passes stop = record { readers = Some passes.readers; subpartitions = passes.subpartitions; inputs = share.passes.inputs; pools = share.passes.pools; stop = stop }

pub accounted : (share : ConnShare) (readers : ReaderPass) (passes : ControlPasses) (stop : StopPass) (o p q : Option (List ℕ)) (w e f : Option Bool) (k l m : ℕ) (met cause : Cause) →
    mine readers ≡ [] → HasEnded (cells_of share) (begun share readers) passes o p w e k l [] met → k ≤ l → Came p q → l ≤ m → HasFinished (seen stop) e f met cause →
    ControlAccount share (handed_back share passes stop) o q w f k m cause
accounted share readers passes stop o p q w e f k l m met cause new h first came next finished =
    let goes = h.gets.goes in record {
      messages = h.messages;
      left = h.left ++ came.0;
      read = record {
        frames = goes.frames;
        direction = goes.heard.direction;
        bytes = subst (Appended o q) (ap (λ l. l ++ came.0) goes.spelled ∙ append_assoc (all_spelled h.messages) h.left came.0)
            (appended_more o p q h.gets.added came.0 h.gets.told came.1);
      };
      allowed = goes.heard.allowed;
      heard = record { told = goes.heard.told ∙ ap (λ l. l ++ flat_map entries_in h.messages) new; sizes = goes.heard.sizes };
      cause_is = counts share (handed_back share passes stop) w e f h.left came.0 k l m met cause next h.ends finished;
      never_falls = omega arith;
    }
