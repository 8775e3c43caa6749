-- What a round came to, and the rounds.
use Rattle.std.proofs.Common.{◌≡◌, ◌≢◌, inl, ℕ, ◌≤◌, Bool, List, [], ◌∷◌, ◌++◌, refl, sym, ap, subst, ◌∙◌, append-nil}
use Rattle.std.specs.Prelude.{Option, Some, None}
use Rattle.turn_cell.specs.Passes.{seen}
use Rattle.flow_defs.specs.declared.task.ChannelId.{ChannelId}
use Rattle.flow_defs.specs.declared.cause.Cause.{Cause}
use Rattle.flow_defs.specs.declared.cause.Cause.TheVariants as causes
use Rattle.flow_defs.specs.declared.cause.PeerFault.{PeerFault}
use Rattle.flow_defs.specs.declared.cause.PeerFault.TheVariants as peers
use Rattle.net_frames.specs.declared.fault.FrameFault.{FrameFault}
use Rattle.net_frames.specs.declared.fault.FrameFault.TheVariants.{NeedMore}
use Rattle.net_frames.specs.Faults.{CannotBegin}
use Rattle.reader_state.specs.declared.entry.ReaderEntry.{ReaderEntry}
use Rattle.outside.specs.declared.stop.StopEntry.{StopEntry}
use Rattle.outside.specs.declared.stop.StopEntry.TheVariants.{Met}
use Rattle.outside.specs.Stops.{first_met}
use Rattle.outside.proofs.Faults.{risen_before}
use Rattle.conn_parts.specs.Messages.{Message}
use Rattle.conn_parts.proofs.Telling.{appended_none, appended_same}
use Rattle.conn_read_control.specs.declared.cells.ControlCells.{ControlCells}
use Rattle.conn_read_control.specs.declared.cells.ControlPasses.{ControlPasses}
use Rattle.conn_read_control.specs.Rounds.{Gets, MeetsPeer, EndsBy, HasLooked, HasHandled, HasRead, HasEnded, Went}
use Rattle.conn_read_control.proofs.Rounding.{goes_from, gets_more, gets_from_goes, gets_bytes}

-- ---- the stop cell

pub met_some : (history : List (ℕ × StopEntry)) (cause : Cause) → Some cause ≡ first_met history → history ≢ []
met_some history cause met e = let none : first_met history ≡ None = ap first_met e in absurd (cc)

pub met_none : (history : List (ℕ × StopEntry)) → None ≡ first_met history → history ≡ []
met_none [] e = refl
met_none ((n, Met cause) ∷ history) e = absurd (cc)

-- ---- a round

-- What a fault says of a message or of the readers does not depend on the end of the bytes.
meets_any : (channels : List ChannelId) (size : ℕ) (history : List (ℕ × ReaderEntry)) (w e : Option Bool) (left : List ℕ) (fault : PeerFault) → fault ≢ peers.Cut →
    MeetsPeer channels size history None None left fault → MeetsPeer channels size history w e left fault
meets_any channels size history w e left peers.BadFrame ne h = h
meets_any channels size history w e left peers.Sequence ne h = h
meets_any channels size history w e left peers.Barrier ne h = h
meets_any channels size history w e left peers.Size ne h = h
meets_any channels size history w e left peers.AfterEnd ne h = h
meets_any channels size history w e left peers.Channel ne h = h
meets_any channels size history w e left peers.Credit ne h = h
meets_any channels size history w e left peers.Resume ne h = h
meets_any channels size history w e left peers.Left ne h = h
meets_any channels size history w e left peers.Cut ne h = absurd (ne refl)
meets_any channels size history w e left peers.Refused ne h = h

peer_looked : (fault : PeerFault) (stops : List (ℕ × StopEntry)) → HasLooked (causes.Peer fault) stops
peer_looked fault stops = record { stopped = λ e. absurd (cc); done = λ e. absurd (cc) }

module _ (cells : ControlCells) (first a : ControlPasses) (readers : a.readers ≡ first.readers) (subpartitions : a.subpartitions ≡ first.subpartitions) where
  pub round_handled : (b : ControlPasses) (o : Option (List ℕ)) (w : Option Bool) (k : ℕ) (x y : List ℕ) (r : Option Cause) → seen b.stop ≡ [] →
      HasHandled cells a b x y r → Went cells first b o o w w k k x y r
  round_handled b o w k x y None empty h =
      ((h.0, gets_from_goes cells.channels.now cells.size first b o x y h.0 (goes_from cells.channels.now cells.size first a b x y h.0 readers subpartitions h.1)), refl)
  round_handled b o w k x y (Some causes.Done) empty h = record {
    messages = [];
    left = x;
    gets = gets_from_goes cells.channels.now cells.size first b o x x [] (goes_from cells.channels.now cells.size first a b x x [] readers subpartitions h.0);
    ends = (h.1, h.2);
    looked = record { stopped = λ e. absurd (cc); done = λ e. empty };
  }
  round_handled b o w k x y (Some causes.Stopped) empty h = absurd h
  round_handled b o w k x y (Some (causes.Input source)) empty h = absurd h
  round_handled b o w k x y (Some causes.Keeper) empty h = absurd h
  round_handled b o w k x y (Some causes.Link) empty h = absurd h
  round_handled b o w k x y (Some (causes.LongLine source)) empty h = absurd h
  round_handled b o w k x y (Some (causes.BigSource source)) empty h = absurd h
  round_handled b o w k x y (Some causes.BigImage) empty h = absurd h
  round_handled b o w k x y (Some (causes.OverCredit channel received announced)) empty h = absurd h
  round_handled b o w k x y (Some (causes.Peer fault)) empty h = record {
    messages = h.0;
    left = h.1;
    gets = gets_from_goes cells.channels.now cells.size first b o x h.1 h.0 (goes_from cells.channels.now cells.size first a b x h.1 h.0 readers subpartitions h.2);
    ends = meets_any cells.channels.now cells.size (seen b.readers) w w h.1 fault h.3 h.4;
    looked = peer_looked fault (seen b.stop);
  }
  round_handled b o w k x y (Some causes.Memory) empty h = absurd h

  pub round_read : (o p : Option (List ℕ)) (w e : Option Bool) (k l : ℕ) (x y : List ℕ) (r : Option Cause) → HasRead o p w e k l x y r → Went cells first a o p w e k l x y r
  round_read o p w e k l x y None h =
      (([], subst (λ z. Gets cells.channels.now cells.size first a o p x z []) (sym h.2) (gets_bytes cells.channels.now cells.size first a o p x h.0 readers subpartitions h.1)), h.3)
  round_read o p w e k l x y (Some causes.Done) h = absurd h
  round_read o p w e k l x y (Some causes.Stopped) h = absurd h
  round_read o p w e k l x y (Some (causes.Input source)) h = absurd h
  round_read o p w e k l x y (Some causes.Keeper) h = absurd h
  round_read o p w e k l x y (Some causes.Link) h = record {
    messages = [];
    left = x ++ [];
    gets = gets_bytes cells.channels.now cells.size first a o p x [] readers subpartitions (appended_same o o p [] (appended_none o) h.0);
    ends = h.1;
    looked = record { stopped = λ e. absurd (cc); done = λ e. absurd (cc) };
  }
  round_read o p w e k l x y (Some (causes.LongLine source)) h = absurd h
  round_read o p w e k l x y (Some (causes.BigSource source)) h = absurd h
  round_read o p w e k l x y (Some causes.BigImage) h = absurd h
  round_read o p w e k l x y (Some (causes.OverCredit channel received announced)) h = absurd h
  round_read o p w e k l x y (Some (causes.Peer peers.BadFrame)) h = absurd h
  round_read o p w e k l x y (Some (causes.Peer peers.Sequence)) h = absurd h
  round_read o p w e k l x y (Some (causes.Peer peers.Barrier)) h = absurd h
  round_read o p w e k l x y (Some (causes.Peer peers.Size)) h = absurd h
  round_read o p w e k l x y (Some (causes.Peer peers.AfterEnd)) h = absurd h
  round_read o p w e k l x y (Some (causes.Peer peers.Channel)) h = absurd h
  round_read o p w e k l x y (Some (causes.Peer peers.Credit)) h = absurd h
  round_read o p w e k l x y (Some (causes.Peer peers.Resume)) h = absurd h
  round_read o p w e k l x y (Some (causes.Peer peers.Left)) h = absurd h
  round_read o p w e k l x y (Some (causes.Peer peers.Cut)) h = record {
    messages = [];
    left = x ++ h.0;
    gets = gets_bytes cells.channels.now cells.size first a o p x h.0 readers subpartitions h.1;
    ends = h.2;
    looked = peer_looked peers.Cut (seen a.stop);
  }
  round_read o p w e k l x y (Some (causes.Peer peers.Refused)) h = absurd h
  round_read o p w e k l x y (Some causes.Memory) h = absurd h

  pub round_stopped : (o : Option (List ℕ)) (w : Option Bool) (k : ℕ) (x y : List ℕ) → seen a.stop ≢ [] → Went cells first a o o w w k k x y (Some causes.Stopped)
  round_stopped o w k x y some = record {
    messages = [];
    left = x ++ [];
    gets = gets_bytes cells.channels.now cells.size first a o o x [] readers subpartitions (appended_none o);
    ends = tt;
    looked = record { stopped = λ e. some; done = λ e. absurd (cc) };
  }

  pub round_bad : (o : Option (List ℕ)) (w : Option Bool) (k : ℕ) (x y : List ℕ) → CannotBegin x → Went cells first a o o w w k k x y (Some (causes.Peer peers.BadFrame))
  round_bad o w k x y bad = record {
    messages = [];
    left = x ++ [];
    gets = gets_bytes cells.channels.now cells.size first a o o x [] readers subpartitions (appended_none o);
    ends = inl (subst CannotBegin (sym (append-nil x)) bad);
    looked = peer_looked peers.BadFrame (seen a.stop);
  }

-- ---- the rounds

-- The count of faults may have been lower at first.
risen_end : (channels : List ChannelId) (size : ℕ) (history : List (ℕ × ReaderEntry)) (w e : Option Bool) (left : List ℕ) (k l m : ℕ) (cause : Cause) → k ≤ l →
    EndsBy channels size history w e left l m cause → EndsBy channels size history w e left k m cause
risen_end channels size history w e left k l m causes.Done le h = h
risen_end channels size history w e left k l m causes.Stopped le h = h
risen_end channels size history w e left k l m (causes.Input source) le h = h
risen_end channels size history w e left k l m causes.Keeper le h = h
risen_end channels size history w e left k l m causes.Link le h = risen_before k l m le h
risen_end channels size history w e left k l m (causes.LongLine source) le h = h
risen_end channels size history w e left k l m (causes.BigSource source) le h = h
risen_end channels size history w e left k l m causes.BigImage le h = h
risen_end channels size history w e left k l m (causes.OverCredit channel received announced) le h = h
risen_end channels size history w e left k l m (causes.Peer fault) le h = h
risen_end channels size history w e left k l m causes.Memory le h = h

pub ended_more : (cells : ControlCells) (a b c : ControlPasses) (o p q : Option (List ℕ)) (w e f : Option Bool) (k l m : ℕ) (x y : List ℕ) (xs : List Message) (cause : Cause) →
    Gets cells.channels.now cells.size a b o p x y xs → e ≡ w → k ≤ l → HasEnded cells b c p q e f l m y cause → HasEnded cells a c o q w f k m x cause
ended_more cells a b c o p q w e f k l m x y xs cause first same le h = record {
  messages = xs ++ h.messages;
  left = h.left;
  gets = gets_more cells.channels.now cells.size a b c o p q x y h.left xs h.messages first h.gets;
  ends = risen_end cells.channels.now cells.size (seen c.readers) w f h.left k l m cause le
      (subst (λ v. EndsBy cells.channels.now cells.size (seen c.readers) v f h.left l m cause) same h.ends);
  looked = h.looked;
}

pub ended_memory : (cells : ControlCells) (a : ControlPasses) (o : Option (List ℕ)) (w : Option Bool) (k : ℕ) → HasEnded cells a a o o w w k k [] causes.Memory
ended_memory cells a o w k = record {
  messages = [];
  left = [] ++ [];
  gets = gets_bytes cells.channels.now cells.size a a o o [] [] refl refl (appended_none o);
  ends = tt;
  looked = record { stopped = λ e. absurd (cc); done = λ e. absurd (cc) };
}

-- Nothing came yet.
pub gets_first : (cells : ControlCells) (a : ControlPasses) (o : Option (List ℕ)) (x : List ℕ) → x ≡ [] → Gets cells.channels.now cells.size a a o o [] x []
gets_first cells a o x none =
    subst (λ l. Gets cells.channels.now cells.size a a o o [] l []) (sym none) (gets_bytes cells.channels.now cells.size a a o o [] [] refl refl (appended_none o))

-- Only bytes that are not whole are mended by more of them.
pub cannot_begin : (bytes incoming : List ℕ) (e f : FrameFault) → bytes ≡ incoming → e ≡ f → f ≢ NeedMore → (e ≢ NeedMore → CannotBegin bytes) → CannotBegin incoming
cannot_begin bytes incoming e f is same ne stays = subst CannotBegin is (stays (λ more. ne (sym same ∙ more)))
