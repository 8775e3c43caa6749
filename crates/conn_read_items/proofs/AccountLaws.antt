-- From what the rounds did to the loop's account, over the bytes that came after them too.
use Rattle.std.proofs.Common.{◌≡◌, inl, inr, ℕ, ◌≤◌, Bool, true, List, ◌++◌, Option, Some, sym, ap, subst, ◌∙◌, append_assoc}
use Rattle.std.specs.Prelude.{IfSome}
use Rattle.turn_cell.specs.History.{StartsWith}
use Rattle.flow_defs.specs.declared.cause.Cause.{Cause}
use Rattle.flow_defs.specs.declared.cause.Cause.TheVariants as causes
use Rattle.flow_defs.specs.declared.cause.PeerFault.{PeerFault}
use Rattle.flow_defs.specs.declared.cause.PeerFault.TheVariants as peers
use Rattle.net_frames.specs.declared.frame.Frame.{Frame}
use Rattle.net_frames.specs.Faults.{CannotBegin}
use Rattle.net_frames.specs.Frames.{Begins, spelling, all_spelled}
use Rattle.input_channel.specs.declared.entry.ReceiveEntry.{ReceiveEntry}
use Rattle.input_channel.specs.declared.fault.AcceptFault.{AcceptFault}
use Rattle.outside.specs.Links.{Appended}
use Rattle.outside.proofs.Faults.{risen_after}
use Rattle.conn_parts.specs.declared.share.ConnShare.{ConnShare}
use Rattle.conn_parts.specs.declared.share.SharePasses.{SharePasses}
use Rattle.conn_parts.specs.Coming.{Came}
use Rattle.conn_parts.specs.Messages.{Message, closing}
use Rattle.conn_parts.specs.Reading.{BeginsBadly, BeginsWith}
use Rattle.conn_parts.proofs.Telling.{appended_more}
use Rattle.conn_read_items.specs.declared.cells.Cells.{Cells}
use Rattle.conn_read_items.specs.Receiving.{MayReadItems, ItemsHandBack, ItemsAccount, EndedBy, MetPeer, WasRefused, reads_items}
use Rattle.conn_read_items.specs.Taking.{AreLent, KeepsOthers, EndsBy, EndsByPeer, WhyEnded, ReadToEnd}

-- ---- more bytes behind

begins_more : (bytes more : List ℕ) (frame : Frame) (content rest : List ℕ) → Begins bytes frame content rest → Begins (bytes ++ more) frame content (rest ++ more)
begins_more bytes more frame content rest b = record {
  is_frame = b.is_frame;
  bytes_are = ap (λ l. l ++ more) b.bytes_are ∙ append_assoc (spelling frame content) rest more;
}

with_more : (m : Message) (bytes more : List ℕ) → BeginsWith m bytes → BeginsWith m (bytes ++ more)
with_more m bytes more b = (b.0 ++ more, begins_more bytes more m.0 m.1 b.0 b.1)

cannot_more : (bytes more : List ℕ) → CannotBegin bytes → CannotBegin (bytes ++ more)
cannot_more bytes more cannot = λ others frame content rest b. cannot (more ++ others) frame content rest (subst (λ l. Begins l frame content rest) (append_assoc bytes more others) b)

badly_more : (bytes more : List ℕ) → BeginsBadly reads_items bytes → BeginsBadly reads_items (bytes ++ more)
badly_more bytes more (inl cannot) = inl (cannot_more bytes more cannot)
badly_more bytes more (inr bad) = inr (bad.0, bad.1, bad.2 ++ more, begins_more bytes more bad.0 bad.1 bad.2 bad.3, bad.4)

starts_more : (bytes more : List ℕ) → StartsWith bytes closing → StartsWith (bytes ++ more) closing
starts_more bytes more s = (s.0 ++ more, ap (λ l. l ++ more) s.1 ∙ append_assoc closing s.0 more)

module _ (share : ConnShare) (after : SharePasses) (was ended : Option Bool) (left more : List ℕ) where
  refused_more : (k : ℕ) (history : List (ℕ × ReceiveEntry)) (fault : AcceptFault) → WasRefused share.channels.now left k history fault → WasRefused share.channels.now (left ++ more) k history fault
  refused_more k history fault r = record {
    channel = r.channel;
    sequence = r.sequence;
    backlog = r.backlog;
    what = r.what;
    content = r.content;
    place = r.place;
    begins = with_more _ left more r.begins;
    state = r.state;
    stands = r.stands;
    refused = r.refused;
  }

  met_by : (fault : PeerFault) → EndsByPeer share.channels.now after.inputs.items left fault → MetPeer share after was ended (left ++ more) fault
  met_by peers.BadFrame h = badly_more left more h
  met_by peers.Sequence h = (h.0, h.1, (h.2.0, refused_more _ _ _ h.2.1))
  met_by peers.Barrier h = (h.0, h.1, (h.2.0, refused_more _ _ _ h.2.1))
  met_by peers.Size h = (h.0, h.1, (h.2.0, refused_more _ _ _ h.2.1))
  met_by peers.AfterEnd h = (h.0, refused_more _ _ _ h.1)
  met_by peers.Channel h = (h.0, with_more h.0 left more h.1, h.2)
  met_by peers.Refused h = (h.0, h.1, with_more _ left more h.2)
  met_by peers.Credit h = absurd h
  met_by peers.Resume h = absurd h
  met_by peers.Left h = absurd h
  met_by peers.Cut h = absurd h

  ended_by : (fell rose : ℕ) (cause : Cause) → EndsBy share.channels.now after.inputs.items left cause → EndedBy share after was ended (left ++ more) fell rose cause
  ended_by fell rose causes.Done h = starts_more left more h
  ended_by fell rose causes.Stopped h = absurd h
  ended_by fell rose (causes.Input source) h = absurd h
  ended_by fell rose causes.Keeper h = absurd h
  ended_by fell rose causes.Link h = absurd h
  ended_by fell rose (causes.LongLine source) h = absurd h
  ended_by fell rose (causes.BigSource source) h = absurd h
  ended_by fell rose causes.BigImage h = absurd h
  ended_by fell rose (causes.OverCredit channel received announced) h = record {
    place = h.place;
    is = h.is;
    history = h.history;
    shut = h.shut;
    refused = refused_more _ _ _ h.refused;
  }
  ended_by fell rose (causes.Peer fault) h = met_by fault h
  ended_by fell rose causes.Memory h = tt

  ended_why : (fell mid rose : ℕ) (then : Option Bool) (cause : Cause) → mid ≤ rose → (cause ≡ causes.Peer peers.Cut → ended ≡ then) →
      WhyEnded share.channels.now after was then left fell mid cause → EndedBy share after was ended (left ++ more) fell rose cause
  ended_why fell mid rose then cause le kept (inl by) = ended_by fell rose cause by
  ended_why fell mid rose then cause le kept (inr (inl stopped)) = subst (EndedBy share after was ended (left ++ more) fell rose) (sym stopped) tt
  ended_why fell mid rose then cause le kept (inr (inr (inl link))) =
      subst (EndedBy share after was ended (left ++ more) fell rose) (sym link.0) (risen_after fell mid rose link.1 le)
  ended_why fell mid rose then cause le kept (inr (inr (inr cut))) =
      subst (EndedBy share after was ended (left ++ more) fell rose) (sym cut.0)
      (subst (λ (o : Option Bool). IfSome was (λ _. o ≡ Some true)) (sym (kept cut.0)) cut.1, cut.2)

-- ---- the account

-- The cells that a share lends.
abbrev pub cells_of : ConnShare → Cells
cells_of share = record { channels = share.channels; size = share.size; inputs = share.inputs; pools = share.pools; stop = share.stop }

pub items_account : (share : ConnShare) (after : SharePasses) (o p q : Option (List ℕ)) (was then ended : Option Bool) (fell mid rose : ℕ) (cause : Cause) →
    ReadToEnd (cells_of share) share.passes after o p was then fell mid cause → Came p q → mid ≤ rose → (cause ≡ causes.Peer peers.Cut → ended ≡ then) → fell ≤ rose →
    ItemsAccount share after o q was ended fell rose cause
items_account share after o p q was then ended fell mid rose cause r came le kept never = record {
  messages = r.messages;
  left = r.left ++ came.0;
  read = record {
    frames = r.read.frames;
    direction = r.read.direction;
    bytes = subst (Appended o q) (append_assoc (all_spelled r.messages) r.left came.0) (appended_more o p q (all_spelled r.messages ++ r.left) came.0 r.read.bytes came.1);
  };
  known = r.known;
  pushed = r.pushed;
  cause_is = ended_why share after was ended r.left came.0 fell mid rose then cause le kept r.why;
  never_falls = never;
}

-- ---- what is lent and handed back

pub lent_of : (share : ConnShare) → MayReadItems share → AreLent (cells_of share) share.passes
lent_of share may = record {
  distinct = may.distinct;
  places = may.places;
  inputs = may.inputs;
  input_sizes = may.input_sizes;
  pools = may.pools;
  sizes = may.sizes;
  receivers = may.receivers;
  stop = may.stop;
}

pub handed_back : (share : ConnShare) (after : SharePasses) → KeepsOthers share.passes after → AreLent (cells_of share) after → ItemsHandBack share after
handed_back share after others lent = record { readers = others.readers; subpartitions = others.subpartitions; inputs = lent.inputs; pools = lent.pools }
