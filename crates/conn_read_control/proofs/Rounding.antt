-- Messages that were told, and the bytes in which they stood.
use Rattle.std.proofs.Common.{◌≡◌, ◌≢◌, inr, ℕ, List, [], ◌∷◌, ◌++◌, map, refl, sym, ap, subst, ◌∙◌, append_assoc, append-nil}
use Rattle.std.specs.Prelude.{flat_map, Option, Some, None, Ok, Err}
use Rattle.std.proofs.lemmas.Grind.{flat_map-append}
use Rattle.std.proofs.lemmas.List.{map-append}
use Rattle.std.proofs.lemmas.List.Elements.{All-nil, All-append}
use Rattle.turn_cell.specs.History.{StartsWith}
use Rattle.turn_cell.specs.Passes.{mine}
use Rattle.flow_defs.specs.declared.task.ChannelId.{ChannelId}
use Rattle.flow_defs.specs.declared.cause.Cause.TheVariants as causes
use Rattle.flow_defs.specs.declared.cause.PeerFault.{PeerFault}
use Rattle.flow_defs.specs.declared.cause.PeerFault.TheVariants as peers
use Rattle.net_frames.specs.declared.frame.Frame.{Frame}
use Rattle.net_frames.specs.declared.frame.Frame.TheVariants as frames
use Rattle.net_frames.specs.Frames.{Begins, spelling, all_spelled}
use Rattle.subpartition.specs.declared.entry.SendEntry.TheVariants.{Size}
use Rattle.outside.specs.Links.{Appended}
use Rattle.conn_parts.specs.Shares.{mine_at}
use Rattle.conn_parts.specs.Messages.{Message, closing, is_from_receiver, sizes_on}
use Rattle.conn_parts.proofs.Appends.{spelled-append, frames-append, from-append, sizes-append}
use Rattle.conn_parts.proofs.Telling.{appended_none, appended_more}
use Rattle.conn_read_control.specs.declared.cells.ControlCells.{ControlCells}
use Rattle.conn_read_control.specs.declared.cells.ControlPasses.{ControlPasses}
use Rattle.conn_read_control.specs.Controlling.{entries_in, IsAllowed}
use Rattle.conn_read_control.specs.Rounds.{SendPass, HeardSizes, Heard, but_closing, TookFrame, Goes, Gets, HasHandled}

-- ---- what was told

module _ (channels : List ChannelId) (size : ℕ) where
  sizes_more : (a b c : List SendPass) (xs ys : List Message) → HeardSizes channels a b xs → HeardSizes channels b c ys → HeardSizes channels a c (xs ++ ys)
  sizes_more a b c xs ys first next k d at =
      next k d at ∙ ap (λ l. l ++ map Size (sizes_on d ys)) (first k d at) ∙ append_assoc (mine_at k a) (map Size (sizes_on d xs)) (map Size (sizes_on d ys))
      ∙ ap (λ l. mine_at k a ++ l) (sym (map-append Size (sizes_on d xs) (sizes_on d ys)) ∙ ap (map Size) (sym (sizes-append d xs ys)))

  heard_more : (a b c : ControlPasses) (xs ys : List Message) → Heard channels size a b xs → Heard channels size b c ys → Heard channels size a c (xs ++ ys)
  heard_more a b c xs ys first next = record {
    direction = from-append is_from_receiver xs ys first.direction next.direction;
    allowed = All-append (IsAllowed channels size) xs ys first.allowed next.allowed;
    told =
        next.told ∙ ap (λ l. l ++ flat_map entries_in ys) first.told ∙ append_assoc (mine a.readers) (flat_map entries_in xs) (flat_map entries_in ys)
        ∙ ap (λ l. mine a.readers ++ l) (sym (flat_map-append entries_in xs ys));
    sizes = sizes_more a.subpartitions.items b.subpartitions.items c.subpartitions.items xs ys first.sizes next.sizes;
  }

  heard_none : (p : ControlPasses) → Heard channels size p p []
  heard_none p = record { direction = tt; allowed = All-nil (IsAllowed channels size); told = sym (append-nil (mine p.readers)); sizes = λ k c at. sym (append-nil (mine_at k p.subpartitions.items)) }

  -- The stop cell's pass says nothing of it.
  heard_from : (a b c : ControlPasses) (xs : List Message) → b.readers ≡ a.readers → b.subpartitions ≡ a.subpartitions → Heard channels size b c xs → Heard channels size a c xs
  heard_from a b c xs readers subpartitions h = record {
    direction = h.direction;
    allowed = h.allowed;
    told = h.told ∙ ap (λ p. mine p ++ flat_map entries_in xs) readers;
    sizes = λ k d at. h.sizes k d at ∙ ap (λ l. mine_at k l.items ++ map Size (sizes_on d xs)) subpartitions;
  }

  -- ---- messages in bytes

  goes_nothing : (a b : ControlPasses) (bytes : List ℕ) → Heard channels size a b [] → Goes channels size a b bytes bytes []
  goes_nothing a b bytes h = record { frames = tt; heard = h; spelled = refl }

  goes_one : (a b : ControlPasses) (bytes : List ℕ) (frame : Frame) (content rest : List ℕ) → Begins bytes frame content rest → Heard channels size a b ((frame, content) ∷ []) →
      Goes channels size a b bytes rest ((frame, content) ∷ [])
  goes_one a b bytes frame content rest begins h = record {
    frames = (begins.is_frame, tt);
    heard = h;
    spelled = begins.bytes_are ∙ ap (λ l. l ++ rest) (sym (append-nil (spelling frame content)));
  }

  goes_more : (a b c : ControlPasses) (x y z : List ℕ) (xs ys : List Message) → Goes channels size a b x y xs → Goes channels size b c y z ys → Goes channels size a c x z (xs ++ ys)
  goes_more a b c x y z xs ys first next = record {
    frames = frames-append xs ys first.frames next.frames;
    heard = heard_more a b c xs ys first.heard next.heard;
    spelled =
        first.spelled ∙ ap (λ l. all_spelled xs ++ l) next.spelled ∙ sym (append_assoc (all_spelled xs) (all_spelled ys) z)
        ∙ ap (λ l. l ++ z) (sym (spelled-append xs ys));
  }

  -- With more bytes behind.
  goes_behind : (a b : ControlPasses) (x y more : List ℕ) (xs : List Message) → Goes channels size a b x y xs → Goes channels size a b (x ++ more) (y ++ more) xs
  goes_behind a b x y more xs h = record {
    frames = h.frames;
    heard = h.heard;
    spelled = ap (λ l. l ++ more) h.spelled ∙ append_assoc (all_spelled xs) y more;
  }

  pub goes_from : (a b c : ControlPasses) (x y : List ℕ) (xs : List Message) → b.readers ≡ a.readers → b.subpartitions ≡ a.subpartitions → Goes channels size b c x y xs → Goes channels size a c x y xs
  goes_from a b c x y xs readers subpartitions h = record { frames = h.frames; heard = heard_from a b c xs readers subpartitions h.heard; spelled = h.spelled }

  pub gets_more : (a b c : ControlPasses) (o p q : Option (List ℕ)) (x y z : List ℕ) (xs ys : List Message) → Gets channels size a b o p x y xs → Gets channels size b c p q y z ys →
      Gets channels size a c o q x z (xs ++ ys)
  gets_more a b c o p q x y z xs ys first next = record {
    added = first.added ++ next.added;
    told = appended_more o p q first.added next.added first.told next.told;
    goes = subst (λ l. Goes channels size a c l z (xs ++ ys)) (append_assoc x first.added next.added)
        (goes_more a b c ((x ++ first.added) ++ next.added) (y ++ next.added) z xs ys (goes_behind a b (x ++ first.added) y next.added xs first.goes) next.goes);
  }

  pub gets_from_goes : (a b : ControlPasses) (o : Option (List ℕ)) (x y : List ℕ) (xs : List Message) → Goes channels size a b x y xs → Gets channels size a b o o x y xs
  gets_from_goes a b o x y xs h = record { added = []; told = appended_none o; goes = subst (λ l. Goes channels size a b l y xs) (sym (append-nil x)) h }

  -- Nothing was handled.
  pub gets_bytes : (a b : ControlPasses) (o p : Option (List ℕ)) (x added : List ℕ) → b.readers ≡ a.readers → b.subpartitions ≡ a.subpartitions → Appended o p added →
      Gets channels size a b o p x (x ++ added) []
  gets_bytes a b o p x added readers subpartitions told = record {
    added = added;
    told = told;
    goes = goes_nothing a b (x ++ added) (heard_from a b b [] readers subpartitions (heard_none b));
  }

-- ---- one frame

-- Bytes that begin with the closing frame begin with its spelling.
closes : (bytes : List ℕ) (frame : Frame) (content rest : List ℕ) → frame ≡ frames.Close → Begins bytes frame content rest → StartsWith bytes closing
closes bytes frame content rest is begins =
    let at = subst (λ f. Begins bytes f content rest) is begins in
    (rest, at.bytes_are ∙ ap (λ l. spelling frames.Close l ++ rest) at.is_frame.in_range)

not_closing : (frame : Frame) (content : List ℕ) → frame ≢ frames.Close → but_closing (frame, content) ≡ (frame, content) ∷ []
not_closing (frames.BufferResponse channel sequence backlog what) content ne = refl
not_closing (frames.ErrorResponse channel code) content ne = refl
not_closing (frames.PartitionRequest channel credit) content ne = refl
not_closing frames.Close content ne = absurd (ne refl)
not_closing (frames.AddCredit channel credit) content ne = refl
not_closing (frames.ResumeConsumption channel) content ne = refl
not_closing (frames.BacklogAnnouncement channel backlog) content ne = refl
not_closing (frames.NewBufferSize channel size) content ne = refl

module _ (cells : ControlCells) (a b : ControlPasses) (bytes : List ℕ) (frame : Frame) (content rest : List ℕ) (begins : Begins bytes frame content rest) where
  pub handled_closing : (left : List ℕ) → frame ≡ frames.Close → TookFrame cells a b (frame, content) (Ok tt) → HasHandled cells a b bytes left (Some causes.Done)
  handled_closing left is took =
      let heard = subst (λ f. TookFrame cells a b (f, content) (Ok tt)) is took in (goes_nothing cells.channels.now cells.size a b bytes heard.0, closes bytes frame content rest is begins, heard.1)

  pub handled_one : frame ≢ frames.Close → TookFrame cells a b (frame, content) (Ok tt) → HasHandled cells a b bytes rest None
  handled_one ne took =
      ((frame, content) ∷ [], goes_one cells.channels.now cells.size a b bytes frame content rest begins (subst (Heard cells.channels.now cells.size a b) (not_closing frame content ne) took.0))

counted : (channels : List ChannelId) (size : ℕ) (a b : ControlPasses) (bytes : List ℕ) (frame : Frame) (content rest : List ℕ) → Begins bytes frame content rest →
    Heard channels size a b (but_closing (frame, content)) → (messages : List Message) × (left : List ℕ) × Goes channels size a b bytes left messages
counted channels size a b bytes (frames.BufferResponse channel sequence backlog what) content rest begins h = (_, rest, goes_one channels size a b bytes (frames.BufferResponse channel sequence backlog what) content rest begins h)
counted channels size a b bytes (frames.ErrorResponse channel code) content rest begins h = (_, rest, goes_one channels size a b bytes (frames.ErrorResponse channel code) content rest begins h)
counted channels size a b bytes (frames.PartitionRequest channel credit) content rest begins h = (_, rest, goes_one channels size a b bytes (frames.PartitionRequest channel credit) content rest begins h)
counted channels size a b bytes frames.Close content rest begins h = ([], bytes, goes_nothing channels size a b bytes h)
counted channels size a b bytes (frames.AddCredit channel credit) content rest begins h = (_, rest, goes_one channels size a b bytes (frames.AddCredit channel credit) content rest begins h)
counted channels size a b bytes (frames.ResumeConsumption channel) content rest begins h = (_, rest, goes_one channels size a b bytes (frames.ResumeConsumption channel) content rest begins h)
counted channels size a b bytes (frames.BacklogAnnouncement channel backlog) content rest begins h = (_, rest, goes_one channels size a b bytes (frames.BacklogAnnouncement channel backlog) content rest begins h)
counted channels size a b bytes (frames.NewBufferSize channel n) content rest begins h = (_, rest, goes_one channels size a b bytes (frames.NewBufferSize channel n) content rest begins h)

pub handled_fault : (cells : ControlCells) (a b : ControlPasses) (bytes left : List ℕ) (frame : Frame) (content rest : List ℕ) (fault : PeerFault) → Begins bytes frame content rest →
    TookFrame cells a b (frame, content) (Err fault) → HasHandled cells a b bytes left (Some (causes.Peer fault))
handled_fault cells a b bytes left frame content rest peers.BadFrame begins took =
    ([], bytes, goes_nothing cells.channels.now cells.size a b bytes took.0, λ e. absurd (cc), inr (frame, content, rest, begins, took.1))
handled_fault cells a b bytes left frame content rest peers.Channel begins took =
    ([], bytes, goes_nothing cells.channels.now cells.size a b bytes took.0, λ e. absurd (cc), ((frame, content), (rest, begins), took.1))
handled_fault cells a b bytes left frame content rest peers.Size begins took =
    ([], bytes, goes_nothing cells.channels.now cells.size a b bytes took.0, λ e. absurd (cc), ((frame, content), (rest, begins), took.1))
handled_fault cells a b bytes left frame content rest peers.Credit begins took =
    let h = counted cells.channels.now cells.size a b bytes frame content rest begins took.0 in (h.0, h.1, h.2, λ e. absurd (cc), took.1)
handled_fault cells a b bytes left frame content rest peers.Resume begins took =
    let h = counted cells.channels.now cells.size a b bytes frame content rest begins took.0 in (h.0, h.1, h.2, λ e. absurd (cc), took.1)
handled_fault cells a b bytes left frame content rest peers.Sequence begins took = absurd took.1
handled_fault cells a b bytes left frame content rest peers.Barrier begins took = absurd took.1
handled_fault cells a b bytes left frame content rest peers.AfterEnd begins took = absurd took.1
handled_fault cells a b bytes left frame content rest peers.Left begins took = absurd took.1
handled_fault cells a b bytes left frame content rest peers.Cut begins took = absurd took.1
handled_fault cells a b bytes left frame content rest peers.Refused begins took = absurd took.1
