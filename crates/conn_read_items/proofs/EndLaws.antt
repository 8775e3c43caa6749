-- How a frame that stands first in the bytes ends the loop.
use Rattle.std.proofs.Common.{◌≡◌, ◌≢◌, inl, inr, ℕ, false, List, ◌++◌, Some, refl, sym, ap, subst, ◌∙◌}
use Rattle.std.specs.Prelude.{slice_get}
use Rattle.std.proofs.lemmas.Bool.{cases_eq}
use Rattle.flow_defs.specs.declared.task.ChannelId.{ChannelId}
use Rattle.flow_defs.specs.declared.cause.Cause.{Cause}
use Rattle.flow_defs.specs.declared.cause.Cause.TheVariants as causes
use Rattle.flow_defs.specs.declared.cause.PeerFault.TheVariants as peers
use Rattle.net_frames.specs.declared.frame.Frame.{Frame}
use Rattle.net_frames.specs.declared.frame.Frame.TheVariants as frames
use Rattle.net_frames.specs.declared.frame.ArrivalKind2.{ArrivalKind2}
use Rattle.net_frames.specs.Frames.{Begins, spelling}
use Rattle.input_channel.specs.declared.entry.ReceiveEntry.{ReceiveEntry}
use Rattle.input_channel.specs.declared.fault.AcceptFault.{AcceptFault}
use Rattle.input_channel.specs.declared.fault.AcceptFault.TheVariants as faults
use Rattle.conn_parts.specs.Shares.{mine_at}
use Rattle.conn_read_items.specs.Receiving.{reads_items, arrival_with, noted, shuts, NamesWrong, WasRefused}
use Rattle.conn_read_items.specs.Turning.{InputPass, Refuses}
use Rattle.conn_read_items.specs.Taking.{RefusedAt, GaveNothing, IsUnknown, RefusedBy, EndsWith, EndsBy, cause_of}
use Rattle.conn_read_items.proofs.EntryLaws.{shut_notes}

-- ---- no channel was given anything

pub nothing_same : (before after : List InputPass) (cause : Cause) → after ≡ before → GaveNothing before after cause
nothing_same before after cause same = record {
  none = λ k. ap (λ (l : List InputPass). noted (mine_at k l)) same;
  open_still = λ _ k. ap (λ (l : List InputPass). shuts (mine_at k l)) same;
}

module _ (k : ℕ) (before after : List InputPass) (others : (j : ℕ) → j ≢ k → mine_at j after ≡ mine_at j before) where
  mine_all : mine_at k after ≡ mine_at k before → (j : ℕ) → mine_at j after ≡ mine_at j before
  mine_all same j = elim (cases_eq j k) [
    | inl is ↦ ap (λ n. mine_at n after) is ∙ same ∙ ap (λ n. mine_at n before) (sym is)
    | inr ne ↦ others j ne
  ]

  nothing_refused : (cause : Cause) → mine_at k after ≡ mine_at k before → GaveNothing before after cause
  nothing_refused cause same = record { none = λ j. ap noted (mine_all same j); open_still = λ _ j. ap shuts (mine_all same j) }

  nothing_shut : (channel : ChannelId) (received announced : ℕ) → noted (mine_at k after) ≡ noted (mine_at k before) → GaveNothing before after (causes.OverCredit channel received announced)
  nothing_shut channel received announced same = record {
    none = λ j. elim (cases_eq j k) [
      | inl is ↦ ap (λ n. noted (mine_at n after)) is ∙ same ∙ ap (λ n. noted (mine_at n before)) (sym is)
      | inr ne ↦ ap noted (others j ne)
    ];
    open_still = λ over. absurd (cc);
  }

-- ---- the frame that stands first

module _ (channels : List ChannelId) (before after : List InputPass) (bytes content rest : List ℕ) where
  unknown_ends : (frame : Frame) (channel : ChannelId) (cause : Cause) → Begins bytes frame content rest → IsUnknown channels before after channel cause → NamesWrong channels (frame, content) →
      GaveNothing before after cause × EndsBy channels after bytes cause
  unknown_ends frame channel cause begins unknown wrong =
      subst (λ c. GaveNothing before after c × EndsBy channels after bytes c) (sym unknown.cause_is)
      (nothing_same before after (causes.Peer peers.Channel) unknown.same, ((frame, content), (rest, begins), wrong))

  module _ (channel : ChannelId) (sequence backlog : ℕ) (what : ArrivalKind2) (begins : Begins bytes (frames.BufferResponse channel sequence backlog what) content rest) where
    was_refused : (k : ℕ) (history : List (ℕ × ReceiveEntry)) (fault : AcceptFault) → slice_get channels k ≡ Some channel → Refuses history (arrival_with sequence backlog what) content fault → WasRefused channels bytes k history fault
    was_refused k history fault place refuses = record {
      channel = channel;
      sequence = sequence;
      backlog = backlog;
      what = what;
      content = content;
      place = place;
      begins = (rest, begins);
      state = refuses.state;
      stands = refuses.stands;
      refused = refuses.refused;
    }

    by_fault : (k : ℕ) (fault : AcceptFault) → slice_get channels k ≡ Some channel → RefusedAt k before after (arrival_with sequence backlog what) content fault →
        GaveNothing before after (cause_of channel fault) × EndsBy channels after bytes (cause_of channel fault)
    by_fault k (faults.WrongSequence want got) place at = (nothing_refused k before after at.others _ at.why.0, (want, got, (k, was_refused k _ _ place at.why.1)))
    by_fault k faults.AfterEnd place at = (nothing_refused k before after at.others _ at.why.0, (k, was_refused k _ _ place at.why.1))
    by_fault k (faults.OverCredit received announced) place at = (
      nothing_shut k before after at.others channel received announced (shut_notes _ _ at.why.entry),
      record { place = k; is = place; history = at.why.history; shut = at.why.shut; refused = was_refused k _ _ place at.why.refuses },
    )
    by_fault k (faults.OverSize got size) place at = (nothing_refused k before after at.others _ at.why.0, (got, size, (k, was_refused k _ _ place at.why.1)))
    by_fault k (faults.WrongBarrier want got) place at = (nothing_refused k before after at.others _ at.why.0, (want, got, (k, was_refused k _ _ place at.why.1)))
    by_fault k faults.Memory place at = (nothing_refused k before after at.others _ at.why, tt)

    refused_ends : (cause : Cause) → RefusedBy channels before after channel (arrival_with sequence backlog what) content cause → GaveNothing before after cause × EndsBy channels after bytes cause
    refused_ends cause by =
        subst (λ c. GaveNothing before after c × EndsBy channels after bytes c) (sym by.cause_is) (by_fault by.place by.fault by.is by.at)

  bad_ends : (frame : Frame) (cause : Cause) → reads_items frame ≡ false → Begins bytes frame content rest → (cause ≡ causes.Peer peers.BadFrame) × (after ≡ before) → GaveNothing before after cause × EndsBy channels after bytes cause
  bad_ends frame cause bad begins h =
      subst (λ c. GaveNothing before after c × EndsBy channels after bytes c) (sym h.0)
      (nothing_same before after (causes.Peer peers.BadFrame) h.1, inr (frame, content, rest, begins, bad))

  pub frame_ends : (frame : Frame) (cause : Cause) → Begins bytes frame content rest → EndsWith channels before after frame content cause → GaveNothing before after cause × EndsBy channels after bytes cause
  frame_ends (frames.BufferResponse channel sequence backlog what) cause begins h = elim h [
    | inl unknown ↦ unknown_ends (frames.BufferResponse channel sequence backlog what) channel cause begins unknown unknown.nowhere
    | inr by ↦ refused_ends channel sequence backlog what begins cause by
  ]
  frame_ends (frames.BacklogAnnouncement channel backlog) cause begins h = unknown_ends (frames.BacklogAnnouncement channel backlog) channel cause begins h h.nowhere
  frame_ends (frames.ErrorResponse channel code) cause begins h =
      subst (λ c. GaveNothing before after c × EndsBy channels after bytes c) (sym h.0)
      (nothing_same before after (causes.Peer peers.Refused) h.1, (channel, code, (rest, subst (λ l. Begins bytes (frames.ErrorResponse channel code) l rest) begins.is_frame.in_range.1 begins)))
  frame_ends frames.Close cause begins h =
      subst (λ c. GaveNothing before after c × EndsBy channels after bytes c) (sym h.0)
      (nothing_same before after causes.Done h.1, (rest, begins.bytes_are ∙ ap (λ l. spelling frames.Close l ++ rest) begins.is_frame.in_range))
  frame_ends (frames.PartitionRequest channel credit) cause begins h = bad_ends (frames.PartitionRequest channel credit) cause refl begins h
  frame_ends (frames.AddCredit channel credit) cause begins h = bad_ends (frames.AddCredit channel credit) cause refl begins h
  frame_ends (frames.ResumeConsumption channel) cause begins h = bad_ends (frames.ResumeConsumption channel) cause refl begins h
  frame_ends (frames.NewBufferSize channel size) cause begins h = bad_ends (frames.NewBufferSize channel size) cause refl begins h
