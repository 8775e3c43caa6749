-- What a message gives to its channel, and how it ends the loop.
use Rattle.std.proofs.Common.{◌≡◌, ◌≢◌, inl, inr, ℕ, zero, suc, ◌<◌, true, false, cond, List, [], ◌∷◌, ◌++◌, length, get_or, Some, Result, Ok, Err, refl, sym, ap, subst, ◌∙◌, arith, append-nil}
use Rattle.std.specs.Prelude.{slice_get, OnOk}
use Rattle.std.proofs.lemmas.Bool.{cases_eq, cases_order}
use Rattle.std.proofs.lemmas.Option.{same_Some}
use Rattle.flow_defs.specs.declared.task.ChannelId.{ChannelId}
use Rattle.credit_reader.specs.Senders.{AreDistinct, is_same}
use Rattle.credit_reader.proofs.Channels.{is_same_self, is_other}
use Rattle.flow_defs.specs.declared.cause.Cause.{Cause}
use Rattle.net_frames.specs.declared.frame.Frame.{Frame}
use Rattle.net_frames.specs.declared.frame.Frame.TheVariants as frames
use Rattle.net_frames.specs.declared.frame.ArrivalKind2.{ArrivalKind2}
use Rattle.net_frames.specs.declared.frame.ArrivalKind2.TheVariants as arrivals
use Rattle.input_channel.specs.declared.arrival.Arrival.{Arrival}
use Rattle.input_channel.specs.declared.entry.ReceiveEntry.{ReceiveEntry}
use Rattle.input_channel.specs.declared.entry.ReceiveEntry.TheVariants.{Push, Backlog}
use Rattle.input_channel.specs.Answers.{parcel_in}
use Rattle.conn_parts.specs.Messages.{parcel_with}
use Rattle.conn_parts.specs.Shares.{mine_at}
use Rattle.conn_read_items.specs.Receiving.{kind_with, arrival_with, noted, notes_on, shuts, IsChannel}
use Rattle.conn_read_items.specs.Turning.{InputPass}
use Rattle.conn_read_items.specs.Taking.{GaveAt, Gave, TookFrame, brought}

-- ---- channels

-- The channel at a place, and that no other place has it.
get_at : {X : Type 0} (xs : List X) (k : ℕ) (x d : X) → slice_get xs k ≡ Some x → (k < length xs) × (get_or xs k d ≡ x)
get_at [] k x d at = absurd (cc)
get_at (y ∷ xs) zero x d at = (omega arith, cc)
get_at (y ∷ xs) (suc k) x d at = let h = get_at xs k x d at in (omega (arith, h.0), h.1)

other_channel : (channels : List ChannelId) (j k : ℕ) (c d : ChannelId) → AreDistinct channels → slice_get channels j ≡ Some c → slice_get channels k ≡ Some d → j ≢ k → d ≢ c
other_channel channels j k c d distinct at_j at_k ne = λ same.
    let here = get_at channels j c c at_j in let there = get_at channels k d c at_k in
    elim (cases_order j k) [
      | inl is ↦ ne is
      | inr apart ↦ elim apart [
        | inl less ↦ distinct j k c less there.0 (here.1 ∙ sym same ∙ sym there.1)
        | inr more ↦ distinct k j c more here.0 (there.1 ∙ same ∙ sym here.1)
      ]
    ]

-- What the channel at a place was given, channel by channel.
gave_one : (channels : List ChannelId) (k : ℕ) (channel : ChannelId) (before after : List InputPass) (notes : List ReceiveEntry) (per : ChannelId → List ReceiveEntry) →
    AreDistinct channels → slice_get channels k ≡ Some channel → per channel ≡ notes → ((c : ChannelId) → channel ≢ c → per c ≡ []) → GaveAt k before after notes → Gave channels before after per
gave_one channels k channel before after notes per distinct at here else gave = record {
  each = λ j c at_j. elim (cases_eq j k) [
    | inl is ↦
        let same : channel ≡ c = same_Some channel c (sym at ∙ ap (slice_get channels) (sym is) ∙ at_j) in
        ap (λ n. noted (mine_at n after)) is ∙ gave.here.noted ∙ ap (λ n. noted (mine_at n before) ++ notes) (sym is)
        ∙ ap (λ l. noted (mine_at j before) ++ l) (sym here ∙ ap per same)
    | inr ne ↦
        ap noted (gave.others j ne) ∙ sym (append-nil (noted (mine_at j before)))
        ∙ ap (λ l. noted (mine_at j before) ++ l) (sym (else c (other_channel channels j k c channel distinct at_j at ne)))
  ];
  open_still = λ j. elim (cases_eq j k) [
    | inl is ↦ ap (λ n. shuts (mine_at n after)) is ∙ gave.here.shuts ∙ ap (λ n. shuts (mine_at n before)) (sym is)
    | inr ne ↦ ap shuts (gave.others j ne)
  ];
}

pub gave_note : (channels : List ChannelId) (k : ℕ) (channel : ChannelId) (before after : List InputPass) (note : ReceiveEntry) →
    AreDistinct channels → slice_get channels k ≡ Some channel → GaveAt k before after (note ∷ []) → Gave channels before after (brought channel note)
gave_note channels k channel before after note distinct at gave =
    gave_one channels k channel before after (note ∷ []) (brought channel note) distinct at
    (ap (λ b. cond b (note ∷ []) []) (is_same_self channel))
    (λ c ne. ap (λ b. cond b (note ∷ []) []) (is_other channel c ne)) gave

-- ---- what messages bring

parcel_same : (what : ArrivalKind2) (content : List ℕ) → parcel_in (kind_with what) content ≡ parcel_with what content
parcel_same arrivals.Buffer content = refl
parcel_same (arrivals.Inline k) content = refl
parcel_same (arrivals.Front k) content = refl
parcel_same arrivals.End content = refl

brings : (c channel : ChannelId) (sequence backlog : ℕ) (what : ArrivalKind2) (content : List ℕ) →
    notes_on c ((frames.BufferResponse channel sequence backlog what, content) ∷ []) ≡ brought channel (Push (parcel_in (kind_with what) content) backlog) c
brings c channel sequence backlog what content =
    (elim (is_same channel c) as (λ b. cond b (Push (parcel_with what content) backlog ∷ []) [] ++ [] ≡ cond b (Push (parcel_with what content) backlog ∷ []) []) [ true ↦ refl | false ↦ refl ])
    ∙ ap (λ p. brought channel (Push p backlog) c) (sym (parcel_same what content))

announces : (c channel : ChannelId) (backlog : ℕ) (content : List ℕ) → notes_on c ((frames.BacklogAnnouncement channel backlog, content) ∷ []) ≡ brought channel (Backlog backlog) c
announces c channel backlog content = elim (is_same channel c) as (λ b. cond b (Backlog backlog ∷ []) [] ++ [] ≡ cond b (Backlog backlog ∷ []) []) [ true ↦ refl | false ↦ refl ]

pub took_response : (channels : List ChannelId) (before after : List InputPass) (channel : ChannelId) (sequence backlog : ℕ) (what : ArrivalKind2) (content : List ℕ) →
    IsChannel channels channel → Gave channels before after (brought channel (Push (parcel_in (kind_with what) content) backlog)) → TookFrame channels before after (frames.BufferResponse channel sequence backlog what) content
took_response channels before after channel sequence backlog what content known gave = record {
  direction = refl;
  known = known;
  gave = record {
    each = λ k c at. gave.each k c at ∙ ap (λ l. noted (mine_at k before) ++ l) (sym (brings c channel sequence backlog what content));
    open_still = gave.open_still;
  };
}

pub took_backlog : (channels : List ChannelId) (before after : List InputPass) (channel : ChannelId) (backlog : ℕ) (content : List ℕ) →
    IsChannel channels channel → Gave channels before after (brought channel (Backlog backlog)) → TookFrame channels before after (frames.BacklogAnnouncement channel backlog) content
took_backlog channels before after channel backlog content known gave = record {
  direction = refl;
  known = known;
  gave = record {
    each = λ k c at. gave.each k c at ∙ ap (λ l. noted (mine_at k before) ++ l) (sym (announces c channel backlog content));
    open_still = gave.open_still;
  };
}

-- The same, where the channel may have refused it.
pub took_if : (channels : List ChannelId) (before after : List InputPass) (frame : Frame) (channel : ChannelId) (sequence backlog : ℕ) (what : ArrivalKind2) (content : List ℕ) (a : Arrival) (r : Result (Unit {0}) Cause) →
    frame ≡ frames.BufferResponse channel sequence backlog what → a ≡ arrival_with sequence backlog what →
    OnOk r (IsChannel channels channel) → OnOk r (Gave channels before after (brought channel (Push (parcel_in a.what content) a.backlog))) → OnOk r (TookFrame channels before after frame content)
took_if channels before after frame channel sequence backlog what content a (Ok u) is is_a known gave =
    subst (λ f. TookFrame channels before after f content) (sym is) (took_response channels before after channel sequence backlog what content known
    (subst (λ (x : Arrival). Gave channels before after (brought channel (Push (parcel_in x.what content) x.backlog))) is_a gave))
took_if channels before after frame channel sequence backlog what content a (Err cause) is is_a known gave = tt

pub took_told_if : (channels : List ChannelId) (before after : List InputPass) (frame : Frame) (channel : ChannelId) (backlog : ℕ) (content : List ℕ) (r : Result (Unit {0}) Cause) →
    frame ≡ frames.BacklogAnnouncement channel backlog → OnOk r (IsChannel channels channel) → OnOk r (Gave channels before after (brought channel (Backlog backlog))) → OnOk r (TookFrame channels before after frame content)
took_told_if channels before after frame channel backlog content (Ok u) is known gave =
    subst (λ f. TookFrame channels before after f content) (sym is) (took_backlog channels before after channel backlog content known gave)
took_told_if channels before after frame channel backlog content (Err cause) is known gave = tt
