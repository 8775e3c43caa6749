-- One item that is taken and sent, and one backlog that is announced.
use Rattle.std.proofs.Common.{◌≡◌, ◌≢◌, inl, inr, ℕ, ◌%◌, ◌^◌, Bool, true, false, cond, List, [], ◌∷◌, ◌++◌, length, map, set, zero, suc, refl, sym, ap, subst, ◌∙◌, append-nil}
use Rattle.std.specs.Prelude.{slice_get, All, Option, Some, None, option_to_list}
use Rattle.std.specs.Option.{option_map}
use Rattle.std.proofs.lemmas.Bool.{cases_eq}
use Rattle.flow_defs.specs.declared.task.ChannelId.{ChannelId}
use Rattle.flow_defs.specs.declared.task.Head.{Head}
use Rattle.flow_defs.specs.declared.task.BarrierKind.TheVariants.{Inline, Front}
use Rattle.flow_defs.specs.declared.parcel.Parcel.{Parcel}
use Rattle.flow_defs.specs.Parcels.{has_end}
use Rattle.net_frames.specs.Frames.{IsFrame, spelling}
use Rattle.credit_reader.specs.declared.reader.SentKind.{SentKind}
use Rattle.credit_reader.specs.declared.reader.Told.{Told as Announced}
use Rattle.credit_reader.specs.Senders.{AreDistinct, is_same}
use Rattle.credit_reader.proofs.Channels.{is_same_of, same_channel}
use Rattle.subpartition.specs.declared.item.Item.{Item}
use Rattle.subpartition.specs.declared.item.Item.TheVariants.{Buffer, Barrier, End}
use Rattle.subpartition.specs.Queues.{parcel_of}
use Rattle.reader_state.specs.declared.entry.ReaderEntry.{ReaderEntry}
use Rattle.reader_state.specs.declared.entry.ReaderEntry.TheVariants.{Sent, Told}
use Rattle.reader_state.specs.Standing.{sent_on, told_last, announced_from, announced_on}
use Rattle.turn_cell.specs.History.{StartsWith}
use Rattle.turn_cell.proofs.Lists.{starts_itself}
use Rattle.std.proofs.lemmas.List.Elements.{All-nil, All-cons}
use Rattle.conn_parts.specs.Shares.{seen_at}
use Rattle.conn_parts.specs.Messages.{parcel_with, items_on, sequences_on, counted}
use Rattle.conn_send_items.specs.Fronts.{SendPass, taken_in, backlog_after, behind_in, OneTaken, StoodIn, OthersStay}
use Rattle.conn_send_items.specs.Items.{arrival_of, content_of, response, announcement, backlogs_on, announcements_on}
use Rattle.conn_send_items.specs.Sending.{sent_kind}
use Rattle.conn_send_items.specs.Steps.{Sends, Ends, EndsWith, Lays}
use Rattle.conn_send_items.proofs.Standing.{apart_at, one_at}
use Rattle.conn_send_items.proofs.Saying.{sent_on-append, announced_more}

-- ---- what a response brings

pub parcel_back : (item : Item) → parcel_with (arrival_of item) (content_of item) ≡ parcel_of item
parcel_back (Buffer filled) = refl
parcel_back (Barrier k Inline) = refl
parcel_back (Barrier k Front) = refl
parcel_back End = refl

module _ (d c : ChannelId) (s b : ℕ) (item : Item) where
  pub one_item : items_on d (response c s b item ∷ []) ≡ cond (is_same c d) (parcel_of item ∷ []) []
  one_item =
      elim (is_same c d) as (λ q. map (λ (x : ℕ × Parcel). x.1) (cond q ((s, parcel_with (arrival_of item) (content_of item)) ∷ []) [] ++ []) ≡ cond q (parcel_of item ∷ []) []) [
        | true ↦ ap (λ p. p ∷ []) (parcel_back item)
        | false ↦ refl
      ]

  pub one_sequence : sequences_on d (response c s b item ∷ []) ≡ cond (is_same c d) (s ∷ []) []
  one_sequence =
      elim (is_same c d) as (λ q. map (λ (x : ℕ × Parcel). x.0) (cond q ((s, parcel_with (arrival_of item) (content_of item)) ∷ []) [] ++ []) ≡ cond q (s ∷ []) []) [
        | true ↦ refl
        | false ↦ refl
      ]

  pub one_backlog : backlogs_on d (response c s b item ∷ []) ≡ cond (is_same c d) (b ∷ []) []
  one_backlog = elim (is_same c d) as (λ q. cond q (b ∷ []) [] ++ [] ≡ cond q (b ∷ []) []) [
    | true ↦ refl
    | false ↦ refl
  ]

-- An item was taken at a place, and its response has the next sequence number.
module _ (channels : List ChannelId) (distinct : AreDistinct channels) (place : ℕ) (c : ChannelId) (is_there : slice_get channels place ≡ Some c) where
  pub sends_one : (before after : List SendPass) (own own_after : List ReaderEntry) (s b left : ℕ) (head : Head) (what : SentKind) (item : Item) → OthersStay place before after →
      OneTaken (seen_at place before) (seen_at place after) (parcel_of item) b → what ≡ sent_kind (parcel_of item) → own_after ≡ own ++ Sent c what head left ∷ [] →
      s ≡ length (sent_on c own) % 2 ^ 32 → Sends channels before after own own_after (response c s b item ∷ [])
  sends_one before after own own_after s b left head what item others took kind told number = record {
    took = λ k d at. elim (cases_eq k place) [
      | inl is ↦
          let same : c ≡ d = one_at channels place c d is_there (ap (slice_get channels) (sym is) ∙ at) in
          let brings : items_on d (response c s b item ∷ []) ≡ parcel_of item ∷ [] = one_item d c s b item ∙ ap (λ q. cond q (parcel_of item ∷ []) []) (is_same_of c d same) in
          ap (λ j. taken_in (seen_at j after)) is ∙ took.taken ∙ ap (λ j. taken_in (seen_at j before) ++ parcel_of item ∷ []) (sym is) ∙ ap (λ l. taken_in (seen_at k before) ++ l) (sym brings)
      | inr ne ↦
          let brings : items_on d (response c s b item ∷ []) ≡ [] =
          one_item d c s b item ∙ ap (λ q. cond q (parcel_of item ∷ []) []) (apart_at channels distinct place k c d is_there at (λ is. ne (sym is))) in
          ap taken_in (others k ne) ∙ sym (append-nil (taken_in (seen_at k before))) ∙ ap (λ l. taken_in (seen_at k before) ++ l) (sym brings)
    ];
    numbers = λ d. one_sequence d c s b item
        ∙ (elim (is_same c d) as (λ q. is_same c d ≡ q → cond q (s ∷ []) [] ≡ counted (length (sent_on d own)) (length (cond q (parcel_of item ∷ []) []))) [
          | true ↦ λ is. ap (λ n. n ∷ []) (number ∙ ap (λ e. length (sent_on e own) % 2 ^ 32) (same_channel c d is))
          | false ↦ λ is. refl
        ] refl)
        ∙ ap (λ l. counted (length (sent_on d own)) (length l)) (sym (one_item d c s b item));
    told = λ d. ap (sent_on d) told ∙ sent_on-append d own (Sent c what head left ∷ [])
        ∙ ap (λ l. sent_on d own ++ l)
        ((elim (is_same c d) as (λ q. cond q (what ∷ []) [] ≡ map sent_kind (cond q (parcel_of item ∷ []) [])) [
          | true ↦ ap (λ w. w ∷ []) kind
          | false ↦ refl
        ]) ∙ ap (map sent_kind) (sym (one_item d c s b item)));
    grows = λ k. elim (cases_eq k place) [
      | inl is ↦ subst (λ j. StartsWith (seen_at j after) (seen_at j before)) (sym is) took.grows
      | inr ne ↦ subst (λ h. StartsWith h (seen_at k before)) (sym (others k ne)) (starts_itself (seen_at k before))
    ];
    behind = λ k d at. elim (cases_eq k place) [
      | inl is ↦
          let same : c ≡ d = one_at channels place c d is_there (ap (slice_get channels) (sym is) ∙ at) in
          let brings : backlogs_on d (response c s b item ∷ []) ≡ b ∷ [] = one_backlog d c s b item ∙ ap (λ q. cond q (b ∷ []) []) (is_same_of c d same) in
          ap (λ j. behind_in (seen_at j after)) is ∙ took.behind ∙ ap (λ j. behind_in (seen_at j before) ++ b ∷ []) (sym is) ∙ ap (λ l. behind_in (seen_at k before) ++ l) (sym brings)
      | inr ne ↦
          let brings : backlogs_on d (response c s b item ∷ []) ≡ [] =
          one_backlog d c s b item ∙ ap (λ q. cond q (b ∷ []) []) (apart_at channels distinct place k c d is_there at (λ is. ne (sym is))) in
          ap behind_in (others k ne) ∙ sym (append-nil (behind_in (seen_at k before))) ∙ ap (λ l. behind_in (seen_at k before) ++ l) (sym brings)
    ];
    announced = λ d. announced_more d own own_after (Sent c what head left) told;
    stood = λ k d at. All-nil (StoodIn (seen_at k after));
  }

-- ---- flags

was_set : (flags : List Bool) (i k : ℕ) → k ≢ i → slice_get (set flags i true) k ≡ slice_get flags k
was_set [] i k ne = refl
was_set (x ∷ xs) zero zero ne = absurd (ne refl)
was_set (x ∷ xs) zero (suc k) ne = refl
was_set (x ∷ xs) (suc i) zero ne = refl
was_set (x ∷ xs) (suc i) (suc k) ne = was_set xs i k (λ e. ne (ap suc e))

-- A flag that is raised is that of a channel whose end was sent.
pub ends_one : (channels : List ChannelId) (place : ℕ) (c : ChannelId) → slice_get channels place ≡ Some c → (s b : ℕ) (item : Item) (flags now : List Bool) → EndsWith place item flags now →
    Ends channels flags now (response c s b item ∷ [])
ends_one channels place c is_there s b (Buffer filled) flags now is k d at raised = inl (ap (λ l. slice_get l k) (sym is) ∙ raised)
ends_one channels place c is_there s b (Barrier j kind) flags now is k d at raised = inl (ap (λ l. slice_get l k) (sym is) ∙ raised)
ends_one channels place c is_there s b End flags now is k d at raised = elim (cases_eq k place) [
  | inl here ↦
      let same : c ≡ d = one_at channels place c d is_there (ap (slice_get channels) (sym here) ∙ at) in
      inr (ap has_end (one_item d c s b End ∙ ap (λ q. cond q (parcel_of End ∷ []) []) (is_same_of c d same)))
  | inr ne ↦ inl (sym (was_set flags place k ne) ∙ ap (λ l. slice_get l k) (sym is) ∙ raised)
]

-- ---- as they are laid down

-- A response was laid down.
pub lays_one : (channels : List ChannelId) (before after passes : List SendPass) (own own_after entries : List ReaderEntry) (flags now : List Bool) (out out_after : List ℕ) (c : ChannelId) (s b : ℕ) (item : Item) →
    passes ≡ after → entries ≡ own_after → Sends channels before after own own_after (response c s b item ∷ []) → Ends channels flags now (response c s b item ∷ []) →
    IsFrame (response c s b item).0 (response c s b item).1 → out_after ≡ out ++ spelling (response c s b item).0 (response c s b item).1 → Lays channels before passes own entries flags now out out_after
lays_one channels before after passes own own_after entries flags now out out_after c s b item same_passes same_entries sends ends frame laid = record {
  added = response c s b item ∷ [];
  says = record {
    frames = (frame, tt);
    direction = (refl, tt);
    sends = subst (λ ps. Sends channels before ps own entries (response c s b item ∷ [])) (sym same_passes)
        (subst (λ es. Sends channels before after own es (response c s b item ∷ [])) (sym same_entries) sends);
    ends = ends;
  };
  laid = laid ∙ ap (λ l. out ++ l) (sym (append-nil (spelling (response c s b item).0 (response c s b item).1)));
}

-- An announcement was laid down. It brings no item.
pub lays_told : (channels : List ChannelId) (passes : List SendPass) (own own_after : List ReaderEntry) (flags : List Bool) (out out_after : List ℕ) (c : ChannelId) (b : ℕ) →
    ((d : ChannelId) → sent_on d own_after ≡ sent_on d own) → own_after ≡ own ++ Told c ∷ [] → told_last c own ≡ b →
    ((k : ℕ) (d : ChannelId) → slice_get channels k ≡ Some d → told_last d own ≡ backlog_after (seen_at k passes)) → IsFrame (announcement c b).0 (announcement c b).1 → out_after ≡ out ++ spelling (announcement c b).0 (announcement c b).1 →
    Lays channels passes passes own own_after flags flags out out_after
lays_told channels passes own own_after flags out out_after c b told own_is told_is stands frame laid = record {
  added = announcement c b ∷ [];
  says = record {
    frames = (frame, tt);
    direction = (refl, tt);
    sends = record {
      took = λ k d at. sym (append-nil (taken_in (seen_at k passes)));
      numbers = λ d. refl;
      told = λ d. told d ∙ sym (append-nil (sent_on d own));
      grows = λ k. starts_itself (seen_at k passes);
      behind = λ k d at. sym (append-nil (behind_in (seen_at k passes)));
      announced = λ d. announced_more d own own_after (Told c) own_is ∙ ap (λ l. announced_on d own ++ l) (tells d);
      stood = λ k d at. elim (is_same c d) as (λ q. is_same c d ≡ q → All (StoodIn (seen_at k passes)) (cond q (b ∷ []) [] ++ [])) [
        | true ↦ λ same. All-cons (StoodIn (seen_at k passes)) b []
            (seen_at k passes, starts_itself (seen_at k passes), sym (stands k d at) ∙ ap (λ e. told_last e own) (sym (same_channel c d same)) ∙ told_is) (All-nil (StoodIn (seen_at k passes)))
        | false ↦ λ other. All-nil (StoodIn (seen_at k passes))
      ] refl;
    };
    ends = λ k d at raised. inl raised;
  };
  laid = laid ∙ ap (λ l. out ++ l) (sym (append-nil (spelling (announcement c b).0 (announcement c b).1)));
}
  where
    tells : (d : ChannelId) → announced_from d (told_last d own) (Told c ∷ []) ≡ announcements_on d (announcement c b ∷ [])
    tells d = elim (is_same c d) as (λ q. is_same c d ≡ q → cond q (told_last d own ∷ []) [] ≡ cond q (b ∷ []) [] ++ []) [
      | true ↦ λ same. ap (λ n. n ∷ []) (ap (λ e. told_last e own) (sym (same_channel c d same)) ∙ told_is)
      | false ↦ λ other. refl
    ] refl

-- An announcement tells the readers of no item.
pub announced_quiet : (own own_after : List ReaderEntry) (told : Option Announced) → own_after ≡ own ++ option_to_list (option_map (λ (t : Announced). Told t.channel) told) → (d : ChannelId) → sent_on d own_after ≡ sent_on d own
announced_quiet own own_after None is d = ap (sent_on d) (is ∙ append-nil own)
announced_quiet own own_after (Some t) is d = ap (sent_on d) is ∙ sent_on-append d own (Told t.channel ∷ []) ∙ append-nil (sent_on d own)

-- Where nothing is due nothing is announced.
pub announced_none : (own own_after : List ReaderEntry) (told : Option Announced) → told ≡ None → own_after ≡ own ++ option_to_list (option_map (λ (t : Announced). Told t.channel) told) → own_after ≡ own
announced_none own own_after told none is = is ∙ ap (λ (o : Option Announced). own ++ option_to_list (option_map (λ (t : Announced). Told t.channel) o)) none ∙ append-nil own

pub announced_one : (own own_after : List ReaderEntry) (told : Option Announced) (t : Announced) → told ≡ Some t → own_after ≡ own ++ option_to_list (option_map (λ (t : Announced). Told t.channel) told) → own_after ≡ own ++ Told t.channel ∷ []
announced_one own own_after told t one is = is ∙ ap (λ (o : Option Announced). own ++ option_to_list (option_map (λ (t : Announced). Told t.channel) o)) one
