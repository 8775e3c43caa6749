-- What was sent, step after step.
use Rattle.std.proofs.Common.{◌≡◌, inl, inr, ℕ, ◌+◌, Bool, true, false, cond, List, [], ◌∷◌, ◌++◌, length, map, length-append, refl, sym, ap, subst, ◌∙◌, append_assoc, append-nil}
use Rattle.std.specs.Prelude.{All, Option, Ok, Err}
use Rattle.std.proofs.lemmas.Grind.{flat_map-append}
use Rattle.std.proofs.lemmas.List.Elements.{All-nil, All-append, All-weaker}
use Rattle.turn_cell.specs.History.{StartsWith}
use Rattle.turn_cell.proofs.Lists.{starts_itself, starts_on}
use Rattle.subpartition.specs.declared.entry.SendEntry.{SendEntry}
use Rattle.std.proofs.lemmas.Bool.{cases_eq}
use Rattle.std.proofs.lemmas.List.{map-append, length-map}
use Rattle.flow_defs.specs.declared.task.ChannelId.{ChannelId}
use Rattle.flow_defs.specs.declared.parcel.Parcel.{Parcel}
use Rattle.flow_defs.specs.declared.parcel.Parcel.TheVariants.{Data, Barrier, End}
use Rattle.flow_defs.specs.Parcels.{has_end}
use Rattle.credit_reader.specs.Senders.{is_same}
use Rattle.reader_state.specs.declared.entry.ReaderEntry.{ReaderEntry}
use Rattle.reader_state.specs.declared.entry.ReaderEntry.TheVariants.{Ready, Sent, Told, Asked, Granted, Resumed}
use Rattle.reader_state.specs.Standing.{sent_on, told_last_from, told_last, announced_from, announced_on}
use Rattle.net_frames.specs.Frames.{all_spelled}
use Rattle.outside.specs.Faults.{HasRisen}
use Rattle.outside.specs.Links.{Appended}
use Rattle.conn_parts.specs.Shares.{seen_at}
use Rattle.conn_parts.specs.Writing.{AppendedFront}
use Rattle.conn_parts.specs.Messages.{Message, is_from_sender, items_on, sequences_on, counted}
use Rattle.conn_parts.proofs.Appends.{frames-append, from-append, spelled-append, items-append, sequences-append, counted-append}
use Rattle.conn_send_items.specs.Fronts.{SendPass, taken_in, behind_in, NoneTaken, StoodIn, OthersStay}
use Rattle.conn_send_items.specs.Items.{backlog_with, backlogs_on, announced_in, announcements_on}
use Rattle.conn_send_items.specs.Sending.{sent_kind}
use Rattle.conn_send_items.specs.Steps.{Sends, Ends, Says, Lays, Writes}

-- ---- entries at the readers

pub sent_on-append : (c : ChannelId) (xs ys : List ReaderEntry) → sent_on c (xs ++ ys) ≡ sent_on c xs ++ sent_on c ys
sent_on-append c [] ys = refl
sent_on-append c (Ready d head backlog ∷ xs) ys = sent_on-append c xs ys
sent_on-append c (Sent d what head backlog ∷ xs) ys =
    elim (is_same d c) as (λ b. cond b (what ∷ sent_on c (xs ++ ys)) (sent_on c (xs ++ ys)) ≡ cond b (what ∷ sent_on c xs) (sent_on c xs) ++ sent_on c ys) [
      | true ↦ ap (λ l. what ∷ l) (sent_on-append c xs ys)
      | false ↦ sent_on-append c xs ys
    ]
sent_on-append c (Told d ∷ xs) ys = sent_on-append c xs ys
sent_on-append c (Asked d n ∷ xs) ys = sent_on-append c xs ys
sent_on-append c (Granted d n ∷ xs) ys = sent_on-append c xs ys
sent_on-append c (Resumed d ∷ xs) ys = sent_on-append c xs ys

pub told_from-append : (c : ChannelId) (n : ℕ) (xs ys : List ReaderEntry) → told_last_from c n (xs ++ ys) ≡ told_last_from c (told_last_from c n xs) ys
told_from-append c n [] ys = refl
told_from-append c n (Ready d head backlog ∷ xs) ys = told_from-append c (cond (is_same d c) backlog n) xs ys
told_from-append c n (Sent d what head backlog ∷ xs) ys = told_from-append c (cond (is_same d c) backlog n) xs ys
told_from-append c n (Told d ∷ xs) ys = told_from-append c n xs ys
told_from-append c n (Asked d k ∷ xs) ys = told_from-append c n xs ys
told_from-append c n (Granted d k ∷ xs) ys = told_from-append c n xs ys
told_from-append c n (Resumed d ∷ xs) ys = told_from-append c n xs ys

pub announced_from-append : (c : ChannelId) (n : ℕ) (xs ys : List ReaderEntry) → announced_from c n (xs ++ ys) ≡ announced_from c n xs ++ announced_from c (told_last_from c n xs) ys
announced_from-append c n [] ys = refl
announced_from-append c n (Ready d head backlog ∷ xs) ys = announced_from-append c (cond (is_same d c) backlog n) xs ys
announced_from-append c n (Sent d what head backlog ∷ xs) ys = announced_from-append c (cond (is_same d c) backlog n) xs ys
announced_from-append c n (Told d ∷ xs) ys =
    elim (is_same d c) as (λ b. cond b (n ∷ announced_from c n (xs ++ ys)) (announced_from c n (xs ++ ys)) ≡ cond b (n ∷ announced_from c n xs) (announced_from c n xs) ++ announced_from c (told_last_from c n xs) ys) [
      | true ↦ ap (λ l. n ∷ l) (announced_from-append c n xs ys)
      | false ↦ announced_from-append c n xs ys
    ]
announced_from-append c n (Asked d k ∷ xs) ys = announced_from-append c n xs ys
announced_from-append c n (Granted d k ∷ xs) ys = announced_from-append c n xs ys
announced_from-append c n (Resumed d ∷ xs) ys = announced_from-append c n xs ys

-- What one entry more tells.
pub announced_more : (c : ChannelId) (own own_after : List ReaderEntry) (e : ReaderEntry) → own_after ≡ own ++ e ∷ [] → announced_on c own_after ≡ announced_on c own ++ announced_from c (told_last c own) (e ∷ [])
announced_more c own own_after e is = ap (announced_on c) is ∙ announced_from-append c 0 own (e ∷ [])

pub told_more : (c : ChannelId) (own own_after : List ReaderEntry) (e : ReaderEntry) → own_after ≡ own ++ e ∷ [] → told_last c own_after ≡ told_last_from c (told_last c own) (e ∷ [])
told_more c own own_after e is = ap (told_last c) is ∙ told_from-append c 0 own (e ∷ [])

-- ---- backlogs of messages

pub backlogs-append : (c : ChannelId) (xs ys : List Message) → backlogs_on c (xs ++ ys) ≡ backlogs_on c xs ++ backlogs_on c ys
backlogs-append c xs ys = flat_map-append (backlog_with c) xs ys

pub announcements-append : (c : ChannelId) (xs ys : List Message) → announcements_on c (xs ++ ys) ≡ announcements_on c xs ++ announcements_on c ys
announcements-append c xs ys = flat_map-append (announced_in c) xs ys

-- ---- histories that grow

-- What stood there at a turn did so in a longer history.
pub stood_more : (a b : List (ℕ × SendEntry)) → StartsWith b a → (n : ℕ) → StoodIn a n → StoodIn b n
stood_more a b grows n stood = (stood.0, starts_on b a stood.0 grows stood.1, stood.2)

-- ---- ends

pub end_in_front : (xs ys : List Parcel) → has_end xs ≡ true → has_end (xs ++ ys) ≡ true
end_in_front [] ys e = absurd (cc)
end_in_front (Data bytes ∷ xs) ys e = end_in_front xs ys e
end_in_front (Barrier k kind ∷ xs) ys e = end_in_front xs ys e
end_in_front (End ∷ xs) ys e = refl

pub end_behind : (xs ys : List Parcel) → has_end ys ≡ true → has_end (xs ++ ys) ≡ true
end_behind [] ys e = e
end_behind (Data bytes ∷ xs) ys e = end_behind xs ys e
end_behind (Barrier k kind ∷ xs) ys e = end_behind xs ys e
end_behind (End ∷ xs) ys e = refl

module _ (channels : List ChannelId) where
  -- ---- nothing was sent

  pub sends_quiet : (place : ℕ) (before after : List SendPass) (own own_after : List ReaderEntry) → OthersStay place before after →
      NoneTaken (seen_at place before) (seen_at place after) → ((c : ChannelId) → sent_on c own_after ≡ sent_on c own) → ((c : ChannelId) → announced_on c own_after ≡ announced_on c own) → Sends channels before after own own_after []
  sends_quiet place before after own own_after others here told announced = record {
    took = λ k c at. elim (cases_eq k place) [
      | inl is ↦ ap (λ j. taken_in (seen_at j after)) is ∙ here.taken ∙ ap (λ j. taken_in (seen_at j before)) (sym is) ∙ sym (append-nil (taken_in (seen_at k before)))
      | inr ne ↦ ap taken_in (others k ne) ∙ sym (append-nil (taken_in (seen_at k before)))
    ];
    numbers = λ c. refl;
    told = λ c. told c ∙ sym (append-nil (sent_on c own));
    grows = λ k. elim (cases_eq k place) [
      | inl is ↦ subst (λ j. StartsWith (seen_at j after) (seen_at j before)) (sym is) here.grows
      | inr ne ↦ subst (λ h. StartsWith h (seen_at k before)) (sym (others k ne)) (starts_itself (seen_at k before))
    ];
    behind = λ k c at. elim (cases_eq k place) [
      | inl is ↦ ap (λ j. behind_in (seen_at j after)) is ∙ here.behind ∙ ap (λ j. behind_in (seen_at j before)) (sym is) ∙ sym (append-nil (behind_in (seen_at k before)))
      | inr ne ↦ ap behind_in (others k ne) ∙ sym (append-nil (behind_in (seen_at k before)))
    ];
    announced = λ c. announced c ∙ sym (append-nil (announced_on c own));
    stood = λ k c at. All-nil (StoodIn (seen_at k after));
  }

  pub sends_told : (passes : List SendPass) (own own_after : List ReaderEntry) → ((c : ChannelId) → sent_on c own_after ≡ sent_on c own) → ((c : ChannelId) → announced_on c own_after ≡ announced_on c own) →
      Sends channels passes passes own own_after []
  sends_told passes own own_after told announced = record {
    took = λ k c at. sym (append-nil (taken_in (seen_at k passes)));
    numbers = λ c. refl;
    told = λ c. told c ∙ sym (append-nil (sent_on c own));
    grows = λ k. starts_itself (seen_at k passes);
    behind = λ k c at. sym (append-nil (behind_in (seen_at k passes)));
    announced = λ c. announced c ∙ sym (append-nil (announced_on c own));
    stood = λ k c at. All-nil (StoodIn (seen_at k passes));
  }

  pub sends_none : (passes : List SendPass) (own : List ReaderEntry) → Sends channels passes passes own own []
  sends_none passes own = sends_told passes own own (λ c. refl) (λ c. refl)

  -- ---- one step after another

  pub sends_more : (a b c : List SendPass) (l m n : List ReaderEntry) (xs ys : List Message) → Sends channels a b l m xs → Sends channels b c m n ys → Sends channels a c l n (xs ++ ys)
  sends_more a b c l m n xs ys p q = record {
    took = λ k d at. q.took k d at ∙ ap (λ z. z ++ items_on d ys) (p.took k d at) ∙ append_assoc (taken_in (seen_at k a)) (items_on d xs) (items_on d ys)
        ∙ ap (λ z. taken_in (seen_at k a) ++ z) (sym (items-append d xs ys));
    numbers = λ d.
        let many : length (sent_on d m) ≡ length (sent_on d l) + length (items_on d xs) =
        ap length (p.told d) ∙ length-append (sent_on d l) (map sent_kind (items_on d xs)) ∙ ap (λ k. length (sent_on d l) + k) (length-map (items_on d xs) sent_kind) in
        sequences-append d xs ys ∙ ap (λ z. z ++ sequences_on d ys) (p.numbers d) ∙ ap (λ z. counted (length (sent_on d l)) (length (items_on d xs)) ++ z) (q.numbers d ∙ ap (λ k. counted k (length (items_on d ys))) many)
        ∙ sym (counted-append (length (sent_on d l)) (length (items_on d xs)) (length (items_on d ys)))
        ∙ ap (counted (length (sent_on d l))) (sym (length-append (items_on d xs) (items_on d ys)) ∙ ap length (sym (items-append d xs ys)));
    told = λ d. q.told d ∙ ap (λ z. z ++ map sent_kind (items_on d ys)) (p.told d) ∙ append_assoc (sent_on d l) (map sent_kind (items_on d xs)) (map sent_kind (items_on d ys))
        ∙ ap (λ z. sent_on d l ++ z) (sym (map-append sent_kind (items_on d xs) (items_on d ys)) ∙ ap (map sent_kind) (sym (items-append d xs ys)));
    grows = λ k. starts_on (seen_at k c) (seen_at k b) (seen_at k a) (q.grows k) (p.grows k);
    behind = λ k d at. q.behind k d at ∙ ap (λ z. z ++ backlogs_on d ys) (p.behind k d at) ∙ append_assoc (behind_in (seen_at k a)) (backlogs_on d xs) (backlogs_on d ys)
        ∙ ap (λ z. behind_in (seen_at k a) ++ z) (sym (backlogs-append d xs ys));
    announced = λ d. q.announced d ∙ ap (λ z. z ++ announcements_on d ys) (p.announced d) ∙ append_assoc (announced_on d l) (announcements_on d xs) (announcements_on d ys)
        ∙ ap (λ z. announced_on d l ++ z) (sym (announcements-append d xs ys));
    stood = λ k d at. subst (All (StoodIn (seen_at k c))) (sym (announcements-append d xs ys))
        (All-append (StoodIn (seen_at k c)) (announcements_on d xs) (announcements_on d ys)
        (All-weaker (StoodIn (seen_at k b)) (StoodIn (seen_at k c)) (stood_more (seen_at k b) (seen_at k c) (q.grows k)) (announcements_on d xs) (p.stood k d at)) (q.stood k d at));
  }

  pub ends_none : (flags : List Bool) → Ends channels flags flags []
  ends_none flags k c at raised = inl raised

  pub ends_more : (f g h : List Bool) (xs ys : List Message) → Ends channels f g xs → Ends channels g h ys → Ends channels f h (xs ++ ys)
  ends_more f g h xs ys p q k c at raised = elim (q k c at raised) [
    | inl was ↦ elim (p k c at was) [
      | inl first ↦ inl first
      | inr end ↦ inr (ap has_end (items-append c xs ys) ∙ end_in_front (items_on c xs) (items_on c ys) end)
    ]
    | inr end ↦ inr (ap has_end (items-append c xs ys) ∙ end_behind (items_on c xs) (items_on c ys) end)
  ]

  pub says_quiet : (a b : List SendPass) (l m : List ReaderEntry) (flags : List Bool) → Sends channels a b l m [] → Says channels a b l m flags flags []
  says_quiet a b l m flags sends = record { frames = tt; direction = tt; sends = sends; ends = ends_none flags }

  pub says_more : (a b c : List SendPass) (l m n : List ReaderEntry) (f g h : List Bool) (xs ys : List Message) →
      Says channels a b l m f g xs → Says channels b c m n g h ys → Says channels a c l n f h (xs ++ ys)
  says_more a b c l m n f g h xs ys p q = record {
    frames = frames-append xs ys p.frames q.frames;
    direction = from-append is_from_sender xs ys p.direction q.direction;
    sends = sends_more a b c l m n xs ys p.sends q.sends;
    ends = ends_more f g h xs ys p.ends q.ends;
  }

  -- ---- what was laid down

  pub lays_quiet : (a b : List SendPass) (l m : List ReaderEntry) (flags : List Bool) (out : List ℕ) → Sends channels a b l m [] → Lays channels a b l m flags flags out out
  lays_quiet a b l m flags out sends = record { added = []; says = says_quiet a b l m flags sends; laid = sym (append-nil out) }

  pub lays_more : (a b c : List SendPass) (l m n : List ReaderEntry) (f g h : List Bool) (x y z : List ℕ) →
      Lays channels a b l m f g x y → Lays channels b c m n g h y z → Lays channels a c l n f h x z
  lays_more a b c l m n f g h x y z p q = record {
    added = p.added ++ q.added;
    says = says_more a b c l m n f g h p.added q.added p.says q.says;
    laid = q.laid ∙ ap (λ bytes. bytes ++ all_spelled q.added) p.laid ∙ append_assoc x (all_spelled p.added) (all_spelled q.added) ∙ ap (λ bytes. x ++ bytes) (sym (spelled-append p.added q.added));
  }

  -- What a round lays down where nothing lies before it.
  pub round_lays : (a b c d : List SendPass) (l m n o : List ReaderEntry) (f g h : List Bool) (before x y : List ℕ) → before ≡ [] →
      Sends channels a b l m [] → Lays channels b c m n f g before x → Lays channels c d n o g h x y → Lays channels a d l o f h [] y
  round_lays a b c d l m n o f g h before x y empty quiet items told =
      lays_more a c d l n o f g h [] x y (lays_more a b c l m n f f g [] [] x (lays_quiet a b l m f [] quiet) (subst (λ out. Lays channels b c m n f g out x) empty items)) told

  module _ (a b : List SendPass) (l m : List ReaderEntry) (f g : List Bool) (bytes : List ℕ) (lays : Lays channels a b l m f g [] bytes) (old new : Option (List ℕ)) (fell rose : ℕ) where
    pub writes_ok : {T E : Type 0} (x : T) → Appended old new bytes → Writes channels a b l m f g old new fell rose {T = T} {E = E} (Ok x)
    writes_ok x written = record { added = lays.added; says = lays.says; written = subst (Appended old new) lays.laid written }

    pub writes_err : {T E : Type 0} (e : E) → AppendedFront old new bytes × HasRisen fell rose → Writes channels a b l m f g old new fell rose {T = T} {E = E} (Err e)
    writes_err e written = record { added = lays.added; says = lays.says; written = (subst (AppendedFront old new) lays.laid written.0, written.1) }
