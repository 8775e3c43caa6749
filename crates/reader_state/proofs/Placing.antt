-- The early part of a channel at its place among those of all channels.
use Rattle.std.proofs.Common.{◌≡◌, ℕ, ◌-◌, ◌<◌, ◌≤◌, Bool, true, false, cond, eqb, eq-eqb, List, [], ◌∷◌, length, map, get_or, set, Option, Some, None, refl, sym, ap, subst, ◌∙◌, arith, inl, inr, ◌&&◌}
use Rattle.std.specs.Prelude.{find, position, slice_get, IsSome, min, nat_lt, ◌≢◌, Result, Ok, Err, OnOk, OnErr, IfErr}
use Rattle.std.specs.List.{AllPairs}
use Rattle.std.specs.Option.{option_map, option_map_or}
use Rattle.std.proofs.lemmas.Bool.{cases_eq, cases_order, cases_Bool, cond-true, cond-false, ltb-false, false≢true}
use Rattle.std.proofs.lemmas.List.{get_or-map, get_or-set_same, get_or-set_other, get_or_default, length-map, length-set, ext_get_or}
use Rattle.std.proofs.lemmas.List.Recursion.{found_at, found_nowhere}
use Rattle.std.proofs.lemmas.List.Quantifiers.{position-Some}
use Rattle.std.proofs.lemmas.List.Sums.{fails_before_first}
use Rattle.std.proofs.lemmas.Option.{none-some, slice_get-map, slice_get-get_or}
use Rattle.std.specs.List.{position_or_len}
use Rattle.flow_defs.specs.declared.task.ChannelId.{ChannelId}
use Rattle.credit_reader.specs.declared.reader.Reader.{Reader}
use Rattle.credit_reader.specs.Readers.{Granted, Resumed}
use Rattle.credit_reader.specs.Senders.{Sender, AreDistinct, is_same, reader_of, happened}
use Rattle.credit_reader.proofs.Channels.{is_same_of, is_other, same_channel}
use Rattle.reader_state.specs.declared.state.Early.{Early}
use Rattle.reader_state.specs.declared.state.Kept.{Kept}
use Rattle.reader_state.specs.Ledgers.{Ledger, early_of, none_early, with_early, with_reader, fitting, credit_given, may_resume, resumption_given, settled, is_requested}
use Rattle.reader_state.specs.Settling.{alone, put_at, IsEarlyKept}
use Rattle.reader_state.proofs.Channels.{touched, found_of_key}

abbrev pub no_early : Early
no_early = none_early (record { edge = 0; from = 0; to = 0 })

abbrev pub channel_of : Early → ChannelId
channel_of e = e.channel

-- where a channel's early part stands alone among these
pub record OnlyAt (es : List Early) (i : ℕ) (c : ChannelId) : Type 0 where
  pub within : i < length es
  pub here : (get_or es i no_early).channel ≡ c
  pub others : (k : ℕ) → k < length es → (k ≡ i → ⊥) → is_same (get_or es k no_early).channel c ≡ false

pub only_at : (es : List Early) (c : ChannelId) (kept : Kept) → IsEarlyKept es c kept → OnlyAt es kept.place c × (get_or es kept.place no_early ≡ kept.early)
only_at es c kept is =
    let stands : get_or es kept.place no_early ≡ kept.early = get_or_default es kept.place no_early kept.early is.within ∙ is.stands in
    let here : (get_or es kept.place no_early).channel ≡ c = ap channel_of stands ∙ is.channel_is in (
      record {
        within = is.within;
        here = here;
        others = λ k k_in other. is_other _ _ (λ same. elim (cases_order k kept.place) [
          | inl e ↦ other e
          | inr apart ↦ elim apart [
            | inl less ↦ is.distinct k kept.place no_early less is.within (same ∙ sym here)
            | inr more ↦ is.distinct kept.place k no_early more k_in (here ∙ sym same)
          ]
        ]);
      },
      stands,
    )

module _ (es : List Early) (i : ℕ) (c : ChannelId) (only : OnlyAt es i c) where
  -- what is done to the early part of the channel is done at its place
  pub touched_set : (f : Early → Early) (e : Early) → e.channel ≡ c → map (touched channel_of c f) (set es i e) ≡ set es i (f e)
  touched_set f e is =
      ext_get_or no_early _ _ (length-map (set es i e) (touched channel_of c f) ∙ length-set es i e ∙ sym (length-set es i (f e))) (λ k k_in.
      let k_there : k < length (set es i e) = omega (arith, length-map (set es i e) (touched channel_of c f)) in
      let k_old : k < length es = omega (arith, length-set es i e) in
      get_or-map (touched channel_of c f) (set es i e) k no_early no_early k_there
      ∙ elim (cases_eq k i) [
        | inl same ↦ subst (λ j. touched channel_of c f (get_or (set es i e) j no_early) ≡ get_or (set es i (f e)) j no_early) (sym same)
            (ap (touched channel_of c f) (get_or-set_same es i e no_early only.within) ∙ cond-true _ _ _ (is_same_of _ _ is) ∙ sym (get_or-set_same es i (f e) no_early only.within))
        | inr other ↦ ap (touched channel_of c f) (get_or-set_other es i k e no_early other) ∙ cond-false _ _ _ (only.others k k_old other) ∙ sym (get_or-set_other es i k (f e) no_early other)
      ])

  pub set_self : set es i (get_or es i no_early) ≡ es
  set_self =
      ext_get_or no_early _ _ (length-set es i _) (λ k k_in. elim (cases_eq k i) [
        | inl same ↦ subst (λ j. get_or (set es i (get_or es i no_early)) j no_early ≡ get_or es j no_early) (sym same) (get_or-set_same es i _ no_early only.within)
        | inr other ↦ get_or-set_other es i k _ no_early other
      ])

  pub touched_place : (f : Early → Early) → map (touched channel_of c f) es ≡ set es i (f (get_or es i no_early))
  touched_place f = ap (map (touched channel_of c f)) (sym set_self) ∙ touched_set f (get_or es i no_early) only.here

  -- the channels stay
  pub channels_set : (e : Early) → e.channel ≡ c → map channel_of (set es i e) ≡ map channel_of es
  channels_set e is =
      ext_get_or c _ _ (length-map (set es i e) channel_of ∙ length-set es i e ∙ sym (length-map es channel_of)) (λ k k_in.
      let k_there : k < length (set es i e) = omega (arith, length-map (set es i e) channel_of) in
      let k_old : k < length es = omega (arith, length-set es i e) in
      get_or-map channel_of (set es i e) k no_early c k_there
      ∙ (elim (cases_eq k i) [
        | inl same ↦ subst (λ j. channel_of (get_or (set es i e) j no_early) ≡ channel_of (get_or es j no_early)) (sym same) (ap channel_of (get_or-set_same es i e no_early only.within) ∙ is ∙ sym only.here)
        | inr other ↦ ap channel_of (get_or-set_other es i k e no_early other)
      ])
      ∙ sym (get_or-map channel_of es k no_early c k_old))

  -- the early part at the place is that of the channel
  pub early_at : (s : Sender) (e : Early) → e.channel ≡ c → early_of c (record { sender = s; early = set es i e }) ≡ Some e
  early_at s e is =
      let at : get_or (set es i e) i no_early ≡ e = get_or-set_same es i e no_early only.within in
      found_at (find (λ x. is_same x.channel c)) (λ x. is_same x.channel c) Some None refl (λ _ _. refl) (set es i e) i no_early (omega (arith, only.within, length-set es i e))
      (λ k less. ap (λ x. is_same (channel_of x) c) (get_or-set_other es i k e no_early (λ same. omega arith)) ∙ only.others k (omega (arith, only.within)) (λ same. omega arith))
      (is_same_of _ _ (ap channel_of at ∙ is)) ∙ ap Some at

  -- ---- a ledger, and one of this channel alone

  pub record Both (l one : Ledger) : Type 0 where
    pub sender : Sender
    pub kept : Early
    pub channel_is : kept.channel ≡ c
    pub whole : l ≡ record { sender = sender; early = set es i kept }
    pub single : one ≡ alone sender kept

  alone_early : (s : Sender) (e : Early) → e.channel ≡ c → early_of c (alone s e) ≡ Some e
  alone_early s e is = cond-true _ _ _ (is_same_of _ _ is)

  both_early : (l one : Ledger) → Both l one → early_of c l ≡ early_of c one
  both_early l one b = ap (early_of c) b.whole ∙ early_at b.sender b.kept b.channel_is ∙ sym (alone_early b.sender b.kept b.channel_is) ∙ sym (ap (early_of c) b.single)

  both_sender : (l one : Ledger) → Both l one → l.sender ≡ one.sender
  both_sender l one b = ap (λ (k : Ledger). k.sender) b.whole ∙ sym (ap (λ (k : Ledger). k.sender) b.single)

  both_fit : (l one : Ledger) → Both l one → fitting c l ≡ fitting c one
  both_fit l one b =
      ap (λ o. min (option_map_or (λ e. e.credit) o 0) (2147483647 - option_map_or (λ r. r.credit) (reader_of c l.sender.readers) 2147483647)) (both_early l one b)
      ∙ ap (λ (s : Sender). min (option_map_or (λ e. e.credit) (early_of c one) 0) (2147483647 - option_map_or (λ r. r.credit) (reader_of c s.readers) 2147483647)) (both_sender l one b)

  both_may : (l one : Ledger) → Both l one → may_resume c l ≡ may_resume c one
  both_may l one b =
      ap (λ o. option_map_or (λ e. nat_lt 0 e.resumptions) o false && option_map_or (λ r. r.blocked) (reader_of c l.sender.readers) false) (both_early l one b)
      ∙ ap (λ (s : Sender). option_map_or (λ e. nat_lt 0 e.resumptions) (early_of c one) false && option_map_or (λ r. r.blocked) (reader_of c s.readers) false) (both_sender l one b)

  both_touched : (g : Sender → Sender) (f : Early → Early) → ((e : Early) → (f e).channel ≡ e.channel) → (l one : Ledger) → Both l one →
      Both (with_early c f (record l { sender = g l.sender })) (with_early c f (record one { sender = g one.sender }))
  both_touched g f keeps l one b = record {
    sender = g b.sender;
    kept = f b.kept;
    channel_is = keeps b.kept ∙ b.channel_is;
    whole = ap (λ (k : Ledger). with_early c f (record k { sender = g k.sender })) b.whole ∙ ap (λ xs. record { sender = g b.sender; early = xs }) (touched_set f b.kept b.channel_is);
    single = ap (λ (k : Ledger). with_early c f (record k { sender = g k.sender })) b.single ∙ ap (λ x. record { sender = g b.sender; early = x ∷ [] }) (cond-true _ _ _ (is_same_of _ _ b.channel_is));
  }

  both_credit : (n : ℕ) (l one : Ledger) → Both l one → Both (credit_given c n l) (credit_given c n one)
  both_credit n l one b =
      elim (eqb n 0) as (λ z. Both (cond z l (with_early c (λ e. record e { credit = e.credit - n }) (with_reader c (Granted n) l))) (cond z one (with_early c (λ e. record e { credit = e.credit - n }) (with_reader c (Granted n) one)))) [
        | true ↦ b
        | false ↦ both_touched (happened c (Granted n)) (λ e. record e { credit = e.credit - n }) (λ e. refl) l one b
      ]

  both_resumed : (z : Bool) (l one : Ledger) → Both l one →
      Both (cond z (with_early c (λ e. record e { resumptions = e.resumptions - 1 }) (with_reader c Resumed l)) l) (cond z (with_early c (λ e. record e { resumptions = e.resumptions - 1 }) (with_reader c Resumed one)) one)
  both_resumed true l one b = both_touched (happened c Resumed) (λ e. record e { resumptions = e.resumptions - 1 }) (λ e. refl) l one b
  both_resumed false l one b = b

  both_resumption : (l one : Ledger) → Both l one → Both (resumption_given c l) (resumption_given c one)
  both_resumption l one b =
      subst (λ z. Both (resumption_given c l) (cond z (with_early c (λ e. record e { resumptions = e.resumptions - 1 }) (with_reader c Resumed one)) one)) (both_may l one b) (both_resumed (may_resume c l) l one b)

  pub both_settled : (l one : Ledger) → Both l one → Both (settled c l) (settled c one)
  both_settled l one b =
      subst (λ n. Both (settled c l) (resumption_given c (credit_given c n one))) (both_fit l one b)
      (both_resumption (credit_given c (fitting c l) l) (credit_given c (fitting c l) one) (both_credit (fitting c l) l one b))

  -- what is left of the part alone is what is left at its place
  pub settled_place : (old new : Sender) (e left : Early) → e.channel ≡ c → alone new left ≡ settled c (alone old e) →
      (left.channel ≡ c) × ((record { sender = new; early = set es i left }) ≡ settled c (record { sender = old; early = set es i e }))
  settled_place old new e left is gave =
      let b = both_settled (record { sender = old; early = set es i e }) (alone old e) (record { sender = old; kept = e; channel_is = is; whole = refl; single = refl }) in
      let same : alone new left ≡ alone b.sender b.kept = gave ∙ b.single in
      let new_is : new ≡ b.sender = ap (λ (k : Ledger). k.sender) same in
      let left_is : left ≡ b.kept = first_same left b.kept (ap (λ (k : Ledger). k.early) same) in
      (ap channel_of left_is ∙ b.channel_is, ap (λ s. record { sender = s; early = set es i left }) new_is ∙ ap (λ x. record { sender = b.sender; early = set es i x }) left_is ∙ sym b.whole)
    where
      first_same : (x y : Early) → x ∷ [] ≡ y ∷ [] → x ≡ y
      first_same x y is = cc

-- ---- the place that is found

module _ (early : List Early) (readers : List Reader) (own : map channel_of early ≡ map (λ r. r.channel) readers) (c : ChannelId) where
  pub distinct_early : AreDistinct (map (λ r. r.channel) readers) → AllPairs (λ (a b : Early). a.channel ≢ b.channel) early
  distinct_early distinct i j d less j_in same =
      let names : AreDistinct (map channel_of early) = subst AreDistinct (sym own) distinct in
      names i j c less (omega (arith, length-map early channel_of)) (get_or-map channel_of early i d c (omega arith) ∙ same ∙ sym (get_or-map channel_of early j d c j_in))

  pub is_kept : AreDistinct (map (λ r. r.channel) readers) → (i : ℕ) (x : Early) → position (λ e. is_same e.channel c) early ≡ Some i → x ≡ get_or early i no_early → IsEarlyKept early c (record { place = i; early = x })
  is_kept distinct i x is read =
      let at = position-Some (λ e. is_same e.channel c) early i no_early is in
      record {
        distinct = distinct_early distinct;
        within = at.0;
        stands = get_or_default early i x no_early at.0 ∙ sym read;
        channel_is = ap channel_of read ∙ same_channel _ _ at.1;
      }

  nowhere : position (λ e. is_same e.channel c) early ≡ None → (k : ℕ) → k < length early → is_same (get_or early k no_early).channel c ≡ false
  nowhere none k k_in = elim (cases_Bool (nat_lt (position_or_len (λ e. is_same e.channel c) early) (length early))) [
    | inl less ↦ absurd (none-some _ (sym none ∙ cond-true _ _ _ less))
    | inr past ↦ let all : length early ≤ position_or_len (λ e. is_same e.channel c) early = ltb-false _ _ past in fails_before_first (λ e. is_same e.channel c) early k no_early (omega (arith, all))
  ]

  pub no_reader : (nobody : Reader) → position (λ e. is_same e.channel c) early ≡ None → reader_of c readers ≡ None
  no_reader nobody none =
      found_nowhere (find (λ r. is_same r.channel c)) (λ r. is_same r.channel c) Some None refl (λ _ _. refl) readers nobody (λ k k_in.
      let long : length early ≡ length readers = sym (length-map early channel_of) ∙ ap length own ∙ length-map readers (λ r. r.channel) in
      ap (λ d. is_same d c) (sym (get_or-map (λ r. r.channel) readers k nobody c k_in) ∙ ap (λ ds. get_or ds k c) (sym own) ∙ get_or-map channel_of early k no_early c (omega (arith, long)))
      ∙ nowhere none k (omega (arith, long)))

  -- a channel that has an early part has a reader
  pub reader_of_kept : (i : ℕ) → position (λ e. is_same e.channel c) early ≡ Some i → IsSome (reader_of c readers)
  reader_of_kept i is =
      let at = position-Some (λ e. is_same e.channel c) early i no_early is in
      let there : slice_get (map channel_of early) i ≡ Some c =
      slice_get-map channel_of early i ∙ ap (option_map channel_of) (slice_get-get_or early i no_early at.0) ∙ ap Some (same_channel (get_or early i no_early).channel c at.1) in
      let found = found_of_key (λ (r : Reader). r.channel) c readers i (subst (λ cs. slice_get cs i ≡ Some c) own there) in
      subst IsSome (sym found.1) refl
