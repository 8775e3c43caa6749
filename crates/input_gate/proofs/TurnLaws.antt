-- What a turn makes of the gate's pass.
use Rattle.std.proofs.Common.{◌≡◌, ℕ, zero, suc, ◌+◌, ◌<◌, Bool, true, false, cond, eqb, eqb-true, eq-eqb, true≢false, drop, List, [], ◌∷◌, ◌++◌, map, length, Option, Some, None, refl, sym, ap, subst, ◌∙◌, append_assoc, append-nil, arith}
use Rattle.std.specs.Prelude.{option_to_list, MatchBool, IsSome, ◌↔◌}
use Rattle.std.specs.List.{range_with_len}
use Rattle.std.proofs.lemmas.List.{append_cancel_left}
use Rattle.turn_cell.specs.History.{by, entries_of, StartsWith}
use Rattle.turn_cell.specs.Passes.{IsSamePass, HasEntered, HasRested, HasSighted, number, seen, mine, sights}
use Rattle.turn_cell.proofs.Histories.{entries_of-append}
use Rattle.turn_cell.proofs.Lists.{by-append, first_apart, starts_on, starts_itself}
use Rattle.flow_defs.specs.declared.parcel.Parcel.{Parcel}
use Rattle.flow_defs.specs.declared.parcel.Parcel.TheVariants.{Data, Barrier, End}
use Rattle.flow_defs.specs.declared.task.BarrierKind.{BarrierKind}
use Rattle.flow_defs.specs.declared.task.BarrierKind.TheVariants.{Inline, Front}
use Rattle.flow_defs.specs.Parcels.{barriers_of}
use Rattle.input_channel.specs.declared.entry.ReceiveEntry.{ReceiveEntry}
use Rattle.input_channel.specs.declared.entry.ReceiveEntry.TheVariants.{Push, Poll, Returned, Added, Backlog, Credit, Shut, Ask, Resume, Save, Saved}
use Rattle.input_channel.specs.declared.entry.Gave.{Gave}
use Rattle.input_channel.specs.declared.held.HeldBuf.{HeldBuf}
use Rattle.input_channel.specs.declared.polled.Polled.{Polled}
use Rattle.input_channel.specs.declared.polled.Polled.TheVariants as answers
use Rattle.input_channel.specs.Answers.{given_by, IsAnswer}
use Rattle.input_channel.specs.Counts.{Counts, Numbers, at_opening, numbers, numbers_one, numbers_from, lets_go, frees, freed, freed_from}
use Rattle.input_channel.specs.Inboxes.{inbox, Inbox, received_one, waiting, front_waits, due, first_barrier, poll_gives}
use Rattle.input_channel.specs.Legal.{may_receive, ReceivedByPasses, open_from, open_save, polled_with, returned, asks, inline_in}
use Rattle.input_channel.specs.States.{ChannelState, ChannelStandsFor, Allows, channel_next}
use Rattle.input_channel.specs.Theorems.{CallsAreLegal, CallsAddEntries, PassesAreKept, EntriesAreLegal, PollTells, GivenStays, GateTellsBuffers, BarriersComeInOrder, ArrivalsAreNumbered, AnswerIsGiven}
use Rattle.input_channel.proofs.InboxLaws.{inbox-more}
use Rattle.input_channel.proofs.PassLaws.{none_saving, stays_closed}
use Rattle.flow_defs.proofs.ParcelLemmas.{barriers_of-append}
use Rattle.input_gate.specs.Segments.{freed_by}
use Rattle.input_gate.specs.Turning.{InputPass, IsLater, EndsInPoll, given_in, given_to, looks_of, Fits, NoFront, Looked}

-- ---- histories

passes_behind : (xs ys : List (ℕ × ReceiveEntry)) → ReceivedByPasses (xs ++ ys) → ReceivedByPasses ys
passes_behind [] ys h = h
passes_behind (x ∷ xs) ys h = passes_behind xs ys h.1

pub starts_more : {A : Type 0} (before turn now : List A) (x : A) → StartsWith turn before → now ≡ turn ++ x ∷ [] → StartsWith now before
starts_more before turn now x later is = (later.0 ++ x ∷ [], is ∙ ap (λ l. l ++ x ∷ []) later.1 ∙ append_assoc before later.0 (x ∷ []))

pub starts_same : {A : Type 0} (before turn now : List A) → StartsWith turn before → now ≡ turn → StartsWith now before
starts_same before turn now later is = (later.0, is ∙ later.1)

pub later_refl : (p : InputPass) → IsLater p p
later_refl p = (starts_itself (seen p), starts_itself (sights p))

pub later_then : (p q r : InputPass) → IsLater p q → IsLater q r → IsLater p r
later_then p q r h k = (starts_on (seen r) (seen q) (seen p) k.0 h.0, starts_on (sights r) (sights q) (sights p) k.1 h.1)

-- What came since the pass saw the history is of others.
of_others : (before turn : List (ℕ × ReceiveEntry)) (own : List ReceiveEntry) → by 0 before ≡ own → by 0 turn ≡ own → (later : StartsWith turn before) → by 0 later.0 ≡ []
of_others before turn own b t later = append_cancel_left own (by 0 later.0) [] (ap (λ l. l ++ by 0 later.0) (sym b) ∙ sym (by-append 0 before later.0) ∙ ap (by 0) (sym later.1) ∙ t ∙ sym (append-nil own))

-- Others' turns give nothing.
pub same_given : (stays : GivenStays) (before turn : List (ℕ × ReceiveEntry)) (own : List ReceiveEntry) →
    ReceivedByPasses turn → by 0 before ≡ own → by 0 turn ≡ own → StartsWith turn before → given_in turn ≡ given_in before
same_given stays before turn own passes b t later =
    ap given_in later.1 ∙ stays before later.0 (passes_behind before later.0 (subst ReceivedByPasses later.1 passes)) (of_others before turn own b t later)

-- And they set no segment free.
frees_none : (n : ℕ) (c : Counts) (e : ReceiveEntry) → may_receive n e ≡ true → eqb 0 n ≡ false → frees c e ≡ 0
frees_none n c (Returned exclusive) may apart = absurd (true≢false (sym (eq-eqb 0 n (sym (eqb-true n 0 may))) ∙ apart))
frees_none n c (Push p backlog) may apart = refl
frees_none n c (Poll hold gave) may apart = refl
frees_none n c Added may apart = refl
frees_none n c (Backlog k) may apart = refl
frees_none n c (Credit k) may apart = refl
frees_none n c Shut may apart = refl
frees_none n c Ask may apart = refl
frees_none n c Resume may apart = refl
frees_none n c (Save k rest) may apart = refl
frees_none n c (Saved k) may apart = refl

none_freed : (from : Numbers) (more : List (ℕ × ReceiveEntry)) → ReceivedByPasses more → by 0 more ≡ [] → freed_from from (entries_of more) ≡ 0
none_freed from [] passes none = refl
none_freed from (pair ∷ more) passes none =
    let f = first_apart 0 pair more none in
    let one = frees_none pair.0 from.counts pair.1 passes.0 f.0 in
    let rest = none_freed (numbers_one from pair.1) more passes.1 f.1 in
    omega (arith, one, rest)

freed-append : (from : Numbers) (xs ys : List ReceiveEntry) → freed_from from (xs ++ ys) ≡ freed_from from xs + freed_from (numbers_from from xs) ys
freed-append from [] ys = omega arith
freed-append from (x ∷ xs) ys = let rest = freed-append (numbers_one from x) xs ys in omega (arith, rest)

same_freed : (before turn : List (ℕ × ReceiveEntry)) (own : List ReceiveEntry) → ReceivedByPasses turn → by 0 before ≡ own → by 0 turn ≡ own → StartsWith turn before → freed (entries_of turn) ≡ freed (entries_of before)
same_freed before turn own passes b t later =
    let all = ap (λ h. freed (entries_of h)) later.1 ∙ ap freed (entries_of-append before later.0) ∙ freed-append at_opening (entries_of before) (entries_of later.0) in
    let none = none_freed (numbers (entries_of before)) later.0 (passes_behind before later.0 (subst ReceivedByPasses later.1 passes)) (of_others before turn own b t later) in
    omega (arith, all, none)

entries_end : (turn : List (ℕ × ReceiveEntry)) (n : ℕ) (e : ReceiveEntry) → entries_of (turn ++ (n, e) ∷ []) ≡ entries_of turn ++ e ∷ []
entries_end turn n e = entries_of-append turn ((n, e) ∷ [])

-- An entry that is no poll gives nothing.
given_end : (turn now : List (ℕ × ReceiveEntry)) (n : ℕ) (e : ReceiveEntry) → now ≡ turn ++ (n, e) ∷ [] → ((i : Inbox) → (received_one i e).given ≡ i.given) → given_in now ≡ given_in turn
given_end turn now n e is none =
    ap given_in is ∙ ap (λ es. (inbox es).given) (entries_end turn n e) ∙ ap (λ (i : Inbox). i.given) (inbox-more (entries_of turn) e) ∙ none (inbox (entries_of turn))

-- ---- a turn, which began with this state and this history

-- The pass before the turn, and at its beginning.
pub record Begun (p t : InputPass) (state : ChannelState) : Type 0 where
  pub first : number p ≡ 0
  pub same : IsSamePass p t
  pub later : StartsWith (seen t) (seen p)
  pub looked : HasSighted p t
  pub own_before : by (number p) (seen p) ≡ mine p
  pub own : by (number t) (seen t) ≡ mine t
  pub stands : ChannelStandsFor state (seen t)

module _ (p t : InputPass) (state : ChannelState) (b : Begun p t state) where
  own_seen : by 0 (seen t) ≡ mine p
  own_seen = ap (λ n. by n (seen t)) (sym (b.same.0 ∙ b.first)) ∙ b.own ∙ b.same.1

  -- No save is open, where the pass has none open.
  pub begun_closed : open_save (mine p) ≡ None → state.save ≡ None
  begun_closed none = none_saving state (seen t) b.stands (ap open_save own_seen ∙ none)

  -- Nor behind an entry that opens none.
  pub still_closed : (q : InputPass) (e : ReceiveEntry) → HasEntered e t q → open_save (mine p) ≡ None → open_from None (e ∷ []) ≡ None → open_save (mine q) ≡ None
  still_closed q e h none quiet = ap open_save (h.2 ∙ ap (λ es. es ++ e ∷ []) b.same.1) ∙ stays_closed (mine p) e none quiet

  pub begun_given : GivenStays → PassesAreKept → given_in (seen t) ≡ given_in (seen p)
  begun_given stays kept = same_given stays (seen p) (seen t) (mine p) (kept state (seen t) b.stands) (ap (λ n. by n (seen p)) (sym b.first) ∙ b.own_before) own_seen b.later

  pub state_after : (legal : CallsAreLegal) (adds : CallsAddEntries) (old new : ChannelState) (e : ReceiveEntry) → old ≡ state → may_receive 0 e ≡ true → Allows old (entries_of (seen t)) e → new ≡ channel_next old e →
      ChannelStandsFor new (seen t ++ (number t, e) ∷ [])
  state_after legal adds old new e is may allows made =
      let s = subst (λ c. ChannelStandsFor c (seen t)) (sym is) b.stands in
      subst (λ m. ChannelStandsFor new (seen t ++ (m, e) ∷ [])) (sym (b.same.0 ∙ b.first))
      (subst (λ c. ChannelStandsFor c (seen t ++ (0, e) ∷ [])) (sym made) (adds old (seen t) 0 e s (may, legal old (seen t) e s allows)))

  pub more : (q : InputPass) (e : ReceiveEntry) → HasEntered e t q → IsLater p q
  more q e h = (starts_more (seen p) (seen t) (seen q) (number t, e) b.later h.1, (seen t ∷ [], h.3 ∙ b.looked))

  pub rested : (q : InputPass) → HasRested t q → IsLater p q
  rested q h = (starts_same (seen p) (seen t) (seen q) b.later h.1, (seen t ∷ [], h.2 ∙ b.looked))

  pub mine_more : (q : InputPass) (e : ReceiveEntry) → HasEntered e t q → mine q ≡ mine p ++ e ∷ []
  mine_more q e h = h.2 ∙ ap (λ es. es ++ e ∷ []) b.same.1

  pub rested_given : GivenStays → PassesAreKept → (q : InputPass) → HasRested t q → given_to q ≡ given_to p
  rested_given stays kept q h = ap given_in h.1 ∙ begun_given stays kept

  pub entered_given : GivenStays → PassesAreKept → (q : InputPass) (e : ReceiveEntry) → HasEntered e t q → ((i : Inbox) → (received_one i e).given ≡ i.given) → given_to q ≡ given_to p
  entered_given stays kept q e h none = given_end (seen t) (seen q) (number t) e h.1 none ∙ begun_given stays kept

  begun_freed : PassesAreKept → freed (entries_of (seen t)) ≡ freed (entries_of (seen p))
  begun_freed kept = same_freed (seen p) (seen t) (mine p) (kept state (seen t) b.stands) (ap (λ n. by n (seen p)) (sym b.first) ∙ b.own_before) own_seen b.later

  pub rested_freed : PassesAreKept → (q : InputPass) → HasRested t q → freed_by q ≡ freed_by p
  rested_freed kept q h = ap (λ s. freed (entries_of s)) h.1 ∙ begun_freed kept

  -- An entry sets free what it does by the state's counts.
  pub entered_freed : PassesAreKept → (q : InputPass) (e : ReceiveEntry) → HasEntered e t q → freed_by q ≡ freed_by p + frees state.counts e
  entered_freed kept q e h =
      let all = ap (λ s. freed (entries_of s)) h.1 ∙ ap freed (entries_end (seen t) (number t) e) ∙ freed-append at_opening (entries_of (seen t)) (e ∷ []) in
      let before = begun_freed kept in
      let counts = ap (λ c. frees c e) b.stands.keeps.counts in
      omega (arith, all, before, counts)

  pub still_freed : PassesAreKept → (q : InputPass) (e : ReceiveEntry) → HasEntered e t q → ((c : Counts) → frees c e ≡ 0) → freed_by q ≡ freed_by p
  still_freed kept q e h none = let all = entered_freed kept q e h in let z = none state.counts in omega (arith, all, z)

  pub polled_given : GivenStays → PassesAreKept → PollTells → AnswerIsGiven → (q : InputPass) (old : ChannelState) (hold : Bool) (polled : Polled) (gave : Gave) → old ≡ state → IsAnswer hold old polled →
      HasEntered (Poll hold gave) t q → given_to q ≡ given_to p ++ option_to_list (given_by polled)
  polled_given stays kept tells answers q old hold polled gave is answer h =
      ap given_in h.1 ∙ ap (λ es. (inbox es).given) (entries_end (seen t) (number t) (Poll hold gave)) ∙ tells old (seen t) hold gave (subst (λ c. ChannelStandsFor c (seen t)) (sym is) b.stands)
      ∙ ap (λ o. given_in (seen t) ++ option_to_list o) (sym (answers old hold polled answer)) ∙ ap (λ g. g ++ option_to_list (given_by polled)) (begun_given stays kept)

  -- The history ends with the poll.
  pub ends_in_poll : GivenStays → PassesAreKept → EntriesAreLegal → (q : InputPass) (hold : Bool) (gave : Gave) → HasEntered (Poll hold gave) t q → EndsInPoll p q hold gave
  ends_in_poll stays kept legal q hold gave h = record {
    entries = entries_of (seen t);
    room = state.room;
    legal = legal state (seen t) b.stands;
    given = begun_given stays kept;
    ends = ap entries_of h.1 ∙ entries_end (seen t) (number t) (Poll hold gave);
  }

  pub out_here : PassesAreKept → GateTellsBuffers → (exclusive : Bool) → returned exclusive (mine p) < polled_with exclusive (mine p) → returned exclusive (entries_of (seen t)) < polled_with exclusive (entries_of (seen t))
  out_here kept tell exclusive out =
      let told = tell (seen t) (kept state (seen t) b.stands) in
      let more = told.polled exclusive ∙ ap (polled_with exclusive) own_seen in
      let back = told.returned exclusive ∙ ap (returned exclusive) own_seen in
      omega (arith, more, back, out)

  pub owed_here : GivenStays → PassesAreKept → GateTellsBuffers → asks (mine p) < inline_in (given_to p) → 0 < state.owed
  owed_here stays kept tell owed =
      let asked = (tell (seen t) (kept state (seen t) b.stands)).asked ∙ ap asks own_seen in
      let given = ap inline_in (begun_given stays kept) in
      let balance = b.stands.keeps.owed in
      omega (arith, asked, given, balance, owed)

-- ---- the segment that is set free

abbrev one_if : Bool → ℕ
one_if b = cond b 1 0

-- A buffer that comes back sets free what the channel answers.
pub frees_answer : (c : Counts) (exclusive : Bool) (segment : List ℕ) (free : Option (List ℕ)) → (exclusive ≡ false → free ≡ Some segment) → (exclusive ≡ true → (IsSome free ↔ (lets_go c ≡ true))) →
    frees c (Returned exclusive) ≡ length (option_to_list free)
frees_answer c false segment free floating goes = ap (λ (o : Option (List ℕ)). length (option_to_list o)) (sym (floating refl))
frees_answer c true segment None floating goes =
    elim (lets_go c) as (λ b. lets_go c ≡ b → one_if b ≡ 0) [ true ↦ λ is. absurd (true≢false (sym ((goes refl).1 is))) | false ↦ λ is. refl ] refl
frees_answer c true segment (Some other) floating goes = ap one_if ((goes refl).0 refl)

-- ---- the number of a barrier

number_at : (xs ys : List (ℕ × BarrierKind)) (k : ℕ) (kind : BarrierKind) (m n : ℕ) → map (λ (x : ℕ × BarrierKind). x.0) (xs ++ (k, kind) ∷ ys) ≡ range_with_len m n → k ≡ m + length xs
number_at xs ys k kind m zero e = absurd (none xs e)
  where
    none : (xs : List (ℕ × BarrierKind)) → map (λ (x : ℕ × BarrierKind). x.0) (xs ++ (k, kind) ∷ ys) ≡ [] → ⊥
    none [] h = cc
    none (x ∷ xs) h = cc
number_at [] ys k kind m (suc n) e = let h : k ≡ m = cc in omega (arith, h)
number_at (x ∷ xs) ys k kind m (suc n) e =
    let r = number_at xs ys k kind (m + 1) n (ap (drop 1) e) in
    omega (arith, r)

pub next_number : BarriersComeInOrder → ArrivalsAreNumbered → EntriesAreLegal → (state : ChannelState) (now : List (ℕ × ReceiveEntry)) (given : List Parcel) (k : ℕ) (kind : BarrierKind) →
    ChannelStandsFor state now → given_in now ≡ given ++ Barrier k kind ∷ [] → k ≡ suc (length (barriers_of given))
next_number ordered numbered legal state now given k kind stands is =
    let order = ordered (entries_of now) in
    let here = ap barriers_of is ∙ barriers_of-append given (Barrier k kind ∷ []) in
    let all = sym order ∙ ap (λ bs. bs ++ barriers_of (waiting (inbox (entries_of now)).arrivals)) here ∙ append_assoc (barriers_of given) ((k, kind) ∷ []) (barriers_of (waiting (inbox (entries_of now)).arrivals)) in
    let numbers = numbered state.room (entries_of now) (legal state now stands) in
    let r = number_at (barriers_of given) (barriers_of (waiting (inbox (entries_of now)).arrivals)) k kind 1 _ (ap (map (λ (x : ℕ × BarrierKind). x.0)) (sym all) ∙ numbers) in
    omega (arith, r)

-- What a poll answers fits.
pub fits : (size : ℕ) (hold : Bool) (given now : List Parcel) (c : ChannelState) (polled : Polled) → IsAnswer hold c polled → c.size ≡ size → now ≡ given ++ option_to_list (given_by polled) →
    ((k : ℕ) (kind : BarrierKind) → now ≡ given ++ Barrier k kind ∷ [] → k ≡ suc (length (barriers_of given))) → Fits size hold given polled
fits size hold given now c (answers.Buffer buf) answer is e next = answer.size ∙ is
fits size hold given now c (answers.Barrier k kind) answer is e next = (next k kind e, answer.1)
fits size hold given now c answers.End answer is e next = tt
fits size hold given now c answers.Empty answer is e next = tt
fits size hold given now c answers.Held answer is e next = tt

-- ---- front barriers

front_first : (ps : List Parcel) → front_waits ps ≡ true → (k : ℕ) × (first_barrier ps ≡ Some (Barrier k Front))
front_first [] h = cc
front_first (Data bytes ∷ ps) h = front_first ps h
front_first (Barrier k Inline ∷ ps) h = cc
front_first (Barrier k Front ∷ ps) h = (k, refl)
front_first (End ∷ ps) h = front_first ps h

pub front_due : (ps : List Parcel) → front_waits ps ≡ true → (k : ℕ) × (due ps ≡ Some (Barrier k Front))
front_due ps h = let f = front_first ps h in (f.0, ap (λ b. cond b (first_barrier ps) (Rattle.input_channel.specs.Inboxes.first_parcel ps)) h ∙ f.1)

-- Where the turn ended as it began, and no front barrier waited.
pub looked : (p t q : InputPass) (state : ChannelState) → Begun p t state → HasRested t q → front_waits state.queue ≡ false → Looked (looks_of p) (looks_of q)
looked p t q state b h none = record {
  earlier = [];
  grew = h.2 ∙ b.looked ∙ ap (λ s. sights p ++ s ∷ []) (sym h.1);
  no_front = ap (λ s. front_waits (waiting (inbox (entries_of s)).arrivals)) h.1 ∙ ap front_waits (sym b.stands.keeps.queue) ∙ none;
}

-- A look that took no turn.
pub when_true : (p t : InputPass) (b : Bool) → b ≡ true → MatchBool b (HasSighted p t) (sights t ≡ sights p) → HasSighted p t
when_true p t b is h = subst (λ z. MatchBool z (HasSighted p t) (sights t ≡ sights p)) is h

pub when_false : (p t : InputPass) (b : Bool) → b ≡ false → MatchBool b (HasSighted p t) (sights t ≡ sights p) → sights t ≡ sights p
when_false p t b is h = subst (λ z. MatchBool z (HasSighted p t) (sights t ≡ sights p)) is h

module _ (p t : InputPass) (same : seen t ≡ seen p) where
  pub later_once : HasSighted p t → IsLater p t
  later_once s = (([], same ∙ sym (append-nil (seen p))), (seen t ∷ [], s))

  pub later_same : sights t ≡ sights p → IsLater p t
  later_same s = (([], same ∙ sym (append-nil (seen p))), ([], s ∙ sym (append-nil (sights p))))

  pub looks_same : sights t ≡ sights p → looks_of t ≡ looks_of p
  looks_same s = λ i. (same i, s i)

  pub looks_once : HasSighted p t → NoFront (seen p) → Looked (looks_of p) (looks_of t)
  looks_once s none = record { earlier = []; grew = s; no_front = subst NoFront (sym same) none }

barrier_front : (k j : ℕ) (kind : BarrierKind) → Some (Barrier k kind) ≡ Some (Barrier j Front) → kind ≡ Front
barrier_front k j kind e = cc

no_front_data : (bytes : List ℕ) (j : ℕ) → Some (Data bytes) ≡ Some (Barrier j Front) → ⊥
no_front_data bytes j e = cc

no_front_end : (j : ℕ) → Some End ≡ Some (Barrier j Front) → ⊥
no_front_end j e = cc

module _ (c : ChannelState) (polled : Polled) (answer : IsAnswer false c polled) (waits : front_waits c.queue ≡ true) where
  pub front_answer : (k : ℕ) (kind : BarrierKind) → polled ≡ answers.Barrier k kind → kind ≡ Front
  front_answer k kind is = let f = front_due c.queue waits in barrier_front k f.0 kind (sym (subst (IsAnswer false c) is answer).0 ∙ f.1)

  pub not_buffer : (buf : HeldBuf) → polled ≡ answers.Buffer buf → ⊥
  not_buffer buf is = let f = front_due c.queue waits in no_front_data _ f.0 (sym (subst (IsAnswer false c) is answer).due ∙ f.1)

  pub not_end : polled ≡ answers.End → ⊥
  not_end is = let f = front_due c.queue waits in no_front_end f.0 (sym (subst (IsAnswer false c) is answer) ∙ f.1)
