-- What is put into an image, slot by slot.
use Rattle.std.proofs.Common.{◌≡◌, ◌≢◌, ◌⊎◌, ℕ, zero, suc, ◌+◌, ◌<◌, ◌≤◌, Bool, true, false, ◌&&◌, cond, eqb, List, [], ◌∷◌, ◌++◌, length, Option, Some, None, refl, sym, ap, ◌∙◌, subst, arith, inl, inr, append_assoc}
use Rattle.std.specs.Prelude.{slice_get}
use Rattle.std.specs.Option.{option_map_or}
use Rattle.std.specs.List.{AllByRecursion}
use Rattle.std.proofs.lemmas.Bool.{cases_eq, and_parts, and_from, eqb-true, eq-eqb}
use Rattle.std.proofs.lemmas.Option.{slice_get_within, same_Some}
use Rattle.flow_defs.specs.declared.job.Job.{Job}
use Rattle.flow_defs.specs.declared.image.Saved.{Saved}
use Rattle.flow_defs.specs.declared.image.Image.{Image}
use Rattle.flow_defs.specs.declared.image.Snapshot.{Snapshot}
use Rattle.flow_defs.specs.declared.task.ChannelId.{ChannelId}
use Rattle.flow_defs.specs.Items.{Items}
use Rattle.flow_defs.specs.Jobs.{last_edge, tasks, sum_below, is_channel, IsJob}
use Rattle.plain_machine.specs.Places.{channels, channel_place, sender_place}
use Rattle.plain_machine.specs.Images.{items_at}
use Rattle.plain_machine.specs.Theorems.{ChannelsStandInOrder}
use Rattle.collector.specs.Pieces.{is_of, piece_or, piece, IsInto, IsOutOf}
use Rattle.collector.specs.Collecting.{kept_at}
use Rattle.collector.specs.Filling.{IsPut, AreEmpty, HasShape, IsOfJob, ArePut, IsSameHead, IsPutInto, Shows, ShowsPieces, taker_place, putter_place, ShowsAll, IsAtPlace}
use Rattle.collector.proofs.ListLemmas.{none_past}

-- ---- pieces

-- which channel it is
pub record AreEqual (e a b : ℕ) (channel : ChannelId) : Type 0 where
  pub edge : channel.edge ≡ e
  pub sender : channel.from ≡ a
  pub receiver : channel.to ≡ b

pub ends_are : (e a b : ℕ) (channel : ChannelId) → is_of e a b channel ≡ true → AreEqual e a b channel
ends_are e a b channel is =
    let all = and_parts (eqb channel.edge e && eqb channel.from a) (eqb channel.to b) is in
    let first = and_parts (eqb channel.edge e) (eqb channel.from a) all.0 in
    record { edge = eqb-true _ _ first.0; sender = eqb-true _ _ first.1; receiver = eqb-true _ _ all.1 }

pub is_own : (e a b : ℕ) (channel : ChannelId) → AreEqual e a b channel → is_of e a b channel ≡ true
is_own e a b channel are = and_from _ _ (and_from _ _ (eq-eqb _ _ are.edge) (eq-eqb _ _ are.sender)) (eq-eqb _ _ are.receiver)

-- pieces of other channels alone
pub piece_apart : (P : Saved → Type 0) (e a b : ℕ) → ((saved : Saved) → P saved → is_of e a b saved.channel ≡ true → ⊥) → (pieces : List Saved) → AllByRecursion P pieces → (bytes : List ℕ) → piece_or bytes e a b pieces ≡ bytes
piece_apart P e a b never [] all bytes = refl
piece_apart P e a b never (saved ∷ pieces) all bytes =
    elim (is_of e a b saved.channel) as (λ t. is_of e a b saved.channel ≡ t → cond t saved.bytes.items (piece_or bytes e a b pieces) ≡ bytes) [
      | true ↦ λ on. absurd (never saved all.0 on)
      | false ↦ λ off. piece_apart P e a b never pieces all.1 bytes
    ] refl

some_none : {X : Type 0} (x : X) → None ≡ Some x → ⊥
some_none x e = cc

same_three : (x y : ℕ × ℕ × ℕ) → Some x ≡ Some y → (x.0 ≡ y.0) × (x.1 ≡ y.1) × (x.2 ≡ y.2)
same_three x y is =
    let same : x ≡ y = same_Some x y is in
    (ap (λ (p : ℕ × ℕ × ℕ). p.0) same, ap (λ (p : ℕ × ℕ × ℕ). p.1) same, ap (λ (p : ℕ × ℕ × ℕ). p.2) same)

-- one piece more
pub put_one : (job : Job) (stand : ChannelsStandInOrder) (saved : Saved) (done : List Saved) (old mid new : List (Items ℕ)) → IsJob job → IsOfJob job saved → length old ≡ length (channels job) →
    ArePut job done old mid → IsPut 0 (channel_place job saved.channel.edge saved.channel.from saved.channel.to) saved.bytes mid new → ArePut job (saved ∷ done) old new
put_one job stand saved done old mid new is own many so_far put = record {
  many = put.many ∙ so_far.many;
  each = λ e a b on.
      let place = channel_place job e a b in
      let channel = saved.channel in
      let mine = channel_place job channel.edge channel.from channel.to in
      let here = stand job e a b is on in
      let within : place < length mid = (let w = slice_get_within (channels job) place (e, a, b) here in omega (arith, w, many, so_far.many)) in
      elim (is_of e a b channel) as (λ t. is_of e a b channel ≡ t → items_at new place ≡ cond t saved.bytes.items (piece_or (items_at old place) e a b done)) [
        | true ↦ λ same.
            let are = ends_are e a b channel same in
            let at : mine ≡ place = ap (λ k. channel_place job k channel.from channel.to) are.edge ∙ ap (λ k. channel_place job e k channel.to) are.sender ∙ ap (λ k. channel_place job e a k) are.receiver in
            ap (λ o. option_map_or (λ (l : Items ℕ). l.items) o []) (put.there place (omega (arith, at)) within)
        | false ↦ λ other.
            let ne : mine ≢ 0 + place = (λ at.
            let at' : mine ≡ place = omega (arith, at) in
            let three = same_three (channel.edge, channel.from, channel.to) (e, a, b) (sym (stand job channel.edge channel.from channel.to is own) ∙ ap (slice_get (channels job)) at' ∙ here) in
            let yes = is_own e a b channel (record { edge = three.0; sender = three.1; receiver = three.2 }) in
            let no : true ≡ false = sym yes ∙ other in cc) in
            ap (λ o. option_map_or (λ (l : Items ℕ). l.items) o []) (put.others place ne) ∙ so_far.each e a b on
      ] refl;
}

-- ---- slots

-- an empty slot more
pub shows_none : {T : Type 0} (first : ℕ) (part : Snapshot → T) (slots : List (Option Snapshot)) (k : ℕ) (list : List T) → kept_at slots k ≡ None → Shows first part slots (suc k) list → Shows first part slots k list
shows_none first part slots k list none shows i s low inside is = elim (cases_eq k (first + i)) [
  | inl e ↦ absurd (some_none s (sym none ∙ ap (kept_at slots) e ∙ is))
  | inr ne ↦ shows i s (omega (arith, low, ne)) inside is
]

-- a snapshot more
pub shows_some : {T : Type 0} (first : ℕ) (part : Snapshot → T) (slots : List (Option Snapshot)) (k : ℕ) (snapshot : Snapshot) (old new : List T) → kept_at slots k ≡ Some snapshot →
    IsPut first k (part snapshot) old new → Shows first part slots (suc k) old → Shows first part slots k new
shows_some first part slots k snapshot old new here put shows i s low inside is = elim (cases_eq k (first + i)) [
  | inl e ↦ put.there i e (omega (arith, inside, put.many)) ∙ ap (λ u. Some (part u)) (same_Some snapshot s (sym here ∙ ap (kept_at slots) e ∙ is))
  | inr ne ↦ put.others i ne ∙ shows i s (omega (arith, low, ne)) (omega (arith, inside, put.many)) is
]

pub pieces_none : (job : Job) (at : ℕ → ℕ → ℕ → ℕ) (side : Snapshot → List Saved) (slots : List (Option Snapshot)) (k : ℕ) (list : List (Items ℕ)) → kept_at slots k ≡ None →
    ShowsPieces job at side slots (suc k) list → ShowsPieces job at side slots k list
pieces_none job at side slots k list none shows = record {
  put = λ e a b s on low is. elim (cases_eq k (at e a b)) [
    | inl e' ↦ absurd (some_none s (sym none ∙ ap (kept_at slots) e' ∙ is))
    | inr ne ↦ shows.put e a b s on (omega (arith, low, ne)) is
  ];
  empty = λ e a b on low. shows.empty e a b on (omega (arith, low));
}

pub pieces_some : (job : Job) (at : ℕ → ℕ → ℕ → ℕ) (side : Snapshot → List Saved) (slots : List (Option Snapshot)) (k : ℕ) (snapshot : Snapshot) (old new : List (Items ℕ)) → kept_at slots k ≡ Some snapshot →
    ((e a b : ℕ) → k ≢ at e a b → (bytes : List ℕ) → piece_or bytes e a b (side snapshot) ≡ bytes) →
    ArePut job (side snapshot) old new → ShowsPieces job at side slots (suc k) old → ShowsPieces job at side slots k new
pieces_some job at side slots k snapshot old new here apart put shows = record {
  put = λ e a b s on low is. elim (cases_eq k (at e a b)) [
    | inl e' ↦
        put.each e a b on ∙ ap (λ bytes. piece_or bytes e a b (side snapshot)) (shows.empty e a b on (omega (arith, e')))
        ∙ ap (λ u. piece e a b (side u)) (same_Some snapshot s (sym here ∙ ap (kept_at slots) e' ∙ is))
    | inr ne ↦ put.each e a b on ∙ apart e a b ne _ ∙ shows.put e a b s on (omega (arith, low, ne)) is
  ];
  empty = λ e a b on low. put.each e a b on ∙ apart e a b (λ e'. omega (arith, low, e')) _ ∙ shows.empty e a b on (omega (arith, low));
}

-- nothing more
pub all_none : (job : Job) (slots : List (Option Snapshot)) (k : ℕ) (image : Image) → kept_at slots k ≡ None → ShowsAll job slots (suc k) image → ShowsAll job slots k image
all_none job slots k image none shows = record {
  offsets = shows_none 0 _ slots k _ none shows.offsets;
  ended = shows_none 0 _ slots k _ none shows.ended;
  emitted = shows_none 0 _ slots k _ none shows.emitted;
  tables = shows_none (sum_below (suc (last_edge job)) (tasks job)) _ slots k _ none shows.tables;
  takes = shows_none (tasks job 0) _ slots k _ none shows.takes;
  saved_in = pieces_none job _ _ slots k _ none shows.saved_in;
  saved_out = pieces_none job _ _ slots k _ none shows.saved_out;
}

-- a snapshot at its task's place more
pub all_some : (job : Job) (slots : List (Option Snapshot)) (k : ℕ) (snapshot : Snapshot) (old new : Image) → kept_at slots k ≡ Some snapshot → IsAtPlace job k snapshot →
    IsPutInto job k snapshot old new → ShowsAll job slots (suc k) old → ShowsAll job slots k new
all_some job slots k snapshot old new here at put shows = record {
  offsets = shows_some 0 (λ (s : Snapshot). s.offset) slots k snapshot _ _ here put.offsets shows.offsets;
  ended = shows_some 0 (λ (s : Snapshot). s.ended) slots k snapshot _ _ here put.ended shows.ended;
  emitted = shows_some 0 (λ (s : Snapshot). s.emitted) slots k snapshot _ _ here put.emitted shows.emitted;
  tables = shows_some (sum_below (suc (last_edge job)) (tasks job)) (λ (s : Snapshot). s.table) slots k snapshot _ _ here put.tables shows.tables;
  takes = shows_some (tasks job 0) (λ (s : Snapshot). s.takes) slots k snapshot _ _ here put.takes shows.takes;
  saved_in = pieces_some job (taker_place job) (λ (s : Snapshot). s.saved_in.items) slots k snapshot _ _ here
      (λ e a b ne bytes. piece_apart (IsInto job snapshot.task.stage snapshot.task.index) e a b
      (λ saved into same.
      let are = ends_are e a b saved.channel same in
      ne (at.at ∙ ap (λ i. sender_place job i snapshot.task.index) (into.stage_is ∙ ap suc are.edge) ∙ ap (sender_place job (suc e)) (into.index_is ∙ are.receiver)))
      snapshot.saved_in.items at.saved_in bytes)
      put.saved_in shows.saved_in;
  saved_out = pieces_some job (putter_place job) (λ (s : Snapshot). s.saved_out.items) slots k snapshot _ _ here
      (λ e a b ne bytes. piece_apart (IsOutOf job snapshot.task.stage snapshot.task.index) e a b
      (λ saved out same.
      let are = ends_are e a b saved.channel same in
      ne (at.at ∙ ap (λ i. sender_place job i snapshot.task.index) (out.stage_is ∙ are.edge) ∙ ap (sender_place job e) (out.index_is ∙ are.sender)))
      snapshot.saved_out.items at.saved_out bytes)
      put.saved_out shows.saved_out;
}

-- at first nothing is shown
shows_nothing : {T : Type 0} (first : ℕ) (part : Snapshot → T) (slots : List (Option Snapshot)) (list : List T) → Shows first part slots (length slots) list
shows_nothing first part slots list i s low inside is = absurd (some_none s (sym (none_past slots (first + i) low) ∙ is))

pieces_nothing : (job : Job) (at : ℕ → ℕ → ℕ → ℕ) (side : Snapshot → List Saved) (slots : List (Option Snapshot)) (list : List (Items ℕ)) → AreEmpty list → ShowsPieces job at side slots (length slots) list
pieces_nothing job at side slots list empty = record {
  put = λ e a b s on low is. absurd (some_none s (sym (none_past slots (at e a b) low) ∙ is));
  empty = λ e a b on low. empty (channel_place job e a b);
}

pub all_nothing : (job : Job) (slots : List (Option Snapshot)) (image : Image) → AreEmpty image.saved_in.items → AreEmpty image.saved_out.items → ShowsAll job slots (length slots) image
all_nothing job slots image empty_in empty_out = record {
  offsets = shows_nothing 0 _ slots _;
  ended = shows_nothing 0 _ slots _;
  emitted = shows_nothing 0 _ slots _;
  tables = shows_nothing (sum_below (suc (last_edge job)) (tasks job)) _ slots _;
  takes = shows_nothing (tasks job 0) _ slots _;
  saved_in = pieces_nothing job _ _ slots _ empty_in;
  saved_out = pieces_nothing job _ _ slots _ empty_out;
}

-- the shape stays
pub shape_stays : (job : Job) (place : ℕ) (snapshot : Snapshot) (old new : Image) → HasShape job old → IsPutInto job place snapshot old new → HasShape job new
shape_stays job place snapshot old new shape put = record {
  offsets = put.offsets.many ∙ shape.offsets;
  ended = put.ended.many ∙ shape.ended;
  emitted = put.emitted.many ∙ shape.emitted;
  tables = put.tables.many ∙ shape.tables;
  takes = ap (λ n. tasks job 0 + n) put.takes.many ∙ shape.takes;
  saved_in = put.saved_in.many ∙ shape.saved_in;
  saved_out = put.saved_out.many ∙ shape.saved_out;
}

pub same_heads : (a b c : Image) → IsSameHead a b → IsSameHead b c → IsSameHead a c
same_heads a b c first second = record { number = second.number ∙ first.number; last = second.last ∙ first.last; text = second.text ∙ first.text }
