-- What a step makes of what is kept of a channel.
use Rattle.std.proofs.Common.{Bool, true, false, cond, ◌≡◌, ℕ, suc, ◌+◌, ◌<◌, List, [], ◌∷◌, ◌++◌, length, Option, Some, None, refl, sym, ap, subst, ◌∙◌, arith, append_assoc, append-nil, length-append, true≢false}
use Rattle.std.specs.Prelude.{if◌then◌else◌, MatchOption, IfSome}
use Rattle.std.proofs.lemmas.List.Sums.{sum_by-append}
use Rattle.turn_cell.specs.History.{entries_of}
use Rattle.turn_cell.specs.Passes.{seen, mine}
use Rattle.flow_defs.specs.Items.{Items}
use Rattle.flow_defs.specs.declared.parcel.Parcel.{Parcel}
use Rattle.flow_defs.specs.declared.parcel.Parcel.TheVariants as parcels
use Rattle.flow_defs.specs.declared.task.BarrierKind.TheVariants.{Inline, Front}
use Rattle.flow_defs.specs.Parcels.{barriers_of, data_of, has_end}
use Rattle.flow_defs.specs.Records.{encoded, IsShort, first_record}
use Rattle.input_channel.specs.declared.entry.Gave.{Gave}
use Rattle.input_channel.specs.declared.entry.Gave.TheVariants.{NoBuffer, Exclusive, Floating}
use Rattle.input_channel.specs.declared.entry.ReceiveEntry.{ReceiveEntry}
use Rattle.input_channel.specs.declared.entry.ReceiveEntry.TheVariants.{Poll, Returned, Added, Ask}
use Rattle.input_channel.specs.declared.held.HeldBuf.{HeldBuf}
use Rattle.input_channel.specs.Contents.{content}
use Rattle.input_channel.specs.Legal.{gives_kind, returns_kind, is_ask, polled_with, returned, asks, inline_in}
use Rattle.input_channel.proofs.CountLemmas.{count-snoc}
use Rattle.input_channel.proofs.InboxLaws.{inline_in-append}
use Rattle.flow_defs.proofs.ParcelLemmas.{barriers_of-append}
use Rattle.input_gate.specs.declared.lane.Lane.{Lane}
use Rattle.input_channel.specs.Inboxes.{inbox}
use Rattle.channel_cut.specs.Cuts.{InLine, IsRead, Shows}
use Rattle.channel_cut.specs.Lanes.{PollCuts}
use Rattle.channel_cut.proofs.Reading.{line_is_given}
use Rattle.input_gate.specs.Turning.{InputPass, IsGatePass, IsEven, IsLater, EndsInPoll, NoFront, given_to}
use Rattle.input_gate.specs.Lanes.{polled, left_of, ready_bytes, spare_bytes, lines_by, barriers_by, resumed_by, weight, due_back, IsLane, IsIdle, IsQuiet, Gives, GivesBarrier, IsResumed}
use Rattle.input_gate.proofs.TurnLaws.{later_then, later_refl}
use Rattle.input_gate.proofs.Reading.{read_polled, read_told, told_still, ends_at, ends_still}

-- ---- counts of the gate's own entries

polled_more : (kind : Bool) (es : List ReceiveEntry) (e : ReceiveEntry) (b : Bool) → gives_kind kind e ≡ b → polled_with kind (es ++ e ∷ []) ≡ polled_with kind es + cond b 1 0
polled_more kind es e b is = count-snoc (gives_kind kind) es e ∙ ap (λ x. polled_with kind es + cond x 1 0) is

returned_more : (kind : Bool) (es : List ReceiveEntry) (e : ReceiveEntry) (b : Bool) → returns_kind kind e ≡ b → returned kind (es ++ e ∷ []) ≡ returned kind es + cond b 1 0
returned_more kind es e b is = count-snoc (returns_kind kind) es e ∙ ap (λ x. returned kind es + cond x 1 0) is

-- An entry that is neither of both.
module _ (e : ReceiveEntry) (no_poll : (kind : Bool) → gives_kind kind e ≡ false) (no_return : (kind : Bool) → returns_kind kind e ≡ false) where
  pub even_other : (es now : List ReceiveEntry) → now ≡ es ++ e ∷ [] → IsEven es → IsEven now
  even_other es now is even kind =
      let a = ap (returned kind) is ∙ returned_more kind es e false (no_return kind) in
      let b = ap (polled_with kind) is ∙ polled_more kind es e false (no_poll kind) in
      let c = even kind in
      omega (arith, a, b, c)

pub asks_other : (e : ReceiveEntry) → is_ask e ≡ false → (es now : List ReceiveEntry) → now ≡ es ++ e ∷ [] → asks now ≡ asks es
asks_other e none es now is = ap asks is ∙ count-snoc is_ask es e ∙ ap (λ b. asks es + cond b 1 0) none ∙ (let h : asks es + 0 ≡ asks es = omega arith in h)

pub asks_more : (es now : List ReceiveEntry) → now ≡ es ++ Ask ∷ [] → asks now ≡ suc (asks es)
asks_more es now is = ap asks is ∙ count-snoc is_ask es Ask ∙ (let h : asks es + 1 ≡ suc (asks es) = omega arith in h)

pub even_none : (hold : Bool) (es now : List ReceiveEntry) → now ≡ es ++ Poll hold NoBuffer ∷ [] → IsEven es → IsEven now
even_none hold = even_other (Poll hold NoBuffer) (λ kind. gives kind) (λ kind. returns kind)
  where
    gives : (kind : Bool) → gives_kind kind (Poll hold NoBuffer) ≡ false
    gives true = refl
    gives false = refl

    returns : (kind : Bool) → returns_kind kind (Poll hold NoBuffer) ≡ false
    returns true = refl
    returns false = refl

pub even_added : (es now : List ReceiveEntry) → now ≡ es ++ Added ∷ [] → IsEven es → IsEven now
even_added = even_other Added gives returns
  where
    gives : (kind : Bool) → gives_kind kind Added ≡ false
    gives true = refl
    gives false = refl

    returns : (kind : Bool) → returns_kind kind Added ≡ false
    returns true = refl
    returns false = refl

pub even_asked : (es now : List ReceiveEntry) → now ≡ es ++ Ask ∷ [] → IsEven es → IsEven now
even_asked = even_other Ask gives returns
  where
    gives : (kind : Bool) → gives_kind kind Ask ≡ false
    gives true = refl
    gives false = refl

    returns : (kind : Bool) → returns_kind kind Ask ≡ false
    returns true = refl
    returns false = refl

-- The buffer that is given, of one kind or the other.
abbrev gave_for : Bool → Gave
gave_for exclusive = if exclusive then Exclusive else Floating

poll_returns_none : (kind hold : Bool) (gave : Gave) → returns_kind kind (Poll hold gave) ≡ false
poll_returns_none true hold gave = refl
poll_returns_none false hold gave = refl

comes_back : (kind hold exclusive : Bool) → gives_kind kind (Poll hold (gave_for exclusive)) ≡ returns_kind kind (Returned exclusive)
comes_back true hold true = refl
comes_back true hold false = refl
comes_back false hold true = refl
comes_back false hold false = refl

returned_gives_none : (kind exclusive : Bool) → gives_kind kind (Returned exclusive) ≡ false
returned_gives_none true exclusive = refl
returned_gives_none false exclusive = refl

its_kind : (exclusive : Bool) → returns_kind exclusive (Returned exclusive) ≡ true
its_kind true = refl
its_kind false = refl

-- A buffer was polled: the counts are even once it comes back.
pub even_polled : (hold exclusive : Bool) (es now : List ReceiveEntry) → now ≡ es ++ Poll hold (gave_for exclusive) ∷ [] → IsEven (es ++ []) → IsEven (now ++ Returned exclusive ∷ [])
even_polled hold exclusive es now is even kind =
    let back = returns_kind kind (Returned exclusive) in
    let gave = ap (polled_with kind) is ∙ polled_more kind es (Poll hold (gave_for exclusive)) back (comes_back kind hold exclusive) in
    let kept = ap (returned kind) is ∙ returned_more kind es (Poll hold (gave_for exclusive)) false (poll_returns_none kind hold (gave_for exclusive)) in
    let more = returned_more kind now (Returned exclusive) back refl in
    let same = polled_more kind now (Returned exclusive) false (returned_gives_none kind exclusive) in
    let before = subst IsEven (append-nil es) even kind in
    omega (arith, gave, kept, more, same, before)

-- So it is out.
pub out_now : (exclusive : Bool) (es : List ReceiveEntry) → IsEven (es ++ Returned exclusive ∷ []) → returned exclusive es < polled_with exclusive es
out_now exclusive es even =
    let more = returned_more exclusive es (Returned exclusive) true (its_kind exclusive) in
    let same = polled_more exclusive es (Returned exclusive) false (returned_gives_none exclusive exclusive) in
    let is = even exclusive in
    omega (arith, more, same, is)

-- ---- turns that give nothing

pub idle_refl : (p : InputPass) → IsIdle p p
idle_refl p = record { later = later_refl p; given = refl; asked = refl; even = λ h. h }

pub idle_then : (p q r : InputPass) → IsIdle p q → IsIdle q r → IsIdle p r
idle_then p q r h k = record { later = later_then p q r h.later k.later; given = k.given ∙ h.given; asked = k.asked ∙ h.asked; even = λ e. k.even (h.even e) }

pub idle_added : (p q : InputPass) → IsLater p q → given_to q ≡ given_to p → mine q ≡ mine p ++ Added ∷ [] → IsIdle p q
idle_added p q later given entered = record { later = later; given = given; asked = asks_other Added refl (mine p) (mine q) entered; even = even_added (mine p) (mine q) entered }

pub idle_same : (p q : InputPass) → IsLater p q → given_to q ≡ given_to p → mine q ≡ mine p → IsIdle p q
idle_same p q later given same = record { later = later; given = given; asked = ap asks same; even = λ e. subst IsEven (sym same) e }

-- ---- lanes

pub quiet_refl : (a : Lane) → IsQuiet a a
quiet_refl a = record { cell = refl; later = later_refl a.pass; lines = refl; barriers = refl; resumed = refl; blocked = refl }

pub quiet_then : (a b c : Lane) → IsQuiet a b → IsQuiet b c → IsQuiet a c
quiet_then a b c h k = record { cell = k.cell ∙ h.cell; later = later_then a.pass b.pass c.pass h.later k.later; lines = k.lines ∙ h.lines; barriers = k.barriers ∙ h.barriers; resumed = k.resumed ∙ h.resumed; blocked = k.blocked ∙ h.blocked }

apart : (b : Bool) → b ≡ true → b ≡ false → ⊥
apart b h k = true≢false (sym h ∙ k)

asked_same : (a b : ℕ) (w : Bool) (ps ps' : List Parcel) → b ≡ a → a + weight w ≡ inline_in ps → inline_in ps' ≡ inline_in ps → b + weight w ≡ inline_in ps'
asked_same a b w ps ps' e h i = ap (λ n. n + weight w) e ∙ h ∙ sym i

-- What a buffer that was polled makes of the lane.
module _ (size : ℕ) (a : Lane) (p : InputPass) (hold : Bool) (buf : HeldBuf) (h : IsLane size a)
    (no_spare : a.spare ≡ None) (no_ready : a.ready ≡ None) (pass : IsGatePass a.cell.now p) (later : IsLater a.pass p)
    (given : given_to p ≡ polled a ++ parcels.Data (content buf) ∷ []) (entered : mine p ≡ mine a.pass ++ Poll hold (gave_for buf.exclusive) ∷ []) where
  rest_is : ready_bytes a.ready ++ (a.reader ++ content buf) ≡ left_of a ++ content buf
  rest_is =
      let e : left_of a ≡ ready_bytes a.ready ++ (a.reader ++ []) = ap (λ s. ready_bytes a.ready ++ (a.reader ++ spare_bytes s)) no_spare in
      sym (append_assoc (ready_bytes a.ready) a.reader (content buf)) ∙ ap (λ z. (ready_bytes a.ready ++ z) ++ content buf) (sym (append-nil a.reader)) ∙ ap (λ z. z ++ content buf) (sym e)

  read_more : IsRead [] (entries_of (seen p)) (lines_by a) (ready_bytes a.ready ++ (a.reader ++ content buf))
  read_more =
      subst (λ (bytes : List ℕ). IsRead [] (entries_of (seen p)) (lines_by a) bytes) (ap (λ z. left_of a ++ z) (append-nil (content buf)) ∙ sym rest_is)
      (read_polled a.pass p (parcels.Data (content buf) ∷ []) (lines_by a) (left_of a) later.0 given h.read)

  pub lane_buffer : length buf.segment ≡ size → IsLane size (record a { clear = false; pass = p; spare = Some buf })
  lane_buffer fits = record {
    pass = pass;
    size_is = h.size_is;
    read = read_told _ _ _ read_more;
    count = h.count ∙ ap length (sym (ap barriers_of given ∙ barriers_of-append (polled a) (parcels.Data (content buf) ∷ []) ∙ append-nil (barriers_by a)));
    asked = asked_same (resumed_by a) (asks (mine p)) a.blocked (polled a) (given_to p) (asks_other (Poll hold (gave_for buf.exclusive)) refl (mine a.pass) (mine p) entered) h.asked
        (ap inline_in given ∙ inline_in-append (polled a) (parcels.Data (content buf) ∷ []) ∙ (let z : inline_in (polled a) + 0 ≡ inline_in (polled a) = omega arith in z));
    ends = λ e. ends_still (polled a) (given_to p) (parcels.Data (content buf) ∷ []) given (h.ends e);
    even = even_polled hold buf.exclusive (mine a.pass) (mine p) entered (subst (λ s. IsEven (mine a.pass ++ due_back s)) no_spare h.even);
    spare_size = fits;
    short = h.short;
    clear_is = λ (e : false ≡ true). absurd (cc);
  }

  pub quiet_buffer : IsQuiet a (record a { clear = false; pass = p; spare = Some buf })
  quiet_buffer = record {
    cell = refl;
    later = later;
    lines = told_still _ _ _ read_more;
    barriers = ap barriers_of given ∙ barriers_of-append (polled a) (parcels.Data (content buf) ∷ []) ∙ append-nil (barriers_by a);
    resumed = asks_other (Poll hold (gave_for buf.exclusive)) refl (mine a.pass) (mine p) entered;
    blocked = refl;
  }

-- What a poll that gave no buffer makes of the lane.
module _ (size : ℕ) (a : Lane) (p : InputPass) (hold : Bool) (h : IsLane size a) (no_spare : a.spare ≡ None)
    (pass : IsGatePass a.cell.now p) (later : IsLater a.pass p) (entered : mine p ≡ mine a.pass ++ Poll hold NoBuffer ∷ []) where
  even_still : IsEven (mine p ++ due_back a.spare)
  even_still =
      let before = subst IsEven (append-nil (mine a.pass)) (subst (λ s. IsEven (mine a.pass ++ due_back s)) no_spare h.even) in
      subst (λ s. IsEven (mine p ++ due_back s)) (sym no_spare) (subst IsEven (sym (append-nil (mine p))) (even_none hold (mine a.pass) (mine p) entered before))

  resumed_still : asks (mine p) ≡ resumed_by a
  resumed_still = asks_other (Poll hold NoBuffer) refl (mine a.pass) (mine p) entered

  -- What gave no data leaves the rest as it was.
  module _ (ps : List Parcel) (given : given_to p ≡ polled a ++ ps) (no_data : data_of ps ≡ []) where
    read_still : IsRead [] (entries_of (seen p)) (lines_by a) (left_of a)
    read_still =
        subst (λ (bytes : List ℕ). IsRead [] (entries_of (seen p)) (lines_by a) bytes) (ap (λ z. left_of a ++ z) no_data ∙ append-nil (left_of a))
        (read_polled a.pass p ps (lines_by a) (left_of a) later.0 given h.read)

  none_given : given_to p ≡ polled a → given_to p ≡ polled a ++ []
  none_given given = given ∙ sym (append-nil (polled a))

  -- nothing
  pub lane_nothing : given_to p ≡ polled a → IsLane size (record a { clear = false; pass = p })
  lane_nothing given = record {
    pass = pass;
    size_is = h.size_is;
    read = read_told _ _ _ (read_still [] (none_given given) refl);
    count = h.count ∙ ap (λ ps. length (barriers_of ps)) (sym given);
    asked = asked_same (resumed_by a) (asks (mine p)) a.blocked (polled a) (given_to p) resumed_still h.asked (ap inline_in given);
    ends = λ e. ap has_end given ∙ h.ends e;
    even = even_still;
    spare_size = h.spare_size;
    short = h.short;
    clear_is = λ (e : false ≡ true). absurd (cc);
  }

  pub quiet_nothing : given_to p ≡ polled a → IsQuiet a (record a { clear = false; pass = p })
  quiet_nothing given = record { cell = refl; later = later; lines = told_still _ _ _ (read_still [] (none_given given) refl); barriers = ap barriers_of given; resumed = resumed_still; blocked = refl }

  -- the end
  pub lane_end : given_to p ≡ polled a ++ parcels.End ∷ [] → IsLane size (record a { clear = false; pass = p; ended = true })
  lane_end given = record {
    pass = pass;
    size_is = h.size_is;
    read = read_told _ _ _ (read_still (parcels.End ∷ []) given refl);
    count = h.count ∙ ap length (sym (ap barriers_of given ∙ barriers_of-append (polled a) (parcels.End ∷ []) ∙ append-nil (barriers_by a)));
    asked = asked_same (resumed_by a) (asks (mine p)) a.blocked (polled a) (given_to p) resumed_still h.asked
        (ap inline_in given ∙ inline_in-append (polled a) (parcels.End ∷ []) ∙ (let z : inline_in (polled a) + 0 ≡ inline_in (polled a) = omega arith in z));
    ends = λ e. ends_at (polled a) (given_to p) given;
    even = even_still;
    spare_size = h.spare_size;
    short = h.short;
    clear_is = λ (e : false ≡ true). absurd (cc);
  }

  pub quiet_end : given_to p ≡ polled a ++ parcels.End ∷ [] → IsQuiet a (record a { clear = false; pass = p; ended = true })
  quiet_end given = record {
    cell = refl;
    later = later;
    lines = told_still _ _ _ (read_still (parcels.End ∷ []) given refl);
    barriers = ap barriers_of given ∙ barriers_of-append (polled a) (parcels.End ∷ []) ∙ append-nil (barriers_by a);
    resumed = resumed_still;
    blocked = refl;
  }

  -- a front barrier
  module _ (k : ℕ) (given : given_to p ≡ polled a ++ parcels.Barrier k Front ∷ []) (number : k ≡ suc (length (barriers_by a))) where
    barriers_more : barriers_of (given_to p) ≡ barriers_by a ++ (k, Front) ∷ []
    barriers_more = ap barriers_of given ∙ barriers_of-append (polled a) (parcels.Barrier k Front ∷ [])

    pub lane_front : IsLane size (record a { clear = false; pass = p; barriers = k })
    lane_front = record {
      pass = pass;
      size_is = h.size_is;
      read = read_told _ _ _ (read_still (parcels.Barrier k Front ∷ []) given refl);
      count = number ∙ (let l = ap length barriers_more ∙ length-append (barriers_by a) ((k, Front) ∷ []) in let z : suc (length (barriers_by a)) ≡ length (barriers_of (given_to p)) = omega (arith, l) in z);
      asked = asked_same (resumed_by a) (asks (mine p)) a.blocked (polled a) (given_to p) resumed_still h.asked
          (ap inline_in given ∙ inline_in-append (polled a) (parcels.Barrier k Front ∷ []) ∙ (let z : inline_in (polled a) + 0 ≡ inline_in (polled a) = omega arith in z));
      ends = λ e. ends_still (polled a) (given_to p) (parcels.Barrier k Front ∷ []) given (h.ends e);
      even = even_still;
      spare_size = h.spare_size;
      short = h.short;
      clear_is = λ (e : false ≡ true). absurd (cc);
    }

    pub gives_front : a.blocked ≡ false → (held : Bool) → held ≡ false → GivesBarrier held a (record a { clear = false; pass = p; barriers = k }) k Front
    gives_front free held not_held = record {
      gives = record {
        cell = refl;
        later = later;
        free = free;
        lines = told_still _ _ _ (read_still (parcels.Barrier k Front ∷ []) given refl) ∙ sym (append-nil (lines_by a));
        barriers_are = barriers_more;
        resumed = resumed_still;
      };
      number = number;
      not_held = not_held;
      whole = λ e. absurd (other e);
      cuts = λ e. absurd (other e);
    }
      where
        other : Front ≡ Inline → ⊥
        other e = cc

  -- an inline barrier
  module _ (k : ℕ) (given : given_to p ≡ polled a ++ parcels.Barrier k Inline ∷ []) (number : k ≡ suc (length (barriers_by a))) (free : a.blocked ≡ false) (no_ready : a.ready ≡ None)
      (none : first_record a.reader ≡ None) where
    reader_left : left_of a ≡ a.reader
    reader_left = ap (λ r. ready_bytes r ++ (a.reader ++ spare_bytes a.spare)) no_ready ∙ ap (λ s. a.reader ++ spare_bytes s) no_spare ∙ append-nil a.reader

    stops_more : barriers_of (given_to p) ≡ barriers_by a ++ (k, Inline) ∷ []
    stops_more = ap barriers_of given ∙ barriers_of-append (polled a) (parcels.Barrier k Inline ∷ [])

    pub lane_inline : IsLane size (record a { clear = false; pass = p; barriers = k; blocked = true })
    lane_inline = record {
      pass = pass;
      size_is = h.size_is;
      read = read_told _ _ _ (read_still (parcels.Barrier k Inline ∷ []) given refl);
      count = number ∙ (let l = ap length stops_more ∙ length-append (barriers_by a) ((k, Inline) ∷ []) in let z : suc (length (barriers_by a)) ≡ length (barriers_of (given_to p)) = omega (arith, l) in z);
      asked =
          let i = ap inline_in given ∙ inline_in-append (polled a) (parcels.Barrier k Inline ∷ []) in
          let w : resumed_by a + 0 ≡ inline_in (polled a) = ap (λ b. resumed_by a + weight b) (sym free) ∙ h.asked in
          let r = resumed_still in
          omega (arith, i, w, r);
      ends = λ e. ends_still (polled a) (given_to p) (parcels.Barrier k Inline ∷ []) given (h.ends e);
      even = even_still;
      spare_size = h.spare_size;
      short = h.short;
      clear_is = λ (e : false ≡ true). absurd (cc);
    }

    cuts_here : PollCuts → EndsInPoll a.pass p hold NoBuffer → Shows [] (entries_of (seen p)) (InLine k (lines_by a))
    cuts_here cuts polling =
        subst (λ (es : List ReceiveEntry). Shows [] es (InLine k (lines_by a))) (sym polling.ends)
        (cuts polling.room [] polling.entries hold NoBuffer k (lines_by a) (left_of a) polling.legal
        (number ∙ ap (λ (ps : List Parcel). suc (length (barriers_of ps))) (sym polling.given))
        (sym (ap (λ (es : List ReceiveEntry). (inbox es).given) polling.ends) ∙ given ∙ ap (λ (ps : List Parcel). ps ++ parcels.Barrier k Inline ∷ []) (sym polling.given))
        (record { is = ap data_of polling.given ∙ h.read.is; short = h.read.short })
        (ap first_record reader_left ∙ none))

    pub gives_inline : PollCuts → EndsInPoll a.pass p hold NoBuffer → (held : Bool) → held ≡ false → GivesBarrier held a (record a { clear = false; pass = p; barriers = k; blocked = true }) k Inline
    gives_inline cuts polling held not_held = record {
      gives = record {
        cell = refl;
        later = later;
        free = free;
        lines = told_still _ _ _ (read_still (parcels.Barrier k Inline ∷ []) given refl) ∙ sym (append-nil (lines_by a));
        barriers_are = stops_more;
        resumed = resumed_still;
      };
      number = number;
      not_held = not_held;
      whole = λ e. ap first_record reader_left ∙ none;
      cuts = λ e. cuts_here cuts polling;
    }

-- The bytes of the buffer are read, and it comes back.
module _ (size : ℕ) (a : Lane) (buf : HeldBuf) (h : IsLane size a) (spare : a.spare ≡ Some buf) where
  read_left : (reader : List ℕ) → reader ≡ a.reader ++ content buf → ready_bytes a.ready ++ (reader ++ []) ≡ left_of a
  read_left reader e = ap (λ z. ready_bytes a.ready ++ z) (append-nil reader ∙ e ∙ ap (λ s. a.reader ++ spare_bytes s) (sym spare))

  pub out_of : returned buf.exclusive (mine a.pass) < polled_with buf.exclusive (mine a.pass)
  out_of = out_now buf.exclusive (mine a.pass) (subst (λ s. IsEven (mine a.pass ++ due_back s)) spare h.even)

  pub spare_fits : length buf.segment ≡ size
  spare_fits = subst (λ s. IfSome s (λ buf. length buf.segment ≡ size)) spare h.spare_size

  module _ (reader : List ℕ) (fed : reader ≡ a.reader ++ content buf) (p q : InputPass) (pass : IsGatePass a.cell.now q) (later : IsLater a.pass p) (given : given_to p ≡ polled a)
      (entered : mine p ≡ mine a.pass ++ Returned buf.exclusive ∷ []) (idle : IsIdle p q) where
    given_back : given_to q ≡ polled a
    given_back = idle.given ∙ given

    resumed_back : asks (mine q) ≡ resumed_by a
    resumed_back = idle.asked ∙ asks_other (Returned buf.exclusive) refl (mine a.pass) (mine p) entered

    read_back : IsRead [] (entries_of (seen q)) (lines_by a) (ready_bytes a.ready ++ (reader ++ []))
    read_back =
        subst (λ (bytes : List ℕ). IsRead [] (entries_of (seen q)) (lines_by a) bytes) (append-nil (left_of a) ∙ sym (read_left reader fed))
        (read_polled a.pass q [] (lines_by a) (left_of a) (later_then a.pass p q later idle.later).0 (given_back ∙ sym (append-nil (polled a))) h.read)

    lane_read : IsLane size (record a { clear = false; pass = q; reader = reader; spare = None })
    lane_read = record {
      pass = pass;
      size_is = h.size_is;
      read = read_told _ _ _ read_back;
      count = h.count ∙ ap (λ ps. length (barriers_of ps)) (sym given_back);
      asked = asked_same (resumed_by a) (asks (mine q)) a.blocked (polled a) (given_to q) resumed_back h.asked (ap inline_in given_back);
      ends = λ e. ap has_end given_back ∙ h.ends e;
      even = subst IsEven (sym (append-nil (mine q))) (idle.even (subst IsEven (sym entered) (subst (λ s. IsEven (mine a.pass ++ due_back s)) spare h.even)));
      spare_size = tt;
      short = h.short;
      clear_is = λ (e : false ≡ true). absurd (cc);
    }

    pub lane_back : (now : Option HeldBuf) → now ≡ None → IsLane size (record a { clear = false; pass = q; reader = reader; spare = now })
    lane_back now none = subst (λ s. IsLane size (record a { clear = false; pass = q; reader = reader; spare = s })) (sym none) lane_read

    pub quiet_back : IsQuiet a (record a { clear = false; pass = q; reader = reader; spare = None })
    quiet_back = record {
      cell = refl;
      later = later_then a.pass p q later idle.later;
      lines = told_still _ _ _ read_back;
      barriers = ap barriers_of given_back;
      resumed = resumed_back;
      blocked = refl;
    }

-- The line that is ready is given.
module _ (size : ℕ) (a : Lane) (line : Items ℕ) (h : IsLane size a) (ready : a.ready ≡ Some line) where
  line_left : left_of a ≡ encoded line.items ++ (a.reader ++ spare_bytes a.spare)
  line_left = ap (λ r. ready_bytes r ++ (a.reader ++ spare_bytes a.spare)) ready

  line_short : IsShort line.items
  line_short = subst (λ r. IfSome r (λ line. IsShort line.items)) ready h.short

  read_given : IsRead [] (entries_of (seen a.pass)) (lines_by a ++ line.items ∷ []) (a.reader ++ spare_bytes a.spare)
  read_given =
      line_is_given [] (entries_of (seen a.pass)) (lines_by a) line.items (a.reader ++ spare_bytes a.spare) line_short
      (subst (λ (bytes : List ℕ). IsRead [] (entries_of (seen a.pass)) (lines_by a) bytes) line_left h.read)

  pub lane_line : IsLane size (record a { ready = None })
  lane_line = record {
    pass = h.pass;
    size_is = h.size_is;
    read = read_told _ _ _ read_given;
    count = h.count;
    asked = h.asked;
    ends = h.ends;
    even = h.even;
    spare_size = h.spare_size;
    short = tt;
    clear_is = h.clear_is;
  }

  pub gives_line : a.blocked ≡ false → Gives a (record a { ready = None }) (line.items ∷ []) [] × IsShort line.items
  gives_line free = (
    record {
      cell = refl;
      later = later_refl a.pass;
      free = free;
      lines = told_still _ _ _ read_given;
      barriers_are = sym (append-nil (barriers_by a));
      resumed = refl;
    },
    line_short,
  )

pub lane_given : (size : ℕ) (a : Lane) (r : Option (Items ℕ)) (now : Option (Items ℕ)) → a.ready ≡ r → now ≡ None → IsLane size a → IsLane size (record a { ready = now })
lane_given size a None now e n h = subst (λ x. IsLane size (record a { ready = x })) (e ∙ sym n) h
lane_given size a (Some line) now e n h = subst (λ x. IsLane size (record a { ready = x })) (sym n) (lane_line size a line h e)

pub given_line : (size : ℕ) (a : Lane) (r now : Option (Items ℕ)) → a.ready ≡ r → now ≡ None → a.blocked ≡ false → IsLane size a →
    MatchOption r (record a { ready = now } ≡ a) (λ line. Gives a (record a { ready = now }) (line.items ∷ []) [] × IsShort line.items)
given_line size a None now e n free h = ap (λ x. record a { ready = x }) (n ∙ sym e)
given_line size a (Some line) now e n free h = subst (λ x. Gives a (record a { ready = x }) (line.items ∷ []) [] × IsShort line.items) (sym n) (gives_line size a line h e free)

pub lane_same : (size : ℕ) (a : Lane) (reader : List ℕ) (spare : Option HeldBuf) → reader ≡ a.reader → spare ≡ a.spare → IsLane size a → IsLane size (record a { reader = reader; spare = spare })
lane_same size a reader spare r s h = subst (λ x. IsLane size (record a { reader = reader; spare = x })) (sym s) (subst (λ x. IsLane size (record a { reader = x })) (sym r) h)

-- ---- turns that give nothing

read_as_it_was : (a : Lane) (p : InputPass) → IsLater a.pass p → given_to p ≡ polled a → IsRead [] (entries_of (seen a.pass)) (lines_by a) (left_of a) → IsRead [] (entries_of (seen p)) (lines_by a) (left_of a)
read_as_it_was a p later given read =
    subst (λ (bytes : List ℕ). IsRead [] (entries_of (seen p)) (lines_by a) bytes) (append-nil (left_of a))
    (read_polled a.pass p [] (lines_by a) (left_of a) later.0 (given ∙ sym (append-nil (polled a))) read)

-- ---- a resumption

even_between : (es ds now : List ReceiveEntry) → now ≡ es ++ Ask ∷ [] → IsEven (es ++ ds) → IsEven (now ++ ds)
even_between es ds now is even kind =
    let e = even kind in
    let a = sum_by-append (λ x. cond (returns_kind kind x) 1 0) es ds in
    let b = sum_by-append (λ x. cond (gives_kind kind x) 1 0) es ds in
    let a' = sum_by-append (λ x. cond (returns_kind kind x) 1 0) now ds in
    let b' = sum_by-append (λ x. cond (gives_kind kind x) 1 0) now ds in
    let r : returned kind now ≡ returned kind es = ap (returned kind) is ∙ returned_more kind es Ask false (no_return kind) ∙ (let z : returned kind es + 0 ≡ returned kind es = omega arith in z) in
    let q : polled_with kind now ≡ polled_with kind es = ap (polled_with kind) is ∙ polled_more kind es Ask false (no_poll kind) ∙ (let z : polled_with kind es + 0 ≡ polled_with kind es = omega arith in z) in
    a' ∙ ap (λ n. n + returned kind ds) r ∙ sym a ∙ e ∙ b ∙ ap (λ n. n + polled_with kind ds) (sym q) ∙ sym b'
  where
    no_return : (kind : Bool) → returns_kind kind Ask ≡ false
    no_return true = refl
    no_return false = refl

    no_poll : (kind : Bool) → gives_kind kind Ask ≡ false
    no_poll true = refl
    no_poll false = refl

module _ (size : ℕ) (a : Lane) (p : InputPass) (h : IsLane size a) (blocked : a.blocked ≡ true) (later : IsLater a.pass p) (given : given_to p ≡ polled a) (entered : mine p ≡ mine a.pass ++ Ask ∷ []) where
  pub lane_resumed : IsGatePass a.cell.now p → IsLane size (record a { clear = false; pass = p; blocked = false })
  lane_resumed pass = record {
    pass = pass;
    size_is = h.size_is;
    read = read_told _ _ _ (read_as_it_was a p later given h.read);
    count = h.count ∙ ap (λ ps. length (barriers_of ps)) (sym given);
    asked =
        let w : resumed_by a + 1 ≡ inline_in (polled a) = ap (λ b. resumed_by a + weight b) (sym blocked) ∙ h.asked in
        let r = asks_more (mine a.pass) (mine p) entered in
        let i = ap inline_in given in
        omega (arith, w, r, i);
    ends = λ e. ap has_end given ∙ h.ends e;
    even = even_between (mine a.pass) (due_back a.spare) (mine p) entered h.even;
    spare_size = h.spare_size;
    short = h.short;
    clear_is = λ (e : false ≡ true). absurd (cc);
  }

  pub is_resumed : IsResumed a (record a { clear = false; pass = p; blocked = false })
  is_resumed = record { cell = refl; lines = told_still _ _ _ (read_as_it_was a p later given h.read); barriers = ap barriers_of given; resumed = asks_more (mine a.pass) (mine p) entered; ended = refl; left = refl; later = later }

pub owed_at : (size : ℕ) (a : Lane) → IsLane size a → a.blocked ≡ true → asks (mine a.pass) < inline_in (polled a)
owed_at size a h blocked = let w : resumed_by a + 1 ≡ inline_in (polled a) = ap (λ b. resumed_by a + weight b) (sym blocked) ∙ h.asked in omega (arith, w)

-- A look that found nothing.
module _ (size : ℕ) (a : Lane) (p : InputPass) (h : IsLane size a) (later : IsLater a.pass p) (given : given_to p ≡ polled a) (entered : mine p ≡ mine a.pass) where
  pub lane_looked : IsGatePass a.cell.now p → NoFront (seen p) → IsLane size (record a { clear = true; pass = p })
  lane_looked pass none = record {
    pass = pass;
    size_is = h.size_is;
    read = read_told _ _ _ (read_as_it_was a p later given h.read);
    count = h.count ∙ ap (λ ps. length (barriers_of ps)) (sym given);
    asked = asked_same (resumed_by a) (asks (mine p)) a.blocked (polled a) (given_to p) (ap asks entered) h.asked (ap inline_in given);
    ends = λ e. ap has_end given ∙ h.ends e;
    even = subst (λ es. IsEven (es ++ due_back a.spare)) (sym entered) h.even;
    spare_size = h.spare_size;
    short = h.short;
    clear_is = λ e. none;
  }

  pub quiet_looked : IsQuiet a (record a { clear = true; pass = p })
  quiet_looked = record { cell = refl; later = later; lines = told_still _ _ _ (read_as_it_was a p later given h.read); barriers = ap barriers_of given; resumed = ap asks entered; blocked = refl }
