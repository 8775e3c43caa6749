-- What a gate tells of the passes that it has, and what a gate is when it is made.
use Rattle.std.proofs.Common.{◌≡◌, ◌≢◌, ℕ, zero, suc, ◌+◌, ◌<◌, Bool, true, false, List, [], ◌∷◌, ◌++◌, length, get_or, take, drop, reverse, refl, sym, ap, subst, ◌∙◌, arith, Result, Ok, Err, Option, Some, None, true≢false, append-nil}
use Rattle.std.specs.Prelude.{slice_get, All, IfSome, IfOk, OnOk, is_some, is_err}
use Rattle.input_channel.specs.Counts.{freed}
use Rattle.input_gate.specs.declared.gate.GateEnd.{GateEnd}
use Rattle.input_gate.specs.States.{GateState, LookedFirst, AllCameBack}
use Rattle.std.specs.List.{AllByRecursion}
use Rattle.std.proofs.lemmas.List.{length-map, drop_more, take_more, reverse-reverse, reverse-append}
use Rattle.std.proofs.lemmas.List.Elements.{recursion_from_All, All-from_recursion}
use Rattle.turn_cell.specs.Passes.{IsPassOf, opened_with, number, seen, mine}
use Rattle.flow_defs.specs.Parcels.{data_of, has_end, barriers_of}
use Rattle.flow_defs.specs.Records.{all_encoded, IsShort}
use Rattle.flow_defs.specs.declared.cause.Cause.{Cause}
use Rattle.flow_defs.proofs.Lists.{head_same, tail_same}
use Rattle.conn_parts.specs.Shares.{AreOwn, AreNew, seen_at, mine_at}
use Rattle.input_channel.specs.Legal.{polled_with, returned, asks, inline_in, adds, open_save}
use Rattle.outside.specs.declared.stop.StopEntry.{StopEntry}
use Rattle.outside.specs.Stops.{first_met}
use Rattle.input_gate.specs.declared.gate.GateItem.{GateItem}
use Rattle.input_gate.specs.declared.gate.GateItem.TheVariants as items
use Rattle.input_gate.specs.declared.lane.Lane.{Lane}
use Rattle.gate_account.specs.Accounts.{IsNew}
use Rattle.input_gate.specs.Turning.{InputCell, InputPass, IsEven, Looked, looks_at, given_in, given_to}
use Rattle.channel_cut.specs.Cuts.{IsRead}
use Rattle.channel_cut.proofs.Reading.{read_begins}
use Rattle.input_gate.specs.Lanes.{IsLane, polled, left_of, lines_by, barriers_by, resumed_by, ready_bytes, spare_bytes, weight, due_back}
use Rattle.input_gate.specs.Channels.{AreLanes, AreQuiet, HaveNoSpare, account_of, at_of, cells_in, passes_in, looks_in, LookedIn}
use Rattle.input_gate.specs.Making.{IsFreshLane, AreFreshLanes}
use Rattle.turn_cell.specs.History.{entries_of}
use Rattle.local_pool.specs.declared.entry.PoolEntry.{PoolEntry}
use Rattle.std.proofs.lemmas.List.Sums.{sum_by-cons}
use Rattle.std.proofs.lemmas.Option.{same_Some}
use Rattle.input_gate.specs.Segments.{freed_by, added_by, freed_in, added_in, LoseNone}
use Rattle.input_gate.proofs.Reading.{read_told, told_still}
use Rattle.input_gate.proofs.RoundLaws.{looked_through}

-- ---- passes by their place

pub looks_at_is : (ls : List Lane) (c : ℕ) → looks_at c (passes_in ls) ≡ looks_in ls c
looks_at_is [] c = refl
looks_at_is (l ∷ ls) zero = refl
looks_at_is (l ∷ ls) (suc c) = looks_at_is ls c

pub cells_length : (ls ms : List Lane) → cells_in ms ≡ cells_in ls → length ms ≡ length ls
cells_length ls ms e = sym (length-map ms (λ (lane : Lane). lane.cell.now)) ∙ ap length e ∙ length-map ls (λ (lane : Lane). lane.cell.now)

-- ---- what the passes tell

pub bytes_at : (size : ℕ) (ls : List Lane) → AreLanes size ls → (c : ℕ) → data_of (given_in (seen_at c (passes_in ls))) ≡ all_encoded ((account_of ls).lines c) ++ (account_of ls).left c
bytes_at size [] h c = refl
bytes_at size (l ∷ ls) h zero = h.0.read.is
bytes_at size (l ∷ ls) h (suc c) = bytes_at size ls h.1 c

pub ends_of : (size : ℕ) (ls : List Lane) → AreLanes size ls → (c : ℕ) → (account_of ls).ended c ≡ true → has_end (given_in (seen_at c (passes_in ls))) ≡ true
ends_of size [] h c e = absurd (true≢false (sym e))
ends_of size (l ∷ ls) h zero e = h.0.ends e
ends_of size (l ∷ ls) h (suc c) e = ends_of size ls h.1 c e

pub short_at : (size : ℕ) (ls : List Lane) → AreLanes size ls → (c : ℕ) → AllByRecursion IsShort ((account_of ls).lines c)
short_at size [] h c = tt
short_at size (l ∷ ls) h zero = h.0.read.short
short_at size (l ∷ ls) h (suc c) = short_at size ls h.1 c

pub came_back : (size : ℕ) (ls : List Lane) → AreLanes size ls → HaveNoSpare ls → (c : ℕ) (exclusive : Bool) → returned exclusive (mine_at c (passes_in ls)) ≡ polled_with exclusive (mine_at c (passes_in ls))
came_back size [] h none c exclusive = refl
came_back size (l ∷ ls) h none zero exclusive = subst IsEven (append-nil (mine l.pass)) (subst (λ s. IsEven (mine l.pass ++ due_back s)) (none 0) h.0.even) exclusive
came_back size (l ∷ ls) h none (suc c) exclusive = came_back size ls h.1 (λ d. none (suc d)) c exclusive

each_of : (size : ℕ) (ls : List Lane) → AreLanes size ls → (k : ℕ) (cell : InputCell) (pass : InputPass) → slice_get (cells_in ls) k ≡ Some cell → slice_get (passes_in ls) k ≡ Some pass → IsPassOf cell pass
each_of size [] h k cell pass e f = cc
each_of size (l ∷ ls) h zero cell pass e f = subst (λ c. IsPassOf c pass) (same_Some l.cell.now cell e) (subst (λ p. IsPassOf l.cell.now p) (same_Some l.pass pass f) h.0.pass.0)
each_of size (l ∷ ls) h (suc k) cell pass e f = each_of size ls h.1 k cell pass e f

numbers_are : (size : ℕ) (ls : List Lane) → AreLanes size ls → AllByRecursion (λ (pass : InputPass). number pass ≡ 0) (passes_in ls)
numbers_are size [] h = tt
numbers_are size (l ∷ ls) h = (h.0.pass.1, numbers_are size ls h.1)

pub own_of : (size : ℕ) (ls : List Lane) → AreLanes size ls → AreOwn 0 (cells_in ls) (passes_in ls)
own_of size ls h = record {
  of_cells = record { many = length-map ls (λ (lane : Lane). lane.pass) ∙ sym (length-map ls (λ (lane : Lane). lane.cell.now)); each = each_of size ls h };
  numbered = All-from_recursion (λ (pass : InputPass). number pass ≡ 0) (passes_in ls) (numbers_are size ls h);
}

-- ---- stops

stop_seen : (history : List (ℕ × StopEntry)) (met : Option Cause) → met ≡ first_met history → is_some met ≡ true → history ≢ []
stop_seen history met e some none = absurd (true≢false (sym some ∙ ap is_some (e ∙ ap first_met none)))

pub seen_stop : (history : List (ℕ × StopEntry)) (met : Option Cause) (some : Bool) → met ≡ first_met history → some ≡ is_some met → some ≡ true → history ≢ []
seen_stop history met some e is found = stop_seen history met e (sym is ∙ found)

-- ---- looks

pub looked_on : (hold : Bool) (ls ms ns : List Lane) (item : GateItem) → AreQuiet ls ms → length ms ≡ length ls → LookedIn hold ms item ns → LookedIn hold ls item ns
looked_on hold ls ms ns (items.Line c line) q same k = λ d low. looked_through hold ls ms ns ns q (λ d. (refl, refl)) d (k d (subst (λ n. d < n) (sym same) low))
looked_on hold ls ms ns (items.Barrier c k kind) q same h = tt
looked_on hold ls ms ns items.AllEnded q same h = tt

-- ---- a gate that is made

module _ (size : ℕ) (c : InputCell) (p : InputPass) (l : Lane) (f : IsFreshLane c p l) (pass : IsPassOf c p) (first : number p ≡ 0) (no_entry : mine p ≡ []) (unseen : seen p ≡ []) (fits : (opened_with c).size ≡ size) where
  given_none : polled l ≡ []
  given_none = ap given_to f.pass_is ∙ ap given_in unseen

  left_none : left_of l ≡ []
  left_none = ap (λ r. ready_bytes r ++ (l.reader ++ spare_bytes l.spare)) f.ready_is ∙ ap (λ s. l.reader ++ spare_bytes s) f.spare_is ∙ append-nil l.reader ∙ f.reader_is

  mine_none : mine l.pass ≡ []
  mine_none = ap mine f.pass_is ∙ no_entry

  read_none : IsRead [] (entries_of (seen l.pass)) [] (left_of l)
  read_none = subst (λ (bytes : List ℕ). IsRead [] (entries_of (seen l.pass)) [] bytes) (sym left_none) (read_begins [] (entries_of (seen l.pass)) given_none)

  even_none_yet : IsEven []
  even_none_yet kind = refl

  pub lane_fresh : IsLane size l
  lane_fresh = record {
    pass = (subst (λ cell. IsPassOf cell l.pass) (sym f.cell_is) (subst (IsPassOf c) (sym f.pass_is) pass), ap number f.pass_is ∙ first, ap open_save mine_none);
    size_is = ap (λ (cell : InputCell). (opened_with cell).size) f.cell_is ∙ fits;
    read = read_told _ _ _ read_none;
    count = f.barriers_are ∙ ap (λ ps. length (barriers_of ps)) (sym given_none);
    asked = ap (λ es. asks es + weight l.blocked) mine_none ∙ ap (λ b. 0 + weight b) f.blocked_is ∙ ap inline_in (sym given_none);
    ends = λ e. absurd (true≢false (sym e ∙ f.ended_is));
    even = subst (λ es. IsEven (es ++ due_back l.spare)) (sym mine_none) (subst (λ s. IsEven (due_back s)) (sym f.spare_is) even_none_yet);
    spare_size = subst (λ s. IfSome s (λ buf. length buf.segment ≡ size)) (sym f.spare_is) tt;
    short = subst (λ r. IfSome r (λ line. IsShort line.items)) (sym f.ready_is) tt;
    clear_is = λ e. absurd (true≢false (sym e ∙ f.clear_is));
  }

  pub new_lines : lines_by l ≡ []
  new_lines = told_still _ _ _ read_none

  pub new_barriers : barriers_by l ≡ []
  new_barriers = ap barriers_of given_none

  pub new_resumed : resumed_by l ≡ 0
  new_resumed = ap asks mine_none

-- Lists of cells and passes.
pub record AreFirst (size : ℕ) (cells : List InputCell) (passes : List InputPass) : Type 0 where
  pub each : (k : ℕ) (cell : InputCell) (pass : InputPass) → slice_get cells k ≡ Some cell → slice_get passes k ≡ Some pass → IsPassOf cell pass
  pub first : AllByRecursion (λ (pass : InputPass). number pass ≡ 0) passes
  pub no_entry : AllByRecursion (λ (pass : InputPass). mine pass ≡ []) passes
  pub unseen : AllByRecursion (λ (pass : InputPass). seen pass ≡ []) passes
  pub fits : AllByRecursion (λ (cell : InputCell). (opened_with cell).size ≡ size) cells

pub first_of : (size : ℕ) (cells : List InputCell) (passes : List InputPass) → AreOwn 0 cells passes → AreNew passes → All (λ (pass : InputPass). seen pass ≡ []) passes → All (λ (cell : InputCell). (opened_with cell).size ≡ size) cells → AreFirst size cells passes
first_of size cells passes own new unseen fits = record {
  each = own.of_cells.each;
  first = recursion_from_All (λ (pass : InputPass). number pass ≡ 0) passes own.numbered;
  no_entry = recursion_from_All (λ (pass : InputPass). mine pass ≡ []) passes new;
  unseen = recursion_from_All (λ (pass : InputPass). seen pass ≡ []) passes unseen;
  fits = recursion_from_All (λ (cell : InputCell). (opened_with cell).size ≡ size) cells fits;
}

first_rest : (size : ℕ) (cell : InputCell) (cells : List InputCell) (pass : InputPass) (passes : List InputPass) → AreFirst size (cell ∷ cells) (pass ∷ passes) → AreFirst size cells passes
first_rest size cell cells pass passes h = record { each = λ k. h.each (suc k); first = h.first.1; no_entry = h.no_entry.1; unseen = h.unseen.1; fits = h.fits.1 }

pub lanes_fresh : (size : ℕ) (cells : List InputCell) (passes : List InputPass) (ls : List Lane) → AreFreshLanes cells passes ls → AreFirst size cells passes → AreLanes size ls
lanes_fresh size [] [] [] f h = tt
lanes_fresh size [] [] (l ∷ ls) f h = absurd f
lanes_fresh size [] (p ∷ ps) ls f h = absurd f
lanes_fresh size (c ∷ cs) [] ls f h = absurd f
lanes_fresh size (c ∷ cs) (p ∷ ps) [] f h = absurd f
lanes_fresh size (c ∷ cs) (p ∷ ps) (l ∷ ls) f h = (lane_fresh size c p l f.0 (h.each 0 c p refl refl) h.first.0 h.no_entry.0 h.unseen.0 h.fits.0, lanes_fresh size cs ps ls f.1 (first_rest size c cs p ps h))

pub cells_fresh : (cells : List InputCell) (passes : List InputPass) (ls : List Lane) → AreFreshLanes cells passes ls → cells_in ls ≡ cells
cells_fresh [] [] [] f = refl
cells_fresh [] [] (l ∷ ls) f = absurd f
cells_fresh [] (p ∷ ps) ls f = absurd f
cells_fresh (c ∷ cs) [] ls f = absurd f
cells_fresh (c ∷ cs) (p ∷ ps) [] f = absurd f
cells_fresh (c ∷ cs) (p ∷ ps) (l ∷ ls) f = ap (λ x. x ∷ cells_in ls) f.0.cell_is ∙ ap (λ xs. c ∷ xs) (cells_fresh cs ps ls f.1)

pub length_fresh : (cells : List InputCell) (passes : List InputPass) (ls : List Lane) → AreFreshLanes cells passes ls → length ls ≡ length cells
length_fresh cells passes ls f = sym (length-map ls (λ (lane : Lane). lane.cell.now)) ∙ ap length (cells_fresh cells passes ls f)

module _ {A : Type 0} (w : Lane → A) (z : A) (size : ℕ)
    (none : (c : InputCell) (p : InputPass) (l : Lane) → IsFreshLane c p l → IsPassOf c p → number p ≡ 0 → mine p ≡ [] → seen p ≡ [] → (opened_with c).size ≡ size → w l ≡ z) where
  at_fresh : (cells : List InputCell) (passes : List InputPass) (ls : List Lane) → AreFreshLanes cells passes ls → AreFirst size cells passes → (d : ℕ) → at_of w z ls d ≡ z
  at_fresh [] [] [] f h d = refl
  at_fresh [] [] (l ∷ ls) f h d = absurd f
  at_fresh [] (p ∷ ps) ls f h d = absurd f
  at_fresh (c ∷ cs) [] ls f h d = absurd f
  at_fresh (c ∷ cs) (p ∷ ps) [] f h d = absurd f
  at_fresh (c ∷ cs) (p ∷ ps) (l ∷ ls) f h zero = none c p l f.0 (h.each 0 c p refl refl) h.first.0 h.no_entry.0 h.unseen.0 h.fits.0
  at_fresh (c ∷ cs) (p ∷ ps) (l ∷ ls) f h (suc d) = at_fresh cs ps ls f.1 (first_rest size c cs p ps h) d

pub is_new : (size : ℕ) (cells : List InputCell) (passes : List InputPass) (ls : List Lane) → AreFreshLanes cells passes ls → AreFirst size cells passes → IsNew (λ c. []) (account_of ls)
is_new size cells passes ls f h = record {
  lines = at_fresh lines_by [] size (λ c p l f a b m s k. new_lines size c p l f a b m s k) cells passes ls f h;
  barriers = at_fresh barriers_by [] size (λ c p l f a b m s k. new_barriers size c p l f a b m s k) cells passes ls f h;
  resumed = at_fresh resumed_by 0 size (λ c p l f a b m s k. new_resumed size c p l f a b m s k) cells passes ls f h;
  ended = at_fresh (λ (lane : Lane). lane.ended) false size (λ c p l f a b m s k. f.ended_is) cells passes ls f h;
  left = at_fresh left_of [] size (λ c p l f a b m s k. left_none size c p l f a b m s k) cells passes ls f h;
}

pub no_spare_fresh : (size : ℕ) (cells : List InputCell) (passes : List InputPass) (ls : List Lane) → AreFreshLanes cells passes ls → AreFirst size cells passes → HaveNoSpare ls
no_spare_fresh size cells passes ls f h = at_fresh (λ (lane : Lane). lane.spare) None size (λ c p l f a b m s k. f.spare_is) cells passes ls f h

-- ---- how lanes are dealt

fresh_on : (cells : List InputCell) (passes : List InputPass) (ls : List Lane) (c : InputCell) (p : InputPass) (l : Lane) → AreFreshLanes cells passes ls → IsFreshLane c p l →
    AreFreshLanes (cells ++ c ∷ []) (passes ++ p ∷ []) (ls ++ l ∷ [])
fresh_on [] [] [] c p l fs f = (f, tt)
fresh_on [] [] (m ∷ ls) c p l fs f = absurd fs
fresh_on [] (q ∷ ps) ls c p l fs f = absurd fs
fresh_on (d ∷ cs) [] ls c p l fs f = absurd fs
fresh_on (d ∷ cs) (q ∷ ps) [] c p l fs f = absurd fs
fresh_on (d ∷ cs) (q ∷ ps) (m ∷ ls) c p l fs f = (fs.0, fresh_on cs ps ls c p l fs.1 f)

-- Of the passes that are left, the last one first, the next one is taken.
next_taken : {T : Type 0} (xs left : List T) (i : ℕ) (x : T) → i < length xs → left ++ x ∷ [] ≡ reverse (drop i xs) → (get_or xs i x ≡ x) × (left ≡ reverse (drop (i + 1) xs))
next_taken xs left i x low e =
    let is : get_or xs i x ∷ drop (i + 1) xs ≡ x ∷ reverse left = sym (drop_more xs i x low) ∙ sym (reverse-reverse (drop i xs)) ∙ ap reverse (sym e) ∙ reverse-append left (x ∷ []) in
    (head_same (get_or xs i x) x (drop (i + 1) xs) (reverse left) is, sym (reverse-reverse left) ∙ ap reverse (sym (tail_same (get_or xs i x) x (drop (i + 1) xs) (reverse left) is)))

pub dealt : (cells : List InputCell) (passes left : List InputPass) (i : ℕ) (c : InputCell) (p : InputPass) (l : Lane) (ls : List Lane) → length passes ≡ length cells → i < length cells →
    left ++ p ∷ [] ≡ reverse (drop i passes) → IsFreshLane (get_or cells i c) p l → AreFreshLanes (take i cells) (take i passes) ls →
    (left ≡ reverse (drop (i + 1) passes)) × AreFreshLanes (take (i + 1) cells) (take (i + 1) passes) (ls ++ l ∷ [])
dealt cells passes left i c p l ls many low e f fs =
    let within : i < length passes = omega (arith, many, low) in
    let next = next_taken passes left i p within e in
    let on = fresh_on (take i cells) (take i passes) ls (get_or cells i c) p l fs f in (
      next.1,
      subst (λ cs. AreFreshLanes cs (take (i + 1) passes) (ls ++ l ∷ [])) (sym (take_more cells i c low))
          (subst (λ ps. AreFreshLanes (take i cells ++ get_or cells i c ∷ []) ps (ls ++ l ∷ [])) (sym (take_more passes i p within ∙ ap (λ q. take i passes ++ q ∷ []) next.0)) on),
    )

-- ---- what a call of `next` tells, of gates

pub looked_first : (hold : Bool) (a b : GateState) (result : Result GateItem GateEnd) → IfOk result (λ item. LookedIn hold a.lanes item b.lanes) → IfOk result (λ item. LookedFirst hold a b item)
looked_first hold a b (Ok (items.Line c line)) k = λ d low free may still.
    subst (λ z. Looked z (looks_at d (passes_in b.lanes))) (sym (looks_at_is a.lanes d)) (subst (λ z. Looked (looks_in a.lanes d) z) (sym (looks_at_is b.lanes d)) (k d low free may still))
looked_first hold a b (Ok (items.Barrier c n kind)) k = tt
looked_first hold a b (Ok items.AllEnded) k = tt
looked_first hold a b (Err end) k = tt

pub all_came_back : (size : ℕ) (b : GateState) (result : Result GateItem GateEnd) → AreLanes size b.lanes → OnOk result (HaveNoSpare b.lanes) → OnOk result (AllCameBack b)
all_came_back size b (Ok item) h none = came_back size b.lanes h none
all_came_back size b (Err end) h none = tt

-- An `Err` alone leaves a buffer.
pub none_left : {A E : Type 0} (result : Result A E) (is : Bool) (ls : List Lane) → is ≡ is_err result → OnOk result (HaveNoSpare ls) → is ≡ false → HaveNoSpare ls
none_left (Ok x) is ls e none off = none
none_left (Err end) is ls e none off = absurd (true≢false (sym e ∙ off))

-- ---- no segment was lost yet

none_moved : (size : ℕ) (cells : List InputCell) (passes : List InputPass) (ls : List Lane) → AreFreshLanes cells passes ls → AreFirst size cells passes → (freed_in ls ≡ 0) × (added_in ls ≡ 0)
none_moved size [] [] [] f h = (refl, refl)
none_moved size [] [] (l ∷ ls) f h = absurd f
none_moved size [] (p ∷ ps) ls f h = absurd f
none_moved size (c ∷ cs) [] ls f h = absurd f
none_moved size (c ∷ cs) (p ∷ ps) [] f h = absurd f
none_moved size (c ∷ cs) (p ∷ ps) (l ∷ ls) f h =
    let rest = none_moved size cs ps ls f.1 (first_rest size c cs p ps h) in
    let freed_more = sum_by-cons freed_by l.pass (passes_in ls) in
    let added_more = sum_by-cons added_by l.pass (passes_in ls) in
    let none_freed : freed_by l.pass ≡ 0 = ap freed_by f.0.pass_is ∙ ap (λ s. freed (entries_of s)) h.unseen.0 in
    let none_added : added_by l.pass ≡ 0 = ap added_by f.0.pass_is ∙ ap adds h.no_entry.0 in
    (omega (arith, rest.0, freed_more, none_freed), omega (arith, rest.1, added_more, none_added))

pub lose_fresh : (size : ℕ) (cells : List InputCell) (passes : List InputPass) (ls : List Lane) → AreFreshLanes cells passes ls → AreFirst size cells passes → (own : List PoolEntry) → LoseNone own own (passes_in ls)
lose_fresh size cells passes ls f h own =
    let none = none_moved size cells passes ls f h in
    record { since = []; told = sym (append-nil own); even = omega (arith, none.0, none.1) }
