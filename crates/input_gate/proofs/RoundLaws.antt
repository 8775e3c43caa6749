-- What a step at one channel makes of all channels.
use Rattle.std.proofs.Common.{◌≡◌, ◌≢◌, ◌⊎◌, inl, inr, ℕ, zero, suc, max, ◌+◌, ◌<◌, ◌≤◌, Bool, true, false, List, [], ◌∷◌, ◌++◌, length, get_or, refl, sym, ap, subst, ◌∙◌, arith, append_assoc, Result, Ok, Err, Option, Some, None}
use Rattle.std.specs.Prelude.{slice_set, MatchOption, IfNone, IfErr, OnOk}
use Rattle.flow_defs.specs.Items.{Items}
use mathlib.Core.Logic.{dite}
use native.Mathlib.Decide.{ℕ_discrete}
use Rattle.turn_cell.specs.History.{StartsWith, entries_of}
use Rattle.turn_cell.specs.Passes.{seen}
use Rattle.turn_cell.proofs.Lists.{starts_itself, starts_on}
use Rattle.turn_cell.proofs.Histories.{entries_of-append}
use Rattle.input_channel.specs.declared.entry.ReceiveEntry.{ReceiveEntry}
use Rattle.channel_cut.specs.Cuts.{Cut, InLine, Shows}
use Rattle.channel_cut.proofs.Cutting.{cuts_stay}
use Rattle.gate_account.specs.Accounts.{Account, GaveOf, GaveNothing, CutsInLine, IsNext, IsFree, IsBlocked, Keeps, Resumed, inlines}
use Rattle.flow_defs.specs.declared.task.BarrierKind.{BarrierKind}
use Rattle.flow_defs.specs.declared.task.BarrierKind.TheVariants.{Inline, Front}
use Rattle.flow_defs.specs.Records.{IsShort, first_record}
use Rattle.record_spans.specs.Spans.{HasNoRecord}
use Rattle.input_channel.specs.declared.held.HeldBuf.{HeldBuf}
use Rattle.input_gate.specs.declared.gate.GateItem.{GateItem}
use Rattle.input_gate.specs.declared.gate.GateItem.TheVariants as items
use Rattle.input_gate.specs.declared.gate.GateEnd.{GateEnd}
use Rattle.input_gate.specs.declared.gate.GateEnd.TheVariants as ends
use Rattle.input_gate.specs.declared.lane.Lane.{Lane}
use Rattle.input_gate.specs.declared.lane.LaneFault.{LaneFault}
use Rattle.input_gate.specs.declared.lane.LaneFault.TheVariants.{Memory, TooLong, Left}
use Rattle.input_gate.specs.declared.lane.LaneStep.{LaneStep}
use Rattle.input_gate.specs.declared.lane.LaneStep.TheVariants.{Nothing, Found, Barrier}
use Rattle.input_gate.specs.Gates.{Gave, Ended}
use Rattle.input_gate.specs.Turning.{IsLater, Looks, looks_of, Looked}
use Rattle.input_gate.specs.Lanes.{IsLane, IsQuiet, Gives, GivesBarrier, IsFault, IsResumed, Came, shows_by, lines_by, barriers_by, resumed_by, left_of, polled, weight}
use Rattle.input_gate.specs.Channels.{AreLanes, AreLater, AreQuiet, HaveNoSpare, account_of, shows_in, at_of, cells_in, looks_in, IsMost, MayGive, CameAt, LookedAt, HasLooked, HaveNoSpareBelow, GaveUp, end_of}
use Rattle.input_gate.proofs.Reading.{inlines_of}
use Rattle.input_gate.proofs.LaneLaws.{quiet_refl, quiet_then}

order : (m b : ℕ) → (m < b) ⊎ (b ≤ m)
order zero zero = inr (omega arith)
order zero (suc b) = inl (omega arith)
order (suc m) zero = inr (omega arith)
order (suc m) (suc b) = elim (order m b) [ inl h ↦ inl (omega (arith, h)) | inr h ↦ inr (omega (arith, h)) ]

pub lane_at : (size : ℕ) (ls : List Lane) (i : ℕ) (x y : Lane) → AreLanes size ls → i < length ls → y ≡ get_or ls i x → IsLane size y
lane_at size [] i x y h low e = absurd (omega arith)
lane_at size (l ∷ ls) zero x y h low e = subst (IsLane size) (sym e) h.0
lane_at size (l ∷ ls) (suc i) x y h low e = lane_at size ls i x y h.1 (omega arith) e

pub lanes_set : (size : ℕ) (ls : List Lane) (i : ℕ) (l : Lane) → AreLanes size ls → IsLane size l → AreLanes size (slice_set ls i l)
lanes_set size [] i l h k = tt
lanes_set size (x ∷ ls) zero l h k = (k, h.1)
lanes_set size (x ∷ ls) (suc i) l h k = (h.0, lanes_set size ls i l h.1 k)

pub quiet_all : (ls : List Lane) → AreQuiet ls ls
quiet_all [] = tt
quiet_all (l ∷ ls) = (quiet_refl l, quiet_all ls)

pub quiet_length : (ls ms : List Lane) → AreQuiet ls ms → length ms ≡ length ls
quiet_length [] [] h = refl
quiet_length [] (m ∷ ms) h = absurd h
quiet_length (l ∷ ls) [] h = absurd h
quiet_length (l ∷ ls) (m ∷ ms) h = ap suc (quiet_length ls ms h.1)

pub quiet_on : (ls ms ns : List Lane) → AreQuiet ls ms → AreQuiet ms ns → AreQuiet ls ns
quiet_on [] [] ns h k = k
quiet_on [] (m ∷ ms) ns h k = absurd h
quiet_on (l ∷ ls) [] ns h k = absurd h
quiet_on (l ∷ ls) (m ∷ ms) [] h k = absurd k
quiet_on (l ∷ ls) (m ∷ ms) (n ∷ ns) h k = (quiet_then l m n h.0 k.0, quiet_on ls ms ns h.1 k.1)

pub quiet_set : (ls : List Lane) (i : ℕ) (x y l : Lane) → y ≡ get_or ls i x → i < length ls → IsQuiet y l → AreQuiet ls (slice_set ls i l)
quiet_set [] i x y l e low q = absurd (omega arith)
quiet_set (z ∷ ls) zero x y l e low q = (subst (λ y. IsQuiet y l) e q, quiet_all ls)
quiet_set (z ∷ ls) (suc i) x y l e low q = (quiet_refl z, quiet_set ls i x y l e (omega arith) q)

pub quiet_cells : (ls ms : List Lane) → AreQuiet ls ms → cells_in ms ≡ cells_in ls
quiet_cells [] [] h = refl
quiet_cells [] (m ∷ ms) h = absurd h
quiet_cells (l ∷ ls) [] h = absurd h
quiet_cells (l ∷ ls) (m ∷ ms) h = ap (λ c. c.now ∷ cells_in ms) h.0.cell ∙ ap (λ cs. l.cell.now ∷ cs) (quiet_cells ls ms h.1)

pub cells_set : (ls : List Lane) (i : ℕ) (x y l : Lane) → y ≡ get_or ls i x → i < length ls → l.cell ≡ y.cell → cells_in (slice_set ls i l) ≡ cells_in ls
cells_set [] i x y l e low q = absurd (omega arith)
cells_set (z ∷ ls) zero x y l e low q = ap (λ c. c.now ∷ cells_in ls) (q ∙ ap (λ (l : Lane). l.cell) e)
cells_set (z ∷ ls) (suc i) x y l e low q = ap (λ cs. z.cell.now ∷ cs) (cells_set ls i x y l e (omega arith) q)

pub set_length : (ls : List Lane) (i : ℕ) (l : Lane) → length (slice_set ls i l) ≡ length ls
set_length [] i l = refl
set_length (x ∷ ls) zero l = refl
set_length (x ∷ ls) (suc i) l = ap suc (set_length ls i l)

module _ {A : Type 0} (f : Lane → A) (z : A) where
  pub at_get : (ls : List Lane) (i : ℕ) (x y : Lane) → y ≡ get_or ls i x → i < length ls → at_of f z ls i ≡ f y
  at_get [] i x y e low = absurd (omega arith)
  at_get (l ∷ ls) zero x y e low = ap f (sym e)
  at_get (l ∷ ls) (suc i) x y e low = at_get ls i x y e (omega arith)

  pub at_here : (ls : List Lane) (i : ℕ) (l : Lane) → i < length ls → at_of f z (slice_set ls i l) i ≡ f l
  at_here [] i l low = absurd (omega arith)
  at_here (x ∷ ls) zero l low = refl
  at_here (x ∷ ls) (suc i) l low = at_here ls i l (omega arith)

  pub at_there : (ls : List Lane) (i d : ℕ) (l : Lane) → d ≢ i → at_of f z (slice_set ls i l) d ≡ at_of f z ls d
  at_there [] i d l ne = refl
  at_there (x ∷ ls) zero zero l ne = absurd (ne refl)
  at_there (x ∷ ls) zero (suc d) l ne = refl
  at_there (x ∷ ls) (suc i) zero l ne = refl
  at_there (x ∷ ls) (suc i) (suc d) l ne = at_there ls i d l (λ e. ne (ap suc e))

  pub at_same : (ls : List Lane) (i d : ℕ) (x y l : Lane) → y ≡ get_or ls i x → i < length ls → f l ≡ f y → at_of f z (slice_set ls i l) d ≡ at_of f z ls d
  at_same ls i d x y l e low same = dite (ℕ_discrete d i)
      (λ is. subst (λ c. at_of f z (slice_set ls i l) c ≡ at_of f z ls c) (sym is) (at_here ls i l low ∙ same ∙ sym (at_get ls i x y e low)))
      (λ ne. at_there ls i d l ne)

  pub at_quiet : ((a b : Lane) → IsQuiet a b → f b ≡ f a) → (ls ms : List Lane) (c : ℕ) → AreQuiet ls ms → at_of f z ms c ≡ at_of f z ls c
  at_quiet same [] [] c h = refl
  at_quiet same [] (m ∷ ms) c h = absurd h
  at_quiet same (l ∷ ls) [] c h = absurd h
  at_quiet same (l ∷ ls) (m ∷ ms) zero h = same l m h.0
  at_quiet same (l ∷ ls) (m ∷ ms) (suc c) h = at_quiet same ls ms c h.1

  pub at_past : (ls : List Lane) (c : ℕ) → length ls ≤ c → at_of f z ls c ≡ z
  at_past [] c past = refl
  at_past (l ∷ ls) zero past = absurd (omega (arith, past))
  at_past (l ∷ ls) (suc c) past = at_past ls c (omega (arith, past))

-- ---- accounts between which nothing was given

pub record IsSame (g h : Account) : Type 0 where
  pub channels : h.channels ≡ g.channels
  pub lines : (d : ℕ) → h.lines d ≡ g.lines d
  pub barriers : (d : ℕ) → h.barriers d ≡ g.barriers d
  pub resumed : (d : ℕ) → h.resumed d ≡ g.resumed d

pub same_of : (ls ms : List Lane) → AreQuiet ls ms → IsSame (account_of ls) (account_of ms)
same_of ls ms h = record {
  channels = quiet_length ls ms h;
  lines = λ d. at_quiet lines_by [] (λ a b q. q.lines) ls ms d h;
  barriers = λ d. at_quiet barriers_by [] (λ a b q. q.barriers) ls ms d h;
  resumed = λ d. at_quiet resumed_by 0 (λ a b q. q.resumed) ls ms d h;
}

pub nothing_of : (g h : Account) → IsSame g h → GaveNothing g h
nothing_of g h s = record { lines = s.lines; barriers = s.barriers; resumed = s.resumed }

nothing_then : (g h k : Account) → IsSame g h → GaveNothing h k → GaveNothing g k
nothing_then g h k s r = record { lines = λ d. r.lines d ∙ s.lines d; barriers = λ d. r.barriers d ∙ s.barriers d; resumed = λ d. r.resumed d ∙ s.resumed d }

of_then : (g h k : Account) (c : ℕ) (lines : List (List ℕ)) (barriers : List (ℕ × BarrierKind)) → IsSame g h → GaveOf h k c lines barriers → GaveOf g k c lines barriers
of_then g h k c lines barriers s r = record {
  within = subst (λ n. c < n) s.channels r.within;
  was_free = ap inlines (sym (s.barriers c)) ∙ r.was_free ∙ s.resumed c;
  lines_here = r.lines_here ∙ ap (λ l. l ++ lines) (s.lines c);
  lines_elsewhere = λ d ne. r.lines_elsewhere d ne ∙ s.lines d;
  barriers_here = r.barriers_here ∙ ap (λ t. t ++ barriers) (s.barriers c);
  barriers_elsewhere = λ d ne. r.barriers_elsewhere d ne ∙ s.barriers d;
  resumed = λ d. r.resumed d ∙ s.resumed d;
}

next_then : (g h k : Account) (hold : Bool) (c n : ℕ) → IsSame g h → IsNext h k hold c n → IsNext g k hold c n
next_then g h k hold c n s r = record {
  number = r.number ∙ ap (λ b. suc (length b)) (s.barriers c);
  held = λ e. let f = r.held e in (f.0, subst (λ m. f.0 < m) s.channels f.1, subst (λ b. n ≤ length b) (s.barriers f.0) f.2);
}

ended_then : (g h k : Account) (end : GateEnd) → IsSame g h → Ended h k end → Ended g k end
ended_then g h k ends.Stopped s r = tt
ended_then g h k ends.Memory s r = tt
ended_then g h k (ends.TooLong c len) s r = (subst (λ n. c < n) s.channels r.0, r.1)
ended_then g h k (ends.Left c len) s r = (subst (λ n. c < n) s.channels r.0, r.1, r.2, r.3, r.4)

cuts_then : (g h k : Account) (shows : ℕ → Cut → Type 0) (c n : ℕ) → IsSame g h → CutsInLine h k shows c n → CutsInLine g k shows c n
cuts_then g h k shows c n s r = (r.0, subst (λ (l : List (List ℕ)). shows c (InLine n l)) (s.lines c) r.1)

pub gave_then : (g h k : Account) (shows : ℕ → Cut → Type 0) (hold : Bool) (result : Result GateItem GateEnd) → IsSame g h → Gave h k shows hold result → Gave g k shows hold result
gave_then g h k shows hold (Ok (items.Line c line)) s r = (r.0, of_then g h k c _ _ s r.1)
gave_then g h k shows hold (Ok (items.Barrier c n Inline)) s r = (next_then g h k hold c n s r.0, of_then g h k c _ _ s r.1, cuts_then g h k shows c n s r.2)
gave_then g h k shows hold (Ok (items.Barrier c n Front)) s r = (next_then g h k hold c n s r.0, of_then g h k c _ _ s r.1)
gave_then g h k shows hold (Ok items.AllEnded) s r = (nothing_then g h k s r.0, r.1)
gave_then g h k shows hold (Err end) s r = (nothing_then g h k s r.0, ended_then g h k end s r.1)

pub most_then : (g h : Account) (most : ℕ) → IsSame g h → IsMost g most → IsMost h most
most_then g h most s r = record {
  upper = λ c. subst (λ b. length b ≤ most) (sym (s.barriers c)) (r.upper c);
  reached = λ p. let f = r.reached p in (f.0, subst (λ n. f.0 < n) (sym s.channels) f.1, subst (λ b. most ≤ length b) (sym (s.barriers f.0)) f.2);
}

pub free_then : (g h : Account) (c : ℕ) → IsSame g h → IsFree g c → IsFree h c
free_then g h c s f = ap inlines (s.barriers c) ∙ f ∙ sym (s.resumed c)

pub may_then : (g h : Account) (hold : Bool) (c : ℕ) → IsSame g h → MayGive hold g c → MayGive hold h c
may_then g h hold c s f e =
    let r = f e in
    (r.0, subst (λ n. r.0 < n) (sym s.channels) r.1, subst (λ b. length b < length (h.barriers r.0)) (sym (s.barriers c)) (subst (λ b. length (g.barriers c) < length b) (sym (s.barriers r.0)) r.2))

-- ---- one channel changes

inlines_are : (size : ℕ) (y : Lane) → IsLane size y → inlines (barriers_by y) ≡ resumed_by y + weight y.blocked
inlines_are size y h = inlines_of (polled y) ∙ sym h.asked

module _ (size : ℕ) (ls : List Lane) (i : ℕ) (x y l : Lane) (e : y ≡ get_or ls i x) (low : i < length ls) (h : AreLanes size ls) where
  here : IsLane size y
  here = lane_at size ls i x y h low e

  free_here : y.blocked ≡ false → IsFree (account_of ls) i
  free_here free =
      ap inlines (at_get barriers_by [] ls i x y e low) ∙ inlines_are size y here ∙ ap (λ b. resumed_by y + weight b) free
      ∙ (let z : resumed_by y + 0 ≡ resumed_by y = omega arith in z) ∙ sym (at_get resumed_by 0 ls i x y e low)

  pub not_free : y.blocked ≡ true → IsFree (account_of ls) i → ⊥
  not_free blocked free =
      let a = ap inlines (at_get barriers_by [] ls i x y e low) ∙ inlines_are size y here ∙ ap (λ b. resumed_by y + weight b) blocked in
      let b = at_get resumed_by 0 ls i x y e low in
      omega (arith, a, b, free)

  pub blocked_here : (b : Bool) → b ≡ y.blocked → IsBlocked (account_of ls) i → b ≡ true
  blocked_here true is stopped = refl
  blocked_here false is stopped =
      let a = ap inlines (at_get barriers_by [] ls i x y e low) ∙ inlines_are size y here ∙ ap (λ b. resumed_by y + weight b) (sym is) in
      let b = at_get resumed_by 0 ls i x y e low in
      absurd (omega (arith, a, b, stopped))

  pub gave_of : (more : List (List ℕ)) (barriers : List (ℕ × BarrierKind)) → Gives y l more barriers → GaveOf (account_of ls) (account_of (slice_set ls i l)) i more barriers
  gave_of more barriers g = record {
    within = low;
    was_free = free_here g.free;
    lines_here = at_here lines_by [] ls i l low ∙ g.lines ∙ ap (λ t. t ++ more) (sym (at_get lines_by [] ls i x y e low));
    lines_elsewhere = λ d ne. at_there lines_by [] ls i d l ne;
    barriers_here = at_here barriers_by [] ls i l low ∙ g.barriers_are ∙ ap (λ t. t ++ barriers) (sym (at_get barriers_by [] ls i x y e low));
    barriers_elsewhere = λ d ne. at_there barriers_by [] ls i d l ne;
    resumed = λ d. at_same resumed_by 0 ls i d x y l e low g.resumed;
  }

  -- a barrier, which was not held back
  module _ (hold : Bool) (most : ℕ) (is_most : hold ≡ true → IsMost (account_of ls) most) where
    next_of : (k : ℕ) → k ≡ suc (length (barriers_by y)) → (hold ≡ true → y.barriers < most) → IsNext (account_of ls) (account_of (slice_set ls i l)) hold i k
    next_of k number below = record {
      number = number ∙ ap (λ b. suc (length b)) (sym (at_get barriers_by [] ls i x y e low));
      held = λ is.
          let b = below is in let count = here.count in
          let r = (is_most is).reached (omega (arith, b)) in
          (r.0, r.1, omega (arith, r.2, b, count, number));
    }

    cuts_at : (k : ℕ) → shows_by l (InLine k (lines_by y)) → shows_in (slice_set ls i l) i (InLine k ((account_of ls).lines i))
    cuts_at k shown =
        subst (λ (s : Looks). Shows [] (entries_of s.0) (InLine k ((account_of ls).lines i))) (sym (at_here (λ (lane : Lane). looks_of lane.pass) ([], []) ls i l low))
        (subst (λ (t : List (List ℕ)). shows_by l (InLine k t)) (sym (at_get lines_by [] ls i x y e low)) shown)

    pub gave_barrier : (held : Bool) (k : ℕ) (kind : BarrierKind) → GivesBarrier held y l k kind → (held ≡ false → hold ≡ true → y.barriers < most) →
        Gave (account_of ls) (account_of (slice_set ls i l)) (shows_in (slice_set ls i l)) hold (Ok (items.Barrier i k kind))
    gave_barrier held k Inline g below = (next_of k g.number (below g.not_held), gave_of _ _ g.gives, (ap first_record (at_here left_of [] ls i l low) ∙ g.whole refl, cuts_at k (g.cuts refl)))
    gave_barrier held k Front g below = (next_of k g.number (below g.not_held), gave_of _ _ g.gives)

    pub came_at : (held : Bool) (result : Result LaneStep LaneFault) → Came held y result l → (held ≡ false → hold ≡ true → y.barriers < most) → CameAt hold i ls result (slice_set ls i l)
    came_at held (Ok Nothing) g below = quiet_set ls i x y l e low g
    came_at held (Ok Found) g below = quiet_set ls i x y l e low g
    came_at held (Ok (Barrier k kind)) g below = gave_barrier held k kind g below
    came_at held (Err fault) g below = (quiet_set ls i x y l e low g.0, ended_at fault g.1)
      where
        ended_at : (fault : LaneFault) → IsFault l fault → Ended (account_of ls) (account_of (slice_set ls i l)) (end_of i fault)
        ended_at Memory f = tt
        ended_at (TooLong len) f = (low, subst (λ b. Rattle.record_spans.specs.Spans.BeginsTooLong b len) (sym (at_here left_of [] ls i l low)) f)
        ended_at (Left len) f = (low, at_here (λ (lane : Lane). lane.ended) false ls i l low ∙ f.0, ap length (at_here left_of [] ls i l low) ∙ f.1, f.2, subst HasNoRecord (sym (at_here left_of [] ls i l low)) f.3)

    -- a channel of which a barrier is held back may give none
    pub may_not : most ≤ y.barriers → hold ≡ true → MayGive hold (account_of ls) i → ⊥
    may_not above is may =
        let r = may is in
        let u = (is_most is).upper r.0 in
        let m = ap length (at_get barriers_by [] ls i x y e low) in
        let count = here.count in
        omega (arith, r.2, u, m, above, count)

  pub fault_at : (fault : LaneFault) → IsFault l fault → Ended (account_of ls) (account_of (slice_set ls i l)) (end_of i fault)
  fault_at Memory f = tt
  fault_at (TooLong len) f = (low, subst (λ b. Rattle.record_spans.specs.Spans.BeginsTooLong b len) (sym (at_here left_of [] ls i l low)) f)
  fault_at (Left len) f = (low, at_here (λ (lane : Lane). lane.ended) false ls i l low ∙ f.0, ap length (at_here left_of [] ls i l low) ∙ f.1, f.2, subst HasNoRecord (sym (at_here left_of [] ls i l low)) f.3)

  pub looked_at : (hold : Bool) (gate : Account) → Looked (looks_of y.pass) (looks_of l.pass) → HasLooked hold gate ls (slice_set ls i l) i
  looked_at hold gate k = λ free may still. subst (λ s. Looked s (looks_in (slice_set ls i l) i)) (sym (at_get (λ (lane : Lane). looks_of lane.pass) ([], []) ls i x y e low))
      (subst (λ s. Looked (looks_of y.pass) s) (sym (at_here (λ (lane : Lane). looks_of lane.pass) ([], []) ls i l low)) k)

  pub resumed_of : IsResumed y l → Resumed (account_of ls) (account_of (slice_set ls i l)) i
  resumed_of r = record {
    lines = λ d. at_same lines_by [] ls i d x y l e low r.lines;
    barriers = λ d. at_same barriers_by [] ls i d x y l e low r.barriers;
    here = at_here resumed_by 0 ls i l low ∙ r.resumed ∙ ap suc (sym (at_get resumed_by 0 ls i x y e low));
    elsewhere = λ d ne. at_there resumed_by 0 ls i d l ne;
    ended = λ d. at_same (λ (lane : Lane). lane.ended) false ls i d x y l e low r.ended;
    left = λ d. at_same left_of [] ls i d x y l e low r.left;
  }

-- ---- buffers that are out

spare_of : Lane → Option HeldBuf
spare_of lane = lane.spare

pub no_spare_set : (ls : List Lane) (i : ℕ) (l : Lane) → HaveNoSpare ls → i < length ls → l.spare ≡ None → HaveNoSpare (slice_set ls i l)
no_spare_set ls i l h low none c = dite (ℕ_discrete c i)
    (λ is. subst (λ d. at_of (λ (lane : Lane). lane.spare) None (slice_set ls i l) d ≡ None) (sym is) (at_here (λ (lane : Lane). lane.spare) None ls i l low ∙ none))
    (λ ne. at_there (λ (lane : Lane). lane.spare) None ls i c l ne ∙ h c)

pub no_spare_at : (ls : List Lane) (i : ℕ) (x y : Lane) → HaveNoSpare ls → i < length ls → y ≡ get_or ls i x → y.spare ≡ None
no_spare_at ls i x y h low e = sym (at_get (λ (lane : Lane). lane.spare) None ls i x y e low) ∙ h i

-- two looks at one place are at one lane
pub same_lane : (ls : List Lane) (i : ℕ) (x x' y y' : Lane) → y ≡ get_or ls i x → y' ≡ get_or ls i x' → i < length ls → y ≡ y'
same_lane [] i x x' y y' e e' low = absurd (omega arith)
same_lane (l ∷ ls) zero x x' y y' e e' low = e ∙ sym e'
same_lane (l ∷ ls) (suc i) x x' y y' e e' low = same_lane ls i x x' y y' e e' (omega arith)

-- a line was given, or not
module _ (size : ℕ) (ls : List Lane) (i : ℕ) (x y l : Lane) (e : y ≡ get_or ls i x) (low : i < length ls) (h : AreLanes size ls) where
  pub line_given : (r : Option (Items ℕ)) → MatchOption r (l ≡ y) (λ line. Gives y l (line.items ∷ []) [] × IsShort line.items) →
      MatchOption r (AreQuiet ls (slice_set ls i l)) (λ line. GaveOf (account_of ls) (account_of (slice_set ls i l)) i (line.items ∷ []) [] × IsShort line.items)
  line_given None m = quiet_set ls i x y l e low (subst (IsQuiet y) (sym m) (quiet_refl y))
  line_given (Some line) m = (gave_of size ls i x y l e low h (line.items ∷ []) [] m.0, m.1)

  pub line_cell : (r : Option (Items ℕ)) → MatchOption r (l ≡ y) (λ line. Gives y l (line.items ∷ []) [] × IsShort line.items) → l.cell ≡ y.cell
  line_cell None m = ap (λ (lane : Lane). lane.cell) m
  line_cell (Some line) m = m.0.cell

  pub fault_given : (r : Result Bool LaneFault) → IfErr r (λ fault. IsFault l fault) → IfErr r (λ fault. Ended (account_of ls) (account_of (slice_set ls i l)) (end_of i fault))
  fault_given (Ok b) m = tt
  fault_given (Err fault) m = fault_at size ls i x y l e low h fault m

  pub spare_given : (r : Result LaneStep LaneFault) → HaveNoSpare ls → OnOk r (l.spare ≡ None) → OnOk r (HaveNoSpare (slice_set ls i l))
  spare_given (Ok s) none m = no_spare_set ls i l none low m
  spare_given (Err fault) none m = tt

  pub came_cell : (held : Bool) (r : Result LaneStep LaneFault) → Came held y r l → l.cell ≡ y.cell
  came_cell held (Ok Nothing) m = m.cell
  came_cell held (Ok Found) m = m.cell
  came_cell held (Ok (Barrier k kind)) m = m.gives.cell
  came_cell held (Err fault) m = m.0.cell

  pub here_given : {T E : Type 0} (r : Result T E) → OnOk r (l.spare ≡ None) → OnOk r (at_of (λ (lane : Lane). lane.spare) None (slice_set ls i l) i ≡ None)
  here_given (Ok s) m = at_here (λ (lane : Lane). lane.spare) None ls i l low ∙ m
  here_given (Err fault) m = tt

  pub look_given : (hold : Bool) (most : ℕ) (is_most : hold ≡ true → IsMost (account_of ls) most) (r : Option ℕ) → MatchOption r (IsQuiet y l) (λ k. GivesBarrier false y l k Front) → (hold ≡ true → y.barriers < most) →
      LookedAt hold i ls r (slice_set ls i l)
  look_given hold most is_most None m below = quiet_set ls i x y l e low m
  look_given hold most is_most (Some k) m below = gave_barrier size ls i x y l e low h hold most is_most false k Front m (λ f. below)

  pub look_cell : (r : Option ℕ) → MatchOption r (IsQuiet y l) (λ k. GivesBarrier false y l k Front) → l.cell ≡ y.cell
  look_cell None m = m.cell
  look_cell (Some k) m = m.gives.cell

  pub look_looked : (hold : Bool) (r : Option ℕ) → IfNone r (Looked (looks_of y.pass) (looks_of l.pass)) → IfNone r (HasLooked hold (account_of ls) ls (slice_set ls i l) i)
  look_looked hold None m = looked_at size ls i x y l e low h hold (account_of ls) m
  look_looked hold (Some k) m = tt

-- ---- rounds

pub up_of : (ls ms ns : List Lane) (end : GateEnd) → AreQuiet ls ms → AreQuiet ms ns → Ended (account_of ms) (account_of ns) end → end ≢ ends.Stopped → GaveUp ls ns end
up_of ls ms ns end q r e own = record { quiet = quiet_on ls ms ns q r; ended = ended_then (account_of ls) (account_of ms) (account_of ns) end (same_of ls ms q) e; own = own }

pub up_then : (ls ms ns : List Lane) (end : GateEnd) → AreQuiet ls ms → GaveUp ms ns end → GaveUp ls ns end
up_then ls ms ns end q u = up_of ls ms ns end q u.quiet u.ended u.own

pub gave_on : (ls ms ns : List Lane) (hold : Bool) (item : GateItem) → AreQuiet ls ms → Gave (account_of ms) (account_of ns) (shows_in ns) hold (Ok item) → Gave (account_of ls) (account_of ns) (shows_in ns) hold (Ok item)
gave_on ls ms ns hold item q g = gave_then (account_of ls) (account_of ms) (account_of ns) (shows_in ns) hold (Ok item) (same_of ls ms q) g

pub most_on : (ls ms : List Lane) (most : ℕ) → AreQuiet ls ms → IsMost (account_of ls) most → IsMost (account_of ms) most
most_on ls ms most q m = most_then (account_of ls) (account_of ms) most (same_of ls ms q) m

pub looks_later : (ls ms : List Lane) → AreQuiet ls ms → (d : ℕ) → StartsWith (looks_in ms d).1 (looks_in ls d).1
looks_later [] [] h d = starts_itself []
looks_later [] (m ∷ ms) h d = absurd h
looks_later (l ∷ ls) [] h d = absurd h
looks_later (l ∷ ls) (m ∷ ms) h zero = h.0.later.1
looks_later (l ∷ ls) (m ∷ ms) h (suc d) = looks_later ls ms h.1 d

-- ---- what the passes have seen

pub quiet_later : (ls ms : List Lane) → AreQuiet ls ms → AreLater ls ms
quiet_later [] [] h d = starts_itself []
quiet_later [] (m ∷ ms) h d = absurd h
quiet_later (l ∷ ls) [] h d = absurd h
quiet_later (l ∷ ls) (m ∷ ms) h zero = h.0.later.0
quiet_later (l ∷ ls) (m ∷ ms) h (suc d) = quiet_later ls ms h.1 d

pub later_all : (ls : List Lane) → AreLater ls ls
later_all ls = quiet_later ls ls (quiet_all ls)

pub later_on : (ls ms ns : List Lane) → AreLater ls ms → AreLater ms ns → AreLater ls ns
later_on ls ms ns h k d = starts_on (looks_in ns d).0 (looks_in ms d).0 (looks_in ls d).0 (k d) (h d)

pub later_same : (ls ms : List Lane) → ((d : ℕ) → looks_in ms d ≡ looks_in ls d) → AreLater ls ms
later_same ls ms same d = subst (λ (s : Looks). StartsWith s.0 (looks_in ls d).0) (sym (same d)) (starts_itself (looks_in ls d).0)

pub later_set : (ls : List Lane) (i : ℕ) (x y l : Lane) → y ≡ get_or ls i x → i < length ls → IsLater y.pass l.pass → AreLater ls (slice_set ls i l)
later_set [] i x y l e low later d = absurd (omega arith)
later_set (z ∷ ls) zero x y l e low later zero = subst (λ (lane : Lane). StartsWith (seen l.pass) (seen lane.pass)) e later.0
later_set (z ∷ ls) zero x y l e low later (suc d) = starts_itself (looks_in ls d).0
later_set (z ∷ ls) (suc i) x y l e low later zero = starts_itself (seen z.pass)
later_set (z ∷ ls) (suc i) x y l e low later (suc d) = later_set ls i x y l e (omega arith) later d

pub came_later : (held : Bool) (y l : Lane) (r : Result LaneStep LaneFault) → Came held y r l → IsLater y.pass l.pass
came_later held y l (Ok Nothing) m = m.later
came_later held y l (Ok Found) m = m.later
came_later held y l (Ok (Barrier k kind)) m = m.gives.later
came_later held y l (Err fault) m = m.0.later

pub look_later : (y l : Lane) (r : Option ℕ) → MatchOption r (IsQuiet y l) (λ k. GivesBarrier false y l k Front) → IsLater y.pass l.pass
look_later y l None m = m.later
look_later y l (Some k) m = m.gives.later

-- What was shown is shown still.
pub kept_on : (ls ms : List Lane) → AreLater ls ms → Keeps (shows_in ls) (shows_in ms)
kept_on ls ms later c cut shown =
    let before = (looks_in ls c).0 in
    subst (λ (es : List ReceiveEntry). Shows [] es cut) (sym (ap entries_of (later c).1 ∙ entries_of-append before (later c).0)) (cuts_stay [] (entries_of before) (entries_of (later c).0) cut shown)

-- ---- looks

pub looked_wide : (before since now : Looks) → StartsWith since.1 before.1 → Looked since now → Looked before now
looked_wide before since now s k = record {
  earlier = s.0 ++ k.earlier;
  grew = k.grew ∙ ap (λ l. l ++ (k.earlier ++ now.0 ∷ [])) s.1 ∙ append_assoc before.1 s.0 (k.earlier ++ now.0 ∷ []) ∙ ap (λ l. before.1 ++ l) (sym (append_assoc s.0 k.earlier (now.0 ∷ [])));
  no_front = k.no_front;
}

module _ (hold : Bool) (ls ms ns os : List Lane) (q : AreQuiet ls ms)
    (same : (d : ℕ) → (looks_in os d ≡ looks_in ns d) × (at_of (λ lane. lane.ended) false os d ≡ at_of (λ lane. lane.ended) false ns d)) where
  pub looked_through : (d : ℕ) → HasLooked hold (account_of ms) ms ns d → HasLooked hold (account_of ls) ls os d
  looked_through d looked free may still =
      let s = same_of ls ms q in
      let k = looked (free_then (account_of ls) (account_of ms) d s free) (may_then (account_of ls) (account_of ms) hold d s may) (sym (same d).1 ∙ still) in
      subst (λ z. Looked (looks_in ls d) z) (sym (same d).0) (looked_wide (looks_in ls d) (looks_in ms d) (looks_in ns d) (looks_later ls ms q d) k)

-- one channel more was looked at
module _ (hold : Bool) (ls ms ns : List Lane) (i : ℕ) (q : AreQuiet ls ms)
    (others : (d : ℕ) → d ≢ i → (looks_in ns d ≡ looks_in ms d) × (at_of (λ lane. lane.ended) false ns d ≡ at_of (λ lane. lane.ended) false ms d)) where
  pub looked_more : ((d : ℕ) → d < i → HasLooked hold (account_of ls) ls ms d) → HasLooked hold (account_of ms) ms ns i → (d : ℕ) → d < i + 1 → HasLooked hold (account_of ls) ls ns d
  looked_more below here d low = dite (ℕ_discrete d i)
      (λ is. subst (λ d. HasLooked hold (account_of ls) ls ns d) (sym is) (looked_through hold ls ms ns ns q (λ d. (refl, refl)) i here))
      (λ ne. λ free may still. subst (λ z. Looked (looks_in ls d) z) (sym (others d ne).0) (below d (lower d i low ne) free may (sym (others d ne).1 ∙ still)))
    where
      lower : (c i : ℕ) → c < i + 1 → c ≢ i → c < i
      lower c i low ne = omega (arith, ne)

-- one channel more has no buffer out
pub spare_more : (ls ms : List Lane) (i : ℕ) → at_of (λ (lane : Lane). lane.spare) None ms i ≡ None → ((d : ℕ) → d ≢ i → at_of (λ (lane : Lane). lane.spare) None ms d ≡ at_of (λ (lane : Lane). lane.spare) None ls d) →
    HaveNoSpareBelow i ls → HaveNoSpareBelow (i + 1) ms
spare_more ls ms i here others below c low = dite (ℕ_discrete c i)
    (λ is. subst (λ d. at_of (λ (lane : Lane). lane.spare) None ms d ≡ None) (sym is) here)
    (λ ne. others c ne ∙ below c (lower c i low ne))
  where
    lower : (c i : ℕ) → c < i + 1 → c ≢ i → c < i
    lower c i low ne = omega (arith, ne)

pub spare_all : (ls : List Lane) (n : ℕ) → length ls ≤ n → HaveNoSpareBelow n ls → HaveNoSpare ls
spare_all ls n past below c = elim (order c n) [ inl low ↦ below c low | inr high ↦ at_past (λ (lane : Lane). lane.spare) None ls c (omega (arith, past, high)) ]

-- one channel more is over
abbrev pub OverBelow : ℕ → List Lane → Type 0
OverBelow n ls = (d : ℕ) → d < n → (at_of (λ (lane : Lane). lane.ended) false ls d ≡ true) × (at_of left_of [] ls d ≡ [])

pub over_more : (ls : List Lane) (i : ℕ) (x y : Lane) → y ≡ get_or ls i x → i < length ls → (y.ended ≡ true) × (left_of y ≡ []) → OverBelow i ls → OverBelow (i + 1) ls
over_more ls i x y e low over below d lt = dite (ℕ_discrete d i)
    (λ is. subst (λ d. (at_of (λ (lane : Lane). lane.ended) false ls d ≡ true) × (at_of left_of [] ls d ≡ [])) (sym is)
    (at_get (λ (lane : Lane). lane.ended) false ls i x y e low ∙ over.0, at_get left_of [] ls i x y e low ∙ over.1))
    (λ ne. below d (lower d i lt ne))
  where
    lower : (c i : ℕ) → c < i + 1 → c ≢ i → c < i
    lower c i low ne = omega (arith, ne)

-- the most barriers so far
abbrev pub MostBelow : ℕ → List Lane → ℕ → Type 0
MostBelow n ls most = (d : ℕ) → d < n → length (at_of barriers_by [] ls d) ≤ most

abbrev pub Reached : List Lane → ℕ → Type 0
Reached ls most = 0 < most → (d : ℕ) × (d < length ls) × (most ≤ length (at_of barriers_by [] ls d))

module _ (size : ℕ) (ls : List Lane) (i : ℕ) (x y : Lane) (e : y ≡ get_or ls i x) (low : i < length ls) (h : AreLanes size ls) (most : ℕ) where
  count_is : y.barriers ≡ length (at_of barriers_by [] ls i)
  count_is = (lane_at size ls i x y h low e).count ∙ ap length (sym (at_get barriers_by [] ls i x y e low))

  pub most_more : MostBelow i ls most → MostBelow (i + 1) ls (max most y.barriers)
  most_more below d lt = dite (ℕ_discrete d i)
      (λ is. subst (λ d. length (at_of barriers_by [] ls d) ≤ max most y.barriers) (sym is) (let c = count_is in omega (arith, c)))
      (λ ne. let b = below d (lower d i lt ne) in omega (arith, b))
    where
      lower : (c i : ℕ) → c < i + 1 → c ≢ i → c < i
      lower c i low ne = omega (arith, ne)

  pub reached_more : Reached ls most → Reached ls (max most y.barriers)
  reached_more reached some = elim (order most y.barriers) [
    | inl less ↦ (i, low, (let c = count_is in omega (arith, c, less)))
    | inr more ↦ (let r = reached (omega (arith, some, more)) in (r.0, r.1, (let k = r.2 in omega (arith, k, more))))
  ]

pub most_all : (ls : List Lane) (n most : ℕ) → length ls ≤ n → MostBelow n ls most → Reached ls most → IsMost (account_of ls) most
most_all ls n most past below reached = record {
  upper = λ c. elim (order c n) [ inl low ↦ below c low | inr high ↦ (let z = ap length (at_past barriers_by [] ls c (omega (arith, past, high))) in omega (arith, z)) ];
  reached = reached;
}
