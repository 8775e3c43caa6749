-- What the tests need of two channels, and of a channel that is stopped.
use Rattle.std.proofs.Common.{◌≡◌, ℕ, zero, suc, Bool, true, List, [], ◌∷◌, ◌++◌, length, Some, Result, Ok, Err, refl, sym, ap, subst, ◌∙◌, arith}
use Rattle.std.specs.Prelude.{slice_get, All}
use Rattle.turn_cell.specs.History.{entries_of}
use Rattle.input_channel.specs.declared.entry.ReceiveEntry.{ReceiveEntry}
use Rattle.input_channel.specs.Legal.{may_receive}
use Rattle.input_channel.specs.States.{ChannelState, ChannelStandsFor, Allows, channel_next}
use Rattle.input_channel.specs.Theorems.{CallsAreLegal, CallsAddEntries}
use Rattle.std.proofs.lemmas.List.Elements.{All-from_recursion}
use Rattle.std.proofs.lemmas.Option.{same_Some}
use mathlib.Core.Logic.{dite}
use native.Mathlib.Decide.{ℕ_discrete}
use Rattle.turn_cell.specs.Passes.{IsPassOf, number, seen, mine}
use Rattle.conn_parts.specs.Shares.{AreOwn, AreNew}
use Rattle.flow_defs.specs.declared.task.BarrierKind.{BarrierKind}
use Rattle.flow_defs.specs.declared.task.BarrierKind.TheVariants.{Inline, Front}
use Rattle.input_gate.specs.declared.gate.GateItem.{GateItem}
use Rattle.input_gate.specs.declared.gate.GateItem.TheVariants as items
use Rattle.input_gate.specs.declared.gate.GateEnd.{GateEnd}
use Rattle.channel_cut.specs.Cuts.{Cut}
use Rattle.gate_account.specs.Accounts.{Account, GaveOf, IsBlocked, inlines}
use Rattle.gate_account.proofs.InStep.{append_inlines}
use Rattle.input_gate.specs.Gates.{Gave}
use Rattle.input_gate.specs.Turning.{InputCell, InputPass}
use Rattle.input_gate.specs.Making.{AreTwo}

each_two : (cells : List InputCell) (passes : List InputPass) → AreTwo cells passes → (k : ℕ) (cell : InputCell) (pass : InputPass) → slice_get cells k ≡ Some cell → slice_get passes k ≡ Some pass → IsPassOf cell pass
each_two (c ∷ d ∷ []) (p ∷ q ∷ []) h zero cell pass e f = subst (λ c. IsPassOf c pass) (same_Some c cell e) (subst (IsPassOf c) (same_Some p pass f) h.0.of_cell)
each_two (c ∷ d ∷ []) (p ∷ q ∷ []) h (suc zero) cell pass e f = subst (λ c. IsPassOf c pass) (same_Some d cell e) (subst (IsPassOf d) (same_Some q pass f) h.1.of_cell)
each_two (c ∷ d ∷ []) (p ∷ q ∷ []) h (suc (suc k)) cell pass e f = cc
each_two cells passes h k cell pass e f = absurd h

pub own_two : (cells : List InputCell) (passes : List InputPass) → AreTwo cells passes → AreOwn 0 cells passes × AreNew passes
own_two (c ∷ d ∷ []) (p ∷ q ∷ []) h = (
  record {
    of_cells = record { many = refl; each = each_two (c ∷ d ∷ []) (p ∷ q ∷ []) h };
    numbered = All-from_recursion (λ (pass : InputPass). number pass ≡ 0) (p ∷ q ∷ []) (h.0.first, (h.1.first, tt));
  },
  All-from_recursion (λ (pass : InputPass). mine pass ≡ []) (p ∷ q ∷ []) (h.0.no_entry, (h.1.no_entry, tt)),
)
own_two cells passes h = absurd h

pub unseen_two : (cells : List InputCell) (passes : List InputPass) → AreTwo cells passes → All (λ (pass : InputPass). seen pass ≡ []) passes
unseen_two (c ∷ d ∷ []) (p ∷ q ∷ []) h = All-from_recursion (λ (pass : InputPass). seen pass ≡ []) (p ∷ q ∷ []) (h.0.unseen, (h.1.unseen, tt))
unseen_two cells passes h = absurd h

pub length_two : (cells : List InputCell) (passes : List InputPass) → AreTwo cells passes → length cells ≡ 2
length_two (c ∷ d ∷ []) (p ∷ q ∷ []) h = refl
length_two cells passes h = absurd h

-- ---- a channel that is stopped

pub stopped_after : (g h : Account) (shows : ℕ → Cut → Type 0) (hold : Bool) (c k : ℕ) → Gave g h shows hold (Ok (items.Barrier c k Inline)) → IsBlocked h c
stopped_after g h shows hold c k gave =
    let of = gave.1 in
    let a = ap inlines of.barriers_here ∙ append_inlines (g.barriers c) ((k, Inline) ∷ []) in
    let b = of.was_free in
    let r = of.resumed c in
    omega (arith, a, b, r)

of_other : (g h : Account) (c d : ℕ) (lines : List (List ℕ)) (barriers : List (ℕ × BarrierKind)) → IsBlocked g c → GaveOf g h d lines barriers → IsBlocked h c
of_other g h c d lines barriers stopped of = dite (ℕ_discrete c d)
    (λ is. absurd (let f = ap (λ e. inlines (g.barriers e)) is ∙ of.was_free ∙ ap g.resumed (sym is) in omega (arith, f, stopped)))
    (λ ne. ap inlines (of.barriers_elsewhere c ne) ∙ stopped ∙ ap suc (sym (of.resumed c)))

pub stopped_still : (g h : Account) (shows : ℕ → Cut → Type 0) (hold : Bool) (c : ℕ) (result : Result GateItem GateEnd) → IsBlocked g c → Gave g h shows hold result → IsBlocked h c
stopped_still g h shows hold c (Ok (items.Line d line)) stopped gave = of_other g h c d _ _ stopped gave.1
stopped_still g h shows hold c (Ok (items.Barrier d k Inline)) stopped gave = of_other g h c d _ _ stopped gave.1
stopped_still g h shows hold c (Ok (items.Barrier d k Front)) stopped gave = of_other g h c d _ _ stopped gave.1
stopped_still g h shows hold c (Ok items.AllEnded) stopped gave = ap inlines (gave.0.barriers c) ∙ stopped ∙ ap suc (sym (gave.0.resumed c))
stopped_still g h shows hold c (Err end) stopped gave = ap inlines (gave.0.barriers c) ∙ stopped ∙ ap suc (sym (gave.0.resumed c))

-- The channel after a call of the reader of frames.
pub stands_after : (legal : CallsAreLegal) (adds : CallsAddEntries) (found old new : ChannelState) (history : List (ℕ × ReceiveEntry)) (n k : ℕ) (e : ReceiveEntry) →
    ChannelStandsFor found history → old ≡ found → n ≡ k → may_receive k e ≡ true → Allows old (entries_of history) e → new ≡ channel_next old e → ChannelStandsFor new (history ++ (n, e) ∷ [])
stands_after legal adds found old new history n k e stands is number_is may allows made =
    let s = subst (λ c. ChannelStandsFor c history) (sym is) stands in
    subst (λ m. ChannelStandsFor new (history ++ (m, e) ∷ [])) (sym number_is)
    (subst (λ c. ChannelStandsFor c (history ++ (k, e) ∷ [])) (sym made) (adds old history k e s (may, legal old history e s allows)))

pub stopped_by : (g h : Account) (shows : ℕ → Cut → Type 0) (hold : Bool) (item : GateItem) (c k : ℕ) (kind : BarrierKind) → item ≡ items.Barrier c k kind → kind ≡ Inline → Gave g h shows hold (Ok item) → IsBlocked h c
stopped_by g h shows hold item c k kind is inline gave =
    stopped_after g h shows hold c k (subst (λ kind. Gave g h shows hold (Ok (items.Barrier c k kind))) inline (subst (λ item. Gave g h shows hold (Ok item)) is gave))
