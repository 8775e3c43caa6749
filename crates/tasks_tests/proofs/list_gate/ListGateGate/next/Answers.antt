use Rattle.std.proofs.Common.{◌≡◌, ◌∷◌, [], ◌++◌, ◌-◌, ◌≤◌, ℕ, List, suc, refl, sym, ap, subst, ◌∙◌, arith}
use Rattle.flow_defs.specs.declared.task.BarrierKind.TheVariants.{Inline}
use Rattle.flow_defs.specs.Records.{IsShort}
use Rattle.channel_cut.specs.Cuts.{Cut}
use Rattle.gate_account.specs.Accounts.{inlines}
use Rattle.input_gate.specs.Gates.{GaveItem}
use Rattle.input_gate.specs.declared.gate.GateItem.{GateItem}
use Rattle.input_gate.specs.declared.gate.GateItem.TheVariants as items
use Rattle.task_taking.specs.Samples.{account_of, barriers_by}
use Rattle.task_taking.proofs.Samples.{line_given, barrier_given}
use Rattle.tasks_tests.proofs.list_gate.ListGateGate.next.Goals as goal

-- The gate shows any cut.
abbrev all_shown : ℕ → Cut → Type 0
all_shown c cut = Unit {0}

pub returns-in-Ok-of-clause-gave : goal.returns-in-Ok-of-clause-gave
returns-in-Ok-of-clause-gave g c =
    let s = c.args.self.now in
    let i = c.in-Some-Line.channel in
    let free = ap (λ (l : List GateItem). inlines (barriers_by l i)) (sym (c.as_slice-in-Some-Line.ensures ∙ c.in-Ok.ensures.items)) ∙ (c.if-not-is_free.ensures refl).1 in
    subst (λ (l : List GateItem). GaveItem (account_of s.given.items s.first s.second s.over) (account_of l s.first s.second s.over) all_shown c.args.hold (items.Line i c.in-Some-Line.line))
    (sym (c.push_item.ensures ∙ ap (λ (l : List GateItem). l ++ items.Line i c.in-Ok-of.copy ∷ []) c.in-Ok.ensures.items))
    (line_given s.given.items s.first s.second s.over i (c.if-not-is_free.ensures refl).0 free all_shown c.args.hold c.in-Some-Line.line c.in-Ok-of.copy (c.in-Ok-of.ensures ∙ c.as_slice-in-Some-Line-2.ensures)
    (subst IsShort c.as_slice.ensures c.if-as_slice-gt-RECORD_MAX.false))

pub returns-else-is_held-clause-gave : goal.returns-else-is_held-clause-gave
returns-else-is_held-clause-gave g c =
    let s = c.args.self.now in
    let i = c.in-Some-Barrier.channel in
    let k = c.in-Some-Barrier.k in
    let within = (c.if-not-is_free-2.ensures refl).0 in
    let free = ap (λ (l : List GateItem). inlines (barriers_by l i)) (sym (c.as_slice-in-Some-Barrier.ensures ∙ c.in-Ok.ensures.items)) ∙ (c.if-not-is_free-2.ensures refl).1 in
    let many : c.stops.result ≡ inlines (barriers_by s.given.items i) = c.stops.ensures ∙ ap (λ (l : List GateItem). inlines (barriers_by l i)) (c.as_slice-else-k-eq0.ensures ∙ c.in-Ok.ensures.items) in
    let some = c.if-k-eq0.false in
    let before = c.if-k-stops.false in
    let next : k ≡ suc (inlines (barriers_by s.given.items i)) = omega (arith, many, some, before) in
    subst (λ (l : List GateItem). GaveItem (account_of s.given.items s.first s.second s.over) (account_of l s.first s.second s.over) all_shown c.args.hold (items.Barrier i k Inline))
    (sym (c.push_item-in-Some-Barrier.ensures ∙ ap (λ (l : List GateItem). l ++ items.Barrier i k Inline ∷ []) c.in-Ok.ensures.items))
    (barrier_given s.given.items s.first s.second s.over i within free all_shown c.args.hold k tt next
    (λ held. (1 - i, omega (arith, within), subst (λ (l : List GateItem). k ≤ inlines (barriers_by l (1 - i))) (c.as_slice-in-Some-Barrier-2.ensures ∙ c.in-Ok.ensures.items) (c.if-is_held.ensures refl held))))
