-- What is overdue, and what a turn with a message then answers.
use Rattle.std.proofs.Common.{◌≡◌, ℕ, ◌<◌, ◌≤◌, Bool, true, false, cond, ltb, zero, suc, List, [], ◌∷◌, ◌++◌, Option, Some, None, refl, sym, ap, subst, ◌∙◌, arith, inl, inr, ◌⊎◌}
use Rattle.std.specs.Prelude.{slice_get, Result, Ok, Err}
use Rattle.std.proofs.lemmas.Bool.{ltb-true, lt-ltb}
use Rattle.std.proofs.lemmas.Option.{none-some, same_Some}
use Rattle.flow_defs.specs.declared.task.ChannelId.{ChannelId}
use Rattle.flow_defs.specs.declared.cause.PeerFault.{PeerFault}
use Rattle.flow_defs.specs.declared.cause.PeerFault.TheVariants as peer
use Rattle.turn_cell.specs.Passes.{IsSamePass, HasEntered, seen, mine}
use Rattle.reader_state.specs.declared.state.Early.{Early}
use Rattle.reader_state.specs.declared.entry.ReaderEntry.{ReaderEntry}
use Rattle.reader_state.specs.Ledgers.{Ledger, IsOverdueCredit, IsOverdueResumption, HasNoneOverdue}
use Rattle.reader_state.specs.Settling.{overdue_of, or_else, first_overdue, answer_of}
use Rattle.reader_state.specs.Turning.{ReaderPass, ledger_after, IsOverdue, TookMessage, LookedForOverdue}

-- a fault is credit or a resumption of a channel whose end was sent
by_tests : (P : PeerFault → Type 0) (ended credit resumption : Bool) → (ended ≡ true → credit ≡ true → P peer.Credit) → (ended ≡ true → resumption ≡ true → P peer.Resume)
    → (fault : PeerFault) → cond ended (cond credit (Some peer.Credit) (cond resumption (Some peer.Resume) None)) None ≡ Some fault → P fault
by_tests P true true resumption of_credit of_resumption fault is = subst P (same_Some _ _ is) (of_credit refl refl)
by_tests P true false true of_credit of_resumption fault is = subst P (same_Some _ _ is) (of_resumption refl refl)
by_tests P true false false of_credit of_resumption fault is = absurd (none-some _ is)
by_tests P false credit resumption of_credit of_resumption fault is = absurd (none-some _ is)

first_one : (es : List Early) (fault : PeerFault) → first_overdue es ≡ Some fault → (k : ℕ) × (e : Early) × (slice_get es k ≡ Some e) × (overdue_of e ≡ Some fault)
first_one [] fault is = absurd (none-some _ is)
first_one (e ∷ es) fault is =
    elim (overdue_of e) as (λ o. overdue_of e ≡ o → or_else o (first_overdue es) ≡ Some fault → (k : ℕ) × (x : Early) × (slice_get (e ∷ es) k ≡ Some x) × (overdue_of x ≡ Some fault)) [
      | Some f ↦ λ here same. (0, e, refl, here ∙ same)
      | None ↦ λ here later. let rest = first_one es fault later in (suc rest.0, rest.1, rest.2, rest.3)
    ] refl is

-- where none is found, none is overdue
none_by : (ended credit resumption : Bool) → cond ended (cond credit (Some peer.Credit) (cond resumption (Some peer.Resume) None)) None ≡ None → ended ≡ true →
    ((credit ≡ true) ⊎ (resumption ≡ true)) → ⊥
none_by true true resumption is e one = absurd (none-some _ (sym is))
none_by true false true is e one = absurd (none-some _ (sym is))
none_by true false false is e (inl one) = absurd (cc)
none_by true false false is e (inr one) = absurd (cc)
none_by false credit resumption is e one = absurd (cc)

none_each : (es : List Early) → first_overdue es ≡ None → (k : ℕ) (x : Early) → slice_get es k ≡ Some x → overdue_of x ≡ None
none_each [] is k x at = absurd (none-some _ at)
none_each (e ∷ es) is k x at =
    elim (overdue_of e) as (λ o. overdue_of e ≡ o → or_else o (first_overdue es) ≡ None → overdue_of x ≡ None) [
      | Some f ↦ λ here found. absurd (none-some _ (sym found))
      | None ↦ λ here rest. none_at e es x here (none_each es rest) k at
    ] refl is
  where
    none_at : (e : Early) (es : List Early) (x : Early) → overdue_of e ≡ None → ((k : ℕ) (x : Early) → slice_get es k ≡ Some x → overdue_of x ≡ None) →
        (k : ℕ) → slice_get (e ∷ es) k ≡ Some x → overdue_of x ≡ None
    none_at e es x here others zero at = subst (λ y. overdue_of y ≡ None) (same_Some e x at) here
    none_at e es x here others (suc k) at = others k x at

none_overdue : (l : Ledger) → first_overdue l.early ≡ None → HasNoneOverdue l
none_overdue l is = record {
  credit = λ o. none_by o.1.ended (ltb 0 o.1.credit) (ltb 0 o.1.resumptions) (none_each l.early is o.0 o.1 o.2) o.3 (inl (lt-ltb 0 o.1.credit (omega (arith, o.4))));
  resumption = λ o. none_by o.1.ended (ltb 0 o.1.credit) (ltb 0 o.1.resumptions) (none_each l.early is o.0 o.1 o.2) o.3 (inr (lt-ltb 0 o.1.resumptions (omega (arith, o.4))));
}

-- what holds of both kinds of what is overdue, of the fault that is found
pub of_overdue : (P : PeerFault → Type 0) (l : Ledger) → (IsOverdueCredit l → P peer.Credit) → (IsOverdueResumption l → P peer.Resume) → (fault : PeerFault) → first_overdue l.early ≡ Some fault → P fault
of_overdue P l of_credit of_resumption fault is =
    let one = first_one l.early fault is in
    by_tests P one.1.ended (ltb 0 one.1.credit) (ltb 0 one.1.resumptions)
    (λ ended some. let less = ltb-true 0 one.1.credit some in of_credit (one.0, one.1, one.2, ended, omega (arith, less)))
    (λ ended some. let less = ltb-true 0 one.1.resumptions some in of_resumption (one.0, one.1, one.2, ended, omega (arith, less)))
    fault one.3

pub took_message : (channels : List ChannelId) (entry : ReaderEntry) (before now after : ReaderPass) (overdue : Option PeerFault) → IsSamePass before now → HasEntered entry now after
    → overdue ≡ first_overdue (ledger_after channels (seen after)).early → TookMessage channels entry before after (answer_of overdue)
took_message channels entry before now after None same has is = (has.2 ∙ ap (λ es. es ++ entry ∷ []) same.1, none_overdue (ledger_after channels (seen after)) (sym is))
took_message channels entry before now after (Some fault) same has is =
    let own : mine after ≡ mine before ++ entry ∷ [] = has.2 ∙ ap (λ es. es ++ entry ∷ []) same.1 in
    of_overdue (λ f. TookMessage channels entry before after (Err f)) (ledger_after channels (seen after)) (λ credit. (own, credit)) (λ resumption. (own, resumption)) fault (sym is)

pub looked : (channels : List ChannelId) (after : ReaderPass) (overdue : Option PeerFault) → overdue ≡ first_overdue (ledger_after channels (seen after)).early → LookedForOverdue channels after (answer_of overdue)
looked channels after None is = none_overdue (ledger_after channels (seen after)) (sym is)
looked channels after (Some fault) is = of_overdue (λ f. LookedForOverdue channels after (Err f)) (ledger_after channels (seen after)) (λ credit. credit) (λ resumption. resumption) fault (sym is)
