-- A partition of one channel.
use Rattle.std.proofs.Common.{◌≡◌, ℕ, zero, suc, ◌+◌, ◌*◌, [], ◌∷◌, Some, None, refl, sym, ap, subst, ◌∙◌, arith}
use Rattle.std.specs.Prelude.{slice_get}
use Rattle.std.proofs.lemmas.List.Elements.{All-nil, All-cons}
use Rattle.std.proofs.lemmas.Option.{same_Some}
use Rattle.turn_cell.specs.Passes.{IsPassOf, opened_with, number, mine}
use Rattle.flow_defs.specs.declared.job.Job.{Job}
use Rattle.flow_defs.specs.declared.job.Exchange.TheVariants.{Hash}
use Rattle.flow_defs.specs.Jobs.{tasks, exchange}
use Rattle.conn_parts.specs.Shares.{AreNew}
use Rattle.record_writer.specs.Writers.{SendCell, SendPass, ways, ways_on, AreOwnAt, HaveSizeAt}

module _ (cell : SendCell) (pass : SendPass) where
  pub one_own : IsPassOf cell pass → number pass ≡ 0 → AreOwnAt (cell ∷ []) 0 1 1 (pass ∷ [])
  one_own is first = record { many_are = refl; each = each }
    where
      each : (c : ℕ) (p : SendPass) → slice_get (pass ∷ []) c ≡ Some p → (x : SendCell) × (slice_get (cell ∷ []) (0 + c * 1) ≡ Some x) × IsPassOf x p × (number p ≡ 0)
      each zero p at = (cell, refl, subst (IsPassOf cell) (same_Some pass p at) is, ap (λ (x : SendPass). number x) (sym (same_Some pass p at)) ∙ first)
      each (suc c) p at = absurd (let none : None ≡ Some p = at in cc)

  pub one_new : mine pass ≡ [] → AreNew (pass ∷ [])
  one_new new = All-cons (λ (x : SendPass). mine x ≡ []) pass [] new (All-nil (λ (x : SendPass). mine x ≡ []))

  pub one_size : (opened_with cell).size ≡ 64 → HaveSizeAt (cell ∷ []) 0 1 1 64
  one_size size zero x low at = ap (λ (y : SendCell). (opened_with y).size) (sym (same_Some cell x at)) ∙ size
  one_size size (suc c) x low at = absurd (omega arith)

pub one_way : (job : Job) (e : ℕ) → exchange job e ≡ Hash → tasks job (suc e) ≡ 1 → ways_on job e ≡ 1
one_way job e hash one = ap (λ x. ways x (tasks job (suc e))) hash ∙ one
