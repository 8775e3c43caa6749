-- The partitions of the tests: two cells, and the passes of both or of the second one.
use Rattle.std.proofs.Common.{◌≡◌, ℕ, zero, suc, ◌+◌, ◌*◌, ◌≤◌, List, [], ◌∷◌, refl, sym, ap, subst, ◌∙◌, arith}
use Rattle.std.specs.Prelude.{slice_get, Some, None}
use Rattle.std.proofs.lemmas.List.Elements.{All-nil, All-cons}
use Rattle.std.proofs.lemmas.Option.{same_Some}
use Rattle.turn_cell.specs.Passes.{IsPassOf, opened_with, number, mine}
use Rattle.flow_defs.specs.declared.job.Job.{Job}
use Rattle.flow_defs.specs.declared.job.Exchange.{Exchange}
use Rattle.flow_defs.specs.declared.job.Exchange.TheVariants.{Hash, Rebalance, Forward}
use Rattle.flow_defs.specs.Jobs.{tasks, exchange}
use Rattle.conn_parts.specs.Shares.{AreNew}
use Rattle.record_writer.specs.Writers.{SendCell, SendPass, ways, ways_on, AreOwnAt, HaveSizeAt, Writer, IsSame}

-- It is a new pass of the task.
abbrev pub IsNewTask : SendCell → SendPass → Type 0
IsNewTask cell pass = IsPassOf cell pass × (number pass ≡ 0) × (mine pass ≡ [])

module _ (one two : SendCell) (p q : SendPass) where
  abbrev cells : List SendCell
  cells = one ∷ two ∷ []

  pub both_own : IsNewTask one p → IsNewTask two q → AreOwnAt cells 0 1 2 (p ∷ q ∷ [])
  both_own new new' = record { many_are = refl; each = each }
    where
      each : (c : ℕ) (pass : SendPass) → slice_get (p ∷ q ∷ []) c ≡ Some pass → (cell : SendCell) × (slice_get cells (0 + c * 1) ≡ Some cell) × IsPassOf cell pass × (number pass ≡ 0)
      each zero pass is = (one, refl, subst (IsPassOf one) (same_Some p pass is) new.0, ap (λ (x : SendPass). number x) (sym (same_Some p pass is)) ∙ new.1)
      each (suc zero) pass is = (two, refl, subst (IsPassOf two) (same_Some q pass is) new'.0, ap (λ (x : SendPass). number x) (sym (same_Some q pass is)) ∙ new'.1)
      each (suc (suc c)) pass is = absurd (let none : None ≡ Some pass = is in cc)

  pub second_own : IsNewTask two q → AreOwnAt cells 1 2 1 (q ∷ [])
  second_own new' = record { many_are = refl; each = each }
    where
      each : (c : ℕ) (pass : SendPass) → slice_get (q ∷ []) c ≡ Some pass → (cell : SendCell) × (slice_get cells (1 + c * 2) ≡ Some cell) × IsPassOf cell pass × (number pass ≡ 0)
      each zero pass is = (two, refl, subst (IsPassOf two) (same_Some q pass is) new'.0, ap (λ (x : SendPass). number x) (sym (same_Some q pass is)) ∙ new'.1)
      each (suc c) pass is = absurd (let none : None ≡ Some pass = is in cc)

  pub second_new : IsNewTask two q → AreNew (q ∷ [])
  second_new new' = All-cons (λ (x : SendPass). mine x ≡ []) q [] new'.2 (All-nil (λ (x : SendPass). mine x ≡ []))

  pub both_new : IsNewTask one p → IsNewTask two q → AreNew (p ∷ q ∷ [])
  both_new new new' = All-cons (λ (x : SendPass). mine x ≡ []) p (q ∷ []) new.2 (second_new new')

  module _ (size : (opened_with one).size ≡ 64) (size' : (opened_with two).size ≡ 64) where
    pub both_sizes : HaveSizeAt cells 0 1 2 64
    both_sizes zero cell low is = ap (λ (x : SendCell). (opened_with x).size) (sym (same_Some one cell is)) ∙ size
    both_sizes (suc zero) cell low is = ap (λ (x : SendCell). (opened_with x).size) (sym (same_Some two cell is)) ∙ size'
    both_sizes (suc (suc c)) cell low is = absurd (omega arith)

    pub second_size : HaveSizeAt cells 1 2 1 64
    second_size zero cell low is = ap (λ (x : SendCell). (opened_with x).size) (sym (same_Some two cell is)) ∙ size'
    second_size (suc c) cell low is = absurd (omega arith)

-- How many channels a task has on the edges of the job of the tests.
module _ (job : Job) (by : Exchange) (edges : (exchange job 0 ≡ by) × (exchange job 1 ≡ Hash)) (two : (tasks job 0 ≡ 2) × (tasks job 1 ≡ 2) × (tasks job 2 ≡ 2)) where
  pub two_tasks : (e : ℕ) → e ≤ 1 → tasks job e ≡ 2
  two_tasks zero low = two.0
  two_tasks (suc zero) low = two.1
  two_tasks (suc (suc e)) low = absurd (omega arith)

  pub two_ways : by ≡ Rebalance → (e : ℕ) → e ≤ 1 → ways_on job e ≡ 2
  two_ways is zero low = ap (λ x. ways x (tasks job 1)) (edges.0 ∙ is) ∙ two.1
  two_ways is (suc zero) low = ap (λ x. ways x (tasks job 2)) edges.1 ∙ two.2
  two_ways is (suc (suc e)) low = absurd (omega arith)

  pub one_way : by ≡ Forward → ways_on job 0 ≡ 1
  one_way is = ap (λ x. ways x (tasks job 1)) (edges.0 ∙ is)

-- A writer stays the same over two calls.
pub same_writer : (a b c : Writer) → IsSame a b → IsSame b c → IsSame a c
same_writer a b c p q = record {
  job = q.job ∙ p.job;
  edge = q.edge ∙ p.edge;
  index = q.index ∙ p.index;
  cells = q.cells ∙ p.cells;
  first = q.first ∙ p.first;
  stride = q.stride ∙ p.stride;
  size = q.size ∙ p.size;
  pool = q.pool ∙ p.pool;
  stop = q.stop ∙ p.stop;
  stop_pass = (q.stop_pass.0 ∙ p.stop_pass.0, q.stop_pass.1 ∙ p.stop_pass.1);
}
