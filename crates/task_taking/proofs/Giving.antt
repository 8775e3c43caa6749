-- What a gate gave, where a task ends at a checkpoint.
use Rattle.std.proofs.Common.{◌≡◌, ℕ, suc, ◌+◌, ◌<◌, true, false, List, [], ◌∷◌, ◌++◌, length, sym, ap, subst, ◌∙◌, arith}
use Rattle.flow_defs.specs.declared.job.Job.{Job}
use Rattle.barriers.specs.Alignments.{is_open}
use Rattle.channel_cut.specs.Cuts.{Cut}
use Rattle.channel_cut.proofs.Taking.{many_with}
use Rattle.gate_account.specs.Accounts.{Account}
use Rattle.gate_account.specs.Aligning.{gave_at, weight}
use Rattle.gate_account.proofs.InStep.{none_gave}
use Rattle.gate_account.proofs.Takings.{has_unsent, barriers_at_snapshot}
use Rattle.task_taking.specs.Takings.{Taking, Gave, HasTaken, IsAtBarrier, start_of}
use Rattle.task_taking.specs.Endings.{EachTold}

module _ (job : Job) (e b : ℕ) (gate : Account) (shows : ℕ → Cut → Type 0) (t : Taking) (groups : List (List (ℕ × List ℕ))) (took : List (ℕ × List ℕ)) where
  -- at the barriers of the next checkpoint all channels wait
  pub barrier_is_given : IsAtBarrier job e b gate shows t groups took → Gave job e b gate shows groups took
  barrier_is_given at c inside =
      (true, has_unsent gate shows (start_of job e b) groups took (λ c. false) at.at.has c (subst (λ n. c < n) (sym at.takes_for.channels) inside))

  -- and of each the gate gave one barrier more
  pub barrier_is_told : IsAtBarrier job e b gate shows t groups took → EachTold gate (suc (length groups))
  barrier_is_told at c low = barriers_at_snapshot gate shows (start_of job e b) t.alignment (groups ++ took ∷ []) at.at c low ∙ many_with groups took

  -- so it is where it has resumed its channels, and has not acknowledged the checkpoint
  pub resumed_is_given : HasTaken job e b gate shows t (groups ++ took ∷ []) [] → Gave job e b gate shows groups took
  resumed_is_given has c inside =
      (true, has_unsent gate shows (start_of job e b) groups took (gave_at t.alignment) has.taking.has c (subst (λ n. c < n) (sym has.takes_for.channels) inside))

  pub resumed_is_told : HasTaken job e b gate shows t (groups ++ took ∷ []) [] → is_open t.alignment ≡ false → EachTold gate (suc (length groups))
  resumed_is_told has closed c low =
      has.taking.step.barriers c low ∙ ap (λ w. t.alignment.closed + weight w) (none_gave t.alignment c closed) ∙ (let e : t.alignment.closed + 0 ≡ t.alignment.closed = omega arith in e)
      ∙ sym has.taking.counted ∙ many_with groups took
