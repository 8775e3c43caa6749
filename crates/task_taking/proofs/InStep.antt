-- A task in step with its gate.
use Rattle.std.proofs.Common.{◌≡◌, ℕ, ◌<◌, true, false, List, [], ◌∷◌, refl, sym, subst, ◌∙◌}
use Rattle.flow_defs.specs.declared.task.BarrierKind.TheVariants.{Inline}
use Rattle.barriers.specs.Alignments.{Alignment, MayGive, alignment_next, barrier, is_last, is_open}
use Rattle.gate_account.specs.Accounts.{Account, GaveNothing, GaveOf, IsNext, IsBlocked, ResumedAll}
use Rattle.gate_account.specs.Aligning.{IsInStepWhere}
use Rattle.gate_account.specs.Aligning as aligning
use Rattle.gate_account.proofs.InStep.{nothing_is_in_step, line_is_in_step, next_is_in_turn, block_is_in_step, close_is_in_step, waiting_is_blocked, all_resumed_is_in_step}
use Rattle.task_taking.specs.Takings.{Taking, IsSame, IsInStep, AllBlocked}

-- ---- at an item

module _ (before after : Account) (t t' : Taking) (channels : after.channels ≡ before.channels) (same : IsSame t t') where
  many : before.channels ≡ t.channels → after.channels ≡ t'.channels
  many was = channels ∙ was ∙ sym same.channels

  -- nothing was given
  pub step_nothing : GaveNothing before after → t'.alignment ≡ t.alignment → IsInStep before t → IsInStep after t'
  step_nothing gave aligned was = record {
    channels = many was.channels;
    step = subst (λ (a : Alignment). aligning.IsInStep after a) (sym aligned) (nothing_is_in_step before after t.alignment was.step channels gave);
  }

  -- a line
  pub step_line : (c : ℕ) (line : List ℕ) → GaveOf before after c (line ∷ []) [] → t'.alignment ≡ t.alignment → IsInStep before t → IsInStep after t'
  step_line c line gave aligned was = record {
    channels = many was.channels;
    step = subst (λ (a : Alignment). aligning.IsInStep after a) (sym aligned) (line_is_in_step before after t.alignment c line was.step channels gave);
  }

  -- a barrier
  module _ (was : IsInStep before t) (c k : ℕ) (next : IsNext before after (is_open t.alignment) c k) (gave : GaveOf before after c [] ((k, Inline) ∷ [])) (now : t'.alignment ≡ alignment_next t.alignment (barrier c k Inline)) where
    pub step_block : is_last t.alignment (barrier c k Inline) ≡ false → IsInStep after t'
    step_block others = record {
      channels = many was.channels;
      step = subst (λ (a : Alignment). aligning.IsInStep after a) (sym now) (block_is_in_step before after t.alignment c k was.step others channels next gave);
    }

    pub all_blocked : is_last t.alignment (barrier c k Inline) ≡ true → is_open t'.alignment ≡ false → AllBlocked after t'
    all_blocked last closed = record {
      channels = many was.channels;
      step = subst (λ (a : Alignment). IsInStepWhere after a (λ d. true)) (sym now) (close_is_in_step before after t.alignment c k was.step last channels next gave);
      aligned = closed;
    }

-- a barrier that the gate gives is one that the alignment waits for
pub may_give : (before after : Account) (t : Taking) → IsInStep before t → (c k : ℕ) → c < before.channels → IsNext before after (is_open t.alignment) c k → MayGive t.alignment (barrier c k Inline)
may_give before after t was c k within next = next_is_in_turn before after t.alignment c k Inline was.step within next

-- ---- at a resumption

pub step_resumed : (before after : Account) (t t' : Taking) → after.channels ≡ before.channels → IsSame t t' → t'.alignment ≡ t.alignment → ResumedAll before after → AllBlocked before t → IsInStep after t'
step_resumed before after t t' channels same aligned resumed was = record {
  channels = channels ∙ was.channels ∙ sym same.channels;
  step = subst (λ (a : Alignment). aligning.IsInStep after a) (sym aligned) (all_resumed_is_in_step before after t.alignment was.step was.aligned channels resumed);
}

-- each channel waits behind a barrier
pub all_stopped : (gate : Account) (t : Taking) → AllBlocked gate t → (c : ℕ) → c < t.channels → IsBlocked gate c
all_stopped gate t was c inside = waiting_is_blocked gate t.alignment (λ d. true) c was.step (subst (λ n. c < n) (sym was.channels) inside) refl
