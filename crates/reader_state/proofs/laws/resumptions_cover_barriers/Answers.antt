use Rattle.reader_state.specs.Theorems.{CoversBarriers}
use Rattle.reader_state.proofs.Covering.{of_parts}
use Rattle.reader_state.proofs.laws.resumptions_cover_barriers.Goals as goal

pub returns : goal.returns
returns c = λ channels history d r e legal parts. of_parts channels history d legal CoversBarriers (λ v. v.barriers) r e parts
