use Rattle.reader_state.specs.Theorems.{CoversData}
use Rattle.reader_state.proofs.Covering.{of_parts}
use Rattle.reader_state.proofs.laws.credit_covers_data.Goals as goal

pub returns : goal.returns
returns c = λ channels history d r e legal parts. of_parts channels history d legal CoversData (λ v. record { covered = v.covered; exact = v.exact }) r e parts
