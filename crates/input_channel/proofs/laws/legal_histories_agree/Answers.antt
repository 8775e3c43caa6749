use Rattle.input_channel.proofs.EndLaws.{end_is_given_last}
use Rattle.input_channel.proofs.LegalLaws.{credit_agrees, announced_is_told, arrivals_are_numbered}
use Rattle.input_channel.proofs.SaveLaws.{saves_are_legal}
use Rattle.input_channel.proofs.laws.legal_histories_agree.Goals as goal

pub returns : goal.returns
returns c = record { credit = credit_agrees; told = announced_is_told; numbered = arrivals_are_numbered; end = end_is_given_last; saves = saves_are_legal }
