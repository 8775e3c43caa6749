use Rattle.input_channel.proofs.AnswerLaws.{accepted_is_allowed, polled_is_allowed, answer_is_given, over_credit_is_spent}
use Rattle.input_channel.proofs.laws.answers_tell.Goals as goal

pub returns : goal.returns
returns c = record { accepted = accepted_is_allowed; polled = polled_is_allowed; given = answer_is_given; spent = over_credit_is_spent }
