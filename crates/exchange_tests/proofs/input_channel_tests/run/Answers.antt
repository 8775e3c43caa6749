use Rattle.std.proofs.Common.{◌∙◌}
use Rattle.exchange_tests.proofs.input_channel_tests.run.Goals as goal

pub close-requires-clause-pass : goal.close-requires-clause-pass
close-requires-clause-pass g c =
    let claimed = c.claim-fifth.ensures.pass.1 ∙ c.claim-fourth.ensures.pass.1 ∙ c.claim-third.ensures.pass.1 ∙ c.claim-second.ensures.pass.1 ∙ c.claim-first.ensures.pass.1 in
    let given = c.give_next-5.ensures.pass.1 ∙ c.give_next-4.ensures.pass.1 ∙ c.give_next-3.ensures.pass.1 ∙ c.give_next-2.ensures.pass.1 ∙ c.give_next.ensures.pass.1 in
    (c.give_next-5.ensures.pass.0, given ∙ claimed ∙ c.in_ok-pool.ensures.pass.1, c.in_ok-pool.ensures.count)
