use Rattle.std.proofs.Common.{◌∙◌, ap}
use Rattle.credit_reader.specs.Readers.{Ready}
use Rattle.credit_reader.specs.Places.{put_at}
use Rattle.credit_reader.proofs.Finding.{put_happens}
use Rattle.credit_reader.proofs.readers.Readers.ready.Goals as goal

pub returns-in-Some : goal.returns-in-Some
returns-in-Some c =
    c.put.ensures ∙ ap (λ r. put_at c.in-Some.found.place r c.args.self.now) c.ready.ensures
    ∙ put_happens c.args.self.now c.args.channel c.in-Some.found c.in-Some.ensures.found (Ready c.args.head c.args.backlog)
