use Rattle.std.proofs.Common.{◌∙◌, ap}
use Rattle.credit_reader.specs.Readers.{Granted}
use Rattle.credit_reader.specs.Places.{put_at}
use Rattle.credit_reader.proofs.Finding.{put_happens}
use Rattle.credit_reader.proofs.readers.Readers.add_credit.Goals as goal

pub returns-clause-ok : goal.returns-clause-ok
returns-clause-ok c =
    c.put.ensures ∙ ap (λ r. put_at c.in-Some.found.place r c.args.self.now) c.granted.ensures
    ∙ put_happens c.args.self.now c.args.channel c.in-Some.found c.in-Some.ensures.found (Granted c.args.n)
