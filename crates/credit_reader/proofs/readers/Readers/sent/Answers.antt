use Rattle.std.proofs.Common.{◌≡◌, ◌∙◌, ap, sym}
use Rattle.std.proofs.lemmas.Option.{same_Some}
use Rattle.credit_reader.specs.Readers.{Sent}
use Rattle.credit_reader.specs.Senders.{has_sent}
use Rattle.credit_reader.specs.Places.{turned_at}
use Rattle.credit_reader.proofs.Finding.{turn_happens}
use Rattle.credit_reader.proofs.readers.Readers.sent.Goals as goal

pub returns-clause-sent : goal.returns-clause-sent
returns-clause-sent c =
    let s = c.args.self.now in
    let found = c.in-Some.found in
    let channel_is : found.reader.channel ≡ c.args.channel = same_Some _ _ (sym c.in-Some.ensures.first ∙ c.requires.first) in
    c.turn.ensures ∙ ap (λ r. turned_at found.place r s) c.sent.ensures
    ∙ turn_happens s found.reader.channel found c.in-Some.ensures.found (Sent c.args.what c.args.head c.args.backlog)
    ∙ ap (λ d. has_sent d c.args.what c.args.head c.args.backlog s) channel_is
