use Rattle.std.proofs.Common.{◌∙◌, ap, sym}
use Rattle.std.specs.Option.{option_map_or}
use Rattle.credit_reader.specs.Readers.{Announced}
use Rattle.credit_reader.specs.Senders.{happened}
use Rattle.credit_reader.specs.Places.{put_at}
use Rattle.credit_reader.proofs.Finding.{put_happens}
use Rattle.credit_reader.proofs.readers.Readers.announce.Goals as goal

pub returns-clause-told : goal.returns-clause-told
returns-clause-told c =
    let s = c.args.self.now in
    c.put.ensures ∙ ap (λ r. put_at c.in_ok-found.found.place r s) c.announced.ensures
    ∙ put_happens s c.in_ok-found.found.reader.channel c.in_ok-found.found c.in_ok-found.ensures.found Announced
    ∙ sym (ap (λ o. option_map_or (λ r. happened r.channel Announced s) o s) c.in_ok-found.ensures.first)
