use Rattle.std.proofs.Common.{◌≡◌, ◌∙◌, ap, subst, sym, Some}
use Rattle.std.specs.Prelude.{slice_get}
use Rattle.credit_reader.specs.Places.{Fits, seen, turned_at}
use Rattle.credit_reader.proofs.Queues.{turn_done, place_first}
use Rattle.credit_reader.proofs.readers.Readers.turn.Goals as goal

pub rotate-requires-clause-first : goal.rotate-requires-clause-first
rotate-requires-clause-first c =
    let fits : Fits (seen c.self.inside.all.items c.self.inside.able.items) c.args.place c.args.reader = subst (λ s. Fits s c.args.place c.args.reader) (sym c.self.view_is) c.requires.fits in
    place_first _ _ _ c.self.invariant c.args.place fits.within c.args.reader.channel fits.channel_is (subst (λ s. slice_get s.queue 0 ≡ Some c.args.reader.channel) (sym c.self.view_is) c.requires.first)

pub invariant_of-self : goal.invariant_of-self
invariant_of-self c =
    let fits : Fits (seen c.self.inside.all.items c.self.inside.able.items) c.args.place c.args.reader = subst (λ s. Fits s c.args.place c.args.reader) (sym c.self.view_is) c.requires.fits in
    (turn_done _ _ _ c.self.invariant c.args.place c.args.reader fits c.rotate.new.able _ c.can_send.ensures (subst (λ s. slice_get s.queue 0 ≡ Some c.args.reader.channel) (sym c.self.view_is) c.requires.first) c.rotate.ensures).0

pub returns : goal.returns
returns c =
    let fits : Fits (seen c.self.inside.all.items c.self.inside.able.items) c.args.place c.args.reader = subst (λ s. Fits s c.args.place c.args.reader) (sym c.self.view_is) c.requires.fits in
    (turn_done _ _ _ c.self.invariant c.args.place c.args.reader fits c.rotate.new.able _ c.can_send.ensures (subst (λ s. slice_get s.queue 0 ≡ Some c.args.reader.channel) (sym c.self.view_is) c.requires.first) c.rotate.ensures).1
    ∙ ap (turned_at c.args.place c.args.reader) c.self.view_is
