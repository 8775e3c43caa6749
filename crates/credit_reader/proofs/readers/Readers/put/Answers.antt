use Rattle.std.proofs.Common.{◌≡◌, ◌∙◌, ap, subst, sym}
use Rattle.std.proofs.lemmas.List.{get_or_read}
use Rattle.credit_reader.specs.Readers.{can_send}
use Rattle.credit_reader.specs.Places.{Fits, seen, put_at, reader_at}
use Rattle.credit_reader.proofs.Queues.{nobody, put_done, room_for}
use Rattle.credit_reader.proofs.readers.Readers.put.Goals as goal

pub requeue-requires-clause-room : goal.requeue-requires-clause-room
requeue-requires-clause-room c = λ was now.
    let rs = c.self.inside.all.items in
    let fits : Fits (seen rs c.self.inside.able.items) c.args.place c.args.reader = subst (λ s. Fits s c.args.place c.args.reader) (sym c.self.view_is) c.requires in
    let read : c.index.result.now ≡ reader_at rs c.args.place = get_or_read rs c.args.place _ fits.within c.index.ensures nobody in
    room_for rs _ _ c.self.invariant c.args.place c.args.reader fits.within (ap can_send (sym read) ∙ sym c.can_send-was.ensures ∙ was) (sym c.can_send.ensures ∙ now)

pub invariant_of-self : goal.invariant_of-self
invariant_of-self c =
    let rs = c.self.inside.all.items in
    let fits : Fits (seen rs c.self.inside.able.items) c.args.place c.args.reader = subst (λ s. Fits s c.args.place c.args.reader) (sym c.self.view_is) c.requires in
    let read : c.index.result.now ≡ reader_at rs c.args.place = get_or_read rs c.args.place _ fits.within c.index.ensures nobody in
    (put_done rs _ _ c.self.invariant c.args.place c.args.reader fits c.requeue.new.able _ _ (c.can_send-was.ensures ∙ ap can_send read) c.can_send.ensures c.requeue.ensures).0

pub returns : goal.returns
returns c =
    let rs = c.self.inside.all.items in
    let fits : Fits (seen rs c.self.inside.able.items) c.args.place c.args.reader = subst (λ s. Fits s c.args.place c.args.reader) (sym c.self.view_is) c.requires in
    let read : c.index.result.now ≡ reader_at rs c.args.place = get_or_read rs c.args.place _ fits.within c.index.ensures nobody in
    (put_done rs _ _ c.self.invariant c.args.place c.args.reader fits c.requeue.new.able _ _ (c.can_send-was.ensures ∙ ap can_send read) c.can_send.ensures c.requeue.ensures).1
    ∙ ap (put_at c.args.place c.args.reader) c.self.view_is
