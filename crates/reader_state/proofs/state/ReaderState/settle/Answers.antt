use Rattle.std.proofs.Common.{◌≡◌, map, refl, ap, subst, sym, ◌∙◌}
use Rattle.reader_state.specs.Ledgers.{Ledger, settled}
use Rattle.reader_state.specs.Settling.{alone, put_at, IsEarlyKept}
use Rattle.reader_state.proofs.Ledgers.{names_settled}
use Rattle.reader_state.proofs.Placing.{channel_of, only_at, channels_set, settled_place}
use Rattle.reader_state.proofs.state.ReaderState.settle.Goals as goal
use Rattle.flow_defs.proofs.Lists.{refilled_set}

pub invariant_of-self-2 : goal.invariant_of-self-2
invariant_of-self-2 c =
    let es = c.self.inside.early.items in let s = c.self.inside.readers in let e = c.args.early in
    let kept : IsEarlyKept es e.channel c.args.kept = subst (λ (l : Ledger). IsEarlyKept l.early e.channel c.args.kept) (sym c.self.view_is) c.requires in
    let only = (only_at es e.channel c.args.kept kept).0 in
    let left = settled_place es c.args.kept.place e.channel only s c.settle.new.readers e c.in-Some.left refl c.in-Some.ensures.settled in
    ap (map channel_of) (refilled_set es c.as_mut_slice.result.now c.args.kept.place c.in-Some.left c.as_mut_slice.ensures.value)
    ∙ channels_set es c.args.kept.place e.channel only c.in-Some.left left.0
    ∙ c.self.invariant
    ∙ sym (ap (λ (l : Ledger). map (λ r. r.channel) l.sender.readers) c.in-Some.ensures.settled ∙ names_settled e.channel (alone s e))

pub returns-clause-ok : goal.returns-clause-ok
returns-clause-ok c =
    let es = c.self.inside.early.items in let s = c.self.inside.readers in let e = c.args.early in
    let kept : IsEarlyKept es e.channel c.args.kept = subst (λ (l : Ledger). IsEarlyKept l.early e.channel c.args.kept) (sym c.self.view_is) c.requires in
    let only = (only_at es e.channel c.args.kept kept).0 in
    let left = settled_place es c.args.kept.place e.channel only s c.settle.new.readers e c.in-Some.left refl c.in-Some.ensures.settled in
    ap (λ xs. record { sender = c.settle.new.readers; early = xs }) (refilled_set es c.as_mut_slice.result.now c.args.kept.place c.in-Some.left c.as_mut_slice.ensures.value)
    ∙ left.1
    ∙ ap (λ l. settled e.channel (put_at c.args.kept.place e l)) c.self.view_is
