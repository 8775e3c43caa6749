use Rattle.std.proofs.Common.{◌≡◌, ◌+◌, ◌≤◌, true, false, min, arith, inl, refl, ap, sym, ◌∙◌}
use Rattle.reader_state.specs.declared.state.Early.{Early}
use Rattle.reader_state.specs.declared.entry.ReaderEntry.TheVariants.{Granted}
use Rattle.reader_state.specs.Ledgers.{KEPT_MAX, settled, is_requested, MayEnter}
use Rattle.reader_state.specs.Settling.{put_at, IsAsked}
use Rattle.reader_state.proofs.Calling.{goes_on, on_ok, took}
use Rattle.reader_state.proofs.state.ReaderState.grant.Goals as goal

pub returns : goal.returns
returns c =
    let old = c.args.self.now in let channel = c.args.channel in let kept = c.in-Some.kept in
    let e : Early = record kept.early { credit = c.saturating_add-credit.result } in
    let sum : e.credit ≡ min (kept.early.credit + c.args.credit) KEPT_MAX = c.saturating_add-credit.ensures ∙ ap (λ n. min (kept.early.credit + n) KEPT_MAX) c.from.ensures in
    let e_is : e ≡ record kept.early { credit = min (kept.early.credit + c.args.credit) KEPT_MAX } = ap (λ n. record kept.early { credit = n }) sum in
    let here : e.channel ≡ channel = c.in-Some.ensures.found.channel_is in
    let some : 1 ≤ e.credit = omega (arith, sum) in
    took (Granted channel c.args.credit) old c.settle.new.self (settled e.channel (put_at kept.place e old)) c.settle.result (is_requested e.channel old ≡ false) c.settle.ensures.ok
    (goes_on channel kept (λ x. record x { credit = min (x.credit + c.args.credit) KEPT_MAX }) (λ x. refl) old c.in-Some.ensures.found e e_is)
    (on_ok c.settle.result (IsAsked old.sender e) (MayEnter old (Granted channel c.args.credit)) (λ asked. (ap (λ d. is_requested d old) (sym here) ∙ asked (inl some), c.requires.0, c.requires.1)) c.settle.ensures.asked)
    c.settle.ensures.err (λ no. ap (λ d. is_requested d old) (sym here) ∙ no) c.settle.ensures.fault
