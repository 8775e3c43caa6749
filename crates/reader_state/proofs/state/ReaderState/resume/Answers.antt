use Rattle.std.proofs.Common.{◌≡◌, ◌+◌, ◌≤◌, true, false, min, arith, inr, refl, ap, sym, ◌∙◌}
use Rattle.reader_state.specs.declared.state.Early.{Early}
use Rattle.reader_state.specs.declared.entry.ReaderEntry.TheVariants.{Resumed}
use Rattle.reader_state.specs.Ledgers.{KEPT_MAX, settled, is_requested, MayEnter}
use Rattle.reader_state.specs.Settling.{put_at, IsAsked}
use Rattle.reader_state.proofs.Calling.{goes_on, on_ok, took}
use Rattle.reader_state.proofs.state.ReaderState.resume.Goals as goal

pub returns : goal.returns
returns c =
    let old = c.args.self.now in let channel = c.args.channel in let kept = c.in-Some.kept in
    let e : Early = record kept.early { resumptions = c.saturating_add-resumptions.result } in
    let sum : e.resumptions ≡ min (kept.early.resumptions + 1) KEPT_MAX = c.saturating_add-resumptions.ensures in
    let e_is : e ≡ record kept.early { resumptions = min (kept.early.resumptions + 1) KEPT_MAX } = ap (λ n. record kept.early { resumptions = n }) sum in
    let here : e.channel ≡ channel = c.in-Some.ensures.found.channel_is in
    let some : 1 ≤ e.resumptions = omega (arith, sum) in
    took (Resumed channel) old c.settle.new.self (settled e.channel (put_at kept.place e old)) c.settle.result (is_requested e.channel old ≡ false) c.settle.ensures.ok
    (goes_on channel kept (λ x. record x { resumptions = min (x.resumptions + 1) KEPT_MAX }) (λ x. refl) old c.in-Some.ensures.found e e_is)
    (on_ok c.settle.result (IsAsked old.sender e) (MayEnter old (Resumed channel)) (λ asked. ap (λ d. is_requested d old) (sym here) ∙ asked (inr some)) c.settle.ensures.asked)
    c.settle.ensures.err (λ no. ap (λ d. is_requested d old) (sym here) ∙ no) c.settle.ensures.fault
