use Rattle.std.proofs.Common.{◌≡◌, ◌≤◌, length, [], ◌∷◌, drop, sym, ap, ◌∙◌, subst, arith}
use Rattle.std.specs.Prelude.{MatchOption}
use Rattle.input_channel.specs.Contents.{content}
use Rattle.input_channel.specs.Inboxes.{due, is_barrier}
use Rattle.input_channel.specs.Lines.{Line, parcels, before_last, StartsWithData}
use Rattle.input_channel.proofs.LineLemmas.{get-cons, get-nil, nothing_stands, data_stand}
use Rattle.input_channel.proofs.queue.Queue.first_data.Goals as goal

pub returns-in_err-buf : goal.returns-in_err-buf
returns-in_err-buf c =
    let f = c.self.inside in
    let empty : f.buffers.items ≡ [] = get-nil _ (sym c.in_err-buf.ensures) in
    let low : before_last f.barriers.items ≤ length f.buffers.items = omega (arith, c.self.invariant.counted) in
    let calm = ap (λ (l : Line). is_barrier (due (parcels l))) c.self.view_is ∙ c.requires in
    subst (λ r. MatchOption r (c.args.self.now.arrived ≡ []) (λ bytes. StartsWithData c.args.self.now.arrived bytes.now)) (sym c.from_residual.ensures)
    (ap (λ (l : Line). l.arrived) (sym c.self.view_is) ∙ nothing_stands f.polled f.barriers.items f.buffers.items empty c.self.invariant.ahead low calm)

pub returns : goal.returns
returns c =
    let f = c.self.inside in
    let buf = c.in_ok-buf.buf.now in
    let split : f.buffers.items ≡ buf ∷ drop 1 f.buffers.items = get-cons _ _ (sym c.in_ok-buf.ensures) in
    let calm = ap (λ (l : Line). is_barrier (due (parcels l))) c.self.view_is ∙ c.requires in
    subst (StartsWithData c.args.self.now.arrived) (sym c.data.ensures)
    (subst (λ (l : Line). StartsWithData l.arrived (content buf)) c.self.view_is (data_stand f.polled f.barriers.items f.buffers.items (drop 1 f.buffers.items) buf split c.self.invariant.ahead calm))
