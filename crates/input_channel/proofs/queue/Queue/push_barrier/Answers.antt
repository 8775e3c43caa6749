use Rattle.std.proofs.Common.{◌≡◌, ◌<◌, length, length-append, [], ◌∷◌, ◌++◌, sym, ap, ◌∙◌, subst, arith}
use Rattle.flow_defs.specs.declared.parcel.Parcel.TheVariants.{Barrier}
use Rattle.input_channel.specs.declared.queue.Mark.{Mark}
use Rattle.input_channel.specs.Inboxes.{Waits}
use Rattle.input_channel.specs.Lines.{Line, merged, before_last, first_gap}
use Rattle.input_channel.proofs.LineLemmas.{merged_barrier, before_last-more, first_gap-more, same_line}
use Rattle.input_channel.proofs.queue.Queue.push_barrier.Goals as goal

pub invariant_of-self-2 : goal.invariant_of-self-2
invariant_of-self-2 c =
    let f = c.self.inside in
    let is = c.self.invariant in
    let m : Mark = record { k = c.args.k; kind = c.args.kind; gap = f.behind } in
    let more : c.push_back.new.self.items ≡ f.barriers.items ++ m ∷ [] = c.in_ok-push_back.ensures.items in
    let before = ap before_last more ∙ before_last-more f.barriers.items m in
    let long = ap length more ∙ length-append f.barriers.items (m ∷ []) in
    record {
      counted = omega (arith, before, is.counted);
      few_polled = omega (arith, long, is.few_polled);
      ahead = λ some. subst (λ ms. 0 < first_gap ms) (sym more) (first_gap-more f.barriers.items m (is.ahead some));
      within = is.within;
      few = is.few;
      floating = is.floating;
    }

pub returns-clause-ok : goal.returns-clause-ok
returns-clause-ok c =
    let f = c.self.inside in
    let m : Mark = record { k = c.args.k; kind = c.args.kind; gap = f.behind } in
    let more : c.push_back.new.self.items ≡ f.barriers.items ++ m ∷ [] = c.in_ok-push_back.ensures.items in
    same_line _ _ _ _ _ _
    (ap (λ ms. merged f.polled ms f.buffers.items) more ∙ merged_barrier f.polled f.barriers.items m f.buffers.items c.self.invariant.few_polled c.self.invariant.counted
    ∙ ap (λ (l : Line). l.arrived ++ Waits (Barrier c.args.k c.args.kind) ∷ []) c.self.view_is)
    (ap (λ (l : Line). l.buffers) c.self.view_is) (ap (λ (l : Line). l.room) c.self.view_is)
