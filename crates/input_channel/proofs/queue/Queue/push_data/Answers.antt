use Rattle.std.proofs.Common.{◌≡◌, ◌<◌, ◌≤◌, length, List, [], ◌∷◌, ◌++◌, sym, ap, ◌∙◌, subst, arith}
use Rattle.flow_defs.specs.declared.parcel.Parcel.TheVariants.{Data}
use Rattle.circular_buffer.specs.Buffer.{Buffer}
use Rattle.input_channel.specs.declared.held.HeldBuf.{HeldBuf}
use Rattle.input_channel.specs.Contents.{content}
use Rattle.input_channel.specs.Inboxes.{Waits}
use Rattle.input_channel.specs.Lines.{Line, merged, before_last}
use Rattle.input_channel.proofs.LineLemmas.{merged_data, keep_last-fits, same_line}
use Rattle.input_channel.proofs.queue.Queue.push_data.Goals as goal

pub returns : goal.returns
returns c =
    let f = c.self.inside in
    let bufs = f.buffers.items in
    let same : f.buffers.items ≡ c.args.self.now.buffers = ap (λ (l : Line). l.buffers) c.self.view_is in
    let room : f.buffers.capacity ≡ c.args.self.now.room = ap (λ (l : Line). l.room) c.self.view_is in
    let fits : length bufs < f.buffers.capacity = subst (λ n. length bufs < n) (sym room) (subst (λ (bs : List HeldBuf). length bs < c.args.self.now.room) (sym same) c.requires) in
    let held : c.push_back.new.self.items ≡ bufs ++ c.args.buf ∷ [] = ap (λ (b : Buffer HeldBuf). b.items) c.push_back.ensures.items ∙ keep_last-fits f.buffers.capacity bufs c.args.buf fits in
    let few : before_last f.barriers.items ≤ length bufs = omega (arith, c.self.invariant.counted) in
    same_line _ _ _ _ _ _
    (ap (λ bs. merged f.polled f.barriers.items bs) held ∙ merged_data f.polled f.barriers.items bufs c.args.buf few ∙ ap (λ (l : Line). l.arrived ++ Waits (Data (content c.args.buf)) ∷ []) c.self.view_is)
    (held ∙ ap (λ bs. bs ++ c.args.buf ∷ []) same)
    (ap (λ (b : Buffer HeldBuf). b.capacity) c.push_back.ensures.items ∙ room)
