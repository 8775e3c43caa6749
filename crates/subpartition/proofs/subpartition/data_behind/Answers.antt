use Rattle.std.proofs.Common.{◌≡◌, ◌+◌, ◌++◌, ◌∷◌, [], suc, drop, sym, ap, ◌∙◌, append_assoc, arith}
use Rattle.subpartition.specs.Queues.{data_in}
use Rattle.subpartition.proofs.Fronts.{next_in}
use Rattle.subpartition.proofs.Items.{data_in-next}
use Rattle.subpartition.proofs.subpartition.data_behind.Goals as goal

pub loop-i-preserved : goal.loop-i-preserved
loop-i-preserved c =
    let items = c.args.queue.now.items in
    let bytes = c.loop-i.bytes.items in
    let item = c.in-Some.item.now in
    let next : c.loop-i.i + 1 ≡ suc c.loop-i.i = omega arith in
    let rest = data_in (drop (suc c.loop-i.i) items) in
    record {
      copied =
          ap (λ n. c.extend.new.self.items ++ data_in (drop n items)) next ∙ ap (λ z. z ++ rest) (c.in_ok-extend.ensures.ok ∙ ap (λ z. bytes ++ z) c.data.ensures)
          ∙ append_assoc bytes (data_in (item ∷ [])) rest ∙ ap (λ z. bytes ++ z) (data_in-next item (drop (suc c.loop-i.i) items))
          ∙ ap (λ z. bytes ++ data_in z) (sym (next_in items c.loop-i.i item (sym c.in-Some.ensures))) ∙ c.loop-i.invariant.copied;
    }
