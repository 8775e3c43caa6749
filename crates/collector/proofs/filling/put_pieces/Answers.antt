use Rattle.std.proofs.Common.{◌≡◌, List, [], ◌∷◌, ◌++◌, ap, ◌∙◌, subst, append_assoc}
use Rattle.std.specs.List.{AllByRecursion}
use Rattle.flow_defs.specs.declared.image.Saved.{Saved}
use Rattle.collector.specs.Filling.{IsOfJob, IsPut}
use Rattle.collector.proofs.ListLemmas.{all_middle}
use Rattle.collector.proofs.SlotLemmas.{put_one}
use Rattle.collector.proofs.filling.put_pieces.Goals as goal

pub place_of-place-requires-clause-channel : goal.place_of-place-requires-clause-channel
place_of-place-requires-clause-channel c =
    let job = c.args.job.now in
    let left = c.pop.new.self.items in
    let saved = c.in-Some.saved in
    let done = c.pieces.invariant.done in
    let whole : c.args.pieces.items ≡ (left ++ saved ∷ []) ++ done = c.pieces.invariant.whole ∙ ap (λ (l : List Saved). l ++ done) c.in-Some.ensures.items in
    all_middle (IsOfJob job) left saved done (subst (AllByRecursion (IsOfJob job)) whole c.requires.channels)

pub pieces-preserved : goal.pieces-preserved
pieces-preserved c =
    let job = c.args.job.now in
    let left = c.pop.new.self.items in
    let saved = c.in-Some.saved in
    let done = c.pieces.invariant.done in
    let whole : c.args.pieces.items ≡ (left ++ saved ∷ []) ++ done = c.pieces.invariant.whole ∙ ap (λ (l : List Saved). l ++ done) c.in-Some.ensures.items in
    record {
      done = saved ∷ done;
      whole = whole ∙ append_assoc left (saved ∷ []) done;
      put = put_one job c.places_are_in_order.ensures.channels saved done c.args.list.now.items c.pieces.list.items c.put_from.new.list.items c.requires.job
          (all_middle (IsOfJob job) left saved done (subst (AllByRecursion (IsOfJob job)) whole c.requires.channels)) c.requires.many c.pieces.invariant.put
          (subst (λ k. IsPut 0 k saved.bytes c.pieces.list.items c.put_from.new.list.items) c.place_of-place.ensures.is c.put_from.ensures);
    }
