-- What a task sent, told for one that may have been stopped.
use Rattle.std.proofs.Common.{◌≡◌, ℕ, ◌<◌, true≢false, inl, inr, List, [], ◌∷◌, ◌++◌, refl, sym, ap, subst, ◌∙◌, append_assoc, append-nil, arith}
use Rattle.std.proofs.lemmas.Grind.{flat_map-append}
use Rattle.flow_defs.specs.declared.job.Job.{Job}
use Rattle.flow_defs.specs.Records.{all_encoded}
use Rattle.plain_machine.specs.Emitting.{receiver_on, emit, count_after}
use Rattle.record_writer.specs.Writers.{PutSome, own_at}
use Rattle.task_output.specs.Outputs.{Output, HasBegun, brought, all_of, count_behind, filling_at, end_of}
use Rattle.task_output.specs.Laws.{SentIsBegun, FinishedIsBegun, BarrierIsLeftAside}
use Rattle.task_output.proofs.OnChannel.{Laws, brought_more, all_laid}
use Rattle.task_output.proofs.Sending.{ways_are}

-- the records of the last group are behind the others
pub all_more : (groups : List (List (List ℕ))) (group : List (List ℕ)) → all_of (groups ++ group ∷ []) ≡ all_of groups ++ group
all_more groups group = flat_map-append (λ (g : List (List ℕ)). g) groups (group ∷ []) ∙ ap (λ l. all_of groups ++ l) (append-nil group)

module _ (laws : Laws) where
  pub sent_is_begun : SentIsBegun
  sent_is_begun from job e a size out groups records was = record {
    counted = was.counted;
    each = λ c inside.
        let on = was.each c inside in
        let own = own_at out.writer c in
        let to = receiver_on job e a in
        let b = end_of job e a c in
        record {
          more = on.behind ∷ [];
          cut = on.cut;
          few = inl (omega arith);
          ended = λ over. absurd (true≢false (sym over ∙ (was.is_open.each c (subst (λ n. c < n) (sym (ways_are job e a size out.writer was.writes_for)) inside)).0));
          some = subst (λ (s : ℕ). PutSome s own (all_encoded (emit to from (all_of groups ++ (records ++ [])) b))) was.writes_for.size_is (record {
            owed = filling_at out.writer c;
            begins = all_laid laws to b from groups records own (filling_at out.writer c) on ∙ ap (λ (l : List (List ℕ)). all_encoded (emit to from (all_of groups ++ l) b)) (sym (append-nil records));
            buffers = (was.is_open.each c (subst (λ n. c < n) (sym (ways_are job e a size out.writer was.writes_for)) inside)).1;
          });
        };
  }

  pub finished_is_begun : FinishedIsBegun
  finished_is_begun from job e a size out groups records was = record {
    counted = was.counted;
    each = λ c inside.
        let on = was.each c inside in
        let to = receiver_on job e a in
        let b = end_of job e a c in
        record {
          more = all_encoded (emit to (count_behind from groups) records b) ∷ [];
          cut = on.cut;
          few = inl (omega arith);
          ended = λ over. (tt, refl);
          some = record {
            owed = [];
            begins = append-nil _ ∙ on.all.whole ∙ ap (λ (l : List (List ℕ)). all_encoded (emit to from (all_of groups ++ l) b)) (sym (append-nil records));
            buffers = on.all.buffers;
          };
        };
  }

  pub barrier_is_left_aside : BarrierIsLeftAside
  barrier_is_left_aside from job e a size out groups group was = record {
    counted = was.counted ∙ ap (count_after from) (all_more groups group) ∙ laws.count from (all_of groups) group;
    each = λ c inside.
        let on = was.each c inside in
        let begun = (sent_is_begun from job e a size out (groups ++ group ∷ []) [] was).each c inside in
        let to = receiver_on job e a in
        let b = end_of job e a c in
        record {
          more = all_encoded (emit to (count_behind from groups) group b) ∷ on.behind ∷ [];
          cut = on.cut ∙ ap (λ l. l ++ on.behind ∷ []) (brought_more laws to b from groups group) ∙ append_assoc (brought to from groups b) (all_encoded (emit to (count_behind from groups) group b) ∷ []) (on.behind ∷ []);
          few = inr (tt, omega arith);
          ended = λ over. absurd (begun.ended over).0;
          some = subst (λ (l : List (List ℕ)). PutSome size (own_at out.writer c) (all_encoded (emit to from l b)))
              (append-nil (all_of (groups ++ group ∷ [])) ∙ all_more groups group ∙ ap (λ l. all_of groups ++ l) (sym (append-nil group)))
              begun.some;
        };
  }

-- Where it may have put a further barrier or the end only so, it may have only where that leads to.
pub begun_where : (M M' E E' : Type 0) → (M → M') → (E → E') → (from : ℕ) (job : Job) (e a size : ℕ) (out : Output) (groups : List (List (List ℕ))) (records begun : List (List ℕ)) → HasBegun from job e a size out groups records begun M E → HasBegun from job e a size out groups records begun M' E'
begun_where M M' E E' marks ends from job e a size out groups records begun was = record {
  counted = was.counted;
  each = λ c inside.
      let on = was.each c inside in
      record {
        more = on.more;
        cut = on.cut;
        few = elim on.few [ inl one ↦ inl one | inr two ↦ inr (marks two.0, two.1) ];
        ended = λ over. (ends (on.ended over).0, (on.ended over).1);
        some = on.some;
      };
}
