-- What a task sent on one channel, and how it grows.
use Rattle.std.proofs.Common.{◌≡◌, inl, inr, ℕ, true, false, true≢false, List, [], ◌∷◌, ◌++◌, refl, sym, ap, subst, ◌∙◌, append_assoc, append-nil, arith}
use Rattle.std.specs.Prelude.{⊤, map}
use Rattle.std.proofs.lemmas.List.{append_cancel_left}
use Rattle.std.proofs.lemmas.Grind.{flat_map-append}
use Rattle.flow_defs.specs.Records.{encoded, all_encoded}
use Rattle.plain_machine.specs.Emitting.{emit, count_after}
use Rattle.plain_machine.specs.Theorems.{EmittedInParts, CountedInParts}
use Rattle.checkpoint_laws.specs.Puts.{stretches}
use Rattle.checkpoint_laws.specs.Growing.{DataGrowStretch, BarrierBeginsStretch, EndAddsNothing}
use Rattle.subpartition.specs.declared.entry.SendEntry.{SendEntry}
use Rattle.subpartition.specs.declared.entry.SendEntry.TheVariants.{Put, PutInline, Finish}
use Rattle.subpartition.specs.Sending.{parcels_put, put, is_finished}
use Rattle.record_writer.specs.Writers.{PutSome, PutAll, GrewByData, GrewUpTo, GrewTowards}
use Rattle.task_output.specs.Outputs.{brought, all_of, count_behind, SentOn, BegunOn, FinishedOn}
use Rattle.task_output.proofs.Entries.{joined, bytes_more, bytes_up_to, still_open, open_at_barrier, parcels_up_to, cut_more, put_joined}

-- What the laws below say.
pub record Laws : Type 0 where
  pub parts : EmittedInParts
  pub count : CountedInParts
  pub grow : DataGrowStretch
  pub barrier : BarrierBeginsStretch
  pub over : EndAddsNothing

module _ (laws : Laws) (to : ℕ → List ℕ → ℕ) (b : ℕ) where
  -- what comes to the task of these records, the first of which is emitted from the count n on
  abbrev coming : ℕ → List (List ℕ) → List ℕ
  coming n records = all_encoded (emit to n records b)

  coming_parts : (n : ℕ) (first second : List (List ℕ)) → coming n (first ++ second) ≡ coming n first ++ coming (count_after n first) second
  coming_parts n first second = ap all_encoded (laws.parts to n first second b) ∙ flat_map-append encoded (emit to n first b) (emit to (count_after n first) second b)

  -- ---- groups

  pub brought_more : (n : ℕ) (groups : List (List (List ℕ))) (records : List (List ℕ)) → brought to n (groups ++ records ∷ []) b ≡ brought to n groups b ++ coming (count_after n (all_of groups)) records ∷ []
  brought_more n [] records = refl
  brought_more n (g ∷ groups) records =
      ap (λ l. coming n g ∷ l) (brought_more (count_after n g) groups records ∙ ap (λ m. brought to (count_after n g) groups b ++ coming m records ∷ []) (sym (laws.count n g (all_of groups))))

  brought_all : (n : ℕ) (groups : List (List (List ℕ))) → joined (brought to n groups b) ≡ coming n (all_of groups)
  brought_all n [] = refl
  brought_all n (g ∷ groups) = ap (λ l. coming n g ++ l) (brought_all (count_after n g) groups) ∙ sym (coming_parts n g (all_of groups))

  module _ (from : ℕ) (groups : List (List (List ℕ))) (records : List (List ℕ)) (own : List SendEntry) (filling : List ℕ) (on : SentOn to from groups b records own filling) where
    behind_all : put own ≡ coming from (all_of groups) ++ on.behind
    behind_all =
        put_joined own ∙ ap joined on.cut ∙ flat_map-append (λ (x : List ℕ). x) (brought to from groups b) (on.behind ∷ [])
        ∙ ap (λ l. l ++ joined (on.behind ∷ [])) (brought_all from groups) ∙ ap (λ l. coming from (all_of groups) ++ l) (append-nil on.behind)

    -- all that was laid down
    pub all_laid : put own ++ filling ≡ coming from (all_of groups ++ records)
    all_laid =
        ap (λ l. l ++ filling) behind_all ∙ append_assoc (coming from (all_of groups)) on.behind filling ∙ ap (λ l. coming from (all_of groups) ++ l) on.laid
        ∙ sym (coming_parts from (all_of groups) records)

    -- with these records more
    pub laid_more : (more : List (List ℕ)) → (put own ++ filling) ++ coming (count_after (count_behind from groups) records) more ≡ coming from (all_of groups ++ (records ++ more))
    laid_more more =
        ap (λ l. l ++ coming (count_after (count_behind from groups) records) more) all_laid
        ∙ ap (λ n. coming from (all_of groups ++ records) ++ coming n more) (sym (laws.count from (all_of groups) records))
        ∙ sym (coming_parts from (all_of groups ++ records) more)
        ∙ ap (coming from) (append_assoc (all_of groups) records more)

    module _ (own' : List SendEntry) where
      cut_then : (buffers : List (List ℕ)) → own' ≡ own ++ map Put buffers → stretches (parcels_put own') ≡ brought to from groups b ++ (on.behind ++ joined buffers) ∷ []
      cut_then buffers is = ap (λ es. stretches (parcels_put es)) is ∙ cut_more laws.grow own buffers (brought to from groups b) on.behind on.cut

      -- these records were laid down too
      pub sent_then : (more : List (List ℕ)) (filling' : List ℕ) → GrewByData own own' → put own' ++ filling' ≡ (put own ++ filling) ++ coming (count_after (count_behind from groups) records) more →
          SentOn to from groups b (records ++ more) own' filling'
      sent_then more filling' (buffers, is) laid = record {
        behind = on.behind ++ joined buffers;
        cut = cut_then buffers is;
        laid =
            let count = count_after (count_behind from groups) records in
            let apart : joined buffers ++ filling' ≡ filling ++ coming count more =
            append_cancel_left (put own) (joined buffers ++ filling') (filling ++ coming count more)
            (sym (append_assoc (put own) (joined buffers) filling') ∙ ap (λ l. l ++ filling') (sym (ap put is ∙ bytes_more own buffers)) ∙ laid ∙ append_assoc (put own) filling (coming count more)) in
            append_assoc on.behind (joined buffers) filling' ∙ ap (λ l. on.behind ++ l) apart ∙ sym (append_assoc on.behind filling (coming count more)) ∙ ap (λ l. l ++ coming count more) on.laid
            ∙ sym (coming_parts (count_behind from groups) records more);
      }

      module _ (size : ℕ) (more : List (List ℕ)) (some : PutSome size own' ((put own ++ filling) ++ coming (count_after (count_behind from groups) records) more)) where
        some_of : PutSome size own' (coming from (all_of groups ++ (records ++ more)))
        some_of = subst (PutSome size own') (laid_more more) some

        -- it was stopped among these records, where only this may end the channel
        begun_single : (may_mark may_end : Type 0) (buffers : List (List ℕ)) → own' ≡ own ++ map Put buffers → (is_finished own' ≡ true → may_end) → BegunOn to from groups b size (records ++ more) may_mark may_end own'
        begun_single may_mark may_end buffers is ended = record { more = (on.behind ++ joined buffers) ∷ []; cut = cut_then buffers is; few = inl (omega arith); ended = λ over. (ended over, refl); some = some_of }

        pub begun_then : (may_mark : Type 0) → is_finished own ≡ false → GrewByData own own' → BegunOn to from groups b size (records ++ more) may_mark ⊥ own'
        begun_then may_mark is_open (buffers, is) = begun_single may_mark ⊥ buffers is (λ over. true≢false (sym over ∙ ap is_finished is ∙ still_open own buffers is_open))

        up_to : (last : SendEntry) (buffers : List (List ℕ)) → own' ≡ own ++ map Put buffers ++ last ∷ [] → parcels_put own' ≡ parcels_put (own ++ map Put buffers) ++ parcels_put (last ∷ [])
        up_to last buffers is = ap parcels_put is ∙ parcels_up_to own buffers last

        -- or at a barrier behind them
        pub begun_barrier : (k : ℕ) → is_finished own ≡ false → GrewTowards (PutInline k) own own' → BegunOn to from groups b size (records ++ more) ⊤ ⊥ own'
        begun_barrier k is_open (inl grew) = begun_then ⊤ is_open grew
        begun_barrier k is_open (inr (buffers, is)) = record {
          more = (on.behind ++ joined buffers) ∷ [] ∷ [];
          cut = ap stretches (up_to (PutInline k) buffers is) ∙ laws.barrier (parcels_put (own ++ map Put buffers)) k _ ∙ ap (λ l. l ++ [] ∷ []) (cut_more laws.grow own buffers (brought to from groups b) on.behind on.cut)
              ∙ append_assoc (brought to from groups b) ((on.behind ++ joined buffers) ∷ []) ([] ∷ []);
          few = inr (tt, omega arith);
          ended = λ over. absurd (true≢false (sym over ∙ ap is_finished is ∙ open_at_barrier own buffers k is_open));
          some = some_of;
        }

        -- or at the end
        pub begun_end : GrewTowards Finish own own' → BegunOn to from groups b size (records ++ more) ⊥ ⊤ own'
        begun_end (inl grew) = begun_single ⊥ ⊤ grew.0 grew.1 (λ over. tt)
        begun_end (inr (buffers, is)) = record {
          more = (on.behind ++ joined buffers) ∷ [];
          cut = ap stretches (up_to Finish buffers is) ∙ laws.over (parcels_put (own ++ map Put buffers)) ∙ cut_more laws.grow own buffers (brought to from groups b) on.behind on.cut;
          few = inl (omega arith);
          ended = λ over. (tt, refl);
          some = some_of;
        }

      -- all that was laid down was put behind what had been put
      filled : (last : SendEntry) (buffers : List (List ℕ)) → put (last ∷ []) ≡ [] → own' ≡ own ++ map Put buffers ++ last ∷ [] → put own' ≡ put own ++ filling → on.behind ++ joined buffers ≡ coming (count_behind from groups) records
      filled last buffers none is whole =
          ap (λ l. on.behind ++ l) (append_cancel_left (put own) (joined buffers) filling (sym (ap put is ∙ bytes_up_to own buffers last none) ∙ whole)) ∙ on.laid

      -- it was put, and then a barrier
      pub marked_then : (k : ℕ) (filling' : List ℕ) → GrewUpTo (PutInline k) own own' → put own' ≡ put own ++ filling → put own' ++ filling' ≡ put own' → SentOn to from (groups ++ records ∷ []) b [] own' filling'
      marked_then k filling' (buffers, is) whole none_filled = record {
        behind = [];
        cut = ap stretches (ap parcels_put is ∙ parcels_up_to own buffers (PutInline k)) ∙ laws.barrier (parcels_put (own ++ map Put buffers)) k _
            ∙ ap (λ l. l ++ [] ∷ []) (cut_more laws.grow own buffers (brought to from groups b) on.behind on.cut ∙ ap (λ l. brought to from groups b ++ l ∷ []) (filled (PutInline k) buffers refl is whole) ∙ sym (brought_more from groups records));
        laid = append_cancel_left (put own') filling' [] (none_filled ∙ sym (append-nil (put own')));
      }

      -- it was put, and then the end
      pub finished_then : (size : ℕ) → GrewUpTo Finish own own' → PutAll size own' (put own ++ filling) → FinishedOn to from groups b size records own'
      finished_then size (buffers, is) all = record {
        cut = ap stretches (ap parcels_put is ∙ parcels_up_to own buffers Finish) ∙ laws.over (parcels_put (own ++ map Put buffers)) ∙ cut_more laws.grow own buffers (brought to from groups b) on.behind on.cut
            ∙ ap (λ l. brought to from groups b ++ l ∷ []) (filled Finish buffers refl is all.whole);
        all = subst (PutAll size own') all_laid all;
      }

-- before the first record nothing is put
pub sent_nothing : (to : ℕ → List ℕ → ℕ) (from b : ℕ) (own : List SendEntry) (filling : List ℕ) → own ≡ [] → put own ++ filling ≡ [] → SentOn to from [] b [] own filling
sent_nothing to from b own filling none laid = record {
  behind = [];
  cut = ap (λ es. stretches (parcels_put es)) none;
  laid = ap (λ es. put es ++ filling) (sym none) ∙ laid;
}
