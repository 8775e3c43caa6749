-- What was given back to the pools, step after step.
use Rattle.std.proofs.Common.{◌≡◌, ◌≢◌, inl, inr, ℕ, zero, suc, ◌+◌, Bool, true, false, cond, List, [], ◌∷◌, ◌++◌, replicate, refl, sym, ap, subst, ◌∙◌, arith, append_assoc, append-nil}
use Rattle.std.specs.Prelude.{slice_get, Some, count_by, ◌==◌, if◌then◌else◌}
use Rattle.std.proofs.lemmas.Bool.{cases_eq, eq-eqb, eqb-true}
use Rattle.std.proofs.lemmas.List.{replicate-append-replicate}
use Rattle.std.proofs.lemmas.List.Sums.{sum_by-cons, sum_by-append}
use Rattle.flow_defs.specs.declared.task.ChannelId.{ChannelId}
use Rattle.flow_defs.specs.declared.parcel.Parcel.{Parcel}
use Rattle.flow_defs.specs.Parcels.{is_data}
use Rattle.local_pool.specs.declared.entry.PoolEntry.TheVariants.{Returned}
use Rattle.local_pool.specs.Lending.{PoolPass}
use Rattle.subpartition.specs.declared.item.Item.{Item}
use Rattle.subpartition.specs.declared.item.Item.TheVariants.{Buffer, Barrier, End}
use Rattle.subpartition.specs.Queues.{parcel_of}
use Rattle.conn_parts.specs.Shares.{mine_at, seen_at, GrewAt}
use Rattle.conn_send_items.specs.Fronts.{SendPass, taken_in}
use Rattle.conn_send_items.specs.Giving.{counts_for, data_at, data_from, returned_of, GaveBack, TookOne}

abbrev one_if : Bool → ℕ
one_if b = cond b 1 0

count_data-append : (xs ys : List Parcel) → count_by is_data (xs ++ ys) ≡ count_by is_data xs + count_by is_data ys
count_data-append xs ys = sum_by-append (λ p. one_if (is_data p)) xs ys

count_data-one : (p : Parcel) (b : Bool) → is_data p ≡ b → count_by is_data (p ∷ []) ≡ one_if b
count_data-one p b is = let one = sum_by-cons (λ q. one_if (is_data q)) p [] in let same : one_if (is_data p) ≡ one_if b = ap one_if is in omega (arith, one, same)

counts_for-add : (task : ℕ) (c : ChannelId) (m n : ℕ) → counts_for task c (m + n) ≡ counts_for task c m + counts_for task c n
counts_for-add task c m n = elim (c.from == task) as (λ b. (if b then m + n else 0) ≡ (if b then m else 0) + (if b then n else 0)) [
  | true ↦ refl
  | false ↦ refl
]

counts_own : (t : ℕ) (d : ChannelId) (n : ℕ) → t ≡ d.from → counts_for t d n ≡ n
counts_own t d n is = subst (λ m. counts_for m d n ≡ n) (sym is) (ap (λ b. if b then n else 0) (eq-eqb d.from d.from refl))

counts_other : (t : ℕ) (d : ChannelId) (n : ℕ) → t ≢ d.from → counts_for t d n ≡ 0
counts_other t d n ne = (elim (d.from == t) as (λ b. (d.from == t) ≡ b → (if b then n else 0) ≡ 0) [
  | true ↦ λ is. absurd (ne (sym (eqb-true d.from t is)))
  | false ↦ λ is. refl
]) refl

-- ---- what was taken

data_same : (task : ℕ) (cs : List ChannelId) (k : ℕ) (before after : List SendPass) → ((j : ℕ) (d : ChannelId) → slice_get cs j ≡ Some d → data_at (j + k) after ≡ data_at (j + k) before) →
    data_from task cs k after ≡ data_from task cs k before
data_same task [] k before after same = refl
data_same task (c ∷ cs) k before after same =
    let first : 0 + k ≡ k = omega arith in let here : data_at k after ≡ data_at k before = subst (λ n. data_at n after ≡ data_at n before) first (same zero c refl) in
    let rest : data_from task cs (suc k) after ≡ data_from task cs (suc k) before =
    data_same task cs (suc k) before after (λ j d at. let e : suc j + k ≡ j + suc k = omega arith in subst (λ n. data_at n after ≡ data_at n before) e (same (suc j) d at)) in
    ap (λ n. counts_for task c n + data_from task cs (suc k) after) here ∙ ap (λ n. counts_for task c (data_at k before) + n) rest

data_one : (task : ℕ) (cs : List ChannelId) (k place : ℕ) (c : ChannelId) (item : Item) (before after : List SendPass) → slice_get cs place ≡ Some c → TookOne (place + k) item before after →
    data_from task cs k after ≡ data_from task cs k before + counts_for task c (count_by is_data (parcel_of item ∷ []))
data_one task [] k place c item before after at took = absurd (cc)
data_one task (d ∷ cs) k zero c item before after at took_first =
    let same : d ≡ c = cc in
    let first : 0 + k ≡ k = omega arith in let took = subst (λ n. TookOne n item before after) first took_first in
    let here : data_at k after ≡ data_at k before + count_by is_data (parcel_of item ∷ []) = ap (count_by is_data) took.here ∙ count_data-append (taken_in (seen_at k before)) (parcel_of item ∷ []) in
    let head : counts_for task d (data_at k after) ≡ counts_for task d (data_at k before) + counts_for task c (count_by is_data (parcel_of item ∷ [])) =
    ap (counts_for task d) here ∙ counts_for-add task d (data_at k before) (count_by is_data (parcel_of item ∷ [])) ∙ ap (λ e. counts_for task d (data_at k before) + counts_for task e (count_by is_data (parcel_of item ∷ []))) same in
    let rest : data_from task cs (suc k) after ≡ data_from task cs (suc k) before =
    data_same task cs (suc k) before after (λ j e there. ap (λ h. count_by is_data (taken_in h)) (took.others (j + suc k) (λ is. omega (arith, is)))) in
    omega (arith, head, rest)
data_one task (d ∷ cs) k (suc place) c item before after at took =
    let e : suc place + k ≡ place + suc k = omega arith in
    let head : data_at k after ≡ data_at k before = ap (λ h. count_by is_data (taken_in h)) (took.others k (λ is. omega (arith, is))) in
    let same : counts_for task d (data_at k after) ≡ counts_for task d (data_at k before) = ap (counts_for task d) head in
    let rest : data_from task cs (suc k) after ≡ data_from task cs (suc k) before + counts_for task c (count_by is_data (parcel_of item ∷ [])) =
    data_one task cs (suc k) place c item before after at (subst (λ n. TookOne n item before after) e took) in
    omega (arith, same, rest)

-- ---- what was given back

module _ (channels : List ChannelId) where
  -- Nothing was taken on a channel, and nothing given back.
  pub gives_quiet : (task : ℕ) (before after : List SendPass) (pools pools_after : List PoolPass) →
      ((k : ℕ) (c : ChannelId) → slice_get channels k ≡ Some c → taken_in (seen_at k after) ≡ taken_in (seen_at k before) ++ []) → pools_after ≡ pools → GaveBack channels task before after pools pools_after
  gives_quiet task before after pools pools_after took same = record {
    many = 0;
    returned = ap (mine_at task) same ∙ sym (append-nil (mine_at task pools));
    taken =
        let none = data_same task channels 0 before after (λ j d at. let e : j + 0 ≡ j = omega arith in
        subst (λ n. data_at n after ≡ data_at n before) (sym e) (ap (count_by is_data) (took j d at ∙ append-nil (taken_in (seen_at j before))))) in
        omega (arith, none);
  }

  pub gives_none : (task : ℕ) (before after : List SendPass) (pools pools_after : List PoolPass) → after ≡ before → pools_after ≡ pools → GaveBack channels task before after pools pools_after
  gives_none task before after pools pools_after same same_pools =
      gives_quiet task before after pools pools_after (λ k c at. ap (λ ps. taken_in (seen_at k ps)) same ∙ sym (append-nil (taken_in (seen_at k before)))) same_pools

  pub gives_more : (task : ℕ) (a b c : List SendPass) (p q r : List PoolPass) → GaveBack channels task a b p q → GaveBack channels task b c q r → GaveBack channels task a c p r
  gives_more task a b c p q r one two = record {
    many = one.many + two.many;
    returned = two.returned ∙ ap (λ l. l ++ replicate two.many Returned) one.returned ∙ append_assoc (mine_at task p) (replicate one.many Returned) (replicate two.many Returned)
        ∙ ap (λ l. mine_at task p ++ l) (replicate-append-replicate one.many two.many Returned);
    taken = let first = one.taken in let second = two.taken in omega (arith, first, second);
  }

  -- What a round does: what stands first is told, items are sent, and announcements made.
  pub round_gives : (task : ℕ) (a b c d : List SendPass) (p q r s : List PoolPass) →
      ((k : ℕ) (e : ChannelId) → slice_get channels k ≡ Some e → taken_in (seen_at k b) ≡ taken_in (seen_at k a) ++ []) → q ≡ p → GaveBack channels task b c q r → d ≡ c → s ≡ r → GaveBack channels task a d p s
  round_gives task a b c d p q r s took pools gives same same_pools =
      gives_more task a c d p r s (gives_more task a b c p q r (gives_quiet task a b p q took pools) gives) (gives_none task c d r s same same_pools)

  -- An item was taken, and its segment given back.
  returned_many : (item : Item) → returned_of item ≡ replicate (count_by is_data (parcel_of item ∷ [])) Returned
  returned_many (Buffer filled) = ap (λ n. replicate n Returned) (sym (count_data-one (parcel_of (Buffer filled)) true refl))
  returned_many (Barrier k kind) = ap (λ n. replicate n Returned) (sym (count_data-one (parcel_of (Barrier k kind)) false refl))
  returned_many End = ap (λ n. replicate n Returned) (sym (count_data-one (parcel_of End) false refl))

  pub gives_one : (task place : ℕ) (c : ChannelId) (item : Item) (before after : List SendPass) (pools pools_after : List PoolPass) → slice_get channels place ≡ Some c →
      TookOne place item before after → GrewAt c.from (returned_of item) pools pools_after → GaveBack channels task before after pools pools_after
  gives_one task place c item before after pools pools_after at took grew =
      let e : place + 0 ≡ place = omega arith in
      let taken = data_one task channels 0 place c item before after at (subst (λ n. TookOne n item before after) (sym e) took) in
      elim (cases_eq task c.from) [
        | inl is ↦
            let all : counts_for task c (count_by is_data (parcel_of item ∷ [])) ≡ count_by is_data (parcel_of item ∷ []) = counts_own task c (count_by is_data (parcel_of item ∷ [])) is in
            record {
              many = count_by is_data (parcel_of item ∷ []);
              returned = ap (λ n. mine_at n pools_after) is ∙ grew.here ∙ ap (λ n. mine_at n pools ++ returned_of item) (sym is) ∙ ap (λ l. mine_at task pools ++ l) (returned_many item);
              taken = taken ∙ ap (λ n. data_from task channels 0 before + n) all;
            }
        | inr ne ↦
            let none : counts_for task c (count_by is_data (parcel_of item ∷ [])) ≡ 0 = counts_other task c (count_by is_data (parcel_of item ∷ [])) ne in
            record {
              many = 0;
              returned = grew.others task ne ∙ sym (append-nil (mine_at task pools));
              taken = taken ∙ ap (λ n. data_from task channels 0 before + n) none;
            }
      ]
