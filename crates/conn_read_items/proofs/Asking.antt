-- What the pools were asked, step after step.
use Rattle.std.proofs.Common.{◌≡◌, ◌≢◌, inl, inr, ℕ, zero, suc, ◌+◌, Bool, true, false, cond, List, [], ◌∷◌, ◌++◌, refl, sym, ap, subst, ◌∙◌, arith, append_assoc, append-nil}
use Rattle.std.specs.Prelude.{slice_get, Some, count_by, ◌==◌, if◌then◌else◌}
use Rattle.std.proofs.lemmas.Bool.{cases_eq, eq-eqb, eqb-true}
use Rattle.std.proofs.lemmas.List.Sums.{sum_by-cons, sum_by-append}
use Rattle.flow_defs.specs.declared.task.ChannelId.{ChannelId}
use Rattle.input_channel.specs.declared.arrival.Arrival.{Arrival}
use Rattle.input_channel.specs.declared.fault.AcceptFault.{AcceptFault}
use Rattle.input_channel.specs.declared.fault.AcceptFault.TheVariants as faults
use Rattle.input_channel.specs.declared.entry.ReceiveEntry.{ReceiveEntry}
use Rattle.input_channel.specs.declared.entry.ReceiveEntry.TheVariants.{Added, Shut}
use Rattle.local_pool.specs.declared.entry.PoolEntry.{PoolEntry}
use Rattle.local_pool.specs.declared.entry.PoolEntry.TheVariants as pool
use Rattle.local_pool.specs.Lending.{PoolPass, is_lent, is_returned}
use Rattle.input_channel.specs.Legal.{is_added}
use Rattle.conn_parts.specs.declared.share.SharePasses.{SharePasses}
use Rattle.conn_parts.specs.Shares.{mine_at, GrewAt}
use Rattle.conn_read_items.specs.Turning.{InputPass, WasRefusedWith}
use Rattle.conn_read_items.specs.Asking.{counts_to, added_at, added_to, Asked, AskedAt, AskedFor}

-- ---- counts of entries

abbrev one_if : Bool → ℕ
one_if b = cond b 1 0

added-append : (xs ys : List ReceiveEntry) → count_by is_added (xs ++ ys) ≡ count_by is_added xs + count_by is_added ys
added-append xs ys = sum_by-append (λ e. one_if (is_added e)) xs ys

lent-append : (xs ys : List PoolEntry) → count_by is_lent (xs ++ ys) ≡ count_by is_lent xs + count_by is_lent ys
lent-append xs ys = sum_by-append (λ e. one_if (is_lent e)) xs ys

returned-append : (xs ys : List PoolEntry) → count_by is_returned (xs ++ ys) ≡ count_by is_returned xs + count_by is_returned ys
returned-append xs ys = sum_by-append (λ e. one_if (is_returned e)) xs ys

count-one : {E : Type 0} (p : E → Bool) (e : E) (b : Bool) → p e ≡ b → count_by p (e ∷ []) ≡ one_if b
count-one p e b is = let one = sum_by-cons (λ x. one_if (p x)) e [] in let same : one_if (p e) ≡ one_if b = ap one_if is in omega (arith, one, same)

-- One entry more that adds nothing.
pub none_added : (es now : List ReceiveEntry) (e : ReceiveEntry) → is_added e ≡ false → now ≡ es ++ e ∷ [] → count_by is_added now ≡ count_by is_added es
none_added es now e calm is =
    let one = count-one is_added e false calm in let more = ap (count_by is_added) is ∙ added-append es (e ∷ []) in omega (arith, one, more)

both_grew : (k : ℕ) (xs ys : List PoolEntry) (p q r : List PoolPass) → GrewAt k xs p q → GrewAt k ys q r → GrewAt k (xs ++ ys) p r
both_grew k xs ys p q r one two = record {
  here = two.here ∙ ap (λ l. l ++ ys) one.here ∙ append_assoc (mine_at k p) xs ys;
  others = λ j ne. two.others j ne ∙ one.others j ne;
}

-- ---- what one pool was asked for a channel

pub asked_none : (to : ℕ) (before after : List ReceiveEntry) (pools pools_after : List PoolPass) → count_by is_added after ≡ count_by is_added before → pools_after ≡ pools → Asked to before after pools pools_after
asked_none to before after pools pools_after same is = record {
  entries = [];
  made = subst (GrewAt to [] pools) (sym is) (record { here = sym (append-nil (mine_at to pools)); others = λ j ne. refl });
  added = 0;
  given = omega (arith, same);
  each = refl;
}

-- It lent one that was added.
pub asked_once : (to : ℕ) (before after : List ReceiveEntry) (pools pools_after : List PoolPass) → GrewAt to (pool.Lent ∷ []) pools pools_after → after ≡ before ++ Added ∷ [] → Asked to before after pools pools_after
asked_once to before after pools pools_after made is = record {
  entries = pool.Lent ∷ [];
  made = made;
  added = 1;
  given = ap (count_by is_added) is ∙ added-append before (Added ∷ []) ∙ ap (λ n. count_by is_added before + n) (count-one is_added Added true refl);
  each = let lent = count-one is_lent pool.Lent true refl in let returned = count-one is_returned pool.Lent false refl in omega (arith, lent, returned);
}

-- It lent one that came back.
pub asked_back : (to : ℕ) (before after : List ReceiveEntry) (p q r : List PoolPass) → GrewAt to (pool.Lent ∷ []) p q → GrewAt to (pool.Returned ∷ []) q r → after ≡ before → Asked to before after p r
asked_back to before after p q r lent returned is = record {
  entries = pool.Lent ∷ pool.Returned ∷ [];
  made = both_grew to (pool.Lent ∷ []) (pool.Returned ∷ []) p q r lent returned;
  added = 0;
  given = let same = ap (count_by is_added) is in omega (arith, same);
  each =
      let lent = lent-append (pool.Lent ∷ []) (pool.Returned ∷ []) in let returned = returned-append (pool.Lent ∷ []) (pool.Returned ∷ []) in
      let a = count-one is_lent pool.Lent true refl in let b = count-one is_lent pool.Returned false refl in
      let c = count-one is_returned pool.Lent false refl in let d = count-one is_returned pool.Returned true refl in omega (arith, lent, returned, a, b, c, d);
}

pub asked_more : (to : ℕ) (a b c : List ReceiveEntry) (p q r : List PoolPass) → Asked to a b p q → Asked to b c q r → Asked to a c p r
asked_more to a b c p q r one two = record {
  entries = one.entries ++ two.entries;
  made = both_grew to one.entries two.entries p q r one.made two.made;
  added = one.added + two.added;
  given = let first = one.given in let second = two.given in omega (arith, first, second);
  each = let lent = lent-append one.entries two.entries in let returned = returned-append one.entries two.entries in let first = one.each in let second = two.each in omega (arith, lent, returned, first, second);
}

-- An entry before that adds nothing.
pub asked_then : (to : ℕ) (a b c : List ReceiveEntry) (p q : List PoolPass) → count_by is_added b ≡ count_by is_added a → Asked to b c p q → Asked to a c p q
asked_then to a b c p q same asked = record {
  entries = asked.entries;
  made = asked.made;
  added = asked.added;
  given = let more = asked.given in omega (arith, same, more);
  each = asked.each;
}

-- An arrival that was refused adds none.
pub refused_none : (own now : List ReceiveEntry) (after : List (ℕ × ReceiveEntry)) (a : Arrival) (bytes : List ℕ) (fault : AcceptFault) → WasRefusedWith own now after a bytes fault → count_by is_added now ≡ count_by is_added own
refused_none own now after a bytes (faults.WrongSequence want got) why = ap (count_by is_added) why.0
refused_none own now after a bytes faults.AfterEnd why = ap (count_by is_added) why.0
refused_none own now after a bytes (faults.OverCredit received announced) why = none_added own now Shut refl why.entry
refused_none own now after a bytes (faults.OverSize got size) why = ap (count_by is_added) why.0
refused_none own now after a bytes (faults.WrongBarrier want got) why = ap (count_by is_added) why.0
refused_none own now after a bytes faults.Memory why = ap (count_by is_added) why

-- ---- what was added to the channels of a task

counts_to-add : (task : ℕ) (c : ChannelId) (m n : ℕ) → counts_to task c (m + n) ≡ counts_to task c m + counts_to task c n
counts_to-add task c m n = elim (c.to == task) as (λ b. (if b then m + n else 0) ≡ (if b then m else 0) + (if b then n else 0)) [
  | true ↦ refl
  | false ↦ refl
]

counts_own : (t : ℕ) (d : ChannelId) (n : ℕ) → t ≡ d.to → counts_to t d n ≡ n
counts_own t d n is = subst (λ m. counts_to m d n ≡ n) (sym is) (ap (λ b. if b then n else 0) (eq-eqb d.to d.to refl))

counts_other : (t : ℕ) (d : ChannelId) (n : ℕ) → t ≢ d.to → counts_to t d n ≡ 0
counts_other t d n ne = (elim (d.to == t) as (λ b. (d.to == t) ≡ b → (if b then n else 0) ≡ 0) [
  | true ↦ λ is. absurd (ne (sym (eqb-true d.to t is)))
  | false ↦ λ is. refl
]) refl

added_same : (task : ℕ) (cs : List ChannelId) (k : ℕ) (before after : List InputPass) → ((j : ℕ) → mine_at (j + k) after ≡ mine_at (j + k) before) → added_to task cs k after ≡ added_to task cs k before
added_same task [] k before after same = refl
added_same task (c ∷ cs) k before after same =
    let rest : added_to task cs (suc k) after ≡ added_to task cs (suc k) before =
    added_same task cs (suc k) before after (λ j. let e : suc j + k ≡ j + suc k = omega arith in subst (λ n. mine_at n after ≡ mine_at n before) e (same (suc j))) in
    let first : 0 + k ≡ k = omega arith in let here : mine_at k after ≡ mine_at k before = subst (λ n. mine_at n after ≡ mine_at n before) first (same zero) in
    ap (λ es. counts_to task c (count_by is_added es) + added_to task cs (suc k) after) here ∙ ap (λ n. counts_to task c (added_at k before) + n) rest

added_one : (task : ℕ) (cs : List ChannelId) (k place : ℕ) (c : ChannelId) (n : ℕ) (before after : List InputPass) → slice_get cs place ≡ Some c → added_at (place + k) after ≡ added_at (place + k) before + n →
    ((j : ℕ) → j ≢ place + k → mine_at j after ≡ mine_at j before) → added_to task cs k after ≡ added_to task cs k before + counts_to task c n
added_one task [] k place c n before after at here others = absurd (cc)
added_one task (d ∷ cs) k zero c n before after at there others_first =
    let same : d ≡ c = cc in let first : 0 + k ≡ k = omega arith in
    let here = subst (λ m. added_at m after ≡ added_at m before + n) first there in let others : (j : ℕ) → j ≢ k → mine_at j after ≡ mine_at j before = λ j ne. others_first j (λ is. ne (is ∙ first)) in
    let head : counts_to task d (added_at k after) ≡ counts_to task d (added_at k before) + counts_to task c n =
    ap (counts_to task d) here ∙ counts_to-add task d (added_at k before) n ∙ ap (λ e. counts_to task d (added_at k before) + counts_to task e n) same in
    let rest : added_to task cs (suc k) after ≡ added_to task cs (suc k) before = added_same task cs (suc k) before after (λ j. others (j + suc k) (λ is. omega (arith, is))) in
    omega (arith, head, rest)
added_one task (d ∷ cs) k (suc place) c n before after at here others =
    let e : suc place + k ≡ place + suc k = omega arith in
    let head : counts_to task d (added_at k after) ≡ counts_to task d (added_at k before) = ap (λ es. counts_to task d (count_by is_added es)) (others k (λ is. omega (arith, is))) in
    let rest : added_to task cs (suc k) after ≡ added_to task cs (suc k) before + counts_to task c n =
    added_one task cs (suc k) place c n before after at (subst (λ m. added_at m after ≡ added_at m before + n) e here) (λ j ne. others j (λ is. ne (is ∙ e))) in
    omega (arith, head, rest)

-- ---- what the pools were asked

pub for_none : (channels : List ChannelId) (task : ℕ) (before after : SharePasses) → after.inputs ≡ before.inputs → after.pools ≡ before.pools → AskedFor channels task before after
for_none channels task before after inputs pools = record {
  entries = [];
  made = ap (λ l. mine_at task l.items) pools ∙ sym (append-nil (mine_at task before.pools.items));
  added = 0;
  given = let same = ap (λ l. added_to task channels 0 l.items) inputs in omega (arith, same);
  each = refl;
}

pub for_more : (channels : List ChannelId) (task : ℕ) (a b c : SharePasses) → AskedFor channels task a b → AskedFor channels task b c → AskedFor channels task a c
for_more channels task a b c one two = record {
  entries = one.entries ++ two.entries;
  made = two.made ∙ ap (λ l. l ++ two.entries) one.made ∙ append_assoc (mine_at task a.pools.items) one.entries two.entries;
  added = one.added + two.added;
  given = let first = one.given in let second = two.given in omega (arith, first, second);
  each = let lent = lent-append one.entries two.entries in let returned = returned-append one.entries two.entries in let first = one.each in let second = two.each in omega (arith, lent, returned, first, second);
}

-- The same, where only other cells were entered in between.
pub for_later : (channels : List ChannelId) (task : ℕ) (a b later c : SharePasses) → later.inputs ≡ b.inputs → later.pools ≡ b.pools → AskedFor channels task a b → AskedFor channels task later c → AskedFor channels task a c
for_later channels task a b later c inputs pools one two = for_more channels task a later c (for_more channels task a b later one (for_none channels task b later inputs pools)) two

-- The pool of the task to which a channel leads was asked for it.
pub for_one : (channels : List ChannelId) (task place : ℕ) (c : ChannelId) (before after : SharePasses) → slice_get channels place ≡ Some c → AskedAt place c.to before after → AskedFor channels task before after
for_one channels task place c before after at asked =
    let e : place + 0 ≡ place = omega arith in
    let given = added_one task channels 0 place c asked.here.added before.inputs.items after.inputs.items at
    (subst (λ n. added_at n after.inputs.items ≡ added_at n before.inputs.items + asked.here.added) (sym e) asked.here.given) (λ j ne. asked.others j (λ is. ne (is ∙ sym e))) in
    elim (cases_eq task c.to) [
      | inl is ↦ record {
        entries = asked.here.entries;
        made = ap (λ n. mine_at n after.pools.items) is ∙ asked.here.made.here ∙ ap (λ n. mine_at n before.pools.items ++ asked.here.entries) (sym is);
        added = asked.here.added;
        given = given ∙ ap (λ n. added_to task channels 0 before.inputs.items + n) (counts_own task c asked.here.added is);
        each = asked.here.each;
      }
      | inr ne ↦ record {
        entries = [];
        made = asked.here.made.others task ne ∙ sym (append-nil (mine_at task before.pools.items));
        added = 0;
        given = given ∙ ap (λ n. added_to task channels 0 before.inputs.items + n) (counts_other task c asked.here.added ne);
        each = refl;
      }
    ]
