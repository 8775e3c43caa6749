-- The cells at both ends of an edge, as they are made one by one.
use Rattle.std.proofs.Common.{◌≡◌, ◌⊎◌, ℕ, ◌+◌, ◌*◌, List, [], ◌∷◌, ◌++◌, length, Some, refl, sym, ap, subst, ◌∙◌, arith, inl, inr, length-append, append_assoc, append-nil}
use Rattle.std.specs.Prelude.{slice_get}
use Rattle.std.specs.List.{All}
use Rattle.std.proofs.lemmas.List.{length_push}
use Rattle.std.proofs.lemmas.List.Elements.{All-push, All-same}
use Rattle.std.proofs.lemmas.Option.{get_or_from_slice_get, slice_get_within}
use Rattle.std.proofs.Math.ListN.{length-set}
use Rattle.turn_cell.specs.declared.pass.Pass.{Pass}
use Rattle.turn_cell.specs.Passes.{IsPassOf, number, seen, mine, opened_with}
use Rattle.flow_defs.specs.Items.{Items}
use Rattle.segment_pool.specs.declared.pool.Pool.{Pool}
use Rattle.segment_pool.specs.Pools.{size_of, total_of}
use Rattle.local_pool.specs.declared.held.HeldPool.{HeldPool}
use Rattle.local_pool.specs.Lending.{PoolPass}
use Rattle.local_pool.specs.declared.local.LocalPool.{LocalPool}
use Rattle.local_pool.specs.declared.shares.Want.{Want}
use Rattle.local_pool.specs.Helds.{local_of, pool_of}
use Rattle.local_pool.specs.Locals.{limit_of}
use Rattle.local_pool.specs.Shares.{share_of}
use Rattle.conn_parts.specs.Shares.{AreOf}
use Rattle.subpartition.specs.Queues.{empty_queue}
use Rattle.record_writer.specs.Writers.{SendCell, SendPass, PoolCell, place_of}
use Rattle.job_cells.specs.declared.lender.Lender.{Lender}
use Rattle.job_cells.specs.declared.pool_cells.PoolCells.{PoolCells}
use Rattle.job_cells.specs.declared.gates.Gates.{Gates}
use Rattle.job_cells.specs.declared.partitions.Partitions.{Partitions}
use Rattle.job_cells.specs.Edges.{InputPass, AreGatesAt, HaveShare, items_room}
use Rattle.job_cells.specs.Ends.{ArePools, HasPool, IsWay, AreSent, HasWay, InputCell, AreInputs, HasGate, AreGates}
use Rattle.job_cells.specs.Groups.{AreDealt, IsMade}
use Rattle.job_cells.specs.Lending.{HasLent, IsNext}
use Rattle.job_cells.proofs.GroupLaws.{of_more}
use Rattle.job_cells.proofs.Lists.{in_front, at_last, each_push, after_set}

-- ---- local pools

pub lent_more : (n : ℕ) (before mid after : Lender) → HasLent n before mid → HasLent 1 mid after → HasLent (n + 1) before after
lent_more n before mid after one two = record {
  wants = two.wants ∙ one.wants;
  given = (let a = one.given in let b = two.given in omega (arith, a, b));
}

pub pools_more : (size : ℕ) (before after : PoolCells) (cell : PoolCell) (task other : PoolPass) → ArePools size before → IsMade cell 0 task → IsMade cell 1 other → size_of (pool_of (opened_with cell)) ≡ size →
    after.cells.items ≡ before.cells.items ++ cell ∷ [] → after.tasks.items ≡ before.tasks.items ++ task ∷ [] → after.loops.items ≡ before.loops.items ++ other ∷ [] → ArePools size after
pools_more size before after cell task other pools one two sized ec et el = record {
  sizes = All-same (λ (c : PoolCell). size_of (pool_of (opened_with c)) ≡ size) after.cells.items (before.cells.items ++ cell ∷ []) ec
      (All-push (λ (c : PoolCell). size_of (pool_of (opened_with c)) ≡ size) before.cells.items cell pools.sizes sized);
  tasks = of_more before.cells.items after.cells.items before.tasks.items after.tasks.items cell task pools.tasks one.0 ec et;
  loops = of_more before.cells.items after.cells.items before.loops.items after.loops.items cell other pools.loops two.0 ec el;
}

pub pools_none : (size : ℕ) (pools : PoolCells) → pools.cells.items ≡ [] → pools.tasks.items ≡ [] → pools.loops.items ≡ [] → ArePools size pools
pools_none size pools ec et el = record {
  sizes = All-same (λ (c : PoolCell). size_of (pool_of (opened_with c)) ≡ size) pools.cells.items [] ec (λ k d low. absurd (omega arith));
  tasks = of_none pools.cells.items pools.tasks.items ec et;
  loops = of_none pools.cells.items pools.loops.items ec el;
}
  where
    of_none : (cells : List PoolCell) (passes : List PoolPass) → cells ≡ [] → passes ≡ [] → AreOf cells passes
    of_none cells passes ec ep = record {
      many = ap length ep ∙ sym (ap length ec);
      each = λ k cell pass at at'. let none : slice_get cells k ≡ slice_get [] k = ap (λ l. slice_get l k) ec in absurd (cc);
    }

-- Of no pools each has its share, and of those with one more that was lent last.
pub shares_none : (wants : List Want) (want : Want) (cells : List PoolCell) → length cells ≡ 0 → HaveShare wants want cells
shares_none wants want cells none = λ k d low. absurd (omega (arith, none, low))

pub shares_more : (pool : Pool) (old lender : Lender) (n : ℕ) (made lent : LocalPool) (want : Want) (before after : PoolCells) → HasLent n old lender → IsNext pool lender made → limit_of lent ≡ limit_of made →
    HasPool pool lent before after → slice_get old.wants.items (old.given + n) ≡ Some want → HaveShare old.wants.items want before.cells.items → HaveShare old.wants.items want after.cells.items
shares_more pool old lender n made lent want before after has next same more stands shares =
    let wants = old.wants.items in
    let here : slice_get lender.wants.items lender.given ≡ Some want = ap (λ ws. slice_get ws lender.given) has.wants ∙ ap (slice_get wants) has.given ∙ stands in
    let limit : limit_of lent ≡ share_of wants (total_of pool) want = same ∙ next.shared want here ∙ ap (λ ws. share_of ws (total_of pool) want) has.wants in
    let F : PoolCell → Type 0 = λ c. limit_of (local_of (opened_with c)) ≡ share_of wants (total_of (pool_of (opened_with c))) want in
    All-same F after.cells.items (before.cells.items ++ more.cell ∷ []) more.is
    (All-push F before.cells.items more.cell shares (ap limit_of more.local_is ∙ limit ∙ ap (λ p. share_of wants (total_of p) want) (sym more.of_pool)))

-- ---- the sending end

way_kept : (cells : List SendCell) (more : List SendCell) (many a c : ℕ) (pass : SendPass) → IsWay cells many a c pass → IsWay (cells ++ more) many a c pass
way_kept cells more many a c pass way = record {
  cell = way.cell;
  stands = in_front cells more (place_of a many c) way.cell way.stands;
  of_cell = way.of_cell;
  number_is = way.number_is;
  new = way.new;
}

pub sent_none : (many size : ℕ) (ends : Partitions) → AreDealt ends.group → ends.group.cells.items ≡ [] → length ends.senders.items ≡ many → All (λ (own : Items SendPass). own.items ≡ []) ends.senders.items → AreSent many 0 0 size ends
sent_none many size ends dealt none lists empty = record {
  dealt = dealt;
  cells = ap length none ∙ omega arith;
  opened = All-same (λ (cell : SendCell). opened_with cell ≡ empty_queue size items_room) ends.group.cells.items [] none (λ k d low. absurd (omega arith));
  lists = lists;
  before = λ k own low at. absurd (omega arith);
  behind = λ k own low at. ap length (nothing k own at);
  each = λ k own at i pass here. let e : slice_get own.items i ≡ slice_get [] i = ap (λ (l : List SendPass). slice_get l i) (nothing k own at) in absurd (cc);
}
  where
    nothing : (k : ℕ) (own : Items SendPass) → slice_get ends.senders.items k ≡ Some own → own.items ≡ []
    nothing k own at = subst (λ (o : Items SendPass). o.items ≡ []) (get_or_from_slice_get ends.senders.items k own own at) (empty k own (slice_get_within ends.senders.items k own at))

pub sent_row : (many c size : ℕ) (ends : Partitions) → AreSent many c many size ends → AreSent many (c + 1) 0 size ends
sent_row many c size ends sent = record {
  dealt = sent.dealt;
  cells = (let l = sent.cells in omega (arith, l));
  opened = sent.opened;
  lists = sent.lists;
  before = λ k own low at. absurd (omega arith);
  behind = λ k own low at. sent.before k own (let l = sent.lists in let w = slice_get_within ends.senders.items k own at in omega (arith, l, w)) at;
  each = sent.each;
}

pub sent_more : (many c a size : ℕ) (before after : Partitions) → AreSent many c a size before → AreDealt after.group → HasWay a size before after → AreSent many c (a + 1) size after
sent_more many c a size before after sent dealt way =
    let cell = way.more.cell in let cells = before.group.cells.items in let is = way.more.is in
    let longer = ap length is ∙ length_push cells cell in
    let had : length way.own.items ≡ c = sent.behind a way.own (omega arith) way.stood in
    record {
      dealt = dealt;
      cells = (let l = sent.cells in omega (arith, longer, l));
      opened = All-same (λ (d : SendCell). opened_with d ≡ empty_queue size items_room) after.group.cells.items (cells ++ cell ∷ []) is
          (All-push (λ (d : SendCell). opened_with d ≡ empty_queue size items_room) cells cell sent.opened way.more.opened);
      lists = ap length way.set_is ∙ length-set before.senders.items a way.longer ∙ sent.lists;
      before = λ k own low at. elim (here k own at) [
        | inl same ↦ ap (λ (o : Items SendPass). length o.items) same.1 ∙ ap length way.pushed ∙ length_push way.own.items way.pass ∙ ap (λ n. n + 1) had
        | inr else ↦ sent.before k own (let ne = else.0 in omega (arith, ne, low)) else.1
      ];
      behind = λ k own low at. elim (here k own at) [
        | inl same ↦ let e = same.0 in absurd (omega (arith, e, low))
        | inr else ↦ sent.behind k own (omega (arith, low)) else.1
      ];
      each = λ k own at. elim (here k own at) [
        | inl same ↦ λ i pass there.
            subst (λ (l : List SendCell). IsWay l many k i pass) (sym is) (subst (λ (j : ℕ). IsWay (cells ++ cell ∷ []) many j i pass) (sym same.0)
            (each_push (λ j p. IsWay (cells ++ cell ∷ []) many a j p) way.own.items way.pass
            (λ j p found. way_kept cells (cell ∷ []) many a j p (sent.each a way.own way.stood j p found))
            (subst (λ (j : ℕ). IsWay (cells ++ cell ∷ []) many a j way.pass) (sym had) last)
            i pass (ap (λ l. slice_get l i) (sym (ap (λ (o : Items SendPass). o.items) same.1 ∙ way.pushed)) ∙ there)))
        | inr else ↦ λ i pass there.
            subst (λ (l : List SendCell). IsWay l many k i pass) (sym is) (way_kept cells (cell ∷ []) many k i pass (sent.each k own else.1 i pass there))
      ];
    }
  where
    here : (k : ℕ) (own : Items SendPass) → slice_get after.senders.items k ≡ Some own → ((k ≡ a) × (own ≡ way.longer)) ⊎ ((k ≡ a → ⊥) × (slice_get before.senders.items k ≡ Some own))
    here k own at = after_set before.senders.items a way.longer k own (ap (λ l. slice_get l k) (sym way.set_is) ∙ at)

    last : IsWay (before.group.cells.items ++ way.more.cell ∷ []) many a c way.pass
    last = record {
      cell = way.more.cell;
      stands = at_last before.group.cells.items way.more.cell (place_of a many c) (let l = sent.cells in omega (arith, l));
      of_cell = way.more.made.0;
      number_is = way.more.made.1.0;
      new = way.more.made.1.2;
    }

-- ---- the receiving end

pub gate_none : (cells : List InputCell) (own : List InputPass) → own ≡ [] → HasGate 0 cells cells own
gate_none cells own none = subst (λ (l : List InputPass). HasGate 0 cells cells l) (sym none) (record {
  more = [];
  is = sym (append-nil cells);
  many_are = refl;
  gate = record { many_are = refl; each = λ i pass at. absurd (cc) };
})

gate_kept : (cells more : List InputCell) (first many : ℕ) (own : List InputPass) → AreGatesAt cells first many own → AreGatesAt (cells ++ more) first many own
gate_kept cells more first many own gate = record {
  many_are = gate.many_are;
  each = λ i pass at. let found = gate.each i pass at in (found.0, in_front cells more (first + i) found.0 found.1, found.2, found.3, found.4, found.5);
}

pub gate_more : (n : ℕ) (before mid after : List InputCell) (own longer : List InputPass) (cell : InputCell) (pass : InputPass) → HasGate n before mid own → after ≡ mid ++ cell ∷ [] → IsMade cell 0 pass → longer ≡ own ++ pass ∷ [] →
    HasGate (n + 1) before after longer
gate_more n before mid after own longer cell pass gate is made pushed =
    let count = gate.many_are in let had = gate.gate.many_are in
    let place : length before + length own ≡ length mid = (let l = ap length gate.is ∙ length-append before gate.more in omega (arith, l, count, had)) in
    record {
      more = gate.more ++ cell ∷ [];
      is = is ∙ ap (λ l. l ++ cell ∷ []) gate.is ∙ append_assoc before gate.more (cell ∷ []);
      many_are = (let l = length_push gate.more cell in omega (arith, l, count));
      gate = subst (λ (l : List InputCell). AreGatesAt l (length before) (n + 1) longer) (sym is) (subst (λ (l : List InputPass). AreGatesAt (mid ++ cell ∷ []) (length before) (n + 1) l) (sym pushed) (record {
        many_are = (let l = length_push own pass in omega (arith, l, had));
        each = each_push (λ i p. (d : InputCell) × (slice_get (mid ++ cell ∷ []) (length before + i) ≡ Some d) × IsPassOf d p × (number p ≡ 0) × (mine p ≡ []) × (seen p ≡ [])) own pass
            (gate_kept mid (cell ∷ []) (length before) n own gate.gate).each
            (cell, at_last mid cell (length before + length own) place, made.0, made.1.0, made.1.2, made.1.1);
      }));
    }

pub gates_more : (n ways size : ℕ) (before after : Gates) (own : Items InputPass) → AreGates n ways size before → AreDealt after.group → AreInputs size after.group.cells.items → HasGate ways before.group.cells.items after.group.cells.items own.items →
    after.passes.items ≡ before.passes.items ++ own ∷ [] → ArePools size after.pools → length after.pools.cells.items ≡ length before.pools.cells.items + 1 → AreGates (n + 1) ways size after
gates_more n ways size before after own gates dealt opened gate pushed pools pools_longer =
    let count = gate.many_are in let had = gates.cells in let lists = gates.lists in
    let cells = before.group.cells.items in
    let whole : length after.group.cells.items ≡ n * ways + ways = (let l = ap length gate.is ∙ length-append cells gate.more in omega (arith, l, count, had)) in
    record {
      dealt = dealt;
      cells = omega (arith, whole);
      opened = opened;
      lists = ap length pushed ∙ length_push before.passes.items own ∙ ap (λ k. k + 1) lists;
      each = λ b o at. each_push (λ j p. AreGatesAt after.group.cells.items (j * ways) ways p.items) before.passes.items own
          (λ j p found. subst (λ (l : List InputCell). AreGatesAt l (j * ways) ways p.items) (sym gate.is) (gate_kept cells gate.more (j * ways) ways p.items (gates.each j p found)))
          (subst (λ (k : ℕ). AreGatesAt after.group.cells.items k ways own.items) (had ∙ ap (λ k. k * ways) (sym lists)) gate.gate)
          b o (ap (λ l. slice_get l b) (sym pushed) ∙ at);
      pools = pools;
      pools_many = pools_longer ∙ ap (λ k. k + 1) gates.pools_many;
    }
