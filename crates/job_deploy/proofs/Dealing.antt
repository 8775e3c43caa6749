-- How partitions and gates are dealt, from the last task on.
use Rattle.std.proofs.Common.{◌≡◌, ℕ, suc, ◌+◌, ◌*◌, ◌<◌, ◌≤◌, List, [], ◌∷◌, ◌++◌, length, get_or, Some, refl, sym, ap, subst, ◌∙◌, arith}
use Rattle.std.specs.Prelude.{slice_get, All, IfOk, Result, Ok, Err}
use Rattle.std.proofs.lemmas.List.{length_push}
use Rattle.std.proofs.lemmas.Option.{slice_get-get_or, slice_get_within, get_or_from_slice_get}
use Rattle.turn_cell.specs.Passes.{IsPassOf, seen, opened_with}
use Rattle.flow_defs.specs.Items.{Items}
use Rattle.flow_defs.specs.declared.job.Job.{Job}
use Rattle.flow_defs.specs.Jobs.{IsJob, last_edge, tasks}
use Rattle.segment_pool.specs.Pools.{size_of}
use Rattle.local_pool.specs.Helds.{pool_of}
use Rattle.conn_parts.specs.Shares.{AreOwn, AreNew}
use Rattle.input_gate.specs.Turning.{InputCell, InputPass}
use Rattle.input_gate.specs.States.{PoolCell, PoolPass}
use Rattle.record_writer.specs.declared.partition.Partition.{Partition}
use Rattle.record_writer.specs.Partitions.{IsPartitionOf}
use Rattle.record_writer.specs.Writers.{SendCell, SendPass, AreOwnAt, place_of, ways_on, ways_into}
use Rattle.job_cells.specs.declared.edge.Edge.{Edge}
use Rattle.job_cells.specs.Edges.{AreGatesAt, IsEdgeOf}
use Rattle.job_cells.proofs.Lists.{in_front, at_last}
use Rattle.job_deploy.specs.declared.senders.Senders.{Senders}
use Rattle.job_deploy.specs.declared.takers.Takers.{Takers}
use Rattle.job_deploy.specs.Placing.{AreGateCells, AreSenders, AreTakers, IsOverCells}
use Rattle.job_deploy.proofs.Edges.{edge_few, gate_within}
use Rattle.job_deploy.proofs.Orders.{stands_at}

-- What follows of an answer where it is Ok.
pub if_ok_more : {T E : Type 0} (P Q : T → Type 0) (r : Result T E) → ((x : T) → P x → Q x) → IfOk r P → IfOk r Q
if_ok_more P Q (Ok x) more h = more x h
if_ok_more P Q (Err e) more h = tt

-- ---- the passes that are left, and the last ones

module _ (job : Job) (e : ℕ) (edge : Edge) (before after : Senders) (own : Items SendPass) (pool : PoolPass) (are : AreSenders job e edge before)
    (own_is : before.own.items ≡ after.own.items ++ own ∷ []) (pool_is : before.pools.items ≡ after.pools.items ++ pool ∷ []) where
  pub senders_fewer : length before.own.items ≡ suc (length after.own.items)
  senders_fewer = let l = ap length own_is ∙ length_push after.own.items own in omega (arith, l)

  pools_fewer : length after.pools.items ≡ length after.own.items
  pools_fewer = let l = ap length pool_is ∙ length_push after.pools.items pool in let m = are.pools_many in let n = senders_fewer in omega (arith, l, m, n)

  pub senders_rest : AreSenders job e edge after
  senders_rest = record {
    many = (let m = are.many in let n = senders_fewer in omega (arith, m, n));
    pools_many = pools_fewer;
    own = λ a o at. are.own a o (ap (λ l. slice_get l a) own_is ∙ in_front after.own.items (own ∷ []) a o at);
    pools = λ a cell pass stands at. are.pools a cell pass stands (ap (λ l. slice_get l a) pool_is ∙ in_front after.pools.items (pool ∷ []) a pass at);
  }

  pub sender_within : length after.own.items < tasks job e
  sender_within = let m = are.many in let n = senders_fewer in omega (arith, m, n)

  pub last_sender : AreOwnAt edge.subpartitions.items (length after.own.items) (tasks job e) (ways_on job e) own.items × AreNew own.items
  last_sender = are.own (length after.own.items) own (ap (λ l. slice_get l (length after.own.items)) own_is ∙ at_last after.own.items own (length after.own.items) refl)

  pub last_partition_pool : (cell : PoolCell) → slice_get edge.partitions.items (length after.own.items) ≡ Some cell → IsPassOf cell pool
  last_partition_pool cell stands =
      are.pools (length after.own.items) cell pool stands
      (ap (λ l. slice_get l (length after.own.items)) pool_is ∙ at_last after.pools.items pool (length after.own.items) (sym pools_fewer))

module _ (job : Job) (e : ℕ) (edge : Edge) (before after : Takers) (own : Items InputPass) (pool : PoolPass) (are : AreTakers job e edge before)
    (own_is : before.own.items ≡ after.own.items ++ own ∷ []) (pool_is : before.pools.items ≡ after.pools.items ++ pool ∷ []) where
  pub takers_fewer : length before.own.items ≡ suc (length after.own.items)
  takers_fewer = let l = ap length own_is ∙ length_push after.own.items own in omega (arith, l)

  gate_pools_fewer : length after.pools.items ≡ length after.own.items
  gate_pools_fewer = let l = ap length pool_is ∙ length_push after.pools.items pool in let m = are.pools_many in let n = takers_fewer in omega (arith, l, m, n)

  pub takers_rest : AreTakers job e edge after
  takers_rest = record {
    many = (let m = are.many in let n = takers_fewer in omega (arith, m, n));
    pools_many = gate_pools_fewer;
    own = λ b o at. are.own b o (ap (λ l. slice_get l b) own_is ∙ in_front after.own.items (own ∷ []) b o at);
    pools = λ b cell pass stands at. are.pools b cell pass stands (ap (λ l. slice_get l b) pool_is ∙ in_front after.pools.items (pool ∷ []) b pass at);
  }

  pub taker_within : length after.own.items < tasks job (suc e)
  taker_within = let m = are.many in let n = takers_fewer in omega (arith, m, n)

  pub last_taker : AreGatesAt edge.inputs.items (length after.own.items * ways_into job e) (ways_into job e) own.items
  last_taker = are.own (length after.own.items) own (ap (λ l. slice_get l (length after.own.items)) own_is ∙ at_last after.own.items own (length after.own.items) refl)

  pub last_gate_pool : (cell : PoolCell) → slice_get edge.gates.items (length after.own.items) ≡ Some cell → IsPassOf cell pool
  last_gate_pool cell stands =
      are.pools (length after.own.items) cell pool stands
      (ap (λ l. slice_get l (length after.own.items)) pool_is ∙ at_last after.pools.items pool (length after.own.items) (sym gate_pools_fewer))

-- ---- a partition

pub partition_is : (job : Job) (e a size : ℕ) (edge : Edge) (partition : Partition) → IsJob job → e ≤ last_edge job → a < tasks job e → IsEdgeOf job e size edge → IsOverCells job e a size edge partition →
    slice_get edge.partitions.items a ≡ Some partition.pool.now →
    AreOwnAt edge.subpartitions.items a (tasks job e) (ways_on job e) partition.passes.subpartitions.items × AreNew partition.passes.subpartitions.items →
    IsPassOf partition.pool.now partition.passes.pool → IsPartitionOf job e a partition
partition_is job e a size edge partition is low here are over stands own pool = record {
  is_job = is;
  edge = low;
  index = here;
  passes = record {
    own = subst (λ (cells : List SendCell). AreOwnAt cells partition.first partition.stride (ways_on job e) partition.passes.subpartitions.items) (sym over.cells)
        (subst (λ (first : ℕ). AreOwnAt edge.subpartitions.items first partition.stride (ways_on job e) partition.passes.subpartitions.items) (sym over.first)
        (subst (λ (stride : ℕ). AreOwnAt edge.subpartitions.items a stride (ways_on job e) partition.passes.subpartitions.items) (sym over.stride) own.0));
    pool = pool;
  };
  new = own.1;
  sizes = λ c cell inside at.
      let there : slice_get edge.subpartitions.items (place_of partition.first partition.stride c) ≡ Some cell = ap (λ l. slice_get l (place_of partition.first partition.stride c)) (sym over.cells) ∙ at in
      let within = slice_get_within edge.subpartitions.items (place_of partition.first partition.stride c) cell there in
      let read = get_or_from_slice_get edge.subpartitions.items (place_of partition.first partition.stride c) cell cell there in
      ap (λ (x : SendCell). (opened_with x).size) (sym read) ∙ are.sizes (place_of partition.first partition.stride c) cell within ∙ sym over.size_is;
  pool_size =
      let within = slice_get_within edge.partitions.items a partition.pool.now stands in
      let read = get_or_from_slice_get edge.partitions.items a partition.pool.now partition.pool.now stands in
      ap (λ (x : PoolCell). size_of (pool_of (opened_with x))) (sym read) ∙ are.partition_sizes a partition.pool.now within ∙ sym over.size_is;
  few = (let long = ap length over.cells in let same = are.subpartitions in let few = edge_few job e size edge is low are in omega (arith, long, same, few));
}

-- ---- the cells of a gate

-- The passes of a gate are those of the cells that stand from a place on.
module _ (inputs cells : List InputCell) (first ways : ℕ) (own : List InputPass) (are : AreGatesAt inputs first ways own)
    (many : length cells ≡ ways) (each : (i : ℕ) (cell : InputCell) → slice_get cells i ≡ Some cell → slice_get inputs (first + i) ≡ Some cell) where
  pub gate_passes : AreOwn 0 cells own
  gate_passes = record {
    of_cells = record {
      many = are.many_are ∙ sym many;
      each = λ k cell pass at at'.
          let found = are.each k pass at' in
          subst (λ (c : InputCell). IsPassOf c pass) (stands_at inputs (first + k) found.0 cell found.1 (each k cell at)) found.2;
    };
    numbered = λ k d low. (are.each k (get_or own k d) (slice_get-get_or own k d low)).3;
  }

  pub gate_new : AreNew own
  gate_new = λ k d low. (are.each k (get_or own k d) (slice_get-get_or own k d low)).4

  pub gate_fresh : All (λ (pass : InputPass). seen pass ≡ []) own
  gate_fresh = λ k d low. (are.each k (get_or own k d) (slice_get-get_or own k d low)).5

-- ---- a gate

module _ (job : Job) (e size : ℕ) (edge : Edge) (is : IsJob job) (low : e ≤ last_edge job) (are : IsEdgeOf job e size edge) (b index ways : ℕ) (own : List InputPass)
    (here : b < tasks job (suc e)) (gate : AreGatesAt edge.inputs.items (b * ways_into job e) (ways_into job e) own) (index_is : index ≡ b) (ways_is : ways ≡ length own)
    (inputs : List InputCell) (inputs_are : inputs ≡ edge.inputs.items) (gates : List PoolCell) (gates_are : gates ≡ edge.gates.items) where
  ways_are : ways ≡ ways_into job e
  ways_are = ways_is ∙ gate.many_are

  place_is : index * ways ≡ b * ways_into job e
  place_is = ap (λ (i : ℕ). i * ways) index_is ∙ ap (λ (w : ℕ). b * w) ways_are

  pub cells_within : index * ways + ways ≤ length inputs
  cells_within =
      let inside = gate_within job e size edge is low are b here in let p = place_is in let w = ways_are in let l = ap length inputs_are in
      omega (arith, inside, p, w, l)

  pub few_cells : length inputs ≤ 64
  few_cells = let f = edge_few job e size edge is low are in let s = are.inputs in let l = ap length inputs_are in omega (arith, f, s, l)

  pub gate_inside : index < length gates
  gate_inside = let l = ap length gates_are in let m = are.gates in omega (arith, l, m, here, index_is)

  module _ (cells : List InputCell) (many : length cells ≡ ways) (each : (i : ℕ) (x : InputCell) → slice_get cells i ≡ Some x → slice_get inputs (index * ways + i) ≡ Some x) where
    pub gate_cells : AreGateCells job e b edge cells
    gate_cells = record {
      many = many ∙ ways_are;
      each = λ i cell at. ap (λ l. slice_get l (b * ways_into job e + i)) (sym inputs_are) ∙ ap (λ (p : ℕ). slice_get inputs (p + i)) (sym place_is) ∙ each i cell at;
    }

    pub own_passes : AreOwn 0 cells own × AreNew own
    own_passes = (
      gate_passes edge.inputs.items cells (b * ways_into job e) (ways_into job e) own gate gate_cells.many gate_cells.each,
      gate_new edge.inputs.items cells (b * ways_into job e) (ways_into job e) own gate gate_cells.many gate_cells.each,
    )

    pub own_fresh : All (λ (pass : InputPass). seen pass ≡ []) own
    own_fresh = gate_fresh edge.inputs.items cells (b * ways_into job e) (ways_into job e) own gate gate_cells.many gate_cells.each

    pub cell_sizes : (pool : PoolCell) → slice_get gates index ≡ Some pool → All (λ (cell : InputCell). (opened_with cell).size ≡ size_of (pool_of (opened_with pool))) cells
    cell_sizes pool stands k d inside =
        let cell = get_or cells k d in let place : ℕ = b * ways_into job e + k in
        let at : slice_get edge.inputs.items place ≡ Some cell = gate_cells.each k cell (slice_get-get_or cells k d inside) in
        let one : (opened_with cell).size ≡ size =
        ap (λ (x : InputCell). (opened_with x).size) (sym (get_or_from_slice_get edge.inputs.items place cell d at)) ∙ are.input_sizes place d (slice_get_within edge.inputs.items place cell at) in
        let pool_at : slice_get edge.gates.items index ≡ Some pool = ap (λ l. slice_get l index) (sym gates_are) ∙ stands in
        let two : size_of (pool_of (opened_with pool)) ≡ size =
        ap (λ (x : PoolCell). size_of (pool_of (opened_with x))) (sym (get_or_from_slice_get edge.gates.items index pool pool pool_at)) ∙ are.gate_sizes index pool (slice_get_within edge.gates.items index pool pool_at) in
        one ∙ sym two
