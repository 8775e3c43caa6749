-- Each channel of an edge that was settled carries.
use Rattle.std.proofs.Common.{◌≡◌, ℕ, ◌*◌, ◌<◌, List, [], length, Option, Some, slice_get, get_or, inl, inr, sym, ap, subst, ◌∙◌, arith}
use Rattle.std.specs.Option.{option_map_or}
use Rattle.std.proofs.lemmas.Option.{slice_get_cases, slice_get_within}
use Rattle.turn_cell.specs.declared.cell.TurnCell.{TurnCell}
use Rattle.turn_cell.specs.declared.pass.Pass.{Pass}
use Rattle.turn_cell.specs.History.{StartsWith, by, entries_of}
use Rattle.turn_cell.specs.Passes.{IsPassOf, number, seen, mine}
use Rattle.flow_defs.specs.Jobs.{tasks}
use Rattle.plain_machine.proofs.Channels.{ends_of}
use Rattle.conn_parts.specs.Shares.{mine_at, seen_at}
use Rattle.conn_parts.proofs.Passes.{number_at}
use Rattle.record_writer.specs.Writers.{place_of, ways_into}
use Rattle.subpartition.specs.Sending.{taken}
use Rattle.input_channel.specs.declared.entry.ReceiveEntry.{ReceiveEntry}
use Rattle.input_channel.specs.Inboxes.{pushed}
use Rattle.input_channel.specs.Theorems as receiving
use Rattle.channel_cut.specs.Ends.{SettledAreEnds}
use Rattle.job_cells.specs.Edges.{place_into, channels_on}
use Rattle.job_cells.specs.Places.{ChannelsHavePlaces}
use Rattle.job_ends.specs.Edges.{EdgesCarry}

at_place : {A : Type 0} (xs : List A) (k : ℕ) → k < length xs → (x : A) × (slice_get xs k ≡ Some x) × (x ≡ get_or xs k x)
at_place xs k low = elim (slice_get_cases xs k).1 [
  | inl at ↦ (at.0, at.2, sym at.3)
  | inr past ↦ absurd (let high = past.0 in omega (arith, low, high))
]

module _ {S E F : Type 0} where
  -- A pass of a cell has its own entries in what it has seen.
  seen_own : (passes : List (Pass S E F)) (k n : ℕ) (pass : Pass S E F) (cell : TurnCell S E F) → slice_get passes k ≡ Some pass → IsPassOf cell pass → number pass ≡ n →
      by n (seen_at k passes) ≡ mine_at k passes
  seen_own passes k n pass cell at is numbered =
      let seen_is : seen_at k passes ≡ seen pass = ap (λ (o : Option (Pass S E F)). option_map_or (λ (p : Pass S E F). seen p) o []) at in
      let mine_is : mine_at k passes ≡ mine pass = ap (λ (o : Option (Pass S E F)). option_map_or (λ (p : Pass S E F). mine p) o []) at in
      ap (by n) seen_is ∙ ap (λ (m : ℕ). by m (seen pass)) (sym numbered) ∙ is.0.5 ∙ sym mine_is

-- The laws that are used.
pub record Laws : Type 0 where
  pub ends : SettledAreEnds
  pub by_passes : receiving.PassesAreKept

pub edges_carry : Laws → ChannelsHavePlaces → EdgesCarry
edges_carry laws places job e senders inputs own gate takers pushers is s a b is_one =
    let ends = ends_of job e a b is_one in
    let p = places job e a b is is_one in
    let k : ℕ = place_into job e b p.i in
    let there : place_of a (tasks job e) p.c ≡ k = p.one in
    let same : place_of (b * ways_into job e) 1 p.i ≡ k = omega arith in
    let way_low : p.c < length (own a) = omega (arith, s.own_many a ends.sender, p.way_out) in
    let lane_low : p.i < length (gate b) = omega (arith, s.gate_many b ends.receiver, p.way_in) in
    let sent = s.sent a ends.sender p.c way_low in
    let came = s.came b ends.receiver p.i lane_low in
    let on : k < length (channels_on job e) = slice_get_within (channels_on job e) k _ p.stands in
    let low : k < length senders = omega (arith, on, s.cells) in
    let low_in : k < length inputs = omega (arith, on, s.inputs_many) in
    let taker = at_place takers k (let m = s.takers_are.of_cells.many in omega (arith, low, m)) in
    let cell = at_place senders k low in
    let pusher = at_place pushers k (let m = s.pushers_are.of_cells.many in omega (arith, low_in, m)) in
    let inbox_cell = at_place inputs k low_in in
    let own_pass = at_place (own a) p.c way_low in
    let own_at = s.own_are a ends.sender p.c own_pass.0 own_pass.1 in
    let gate_pass = at_place (gate b) p.i lane_low in
    let gate_at = s.gate_are b ends.receiver p.i gate_pass.0 gate_pass.1 in
    let taker_sees : by 1 (seen_at k takers) ≡ mine_at k takers =
    seen_own takers k 1 taker.0 cell.0 taker.1 (s.takers_are.of_cells.each k cell.0 taker.0 cell.1 taker.1) (number_at 1 senders takers k taker.0 s.takers_are low taker.2) in
    let pusher_sees : by 1 (seen_at k pushers) ≡ mine_at k pushers =
    seen_own pushers k 1 pusher.0 inbox_cell.0 pusher.1 (s.pushers_are.of_cells.each k inbox_cell.0 pusher.0 inbox_cell.1 pusher.1) (number_at 1 inputs pushers k pusher.0 s.pushers_are low_in pusher.2) in
    let own_sees : by 0 (seen_at p.c (own a)) ≡ mine_at p.c (own a) = seen_own (own a) p.c 0 own_pass.0 own_at.0 own_pass.1 own_at.2 own_at.3 in
    let gate_sees : by 0 (seen_at p.i (gate b)) ≡ mine_at p.i (gate b) = seen_own (gate b) p.i 0 gate_pass.0 gate_at.0 gate_pass.1 gate_at.2 gate_at.3 in
    let closed = laws.ends sent.state.size (seen_at p.c (own a)) (seen_at k takers) (seen_at p.i (gate b)) (seen_at k pushers)
    (record {
      history = sent.history;
      is_legal = sent.stands_for.legal;
      later_task = sent.later_task;
      of_task = sent.of_task ∙ sym own_sees;
      later_loop = subst (λ (x : ℕ). StartsWith sent.history (seen_at x takers)) there sent.later_loop;
      of_loop = sent.of_loop ∙ ap (λ (x : ℕ). mine_at x takers) there ∙ sym taker_sees;
    })
    (record {
      history = came.history;
      is_legal = laws.by_passes came.state came.history came.stands_for;
      later_task = came.later_task;
      of_task = came.of_task ∙ sym gate_sees;
      later_loop = subst (λ (x : ℕ). StartsWith came.history (seen_at x pushers)) same came.later_loop;
      of_loop = came.of_loop ∙ ap (λ (x : ℕ). mine_at x pushers) same ∙ sym pusher_sees;
    })
    (subst (λ (es : List ReceiveEntry). StartsWith (taken (entries_of (seen_at k takers))) (pushed es)) (sym pusher_sees) (s.arrived k _ p.stands)) in
    record {
      way = p.c;
      way_below = p.way_out;
      leads = p.receiver;
      lane = p.i;
      lane_below = p.way_in;
      comes = p.sender;
      own_is = own_sees;
      sent = closed.0;
      received = closed.1;
      ends = closed.2;
    }
