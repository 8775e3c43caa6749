-- The passes of a loop that was lent its cells, where that at a place took turns.
use Rattle.std.proofs.Common.{◌≡◌, ◌≢◌, ℕ, ◌<◌, List, length, get_or, set, sym, ap, subst, ◌∙◌, arith}
use Rattle.std.specs.List.{refill}
use Rattle.std.proofs.lemmas.List.Elements.{All-get_or}
use Rattle.turn_cell.specs.declared.cell.TurnCell.{TurnCell}
use Rattle.turn_cell.specs.Passes.{IsPassOf, number, seen, mine, opened_with}
use Rattle.input_channel.specs.declared.arrival.Arrival.{Arrival}
use Rattle.input_channel.specs.declared.entry.ReceiveEntry.{ReceiveEntry}
use Rattle.input_channel.specs.declared.fault.AcceptFault.{AcceptFault}
use Rattle.input_channel.specs.States.{ChannelState}
use Rattle.conn_parts.specs.declared.share.SharePasses.{SharePasses}
use Rattle.conn_parts.specs.Shares.{AreOf, AreOwn, mine_at, seen_at}
use Rattle.conn_parts.proofs.Passes.{pass_at, number_at, are_own_lent, mine_here, mine_set, mine_set_else, seen_set}
use Rattle.conn_read_items.specs.declared.cells.Cells.{Cells}
use Rattle.conn_read_items.specs.Turning.{InputPass, WasRefusedWith}
use Rattle.conn_read_items.specs.Asking.{Asked, AskedAt}
use Rattle.conn_read_items.specs.Taking.{AreLent, NotedMore, GaveAt, RefusedAt}
use Rattle.flow_defs.proofs.Lists.{refilled_set}

abbrev pub InputCell : Type 0
InputCell = TurnCell ChannelState ReceiveEntry ℕ

module _ (cells : Cells) (passes : SharePasses) (list : List InputPass) (k : ℕ) (cell : InputCell) (pass : InputPass) (lent : AreLent cells passes)
    (same : list ≡ passes.inputs.items) (within : k < length cells.inputs.now) (is_cell : cell ≡ get_or cells.inputs.now k cell) (is_pass : pass ≡ get_or list k pass) where
  pub pass_of_cell : IsPassOf (get_or cells.inputs.now k cell) (get_or list k pass)
  pass_of_cell =
      let at = pass_at cells.inputs.now passes.inputs.items k cell pass lent.inputs.of_cells within is_cell (is_pass ∙ ap (λ l. get_or l k pass) same) in
      subst (λ (x : InputCell). IsPassOf x (get_or list k pass)) is_cell (subst (λ (p : InputPass). IsPassOf cell p) is_pass at)

  pub number_of_pass : number (get_or list k pass) ≡ 1
  number_of_pass = ap (λ (p : InputPass). number p) (sym is_pass) ∙ number_at 1 cells.inputs.now passes.inputs.items k pass lent.inputs within (is_pass ∙ ap (λ l. get_or l k pass) same)

  pub size_of_cell : (opened_with (get_or cells.inputs.now k cell)).size ≡ cells.size
  size_of_cell = All-get_or (λ (x : InputCell). (opened_with x).size ≡ cells.size) cells.inputs.now k cell within lent.input_sizes

module _ (passes list : List InputPass) (k : ℕ) (pass after : InputPass) (same : list ≡ passes) (within : k < length passes) (is_pass : pass ≡ get_or list k pass) where
  back : refill (length passes) passes (set list k after) ≡ set passes k after
  back = refilled_set passes list k after same

  mine_before : mine_at k passes ≡ mine (get_or list k pass)
  mine_before = mine_here passes k pass within (is_pass ∙ ap (λ l. get_or l k pass) same) ∙ ap (λ (p : InputPass). mine p) is_pass

  mine_after : mine_at k (refill (length passes) passes (set list k after)) ≡ mine after
  mine_after = ap (mine_at k) back ∙ mine_set passes k after within

  seen_after : seen_at k (refill (length passes) passes (set list k after)) ≡ seen after
  seen_after = ap (seen_at k) back ∙ seen_set passes k after within

  others : (j : ℕ) → j ≢ k → mine_at j (refill (length passes) passes (set list k after)) ≡ mine_at j passes
  others j ne = ap (mine_at j) back ∙ mine_set_else passes k j after ne

  pub gave_at : (notes : List ReceiveEntry) → NotedMore (mine (get_or list k pass)) (mine after) notes → GaveAt k passes (refill (length passes) passes (set list k after)) notes
  gave_at notes more = record {
    here = subst (λ es. NotedMore es (mine_at k (refill (length passes) passes (set list k after))) notes) (sym mine_before)
        (subst (λ es. NotedMore (mine (get_or list k pass)) es notes) (sym mine_after) more);
    others = others;
  }

  pub refused_at : (a : Arrival) (bytes : List ℕ) (fault : AcceptFault) → WasRefusedWith (mine (get_or list k pass)) (mine after) (seen after) a bytes fault → RefusedAt k passes (refill (length passes) passes (set list k after)) a bytes fault
  refused_at a bytes fault why = record {
    why = subst (λ es. WasRefusedWith es (mine_at k (refill (length passes) passes (set list k after))) (seen_at k (refill (length passes) passes (set list k after))) a bytes fault) (sym mine_before)
        (subst (λ es. WasRefusedWith (mine (get_or list k pass)) es (seen_at k (refill (length passes) passes (set list k after))) a bytes fault) (sym mine_after)
        (subst (λ h. WasRefusedWith (mine (get_or list k pass)) (mine after) h a bytes fault) (sym seen_after) why));
    others = others;
  }

  pub asked_at : (before now : SharePasses) (to : ℕ) → before.inputs.items ≡ passes → now.inputs.items ≡ refill (length passes) passes (set list k after) →
      Asked to (mine (get_or list k pass)) (mine after) before.pools.items now.pools.items → AskedAt k to before now
  asked_at before now to was is asked = record {
    here = subst (λ ps. Asked to (mine_at k ps) (mine_at k now.inputs.items) before.pools.items now.pools.items) (sym was)
        (subst (λ ps. Asked to (mine_at k passes) (mine_at k ps) before.pools.items now.pools.items) (sym is)
        (subst (λ es. Asked to es (mine_at k (refill (length passes) passes (set list k after))) before.pools.items now.pools.items) (sym mine_before)
        (subst (λ es. Asked to (mine (get_or list k pass)) es before.pools.items now.pools.items) (sym mine_after) asked)));
    others = λ j ne. ap (mine_at j) is ∙ others j ne ∙ ap (mine_at j) (sym was);
  }

-- The passes are still those of the cells.
pub lent_still : (cells : Cells) (passes now : SharePasses) (list : List InputPass) (k : ℕ) (cell : InputCell) (after : InputPass) → AreLent cells passes → list ≡ passes.inputs.items → k < length cells.inputs.now →
    cell ≡ get_or cells.inputs.now k cell → IsPassOf (get_or cells.inputs.now k cell) after → number after ≡ 1 →
    now.inputs.items ≡ refill (length passes.inputs.items) passes.inputs.items (set list k after) → AreOf cells.pools.now now.pools.items → now.stop ≡ passes.stop → AreLent cells now
lent_still cells passes now list k cell after lent same within is_cell is_after is_number inputs pools stop = record {
  distinct = lent.distinct;
  places = lent.places;
  inputs = subst (AreOwn 1 cells.inputs.now) (sym inputs)
      (are_own_lent 1 cells.inputs.now passes.inputs.items list k cell after same lent.inputs within is_cell (subst (λ (x : InputCell). IsPassOf x after) (sym is_cell) is_after) is_number);
  input_sizes = lent.input_sizes;
  pools = pools;
  sizes = lent.sizes;
  receivers = lent.receivers;
  stop = subst (IsPassOf cells.stop.now) (sym stop) lent.stop;
}

-- As many as the cells.
pub many_passes : (cells : Cells) (passes : SharePasses) (k : ℕ) → AreLent cells passes → k < length cells.inputs.now → k < length passes.inputs.items
many_passes cells passes k lent within = omega (arith, lent.inputs.of_cells.many)
