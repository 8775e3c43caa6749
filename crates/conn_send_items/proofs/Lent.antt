-- The sender's pass at a place, lent for a turn.
use Rattle.std.proofs.Common.{◌≡◌, ℕ, ◌<◌, List, length, get_or, set, sym, ap, subst, ◌∙◌, arith}
use Rattle.flow_defs.specs.declared.parcel.Parcel.{Parcel}
use Rattle.flow_defs.proofs.Lists.{refilled_set}
use Rattle.subpartition.specs.declared.entry.SendEntry.{SendEntry}
use Rattle.std.specs.List.{refill}
use Rattle.turn_cell.specs.Passes.{seen}
use Rattle.conn_parts.specs.Shares.{AreOwn, seen_at}
use Rattle.conn_parts.proofs.Passes.{pass_at, number_at, are_own_lent, seen_here, seen_set, seen_set_else}
use Rattle.conn_send_items.specs.Fronts.{SendCell, SendPass, IsSender, NoneTaken, OneTaken, FrontStays, OthersStay}

module _ (cells : List SendCell) (passes lent : List SendPass) (place : ℕ) (cell : SendCell) (pass : SendPass)
    (is : lent ≡ passes) (own : AreOwn 1 cells passes) (within : place < length cells)
    (is_cell : cell ≡ get_or cells place cell) (is_pass : pass ≡ get_or lent place pass) where
  stands_there : pass ≡ get_or passes place pass
  stands_there = subst (λ l. pass ≡ get_or l place pass) is is_pass

  place_within : place < length passes
  place_within = let many = own.of_cells.many in omega arith

  pub sender_at : IsSender cell (get_or lent place pass)
  sender_at =
      subst (IsSender cell) is_pass (pass_at cells passes place cell pass own.of_cells within is_cell stands_there, number_at 1 cells passes place pass own within stands_there)

  pub seen_was : seen_at place passes ≡ seen (get_or lent place pass)
  seen_was = seen_here passes place pass place_within stands_there ∙ ap (λ (p : SendPass). seen p) is_pass

  module _ (after : SendPass) where
    pub own_now : IsSender cell after → AreOwn 1 cells (refill (length passes) passes (set lent place after))
    own_now sender = are_own_lent 1 cells passes lent place cell after is own within is_cell sender.0 sender.1

    pub seen_now : seen_at place (refill (length passes) passes (set lent place after)) ≡ seen after
    seen_now = ap (λ (ps : List SendPass). seen_at place ps) (refilled_set passes lent place after is) ∙ seen_set passes place after place_within

    pub others_now : OthersStay place passes (refill (length passes) passes (set lent place after))
    others_now k apart = ap (λ (ps : List SendPass). seen_at k ps) (refilled_set passes lent place after is) ∙ seen_set_else passes place k after apart

-- What a turn took, of the pass that was lent.
module _ (was now a b : List (ℕ × SendEntry)) (was_is : was ≡ a) (now_is : now ≡ b) where
  pub none_taken_at : NoneTaken a b → NoneTaken was now
  none_taken_at t = subst (λ h. NoneTaken h now) (sym was_is) (subst (NoneTaken a) (sym now_is) t)

  pub front_stays_at : FrontStays a b → FrontStays was now
  front_stays_at t = subst (λ h. FrontStays h now) (sym was_is) (subst (FrontStays a) (sym now_is) t)

  pub one_taken_at : (item : Parcel) (backlog : ℕ) → OneTaken a b item backlog → OneTaken was now item backlog
  one_taken_at item backlog t = subst (λ h. OneTaken h now item backlog) (sym was_is) (subst (λ h. OneTaken a h item backlog) (sym now_is) t)
