-- Which channels have ended, as it is marked.
use Rattle.std.proofs.Common.{◌≡◌, inl, inr, ℕ, ◌<◌, Bool, true, false, List, [], ◌∷◌, ◌++◌, length, get_or, set, refl, sym, ap, subst, ◌∙◌, arith}
use Rattle.std.specs.Prelude.{Some, All, slice_get}
use Rattle.std.specs.List.{refill}
use Rattle.std.proofs.lemmas.List.{length-set}
use Rattle.std.proofs.lemmas.List.Elements.{All-get_or, All-push}
use Rattle.std.proofs.lemmas.Bool.{true≢false}
use Rattle.std.proofs.lemmas.Option.{slice_get_within, slice_get-get_or, same_Some}
use Rattle.turn_cell.specs.declared.pass.Pass.{Pass}
use Rattle.flow_defs.specs.declared.task.ChannelId.{ChannelId}
use Rattle.flow_defs.proofs.Lists.{refilled_set}
use Rattle.input_channel.specs.declared.entry.ReceiveEntry.{ReceiveEntry}
use Rattle.conn_parts.specs.Shares.{seen_at}
use Rattle.conn_parts.proofs.Lists.{set_cases}
use Rattle.conn_send_control.specs.Taking.{HasSeenEnd, HaveSeenMore, HaveEnded, NoneEnded}
use Rattle.conn_send_control.specs.Going.{AllEnded}
use Rattle.conn_send_control.proofs.Takings.{still_ended}

module _ {S F : Type 0} where
  pub ended_on : (ended : List Bool) (p q : List (Pass S ReceiveEntry F)) → HaveEnded ended p → HaveSeenMore p q → HaveEnded ended q
  ended_on ended p q are more k is = still_ended (seen_at k p) (seen_at k q) (more k) (are k is)

  -- The mark at a place is set anew. The marks were lent for writing.
  pub ended_set : (ended lent : List Bool) (at : ℕ) (now : Bool) (p q : List (Pass S ReceiveEntry F)) → lent ≡ ended → HaveEnded ended p → HaveSeenMore p q →
      (now ≡ true → HasSeenEnd (seen_at at q)) → HaveEnded (refill (length ended) ended (set lent at now)) q
  ended_set ended lent at now p q lent_is are more here k is =
      let is_set : slice_get (set ended at now) k ≡ Some true = ap (λ l. slice_get l k) (sym (refilled_set ended lent at now lent_is)) ∙ is in
      elim (set_cases ended at k now) [
        | inl same ↦ subst (λ j. HasSeenEnd (seen_at j q)) (sym same.0) (here (same_Some now true (sym same.2 ∙ is_set)))
        | inr other ↦ ended_on ended p q are more k (sym other ∙ is_set)
      ]

  pub all_ended : (channels : List ChannelId) (ended : List Bool) (p : List (Pass S ReceiveEntry F)) → length ended ≡ length channels → All (λ (b : Bool). b ≡ true) ended → HaveEnded ended p → AllEnded channels p
  all_ended channels ended p many all are k c at =
      let within : k < length ended = let w = slice_get_within channels k c at in omega (arith, w, many) in
      are k (slice_get-get_or ended k true within ∙ ap Some (All-get_or (λ (b : Bool). b ≡ true) ended k true within all))

pub ended_many : (ended lent : List Bool) (at : ℕ) (now : Bool) → lent ≡ ended → length (refill (length ended) ended (set lent at now)) ≡ length ended
ended_many ended lent at now lent_is = ap length (refilled_set ended lent at now lent_is) ∙ length-set ended at now

pub none_more : (ended : List Bool) → NoneEnded ended → NoneEnded (ended ++ false ∷ [])
none_more ended none = All-push (λ (b : Bool). b ≡ false) ended false none refl

pub none_ended : {S F : Type 0} (ended : List Bool) (p : List (Pass S ReceiveEntry F)) → NoneEnded ended → HaveEnded ended p
none_ended ended p none k is =
    let within = slice_get_within ended k true is in
    let marked : get_or ended k true ≡ true = same_Some _ true (sym (slice_get-get_or ended k true within) ∙ is) in
    absurd (true≢false (sym marked ∙ All-get_or (λ (b : Bool). b ≡ false) ended k true within none))
