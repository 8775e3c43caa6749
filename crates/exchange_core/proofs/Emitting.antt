-- What is put on a channel, by what its lane is.
use Rattle.std.proofs.Common.{◌≡◌, ℕ, suc, ◌+◌, ◌-◌, ◌≤◌, cond, ltb, eqb, Bool, true, false, not, ◌||◌, List, [], ◌∷◌, length, Option, None, Some, inl, inr, refl, sym, ap, ◌∙◌, arith}
use Rattle.std.proofs.lemmas.Bool.{cases_eq, eq-eqb, ne_eqb}
use Rattle.std.specs.Option.{SomeIff, option_eq}
use Rattle.flow_defs.specs.declared.task.BarrierKind.{BarrierKind}
use Rattle.flow_defs.specs.declared.task.BarrierKind.TheVariants.{Inline, Front}
use Rattle.flow_defs.specs.declared.parcel.Parcel.TheVariants as parcels
use Rattle.script_text.specs.declared.reply.Reply.{Reply}
use Rattle.script_text.specs.declared.reply.Reply.TheVariants as replies
use Rattle.exchange_world.specs.Lanes.{Lane, ITEMS_MAX}
use Rattle.exchange_world.specs.Worlds.{World, lane_of, partition_limit, partition_lent}
use Rattle.exchange_world.specs.Steps.{buffers_of, with_items, puts, emits, barred, bar_reply, bars, finishes}

-- ---- a record

module _ (w : World) (n : ℕ) (text : List ℕ) where
  -- whether there are buffers and places for it
  abbrev pub is_full : Lane → Bool
  is_full lane = ltb (partition_limit w) (partition_lent lane + length (buffers_of w text)) || ltb ITEMS_MAX (length lane.items + length (buffers_of w text))

  abbrev queued : Lane → World × Reply
  queued lane = (puts w n (with_items lane (buffers_of w text)), replies.Queued n (partition_lent lane + length (buffers_of w text)))

  abbrev emits_on : Lane → World × Reply
  emits_on lane = cond lane.finished (w, replies.Refused) (cond (is_full lane) (w, replies.Full) (queued lane))

  emits_is : (lane : Lane) → lane_of w n ≡ lane → emits w n text ≡ emits_on lane
  emits_is lane is = ap emits_on is

  pub emits_refused : (lane : Lane) → lane_of w n ≡ lane → lane.finished ≡ true → emits w n text ≡ (w, replies.Refused)
  emits_refused lane is finished = emits_is lane is ∙ ap (λ b. cond b (w, replies.Refused) (cond (is_full lane) (w, replies.Full) (queued lane))) finished

  pub emits_full : (lane : Lane) → lane_of w n ≡ lane → lane.finished ≡ false → is_full lane ≡ true → emits w n text ≡ (w, replies.Full)
  emits_full lane is going full =
      emits_is lane is ∙ ap (λ b. cond b (w, replies.Refused) (cond (is_full lane) (w, replies.Full) (queued lane))) going ∙ ap (λ b. cond b (w, replies.Full) (queued lane)) full

  pub emits_queued : (lane : Lane) → lane_of w n ≡ lane → lane.finished ≡ false → is_full lane ≡ false → emits w n text ≡ queued lane
  emits_queued lane is going fits =
      emits_is lane is ∙ ap (λ b. cond b (w, replies.Refused) (cond (is_full lane) (w, replies.Full) (queued lane))) going ∙ ap (λ b. cond b (w, replies.Full) (queued lane)) fits

-- ---- the end

module _ (w : World) (n : ℕ) where
  abbrev ended : Lane → World × Reply
  ended lane = (puts w n (record (with_items lane (parcels.End ∷ [])) { finished = true }), replies.Done)

  abbrev finishes_on : Lane → World × Reply
  finishes_on lane = cond lane.finished (w, replies.Refused) (cond (ltb (length lane.items) ITEMS_MAX) (ended lane) (w, replies.Full))

  finishes_is : (lane : Lane) → lane_of w n ≡ lane → finishes w n ≡ finishes_on lane
  finishes_is lane is = ap finishes_on is

  pub finishes_refused : (lane : Lane) → lane_of w n ≡ lane → lane.finished ≡ true → finishes w n ≡ (w, replies.Refused)
  finishes_refused lane is finished = finishes_is lane is ∙ ap (λ b. cond b (w, replies.Refused) (cond (ltb (length lane.items) ITEMS_MAX) (ended lane) (w, replies.Full))) finished

  pub finishes_full : (lane : Lane) → lane_of w n ≡ lane → lane.finished ≡ false → ltb (length lane.items) ITEMS_MAX ≡ false → finishes w n ≡ (w, replies.Full)
  finishes_full lane is going full =
      finishes_is lane is ∙ ap (λ b. cond b (w, replies.Refused) (cond (ltb (length lane.items) ITEMS_MAX) (ended lane) (w, replies.Full))) going ∙ ap (λ b. cond b (ended lane) (w, replies.Full)) full

  pub finishes_done : (lane : Lane) → lane_of w n ≡ lane → lane.finished ≡ false → ltb (length lane.items) ITEMS_MAX ≡ true → finishes w n ≡ ended lane
  finishes_done lane is going fits =
      finishes_is lane is ∙ ap (λ b. cond b (w, replies.Refused) (cond (ltb (length lane.items) ITEMS_MAX) (ended lane) (w, replies.Full))) going ∙ ap (λ b. cond b (ended lane) (w, replies.Full)) fits

-- ---- a barrier

module _ (w : World) (n k : ℕ) (kind : BarrierKind) where
  abbrev pub is_wrong : Lane → Bool
  is_wrong lane = lane.finished || not (eqb k (suc lane.barriers))

  abbrev put_bar : Lane → World × Reply
  put_bar lane = (puts w n (barred k kind lane), bar_reply n k kind lane)

  abbrev bars_on : Lane → World × Reply
  bars_on lane = cond (is_wrong lane) (w, replies.Refused) (cond (ltb (length lane.items) ITEMS_MAX) (put_bar lane) (w, replies.Full))

  bars_is : (lane : Lane) → lane_of w n ≡ lane → bars w n k kind ≡ bars_on lane
  bars_is lane is = ap bars_on is

  pub bars_refused : (lane : Lane) → lane_of w n ≡ lane → is_wrong lane ≡ true → bars w n k kind ≡ (w, replies.Refused)
  bars_refused lane is wrong = bars_is lane is ∙ ap (λ b. cond b (w, replies.Refused) (cond (ltb (length lane.items) ITEMS_MAX) (put_bar lane) (w, replies.Full))) wrong

  pub bars_full : (lane : Lane) → lane_of w n ≡ lane → is_wrong lane ≡ false → ltb (length lane.items) ITEMS_MAX ≡ false → bars w n k kind ≡ (w, replies.Full)
  bars_full lane is right full =
      bars_is lane is ∙ ap (λ b. cond b (w, replies.Refused) (cond (ltb (length lane.items) ITEMS_MAX) (put_bar lane) (w, replies.Full))) right ∙ ap (λ b. cond b (put_bar lane) (w, replies.Full)) full

  pub bars_done : (lane : Lane) → lane_of w n ≡ lane → is_wrong lane ≡ false → ltb (length lane.items) ITEMS_MAX ≡ true → bars w n k kind ≡ put_bar lane
  bars_done lane is right fits =
      bars_is lane is ∙ ap (λ b. cond b (w, replies.Refused) (cond (ltb (length lane.items) ITEMS_MAX) (put_bar lane) (w, replies.Full))) right ∙ ap (λ b. cond b (put_bar lane) (w, replies.Full)) fits

-- the receiving end stays
pub barred_inbox : (k : ℕ) (kind : BarrierKind) (lane : Lane) → (barred k kind lane).inbox ≡ lane.inbox
barred_inbox k Inline lane = refl
barred_inbox k Front lane = refl

-- one less than k is the number of the last barrier, where k is the next
pub next_is : (o : Option ℕ) (k b : ℕ) → SomeIff o (1 ≤ k) (k - 1) → option_eq eqb o (Some b) ≡ eqb k (suc b)
next_is None k b none = sym (ne_eqb k (suc b) (λ e. none (omega (arith, e))))
next_is (Some x) k b some = elim (cases_eq x b) [
  | inl is ↦ eq-eqb x b is ∙ sym (eq-eqb k (suc b) (omega (arith, is, some.0, some.1)))
  | inr other ↦ ne_eqb x b other ∙ sym (ne_eqb k (suc b) (λ e. other (omega (arith, e, some.0, some.1))))
]
