-- Which channel a place is of, and what stands there.
use Rattle.std.proofs.Common.{◌≡◌, ℕ, suc, ◌+◌, ◌<◌, ◌≤◌, true, List, [], ◌∷◌, ◌++◌, length, get_or, refl, sym, ap, ◌∙◌, subst, arith}
use Rattle.std.specs.Option.{option_map_or}
use Rattle.std.proofs.lemmas.Option.{slice_get_read, slice_get_within}
use Rattle.std.proofs.lemmas.Bool.{eq-eqb}
use Rattle.flow_defs.specs.declared.job.Job.{Job}
use Rattle.flow_defs.specs.declared.job.Exchange.{Exchange}
use Rattle.flow_defs.specs.declared.job.Exchange.TheVariants.{Hash, Rebalance, Forward}
use Rattle.flow_defs.specs.Jobs.{last_edge, tasks, exchange, joins, is_channel, width, edge_width, sum_below, IsJob}
use Rattle.flow_defs.specs.Items.{Items}
use Rattle.plain_machine.specs.Places.{place_on_edge, channels, channel_place}
use Rattle.plain_machine.specs.Images.{items_at}
use Rattle.plain_machine.specs.Theorems.{ChannelsStandInOrder, ChannelsFillEdges}
use Rattle.plain_machine.proofs.Channels.{channel_of}
use Rattle.plain_machine.proofs.PlaceLemmas.{sum_same}
use Rattle.collector.proofs.TaskPlaces.{at_place}

pub record OnEdge (x : Exchange) (m n q : ℕ) : Type 0 where
  pub a : ℕ
  pub b : ℕ
  pub sender : a < m
  pub receiver : b < n
  pub joined : joins x a b ≡ true
  pub is : place_on_edge x n a b ≡ q

on_edge : (x : Exchange) (m n q : ℕ) → (x ≡ Forward → m ≡ n) → q < width x m n → OnEdge x m n q
on_edge Hash m n q wide low =
    let at = at_place (λ i. n) m q (subst (λ k. q < k) (sym (sum_same m n)) low) in
    record { a = at.i; b = at.a; sender = at.low; receiver = at.here; joined = refl; is = ap (λ k. k + at.a) (sym (sum_same at.i n)) ∙ sym at.is }
on_edge Rebalance m n q wide low =
    let at = at_place (λ i. n) m q (subst (λ k. q < k) (sym (sum_same m n)) low) in
    record { a = at.i; b = at.a; sender = at.low; receiver = at.here; joined = refl; is = ap (λ k. k + at.a) (sym (sum_same at.i n)) ∙ sym at.is }
on_edge Forward m n q wide low =
    record { a = q; b = q; sender = low; receiver = subst (λ k. q < k) (wide refl) low; joined = eq-eqb q q refl; is = refl }

-- each place is one of a channel
pub record OfChannel (job : Job) (place : ℕ) : Type 0 where
  pub e : ℕ
  pub a : ℕ
  pub b : ℕ
  pub on : is_channel job e a b ≡ true
  pub is : channel_place job e a b ≡ place

pub of_channel : (job : Job) (place : ℕ) → IsJob job → place < sum_below (suc (last_edge job)) (edge_width job) → OfChannel job place
of_channel job place is low =
    let at = at_place (edge_width job) (suc (last_edge job)) place low in
    let edge : at.i ≤ last_edge job = (let l = at.low in omega (arith, l)) in
    let found = on_edge (exchange job at.i) (tasks job at.i) (tasks job (suc at.i)) at.a (is.widths at.i edge) at.here in
    record {
      e = at.i;
      a = found.a;
      b = found.b;
      on = channel_of job at.i found.a found.b (record { edge = edge; sender = found.sender; receiver = found.receiver; joined = found.joined });
      is = ap (λ k. sum_below at.i (edge_width job) + k) found.is ∙ sym at.is;
    }

-- ---- pieces by place and by channel

pub nothing_of : (xs : List ℕ) → length xs ≡ 0 → xs ≡ []
nothing_of [] none = refl
nothing_of (x ∷ xs) none = absurd (omega (arith, none))

-- a piece that was read at a place
pub item_read : (list : List (Items ℕ)) (i : ℕ) (piece : Items ℕ) (bytes : List ℕ) → i < length list → piece ≡ get_or list i piece → bytes ≡ piece.items → items_at list i ≡ bytes
item_read list i piece bytes low is same =
    ap (λ o. option_map_or (λ (l : Items ℕ). l.items) o []) (slice_get_read list (length list) i piece refl low is) ∙ sym same

pub both_read : (list list' : List (Items ℕ)) (i : ℕ) (bytes bytes' : List ℕ) → items_at list i ≡ bytes → items_at list' i ≡ bytes' → items_at list i ++ items_at list' i ≡ bytes ++ bytes'
both_read list list' i bytes bytes' is is' = ap (λ x. x ++ items_at list' i) is ∙ ap (λ x. bytes ++ x) is'

module _ (P : List ℕ → Type 0) where
  pub same_places : (ins ins' outs outs' : List (Items ℕ)) → ins' ≡ ins → outs' ≡ outs →
      ((place : ℕ) → place < length ins → P (items_at ins place ++ items_at outs place)) → (place : ℕ) → place < length ins' → P (items_at ins' place ++ items_at outs' place)
  same_places ins ins' outs outs' is is' all =
      subst (λ (l : List (Items ℕ)). (place : ℕ) → place < length l → P (items_at l place ++ items_at outs' place)) (sym is)
      (subst (λ (m : List (Items ℕ)). (place : ℕ) → place < length ins → P (items_at ins place ++ items_at m place)) (sym is') all)

  pub at_places : (job : Job) (ins outs : List (Items ℕ)) → IsJob job → ChannelsStandInOrder → length ins ≡ length (channels job) →
      ((place : ℕ) → place < length ins → P (items_at ins place ++ items_at outs place)) →
      (e a b : ℕ) → is_channel job e a b ≡ true → P (items_at ins (channel_place job e a b) ++ items_at outs (channel_place job e a b))
  at_places job ins outs is stand many all e a b on =
      all (channel_place job e a b) (let w = slice_get_within (channels job) (channel_place job e a b) (e, a, b) (stand job e a b is on) in omega (arith, w, many))

  pub at_channels : (job : Job) (ins outs : List (Items ℕ)) → IsJob job → ChannelsFillEdges → length ins ≡ length (channels job) →
      ((e a b : ℕ) → is_channel job e a b ≡ true → P (items_at ins (channel_place job e a b) ++ items_at outs (channel_place job e a b))) →
      (place : ℕ) → place < length ins → P (items_at ins place ++ items_at outs place)
  at_channels job ins outs is fill many all place low =
      let filled = fill job is in
      let found = of_channel job place is (omega (arith, low, many, filled)) in
      subst (λ k. P (items_at ins k ++ items_at outs k)) found.is (all found.e found.a found.b found.on)
