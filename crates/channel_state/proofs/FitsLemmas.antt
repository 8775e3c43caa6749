-- An image fits a job where it fits another one of the same tasks and edges.
use Rattle.std.proofs.Common.{◌≡◌, ◌≢◌, ℕ, zero, suc, ◌+◌, ◌-◌, ◌<◌, ◌≤◌, Bool, true, ◌&&◌, leb, ltb, List, [], ◌∷◌, ◌++◌, length, refl, sym, ap, subst, ◌∙◌, arith, inl, inr}
use Rattle.std.proofs.lemmas.Bool.{cases_lt, eq-eqb}
use Rattle.std.specs.Prelude.{slice_get, IsTrue}
use Rattle.flow_defs.specs.declared.job.Job.{Job}
use Rattle.flow_defs.specs.declared.job.Exchange.{Exchange}
use Rattle.flow_defs.specs.declared.job.Exchange.TheVariants.{Hash, Rebalance, Forward}
use Rattle.flow_defs.specs.declared.image.TakeRun.{TakeRun}
use Rattle.flow_defs.specs.declared.image.Image.{Image}
use Rattle.flow_defs.specs.Jobs.{last_edge, tasks, exchange, joins, is_channel, width, edge_width, sum_below, IsJob}
use Rattle.plain_machine.specs.Worth.{concat_below}
use Rattle.plain_machine.specs.Places.{sending_tasks, receiving_tasks, channels, receiver_place, place_on_edge, channel_place}
use Rattle.plain_machine.specs.Images.{items_at, saved, takes_of, AreRuns, AreSpans, Fits}
use Rattle.plain_machine.proofs.Channels.{Ends, ends_of, channel_of}
use Rattle.plain_machine.proofs.PlaceLemmas.{length-concat_below, channels_fill, length-each, sum_same}
use Rattle.job_text.specs.Laws.{HaveSameTasks}

same_sum : (n : ℕ) (f g : ℕ → ℕ) → ((i : ℕ) → f i ≡ g i) → sum_below n f ≡ sum_below n g
same_sum zero f g same = refl
same_sum (suc n) f g same = ap (λ k. k + f n) (same_sum n f g same) ∙ ap (λ k. sum_below n g + k) (same n)

pub many_send : (job : Job) → length (sending_tasks job) ≡ sum_below (suc (last_edge job)) (tasks job)
many_send job = length-concat_below (suc (last_edge job)) (λ i. concat_below (tasks job i) (λ a. (i, a) ∷ [])) (tasks job) (λ i _. length-each (tasks job i) (λ a. (i, a)))

pub many_receive : (job : Job) → length (receiving_tasks job) ≡ sum_below (suc (last_edge job)) (λ e. tasks job (suc e))
many_receive job = length-concat_below (suc (last_edge job)) (λ e. concat_below (tasks job (suc e)) (λ b. (suc e, b) ∷ [])) (λ e. tasks job (suc e)) (λ e _. length-each (tasks job (suc e)) (λ b. (suc e, b)))

pub turned_tasks : (job other : Job) → HaveSameTasks job other → HaveSameTasks other job
turned_tasks job other same = record { edges = sym same.edges; widths = λ i. sym (same.widths i); exchanges = λ e. sym (same.exchanges e) }

module _ (job other : Job) (same : HaveSameTasks job other) where
  same_channel : (e a b : ℕ) → is_channel job e a b ≡ is_channel other e a b
  same_channel e a b =
      ap (λ k. leb e k && ltb a (tasks job e) && ltb b (tasks job (suc e)) && joins (exchange job e) a b) same.edges
      ∙ ap (λ k. leb e (last_edge other) && ltb a k && ltb b (tasks job (suc e)) && joins (exchange job e) a b) (same.widths e)
      ∙ ap (λ k. leb e (last_edge other) && ltb a (tasks other e) && ltb b k && joins (exchange job e) a b) (same.widths (suc e))
      ∙ ap (λ x. leb e (last_edge other) && ltb a (tasks other e) && ltb b (tasks other (suc e)) && joins x a b) (same.exchanges e)

  same_width : (e : ℕ) → edge_width job e ≡ edge_width other e
  same_width e =
      ap (λ x. width x (tasks job e) (tasks job (suc e))) (same.exchanges e) ∙ ap (λ k. width (exchange other e) k (tasks job (suc e))) (same.widths e) ∙ ap (width (exchange other e) (tasks other e)) (same.widths (suc e))

  same_channel_place : (e a b : ℕ) → channel_place job e a b ≡ channel_place other e a b
  same_channel_place e a b =
      ap (λ k. k + place_on_edge (exchange job e) (tasks job (suc e)) a b) (same_sum e (edge_width job) (edge_width other) same_width)
      ∙ ap (λ x. sum_below e (edge_width other) + place_on_edge x (tasks job (suc e)) a b) (same.exchanges e)
      ∙ ap (λ k. sum_below e (edge_width other) + place_on_edge (exchange other e) k a b) (same.widths (suc e))

  same_receiver_place : (e b : ℕ) → receiver_place job e b ≡ receiver_place other e b
  same_receiver_place e b = ap (λ k. k + b) (same_sum e (λ i. tasks job (suc i)) (λ i. tasks other (suc i)) (λ i. same.widths (suc i)))

  same_saved : (image : Image) (e a b : ℕ) → saved job image e a b ≡ saved other image e a b
  same_saved image e a b = ap (λ p. items_at image.saved_in.items p ++ items_at image.saved_out.items p) (same_channel_place e a b)

  same_runs : (e b : ℕ) (runs : List TakeRun) → AreRuns job e b runs → AreRuns other e b runs
  same_runs e b [] are = tt
  same_runs e b (run ∷ []) are = (sym (same_channel e run.from b) ∙ are.0, are.1)
  same_runs e b (run ∷ next ∷ runs) are = (sym (same_channel e run.from b) ∙ are.0, are.1, are.2, same_runs e b (next ∷ runs) are.3)

  same_edges : (f g : ℕ → ℕ) → ((i : ℕ) → f i ≡ g i) → sum_below (suc (last_edge job)) f ≡ sum_below (suc (last_edge other)) g
  same_edges f g each = ap (λ n. sum_below (suc n) f) same.edges ∙ same_sum (suc (last_edge other)) f g each

  pub same_fits : (image : Image) → IsJob job → IsJob other → Fits job image → Fits other image
  same_fits image is is' fits =
      let channels_same : length (channels job) ≡ length (channels other) = channels_fill job is ∙ same_edges (edge_width job) (edge_width other) same_width ∙ sym (channels_fill other is') in
      let edges = same.edges in
      record {
        offsets = fits.offsets ∙ same.widths 0;
        ended = fits.ended ∙ same.widths 0;
        emitted = fits.emitted ∙ many_send job ∙ same_edges (tasks job) (tasks other) same.widths ∙ sym (many_send other);
        tables = fits.tables ∙ ap (λ n. tasks job (suc n)) edges ∙ same.widths (suc (last_edge other));
        takes = fits.takes ∙ many_receive job ∙ same_edges (λ e. tasks job (suc e)) (λ e. tasks other (suc e)) (λ e. same.widths (suc e)) ∙ sym (many_receive other);
        saved_in = fits.saved_in ∙ channels_same;
        saved_out = fits.saved_out ∙ channels_same;
        keys = fits.keys;
        runs = λ e b low here. subst (AreRuns other e b) (ap (items_at image.takes.items) (same_receiver_place e b))
            (same_runs e b (takes_of job image (suc e) b) (fits.runs e b (omega (arith, low, edges)) (subst (λ n. b < n) (sym (same.widths (suc e))) here)));
        spans = λ e a b on. subst AreSpans (same_saved image e a b) (fits.spans e a b (same_channel e a b ∙ on));
        last_is_ended = fits.last_is_ended;
        last_is_empty = λ last e a b on. sym (same_saved image e a b) ∙ fits.last_is_empty last e a b (same_channel e a b ∙ on);
      }

-- ---- each place is one of a channel

record At (g : ℕ → ℕ) (n place : ℕ) : Type 0 where
  pub i : ℕ
  pub a : ℕ
  pub low : i < n
  pub here : a < g i
  pub is : place ≡ sum_below i g + a

at_place : (g : ℕ → ℕ) (n place : ℕ) → place < sum_below n g → At g n place
at_place g zero place within = absurd (omega (arith, within))
at_place g (suc n) place within = elim (cases_lt place (sum_below n g)) [
  | inl below ↦ let deep = at_place g n place below in record { i = deep.i; a = deep.a; low = omega (arith, deep.low); here = deep.here; is = deep.is }
  | inr above ↦ record { i = n; a = place - sum_below n g; low = omega arith; here = omega (arith, within, above); is = omega (arith, above) }
]

record OnEdge (x : Exchange) (m n q : ℕ) : Type 0 where
  pub a : ℕ
  pub b : ℕ
  pub sender : a < m
  pub receiver : b < n
  pub joined : joins x a b ≡ true
  pub is : place_on_edge x n a b ≡ q

on_edge : (x : Exchange) (m n q : ℕ) → (x ≡ Forward → m ≡ n) → q < width x m n → OnEdge x m n q
on_edge Hash m n q wide low =
    let at = at_place (λ i. n) m q (subst (λ k. q < k) (sym (sum_same m n)) low) in
    record { a = at.i; b = at.a; sender = at.low; receiver = at.here; joined = refl; is = ap (λ k. k + at.a) (sym (sum_same at.i n)) ∙ sym at.is }
on_edge Rebalance m n q wide low =
    let at = at_place (λ i. n) m q (subst (λ k. q < k) (sym (sum_same m n)) low) in
    record { a = at.i; b = at.a; sender = at.low; receiver = at.here; joined = refl; is = ap (λ k. k + at.a) (sym (sum_same at.i n)) ∙ sym at.is }
on_edge Forward m n q wide low =
    record { a = q; b = q; sender = low; receiver = subst (λ k. q < k) (wide refl) low; joined = eq-eqb q q refl; is = refl }

pub record OfChannel (job : Job) (place : ℕ) : Type 0 where
  pub e : ℕ
  pub a : ℕ
  pub b : ℕ
  pub on : is_channel job e a b ≡ true
  pub is : channel_place job e a b ≡ place

pub of_channel : (job : Job) (place : ℕ) → IsJob job → place < length (channels job) → OfChannel job place
of_channel job place is low =
    let at = at_place (edge_width job) (suc (last_edge job)) place (subst (λ k. place < k) (channels_fill job is) low) in
    let edge : at.i ≤ last_edge job = (let l = at.low in omega (arith, l)) in
    let found = on_edge (exchange job at.i) (tasks job at.i) (tasks job (suc at.i)) at.a (is.widths at.i edge) at.here in
    record {
      e = at.i;
      a = found.a;
      b = found.b;
      on = channel_of job at.i found.a found.b (record { edge = edge; sender = found.sender; receiver = found.receiver; joined = found.joined });
      is = ap (λ k. sum_below at.i (edge_width job) + k) found.is ∙ sym at.is;
    }
