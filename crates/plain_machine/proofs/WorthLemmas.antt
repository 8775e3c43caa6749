-- A successor keeps the worth, and the worth of the start is the tally: key by key, as sums over tables,
-- edges and lines.
use Rattle.std.proofs.Common.{◌≡◌, ℕ, zero, suc, ◌-◌, ◌≤◌, true, false, cond, List, [], ◌∷◌, ◌++◌, take, drop, Option, None, refl, sym, ap, ◌∙◌, arith}
use Rattle.std.specs.Prelude.{flat_map, slice_range}
use Rattle.std.specs.FinMap.{get, get-empty, same_map, slice_cmp-IsAntisymmetric, nat_cmp-IsAntisymmetric}
use Rattle.std.proofs.lemmas.Cmp.{nat_list_cmp_total}
use Rattle.std.proofs.Math.ListN.{take-append-drop}
use Rattle.flow_defs.specs.declared.job.Job.{Job}
use Rattle.flow_defs.specs.declared.image.TakeRun.{TakeRun}
use Rattle.flow_defs.specs.Jobs.{last_edge, tasks, is_channel, IsJob}
use Rattle.flow_defs.specs.Tables.{Values, key_cmp}
use Rattle.plain_machine.specs.Cuts.{Cut, start}
use Rattle.plain_machine.specs.Steps.{Rises, sent, taken, next}
use Rattle.plain_machine.specs.Worth.{reach, concat_below, in_flight, unread, to_come, worth}
use Rattle.plain_machine.specs.Theorems.{SuccessorKeepsWorth, StartIsWorthTally}
use Rattle.plain_machine.proofs.Sums.{IsMonoid, IsWeight, total, total-op, total-ext, total-none, weigh-concat_below, along}
use Rattle.plain_machine.proofs.KeySums.{plus, plus_monoid, normal, at_key, at_key_adds, through_adds, get-table_of, normal-add_all, get-join}
use Rattle.plain_machine.proofs.Reach.{reach-all, reach-same}
use Rattle.plain_machine.proofs.Edges.{over_edge}

pub drop-drop : (xs : List (List ℕ)) (a b : ℕ) → a ≤ b → drop a xs ≡ slice_range xs a b ++ drop b xs
drop-drop xs zero b h = sym (take-append-drop b xs) ∙ ap (λ k. take k xs ++ drop b xs) (let z : b ≡ b - 0 = omega arith in z)
drop-drop xs (suc a) zero h = absurd (omega arith)
drop-drop [] (suc a) (suc b) h = sym (nothing (suc b - suc a))
  where
    nothing : (k : ℕ) → ◌≡◌ {A = List (List ℕ)} (take k [] ++ []) []
    nothing zero = refl
    nothing (suc k) = refl
drop-drop (x ∷ xs) (suc a) (suc b) h = drop-drop xs a b (omega arith) ∙ ap (λ k. take k (drop a xs) ++ drop b xs) (let z : b - a ≡ suc b - suc a = omega arith in z)

module _ (job : Job) (lines : ℕ → List (List ℕ)) (q : List ℕ) where
  -- what records on edge e will be worth
  abbrev pub weight_on : ℕ → List (List ℕ) → Option ℕ
  weight_on e records = at_key job.agg q (flat_map (reach job e (last_edge job)) records)

  weight_adds : (e : ℕ) → IsWeight (plus job.agg) None (weight_on e)
  weight_adds e = through_adds job.agg q (reach job e (last_edge job))

  laws : IsMonoid (plus job.agg) None
  laws = plus_monoid job.agg

  abbrev pub summed : ℕ → (ℕ → Option ℕ) → Option ℕ
  summed n f = total (plus job.agg) None n f

  -- the three parts of the worth: tables, records in flight, and lines
  abbrev pub in_tables : (ℕ → Values) → Option ℕ
  in_tables tables = summed (tasks job (suc (last_edge job))) (λ b. normal job.agg (get (tables b) q))

  abbrev pub on_edges : Cut → Option ℕ
  on_edges cut = summed (suc (last_edge job)) (λ e. weight_on e (in_flight job cut e))

  abbrev pub in_lines : (ℕ → ℕ) → Option ℕ
  in_lines offsets = summed (tasks job 0) (λ a. weight_on 0 (drop (offsets a) (lines a)))

  pub get-worth : (cut : Cut) → get (worth job lines cut) q ≡ plus job.agg (in_tables cut.tables) (plus job.agg (on_edges cut) (in_lines cut.offsets))
  get-worth cut =
      let last = last_edge job in
      get-join job.agg q (tasks job (suc last)) cut.tables (to_come job lines cut last)
      ∙ ap (plus job.agg (in_tables cut.tables)) (
      (at_key_adds job.agg q).append (concat_below (suc last) (λ i. flat_map (reach job i last) (in_flight job cut i))) (flat_map (reach job 0 last) (unread job lines cut))
      ∙ ap (λ x. plus job.agg x (weight_on 0 (unread job lines cut))) (weigh-concat_below (at_key_adds job.agg q) (suc last) (λ i. flat_map (reach job i last) (in_flight job cut i)))
      ∙ ap (plus job.agg (on_edges cut)) (weigh-concat_below (weight_adds 0) (tasks job 0) (λ a. drop (cut.offsets a) (lines a))))

  regrouped : (tab f f' e t l : Option ℕ) → plus job.agg f e ≡ plus job.agg f' t → plus job.agg (plus job.agg tab t) (plus job.agg f' l) ≡ plus job.agg tab (plus job.agg f (plus job.agg e l))
  regrouped tab f f' e t l h =
      laws.assoc tab t (plus job.agg f' l)
      ∙ ap (plus job.agg tab) (
      sym (laws.assoc t f' l) ∙ ap (λ x. plus job.agg x l) (laws.comm t f' ∙ sym h) ∙ laws.assoc f e l)

  module _ (cut : Cut) (takes : ℕ → ℕ → List TakeRun) (offsets : ℕ → ℕ) where
    emits : ℕ → Option ℕ
    emits e = summed (tasks job e) (λ a. weight_on e (sent job lines cut takes offsets e a))

    arrives : ℕ → Option ℕ
    arrives e = summed (tasks job (suc e)) (λ b. weight_on e (taken job lines cut takes offsets e b))

    over_edges : IsJob job → plus job.agg (on_edges cut) (emits 0) ≡ plus job.agg (on_edges (next job lines cut takes offsets)) (arrives (last_edge job))
    unfolding emits arrives
    over_edges is = along (plus job.agg) None laws (last_edge job)
        (λ e. weight_on e (in_flight job cut e)) (λ e. weight_on e (in_flight job (next job lines cut takes offsets) e)) emits arrives
        (λ e low. over_edge job lines cut takes offsets is (plus job.agg) None laws e low (weight_on e) (weight_adds e))
        (λ e low. total-ext (plus job.agg) None laws (tasks job (suc e)) _ _ (λ b _. ap (at_key job.agg q) (reach-all job e (last_edge job) low (omega arith) (taken job lines cut takes offsets e b))))
        (last_edge job) (omega arith)

    tables_after : in_tables (next job lines cut takes offsets).tables ≡ plus job.agg (in_tables cut.tables) (arrives (last_edge job))
    unfolding arrives
    tables_after =
        total-ext (plus job.agg) None laws (tasks job (suc (last_edge job))) _ _ (λ b _.
        normal-add_all job.agg q (cut.tables b) (taken job lines cut takes offsets (last_edge job) b)
        ∙ ap (λ records. plus job.agg (normal job.agg (get (cut.tables b) q)) (at_key job.agg q records)) (sym (reach-same job (last_edge job) (taken job lines cut takes offsets (last_edge job) b))))
        ∙ total-op (plus job.agg) None laws (tasks job (suc (last_edge job))) _ _

    lines_before : Rises job cut.offsets offsets → in_lines cut.offsets ≡ plus job.agg (emits 0) (in_lines offsets)
    unfolding emits
    lines_before rise =
        total-ext (plus job.agg) None laws (tasks job 0) _ _ (λ a h.
        ap (weight_on 0) (drop-drop (lines a) (cut.offsets a) (offsets a) (rise a h))
        ∙ (weight_adds 0).append (slice_range (lines a) (cut.offsets a) (offsets a)) (drop (offsets a) (lines a)))
        ∙ total-op (plus job.agg) None laws (tasks job 0) _ _

    pub get-worth-next : IsJob job → Rises job cut.offsets offsets → get (worth job lines (next job lines cut takes offsets)) q ≡ get (worth job lines cut) q
    get-worth-next is rise =
        let new = next job lines cut takes offsets in
        get-worth new
        ∙ ap (λ x. plus job.agg x (plus job.agg (on_edges new) (in_lines offsets))) tables_after
        ∙ regrouped (in_tables cut.tables) (on_edges cut) (on_edges new) (emits 0) (arrives (last_edge job)) (in_lines offsets) (over_edges is)
        ∙ ap (λ x. plus job.agg (in_tables cut.tables) (plus job.agg (on_edges cut) x)) (sym (lines_before rise))
        ∙ sym (get-worth cut)

pub nothing_below : (n : ℕ) (f : ℕ → List (List ℕ)) → ((i : ℕ) → f i ≡ []) → concat_below n f ≡ []
nothing_below zero f h = refl
nothing_below (suc n) f h = ap (λ xs. xs ++ f n) (nothing_below n f h) ∙ h n

-- the same at each key: the same table
pub same_values : (s t : Values) → ((q : List ℕ) → get s q ≡ get t q) → s ≡ t
same_values = same_map nat_list_cmp_total (slice_cmp-IsAntisymmetric nat_cmp-IsAntisymmetric)

pub successor_keeps_worth : SuccessorKeepsWorth
successor_keeps_worth job lines cut takes offsets is rise = same_values _ _ (λ q. get-worth-next job lines q cut takes offsets is rise)

none_at_start : (job : Job) (e : ℕ) → in_flight job start e ≡ []
none_at_start job e = nothing_below (tasks job e) _ (λ a. nothing_below (tasks job (suc e)) _ (λ b.
    elim (is_channel job e a b) as (λ t. ◌≡◌ {A = List (List ℕ)} (cond t [] []) []) [ true ↦ refl | false ↦ refl ]))

pub start_is_worth_tally : StartIsWorthTally
start_is_worth_tally job lines =
    same_values _ _ (λ q.
    let agg = job.agg in
    let mine = laws job lines q in
    get-worth job lines q start
    ∙ ap (λ x. plus agg x (plus agg (on_edges job lines q start) (in_lines job lines q start.offsets)))
    (total-ext (plus agg) None mine (tasks job (suc (last_edge job))) _ (λ b. None) (λ b _. ap (normal agg) (get-empty key_cmp q)) ∙ total-none (plus agg) None mine (tasks job (suc (last_edge job))))
    ∙ ap (λ x. plus agg x (in_lines job lines q start.offsets))
    (total-ext (plus agg) None mine (suc (last_edge job)) _ (λ e. None) (λ e _. ap (weight_on job lines q e) (none_at_start job e)) ∙ total-none (plus agg) None mine (suc (last_edge job)))
    ∙ sym (weigh-concat_below (weight_adds job lines q 0) (tasks job 0) lines)
    ∙ sym (get-table_of agg q (flat_map (reach job 0 (last_edge job)) (concat_below (tasks job 0) lines))))
