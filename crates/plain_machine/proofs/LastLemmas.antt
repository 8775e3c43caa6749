-- At the last image all is in the tables.
use Rattle.std.proofs.Common.{◌≡◌, ℕ, zero, suc, ◌+◌, ◌<◌, true, false, cond, List, [], ◌∷◌, ◌++◌, length, get_or, drop, Option, Some, None, refl, sym, ap, ◌∙◌, arith, append_assoc, append-nil}
use Rattle.std.specs.Prelude.{slice_index, slice_get, flat_map, unwrap_or}
use Rattle.std.specs.FinMap.{entries, empty, get-empty}
use Rattle.std.proofs.lemmas.Bool.{ltb-true}
use Rattle.std.proofs.lemmas.Option.{same_Some}
use Rattle.flow_defs.specs.declared.job.Job.{Job}
use Rattle.flow_defs.specs.declared.image.Image.{Image}
use Rattle.flow_defs.specs.Records.{spans}
use Rattle.flow_defs.specs.Jobs.{last_edge, tasks, is_channel}
use Rattle.flow_defs.specs.Tables.{key_cmp, join}
use Rattle.plain_machine.specs.Cuts.{Cut, start}
use Rattle.plain_machine.specs.Worth.{concat_below, in_flight, all_tables, tally, worth}
use Rattle.plain_machine.specs.Images.{cut_of, saved, Fits, IsStart}
use Rattle.plain_machine.specs.Chains.{IsUnchanged, Goes}
use Rattle.plain_machine.specs.Theorems.{ChainIsWorthTally, ChainEndsInWorth, ChainEndsInTally}
use Rattle.plain_machine.proofs.Sums.{total-ext, total-none, unit_right, weigh-concat_below}
use Rattle.plain_machine.proofs.KeySums.{plus, plus_monoid, total_at, get-add_values, entries_add, one_table}
use Rattle.plain_machine.proofs.Conserved.{drop_nil}
use Rattle.plain_machine.proofs.WorthLemmas.{same_values, weight_on, in_tables, in_lines, get-worth, nothing_below, start_is_worth_tally}
use Rattle.plain_machine.proofs.ChainLemmas.{same_worth, chain_keeps_worth}
use Rattle.plain_machine.proofs.StartLemmas.{no_spans, start_is_start}

-- with nothing in flight and nothing unread the worth is in the tables
pub all_in_tables : (job : Job) (lines : ℕ → List (List ℕ)) (cut : Cut) → ((e : ℕ) → in_flight job cut e ≡ []) → ((a : ℕ) → a < tasks job 0 → drop (cut.offsets a) (lines a) ≡ []) → join job.agg (all_tables job cut) ≡ worth job lines cut
all_in_tables job lines cut none_flying none_unread =
    same_values _ _ (λ q.
    let agg = job.agg in
    let n = tasks job (suc (last_edge job)) in
    let mine = plus_monoid agg in
    get-add_values agg empty (flat_map entries (all_tables job cut)) q
    ∙ ap (λ x. plus agg x (total_at agg q (flat_map entries (all_tables job cut)))) (get-empty key_cmp q)
    ∙ weigh-concat_below (entries_add agg q) n (λ b. cut.tables b ∷ [])
    ∙ total-ext (plus agg) None mine n _ _ (λ b _. one_table agg q (cut.tables b))
    ∙ sym (unit_right (plus agg) None mine (in_tables job lines q cut.tables))
    ∙ ap (plus agg (in_tables job lines q cut.tables)) (sym (
    ap (λ x. plus agg x (in_lines job lines q cut.offsets))
    (total-ext (plus agg) None mine (suc (last_edge job)) _ (λ e. None) (λ e _. ap (weight_on job lines q e) (none_flying e)) ∙ total-none (plus agg) None mine (suc (last_edge job)))
    ∙ total-ext (plus agg) None mine (tasks job 0) _ (λ a. None) (λ a here. ap (weight_on job lines q 0) (none_unread a here)) ∙ total-none (plus agg) None mine (tasks job 0)))
    ∙ sym (get-worth job lines q cut))

-- ---- a last image

from_front : {X : Type 0} (n : ℕ) (f : ℕ → List X) → concat_below (suc n) f ≡ f 0 ++ concat_below n (λ i. f (suc i))
from_front zero f = sym (append-nil (f 0))
from_front (suc n) f = ap (λ xs. xs ++ f (suc n)) (from_front n f) ∙ append_assoc (f 0) (concat_below n (λ i. f (suc i))) (f (suc n))

each_alone : {X : Type 0} (xs : List X) (n : ℕ) (d : X) → n ≡ length xs → concat_below n (λ b. unwrap_or (slice_get xs b) d ∷ []) ≡ xs
each_alone [] zero d e = refl
each_alone [] (suc n) d e = absurd (omega arith)
each_alone (x ∷ xs) zero d e = absurd (omega arith)
each_alone (x ∷ xs) (suc n) d e = from_front n (λ b. unwrap_or (slice_get (x ∷ xs) b) d ∷ []) ∙ ap (λ ys. x ∷ ys) (each_alone xs n d (omega arith))

its_tables : (job : Job) (image : Image) → Fits job image → image.tables.items ≡ all_tables job (cut_of job image)
its_tables job image fit = sym (each_alone image.tables.items (tasks job (suc (last_edge job))) empty (sym fit.tables))

nothing_saved : (job : Job) (image : Image) → Fits job image → image.final_one ≡ true → (e : ℕ) → in_flight job (cut_of job image) e ≡ []
nothing_saved job image fit last e =
    nothing_below (tasks job e) _ (λ a. nothing_below (tasks job (suc e)) _ (λ b.
    elim (is_channel job e a b) as (λ t. is_channel job e a b ≡ t → cond t (spans (saved job image e a b)) [] ≡ []) [
      | true ↦ λ on. ap spans (fit.last_is_empty last e a b on) ∙ no_spans
      | false ↦ λ on. refl
    ] refl))

pub drop_all : (xs : List (List ℕ)) (n : ℕ) → n ≡ length xs → drop n xs ≡ []
drop_all [] n e = drop_nil n
drop_all (x ∷ xs) zero e = absurd (omega arith)
drop_all (x ∷ xs) (suc n) e = drop_all xs n (omega arith)

pub at_place : {X : Type 0} (xs : List X) (i : ℕ) (d x : X) → i < length xs → get_or xs i d ≡ x → slice_get xs i ≡ Some x
at_place [] i d x low e = absurd (omega arith)
at_place (y ∷ ys) zero d x low e = ap Some e
at_place (y ∷ ys) (suc i) d x low e = at_place ys i d x (omega arith) e

nothing_unread : (job : Job) (lines : ℕ → List (List ℕ)) (image : Image) → Fits job image → IsUnchanged job lines image → image.final_one ≡ true → (a : ℕ) → a < tasks job 0 → drop (slice_index image.offsets.items a) (lines a) ≡ []
nothing_unread job lines image fit same last a here =
    let low : a < length image.ended.items = omega (arith, fit.ended) in
    drop_all (lines a) (slice_index image.offsets.items a) (same.ended a here (at_place image.ended.items a true true low (fit.last_is_ended last a true low)))

-- ---- an image that follows has read as far as its sources go

goes-unchanged : (job : Job) (lines : ℕ → List (List ℕ)) (every : Option ℕ) (old new : Image) → Goes job lines every old new → IsUnchanged job lines new
goes-unchanged job lines None old new goes = record {
  read = λ a here. let e = goes.offsets a here in omega (arith, e);
  ended = λ a here _. goes.offsets a here;
}
goes-unchanged job lines (Some n) old new goes = record {
  read = λ a here. let e = goes.offsets a here in omega (arith, e);
  ended = λ a here is.
      let e = goes.offsets a here in
      let past : length (lines a) < slice_index old.offsets.items a + n = ltb-true _ _ (same_Some _ true (sym (goes.ended a here) ∙ is)) in
      omega (arith, e, past);
}

pub chain_ends_in_worth : ChainEndsInWorth
chain_ends_in_worth job lines every base [] is fit same chain last =
    ap (join job.agg) (its_tables job base fit) ∙ all_in_tables job lines (cut_of job base) (nothing_saved job base fit last) (nothing_unread job lines base fit same last)
chain_ends_in_worth job lines every base (image ∷ images) is fit same chain last =
    let first = chain.0 in
    chain_ends_in_worth job lines every image images is first.fits (goes-unchanged job lines every base image first.goes) chain.1 last
    ∙ chain_keeps_worth job lines every base (image ∷ []) is (first, tt)

-- ---- from the start on

start_unchanged : (job : Job) (lines : ℕ → List (List ℕ)) (image : Image) → IsStart job image → IsUnchanged job lines image
start_unchanged job lines image is = record {
  read = λ a here. let e = (start_is_start job image is).offsets a here in omega (arith, e);
  ended = λ a here on.
      let low : a < length image.ended.items = omega (arith, is.fits.ended) in
      let e : false ≡ true = same_Some false true (sym (at_place image.ended.items a false false low (is.ended a false low)) ∙ on) in cc;
}

start_worth : (job : Job) (lines : ℕ → List (List ℕ)) (image : Image) → IsStart job image → worth job lines (cut_of job image) ≡ tally job lines
start_worth job lines image is = same_worth job lines (cut_of job image) start (start_is_start job image is) ∙ start_is_worth_tally job lines

pub chain_is_worth_tally : ChainIsWorthTally
chain_is_worth_tally job lines every base images is begins chain = chain_keeps_worth job lines every base images is chain ∙ start_worth job lines base begins

pub chain_ends_in_tally : ChainEndsInTally
chain_ends_in_tally job lines every base images is begins chain last =
    chain_ends_in_worth job lines every base images is begins.fits (start_unchanged job lines base begins) chain last ∙ start_worth job lines base begins
