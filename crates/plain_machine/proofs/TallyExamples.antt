-- Tallies of whole jobs, as they are printed.
use Rattle.std.proofs.Common.{◌≡◌, ℕ, zero, suc, List, [], ◌∷◌}
use Rattle.std.specs.Prelude.{codes}
use Rattle.std.specs.Fmt.{digits}
use Rattle.std.specs.FinMap.{entries-insert, get-insert, get-empty}
use Rattle.std.proofs.lemmas.Cmp.{nat_list_cmp_total}
use Rattle.flow_defs.specs.declared.job.Job.{Job}
use Rattle.flow_defs.specs.declared.job.Stage.{Stage}
use Rattle.flow_defs.specs.declared.job.StageKind.TheVariants.{Words, Keep, Field}
use Rattle.flow_defs.specs.declared.job.Exchange.TheVariants.{Hash, Rebalance}
use Rattle.flow_defs.specs.declared.job.AggKind.TheVariants.{Count}
use Rattle.flow_defs.specs.Lines.{lines}
use Rattle.flow_defs.specs.Stages.{apply}
use Rattle.flow_defs.specs.Tables.{key_cmp, table_text}
use Rattle.plain_machine.specs.Worth.{tally}
use Rattle.plain_machine.proofs.KeySums.{entries-empty}
use Rattle.plain_machine.proofs.Samples.{full}

-- a job of one source with these stages, which counts
abbrev counting : List Stage → Job
counting stages = record { sources = full (full (codes "in") ∷ []); stages = full stages; agg = Count; agg_tasks = 1; text = full [] }

words_counted :
    table_text (tally (counting (record { kind = Words; arg = full []; tasks = 1; exchange = Rebalance } ∷ [])) (λ a. lines (codes "a b a\n"))) ≡ codes "a\t2\nb\t1\n"
unfolding apply digits
words_counted = simp (entries-insert {X = ℕ} nat_list_cmp_total, get-insert {X = ℕ} nat_list_cmp_total, get-empty {X = ℕ} key_cmp, entries-empty)

-- a second field may be empty or missing
fields_counted :
    table_text (tally (counting (record { kind = Field; arg = full (codes "2"); tasks = 1; exchange = Rebalance } ∷ [])) (λ a. lines (codes "a,b,c\na\na,\n"))) ≡ codes "\t1\nb\t1\n"
unfolding apply digits
fields_counted = simp (entries-insert {X = ℕ} nat_list_cmp_total, get-insert {X = ℕ} nat_list_cmp_total, get-empty {X = ℕ} key_cmp, entries-empty)

-- ---- two sources and two stages

abbrev requests : Job
requests = record {
  sources = full (full (codes "first") ∷ full (codes "second") ∷ []);
  stages = full (
      record { kind = Keep; arg = full (codes "GET"); tasks = 2; exchange = Rebalance }
      ∷ record { kind = Field; arg = full (codes "2"); tasks = 2; exchange = Hash } ∷ []);
  agg = Count;
  agg_tasks = 2;
  text = full [];
}

abbrev logged : ℕ → List (List ℕ)
logged zero = lines (codes "GET,/a,3\nPUT,/b,4\nGET,/a,5\n")
logged (suc a) = lines (codes "GET,/c,1\n")

requests_counted : table_text (tally requests logged) ≡ codes "/a\t2\n/c\t1\n"
unfolding apply digits
requests_counted = simp (entries-insert {X = ℕ} nat_list_cmp_total, get-insert {X = ℕ} nat_list_cmp_total, get-empty {X = ℕ} key_cmp, entries-empty)
