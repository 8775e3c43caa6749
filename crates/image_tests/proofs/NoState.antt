-- A snapshot of a task with nothing in its state.
use Rattle.std.proofs.Common.{◌≡◌, ℕ, zero, suc, List, [], sym, subst, arith}
use Rattle.std.specs.Prelude.{All}
use Rattle.std.specs.FinMap.{empty}
use Rattle.std.proofs.lemmas.List.Elements.{All-nil}
use Rattle.flow_defs.specs.declared.job.Job.{Job}
use Rattle.flow_defs.specs.declared.image.Saved.{Saved}
use Rattle.flow_defs.specs.declared.image.Snapshot.{Snapshot}
use Rattle.flow_defs.specs.declared.image.TakeRun.{TakeRun}
use Rattle.flow_defs.specs.Records.{IsShort}
use Rattle.flow_defs.specs.Tables.{Values}
use Rattle.plain_machine.specs.Images.{AreRuns, HasShortKeys}
use Rattle.plain_machine.proofs.KeySums.{entries-empty}
use Rattle.snapshot_channel.specs.Snapshots.{AreTakesAt, FitsTask, LeadsTo, ComesFrom, HaveOwnChannels}

pub no_keys : (table : Values) → table ≡ empty → HasShortKeys table
no_keys table is = subst HasShortKeys (sym is) (subst (All (λ (row : List ℕ × ℕ). IsShort row.0)) (sym entries-empty) (All-nil (λ (row : List ℕ × ℕ). IsShort row.0)))

no_takes : (job : Job) (stage index : ℕ) (runs : List TakeRun) → runs ≡ [] → AreTakesAt job stage index runs
no_takes job zero index runs is = is
no_takes job (suc e) index runs is = subst (AreRuns job e index) (sym is) tt

none : {X : Type 0} (P : X → Type 0) (xs : List X) → xs ≡ [] → All P xs
none P xs is = subst (All P) (sym is) (All-nil P)

none_twice : (pieces : List Saved) → pieces ≡ [] → HaveOwnChannels pieces
none_twice pieces is = subst HaveOwnChannels (sym is) (λ i j d low high same. absurd (omega (arith, high)))

-- it fits each task
pub fits_any : (job : Job) (x : Snapshot) → x.table ≡ empty → x.takes.items ≡ [] → x.saved_in.items ≡ [] → x.saved_out.items ≡ [] → FitsTask job x
fits_any job x table takes came_in goes_out = record {
  keys = no_keys x.table table;
  runs = no_takes job x.task.stage x.task.index x.takes.items takes;
  came_in = none (λ (p : Saved). LeadsTo job x.task p.channel) x.saved_in.items came_in;
  came_in_once = none_twice x.saved_in.items came_in;
  goes_out = none (λ (p : Saved). ComesFrom job x.task p.channel) x.saved_out.items goes_out;
  goes_out_once = none_twice x.saved_out.items goes_out;
}
