use Rattle.std.proofs.Common.{List, length, refl, sym, ap, subst, ◌∙◌}
use Rattle.flow_defs.specs.Items.{Items}
use Rattle.flow_defs.proofs.Lists.{refilled}
use Rattle.snapshot_channel.specs.declared.views.Opening.{Opening}
use Rattle.job_workers.specs.Loops.{MayRunLoop}
use Rattle.job_workers.specs.Places.{Each, MayRun}
use Rattle.job_workers.specs.Tasks.{MayRunTask}
use Rattle.job_ends.specs.Ended.{LoopPlace, TaskPlace}
use Rattle.job_outcome.specs.Words.{link_words}
use Rattle.job_run.proofs.DeployLaws.{loops_may_run, pairs_of, tasks_may_run, what_it_left}
use Rattle.job_run.proofs.workers.run_workers.Goals as goal

pub run_all-requires-clause-rows : goal.run_all-requires-clause-rows
run_all-requires-clause-rows g c κs within =
    subst (λ (l : List (Items (TaskPlace g.row.S.Denot))). Each (λ (row : Items (TaskPlace g.row.S.Denot)). Each (MayRun (MayRunTask c.args.job.now)) row.items) l)
    (sym c.as_mut_slice.ensures.value) (tasks_may_run c.in_ok-deployed.ensures.deployed)

pub run_all-requires-clause-loops : goal.run_all-requires-clause-loops
run_all-requires-clause-loops g c κs within =
    let links = link_words g.N.Out.LinkOut g.N.In.LinkIn g.N.Links.belong in
    subst (λ (l : List (Items (LoopPlace g.row.N-Out.Denot g.row.N-In.Denot))). Each (λ (row : Items (LoopPlace g.row.N-Out.Denot g.row.N-In.Denot)). Each (MayRun (MayRunLoop g.N.Out.LinkOut.finished)) row.items) l)
    (sym c.as_mut_slice-2.ensures.value)
    (loops_may_run c.in_ok-deployed.ensures.deployed links c.requires.edges c.requires.wires c.requires.unused)

pub returns-clause-ran : goal.returns-clause-ran
returns-clause-ran g c =
    let rows = c.in_ok-deployed.deployed.rows.items in
    let loops = c.in_ok-deployed.deployed.loops.items in
    let rows_many = c.run_all.ensures.many.0 ∙ ap length c.as_mut_slice.ensures.value in
    let loops_many = c.run_all.ensures.many.1 ∙ ap length c.as_mut_slice-2.ensures.value in
    let rows_back = refilled rows c.run_all.new.rows rows_many in
    let loops_back = refilled loops c.run_all.new.loops loops_many in
    let one = what_it_left (g.K.Keeper.images c.args.keeper.now) (g.K.Keeper.images c.run_all.new.keeper) (g.K.Keeper.faults c.args.keeper.now) (g.K.Keeper.faults c.run_all.new.keeper)
    _ c.run_all.new.collecting c.run_all.ensures.collecting in
    record {
      is_job = c.requires.is_job.0;
      edges_are = c.requires.edges;
      inputs_many = c.requires.inputs;
      wires_many = c.requires.wires;
      new_wires = c.requires.unused;
      rows_before = rows;
      loops_before = loops;
      deployed = c.in_ok-deployed.ensures.deployed;
      rows_many = ap length rows_back ∙ rows_many;
      rows_left = pairs_of c.as_mut_slice.ensures.value (sym rows_back) c.run_all.ensures.rows;
      loops_many = ap length loops_back ∙ loops_many;
      loops_left = pairs_of c.as_mut_slice-2.ensures.value (sym loops_back) c.run_all.ensures.loops;
      task = _;
      task_is = (refl, refl, refl, sym (ap (λ (o : Opening). o.start) c.requires.dealt.opening_is));
      interval = c.requires.checkpoints.interval;
      end = one.0;
      end_is = one.1;
      collector = one.2;
    }
