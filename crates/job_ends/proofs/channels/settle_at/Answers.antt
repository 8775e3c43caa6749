use Rattle.job_ends.proofs.Loops.{loop_pass, task_pass, loops_after, loops_go_on, settled_here}
use Rattle.job_ends.proofs.channels.settle_at.Goals as goal

pub settle-requires : goal.settle-requires
settle-requires g c = (
  task_pass c.args.cells.now c.args.loops.now.items c.as_mut_slice.result.now c.args.place c.index-cells-place.result c.index-as_mut_slice-place.result
      c.requires.loops c.as_mut_slice.ensures.value c.requires.within c.index-cells-place.is c.index-as_mut_slice-place.is c.args.pass c.requires.pass,
  loop_pass c.args.cells.now c.args.loops.now.items c.as_mut_slice.result.now c.args.place c.index-cells-place.result c.index-as_mut_slice-place.result
      c.requires.loops c.as_mut_slice.ensures.value c.requires.within c.index-cells-place.is c.index-as_mut_slice-place.is,
)

pub returns-clause-loops : goal.returns-clause-loops
returns-clause-loops g c =
    loops_after c.args.cells.now c.args.loops.now.items c.as_mut_slice.result.now c.args.place c.index-cells-place.result c.index-as_mut_slice-place.result
    c.requires.loops c.as_mut_slice.ensures.value c.requires.within c.index-cells-place.is c.index-as_mut_slice-place.is c.settle.new.b c.settle.ensures.passes.1 c.settle.ensures.same.1

pub returns-clause-go_on : goal.returns-clause-go_on
returns-clause-go_on g c =
    loops_go_on c.args.cells.now c.args.loops.now.items c.as_mut_slice.result.now c.args.place c.index-cells-place.result c.index-as_mut_slice-place.result
    c.requires.loops c.as_mut_slice.ensures.value c.requires.within c.index-cells-place.is c.index-as_mut_slice-place.is c.settle.new.b c.settle.ensures.same.1 c.settle.ensures.later.1

pub returns-clause-settled : goal.returns-clause-settled
returns-clause-settled g c =
    settled_here c.args.cells.now c.args.loops.now.items c.as_mut_slice.result.now c.args.place c.index-cells-place.result c.index-as_mut_slice-place.result
    c.requires.loops c.as_mut_slice.ensures.value c.requires.within c.index-cells-place.is c.index-as_mut_slice-place.is g.S.Turned.stands c.args.pass c.requires.pass c.settle.ensures.settled
