use Rattle.im_alloc_intervals.proofs.Stepping.{adds_start}
use Rattle.im_alloc_intervals.specs.Lines.{SetBy}
use Rattle.im_alloc_intervals.proofs.Lining.{targets_next, targets_all}
use Rattle.im_alloc_intervals.proofs.lines.touch_targets.Goals as goal

pub loop-i-init : goal.loop-i-init
loop-i-init c = adds_start (SetBy c.args.lines.now c.args.start) c.args.table.now

pub loop-i-preserved : goal.loop-i-preserved
loop-i-preserved c = targets_next c.args.lines.now c.args.start c.loop-i.i c.args.table.now c.loop-i.table c.touch_target.new.table c.loop-i-test.true c.loop-i.invariant c.touch_target.ensures

pub returns : goal.returns
returns c = targets_all c.args.lines.now c.args.start c.loop-i.i c.args.table.now c.loop-i.table c.loop-i-test.false c.loop-i.invariant
