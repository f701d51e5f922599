use Rattle.im_alloc_intervals.proofs.Stepping.{flags_start}
use Rattle.im_alloc_intervals.specs.Lines.{PassedBy}
use Rattle.im_alloc_intervals.proofs.Lining.{passed_next, passed_all}
use Rattle.im_alloc_intervals.proofs.lines.flag_arguments.Goals as goal

pub loop-line-init : goal.loop-line-init
loop-line-init c = flags_start (PassedBy c.args.lines.now) c.args.flags.now

pub loop-line-preserved : goal.loop-line-preserved
loop-line-preserved c = passed_next c.args.lines.now c.loop-line.line-index c.args.flags.now c.loop-line.flags c.flag_arguments_of.new.flags c.loop-line-test.true c.loop-line.invariant c.flag_arguments_of.ensures

pub returns : goal.returns
returns c = passed_all c.args.lines.now c.loop-line.line-index c.args.flags.now c.loop-line.flags c.loop-line-test.false c.loop-line.invariant
