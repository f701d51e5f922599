use Rattle.im_alloc_intervals.proofs.Stepping.{flags_start}
use Rattle.im_alloc_intervals.specs.Lines.{CrossedBy}
use Rattle.im_alloc_intervals.proofs.Lining.{across_next, across_all}
use Rattle.im_alloc_intervals.proofs.lines.flag_across.Goals as goal

pub loop-i-init : goal.loop-i-init
loop-i-init c = flags_start (CrossedBy c.args.base c.args.words.now c.args.lines.now) c.args.flags.now

pub loop-i-preserved : goal.loop-i-preserved
loop-i-preserved c = across_next c.args.base c.args.words.now c.args.lines.now c.loop-i.i c.args.flags.now c.loop-i.flags c.flag_behind.new.flags c.loop-i-test.true c.loop-i.invariant c.flag_behind.ensures

pub returns : goal.returns
returns c = across_all c.args.base c.args.words.now c.args.lines.now c.loop-i.i c.args.flags.now c.loop-i.flags c.loop-i-test.false c.loop-i.invariant
