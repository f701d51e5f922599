use Rattle.std.proofs.Common.{◌≤◌, length, arith}
use Rattle.std.specs.Prelude.{pos}
use Rattle.im_block.specs.declared.code.Line.{Line}
use Rattle.im_block.specs.declared.code.Line.TheVariants.{Put}
use Rattle.im_trial_middle.proofs.Rising.{lines_step, lines_end}
use Rattle.im_trial_middle.proofs.numbers.behind_lines.Goals as goal

abbrev blank : Line
blank = Put 0 (pos 0)

pub loop-line-preserved : goal.loop-line-preserved
loop-line-preserved c m rest =
    c.loop-line.invariant m (lines_step c.loop-line.next _ c.args.lines.now c.loop-line.line-index blank c.loop-line-test.true c.in_ok-next.ensures m rest)

pub returns : goal.returns
returns c =
    let all : length c.args.lines.now ≤ c.loop-line.line-index = omega arith in
    c.loop-line.invariant c.loop-line.next (lines_end c.loop-line.next c.loop-line.line-index c.args.lines.now all)
