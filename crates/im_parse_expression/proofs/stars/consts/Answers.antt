use Rattle.std.proofs.Common.{map, arith}
use Rattle.im_word.specs.Shown.{shown}
use Rattle.im_parse_expression.proofs.StarLines.{consts_start, consts_more, consts_done}
use Rattle.im_parse_expression.proofs.stars.consts.Goals as goal

pub loop-behind-init : goal.loop-behind-init
loop-behind-init c = (consts_start (map shown c.args.words.now) c.args.at, omega arith)

pub loop-behind-preserved : goal.loop-behind-preserved
loop-behind-preserved c = (consts_more (map shown c.args.words.now) c.loop-behind.count c.in-Some.ensures c.loop-behind.invariant.0, omega (arith, c.in-Some.ensures.next, c.loop-behind.invariant.1))

pub loop-behind-smaller : goal.loop-behind-smaller
loop-behind-smaller c = omega (arith, c.in-Some.ensures)

pub returns : goal.returns
returns c = consts_done (map shown c.args.words.now) c.loop-behind.count c.in_default.ensures c.loop-behind.invariant.0
