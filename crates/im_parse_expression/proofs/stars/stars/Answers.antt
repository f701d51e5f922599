use Rattle.std.proofs.Common.{map, arith}
use Rattle.im_word.specs.Shown.{shown}
use Rattle.im_parse_expression.specs.Declaring.{stars_tree}
use Rattle.im_parse_expression.proofs.StarLines.{stars_start, stars_more, stars_done, stars_item}
use Rattle.im_parse_expression.proofs.stars.stars.Goals as goal

pub loop-behind-init : goal.loop-behind-init
loop-behind-init c = rw c.new-items.ensures.items (stars_start (map shown c.args.words.now) c.args.at)

pub loop-behind-preserved : goal.loop-behind-preserved
loop-behind-preserved c = rw (c.in_ok-push.ensures.items, stars_item) (stars_more (map shown c.args.words.now) (stars_tree c.loop-behind.items) c.in-Some.ensures c.consts-consts.ensures c.loop-behind.invariant)

pub loop-behind-smaller : goal.loop-behind-smaller
loop-behind-smaller c = omega (arith, c.in-Some.ensures, c.consts-consts.ensures.place)

pub returns : goal.returns
returns c = stars_done (map shown c.args.words.now) (stars_tree c.loop-behind.items) c.in_default.ensures c.loop-behind.invariant
