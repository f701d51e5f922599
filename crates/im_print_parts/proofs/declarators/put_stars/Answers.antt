use Rattle.std.proofs.Common.{◌∙◌}
use Rattle.im_print_parts.specs.Parts as parts
use Rattle.im_print_parts.proofs.Rows.{each_got}
use Rattle.im_print_parts.proofs.declarators.put_stars.Goals as goal

pub loop-star-preserved : goal.loop-star-preserved
loop-star-preserved c = each_got parts.star_words c.args.stars.now c.loop-star.star-index _ c.in_ok-put_star.ensures c.loop-star-test.true ∙ c.loop-star.invariant
