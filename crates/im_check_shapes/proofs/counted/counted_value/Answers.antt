use Rattle.im_ctree_parts.specs.Lists.{expression_in}
use Rattle.im_check_shapes.proofs.Texts.{counted_text, counted_none}
use Rattle.im_check_shapes.proofs.counted.counted_value.Goals as goal

pub returns-in-Some : goal.returns-in-Some
returns-in-Some c = λ a. rw (counted_text a (expression_in c.args.e.now) c.in-Some.s.now c.in-Some.ensures) c.with_zero.ensures
