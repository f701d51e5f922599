use Rattle.std.proofs.Common.{◌-◌, ◌++◌, ap, ◌∙◌}
use Rattle.im_print_relation.specs.Printed.{consts}
use Rattle.im_print_parts.specs.Output.{spaced}
use Rattle.im_print_parts.proofs.Writing.{written}
use Rattle.im_print_parts.proofs.Rows.{consts_more}
use Rattle.im_print_parts.proofs.declarators.put_star.Goals as goal

pub loop-left-preserved : goal.loop-left-preserved
loop-left-preserved c = written (consts (c.loop-left.left - 1)) c.in_ok-put_keyword.ensures ∙ ap (λ u. c.loop-left.out.items ++ spaced u) (consts_more c.loop-left.left c.loop-left-test.true) ∙ c.loop-left.invariant
