use Rattle.std.proofs.Common.{◌∙◌}
use Rattle.im_print_parts.specs.Output.{known}
use Rattle.im_print_parts.specs.Parts as parts
use Rattle.im_print_parts.proofs.Writing.{writes_append, writes_first, each_step}
use Rattle.im_print.proofs.declarations.put_next_declarators.Goals as goal

pub loop-one-preserved : goal.loop-one-preserved
loop-one-preserved c = each_step (parts.next_init_declarator (known c.args.names.now)) c.args.declarators.now c.loop-one.one-index c.one-item.result (writes_first c.in_ok-put_mark.ensures (writes_append c.in_ok-put_declarator.ensures c.in_ok-put_maybe_initializer.ensures)) c.loop-one-test.true c.one-item.is ∙ c.loop-one.invariant
