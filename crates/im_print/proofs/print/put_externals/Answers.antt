use Rattle.std.proofs.Common.{◌∙◌}
use Rattle.im_print_parts.specs.Output.{known}
use Rattle.im_print.proofs.Steps.{externals_step}
use Rattle.im_print.proofs.print.put_externals.Goals as goal

pub loop-external-preserved : goal.loop-external-preserved
loop-external-preserved c = externals_step (known c.loop-external.names.items) _ c.args.externals.now c.loop-external.external-index c.external-item.result c.in_ok-put_external.ensures.written c.in_ok-put_external.ensures.known c.loop-external-test.true c.external-item.is ∙ c.loop-external.invariant
