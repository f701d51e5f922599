use Rattle.std.proofs.Common.{◌≡◌, ◌++◌, drop}
use Rattle.im_ctree.specs.Shape.{externals_of}
use Rattle.im_ctree.specs.Units.{predeclared_names}
use Rattle.im_print_relation.specs.Printed as printed
use Rattle.im_print_parts.specs.Output.{spaced, known}
use Rattle.im_print.proofs.print.put_externals.Given as goal

abbrev pub invariant-loop-external : goal.invariant-loop-external
invariant-loop-external l =
    l.out.items ++ spaced (printed.externals (known l.names.items) (externals_of (drop l.external-index l.externals))) ≡ spaced (printed.externals predeclared_names (externals_of l.externals))
