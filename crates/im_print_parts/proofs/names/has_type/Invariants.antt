use Rattle.std.proofs.Common.{◌≡◌, drop, false}
use Rattle.im_ctree.specs.Typedefs.{has_type_from}
use Rattle.im_ctree_parts.specs.Lists.{list_from}
use Rattle.im_print_parts.proofs.names.has_type.Given as goal

abbrev pub invariant-loop-specifier : goal.invariant-loop-specifier
invariant-loop-specifier l = has_type_from false (list_from l.specifiers) ≡ has_type_from false (list_from (drop l.specifier-index l.specifiers))
