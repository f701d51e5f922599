use Rattle.std.proofs.Common.{◌≡◌, drop}
use Rattle.im_ctree.specs.Typedefs.{has_typedef}
use Rattle.im_ctree_parts.specs.Lists.{list_from}
use Rattle.im_ctree_parts.proofs.names.has_typedef.Given as goal

abbrev pub invariant-loop-specifier : goal.invariant-loop-specifier
invariant-loop-specifier l = has_typedef (list_from l.specifiers) ≡ has_typedef (list_from (drop l.specifier-index l.specifiers))
