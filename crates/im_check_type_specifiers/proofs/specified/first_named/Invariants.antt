use Rattle.std.proofs.Common.{◌≡◌, drop}
use Rattle.im_check_scopes.specs.im_rules.Rules.{named_in}
use Rattle.im_ctree_parts.specs.Lists.{list_from}
use Rattle.im_check_type_specifiers.proofs.specified.first_named.Given as goal

abbrev pub invariant-loop-specifier : goal.invariant-loop-specifier
invariant-loop-specifier l = named_in (list_from l.specifiers) ≡ named_in (list_from (drop l.specifier-index l.specifiers))
