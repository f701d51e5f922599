use Rattle.std.proofs.Common.{◌≡◌, drop}
use Rattle.im_check_scopes.specs.im_rules.Declared.{has_const}
use Rattle.im_ctree_parts.specs.Lists.{list_from}
use Rattle.im_check_type_specifiers.proofs.words.has_const.Given as goal

abbrev pub invariant-loop-specifier : goal.invariant-loop-specifier
invariant-loop-specifier l = has_const (list_from l.specifiers) ≡ has_const (list_from (drop l.specifier-index l.specifiers))
